use Rattle.std.proofs.Common.{◌≡◌, ◌≤◌, true, None, Some, refl, sym, ap, ◌∙◌, subst}
use Rattle.kq_model.specs.Knote.{find_knote, with_knote}
use Rattle.kq_model.specs.Kqueue.{HaveOwnKeys}
use Rattle.kq_model.specs.Tallied.{Knote}
use Rattle.kq_model.proofs.KnoteLaws.{HaveOwnKeys-with, find_knote-key, with_knote-absent}
use Rattle.kq_knote.specs.Reserved.{Reserved}
use Rattle.kq_knote.specs.Expiring.{next_of, AreAlarmed, IsAlarmed}
use Rattle.kq_knote.proofs.AlarmLaws.{all-found, alarmed-modified}
use Rattle.kq_knote.proofs.QuietLaws.{quiet-modified}
use Rattle.kq_knote.proofs.RowLaws.{find_row-knotes, with_row-knotes}
use Rattle.kq_knote.proofs.knotes.Knotes.modify_anew.Goals as goal

pub invariant_of-self : goal.invariant_of-self
invariant_of-self c =
    let ks = c.self.inside.rows.rows in
    let since = c.self.inside.since in
    let knote = c.args.knote in
    let before = c.in-Some.before.now in
    let put = c.put_changed-self-inside in
    let found : find_knote knote.key ks ≡ Some before =
    ap (λ (k : Knote). find_knote k.key ks) (sym c.knote.view_is)
    ∙ sym (find_row-knotes c.knote.inside.key ks) ∙ sym c.in-Some.ensures in
    let rows : c.modify_at.new.self.rows ≡ with_knote knote ks = c.modify_at.ensures.rows ∙ with_row-knotes knote ks in
    let held : put.result ≡ true → IsAlarmed c.self.inside.alarms.entries (next_of since before) before =
    λ whole. all-found (λ k. IsAlarmed c.self.inside.alarms.entries (next_of since k) k) knote.key before ks
    (c.self.invariant.armed (put.ensures.whole whole)) found in
    let armed_modified : put.result ≡ true → AreAlarmed since put.new.alarms.entries c.modify_at.new.self.rows =
    λ whole. alarmed-modified since put.new.alarms.entries c.self.inside.alarms.entries ks c.modify_at.new.self.rows knote (next_of since knote)
    (c.self.invariant.armed (put.ensures.whole whole)) put.ensures.kept refl (put.ensures.here whole (held whole)) rows in
    let quiet : c.self.inside.soonest ≤ next_of since before =
    all-found (λ k. c.self.inside.soonest ≤ next_of since k) knote.key before ks c.self.invariant.quiet found in
    record {
      own_keys = subst HaveOwnKeys (sym rows) (HaveOwnKeys-with knote ks c.self.invariant.own_keys);
      begun = c.self.invariant.begun;
      quiet = quiet-modified since c.self.inside.soonest put.new.soonest ks c.modify_at.new.self.rows knote
          c.self.invariant.quiet put.ensures.sooner (put.ensures.quiet quiet) rows;
      armed = armed_modified;
    }

pub put_changed-self-inside-requires-clause-begun : goal.put_changed-self-inside-requires-clause-begun
put_changed-self-inside-requires-clause-begun c = c.self.invariant.begun

pub put_changed-self-inside-requires-clause-one_key : goal.put_changed-self-inside-requires-clause-one_key
put_changed-self-inside-requires-clause-one_key c =
    let ks = c.self.inside.rows.rows in
    sym (find_knote-key c.args.knote.key ks c.in-Some.before.now
    (ap (λ (k : Knote). find_knote k.key ks) (sym c.knote.view_is) ∙ sym (find_row-knotes c.knote.inside.key ks) ∙ sym c.in-Some.ensures))

pub returns-clause-knotes : goal.returns-clause-knotes
returns-clause-knotes c =
    c.modify_at.ensures.rows ∙ with_row-knotes c.args.knote c.self.inside.rows.rows
    ∙ ap (λ (v : Reserved). with_knote c.args.knote v.knotes) c.self.view_is

pub returns-in_default-clause-knotes : goal.returns-in_default-clause-knotes
returns-in_default-clause-knotes c =
    let absent : find_knote c.args.knote.key c.args.self.now.knotes ≡ None =
    ap (λ (v : Reserved). find_knote c.args.knote.key v.knotes) (sym c.self.view_is)
    ∙ ap (λ (k : Knote). find_knote k.key c.self.inside.rows.rows) (sym c.knote.view_is)
    ∙ sym (find_row-knotes c.knote.inside.key c.self.inside.rows.rows) ∙ sym c.in_default.ensures in
    sym (with_knote-absent c.args.knote c.args.self.now.knotes absent)
