use Rattle.std.proofs.Common.{◌≡◌, ℕ, ◌≤◌, Bool, cond, List, Some, le_refl, refl, sym, ap, ◌∙◌, subst}
use Rattle.std.proofs.lemmas.Bool.{cond_both}
use Rattle.kq_alarm.specs.Armed.{Armed, HasAlarm}
use Rattle.kq_model.specs.declared.key.Key.{Key}
use Rattle.kq_model.specs.Clock.{expires_at}
use Rattle.kq_model.specs.Knote.{find_knote, with_knote}
use Rattle.kq_model.specs.Tallied.{Knote}
use Rattle.kq_model.specs.Ticks.{last_moment}
use Rattle.kq_model.specs.NextTicks.{next_tick}
use Rattle.kq_model.proofs.KnoteLaws.{HaveOwnKeys-with, find_knote-key}
use Rattle.kq_knote.specs.Expiring.{next_of, IsAlarmed}
use Rattle.kq_knote.specs.Index.{IsKept}
use Rattle.kq_knote.specs.Reserved.{Reserved}
use Rattle.kq_knote.proofs.AlarmLaws.{all-found, alarmed-modified}
use Rattle.kq_knote.proofs.QuietLaws.{quiet-modified}
use Rattle.kq_knote.proofs.RowLaws.{find_row-knotes, with_row-knotes}
use Rattle.kq_knote.proofs.knotes.Knotes.modify_there.Goals as goal

-- a knote that expires when the one of its key does has its alarms
kept-with : (ks : List Knote) (since soonest : ℕ) (alarmed : Bool) (alarms : Armed) (before knote : Knote) → IsKept ks since soonest alarmed alarms
    → find_knote knote.key ks ≡ Some before → expires_at knote ≡ expires_at before → IsKept (with_knote knote ks) since soonest alarmed alarms
kept-with ks since soonest alarmed alarms before knote kept found alike =
    let one : knote.key ≡ before.key = find_knote-key knote.key ks before found in
    let next : next_of since before ≡ next_of since knote = ap (λ (e : ℕ → Bool). next_tick e since) (sym alike) in
    record {
      own_keys = HaveOwnKeys-with knote ks kept.own_keys;
      begun = kept.begun;
      quiet = quiet-modified since soonest soonest ks (with_knote knote ks) knote kept.quiet (le_refl soonest)
          (subst (λ n. soonest ≤ n) next (all-found (λ k. soonest ≤ next_of since k) knote.key before ks kept.quiet found)) refl;
      armed = λ whole. alarmed-modified since alarms.entries alarms.entries ks (with_knote knote ks) knote (next_of since knote) (kept.armed whole) (λ e here. here) refl
          (subst (λ (key : Key). next_of since knote ≤ last_moment → HasAlarm alarms.entries (next_of since knote) key.ident) (sym one)
          (subst (λ n. n ≤ last_moment → HasAlarm alarms.entries n before.key.ident) next
          (all-found (λ k. IsAlarmed alarms.entries (next_of since k) k) knote.key before ks (kept.armed whole) found))) refl;
    }

pub invariant_of-self : goal.invariant_of-self
invariant_of-self c =
    let ks = c.self.inside.rows.rows in
    let knote = c.args.knote.now in
    let before = c.in-Some.before.now in
    let done = c.modify_there.result in
    let found : find_knote knote.key ks ≡ Some before =
    ap (λ (k : Knote). find_knote k.key ks) (sym c.knote.view_is)
    ∙ sym (find_row-knotes c.knote.inside.key ks) ∙ c.in-Some.ensures before refl in
    let alike : expires_at knote ≡ expires_at before = c.rings_with.ensures c.if-not-rings_with.false (find_knote-key knote.key ks before found) in
    let rows : c.modify_there.new.self.rows ≡ cond done (with_knote knote ks) ks =
    c.modify_there.ensures.rows ∙ ap (λ (some : List Knote). cond done some ks) (with_row-knotes knote ks) in
    subst (λ (some : List Knote). IsKept some c.self.inside.since c.self.inside.soonest c.self.inside.alarmed c.self.inside.alarms) (sym rows)
    (cond_both done (with_knote knote ks) ks (λ (some : List Knote). IsKept some c.self.inside.since c.self.inside.soonest c.self.inside.alarmed c.self.inside.alarms)
    (λ _. kept-with ks c.self.inside.since c.self.inside.soonest c.self.inside.alarmed c.self.inside.alarms before knote c.self.invariant found alike) (λ _. c.self.invariant))

pub returns-clause-knotes : goal.returns-clause-knotes
returns-clause-knotes c =
    let done = c.modify_there.result in
    let ks = c.self.inside.rows.rows in
    c.modify_there.ensures.rows ∙ ap (λ (some : List Knote). cond done some ks) (with_row-knotes c.args.knote.now ks)
    ∙ ap (λ (v : Reserved). cond done (with_knote c.args.knote.now v.knotes) v.knotes) c.self.view_is
