use Rattle.std.proofs.Common.{◌≡◌, ◌∙◌, ◌++◌, ◌∷◌, ℕ, [], false, map, nat_eq, None, Some, refl, sym, ap, subst}
use Rattle.std.proofs.lemmas.List.{map-append}
use Rattle.std.specs.Map.{keys_of, lookup}
use Rattle.std.specs.HashMap.{spare}
use Rattle.indexmap.proofs.CallerLemmas.{insert_entry-new}
use Rattle.kq_model.specs.Kqueue.{empty_kqueue}
use Rattle.kq_model.specs.System.{born}
use Rattle.kq_model.specs.Tallied.{Kqueue, Live}
use Rattle.kq_system.specs.Showing.{AreFound, LiveKqueues}
use Rattle.kq_system.specs.SystemState.{AreOfVersion, AreUpTo, NumberedKqueue, live_of}
use Rattle.kq_system.proofs.CallLemmas.{same_live, up_to_push, version_push}
use Rattle.kq_system.proofs.FoundLemmas.{found_born, not_ok}
use Rattle.kq_system.proofs.ShowLemmas.{Entries}
use Rattle.kq_system.proofs.all_live.bear.Goals as goal

pub returns-clause-born : goal.returns-clause-born
unfolding born
returns-clause-born c =
    let es = c.live.inside.live.entries in
    let v : NumberedKqueue = record { number = c.args.number; kq = c.in_version-kq.result; shown = 0; ended = false } in
    let grown : c.insert.new.self.entries ≡ es ++ (c.args.place, v) ∷ [] =
    c.in-Ok.ensures.entries ∙ insert_entry-new nat_eq c.live.inside.live c.args.place v
    (ap (λ (l : LiveKqueues). lookup (nat_eq c.args.place) l.entries) c.live.view_is ∙ c.requires.absent) in
    let one : live_of (c.args.place, v) ≡ record {
      place = c.args.place;
      owner = c.args.pid;
      number = c.args.number;
      kq = empty_kqueue;
    } =
    same_live c.args.place c.in_version-kq.result.owner c.args.pid c.args.number c.args.number c.in_version-kq.result.kq
    empty_kqueue c.in_version-kq.ensures.owner refl c.in_version-kq.ensures.kq in
    ap (map live_of) grown ∙ map-append live_of es ((c.args.place, v) ∷ [])
    ∙ ap (λ (l : Live). map live_of es ++ l ∷ []) one
    ∙ ap (λ (l : LiveKqueues). map live_of l.entries ++ born c.args.place (Some (record { pid = c.args.pid; number = c.args.number })))
    c.live.view_is

pub returns-clause-version : goal.returns-clause-version
returns-clause-version c = λ all.
    let es = c.live.inside.live.entries in
    let v : NumberedKqueue = record { number = c.args.number; kq = c.in_version-kq.result; shown = 0; ended = false } in
    let grown : c.insert.new.self.entries ≡ es ++ (c.args.place, v) ∷ [] =
    c.in-Ok.ensures.entries ∙ insert_entry-new nat_eq c.live.inside.live c.args.place v
    (ap (λ (l : LiveKqueues). lookup (nat_eq c.args.place) l.entries) c.live.view_is ∙ c.requires.absent) in
    subst (AreOfVersion c.args.version) (sym grown) (version_push c.args.version es (c.args.place, v)
    (subst (λ (l : LiveKqueues). AreOfVersion c.args.version l.entries) (sym c.live.view_is) all) c.in_version-kq.ensures.version)

pub returns-clause-up_to : goal.returns-clause-up_to
returns-clause-up_to c = λ most le all.
    let es = c.live.inside.live.entries in
    let v : NumberedKqueue = record { number = c.args.number; kq = c.in_version-kq.result; shown = 0; ended = false } in
    let grown : c.insert.new.self.entries ≡ es ++ (c.args.place, v) ∷ [] =
    c.in-Ok.ensures.entries ∙ insert_entry-new nat_eq c.live.inside.live c.args.place v
    (ap (λ (l : LiveKqueues). lookup (nat_eq c.args.place) l.entries) c.live.view_is ∙ c.requires.absent) in
    subst (AreUpTo most) (sym (ap keys_of grown
    ∙ map-append (λ (n : ℕ × NumberedKqueue). n.0) es ((c.args.place, v) ∷ [])))
    (up_to_push most c.args.place (keys_of es) le
    (subst (λ (l : LiveKqueues). AreUpTo most (keys_of l.entries)) (sym c.live.view_is) all))

-- there is room for it
pub unreachable-requires : goal.unreachable-requires
unreachable-requires c =
    let ready = ap (λ (l : LiveKqueues). l.ready) c.live.view_is ∙ c.requires.ready in
    let room = (c.live.invariant.room (c.args.place, c.args.pid) ready).0 in
    not_ok c.insert.result _ c.in-Err.is (c.insert.ensures.succeeds room)

pub invariant_of-live : goal.invariant_of-live
invariant_of-live c =
    let old = c.live.inside in
    let es = old.live.entries in
    let v : NumberedKqueue = record { number = c.args.number; kq = c.in_version-kq.result; shown = 0; ended = false } in
    let grown : c.insert.new.self.entries ≡ es ++ (c.args.place, v) ∷ [] =
    c.in-Ok.ensures.entries ∙ insert_entry-new nat_eq old.live c.args.place v
    (ap (λ (l : LiveKqueues). lookup (nat_eq c.args.place) l.entries) c.live.view_is ∙ c.requires.absent) in
    let ready : old.ready ≡ Some (c.args.place, c.in_version-kq.result.owner) =
    ap (λ (l : LiveKqueues). l.ready) c.live.view_is ∙ c.requires.ready
    ∙ ap (λ pid. Some (c.args.place, pid)) (sym c.in_version-kq.ensures.owner) in
    subst (λ (es : Entries). AreFound es (spare c.insert.new.self) None old.owned.table old.watching.table old.round)
    (sym grown)
    (found_born old.watching.table old.round es (spare old.live) old.ready old.owned.table (spare c.insert.new.self)
    c.args.place v c.live.invariant ready (ap (λ (k : Kqueue). k.knotes) c.in_version-kq.ensures.kq) refl refl)
