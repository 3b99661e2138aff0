use Rattle.std.proofs.Common.{◌≡◌, ◌++◌, ◌∷◌, [], ℕ, List, Option, Some, false, true, refl, ap, ◌∙◌, subst, arith}
use Rattle.slab.specs.Slab.{get}
use Rattle.kq_table.specs.declared.node.Links.{Links}
use Rattle.kq_table.specs.declared.node.Thread.TheVariants.{Order, Watch}
use Rattle.kq_table.specs.Kept.{IsEntered}
use Rattle.kq_table.specs.Threads.{is_in, after_of, rows_in, links_in}
use Rattle.kq_table.proofs.AnewLaws.{IsEntering, passed-none, passed-all, passed-out, entering-step}
use Rattle.kq_table.proofs.EnterLaws.{IsEntered-none}
use Rattle.kq_table.proofs.NodeLaws.{SameBut-refl, SameBut-trans, linked-row}
use Rattle.kq_table.proofs.RoomLaws.{found-empty}
use Rattle.kq_table.proofs.enter.enter_all.Goals as goal

pub loop-step-init : goal.loop-step-init
loop-step-init g c =
    let same = g.T.Key.PartialEq.eq in
    let alike = g.T.Target.PartialEq.eq in
    let key_of = g.T.Keyed.key_of in
    let target_of = g.T.Keyed.target_of in
    let nodes = c.args.nodes.now in
    record {
      entering = λ slots linked distinct first apart.
          passed-none (λ done. IsEntered same alike key_of target_of (rows_in nodes) (links_in Watch nodes) c.clear.new.self c.clear-2.new.self done) c.args.first slots first
          (IsEntered-none same alike key_of target_of g.met.T.Key.Eq.laws g.met.T.Target.Eq.laws (rows_in nodes) (links_in Watch nodes) c.clear.new.self c.clear-2.new.self (λ t. found-empty alike c.clear-2.new.self c.clear-2.ensures.empty t));
      same = SameBut-refl Watch nodes;
      keys_room = omega arith;
      keys_spare = omega arith;
      targets_room = omega arith;
      targets_spare = omega arith;
    }

pub enter-requires-clause-keys : goal.enter-requires-clause-keys
enter-requires-clause-keys g c =
    let spare = c.loop-step.invariant.keys_spare in
    let room = c.clear.ensures.capacity in
    let keys = c.requires.keys in
    omega arith

pub enter-requires-clause-targets : goal.enter-requires-clause-targets
enter-requires-clause-targets g c =
    let spare = c.loop-step.invariant.targets_spare in
    let room = c.clear-2.ensures.capacity in
    let targets = c.requires.targets in
    omega arith

pub loop-step-preserved : goal.loop-step-preserved
loop-step-preserved g c =
    let same = g.T.Key.PartialEq.eq in
    let alike = g.T.Target.PartialEq.eq in
    let key_of = g.T.Keyed.key_of in
    let target_of = g.T.Keyed.target_of in
    let old = c.args.nodes.now in
    let now = c.loop-step.nodes in
    let new = c.enter.new.nodes in
    let is = c.loop-step.invariant in
    let but = c.enter.ensures.same in
    record {
      entering = entering-step same alike key_of target_of (links_in Order old) (rows_in old) c.args.first (links_in Watch now) (links_in Watch new) c.loop-step.index c.loop-step.targets c.enter.new.index c.enter.new.targets
          c.in-Some.slot c.slot_behind-next.result c.loop-step._step (λ s l at. linked-row Order (get old s) l at)
          (subst (λ (f : ℕ → Option g.row.T.Denot). (slots : List ℕ) (row : g.row.T.Denot) → f c.in-Some.slot ≡ Some row → is_in c.in-Some.slot slots ≡ false
          → ((other : ℕ) (r : g.row.T.Denot) → is_in other slots ≡ true → f other ≡ Some r → same (key_of row) (key_of r) ≡ false)
          → IsEntered same alike key_of target_of f (links_in Watch now) c.loop-step.index c.loop-step.targets slots
          → IsEntered same alike key_of target_of f (links_in Watch new) c.enter.new.index c.enter.new.targets (slots ++ c.in-Some.slot ∷ [])) is.same.rows c.enter.ensures.entered)
          (c.slot_behind-next.ensures ∙ ap (λ (f : ℕ → Option Links). after_of (f c.in-Some.slot)) (but.links Order refl ∙ is.same.links Order refl))
          (subst (λ (o : Option ℕ). IsEntering same alike key_of target_of (links_in Order old) (rows_in old) c.args.first (links_in Watch now) c.loop-step.index c.loop-step.targets o c.loop-step._step) c.in-Some.is is.entering);
      same = SameBut-trans Watch old now new is.same but;
      keys_room = let room = is.keys_room in let more = c.enter.ensures.keys_room in omega arith;
      keys_spare = let room = is.keys_spare in let more = c.enter.ensures.keys_spare in omega arith;
      targets_room = let room = is.targets_room in let more = c.enter.ensures.targets_room in omega arith;
      targets_spare = let room = is.targets_spare in let more = c.enter.ensures.targets_spare in omega arith;
    }

pub returns-in_default-clause-entered : goal.returns-in_default-clause-entered
returns-in_default-clause-entered g c = λ slots linked distinct first counted apart.
    let same = g.T.Key.PartialEq.eq in
    let alike = g.T.Target.PartialEq.eq in
    let key_of = g.T.Keyed.key_of in
    let target_of = g.T.Keyed.target_of in
    let old = c.args.nodes.now in
    let now = c.loop-step.nodes in
    passed-out (λ done. IsEntered same alike key_of target_of (rows_in old) (links_in Watch now) c.loop-step.index c.loop-step.targets done) c.loop-step._step slots
    (subst (λ (o : Option ℕ). IsEntering same alike key_of target_of (links_in Order old) (rows_in old) c.args.first (links_in Watch now) c.loop-step.index c.loop-step.targets o c.loop-step._step) c.in_default.is c.loop-step.invariant.entering
    slots linked distinct first apart)

pub returns-clause-entered : goal.returns-clause-entered
returns-clause-entered g c = λ slots linked distinct first counted apart.
    let same = g.T.Key.PartialEq.eq in
    let alike = g.T.Target.PartialEq.eq in
    let key_of = g.T.Keyed.key_of in
    let target_of = g.T.Keyed.target_of in
    let old = c.args.nodes.now in
    let now = c.loop-step.nodes in
    passed-all (λ done. IsEntered same alike key_of target_of (rows_in old) (links_in Watch now) c.loop-step.index c.loop-step.targets done) c.loop-step.next c.loop-step._step slots
    (c.loop-step.invariant.entering slots linked distinct first apart) (omega arith)
