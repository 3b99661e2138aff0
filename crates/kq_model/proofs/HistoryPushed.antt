-- What one more record at the end adds to the trace's plans, moments, kqueues and plain rows, and to its history.
use Rattle.std.proofs.Common.{◌≡◌, ℕ, ◌+◌, cond, ltb, length, List, [], ◌∷◌, ◌++◌, refl, sym, ap, ◌∙◌, arith}
use Rattle.std.proofs.lemmas.Bool.{cond-true, lt-ltb, ltb-true}
use Rattle.std.proofs.lemmas.List.{append_assoc, append-nil}
use Rattle.kq_model.specs.declared.event.Event.{Event}
use Rattle.kq_model.specs.Births.{birth_by, births_from}
use Rattle.kq_model.specs.Moment.{Moment}
use Rattle.kq_model.specs.Moments.{world_by, plans_from, moment_by, moments_from, world_at, world_after}
use Rattle.kq_model.specs.Objects.{Keeping}
use Rattle.kq_model.specs.OwnedRows.{plain_by, plain_from}
use Rattle.kq_model.specs.Plans.{plan}
use Rattle.kq_model.specs.References.{references_in, references}
use Rattle.kq_model.specs.World.{World, Planned, seen_world}
use Rattle.kq_model.proofs.KnoteLaws.{by_test}

module _ {A B C D : Type 0} {k : Keeping A B C D} where
  pub plans-push : (place end : ℕ) (w : World k) (es : List Event) (e : Event) → place + length es ≡ end
      → plans_from place w (es ++ e ∷ []) ≡ plans_from place w es ++ plan end e (seen_world (world_after place w (plans_from place w es))) ∷ []
  unfolding plans_from world_after
  plans-push place end w [] e reached = ap (λ p. plan p e (seen_world w) ∷ []) (omega (arith, reached))
  plans-push place end w (x ∷ es) e reached =
      let q = plan place x (seen_world w) in
      ap (λ rest. q ∷ rest) (plans-push (place + 1) end (world_by place q w) es e (omega (arith, reached)))

  pub moments-push : (version place end : ℕ) (w : World k) (qs : List Planned) (q : Planned) → place + length qs ≡ end
      → moments_from version place w (qs ++ q ∷ []) ≡ moments_from version place w qs ++ moment_by version end q (world_after place w qs)
  unfolding moments_from world_after
  moments-push version place end w [] q reached =
      append-nil (moment_by version place q w) ∙ ap (λ p. moment_by version p q w) (omega (arith, reached))
  moments-push version place end w (x ∷ qs) q reached =
      let next = world_by place x w in
      ap (λ rest. moment_by version place x w ++ rest) (moments-push version (place + 1) end next qs q (omega (arith, reached)))
      ∙ sym (append_assoc (moment_by version place x w) (moments_from version (place + 1) next qs) (moment_by version end q (world_after (place + 1) next qs)))

  -- before the new place the history stays, and from there on it is the world after the new record
  pub world_at-push : (last place end : ℕ) (w : World k) (qs : List Planned) (q : Planned) → place + length qs ≡ end
      → world_at last place w (qs ++ q ∷ []) ≡ cond (ltb last end) (world_at last place w qs) (world_by end q (world_after place w qs))
  unfolding world_at world_after
  world_at-push last place end w [] q reached = ap (λ p. cond (ltb last p) w (world_by p q w)) (omega (arith, reached))
  world_at-push last place end w (x ∷ qs) q reached =
      let next = world_by place x w in
      let rest = world_at-push last (place + 1) end next qs q (omega (arith, reached)) in
      let later = world_by end q (world_after (place + 1) next qs) in
      by_test (λ b. cond b w (world_at last (place + 1) next (qs ++ q ∷ [])) ≡ cond (ltb last end) (cond b w (world_at last (place + 1) next qs)) later) (ltb last place)
      (λ before. sym (cond-true (ltb last end) w later (lt-ltb last end (omega (arith, ltb-true last place before, reached)))))
      (λ _. rest)

pub births-push : (place end : ℕ) (qs : List Planned) (q : Planned) → place + length qs ≡ end
    → births_from place (qs ++ q ∷ []) ≡ births_from place qs ++ birth_by end q
unfolding births_from
births-push place end [] q reached = append-nil (birth_by place q) ∙ ap (λ p. birth_by p q) (omega (arith, reached))
births-push place end (x ∷ qs) q reached =
    ap (λ rest. birth_by place x ++ rest) (births-push (place + 1) end qs q (omega (arith, reached)))
    ∙ sym (append_assoc (birth_by place x) (births_from (place + 1) qs) (birth_by end q))

pub plain-push : (place end : ℕ) (qs : List Planned) (q : Planned) → place + length qs ≡ end
    → plain_from place (qs ++ q ∷ []) ≡ plain_from place qs ++ plain_by end q
unfolding plain_from
plain-push place end [] q reached = append-nil (plain_by place q) ∙ ap (λ p. plain_by p q) (omega (arith, reached))
plain-push place end (x ∷ qs) q reached =
    ap (λ rest. plain_by place x ++ rest) (plain-push (place + 1) end qs q (omega (arith, reached)))
    ∙ sym (append_assoc (plain_by place x) (plain_from (place + 1) qs) (plain_by end q))

-- what a kqueue's changes name, of all moments of two lists
pub references-append : (kqueue owner : ℕ) (ms ns : List Moment) → references kqueue owner (ms ++ ns) ≡ references kqueue owner ms ++ references kqueue owner ns
unfolding references
references-append kqueue owner [] ns = refl
references-append kqueue owner (m ∷ ms) ns =
    ap (λ rest. references_in kqueue owner m.views m.call ++ rest) (references-append kqueue owner ms ns)
    ∙ sym (append_assoc (references_in kqueue owner m.views m.call) (references kqueue owner ms) (references kqueue owner ns))
