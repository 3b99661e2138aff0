-- A descriptor that is opened and closed again leaves the table as it was, and other numbers stay what they are.
use Rattle.std.proofs.Common.{◌≡◌, ℕ, ◌==◌, ◌&&◌, true, false, List, [], ◌∷◌, Some, None, refl, sym, ap, ◌∙◌}
use Rattle.kq_model.specs.declared.object.Named.{Named}
use Rattle.kq_model.specs.Descriptors.{Descriptor, is_before, named_among, with_descriptor, without_closed}
use Rattle.kq_process.specs.Processes.{descriptor_in}
use Rattle.kq_process.proofs.Places.{same, same-true}
use Rattle.kq_process.proofs.Puts.{Yes, No, test}
use Rattle.kq_process.proofs.Closing.{one}

module _ (pid n : ℕ) where
  -- a number that is not there
  closed-away : (t : List Descriptor) → named_among pid n t ≡ None → without_closed (one pid n) t ≡ t
  unfolding named_among
  closed-away [] absent = refl
  closed-away (e ∷ t) absent = elim (test ((e.pid == pid) && (e.number == n))) [
    | Yes h ↦ let found : Some e.named ≡ None = rw h at absent in absurd (cc)
    | No h ↦
        let rest : without_closed (one pid n) t ≡ t = closed-away t (rw h at absent) in
        elim (test (pid == e.pid)) [
          | No p ↦ rw p (ap (λ u. e ∷ u) rest)
          | Yes p ↦ elim (test (n == e.number)) [
            | No k ↦ rw (p, k) (ap (λ u. e ∷ u) rest)
            | Yes k ↦
                let here : ((e.pid == pid) && (e.number == n)) ≡ true =
                rw (same-true e.pid pid (sym (same pid e.pid p)), same-true e.number n (sym (same n e.number k))) refl in
                absurd (cc)
          ]
        ]
  ]

  again : (v : Named) (t : List Descriptor) → without_closed (one pid n) (with_descriptor (descriptor_in pid (n, v)) t) ≡ without_closed (one pid n) t
  unfolding with_descriptor
  again v [] = rw (same-true pid pid refl, same-true n n refl) refl
  again v (e ∷ t) = elim (test (is_before (descriptor_in pid (n, v)) e)) [
    | Yes h ↦ rw (h, same-true pid pid refl, same-true n n refl) refl
    | No h ↦ elim (test (pid == e.pid)) [
      | No p ↦ rw (h, p) (ap (λ u. e ∷ u) (again v t))
      | Yes p ↦ elim (test (n == e.number)) [
        | No k ↦ rw (h, p, k) (ap (λ u. e ∷ u) (again v t))
        | Yes k ↦ rw (h, p, k) (again v t)
      ]
    ]
  ]

  pub undone : (v : Named) (t : List Descriptor) → named_among pid n t ≡ None
      → without_closed (one pid n) (with_descriptor (descriptor_in pid (n, v)) t) ≡ t
  undone v t absent = again v t ∙ closed-away t absent

  pub named-with : (v : Named) (m : ℕ) (t : List Descriptor) → (n == m) ≡ false
      → named_among pid m (with_descriptor (descriptor_in pid (n, v)) t) ≡ named_among pid m t
  unfolding named_among with_descriptor
  named-with v m [] other = rw (same-true pid pid refl, other) refl
  named-with v m (e ∷ t) other = elim (test (is_before (descriptor_in pid (n, v)) e)) [
    | Yes h ↦ rw (h, same-true pid pid refl, other) refl
    | No h ↦ rw h (elim (test ((e.pid == pid) && (e.number == m))) [
      | Yes k ↦ rw k refl
      | No k ↦ rw k (named-with v m t other)
    ])
  ]
