-- Releasing one descriptor, and many one after the other, as one list of what is noted.
use Rattle.std.proofs.Common.{◌≡◌, ◌∙◌, ℕ, List, [], ◌∷◌, ◌++◌, Option, None, Some, option_map, refl, sym, ap}
use Rattle.std.proofs.Math.Path.{fun_ext}
use Rattle.kq_model.specs.declared.doing.Doing.{Doing}
use Rattle.kq_model.specs.declared.object.Named.{Named}
use Rattle.kq_model.specs.Holding.{release, release_all, release_doings}
use Rattle.kq_model.specs.Holders.{all_released}
use Rattle.kq_model.specs.Objects.{Keeping, Objects, counted, quantities, all_done}

same : {X : Type 0} (x : Option X) → option_map (λ (s : X). s) x ≡ x
same None = refl
same (Some s) = refl

abbrev itself : {X : Type 0} → (ℕ → Option X) → ℕ → Option X
itself f p = option_map (λ s. s) (f p)

-- objects that are counted are their own quantities
pub quantities-counted : (o : Objects counted) → quantities o ≡ o
quantities-counted o =
    ap (λ f. record (quantities o) { socket = f }) (fun_ext (λ p. same (o.socket p)))
    ∙ ap (λ f. record o { pipe = f; description = itself o.description; file = itself o.file }) (fun_ext (λ p. same (o.pipe p)))
    ∙ ap (λ f. record o { description = f; file = itself o.file }) (fun_ext (λ p. same (o.description p)))
    ∙ ap (λ f. record o { file = f }) (fun_ext (λ p. same (o.file p)))

pub release-counted : (n : Named) (o : Objects counted) → release n o ≡ all_done (release_doings n o) o
unfolding release
release-counted n o = ap (λ (q : Objects counted). all_done (release_doings n q) o) (quantities-counted o)

pub all_done-append : {A B C D : Type 0} {k : Keeping A B C D} (ds es : List Doing) (o : Objects k)
    → all_done (ds ++ es) o ≡ all_done es (all_done ds o)
unfolding all_done
all_done-append [] es o = refl
all_done-append (d ∷ ds) es o = all_done-append ds es _

-- each is released after the one before it
pub release_all-done : (ns : List Named) (o : Objects counted) → all_done (release_all ns o) o ≡ all_released ns o
unfolding release_all all_released all_done
release_all-done [] o = refl
release_all-done (n ∷ ns) o =
    all_done-append (release_doings n o) (release_all ns (release n o)) o
    ∙ ap (all_done (release_all ns (release n o))) (sym (release-counted n o))
    ∙ release_all-done ns (release n o)
