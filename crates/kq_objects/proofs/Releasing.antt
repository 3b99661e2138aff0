-- The end of a description, step by step.
use Rattle.std.proofs.Common.{◌≡◌, ◌∙◌, ℕ, true, List, [], Option, None, Some, option_map, refl, sym, ap, if◌then◌else◌}
use Rattle.std.proofs.Math.Path.{fun_ext}
use Rattle.kq_model.specs.declared.doing.DescriptionRecord.TheVariants as description
use Rattle.kq_model.specs.declared.doing.Doing.{Doing}
use Rattle.kq_model.specs.declared.doing.Doing.TheVariants.{ToDescription}
use Rattle.kq_model.specs.declared.object.Named.TheVariants as named
use Rattle.kq_model.specs.Files.{DescriptionState, FileState}
use Rattle.kq_model.specs.Holding.{is_last, leaving, left, release, release_doings}
use Rattle.kq_model.specs.Objects.{Objects, counted, quantities, done, all_done}

same : {X : Type 0} (x : Option X) → option_map (λ (s : X). s) x ≡ x
same None = refl
same (Some s) = refl

-- objects that are counted are their own quantities
pub quantities-counted : (o : Objects counted) → quantities o ≡ o
quantities-counted o =
    ap (λ f. record (quantities o) { socket = f }) (fun_ext (λ p. same (o.socket p)))
    ∙ ap (λ f. record o { pipe = f; description = λ p. option_map (λ (s : DescriptionState). s) (o.description p); file = λ p. option_map (λ (s : FileState). s) (o.file p) }) (fun_ext (λ p. same (o.pipe p)))
    ∙ ap (λ f. record o { description = f; file = λ p. option_map (λ (s : FileState). s) (o.file p) }) (fun_ext (λ p. same (o.description p)))
    ∙ ap (λ f. record o { file = f }) (fun_ext (λ p. same (o.file p)))

-- the description is released, and then its file told where it was the last
pub release-open : (o : Objects counted) (place number : ℕ)
    → release (named.Open place number) o ≡ all_done (left place (o.description place) o) (done (ToDescription place description.Released) o)
unfolding release release_doings all_done
release-open o place number =
    ap (λ q. all_done (left place (q.description place) q) (done (ToDescription place description.Released) o)) (quantities-counted o)

left_last : (place : ℕ) (s : DescriptionState) (o : Objects counted) → is_last s.holders ≡ true → leaving place s.file (o.file s.file) ≡ left place (Some s) o
unfolding left
left_last place s o last = sym (ap (λ b. if b then leaving place s.file (o.file s.file) else []) last)

-- the last descriptor goes: the description is told, and then its file
pub release-last : (o : Objects counted) (place n number : ℕ) (s : DescriptionState) (middle final : Objects counted)
    → Some s ≡ o.description place → is_last s.holders ≡ true → n ≡ s.file
    → middle ≡ done (ToDescription place description.Released) o → final ≡ all_done (leaving place n (middle.file n)) middle
    → final ≡ release (named.Open place number) o
unfolding done
release-last o place n number s middle final there last its noted told =
    told
    ∙ ap (λ (m : Objects counted). all_done (leaving place n (m.file n)) m) noted
    ∙ ap (λ (k : ℕ). all_done (leaving place k (o.file k)) (done (ToDescription place description.Released) o)) its
    ∙ ap (λ (ds : List Doing). all_done ds (done (ToDescription place description.Released) o)) (left_last place s o last)
    ∙ ap (λ (x : Option DescriptionState). all_done (left place x o) (done (ToDescription place description.Released) o)) there
    ∙ sym (release-open o place number)
