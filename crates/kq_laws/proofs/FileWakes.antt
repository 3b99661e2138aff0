-- What is noted of files and open descriptions makes no condition hold but those that its hints tell.
use Rattle.std.proofs.Common.{◌≡◌, ℕ, ℤ, ◌==◌, pos, Bool, true, false, cond, ◌&&◌, ◌||◌, eq-eqb, eqb-true, List, [], ◌∷◌, ◌++◌, Option, Some, None, option_map, refl, sym, ap, subst, ◌∙◌}
use Rattle.std.proofs.lemmas.Bool.{true≢false, or_left, cond_both}
use Rattle.std.proofs.lemmas.List.Folds.{list_any-append}
use Rattle.std.specs.List.{list_any}
use Rattle.kq_model.specs.declared.doing.DescriptionRecord.{DescriptionRecord}
use Rattle.kq_model.specs.declared.doing.DescriptionRecord.TheVariants as description
use Rattle.kq_model.specs.declared.doing.Doing.{Doing}
use Rattle.kq_model.specs.declared.doing.Doing.TheVariants.{ToDescription, ToFile}
use Rattle.kq_model.specs.declared.doing.FileRecord.{FileRecord}
use Rattle.kq_model.specs.declared.doing.FileRecord.TheVariants as file
use Rattle.kq_model.specs.declared.object.Target.{Target}
use Rattle.kq_model.specs.declared.object.Target.TheVariants.{Socket, Pipe, Open, File, Process, Signal, Own}
use Rattle.kq_model.specs.declared.object.View.TheVariants as view
use Rattle.kq_model.specs.declared.side.Side.{Side}
use Rattle.kq_model.specs.declared.side.Side.TheVariants.{Read, Write}
use Rattle.kq_model.specs.FilePlans.{readable_each}
use Rattle.kq_model.specs.Files.{DescriptionState, FileState, description_after, file_after, grown, moved, is_description_held}
use Rattle.kq_model.specs.Hints.{takes}
use Rattle.kq_model.specs.Holding.{is_last, leaving, left}
use Rattle.kq_model.specs.Look.{read_seen, write_seen}
use Rattle.kq_model.specs.Objects.{Objects, counted, done, all_done, kept, told_of, size_of, description_view, view_of}
use Rattle.kq_model.specs.Targets.{Posted, target_eq}
use Rattle.kq_model.specs.Touching.{touches, touched_by}
use Rattle.kq_model.proofs.HeldObjects.{eq-swapped}
use Rattle.kq_model.proofs.KnoteLaws.{by_test}
use Rattle.kq_laws.proofs.ObjectWakes.{Tells, by-touch, touched-one}
use Rattle.kq_laws.proofs.Shown.{is_for, is_told, shown, shown-none, open_shown, open-shown, kept-shown}

-- ---- what never is shown

file-shown : (side : Side) (mark : ℤ → ℤ) (x : Option FileState) → shown side mark (option_map (λ s. view.File) x) ≡ false
unfolding read_seen write_seen
file-shown Read mark None = refl
file-shown Read mark (Some s) = refl
file-shown Write mark None = refl
file-shown Write mark (Some s) = refl

never-written : (mark : ℤ → ℤ) (o : Objects counted) (x : Option DescriptionState) → shown Write mark (option_map (description_view o) x) ≡ false
unfolding write_seen description_view
never-written mark o None = refl
never-written mark o (Some s) = refl

-- ---- a record of a file that leaves its size

size-told : (n m : ℕ) (r : FileRecord) (o : Objects counted) → ((old : ℕ) → grown r old ≡ old)
    → size_of ((done (ToFile n r) o).file m) ≡ size_of (o.file m)
unfolding done file_after
size-told n m r o same =
    by_test (λ b. size_of (cond b (Some (told_of counted.files r (o.file m))) (o.file m)) ≡ size_of (o.file m)) (n == m)
    (λ _. told (o.file m)) (λ _. refl)
  where
    told : (x : Option FileState) → (told_of counted.files r x).size ≡ size_of x
    told None = same 0
    told (Some f) = same f.size

pub same-size : (n : ℕ) (r : FileRecord) (o : Objects counted) → ((old : ℕ) → grown r old ≡ old) → (t : Target) (side : Side) (mark : ℤ → ℤ)
    → shown side mark (view_of t (done (ToFile n r) o)) ≡ shown side mark (view_of t o)
unfolding done view_of description_view
same-size n r o same (Open p) side mark = of-description (o.description p)
  where
    of-description : (x : Option DescriptionState)
        → shown side mark (option_map (description_view (done (ToFile n r) o)) x) ≡ shown side mark (option_map (description_view o) x)
    of-description None = refl
    of-description (Some s) = ap (λ size. shown side mark (Some (view.Open (pos size) (pos s.offset)))) (size-told n s.file r o same)
same-size n r o same (File m) side mark = file-shown side mark _ ∙ sym (file-shown side mark (o.file m))
same-size n r o same (Socket p) side mark = refl
same-size n r o same (Pipe p) side mark = refl
same-size n r o same (Process pid) side mark = refl
same-size n r o same (Signal pid signal) side mark = refl
same-size n r o same Own side mark = refl

-- ---- a record of a description

description-view : (o : Objects counted) (p : ℕ) (r : DescriptionRecord) (x : Option DescriptionState) → o.description p ≡ x
    → view_of (Open p) (done (ToDescription p r) o)
    ≡ option_map (description_view o) (kept counted.descriptions is_description_held (told_of counted.descriptions r x))
unfolding view_of done description_view
description-view o p r x is =
    ap (λ b. option_map (description_view o) (cond b (kept counted.descriptions is_description_held (told_of counted.descriptions r (o.description p))) (o.description p)))
    (eq-eqb p p refl)
    ∙ ap (λ y. option_map (description_view o) (kept counted.descriptions is_description_held (told_of counted.descriptions r y))) is

pub description-target : (t : Target) (p : ℕ) (r : DescriptionRecord) (o : Objects counted) → touches t (ToDescription p r) o ≡ true → t ≡ Open p
unfolding touches
description-target (Open q) p r o e = ap Open (sym (eqb-true p q e))
description-target (Pipe q) p r o e = absurd (true≢false (sym e))
description-target (Socket q) p r o e = absurd (true≢false (sym e))
description-target (File n) p r o e = absurd (true≢false (sym e))
description-target (Process pid) p r o e = absurd (true≢false (sym e))
description-target (Signal pid signal) p r o e = absurd (true≢false (sym e))
description-target Own p r o e = absurd (true≢false (sym e))

-- what the record moves is the offset; it tells of it, or nothing comes to be shown by it
abbrev pub TellsMove : Objects counted → ℕ → DescriptionState → DescriptionRecord → List Posted → Type 0
TellsMove o p s r posted =
    (side : Side) → is_told side (Open p) posted ≡ false → open_shown side (size_of (o.file s.file)) (moved r s.offset) ≡ true
    → open_shown side (size_of (o.file s.file)) s.offset ≡ true

module _ (o : Objects counted) (p : ℕ) (r : DescriptionRecord) (posted : List Posted) where
  module _ (s : DescriptionState) (there : o.description p ≡ Some s) (same : (description_after r s).file ≡ s.file) (tells : TellsMove o p s r posted) where
    description-own : Tells o (ToDescription p r ∷ []) posted (Open p)
    unfolding all_done view_of description_view description_after
    description-own side mark quiet e =
        let size = size_of (o.file s.file) in
        ap (λ x. shown side mark (option_map (description_view o) x)) there
        ∙ open-shown side mark size s.offset
        ∙ tells side quiet
        (sym (open-shown side mark size (moved r s.offset))
        ∙ ap (λ n. shown side mark (Some (view.Open (pos (size_of (o.file n))) (pos (moved r s.offset))))) (sym same)
        ∙ kept-shown (description_view o) (is_description_held (description_after r s)) (description_after r s) side mark
        (ap (shown side mark) (sym (description-view o p r (Some s) there)) ∙ e))

    pub description-tells : (t : Target) → Tells o (ToDescription p r ∷ []) posted t
    description-tells t =
        by-touch o (ToDescription p r ∷ []) posted t
        (λ touched. subst (Tells o (ToDescription p r ∷ []) posted)
        (sym (description-target t p r o (touched-one t (ToDescription p r) o touched))) description-own)

-- ---- the end of a description

gone : kept counted.descriptions is_description_held (told_of counted.descriptions description.Released None) ≡ None
unfolding description_after
gone = refl

module _ (o : Objects counted) (p : ℕ) (posted : List Posted) where
  description-gone : o.description p ≡ None → Tells o (ToDescription p description.Released ∷ []) posted (Open p)
  unfolding all_done
  description-gone none side mark quiet e =
      absurd (true≢false (sym e ∙ ap (shown side mark) (description-view o p description.Released None none)
      ∙ ap (λ x. shown side mark (option_map (description_view o) x)) gone ∙ shown-none side mark))

  released-tells : (x : Option DescriptionState) → o.description p ≡ x → (t : Target) → Tells o (ToDescription p description.Released ∷ []) posted t
  unfolding description_after
  released-tells None none t =
      by-touch o (ToDescription p description.Released ∷ []) posted t
      (λ touched. subst (Tells o (ToDescription p description.Released ∷ []) posted)
      (sym (description-target t p description.Released o (touched-one t (ToDescription p description.Released) o touched))) (description-gone none))
  released-tells (Some s) there t = description-tells o p description.Released posted s there refl (λ side _ e. e) t

  leaving-shown : (n : ℕ) (f : Option FileState) (after : Objects counted) (t : Target) (side : Side) (mark : ℤ → ℤ)
      → shown side mark (view_of t (all_done (leaving p n f) after)) ≡ shown side mark (view_of t after)
  unfolding leaving all_done
  leaving-shown n None after t side mark = refl
  leaving-shown n (Some f) after t side mark = same-size n (file.Left p) after (λ old. refl) t side mark

  left-shown : (x : Option DescriptionState) (after : Objects counted) (t : Target) (side : Side) (mark : ℤ → ℤ)
      → shown side mark (view_of t (all_done (left p x o) after)) ≡ shown side mark (view_of t after)
  unfolding left all_done
  left-shown None after t side mark = refl
  left-shown (Some s) after t side mark =
      cond_both (is_last s.holders) (leaving p s.file (o.file s.file)) [] (λ ds. shown side mark (view_of t (all_done ds after)) ≡ shown side mark (view_of t after))
      (λ _. leaving-shown s.file (o.file s.file) after t side mark) (λ _. refl)

  pub closed-tells : (t : Target) → Tells o (ToDescription p description.Released ∷ left p (o.description p) o) posted t
  unfolding all_done
  closed-tells t side mark quiet e =
      released-tells (o.description p) refl t side mark quiet
      (sym (left-shown (o.description p) (done (ToDescription p description.Released) o) t side mark) ∙ e)

-- ---- a file whose size goes up or down

abbrev pub is_of_file : Target → Bool
is_of_file (Open p) = true
is_of_file (File n) = true
is_of_file _ = false

-- its descriptions hear of it
module _ (o : Objects counted) (ds : List Doing) (posted : List Posted) (told : (p : ℕ) → touched_by (Open p) ds o ≡ true → is_told Read (Open p) posted ≡ true)
    (others : (t : Target) → is_of_file t ≡ false → touched_by t ds o ≡ false) where
  wide : (t : Target) → touched_by t ds o ≡ true → Tells o ds posted t
  unfolding view_of
  wide (Open p) touched Read mark quiet e = absurd (true≢false (sym (told p touched) ∙ quiet))
  wide (Open p) touched Write mark quiet e = absurd (true≢false (sym e ∙ never-written mark (all_done ds o) ((all_done ds o).description p)))
  wide (File n) touched side mark quiet e = absurd (true≢false (sym e ∙ file-shown side mark ((all_done ds o).file n)))
  wide (Socket p) touched side mark quiet e = absurd (true≢false (sym touched ∙ others (Socket p) refl))
  wide (Pipe p) touched side mark quiet e = absurd (true≢false (sym touched ∙ others (Pipe p) refl))
  wide (Process pid) touched side mark quiet e = absurd (true≢false (sym touched ∙ others (Process pid) refl))
  wide (Signal pid signal) touched side mark quiet e = absurd (true≢false (sym touched ∙ others (Signal pid signal) refl))
  wide Own touched side mark quiet e = absurd (true≢false (sym touched ∙ others Own refl))

  pub file-tells : (t : Target) → Tells o ds posted t
  file-tells t = by-touch o ds posted t (wide t)

-- each on the list is told
each-told : (p : ℕ) (ps : List ℕ) → list_any (λ q. q == p) ps ≡ true → is_told Read (Open p) (readable_each ps) ≡ true
unfolding target_eq takes
each-told p [] e = e
each-told p (q ∷ ps) e =
    ap (λ b. (b && true) || is_told Read (Open p) (readable_each ps)) (eq-swapped p q)
    ∙ by_test (λ b. (b || list_any (λ x. x == p) ps) ≡ true → ((b && true) || is_told Read (Open p) (readable_each ps)) ≡ true) (q == p)
    (λ _ _. refl) (λ _ later. each-told p ps later) e

pub listed-told : (p : ℕ) (ps : List ℕ) (rest : List Posted) → list_any (λ q. q == p) ps ≡ true → is_told Read (Open p) (readable_each ps ++ rest) ≡ true
listed-told p ps rest e =
    list_any-append (is_for Read (Open p)) (readable_each ps) rest
    ∙ or_left (is_told Read (Open p) (readable_each ps)) (is_told Read (Open p) rest) (each-told p ps e)
