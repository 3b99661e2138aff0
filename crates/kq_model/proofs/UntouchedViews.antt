-- What is not touched keeps its view.
use Rattle.std.proofs.Common.{◌≡◌, ◌∙◌, ◌==◌, ◌||◌, ℕ, pos, Bool, true, false, List, [], ◌∷◌, Option, None, Some, option_map, refl, ap, ap₂, if◌then◌else◌}
use Rattle.kq_model.specs.declared.doing.Doing.{Doing}
use Rattle.kq_model.specs.declared.doing.Doing.TheVariants.{ToSocket, ToPipe, ToDescription, ToFile}
use Rattle.kq_model.specs.declared.doing.FileRecord.{FileRecord}
use Rattle.kq_model.specs.declared.object.Target.{Target}
use Rattle.kq_model.specs.declared.object.Target.TheVariants.{Socket, Pipe, Open, File, Process, Signal, Own}
use Rattle.kq_model.specs.declared.object.View.TheVariants as view
use Rattle.kq_model.specs.Files.{DescriptionState, FileState}
use Rattle.kq_model.specs.Objects.{Objects, counted, done, all_done, size_of, description_view, view_of}
use Rattle.kq_model.specs.Touching.{is_on, touches, touched_by}

away : {X : Type 0} (here : Bool) (x y : X) → here ≡ false → (if here then x else y) ≡ y
away here x y not_here = ap (λ t. if t then x else y) not_here

-- the view of a description whose file is another one
other_file : (number : ℕ) (r : FileRecord) (o : Objects counted) (x : Option DescriptionState) → is_on number x ≡ false
    → option_map (description_view (done (ToFile number r) o)) x ≡ option_map (description_view o) x
unfolding is_on done description_view
other_file number r o None other = refl
other_file number r o (Some s) other = ap (λ (f : Option FileState). Some (view.Open (pos (size_of f)) (pos s.offset))) (away (number == s.file) _ (o.file s.file) other)

untouched_one : (t : Target) (d : Doing) (o : Objects counted) → touches t d o ≡ false → view_of t (done d o) ≡ view_of t o
unfolding touches done view_of description_view
untouched_one (Socket p) (ToSocket q r) o not_here = ap (option_map _) (away (q == p) _ (o.socket p) not_here)
untouched_one (Socket p) (ToPipe q r) o not_here = refl
untouched_one (Socket p) (ToDescription q r) o not_here = refl
untouched_one (Socket p) (ToFile n r) o not_here = refl
untouched_one (Pipe p) (ToPipe q r) o not_here = ap (option_map _) (away (q == p) _ (o.pipe p) not_here)
untouched_one (Pipe p) (ToSocket q r) o not_here = refl
untouched_one (Pipe p) (ToDescription q r) o not_here = refl
untouched_one (Pipe p) (ToFile n r) o not_here = refl
untouched_one (Open p) (ToDescription q r) o not_here = ap (option_map (description_view o)) (away (q == p) _ (o.description p) not_here)
untouched_one (Open p) (ToFile n r) o not_here = other_file n r o (o.description p) not_here
untouched_one (Open p) (ToSocket q r) o not_here = refl
untouched_one (Open p) (ToPipe q r) o not_here = refl
untouched_one (File n) (ToFile m r) o not_here = ap (option_map _) (away (m == n) _ (o.file n) not_here)
untouched_one (File n) (ToSocket q r) o not_here = refl
untouched_one (File n) (ToPipe q r) o not_here = refl
untouched_one (File n) (ToDescription q r) o not_here = refl
untouched_one (Process pid) d o not_here = refl
untouched_one (Signal pid signal) d o not_here = refl
untouched_one Own d o not_here = refl

-- whether something later touches the target does not depend on what does not touch it
same_description : (p : ℕ) (d : Doing) (o : Objects counted) → touches (Open p) d o ≡ false → (done d o).description p ≡ o.description p
unfolding touches done
same_description p (ToDescription q r) o not_here = away (q == p) _ (o.description p) not_here
same_description p (ToSocket q r) o not_here = refl
same_description p (ToPipe q r) o not_here = refl
same_description p (ToFile n r) o not_here = refl

-- only a description's own file is read off the objects
touches_after : (t : Target) (e d : Doing) (o : Objects counted) → touches t d o ≡ false → touches t e (done d o) ≡ touches t e o
unfolding touches
touches_after (Open p) (ToFile n r) d o not_here = ap (is_on n) (same_description p d o not_here)
touches_after (Open p) (ToSocket q r) d o not_here = refl
touches_after (Open p) (ToPipe q r) d o not_here = refl
touches_after (Open p) (ToDescription q r) d o not_here = refl
touches_after (Socket p) (ToSocket q r) d o not_here = refl
touches_after (Socket p) (ToPipe q r) d o not_here = refl
touches_after (Socket p) (ToDescription q r) d o not_here = refl
touches_after (Socket p) (ToFile n r) d o not_here = refl
touches_after (Pipe p) (ToSocket q r) d o not_here = refl
touches_after (Pipe p) (ToPipe q r) d o not_here = refl
touches_after (Pipe p) (ToDescription q r) d o not_here = refl
touches_after (Pipe p) (ToFile n r) d o not_here = refl
touches_after (File m) (ToSocket q r) d o not_here = refl
touches_after (File m) (ToPipe q r) d o not_here = refl
touches_after (File m) (ToDescription q r) d o not_here = refl
touches_after (File m) (ToFile n r) d o not_here = refl
touches_after (Process pid) e d o not_here = refl
touches_after (Signal pid signal) e d o not_here = refl
touches_after Own e d o not_here = refl

touched_after : (t : Target) (ds : List Doing) (d : Doing) (o : Objects counted) → touches t d o ≡ false → touched_by t ds (done d o) ≡ touched_by t ds o
unfolding touched_by
touched_after t [] d o not_here = refl
touched_after t (e ∷ ds) d o not_here = ap₂ (λ a b. a || b) (touches_after t e d o not_here) (touched_after t ds d o not_here)

neither : (a b : Bool) → (a || b) ≡ false → (a ≡ false) × (b ≡ false)
neither true b none = absurd (cc)
neither false b none = (refl, none)

-- what nothing touches keeps its view
pub untouched-all : (t : Target) (ds : List Doing) (o : Objects counted) → touched_by t ds o ≡ false → view_of t (all_done ds o) ≡ view_of t o
unfolding touched_by all_done
untouched-all t [] o none = refl
untouched-all t (d ∷ ds) o none =
    let both = neither (touches t d o) (touched_by t ds o) none in
    untouched-all t ds (done d o) (touched_after t ds d o both.0 ∙ both.1) ∙ untouched_one t d o both.0
