-- What a record's doings do not account for keeps its view.
use Rattle.std.proofs.Common.{◌≡◌, ◌∙◌, ◌==◌, ◌&&◌, eqb, ℕ, pos, Bool, true, false, cond, List, [], ◌∷◌, Option, None, Some, option_map, refl, sym, ap, if◌then◌else◌}
use Rattle.std.specs.Prelude.{All}
use Rattle.std.proofs.lemmas.Bool.{both_ways, eqb-true, false_from_ne_true}
use Rattle.std.proofs.lemmas.List.Elements.{All-head, All-tail, All-weaker}
use Rattle.kq_model.specs.declared.doing.Doing.{Doing}
use Rattle.kq_model.specs.declared.doing.Doing.TheVariants.{ToSocket, ToPipe, ToDescription, ToFile}
use Rattle.kq_model.specs.declared.doing.FileRecord.{FileRecord}
use Rattle.kq_model.specs.declared.doing.FileRecord.TheVariants as file
use Rattle.kq_model.specs.declared.object.Target.{Target}
use Rattle.kq_model.specs.declared.object.Target.TheVariants.{Socket, Pipe, Open, File, Process, Signal, Own}
use Rattle.kq_model.specs.declared.object.View.TheVariants as view
use Rattle.kq_model.specs.Files.{DescriptionState, FileState, file_after}
use Rattle.kq_model.specs.ListedFiles.{AreListed}
use Rattle.kq_model.specs.Objects.{Objects, counted, done, all_done, size_of, description_view, view_of, told_of}
use Rattle.kq_model.specs.Touching.{is_on, touches}
use Rattle.kq_model.proofs.KnoteLaws.{by_test}
use Rattle.kq_model.proofs.ListedObjects.{touches-listed}
use Rattle.kq_projection.specs.Accounts.{Accounts, resizes}

-- ---- what one doing can alter

-- the description that is looked at
looked_at : Target → Objects counted → Option DescriptionState
looked_at (Open p) o = o.description p
looked_at _ o = None

alters : Target → Doing → Option DescriptionState → Bool
alters (Socket p) (ToSocket q r) x = q == p
alters (Pipe p) (ToPipe q r) x = q == p
alters (Open p) (ToDescription q r) x = q == p
alters (Open p) (ToFile n r) x = resizes r && is_on n x
alters (File n) (ToFile m r) x = m == n
alters _ _ x = false

away : {X : Type 0} (here : Bool) (x y : X) → here ≡ false → (if here then x else y) ≡ y
away here x y not_here = ap (λ t. if t then x else y) not_here

same_size : (r : FileRecord) (f : Option FileState) → resizes r ≡ false → size_of (Some (told_of counted.files r f)) ≡ size_of f
unfolding resizes file_after
same_size (file.Made size) f keeps = absurd (cc)
same_size (file.Sized size) f keeps = absurd (cc)
same_size (file.Reached end) f keeps = absurd (cc)
same_size (file.Opened place) None keeps = refl
same_size (file.Opened place) (Some s) keeps = refl
same_size (file.Left place) None keeps = refl
same_size (file.Left place) (Some s) keeps = refl
same_size file.Deleted None keeps = refl
same_size file.Deleted (Some s) keeps = refl

-- the view of a description, where a file's record does not change what is read of it
other_file : (number : ℕ) (r : FileRecord) (o : Objects counted) (x : Option DescriptionState) → (resizes r && is_on number x) ≡ false
    → option_map (description_view (done (ToFile number r) o)) x ≡ option_map (description_view o) x
unfolding is_on done description_view
other_file number r o None spared = refl
other_file number r o (Some s) spared =
    ap (λ n. Some (view.Open (pos n) (pos s.offset)))
    (by_test (λ b. resizes r ≡ b → size_of (cond (eqb number s.file) (Some (told_of counted.files r (o.file s.file))) (o.file s.file)) ≡ size_of (o.file s.file)) (resizes r)
    (λ _ is. ap size_of (away (eqb number s.file) _ (o.file s.file) (sym (ap (λ b. b && eqb number s.file) is) ∙ spared)))
    (λ _ isnt. by_test (λ b. size_of (cond b (Some (told_of counted.files r (o.file s.file))) (o.file s.file)) ≡ size_of (o.file s.file)) (eqb number s.file)
    (λ _. same_size r (o.file s.file) isnt) (λ _. refl)) refl)

spared_one : (t : Target) (d : Doing) (o : Objects counted) → alters t d (looked_at t o) ≡ false → view_of t (done d o) ≡ view_of t o
unfolding done view_of alters description_view looked_at
spared_one (Socket p) (ToSocket q r) o spared = ap (option_map _) (away (q == p) _ (o.socket p) spared)
spared_one (Socket p) (ToPipe q r) o spared = refl
spared_one (Socket p) (ToDescription q r) o spared = refl
spared_one (Socket p) (ToFile n r) o spared = refl
spared_one (Pipe p) (ToPipe q r) o spared = ap (option_map _) (away (q == p) _ (o.pipe p) spared)
spared_one (Pipe p) (ToSocket q r) o spared = refl
spared_one (Pipe p) (ToDescription q r) o spared = refl
spared_one (Pipe p) (ToFile n r) o spared = refl
spared_one (Open p) (ToDescription q r) o spared = ap (option_map (description_view o)) (away (q == p) _ (o.description p) spared)
spared_one (Open p) (ToFile n r) o spared = other_file n r o (o.description p) spared
spared_one (Open p) (ToSocket q r) o spared = refl
spared_one (Open p) (ToPipe q r) o spared = refl
spared_one (File n) (ToFile m r) o spared = ap (option_map _) (away (m == n) _ (o.file n) spared)
spared_one (File n) (ToSocket q r) o spared = refl
spared_one (File n) (ToPipe q r) o spared = refl
spared_one (File n) (ToDescription q r) o spared = refl
spared_one (Process pid) d o spared = refl
spared_one (Signal pid signal) d o spared = refl
spared_one Own d o spared = refl

-- ---- one doing after the other

looked_after : (t : Target) (d : Doing) (o : Objects counted) → alters t d (looked_at t o) ≡ false → looked_at t (done d o) ≡ looked_at t o
unfolding done looked_at alters
looked_after (Open p) (ToDescription q r) o spared = away (q == p) _ (o.description p) spared
looked_after (Open p) (ToSocket q r) o spared = refl
looked_after (Open p) (ToPipe q r) o spared = refl
looked_after (Open p) (ToFile n r) o spared = refl
looked_after (Socket p) d o spared = refl
looked_after (Pipe p) d o spared = refl
looked_after (File n) d o spared = refl
looked_after (Process pid) d o spared = refl
looked_after (Signal pid signal) d o spared = refl
looked_after Own d o spared = refl

abbrev IsSpared : Target → Objects counted → Doing → Type 0
IsSpared t o d = alters t d (looked_at t o) ≡ false

spared_all : (t : Target) (ds : List Doing) (o : Objects counted) → All (IsSpared t o) ds → view_of t (all_done ds o) ≡ view_of t o
unfolding all_done
spared_all t [] o spared = refl
spared_all t (d ∷ ds) o spared =
    let first = All-head (IsSpared t o) d ds spared in
    spared_all t ds (done d o)
    (All-weaker (IsSpared t o) (IsSpared t (done d o)) (λ e is. ap (alters t e) (looked_after t d o first) ∙ is) ds (All-tail (IsSpared t o) d ds spared))
    ∙ spared_one t d o first

-- ---- what is accounted for

module _ (has : Target → Bool) (o : Objects counted) (listed : AreListed o) where
  other : (of : ℕ → Target) (q p : ℕ) → has (of q) ≡ true → has (of p) ≡ false → (q == p) ≡ false
  other of q p there absent =
      false_from_ne_true (q == p) (λ same. both_ways (has (of p)) absent (ap (λ n. has (of n)) (sym (eqb-true q p same)) ∙ there))

  spared_file : (n p : ℕ) (r : FileRecord) → Accounts has o (ToFile n r) → has (Open p) ≡ false → (resizes r && is_on n (o.description p)) ≡ false
  unfolding touches
  spared_file n p r accounts absent =
      by_test (λ b. resizes r ≡ b → (b && is_on n (o.description p)) ≡ false) (resizes r)
      (λ _ is. false_from_ne_true (is_on n (o.description p))
      (λ on. both_ways (has (Open p)) absent (accounts.1 is p (touches-listed o p n r listed on))))
      (λ _ _. refl) refl

  spared : (t : Target) (d : Doing) → has t ≡ false → Accounts has o d → IsSpared t o d
  unfolding alters looked_at
  spared (Socket p) (ToSocket q r) absent accounts = other Socket q p accounts absent
  spared (Socket p) (ToPipe q r) absent accounts = refl
  spared (Socket p) (ToDescription q r) absent accounts = refl
  spared (Socket p) (ToFile n r) absent accounts = refl
  spared (Pipe p) (ToPipe q r) absent accounts = other Pipe q p accounts absent
  spared (Pipe p) (ToSocket q r) absent accounts = refl
  spared (Pipe p) (ToDescription q r) absent accounts = refl
  spared (Pipe p) (ToFile n r) absent accounts = refl
  spared (Open p) (ToDescription q r) absent accounts = other Open q p accounts absent
  spared (Open p) (ToFile n r) absent accounts = spared_file n p r accounts absent
  spared (Open p) (ToSocket q r) absent accounts = refl
  spared (Open p) (ToPipe q r) absent accounts = refl
  spared (File n) (ToFile m r) absent accounts = other File m n accounts.0 absent
  spared (File n) (ToSocket q r) absent accounts = refl
  spared (File n) (ToPipe q r) absent accounts = refl
  spared (File n) (ToDescription q r) absent accounts = refl
  spared (Process pid) d absent accounts = refl
  spared (Signal pid signal) d absent accounts = refl
  spared Own d absent accounts = refl

  pub unaltered : (t : Target) (ds : List Doing) → has t ≡ false → All (Accounts has o) ds → view_of t (all_done ds o) ≡ view_of t o
  unaltered t ds absent accounts =
      spared_all t ds o (All-weaker (Accounts has o) (IsSpared t o) (λ d is. spared t d absent is) ds accounts)
