-- One descriptor less alters no view but of what ends with it: a socket, an end of a pipe, which is told, and a
-- description, whose file is told.
use Rattle.std.proofs.Common.{◌≡◌, ◌∙◌, ◌==◌, ◌||◌, ℕ, ℤ, pos, int_lt, ◌-ℤ◌, Bool, true, false, eqb-true, List, [], ◌∷◌, ◌++◌, Option, None, Some, option_map, refl, sym, ap, subst, arith, if◌then◌else◌}
use Rattle.std.proofs.lemmas.Bool.{both_ways, true≢false}
use Rattle.std.proofs.lemmas.Int.{ints}
use Rattle.std.proofs.lemmas.List.Elements.{All-nil, All-cons, All-head, All-tail}
use Rattle.std.proofs.lemmas.Option.{none-some}
use Rattle.std.specs.Prelude.{All}
use Rattle.kq_model.specs.declared.doing.DescriptionRecord.TheVariants as description
use Rattle.kq_model.specs.declared.doing.Doing.TheVariants.{ToDescription, ToFile}
use Rattle.kq_model.specs.declared.doing.FileRecord.TheVariants as file
use Rattle.kq_model.specs.declared.doing.PipeRecord.TheVariants as pipe
use Rattle.kq_model.specs.declared.doing.SocketRecord.TheVariants as socket
use Rattle.kq_model.specs.declared.object.Hint.{Hint}
use Rattle.kq_model.specs.declared.object.Hint.TheVariants as hint
use Rattle.kq_model.specs.declared.object.Named.{Named}
use Rattle.kq_model.specs.declared.object.Named.TheVariants.{Socket, PipeRead, PipeWrite, Open, Kqueue}
use Rattle.kq_model.specs.declared.object.Target.{Target}
use Rattle.kq_model.specs.declared.object.Target.TheVariants as target
use Rattle.kq_model.specs.declared.object.View.TheVariants as view
use Rattle.kq_model.specs.declared.side.Side.TheVariants as side
use Rattle.kq_model.specs.Files.{DescriptionState, FileState, description_after, file_after, is_description_held, may_write}
use Rattle.kq_model.specs.Holding.{close_hint, end_hint, is_last, leaving, left, option_list, readers, release, release_all, release_doings, release_hint, release_hints, writers}
use Rattle.kq_model.specs.Holders.{all_released}
use Rattle.kq_model.specs.NoteBits.{note_close, note_close_write}
use Rattle.kq_model.specs.Objects.{Objects, counted, all_done, description_view, done, kept, size_of, told_of, view_of}
use Rattle.kq_model.specs.Pipes.{PipeState, is_pipe_held, pipe_after, pipe_view}
use Rattle.kq_model.specs.Sockets.{is_socket_held, socket_view}
use Rattle.kq_model.specs.Targets.{Posted}
use Rattle.kq_model.proofs.KnoteLaws.{by_test}
use Rattle.kq_model.proofs.ReleasedAll.{release-counted, release_all-done}
use Rattle.kq_projection.specs.Touched.{is_file, targets_left, tells_file, told_targets}

-- ---- one object

-- it is not the last that goes
stays_open : (h : ℤ) → is_last h ≡ false → int_lt (pos 0) h ≡ true
stays_open h more = grind (arith, ints)

stays_still : (h : ℤ) → is_last h ≡ false → int_lt (pos 0) (h -ℤ pos 1) ≡ true
stays_still h more = grind (arith, ints)

or_true : (b : Bool) → (b || true) ≡ true
or_true true = refl
or_true false = refl

reader-left : (x : Option PipeState) → is_last (readers x) ≡ false
    → option_map pipe_view (kept counted.pipes is_pipe_held (told_of counted.pipes (pipe.Released side.Read) x)) ≡ option_map pipe_view x
unfolding pipe_after pipe_view
reader-left None more = absurd (true≢false more)
reader-left (Some s) more =
    let still = stays_still s.readers more in
    ap (λ b. option_map pipe_view (if b || int_lt (pos 0) s.writers then Some (pipe_after (pipe.Released side.Read) s) else None)) still
    ∙ ap (λ b. Some (view.Pipe s.bytes (pos s.cap) (int_lt (pos 0) s.writers) b)) (still ∙ sym (stays_open s.readers more))

writer-left : (x : Option PipeState) → is_last (writers x) ≡ false
    → option_map pipe_view (kept counted.pipes is_pipe_held (told_of counted.pipes (pipe.Released side.Write) x)) ≡ option_map pipe_view x
unfolding pipe_after pipe_view
writer-left None more = absurd (true≢false more)
writer-left (Some s) more =
    let still = stays_still s.writers more in
    ap (λ b. option_map pipe_view (if int_lt (pos 0) s.readers || b then Some (pipe_after (pipe.Released side.Write) s) else None)) still
    ∙ ap (λ b. option_map pipe_view (if b then Some (pipe_after (pipe.Released side.Write) s) else None)) (or_true (int_lt (pos 0) s.readers))
    ∙ ap (λ b. Some (view.Pipe s.bytes (pos s.cap) b (int_lt (pos 0) s.readers))) (still ∙ sym (stays_open s.writers more))

description-left : (o : Objects counted) (x : Option DescriptionState) → ((s : DescriptionState) → x ≡ Some s → is_last s.holders ≡ false)
    → option_map (description_view o) (kept counted.descriptions is_description_held (told_of counted.descriptions description.Released x)) ≡ option_map (description_view o) x
unfolding description_after description_view
description-left o None more = refl
description-left o (Some s) more =
    ap (λ b. option_map (description_view o) (if b then Some (description_after description.Released s) else None)) (stays_still s.holders (more s refl))

-- ---- one descriptor less

described : (t : Target) (p : ℕ) (o : Objects counted)
    → ((q : ℕ) → t ≡ target.Open q → (p == q) ≡ true → (s : DescriptionState) → o.description q ≡ Some s → is_last s.holders ≡ false)
    → view_of t (done (ToDescription p description.Released) o) ≡ view_of t o
unfolding done view_of description_view
described (target.Open q) p o more =
    by_test (λ b. (p == q) ≡ b → option_map (description_view o) (if b then kept counted.descriptions is_description_held (told_of counted.descriptions description.Released (o.description q)) else o.description q)
    ≡ option_map (description_view o) (o.description q)) (p == q)
    (λ _ is. description-left o (o.description q) (more q refl is)) (λ _ _. refl) refl
described (target.Socket q) p o more = refl
described (target.Pipe q) p o more = refl
described (target.File q) p o more = refl
described (target.Process q) p o more = refl
described (target.Signal q s) p o more = refl
described target.Own p o more = refl

same-size : (p : ℕ) (x : Option FileState) → size_of (Some (told_of counted.files (file.Left p) x)) ≡ size_of x
unfolding file_after
same-size p None = refl
same-size p (Some f) = refl

size-left : (here : Bool) (p : ℕ) (x : Option FileState) → size_of (if here then Some (told_of counted.files (file.Left p) x) else x) ≡ size_of x
size-left true p x = same-size p x
size-left false p x = refl

open-left : (m p : ℕ) (o : Objects counted) (x : Option DescriptionState)
    → option_map (description_view (done (ToFile m (file.Left p)) o)) x ≡ option_map (description_view o) x
unfolding done description_view
open-left m p o None = refl
open-left m p o (Some s) = ap (λ n. Some (view.Open (pos n) (pos s.offset))) (size-left (m == s.file) p (o.file s.file))

file-left : (t : Target) (m p : ℕ) (o : Objects counted) (g : FileState) → o.file m ≡ Some g → view_of t (done (ToFile m (file.Left p)) o) ≡ view_of t o
unfolding done view_of
file-left (target.File n) m p o g there =
    by_test (λ b. (m == n) ≡ b → option_map (λ s. view.File) (if b then Some (told_of counted.files (file.Left p) (o.file n)) else o.file n) ≡ option_map (λ s. view.File) (o.file n)) (m == n)
    (λ _ is. ap (option_map (λ s. view.File)) (sym there ∙ ap o.file (eqb-true m n is))) (λ _ _. refl) refl
file-left (target.Open q) m p o g there = open-left m p o (o.description q)
file-left (target.Socket q) m p o g there = refl
file-left (target.Pipe q) m p o g there = refl
file-left (target.Process q) m p o g there = refl
file-left (target.Signal q s) m p o g there = refl
file-left target.Own m p o g there = refl

-- what has to be accounted for where one descriptor goes
abbrev pub Covers : (Target → Bool) → Named → Objects counted → Type 0
Covers has (Socket p) o = has (target.Socket p) ≡ true
Covers has (PipeRead p) o = is_last (readers (o.pipe p)) ≡ true → has (target.Pipe p) ≡ true
Covers has (PipeWrite p) o = is_last (writers (o.pipe p)) ≡ true → has (target.Pipe p) ≡ true
Covers has (Open p f) o = (s : DescriptionState) → o.description p ≡ Some s → is_last s.holders ≡ true → has (target.Open p) ≡ true
Covers has (Kqueue p) o = Unit {0}

module _ (has : Target → Bool) (t : Target) (absent : has t ≡ false) where
  -- none of what is accounted for is looked at
  apart : (of : ℕ → Target) (p q : ℕ) → t ≡ of q → has (of p) ≡ true → (p == q) ≡ true → ⊥
  apart of p q is there same = both_ways (has t) absent (ap has (is ∙ ap of (sym (eqb-true p q same))) ∙ there)

  more : (b : Bool) → (b ≡ true → ⊥) → b ≡ false
  more true never = absurd (never refl)
  more false never = refl

  last-left : (p : ℕ) (s : DescriptionState) (x : Option FileState) (o : Objects counted) → o.file s.file ≡ x
      → view_of t (done (ToDescription p description.Released) o) ≡ view_of t o
      → view_of t (all_done (ToDescription p description.Released ∷ leaving p s.file x) o) ≡ view_of t o
  unfolding all_done leaving done
  last-left p s None o is same = same
  last-left p s (Some g) o is same = file-left t s.file p (done (ToDescription p description.Released) o) g is ∙ same

  description-gone : (p f : ℕ) (x : Option DescriptionState) (o : Objects counted) → o.description p ≡ x → Covers has (Open p f) o
      → view_of t (all_done (ToDescription p description.Released ∷ left p x o) o) ≡ view_of t o
  unfolding all_done left
  description-gone p f None o is covers =
      described t p o (λ q looks here s there. absurd (none-some s (sym is ∙ ap o.description (eqb-true p q here) ∙ there)))
  description-gone p f (Some s) o is covers =
      let same : view_of t (done (ToDescription p description.Released) o) ≡ view_of t o =
      described t p o (λ q looks here u there. more (is_last u.holders) (λ last.
      apart target.Open p q looks (covers u (ap o.description (eqb-true p q here) ∙ there) last) here)) in
      by_test (λ b. view_of t (all_done (ToDescription p description.Released ∷ (if b then leaving p s.file (o.file s.file) else [])) o) ≡ view_of t o) (is_last s.holders)
      (λ _. last-left p s (o.file s.file) o refl same) (λ _. same)

pub spared-release : (has : Target → Bool) (t : Target) (n : Named) (o : Objects counted) → has t ≡ false → Covers has n o
    → view_of t (all_done (release_doings n o) o) ≡ view_of t o
unfolding release_doings all_done done view_of description_view
spared-release has (target.Socket q) (Socket p) o absent covers =
    by_test (λ b. (p == q) ≡ b → option_map socket_view (if b then kept counted.sockets is_socket_held (told_of counted.sockets socket.Released (o.socket q)) else o.socket q)
    ≡ option_map socket_view (o.socket q)) (p == q)
    (λ _ here. absurd (apart has (target.Socket q) absent target.Socket p q refl covers here)) (λ _ _. refl) refl
spared-release has (target.Pipe q) (PipeRead p) o absent covers =
    by_test (λ b. (p == q) ≡ b → option_map pipe_view (if b then kept counted.pipes is_pipe_held (told_of counted.pipes (pipe.Released side.Read) (o.pipe q)) else o.pipe q)
    ≡ option_map pipe_view (o.pipe q)) (p == q)
    (λ _ here. reader-left (o.pipe q) (more has (target.Pipe q) absent (is_last (readers (o.pipe q))) (λ last.
    apart has (target.Pipe q) absent target.Pipe p q refl (covers (ap (λ n. is_last (readers (o.pipe n))) (eqb-true p q here) ∙ last)) here))) (λ _ _. refl) refl
spared-release has (target.Pipe q) (PipeWrite p) o absent covers =
    by_test (λ b. (p == q) ≡ b → option_map pipe_view (if b then kept counted.pipes is_pipe_held (told_of counted.pipes (pipe.Released side.Write) (o.pipe q)) else o.pipe q)
    ≡ option_map pipe_view (o.pipe q)) (p == q)
    (λ _ here. writer-left (o.pipe q) (more has (target.Pipe q) absent (is_last (writers (o.pipe q))) (λ last.
    apart has (target.Pipe q) absent target.Pipe p q refl (covers (ap (λ n. is_last (writers (o.pipe n))) (eqb-true p q here) ∙ last)) here))) (λ _ _. refl) refl
spared-release has (target.Pipe q) (Socket p) o absent covers = refl
spared-release has (target.Socket q) (PipeRead p) o absent covers = refl
spared-release has (target.Socket q) (PipeWrite p) o absent covers = refl
spared-release has (target.Open q) (Socket p) o absent covers = refl
spared-release has (target.Open q) (PipeRead p) o absent covers = refl
spared-release has (target.Open q) (PipeWrite p) o absent covers = refl
spared-release has (target.File q) (Socket p) o absent covers = refl
spared-release has (target.File q) (PipeRead p) o absent covers = refl
spared-release has (target.File q) (PipeWrite p) o absent covers = refl
spared-release has (target.Process q) (Socket p) o absent covers = refl
spared-release has (target.Process q) (PipeRead p) o absent covers = refl
spared-release has (target.Process q) (PipeWrite p) o absent covers = refl
spared-release has (target.Signal q s) (Socket p) o absent covers = refl
spared-release has (target.Signal q s) (PipeRead p) o absent covers = refl
spared-release has (target.Signal q s) (PipeWrite p) o absent covers = refl
spared-release has target.Own (Socket p) o absent covers = refl
spared-release has target.Own (PipeRead p) o absent covers = refl
spared-release has target.Own (PipeWrite p) o absent covers = refl
spared-release has t (Open p f) o absent covers = description-gone has t absent p f (o.description p) o refl covers
spared-release has t (Kqueue p) o absent covers = refl

-- ---- whom the hints tell

module _ (has : Target → Bool) where
  abbrev HasAll : List Target → Type 0
  HasAll ts = All (λ t. has t ≡ true) ts

  head : (t : Target) (ts : List Target) → HasAll (t ∷ ts) → has t ≡ true
  head t ts all = All-head (λ x. has x ≡ true) t ts all

  end-told : (p : ℕ) (h : Hint) (holders : ℤ) → HasAll (told_targets (option_list (end_hint p h holders))) → is_last holders ≡ true → has (target.Pipe p) ≡ true
  unfolding end_hint option_list
  end-told p h holders told last =
      head (target.Pipe p) [] (subst (λ b. HasAll (told_targets (option_list (if b then Some (target.Pipe p, h) else None)))) last told)

  ended-told : (p f : ℕ) (tells : Bool) (x : Option DescriptionState) (s : DescriptionState) → x ≡ Some s → is_last s.holders ≡ true
      → (tells_file (option_list (close_hint x)) ≡ true → tells ≡ true) → HasAll (targets_left tells (Some (Open p f))) → has (target.Open p) ≡ true
  unfolding close_hint option_list is_file
  ended-told p f tells x s is last tell left =
      let told : tells ≡ true = tell (ap (λ y. tells_file (option_list (close_hint y))) is
      ∙ ap (λ b. tells_file (option_list (if b then Some (target.File s.file, hint.Note (if may_write s.mode then note_close_write else note_close)) else None))) last) in
      head (target.Open p) [] (subst (λ b. HasAll (if b then target.Open p ∷ [] else [])) told left)

  pub covers : (n : Named) (o : Objects counted) (tells : Bool) → HasAll (told_targets (option_list (release_hint n o)))
      → (tells_file (option_list (release_hint n o)) ≡ true → tells ≡ true) → HasAll (targets_left tells (Some n)) → Covers has n o
  unfolding release_hint
  covers (Socket p) o tells told tell left = head (target.Socket p) [] left
  covers (PipeRead p) o tells told tell left = λ last. end-told p hint.Writable (readers (o.pipe p)) told last
  covers (PipeWrite p) o tells told tell left = λ last. end-told p hint.Readable (writers (o.pipe p)) told last
  covers (Open p f) o tells told tell left = λ s is last. ended-told p f tells (o.description p) s is last tell left
  covers (Kqueue p) o tells told tell left = tt

  told-left : (hs ks : List Posted) → HasAll (told_targets (hs ++ ks)) → HasAll (told_targets hs)
  told-left [] ks all = All-nil _
  told-left (h ∷ hs) ks all = All-cons (λ x. has x ≡ true) h.0 (told_targets hs) (head h.0 (told_targets (hs ++ ks)) all) (told-left hs ks (All-tail (λ x. has x ≡ true) h.0 (told_targets (hs ++ ks)) all))

  told-right : (hs ks : List Posted) → HasAll (told_targets (hs ++ ks)) → HasAll (told_targets ks)
  told-right [] ks all = all
  told-right (h ∷ hs) ks all = told-right hs ks (All-tail (λ x. has x ≡ true) h.0 (told_targets (hs ++ ks)) all)

  tells-left : (hs ks : List Posted) → tells_file hs ≡ true → tells_file (hs ++ ks) ≡ true
  tells-left [] ks is = absurd (true≢false (sym is))
  tells-left (h ∷ hs) ks is =
      by_test (λ b. (b || tells_file hs) ≡ true → (b || tells_file (hs ++ ks)) ≡ true) (is_file h.0) (λ _ _. refl) (λ _ later. tells-left hs ks later) is

  tells-right : (hs ks : List Posted) → tells_file ks ≡ true → tells_file (hs ++ ks) ≡ true
  tells-right [] ks is = is
  tells-right (h ∷ hs) ks is = ap (λ b. is_file h.0 || b) (tells-right hs ks is) ∙ or_true (is_file h.0)

  abbrev LeftAll : Bool → List Named → Type 0
  LeftAll tells ns = All (λ n. HasAll (targets_left tells (Some n))) ns

  all-released : (t : Target) (ns : List Named) (o : Objects counted) (tells : Bool) → has t ≡ false → HasAll (told_targets (release_hints ns o))
      → (tells_file (release_hints ns o) ≡ true → tells ≡ true) → LeftAll tells ns → view_of t (all_released ns o) ≡ view_of t o
  unfolding all_released release_hints
  all-released t [] o tells absent told tell left = refl
  all-released t (n ∷ ns) o tells absent told tell left =
      let first = option_list (release_hint n o) in
      let rest = release_hints ns (release n o) in
      all-released t ns (release n o) tells absent (told-right first rest told) (λ is. tell (tells-right first rest is)) (All-tail (λ m. HasAll (targets_left tells (Some m))) n ns left)
      ∙ ap (view_of t) (release-counted n o)
      ∙ spared-release has t n o absent (covers n o tells (told-left first rest told) (λ is. tell (tells-left first rest is)) (All-head (λ m. HasAll (targets_left tells (Some m))) n ns left))

  pub same-released : (t : Target) (ns : List Named) (o : Objects counted) (more : List Posted) → has t ≡ false → HasAll (told_targets (release_hints ns o ++ more))
      → LeftAll (tells_file (release_hints ns o ++ more)) ns → view_of t (all_done (release_all ns o) o) ≡ view_of t o
  same-released t ns o more absent told left =
      ap (view_of t) (release_all-done ns o)
      ∙ all-released t ns o (tells_file (release_hints ns o ++ more)) absent (told-left (release_hints ns o) more told) (λ is. tells-left (release_hints ns o) more is) left
