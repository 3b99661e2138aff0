-- One more descriptor alters no view: what it names is there, and that end of a pipe is open.
use Rattle.std.proofs.Common.{◌≡◌, ◌∙◌, ◌==◌, ◌≤◌, ◌||◌, ℕ, ℤ, pos, ◌+ℤ◌, int_lt, Bool, true, false, eqb-true, List, [], ◌∷◌, Option, None, Some, option_map, refl, sym, ap, arith, if◌then◌else◌}
use Rattle.std.proofs.lemmas.Bool.{both_ways, false_from_ne_true}
use Rattle.std.proofs.lemmas.Int.{ints}
use Rattle.std.proofs.lemmas.List.Elements.{All-nil, All-cons, All-head, All-tail, All-map, All-weaker}
use Rattle.std.specs.Prelude.{All}
use Rattle.kq_model.specs.declared.doing.PipeRecord.TheVariants as pipe
use Rattle.kq_model.specs.declared.doing.SocketRecord.TheVariants as socket
use Rattle.kq_model.specs.declared.doing.DescriptionRecord.TheVariants as description
use Rattle.kq_model.specs.declared.object.Named.{Named}
use Rattle.kq_model.specs.declared.object.Named.TheVariants.{Socket, PipeRead, PipeWrite, Open, Kqueue}
use Rattle.kq_model.specs.declared.object.Target.{Target}
use Rattle.kq_model.specs.declared.object.Target.TheVariants as target
use Rattle.kq_model.specs.declared.object.View.TheVariants as view
use Rattle.kq_model.specs.declared.side.Side.TheVariants as side
use Rattle.kq_model.specs.CountedWorld.{IsCountedWorld}
use Rattle.kq_model.specs.Descriptors.{Descriptor}
use Rattle.kq_model.specs.Files.{DescriptionState, description_after, is_description_held}
use Rattle.kq_model.specs.Holding.{hold_doings, readers, writers}
use Rattle.kq_model.specs.Holders.{all_held, description_holders, hold, holders_of, socket_holders, times, IsCounted, IsNamed}
use Rattle.kq_model.specs.Objects.{Objects, counted, all_done, description_view, done, kept, told_of, view_of}
use Rattle.kq_model.specs.Pipes.{PipeState, is_pipe_held, pipe_after, pipe_view}
use Rattle.kq_model.specs.ProcessPlans.{hold_all, inherited, names_of}
use Rattle.kq_model.specs.Sockets.{SocketState, is_socket_held, socket_after, socket_view}
use Rattle.kq_model.specs.World.{World}
use Rattle.kq_model.proofs.CountedTables.{inherited-all}
use Rattle.kq_model.proofs.CountedWorld.{hold_all-done}
use Rattle.kq_model.proofs.HeldNames.{counted-more}
use Rattle.kq_model.proofs.NamedWorld.{more_named, named_first}
use Rattle.kq_projection.specs.Touched.{targets_named}

-- ---- one object

socket-held : (here : Bool) (x : Option SocketState) (k : ℕ) → (here ≡ true → socket_holders x ≡ pos k) → 1 ≤ k
    → option_map socket_view (if here then kept counted.sockets is_socket_held (told_of counted.sockets socket.Held x) else x) ≡ option_map socket_view x
unfolding socket_after socket_view
socket-held false x k holders some = refl
socket-held true None k holders some = absurd (let zero : 0 ≡ k = (let h = holders refl in omega (arith, ints)) in omega arith)
socket-held true (Some s) k holders some =
    let held : is_socket_held (socket_after socket.Held s) ≡ true = (let h : s.holders ≡ pos k = holders refl in grind (arith, ints)) in
    ap (λ b. option_map socket_view (if b then Some (socket_after socket.Held s) else None)) held

description-held : (o : Objects counted) (here : Bool) (x : Option DescriptionState) (k : ℕ) → (here ≡ true → description_holders x ≡ pos k) → 1 ≤ k
    → option_map (description_view o) (if here then kept counted.descriptions is_description_held (told_of counted.descriptions description.Held x) else x) ≡ option_map (description_view o) x
unfolding description_after description_view
description-held o false x k holders some = refl
description-held o true None k holders some = absurd (let zero : 0 ≡ k = (let h = holders refl in omega (arith, ints)) in omega arith)
description-held o true (Some s) k holders some =
    let held : is_description_held (description_after description.Held s) ≡ true = (let h : s.holders ≡ pos k = holders refl in grind (arith, ints)) in
    ap (λ b. option_map (description_view o) (if b then Some (description_after description.Held s) else None)) held

-- an end of a pipe that is open
is_open : (h : ℤ) (k : ℕ) → h ≡ pos k → 1 ≤ k → int_lt (pos 0) h ≡ true
is_open h k is some = grind (arith, ints)

is_open_still : (h : ℤ) (k : ℕ) → h ≡ pos k → 1 ≤ k → int_lt (pos 0) (h +ℤ pos 1) ≡ true
is_open_still h k is some = grind (arith, ints)

or_true : (b : Bool) → (b || true) ≡ true
or_true true = refl
or_true false = refl

reader-held : (here : Bool) (x : Option PipeState) (k : ℕ) → (here ≡ true → readers x ≡ pos k) → 1 ≤ k
    → option_map pipe_view (if here then kept counted.pipes is_pipe_held (told_of counted.pipes (pipe.Held side.Read) x) else x) ≡ option_map pipe_view x
unfolding pipe_after pipe_view
reader-held false x k holders some = refl
reader-held true None k holders some = absurd (let zero : 0 ≡ k = (let h = holders refl in omega (arith, ints)) in omega arith)
reader-held true (Some s) k holders some =
    let more = is_open_still s.readers k (holders refl) some in
    ap (λ b. option_map pipe_view (if b || int_lt (pos 0) s.writers then Some (pipe_after (pipe.Held side.Read) s) else None)) more
    ∙ ap (λ b. Some (view.Pipe s.bytes (pos s.cap) (int_lt (pos 0) s.writers) b)) (more ∙ sym (is_open s.readers k (holders refl) some))

writer-held : (here : Bool) (x : Option PipeState) (k : ℕ) → (here ≡ true → writers x ≡ pos k) → 1 ≤ k
    → option_map pipe_view (if here then kept counted.pipes is_pipe_held (told_of counted.pipes (pipe.Held side.Write) x) else x) ≡ option_map pipe_view x
unfolding pipe_after pipe_view
writer-held false x k holders some = refl
writer-held true None k holders some = absurd (let zero : 0 ≡ k = (let h = holders refl in omega (arith, ints)) in omega arith)
writer-held true (Some s) k holders some =
    let more = is_open_still s.writers k (holders refl) some in
    ap (λ b. option_map pipe_view (if int_lt (pos 0) s.readers || b then Some (pipe_after (pipe.Held side.Write) s) else None)) more
    ∙ ap (λ b. option_map pipe_view (if b then Some (pipe_after (pipe.Held side.Write) s) else None)) (or_true (int_lt (pos 0) s.readers))
    ∙ ap (λ b. Some (view.Pipe s.bytes (pos s.cap) b (int_lt (pos 0) s.readers))) (more ∙ sym (is_open s.writers k (holders refl) some))

-- ---- one descriptor more

at-place : {X : Type 0} (of : Option X → ℤ) (objects : ℕ → Option X) (p q k : ℕ) → of (objects p) ≡ pos k → (p == q) ≡ true → of (objects q) ≡ pos k
at-place of objects p q k is same = ap (λ n. of (objects n)) (sym (eqb-true p q same)) ∙ is

pub same-hold : (t : Target) (n : Named) (o : Objects counted) (names : List Named) → IsCounted o names → IsNamed n names → view_of t (hold n o) ≡ view_of t o
unfolding hold hold_doings all_done done view_of holders_of description_view
same-hold (target.Socket q) (Socket p) o names c named = socket-held (p == q) (o.socket q) (times (Socket p) names) (at-place socket_holders o.socket p q _ (c (Socket p))) named
same-hold (target.Pipe q) (PipeRead p) o names c named = reader-held (p == q) (o.pipe q) (times (PipeRead p) names) (at-place readers o.pipe p q _ (c (PipeRead p))) named
same-hold (target.Pipe q) (PipeWrite p) o names c named = writer-held (p == q) (o.pipe q) (times (PipeWrite p) names) (at-place writers o.pipe p q _ (c (PipeWrite p))) named
same-hold (target.Open q) (Open p f) o names c named = description-held o (p == q) (o.description q) (times (Open p f) names) (at-place description_holders o.description p q _ (c (Open p f))) named
same-hold (target.Socket q) (PipeRead p) o names c named = refl
same-hold (target.Socket q) (PipeWrite p) o names c named = refl
same-hold (target.Socket q) (Open p f) o names c named = refl
same-hold (target.Pipe q) (Socket p) o names c named = refl
same-hold (target.Pipe q) (Open p f) o names c named = refl
same-hold (target.Open q) (Socket p) o names c named = refl
same-hold (target.Open q) (PipeRead p) o names c named = refl
same-hold (target.Open q) (PipeWrite p) o names c named = refl
same-hold (target.File q) (Socket p) o names c named = refl
same-hold (target.File q) (PipeRead p) o names c named = refl
same-hold (target.File q) (PipeWrite p) o names c named = refl
same-hold (target.File q) (Open p f) o names c named = refl
same-hold (target.Process q) (Socket p) o names c named = refl
same-hold (target.Process q) (PipeRead p) o names c named = refl
same-hold (target.Process q) (PipeWrite p) o names c named = refl
same-hold (target.Process q) (Open p f) o names c named = refl
same-hold (target.Signal q s) (Socket p) o names c named = refl
same-hold (target.Signal q s) (PipeRead p) o names c named = refl
same-hold (target.Signal q s) (PipeWrite p) o names c named = refl
same-hold (target.Signal q s) (Open p f) o names c named = refl
same-hold target.Own (Socket p) o names c named = refl
same-hold target.Own (PipeRead p) o names c named = refl
same-hold target.Own (PipeWrite p) o names c named = refl
same-hold target.Own (Open p f) o names c named = refl
same-hold t (Kqueue p) o names c named = refl

-- what it names is accounted for
first-has : (has : Target → Bool) (t : Target) (ts : List Target) → All (λ x. has x ≡ true) (t ∷ ts) → has t ≡ true
first-has has t ts all = All-head (λ x. has x ≡ true) t ts all

other : {X : Type 0} (has : Target → Bool) (of : ℕ → Target) (p q : ℕ) (x y : X) → has (of q) ≡ false → has (of p) ≡ true → (if p == q then x else y) ≡ y
other has of p q x y absent there =
    ap (λ b. if b then x else y) (false_from_ne_true (p == q) (λ same. both_ways (has (of q)) absent (ap (λ n. has (of n)) (sym (eqb-true p q same)) ∙ there)))

pub spared-hold : (has : Target → Bool) (t : Target) (n : Named) (o : Objects counted) → has t ≡ false → All (λ x. has x ≡ true) (targets_named (Some n))
    → view_of t (all_done (hold_doings n) o) ≡ view_of t o
unfolding hold_doings all_done done view_of description_view
spared-hold has (target.Socket q) (Socket p) o absent names = ap (option_map socket_view) (other has target.Socket p q _ (o.socket q) absent (first-has has (target.Socket p) [] names))
spared-hold has (target.Pipe q) (PipeRead p) o absent names = ap (option_map pipe_view) (other has target.Pipe p q _ (o.pipe q) absent (first-has has (target.Pipe p) [] names))
spared-hold has (target.Pipe q) (PipeWrite p) o absent names = ap (option_map pipe_view) (other has target.Pipe p q _ (o.pipe q) absent (first-has has (target.Pipe p) [] names))
spared-hold has (target.Open q) (Open p f) o absent names =
    ap (option_map (description_view o)) (other has target.Open p q _ (o.description q) absent (first-has has (target.Open p) (target.File f ∷ []) names))
spared-hold has (target.Socket q) (PipeRead p) o absent names = refl
spared-hold has (target.Socket q) (PipeWrite p) o absent names = refl
spared-hold has (target.Socket q) (Open p f) o absent names = refl
spared-hold has (target.Pipe q) (Socket p) o absent names = refl
spared-hold has (target.Pipe q) (Open p f) o absent names = refl
spared-hold has (target.Open q) (Socket p) o absent names = refl
spared-hold has (target.Open q) (PipeRead p) o absent names = refl
spared-hold has (target.Open q) (PipeWrite p) o absent names = refl
spared-hold has (target.File q) (Socket p) o absent names = refl
spared-hold has (target.File q) (PipeRead p) o absent names = refl
spared-hold has (target.File q) (PipeWrite p) o absent names = refl
spared-hold has (target.File q) (Open p f) o absent names = refl
spared-hold has (target.Process q) (Socket p) o absent names = refl
spared-hold has (target.Process q) (PipeRead p) o absent names = refl
spared-hold has (target.Process q) (PipeWrite p) o absent names = refl
spared-hold has (target.Process q) (Open p f) o absent names = refl
spared-hold has (target.Signal q s) (Socket p) o absent names = refl
spared-hold has (target.Signal q s) (PipeRead p) o absent names = refl
spared-hold has (target.Signal q s) (PipeWrite p) o absent names = refl
spared-hold has (target.Signal q s) (Open p f) o absent names = refl
spared-hold has target.Own (Socket p) o absent names = refl
spared-hold has target.Own (PipeRead p) o absent names = refl
spared-hold has target.Own (PipeWrite p) o absent names = refl
spared-hold has target.Own (Open p f) o absent names = refl
spared-hold has t (Kqueue p) o absent names = refl

-- ---- many

abbrev AreNamed : List Named → List Named → Type 0
AreNamed names ns = All (λ n. IsNamed n names) ns

same-all_held : (t : Target) (ns : List Named) (o : Objects counted) (names : List Named) → IsCounted o names → AreNamed names ns
    → view_of t (all_held ns o) ≡ view_of t o
unfolding all_held times
same-all_held t [] o names c named = refl
same-all_held t (n ∷ ns) o names c named =
    same-all_held t ns (hold n o) (n ∷ names) (counted-more n o names (n ∷ names) (λ m. refl) c)
    (All-weaker (λ m. IsNamed m names) (λ m. IsNamed m (n ∷ names)) (λ m. more_named m n names) ns (All-tail (λ m. IsNamed m names) n ns named))
    ∙ same-hold t n o names c (All-head (λ m. IsNamed m names) n ns named)

all-named : (es : List Descriptor) → All (λ (d : Descriptor). IsNamed d.named (names_of es)) es
all-named [] = All-nil (λ (d : Descriptor). IsNamed d.named [])
all-named (e ∷ es) =
    All-cons (λ (d : Descriptor). IsNamed d.named (names_of (e ∷ es))) e es (named_first e.named (names_of es))
    (All-weaker (λ (d : Descriptor). IsNamed d.named (names_of es)) (λ (d : Descriptor). IsNamed d.named (names_of (e ∷ es)))
    (λ d. more_named d.named e.named (names_of es)) es (all-named es))

-- a child that has copies of its parent's descriptors
pub same-inherited : (t : Target) (next pid child : ℕ) (w : World counted) → IsCountedWorld next w
    → view_of t (all_done (hold_all (names_of (inherited pid child w.table))) w.objects) ≡ view_of t w.objects
same-inherited t next pid child w c =
    let ds = inherited pid child w.table in
    let names = names_of w.table in
    ap (view_of t) (hold_all-done (names_of ds) w.objects)
    ∙ same-all_held t (names_of ds) w.objects names c.counts
    (All-map (λ n. IsNamed n names) (λ (d : Descriptor). d.named) ds (inherited-all (λ n. IsNamed n names) pid child w.table (all-named w.table)))
