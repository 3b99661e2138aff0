-- One descriptor more, one less and many of them keep that the objects are counted by the tables.
use Rattle.std.proofs.Common.{◌≡◌, ◌∙◌, ◌==◌, ◌≤◌, ℕ, ◌+◌, length, eq-eqb, pos, ◌+ℤ◌, ◌-ℤ◌, Bool, true, false, List, [], ◌∷◌, ◌++◌, Option, None, Some, refl, sym, ap, arith, if◌then◌else◌}
use Rattle.std.proofs.lemmas.Int.{ints}
use Rattle.kq_model.specs.declared.doing.DescriptionRecord.TheVariants as description
use Rattle.kq_model.specs.declared.doing.Doing.TheVariants.{ToDescription}
use Rattle.kq_model.specs.declared.doing.PipeRecord.TheVariants as pipe
use Rattle.kq_model.specs.declared.doing.SocketRecord.TheVariants as socket
use Rattle.kq_model.specs.declared.object.Named.{Named}
use Rattle.kq_model.specs.declared.object.Named.TheVariants.{Socket, PipeRead, PipeWrite, Open, Kqueue}
use Rattle.kq_model.specs.declared.side.Side.TheVariants as side
use Rattle.kq_model.specs.Files.{DescriptionState, FileState}
use Rattle.kq_model.specs.Objects.{Objects, counted, quantities, done, all_done}
use Rattle.kq_model.specs.Holding.{hold_doings, leaving, left, release_doings, release, is_last}
use Rattle.kq_model.specs.Holders.{holders_of, hold, all_held, all_released, is_same, one_if, times, IsCounted, IsNamed}
use Rattle.kq_model.proofs.HeldObjects.{eq-swapped, Ends, socket_at, description_at, pipe_at}

-- the second list names n once more than the first
abbrev pub NamesOneMore : Named → List Named → List Named → Type 0
NamesOneMore n fewer more = (m : Named) → times m more ≡ times m fewer + one_if (is_same m n)

-- at the place, once more; elsewhere as often
module _ (p q : ℕ) (fewer more : ℕ) (is : more ≡ fewer + one_if (q == p)) where
  here_more : (p == q) ≡ true → more ≡ fewer + 1
  unfolding one_if
  here_more here = is ∙ ap (λ t. fewer + one_if t) (eq-swapped q p ∙ here)

  pub away_same : (p == q) ≡ false → more ≡ fewer
  unfolding one_if
  away_same away = let e : more ≡ fewer + 0 = is ∙ ap (λ t. fewer + one_if t) (eq-swapped q p ∙ away) in omega arith

  pub one_more : (p == q) ≡ true → pos fewer +ℤ pos 1 ≡ pos more
  one_more here = ap pos (sym (here_more here))

  one_fewer : (p == q) ≡ true → pos more -ℤ pos 1 ≡ pos fewer
  one_fewer here = let e = here_more here in omega (arith, ints)

pub as_often : (more fewer : ℕ) → more ≡ fewer + 0 → fewer ≡ more
as_often more fewer e = omega arith

pub no-kqueue : (m : Named) (p : ℕ) → is_same m (Kqueue p) ≡ false
unfolding is_same
no-kqueue (Socket q) p = refl
no-kqueue (PipeRead q) p = refl
no-kqueue (PipeWrite q) p = refl
no-kqueue (Open q f) p = refl
no-kqueue (Kqueue q) p = refl

-- ---- one more

-- both ends of the pipe at q, after one more descriptor of the read end, or of the write end, of the pipe at p
module _ (p q : ℕ) (o : Objects counted) (before after : List Named) (c : IsCounted o before) where
  ends_before : Ends (o.pipe q) (times (PipeRead q) before) (times (PipeWrite q) before)
  unfolding holders_of
  ends_before = record { read = c (PipeRead q); write = c (PipeWrite q) }

  reader_more : NamesOneMore (PipeRead p) before after → Ends ((hold (PipeRead p) o).pipe q) (times (PipeRead q) after) (times (PipeWrite q) after)
  unfolding hold hold_doings all_done done is_same one_if
  reader_more more =
      let w : times (PipeWrite q) before ≡ times (PipeWrite q) after = as_often _ _ (more (PipeWrite q)) in
      pipe_at (p == q) (pipe.Held side.Read) (o.pipe q) _ _ _ _ ends_before
      (one_more p q _ _ (more (PipeRead q))) (λ here. ap pos w)
      (λ away. sym (away_same p q _ _ (more (PipeRead q)) away)) (λ away. w)

  writer_more : NamesOneMore (PipeWrite p) before after → Ends ((hold (PipeWrite p) o).pipe q) (times (PipeRead q) after) (times (PipeWrite q) after)
  unfolding hold hold_doings all_done done is_same one_if
  writer_more more =
      let r : times (PipeRead q) before ≡ times (PipeRead q) after = as_often _ _ (more (PipeRead q)) in
      pipe_at (p == q) (pipe.Held side.Write) (o.pipe q) _ _ _ _ ends_before
      (λ here. ap pos r) (one_more p q _ _ (more (PipeWrite q)))
      (λ away. r) (λ away. sym (away_same p q _ _ (more (PipeWrite q)) away))

  reader_fewer : NamesOneMore (PipeRead p) after before → Ends ((release (PipeRead p) o).pipe q) (times (PipeRead q) after) (times (PipeWrite q) after)
  unfolding release release_doings all_done done is_same one_if
  reader_fewer more =
      let w : times (PipeWrite q) before ≡ times (PipeWrite q) after = sym (as_often _ _ (more (PipeWrite q))) in
      pipe_at (p == q) (pipe.Released side.Read) (o.pipe q) _ _ _ _ ends_before
      (one_fewer p q _ _ (more (PipeRead q))) (λ here. ap pos w)
      (away_same p q _ _ (more (PipeRead q))) (λ away. w)

  writer_fewer : NamesOneMore (PipeWrite p) after before → Ends ((release (PipeWrite p) o).pipe q) (times (PipeRead q) after) (times (PipeWrite q) after)
  unfolding release release_doings all_done done is_same one_if
  writer_fewer more =
      let r : times (PipeRead q) before ≡ times (PipeRead q) after = sym (as_often _ _ (more (PipeRead q))) in
      pipe_at (p == q) (pipe.Released side.Write) (o.pipe q) _ _ _ _ ends_before
      (λ here. ap pos r) (one_fewer p q _ _ (more (PipeWrite q)))
      (λ away. r) (away_same p q _ _ (more (PipeWrite q)))

pub counted-more : (n : Named) (o : Objects counted) (before after : List Named) → NamesOneMore n before after
    → IsCounted o before → IsCounted (hold n o) after
unfolding hold hold_doings all_done done holders_of is_same one_if
counted-more (Socket p) o before after more c (Socket q) =
    socket_at (p == q) socket.Held (o.socket q) _ _ (c (Socket q))
    (one_more p q _ _ (more (Socket q))) (λ away. sym (away_same p q _ _ (more (Socket q)) away))
counted-more (Socket p) o before after more c m = c m ∙ ap pos (as_often _ _ (more m))
counted-more (PipeRead p) o before after more c (PipeRead q) = (reader_more p q o before after c more).read
counted-more (PipeRead p) o before after more c (PipeWrite q) = (reader_more p q o before after c more).write
counted-more (PipeRead p) o before after more c m = c m ∙ ap pos (as_often _ _ (more m))
counted-more (PipeWrite p) o before after more c (PipeRead q) = (writer_more p q o before after c more).read
counted-more (PipeWrite p) o before after more c (PipeWrite q) = (writer_more p q o before after c more).write
counted-more (PipeWrite p) o before after more c m = c m ∙ ap pos (as_often _ _ (more m))
counted-more (Open p f) o before after more c (Open q g) =
    description_at (p == q) description.Held (o.description q) _ _ (c (Open q g))
    (one_more p q _ _ (more (Open q g))) (λ away. sym (away_same p q _ _ (more (Open q g)) away))
counted-more (Open p f) o before after more c m = c m ∙ ap pos (as_often _ _ (more m))
counted-more (Kqueue p) o before after more c m =
    c m ∙ ap pos (as_often _ _ (more m ∙ ap (λ t. times m before + one_if t) (no-kqueue m p)))

-- ---- one less

-- what a file is told is nothing to the holders
file-holders : (m : Named) (o : Objects counted) (f : ℕ → Option FileState) → holders_of m (record o { file = f }) ≡ holders_of m o
unfolding holders_of
file-holders (Socket q) o f = refl
file-holders (PipeRead q) o f = refl
file-holders (PipeWrite q) o f = refl
file-holders (Open q g) o f = refl
file-holders (Kqueue q) o f = refl

left_if : (last : Bool) (m : Named) (p n : ℕ) (x : Option FileState) (o : Objects counted)
    → holders_of m (all_done (if last then leaving p n x else []) o) ≡ holders_of m o
unfolding leaving all_done done
left_if true m p n None o = refl
left_if true m p n (Some f) o = file-holders m o _
left_if false m p n x o = refl

left-holders : (m : Named) (p : ℕ) (x : Option DescriptionState) (o' o : Objects counted) → holders_of m (all_done (left p x o') o) ≡ holders_of m o
unfolding left all_done
left-holders m p None o' o = refl
left-holders m p (Some s) o' o = left_if (is_last s.holders) m p s.file (o'.file s.file) o

pub counted-fewer : (n : Named) (o : Objects counted) (before after : List Named) → NamesOneMore n after before
    → IsCounted o before → IsCounted (release n o) after
unfolding release release_doings all_done done holders_of is_same one_if
counted-fewer (Socket p) o before after more c (Socket q) =
    socket_at (p == q) socket.Released (o.socket q) _ _ (c (Socket q))
    (one_fewer p q _ _ (more (Socket q))) (away_same p q _ _ (more (Socket q)))
counted-fewer (Socket p) o before after more c m = c m ∙ ap pos (sym (as_often _ _ (more m)))
counted-fewer (PipeRead p) o before after more c (PipeRead q) = (reader_fewer p q o before after c more).read
counted-fewer (PipeRead p) o before after more c (PipeWrite q) = (reader_fewer p q o before after c more).write
counted-fewer (PipeRead p) o before after more c m = c m ∙ ap pos (sym (as_often _ _ (more m)))
counted-fewer (PipeWrite p) o before after more c (PipeRead q) = (writer_fewer p q o before after c more).read
counted-fewer (PipeWrite p) o before after more c (PipeWrite q) = (writer_fewer p q o before after c more).write
counted-fewer (PipeWrite p) o before after more c m = c m ∙ ap pos (sym (as_often _ _ (more m)))
counted-fewer (Open p f) o before after more c (Open q g) =
    left-holders (Open q g) p ((quantities o).description p) (quantities o) (done (ToDescription p description.Released) o)
    ∙ description_at (p == q) description.Released (o.description q) _ _ (c (Open q g))
    (one_fewer p q _ _ (more (Open q g))) (away_same p q _ _ (more (Open q g)))
counted-fewer (Open p f) o before after more c m =
    left-holders m p ((quantities o).description p) (quantities o) (done (ToDescription p description.Released) o)
    ∙ c m ∙ ap pos (sym (as_often _ _ (more m)))
counted-fewer (Kqueue p) o before after more c m =
    c m ∙ ap pos (sym (as_often _ _ (more m ∙ ap (λ t. times m after + one_if t) (no-kqueue m p))))

-- ---- many

pub times-append : (m : Named) (ns ms : List Named) → times m (ns ++ ms) ≡ times m ns + times m ms
unfolding times
times-append m [] ms = omega arith
times-append m (n ∷ ns) ms = let e = times-append m ns ms in omega arith

-- a fork: the names of the child come to those before
pub counted-all_held : (ns : List Named) (o : Objects counted) (before after : List Named)
    → ((m : Named) → times m after ≡ times m before + times m ns) → IsCounted o before → IsCounted (all_held ns o) after
unfolding all_held times
counted-all_held [] o before after more c = λ m. c m ∙ ap pos (as_often _ _ (more m))
counted-all_held (n ∷ ns) o before after more c =
    counted-all_held ns (hold n o) (n ∷ before) after
    (λ m. let e : times m after ≡ times m before + (times m ns + one_if (is_same m n)) = more m in omega arith)
    (counted-more n o before (n ∷ before) (λ m. refl) c)

-- an exit: the names of the process go
pub counted-all_released : (ns : List Named) (o : Objects counted) (before after : List Named)
    → ((m : Named) → times m before ≡ times m after + times m ns) → IsCounted o before → IsCounted (all_released ns o) after
unfolding all_released times
counted-all_released [] o before after more c = λ m. c m ∙ ap pos (sym (as_often _ _ (more m)))
counted-all_released (n ∷ ns) o before after more c =
    counted-all_released ns (release n o) (ns ++ after) after
    (λ m. let e = times-append m ns after in omega arith)
    (counted-fewer n o before (ns ++ after)
    (λ m. let e : times m before ≡ times m after + (times m ns + one_if (is_same m n)) = more m in let a = times-append m ns after in omega arith) c)

-- no object is named more often than there are names
one_if-within : (b : Bool) → one_if b ≤ 1
unfolding one_if
one_if-within true = omega arith
one_if-within false = omega arith

pub times-within : (n : Named) (names : List Named) → times n names ≤ length names
unfolding times
times-within n [] = omega arith
times-within n (m ∷ ms) = let e = times-within n ms in let f = one_if-within (is_same n m) in omega arith

-- each of the names is named
same_once : (p : ℕ) → one_if (p == p) ≡ 1
unfolding one_if
same_once p = ap (λ b. if b then 1 else 0) (eq-eqb p p refl)

pub named-in : (n : Named) (ns ms : List Named) → IsNamed n (ns ++ n ∷ ms)
unfolding times is_same
named-in (Kqueue p) ns ms = tt
named-in (Socket p) ns ms = let e = times-append (Socket p) ns (Socket p ∷ ms) in let f = same_once p in omega arith
named-in (PipeRead p) ns ms = let e = times-append (PipeRead p) ns (PipeRead p ∷ ms) in let f = same_once p in omega arith
named-in (PipeWrite p) ns ms = let e = times-append (PipeWrite p) ns (PipeWrite p ∷ ms) in let f = same_once p in omega arith
named-in (Open p g) ns ms = let e = times-append (Open p g) ns (Open p g ∷ ms) in let f = same_once p in omega arith
