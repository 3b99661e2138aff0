-- What the world keeps true goes on to hold where descriptors open and close.
use Rattle.std.proofs.Common.{◌≡◌, ◌==◌, ℕ, ◌+◌, ◌<◌, ◌≤◌, ◌^◌, pos, false, ◌-◌, List, [], ◌∷◌, ◌++◌, length, map, Some, refl, ap, subst, arith, ◌∙◌}
use Rattle.std.specs.List.{sum_by}
use Rattle.std.proofs.lemmas.List.Sums.{sum_by-cons}
use Rattle.kq_model.specs.declared.object.Named.{Named}
use Rattle.kq_model.specs.declared.object.Named.TheVariants.{Socket, PipeRead, PipeWrite, Open, Kqueue}
use Rattle.kq_model.specs.Descriptors.{Descriptor, named_among, is_before, with_descriptor, with_descriptors, without_closed}
use Rattle.kq_model.specs.Holding.{release}
use Rattle.kq_model.specs.Holders.{holders_of, hold, all_held, all_released, is_same, one_if, times, IsCounted, IsNamed, AreHeld}
use Rattle.kq_model.specs.Objects.{Objects, counted, no_objects}
use Rattle.kq_model.specs.ProcessPlans.{names_of, pairs_of, is_kqueue, descriptors_of, inherited}
use Rattle.kq_model.proofs.HeldNames.{times-append, counted-all_held, counted-all_released}
use Rattle.kq_process.specs.Counts.{IsSound, CanHoldEach, CanReleaseEach, names_in}
use Rattle.kq_process.specs.Effects.{pairs_in}
use Rattle.kq_objects.specs.Holding.{CanHold, CanRelease}
use Rattle.kq_process.specs.Processes.{descriptor_in, descriptors_in, AreOnce}
use Rattle.kq_process.proofs.Puts.{Yes, No, test}
use Rattle.kq_model.proofs.FreePlaces.{held-none, held-hold, held-release}
use Rattle.kq_objects.proofs.Counted.{can_hold-counted, can_release-counted}
use Rattle.kq_process.proofs.NamesThere.{can-hold_each, can-release_each, all-named, inherited-named, named-there, named-still}

-- ---- sums over the table

-- one where the descriptor names the object
abbrev naming : Named → Descriptor → ℕ
naming m d = one_if (is_same m d.named)

abbrev each_once : Descriptor → ℕ
each_once d = 1

times-sum : (m : Named) (t : List Descriptor) → times m (names_of t) ≡ sum_by (naming m) t
unfolding times
times-sum m [] = refl
times-sum m (d ∷ t) =
    let rest = times-sum m t in
    let all : sum_by (naming m) (d ∷ t) ≡ naming m d + sum_by (naming m) t = sum_by-cons (naming m) d t in
    omega arith

length-sum : (t : List Descriptor) → length t ≡ sum_by each_once t
length-sum [] = refl
length-sum (d ∷ t) =
    let rest = length-sum t in
    let all : sum_by each_once (d ∷ t) ≡ 1 + sum_by each_once t = sum_by-cons each_once d t in
    omega arith

sum-with : (f : Descriptor → ℕ) (d : Descriptor) (t : List Descriptor)
    → sum_by f (with_descriptor d t) ≡ sum_by f t + f d
unfolding with_descriptor
sum-with f d [] =
    let all : sum_by f (d ∷ []) ≡ f d + sum_by f [] = sum_by-cons f d [] in
    let none : sum_by f [] ≡ 0 = refl in
    omega arith
sum-with f d (e ∷ t) =
    let rest = sum-with f d t in
    let whole : sum_by f (e ∷ t) ≡ f e + sum_by f t = sum_by-cons f e t in
    let first : sum_by f (d ∷ e ∷ t) ≡ f d + sum_by f (e ∷ t) = sum_by-cons f d (e ∷ t) in
    let later : sum_by f (e ∷ with_descriptor d t) ≡ f e + sum_by f (with_descriptor d t) = sum_by-cons f e (with_descriptor d t) in
    elim (test (is_before d e)) [
      | Yes h ↦ rw h (omega arith)
      | No h ↦ rw h (omega arith)
    ]

sum-with_all : (f : Descriptor → ℕ) (ds t : List Descriptor)
    → sum_by f (with_descriptors ds t) ≡ sum_by f t + sum_by f ds
unfolding with_descriptors
sum-with_all f [] t = let none : sum_by f [] ≡ 0 = refl in omega arith
sum-with_all f (d ∷ ds) t =
    let rest = sum-with_all f ds (with_descriptor d t) in
    let one : sum_by f (with_descriptor d t) ≡ sum_by f t + f d = sum-with f d t in
    let all : sum_by f (d ∷ ds) ≡ f d + sum_by f ds = sum_by-cons f d ds in
    omega arith

-- ---- descriptors open

module _ (ds t : List Descriptor) where
  pub names-more : (m : Named) → times m (names_of (with_descriptors ds t)) ≡ times m (names_of t) + times m (names_of ds)
  names-more m =
      let after = times-sum m (with_descriptors ds t) in
      let before = times-sum m t in
      let more = times-sum m ds in
      let sums : sum_by (naming m) (with_descriptors ds t) ≡ sum_by (naming m) t + sum_by (naming m) ds = sum-with_all (naming m) ds t in
      omega arith

  pub length-more : length (with_descriptors ds t) ≡ length t + length ds
  length-more =
      let after = length-sum (with_descriptors ds t) in
      let before = length-sum t in
      let more = length-sum ds in
      let sums : sum_by each_once (with_descriptors ds t) ≡ sum_by each_once t + sum_by each_once ds = sum-with_all each_once ds t in
      omega arith

held-all_held : (ns : List Named) (o : Objects counted) → AreHeld o → AreHeld (all_held ns o)
unfolding all_held
held-all_held [] o held = held
held-all_held (n ∷ ns) o held = held-all_held ns (hold n o) (held-hold n o held)

held-all_released : (ns : List Named) (o : Objects counted) → AreHeld o → AreHeld (all_released ns o)
unfolding all_released
held-all_released [] o held = held
held-all_released (n ∷ ns) o held = held-all_released ns (release n o) (held-release n o held)

module _ (ds t : List Descriptor) (o : Objects counted) (number : ℕ) (s : IsSound t o number) where
  -- descriptors more, each of an object that is there
  pub sound-held : (more : ℕ) → more ≡ number + length ds → more < 2 ^ 64 → IsSound (with_descriptors ds t) (all_held (names_of ds) o) more
  sound-held more is room = record {
    fits = room;
    counted = counted-all_held (names_of ds) o (names_of t) (names_of (with_descriptors ds t)) (names-more ds t) s.counted;
    held = held-all_held (names_of ds) o s.held;
    number_is = let e = length-more ds t in let f = s.number_is in omega arith;
  }

  -- descriptors more, each of an object that was made
  pub sound-made : (o' : Objects counted) (more : ℕ) → more ≡ number + length ds → more < 2 ^ 64 → AreHeld o'
      → IsCounted o' (names_of ds ++ names_of t) → IsSound (with_descriptors ds t) o' more
  sound-made o' more is room held c = record {
    fits = room;
    counted = λ m. c m ∙ ap pos (let e = names-more ds t m in let f = times-append m (names_of ds) (names_of t) in omega arith);
    held = held;
    number_is = let e = length-more ds t in let f = s.number_is in omega arith;
  }

  -- ---- descriptors close

  pub names-fewer : AreOnce ds t → (m : Named)
      → times m (names_of t) ≡ times m (names_of (without_closed (pairs_of ds) t)) + times m (names_of ds)
  names-fewer once m =
      let before = times-sum m t in
      let after = times-sum m (without_closed (pairs_of ds) t) in
      let fewer = times-sum m ds in
      let sums = once (naming m) in
      omega arith

  pub sound-released : AreOnce ds t → (fewer : ℕ) → number ≡ fewer + length ds
      → IsSound (without_closed (pairs_of ds) t) (all_released (names_of ds) o) fewer
  sound-released once fewer is = record {
    fits = let f = s.fits in omega arith;
    counted = counted-all_released (names_of ds) o (names_of t) (names_of (without_closed (pairs_of ds) t)) (names-fewer once) s.counted;
    held = held-all_released (names_of ds) o s.held;
    number_is =
        let all = length-sum t in
        let left = length-sum (without_closed (pairs_of ds) t) in
        let gone = length-sum ds in
        let sums = once each_once in
        let e = s.number_is in
        omega arith;
  }

-- ---- the world at first

nobody : (m : Named) → holders_of m (no_objects counted) ≡ pos 0
unfolding holders_of
nobody (Socket p) = refl
nobody (PipeRead p) = refl
nobody (PipeWrite p) = refl
nobody (Open p f) = refl
nobody (Kqueue p) = refl

pub sound-new : (t : List Descriptor) (o : Objects counted) → t ≡ [] → o ≡ no_objects counted → IsSound t o 0
unfolding times
sound-new t o none nothing = rw (none, nothing) (record { counted = nobody; held = held-none; number_is = refl; fits = omega arith })

-- ---- one descriptor

pub once-some : (d : Descriptor) (t : List Descriptor) → AreOnce (d ∷ []) t → length t ≡ length (without_closed (pairs_of (d ∷ [])) t) + 1
once-some d t once =
    let all = length-sum t in
    let left = length-sum (without_closed (pairs_of (d ∷ [])) t) in
    let one : sum_by each_once (d ∷ []) ≡ 1 = refl in
    let sums = once each_once in
    omega arith

module _ (t : List Descriptor) (o : Objects counted) (number : ℕ) (s : IsSound t o number) (d : Descriptor) where
  pub sound-shared : (t' : List Descriptor) (o' : Objects counted) → number + 1 < 2 ^ 64 → t' ≡ with_descriptor d t → o' ≡ hold d.named o
      → IsSound t' o' (number + 1)
  unfolding with_descriptors all_held
  sound-shared t' o' room more held = rw (more, held) (sound-held (d ∷ []) t o number s (number + 1) (omega arith) room)

  pub sound-closed : AreOnce (d ∷ []) t → (t' : List Descriptor) (o' : Objects counted)
      → t' ≡ without_closed (pairs_of (d ∷ [])) t → o' ≡ release d.named o → IsSound t' o' (number - 1)
  unfolding all_released
  sound-closed once t' o' fewer released =
      let e = once-some d t once in
      let f = s.number_is in
      rw (fewer, released) (sound-released (d ∷ []) t o number s once (number - 1) (omega arith))

-- ---- the names of one process's descriptors

pub names-same : (pid : ℕ) (es : List (ℕ × Named)) → names_in es ≡ names_of (descriptors_in pid es)
names-same pid [] = refl
names-same pid (e ∷ es) = ap (λ ns. e.1 ∷ ns) (names-same pid es)

pub length-same : (pid : ℕ) (es : List (ℕ × Named)) → length es ≡ length (descriptors_in pid es)
length-same pid [] = refl
length-same pid (e ∷ es) = let rest = length-same pid es in omega arith

pub pairs-same : (pid : ℕ) (es : List (ℕ × Named)) → pairs_in (map (λ (d : ℕ × Named). (pid, d.0)) es) ≡ pairs_of (descriptors_in pid es)
pairs-same pid [] = refl
pairs-same pid (e ∷ es) = ap (λ ps. record { pid = pid; number = e.0 } ∷ ps) (pairs-same pid es)

pub length-names : (t : List Descriptor) → length (names_of t) ≡ length t
length-names [] = refl
length-names (d ∷ t) = let rest = length-names t in omega arith

pub length-inherited : (pid child : ℕ) (t : List Descriptor) → length (inherited pid child t) ≤ length (descriptors_of pid t)
length-inherited pid child [] = omega arith
length-inherited pid child (d ∷ t) =
    let rest = length-inherited pid child t in
    elim (test (d.pid == pid)) [
      | No h ↦ rw h rest
      | Yes h ↦ elim (test (is_kqueue d.named)) [
        | Yes k ↦ rw (h, k) (omega arith)
        | No k ↦ rw (h, k) (omega arith)
      ]
    ]

-- ---- the steps, as the code makes them

module _ (t : List Descriptor) (o : Objects counted) (number : ℕ) (s : IsSound t o number) where
  pub can-hold_there : (n : Named) → IsNamed n (names_of t) → number + 1 < 2 ^ 64 → CanHold n o
  can-hold_there n there room =
      let same = length-names t in
      let all = s.number_is in
      can_hold-counted n o (names_of t) s.counted there (omega arith)

  pub can-release_there : (n : Named) → IsNamed n (names_of t) → CanRelease n o
  can-release_there n there = can_release-counted n o (names_of t) s.counted there

  -- the copies that a child has
  pub can-hold_copies : (pid child : ℕ) (entries : List (ℕ × Named)) → descriptors_in child entries ≡ inherited pid child t
      → number + length (descriptors_of pid t) < 2 ^ 64 → CanHoldEach (names_in entries) o
  can-hold_copies pid child entries copies room =
      let ns : names_in entries ≡ names_of (inherited pid child t) = names-same child entries ∙ ap names_of copies in
      let few = length-inherited pid child t in
      let same = length-names t in
      let same_copies = length-names (inherited pid child t) in
      let all = s.number_is in
      rw ns (can-hold_each (names_of (inherited pid child t)) o (names_of t) s.counted
      (inherited-named pid child (names_of t) t (all-named t)) (omega arith))

  pub sound-forked : (pid child : ℕ) (entries : List (ℕ × Named)) → descriptors_in child entries ≡ inherited pid child t
      → number + length entries < 2 ^ 64 → (t' : List Descriptor) (o' : Objects counted) → t' ≡ with_descriptors (inherited pid child t) t
      → o' ≡ all_held (names_in entries) o → IsSound t' o' (number + length entries)
  sound-forked pid child entries copies room t' o' more held =
      let ns : names_in entries ≡ names_of (inherited pid child t) = names-same child entries ∙ ap names_of copies in
      let len : length entries ≡ length (inherited pid child t) = length-same child entries ∙ ap length copies in
      rw (more, held, ns) (sound-held (inherited pid child t) t o number s (number + length entries) (omega arith) room)

  -- all descriptors of a process go
  module _ (pid : ℕ) (entries : List (ℕ × Named)) (is : descriptors_in pid entries ≡ descriptors_of pid t)
      (once : AreOnce (descriptors_of pid t) t) where
    pub exit-names : names_in entries ≡ names_of (descriptors_of pid t)
    exit-names = names-same pid entries ∙ ap names_of is

    exit-length : number ≡ length (without_closed (pairs_of (descriptors_of pid t)) t) + length entries
    exit-length =
        let len : length entries ≡ length (descriptors_of pid t) = length-same pid entries ∙ ap length is in
        let all = length-sum t in
        let left = length-sum (without_closed (pairs_of (descriptors_of pid t)) t) in
        let gone = length-sum (descriptors_of pid t) in
        let sums = once each_once in
        let e = s.number_is in
        omega arith

    pub exit-within : length entries ≤ number
    exit-within = let e = exit-length in omega arith

    pub can-release_all : CanReleaseEach (names_in entries) o
    can-release_all = rw exit-names (can-release_each (names_of (descriptors_of pid t)) o (names_of t)
        (names_of (without_closed (pairs_of (descriptors_of pid t)) t)) s.counted
        (names-fewer (descriptors_of pid t) t o number s once))

    pub sound-exited : (t' : List Descriptor) (o' : Objects counted) → t' ≡ without_closed (pairs_of (descriptors_of pid t)) t
        → o' ≡ all_released (names_in entries) o → IsSound t' o' (number - length entries)
    sound-exited t' o' fewer released =
        let e = exit-length in
        let len : length entries ≡ length (descriptors_of pid t) = length-same pid entries ∙ ap length is in
        rw (fewer, released, exit-names) (sound-released (descriptors_of pid t) t o number s once (number - length entries) (omega arith))

-- a number is closed, and then names what another one names
module _ (pid fd to : ℕ) (before n : Named) (t : List Descriptor) (o : Objects counted) (number : ℕ) (s : IsSound t o number)
    (once : AreOnce (descriptor_in pid (to, before) ∷ []) t) where
  abbrev closed_to : List Descriptor
  closed_to = without_closed (record { pid = pid; number = to } ∷ []) t

  closed_sound : IsSound closed_to (release before o) (number - 1)
  closed_sound = sound-closed t o number s (descriptor_in pid (to, before)) once closed_to (release before o) refl refl

  pub can-hold_again : named_among pid fd t ≡ Some n → (fd == to) ≡ false → (o' : Objects counted)
      → o' ≡ release before o → CanHold n o'
  can-hold_again there other o' released =
      let room = s.fits in
      let some = once-some (descriptor_in pid (to, before)) t once in
      let e = s.number_is in
      rw released (can-hold_there closed_to (release before o) (number - 1) closed_sound n
      (named-there pid fd closed_to n (named-still pid fd to t other ∙ there)) (omega arith))

  pub sound-replaced : (t' : List Descriptor) (o' : Objects counted) → t' ≡ with_descriptor (descriptor_in pid (to, n)) closed_to
      → o' ≡ hold n (release before o) → IsSound t' o' number
  sound-replaced t' o' more held =
      let room = s.fits in
      let some = once-some (descriptor_in pid (to, before)) t once in
      let e = s.number_is in
      let Sound : ℕ → Type 0 = λ k. IsSound t' o' k in
      let same : number - 1 + 1 ≡ number = omega arith in
      subst Sound same (sound-shared closed_to (release before o) (number - 1) closed_sound (descriptor_in pid (to, n)) t' o' (omega arith) more held)
