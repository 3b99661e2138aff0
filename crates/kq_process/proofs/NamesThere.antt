-- Which names are there while descriptors open and close, and that each of them can be held and released.
use Rattle.std.proofs.Common.{◌≡◌, ◌==◌, ℕ, ◌+◌, ◌<◌, ◌≤◌, ◌^◌, Bool, true, false, ◌&&◌, List, [], ◌∷◌, ◌++◌, length, Option, Some, None, refl, arith}
use Rattle.std.specs.Option.{is_some}
use Rattle.std.proofs.lemmas.Bool.Decides.{nat_tests}
use Rattle.kq_model.specs.declared.object.Named.{Named}
use Rattle.kq_model.specs.declared.object.Named.TheVariants.{Socket, PipeRead, PipeWrite, Open, Kqueue}
use Rattle.kq_model.specs.Descriptors.{Descriptor, named_among, without_closed}
use Rattle.kq_model.specs.Holding.{release}
use Rattle.kq_model.specs.Holders.{hold, is_same, one_if, times, IsCounted, IsNamed}
use Rattle.kq_model.specs.Objects.{Objects, counted}
use Rattle.kq_model.specs.ProcessPlans.{names_of, is_kqueue, inherited}
use Rattle.kq_model.proofs.HeldNames.{times-append, counted-more, counted-fewer, named-in}
use Rattle.kq_process.specs.Counts.{CanHoldEach, CanReleaseEach}
use Rattle.kq_process.proofs.Puts.{Yes, No, test}
use Rattle.kq_objects.proofs.Counted.{can_hold-counted, can_release-counted}

-- ---- each can be counted

-- a name that is there as often or more often
named-again : (n : Named) (ns ms : List Named) → times n ns ≤ times n ms → IsNamed n ns → IsNamed n ms
named-again (Socket p) ns ms more there = omega arith
named-again (PipeRead p) ns ms more there = omega arith
named-again (PipeWrite p) ns ms more there = omega arith
named-again (Open p f) ns ms more there = omega arith
named-again (Kqueue p) ns ms more there = tt

abbrev pub AreNamed : List Named → List Named → Type 0
AreNamed [] names = Unit {0}
AreNamed (n ∷ ns) names = IsNamed n names × AreNamed ns names

more-times : (m n : Named) (names : List Named) → times m names ≤ times m (n ∷ names)
unfolding times
more-times m n names = omega arith

named-more : (n : Named) (ns names : List Named) → AreNamed ns names → AreNamed ns (n ∷ names)
named-more n [] names there = tt
named-more n (m ∷ ns) names there =
    (named-again m names (n ∷ names) (more-times m n names) there.0, named-more n ns names there.1)

once-more : (n : Named) (names : List Named) (m : Named) → times m (n ∷ names) ≡ times m names + one_if (is_same m n)
unfolding times
once-more n names m = refl

pub can-hold_each : (ns : List Named) (o : Objects counted) (names : List Named) → IsCounted o names → AreNamed ns names
    → length names + length ns < 2 ^ 64 → CanHoldEach ns o
can-hold_each [] o names c there room = tt
can-hold_each (n ∷ ns) o names c there room = (
  can_hold-counted n o names c there.0 (omega arith),
  can-hold_each ns (hold n o) (n ∷ names) (counted-more n o names (n ∷ names) (once-more n names) c)
      (named-more n ns names there.1) (omega arith),
)

first-named : (n : Named) (ns before after : List Named) → ((m : Named) → times m before ≡ times m after + times m (n ∷ ns))
    → IsNamed n before
first-named n ns before after is =
    named-again n (n ∷ ns) before (let e = is n in omega arith) (named-in n [] ns)

pub can-release_each : (ns : List Named) (o : Objects counted) (before after : List Named) → IsCounted o before
    → ((m : Named) → times m before ≡ times m after + times m ns) → CanReleaseEach ns o
unfolding times
can-release_each [] o before after c is = tt
can-release_each (n ∷ ns) o before after c is = (
  can_release-counted n o before c (first-named n ns before after is),
  can-release_each ns (release n o) (ns ++ after) after
      (counted-fewer n o before (ns ++ after)
      (λ m. let e : times m before ≡ times m after + (times m ns + one_if (is_same m n)) = is m in let a = times-append m ns after in omega arith) c)
      (λ m. let a = times-append m ns after in omega arith),
)

-- ---- what a child's descriptors name, its parent's do

pub all-named : (t : List Descriptor) → AreNamed (names_of t) (names_of t)
all-named [] = tt
all-named (d ∷ t) = (named-in d.named [] (names_of t), named-more d.named (names_of t) (names_of t) (all-named t))

pub inherited-named : (pid child : ℕ) (names : List Named) (t : List Descriptor) → AreNamed (names_of t) names
    → AreNamed (names_of (inherited pid child t)) names
inherited-named pid child names [] there = tt
inherited-named pid child names (d ∷ t) there =
    let rest = inherited-named pid child names t there.1 in
    elim (test (d.pid == pid)) [
      | No h ↦ rw h rest
      | Yes h ↦ elim (test (is_kqueue d.named)) [
        | Yes k ↦ rw (h, k) rest
        | No k ↦ rw (h, k) (there.0, rest)
      ]
    ]

-- ---- what a number names is named

apart : (b : Bool) (n m k : ℕ) → (n == m) ≡ false → (m == k) ≡ true → (b && (k == n)) ≡ false
apart true n m k other same = grind (arith, nat_tests)
apart false n m k other same = refl

module _ (pid n : ℕ) where
  pub named-there : (t : List Descriptor) (v : Named) → named_among pid n t ≡ Some v → IsNamed v (names_of t)
  unfolding named_among
  named-there [] v found = absurd (cc)
  named-there (d ∷ t) v found = elim (test ((d.pid == pid) && (d.number == n))) [
    | Yes h ↦
        let is : Some d.named ≡ Some v = rw h at found in
        let same : d.named ≡ v = cc in
        rw (← same) (named-in d.named [] (names_of t))
    | No h ↦ named-again v (names_of t) (d.named ∷ names_of t) (more-times v d.named (names_of t))
        (named-there t v (rw h at found))
  ]

  -- another number stays open
  pub named-still : (m : ℕ) (t : List Descriptor) → (n == m) ≡ false
      → named_among pid n (without_closed (record { pid = pid; number = m } ∷ []) t) ≡ named_among pid n t
  unfolding named_among
  named-still m [] other = refl
  named-still m (d ∷ t) other = elim (test (pid == d.pid)) [
    | No p ↦ rw p (elim (test ((d.pid == pid) && (d.number == n))) [ Yes h ↦ rw h refl | No h ↦ rw h (named-still m t other) ])
    | Yes p ↦ elim (test (m == d.number)) [
      | No k ↦ rw (p, k) (elim (test ((d.pid == pid) && (d.number == n))) [ Yes h ↦ rw h refl | No h ↦ rw h (named-still m t other) ])
      | Yes k ↦
          let away : ((d.pid == pid) && (d.number == n)) ≡ false = apart (d.pid == pid) n m d.number other k in
          rw (p, k, away) (named-still m t other)
    ]
  ]

pub none-there : (o : Option Named) → is_some o ≡ false → o ≡ None
none-there None none = refl
none-there (Some n) none = absurd (cc)
