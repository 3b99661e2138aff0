-- Over a whole run the live kqueues stand by rising place of birth. So the answer of a call is of each live kqueue that has
-- its place, of which there is one.
use Rattle.std.proofs.Common.{◌≡◌, ℕ, suc, ◌+◌, ◌≤◌, ◌==◌, Bool, true, cond, not, eqb-true, List, [], ◌∷◌, ◌++◌, map, filter, Option, Some, None, refl, sym, ap, ◌∙◌, arith}
use Rattle.std.proofs.lemmas.Bool.{cond_both, eq-eqb, true≢false}
use Rattle.std.proofs.lemmas.List.Elements.{All-nil, All-cons, All-head, All-tail, All-weaker}
use Rattle.std.specs.Prelude.{All}
use Rattle.kq_model.specs.declared.event.Event.{Event}
use Rattle.kq_model.specs.declared.reply.Reply.{Reply}
use Rattle.kq_model.specs.declared.reply.Reply.TheVariants.{Done}
use Rattle.kq_model.specs.Close.{Pair, has_pair}
use Rattle.kq_model.specs.Moment.{Moment, moment_of, called_at}
use Rattle.kq_model.specs.Plans.{plan}
use Rattle.kq_model.specs.System.{stepped, lived, born, answer, reply_to, step_by, step}
use Rattle.kq_model.specs.Tallied.{Live, System}
use Rattle.kq_model.specs.World.{Call, Planned, Impossible, Possible, seen_world}
use Rattle.kq_model.proofs.KnoteLaws.{by_test}
use Rattle.kq_laws.specs.Runs.{find_live}

-- rising, and from one place up to another
abbrev pub Rise : ℕ → ℕ → List Live → Type 0
Rise low high [] = low ≤ high
Rise low high (l ∷ ls) = (low ≤ l.place) × Rise (suc l.place) high ls

rise-from : (low lower high : ℕ) (ls : List Live) → lower ≤ low → Rise low high ls → Rise lower high ls
rise-from low lower high [] less rise = omega (arith, less, rise)
rise-from low lower high (l ∷ ls) less rise = (omega (arith, less, rise.0), rise.1)

rise-filter : (keeps : Live → Bool) (low high : ℕ) (ls : List Live) → Rise low high ls → Rise low high (filter keeps ls)
rise-filter keeps low high [] rise = rise
rise-filter keeps low high (l ∷ ls) rise =
    let rest = rise-filter keeps (suc l.place) high ls rise.1 in
    cond_both (keeps l) (l ∷ filter keeps ls) (filter keeps ls) (λ (some : List Live). Rise low high some)
    (λ _. (rise.0, rest)) (λ _. rise-from (suc l.place) low high (filter keeps ls) (omega (arith, rise.0)) rest)

rise-stepped : (m : Moment) (low high : ℕ) (ls : List Live) → Rise low high ls → Rise low high (map (stepped m) ls)
unfolding stepped
rise-stepped m low high [] rise = rise
rise-stepped m low high (l ∷ ls) rise = (rise.0, rise-stepped m (suc l.place) high ls rise.1)

rise-lived : (m : Moment) (low high : ℕ) (ls : List Live) → Rise low high ls → Rise low high (lived m ls)
unfolding lived
rise-lived m low high ls rise =
    rise-stepped m low high (filter (λ (l : Live). not (has_pair l.owner l.number m.closed)) ls)
    (rise-filter (λ (l : Live). not (has_pair l.owner l.number m.closed)) low high ls rise)

-- one more that is made here
rise-born : (place low : ℕ) (p : Option Pair) (ls : List Live) → Rise low place ls → Rise low (place + 1) (ls ++ born place p)
unfolding born
rise-born place low None [] rise = omega (arith, rise)
rise-born place low (Some p) [] rise = (rise, omega arith)
rise-born place low p (l ∷ ls) rise = (rise.0, rise-born place (suc l.place) p ls rise.1)

rise-later : (place low : ℕ) (ls : List Live) → Rise low place ls → Rise low (place + 1) ls
rise-later place low [] rise = omega (arith, rise)
rise-later place low (l ∷ ls) rise = (rise.0, rise-later place (suc l.place) ls rise.1)

-- ---- a run

rise-by : (place : ℕ) (q : Planned) (s : System) → Rise 0 place s.live → Rise 0 (place + 1) (step_by place q s).system.live
unfolding step_by
rise-by place (Impossible why) s rise = rise-later place 0 s.live rise
rise-by place (Possible p) s rise =
    let m = moment_of s.version place p s.world in
    rise-born place 0 p.born (lived m s.live) (rise-lived m 0 place s.live rise)

pub rise-step : (place : ℕ) (e : Event) (s : System) → Rise 0 place s.live → Rise 0 (place + 1) (step place e s).system.live
unfolding step
rise-step place e s rise = rise-by place (plan place e (seen_world s.world)) s rise

-- both hold of all
pub all-and : (P Q : Live → Type 0) (ls : List Live) → All P ls → All Q ls → All (λ (l : Live). P l × Q l) ls
all-and P Q [] first second = All-nil (λ (l : Live). P l × Q l)
all-and P Q (l ∷ ls) first second =
    All-cons (λ (x : Live). P x × Q x) l ls (All-head P l ls first, All-head Q l ls second)
    (all-and P Q ls (All-tail P l ls first) (All-tail Q l ls second))

-- ---- the answer is of each kqueue of the place

-- if it is called, this is what it answers
abbrev pub IsAnswered : Moment → Reply → Option Call → Live → Type 0
IsAnswered m reply None l = Unit {0}
IsAnswered m reply (Some c) l = (c.kqueue == l.place) ≡ true → reply ≡ (called_at l.owner m c l.kq).reply

later-places : (low high : ℕ) (ls : List Live) → Rise low high ls → All (λ (l : Live). low ≤ l.place) ls
later-places low high [] rise = All-nil (λ (l : Live). low ≤ l.place)
later-places low high (l ∷ ls) rise =
    All-cons (λ (x : Live). low ≤ x.place) l ls rise.0
    (All-weaker (λ (x : Live). suc l.place ≤ x.place) (λ (x : Live). low ≤ x.place) (λ x later. omega (arith, later, rise.0)) ls
    (later-places (suc l.place) high ls rise.1))

-- a later place is another
another : (a b : ℕ) (c : ℕ) → suc a ≤ b → (c == a) ≡ true → (c == b) ≡ true → ⊥
another a b c later first second = omega (arith, later, eqb-true c a first, eqb-true c b second)

-- so each is the one that is found at its place
pub all-found : (low high : ℕ) (ls : List Live) → Rise low high ls → All (λ (l : Live). find_live l.place ls ≡ Some l) ls
all-found low high [] rise = All-nil (λ (l : Live). find_live l.place [] ≡ Some l)
all-found low high (l ∷ ls) rise =
    All-cons (λ (x : Live). find_live x.place (l ∷ ls) ≡ Some x) l ls
    (ap (λ b. cond b (Some l) (find_live l.place ls)) (eq-eqb l.place l.place refl))
    (All-weaker (λ (x : Live). (suc l.place ≤ x.place) × (find_live x.place ls ≡ Some x))
    (λ (x : Live). find_live x.place (l ∷ ls) ≡ Some x)
    (λ x both. by_test (λ b. (x.place == l.place) ≡ b → cond b (Some l) (find_live x.place ls) ≡ Some x) (x.place == l.place)
    (λ _ here. absurd (omega (arith, both.0, eqb-true x.place l.place here))) (λ _ _. both.1) refl) ls
    (all-and (λ (x : Live). suc l.place ≤ x.place) (λ (x : Live). find_live x.place ls ≡ Some x) ls
    (later-places (suc l.place) high ls rise.1) (all-found (suc l.place) high ls rise.1)))

answers-all : (m : Moment) (c : Call) (low high : ℕ) (ls : List Live) → Rise low high ls
    → All (IsAnswered m (answer m c ls) (Some c)) ls
unfolding answer
answers-all m c low high [] rise = All-nil (IsAnswered m Done (Some c))
answers-all m c low high (l ∷ ls) rise =
    by_test (λ b. (c.kqueue == l.place) ≡ b → All (IsAnswered m (cond b (called_at l.owner m c l.kq).reply (answer m c ls)) (Some c)) (l ∷ ls))
    (c.kqueue == l.place)
    (λ _ here. All-cons (IsAnswered m (called_at l.owner m c l.kq).reply (Some c)) l ls (λ _. refl)
    (All-weaker (λ (x : Live). suc l.place ≤ x.place) (IsAnswered m (called_at l.owner m c l.kq).reply (Some c))
    (λ x later there. absurd (another l.place x.place c.kqueue later here there)) ls (later-places (suc l.place) high ls rise.1)))
    (λ _ apart. All-cons (IsAnswered m (answer m c ls) (Some c)) l ls (λ here. absurd (true≢false (sym here ∙ apart)))
    (answers-all m c (suc l.place) high ls rise.1)) refl

none-called : (m : Moment) (given : Reply) (ls : List Live) → All (IsAnswered m given None) ls
none-called m given [] = All-nil (IsAnswered m given None)
none-called m given (l ∷ ls) = All-cons (IsAnswered m given None) l ls tt (none-called m given ls)

pub replies-all : (m : Moment) (c : Option Call) (high : ℕ) (ls : List Live) → Rise 0 high ls
    → All (IsAnswered m (reply_to m c ls) c) ls
unfolding reply_to
replies-all m None high ls rise = none-called m (reply_to m None ls) ls
replies-all m (Some c) high ls rise = answers-all m c 0 high ls rise
