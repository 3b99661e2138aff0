-- The processes that descend from named ones are closed under forks: who forks was there before, so it is no child of
-- this fork or of a later one.
use Rattle.std.proofs.Common.{◌≡◌, ◌==◌, ℕ, Bool, true, false, cond, ◌||◌, List, [], ◌∷◌, ◌++◌, Option, Some, refl, sym, ap, ◌∙◌, subst}
use Rattle.std.proofs.lemmas.Bool.{false≢true, eq-eqb}
use Rattle.std.proofs.lemmas.List.Elements.{All-nil, All-cons, All-head, All-tail, All-weaker}
use Rattle.std.specs.List.{All, list_any}
use Rattle.kq_model.specs.declared.object.Target.{Target}
use Rattle.kq_model.specs.declared.object.Target.TheVariants.{Process}
use Rattle.kq_model.specs.Following.{Fork}
use Rattle.kq_model.specs.Hearing.{Hearing}
use Rattle.kq_model.specs.References.{Reference, has_pid, with_child, descended, pid_of, pids_in, is_process_of, names_in}
use Rattle.kq_model.specs.Targets.{is_target}
use Rattle.kq_model.proofs.KnoteLaws.{by_test}
use Rattle.kq_model.proofs.PrivateParts.{IsClosedUnder}
use Rattle.kq_model.proofs.SameTarget.{watched_is}

-- it is no child of this fork
abbrev pub IsNoChild : ℕ → Fork → Type 0
IsNoChild pid f = (f.child == pid) ≡ false

-- no fork is by a child of a later one
abbrev pub AreBornFirst : List Fork → Type 0
AreBornFirst [] = Unit {0}
AreBornFirst (f ∷ fs) = All (IsNoChild f.parent) fs × AreBornFirst fs

-- ---- lists of pids

or_false : (b : Bool) → b || false ≡ b
or_false true = refl
or_false false = refl

or_true : (b : Bool) → b || true ≡ true
or_true true = refl
or_true false = refl

has_pid-append : (pid : ℕ) (xs ys : List ℕ) → has_pid pid (xs ++ ys) ≡ has_pid pid xs || has_pid pid ys
has_pid-append pid [] ys = refl
has_pid-append pid (x ∷ xs) ys = by_test (λ b. b || has_pid pid (xs ++ ys) ≡ (b || has_pid pid xs) || has_pid pid ys) (x == pid)
    (λ _. refl) (λ _. has_pid-append pid xs ys)

stays-left : (pid : ℕ) (xs ys : List ℕ) → has_pid pid xs ≡ true → has_pid pid (xs ++ ys) ≡ true
stays-left pid xs ys there = has_pid-append pid xs ys ∙ ap (λ b. b || has_pid pid ys) there

-- ---- one fork

with_child-keeps : (f : Fork) (pids : List ℕ) (pid : ℕ) → has_pid pid pids ≡ true → has_pid pid (with_child f pids) ≡ true
with_child-keeps f pids pid there =
    by_test (λ b. has_pid pid (cond b (pids ++ f.child ∷ []) pids) ≡ true) (has_pid f.parent pids)
    (λ _. stays-left pid pids (f.child ∷ []) there) (λ _. there)

with_child-other : (f : Fork) (pids : List ℕ) (pid : ℕ) → IsNoChild pid f → has_pid pid (with_child f pids) ≡ has_pid pid pids
with_child-other f pids pid other =
    by_test (λ b. has_pid pid (cond b (pids ++ f.child ∷ []) pids) ≡ has_pid pid pids) (has_pid f.parent pids)
    (λ _. has_pid-append pid pids (f.child ∷ []) ∙ ap (λ b. has_pid pid pids || (b || false)) other ∙ or_false (has_pid pid pids)) (λ _. refl)

-- ---- all of them

pub descended-keeps : (fs : List Fork) (pids : List ℕ) (pid : ℕ) → has_pid pid pids ≡ true → has_pid pid (descended fs pids) ≡ true
unfolding descended
descended-keeps [] pids pid there = there
descended-keeps (f ∷ fs) pids pid there = descended-keeps fs (with_child f pids) pid (with_child-keeps f pids pid there)

descended-other : (fs : List Fork) (pids : List ℕ) (pid : ℕ) → All (IsNoChild pid) fs → has_pid pid (descended fs pids) ≡ has_pid pid pids
unfolding descended
descended-other [] pids pid others = refl
descended-other (f ∷ fs) pids pid others =
    descended-other fs (with_child f pids) pid (All-tail (IsNoChild pid) f fs others)
    ∙ with_child-other f pids pid (All-head (IsNoChild pid) f fs others)

abbrev pub PassesOn : List ℕ → Fork → Type 0
PassesOn pids f = has_pid f.parent pids ≡ true → has_pid f.child pids ≡ true

-- where the parent is among them before the fork, the child is afterwards
child-comes : (f : Fork) (pids : List ℕ) → has_pid f.parent (with_child f pids) ≡ true → has_pid f.child (with_child f pids) ≡ true
child-comes f pids =
    by_test (λ b. has_pid f.parent pids ≡ b → has_pid f.parent (cond b (pids ++ f.child ∷ []) pids) ≡ true
    → has_pid f.child (cond b (pids ++ f.child ∷ []) pids) ≡ true) (has_pid f.parent pids)
    (λ _ _ _. has_pid-append f.child pids (f.child ∷ []) ∙ ap (λ b. has_pid f.child pids || (b || false)) (eq-eqb f.child f.child refl)
    ∙ or_true (has_pid f.child pids))
    (λ _ absent there. absurd (false≢true (sym absent ∙ there))) refl

pub descended-closed : (fs : List Fork) (pids : List ℕ) → AreBornFirst fs → All (PassesOn (descended fs pids)) fs
unfolding descended
descended-closed [] pids born = All-nil (PassesOn pids)
descended-closed (f ∷ fs) pids born =
    let next = with_child f pids in
    All-cons (PassesOn (descended fs next)) f fs
    (λ there. descended-keeps fs next f.child (child-comes f pids (sym (descended-other fs next f.parent born.0) ∙ there)))
    (descended-closed fs next born.1)

-- ---- what is named

-- a process is named by itself
pub named-pid : (rs : List Reference) (pid : ℕ) → list_any (λ (r : Reference). is_target r.target (Process pid)) rs ≡ true → has_pid pid (pids_in rs) ≡ true
unfolding pids_in pid_of
named-pid [] pid named = absurd (false≢true named)
named-pid (r ∷ rs) pid named =
    by_test (λ b. is_target r.target (Process pid) ≡ b → b || list_any (λ (x : Reference). is_target x.target (Process pid)) rs ≡ true
    → has_pid pid (pid_of r.target ++ pids_in rs) ≡ true) (is_target r.target (Process pid))
    (λ _ is _. stays-left pid (pid_of r.target) (pids_in rs) (itself r.target (watched_is r.target (Process pid) is)))
    (λ _ _ later. has_pid-append pid (pid_of r.target) (pids_in rs) ∙ ap (λ b. has_pid pid (pid_of r.target) || b) (named-pid rs pid later)
    ∙ or_true (has_pid pid (pid_of r.target))) refl named
  where
    here : has_pid pid (pid_of (Some (Process pid))) ≡ true
    here = ap (λ b. b || false) (eq-eqb pid pid refl)

    itself : (t : Option Target) → t ≡ Some (Process pid) → has_pid pid (pid_of t) ≡ true
    itself t is = subst (λ x. has_pid pid (pid_of x) ≡ true) (sym is) here

pub names-closed : {S : Type 0} (h : Hearing S) (forks : List Fork) (rs : List Reference) → AreBornFirst forks
    → All (IsClosedUnder h (names_in forks rs)) forks
unfolding is_process_of
names-closed h forks rs born =
    let pids = descended forks (pids_in rs) in
    All-weaker (PassesOn pids) (IsClosedUnder h (names_in forks rs))
    (λ f passes named. ap (λ b. list_any (λ (r : Reference). is_target r.target (Process f.child)) rs || b)
    (passes (is_descended f.parent named)) ∙ or_true (list_any (λ (r : Reference). is_target r.target (Process f.child)) rs))
    forks (descended-closed forks (pids_in rs) born)
  where
    is_descended : (pid : ℕ) → list_any (λ (r : Reference). is_target r.target (Process pid)) rs || has_pid pid (descended forks (pids_in rs)) ≡ true
        → has_pid pid (descended forks (pids_in rs)) ≡ true
    is_descended pid named =
        by_test (λ b. list_any (λ (r : Reference). is_target r.target (Process pid)) rs ≡ b → b || has_pid pid (descended forks (pids_in rs)) ≡ true
        → has_pid pid (descended forks (pids_in rs)) ≡ true) (list_any (λ (r : Reference). is_target r.target (Process pid)) rs)
        (λ _ is _. descended-keeps forks (pids_in rs) pid (named-pid rs pid is)) (λ _ _ is. is) refl named
