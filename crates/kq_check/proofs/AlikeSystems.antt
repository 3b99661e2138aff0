-- Systems that are alike: one world, and kqueues that are alike, one beside the other.
use Rattle.std.proofs.Common.{◌≡◌, ℕ, suc, ◌+◌, ◌≤◌, ◌==◌, Bool, true, cond, not, eqb-true, List, [], ◌∷◌, ◌++◌, map, filter, Option, Some, None, refl, sym, ap, ◌∙◌, subst}
use Rattle.std.proofs.lemmas.List.Elements.{All-head, All-tail, All-cons, All-nil, All-filter, All-weaker}
use Rattle.std.specs.Prelude.{All}
use Rattle.kq_model.specs.Close.{Pair, has_pair, is_closed, closed}
use Rattle.kq_model.specs.Following.{followed}
use Rattle.kq_model.specs.Hints.{notified}
use Rattle.kq_model.specs.Kqueue.{IsSound}
use Rattle.kq_model.specs.Moment.{Moment, after_call, happened, kqueue_step}
use Rattle.kq_model.specs.System.{stepped, lived, born}
use Rattle.kq_model.specs.Tallied.{Knote, Kqueue, Live, System}
use Rattle.kq_model.specs.Targets.{Posted}
use Rattle.kq_model.specs.Views.{Views}
use Rattle.kq_model.specs.World.{seen_world, views_of}
use Rattle.kq_model.proofs.KnoteLaws.{by_test}
use Rattle.kq_kevent.proofs.SoundLaws.{IsSound-empty}
use Rattle.kq_system.specs.Beginning.{live_at, with_live_at}
use Rattle.kq_judge.proofs.Alike.{AreAlike, alike-itself}
use Rattle.kq_judge.proofs.AlikeHints.{AreHinted, closed-alike, notified-alike, followed-alike, clocked-alike}
use Rattle.kq_laws.specs.Runs.{find_live}
use Rattle.kq_laws.specs.Wakes.{IsAnnounced}
use Rattle.kq_laws.proofs.Lists.{found-is}
use Rattle.kq_laws.proofs.Lives.{happened-sound}
use Rattle.kq_laws.proofs.RunPlaces.{Rise, all-found}
use Rattle.kq_laws.proofs.Runs.{IsRun}
use Rattle.kq_laws.proofs.Sound.{closed-sound}

-- ---- live kqueues

pub record IsPair (views : Views) (l k : Live) : Type 0 where
  pub frame : k ≡ record l { kq = k.kq }
  pub alike : AreAlike views l.kq.knotes k.kq.knotes
  pub sound : IsSound l.kq
  pub other : IsSound k.kq

abbrev pub ArePairs : Views → List Live → List Live → Type 0
ArePairs views [] [] = Unit {0}
ArePairs views [] (k ∷ ks) = ⊥
ArePairs views (l ∷ ls) [] = ⊥
ArePairs views (l ∷ ls) (k ∷ ks) = IsPair views l k × ArePairs views ls ks

abbrev pub IfPair : Views → Option Live → Option Live → Type 0
IfPair views None None = Unit {0}
IfPair views None (Some k) = ⊥
IfPair views (Some l) None = ⊥
IfPair views (Some l) (Some k) = IsPair views l k

abbrev pub with_kq : Kqueue → Live → Live
with_kq kq l = record l { kq = kq }

pub pair-place : (views : Views) (l k : Live) → IsPair views l k → k.place ≡ l.place
pair-place views l k pair = ap (λ (x : Live). x.place) pair.frame

pub pair-owner : (views : Views) (l k : Live) → IsPair views l k → k.owner ≡ l.owner
pair-owner views l k pair = ap (λ (x : Live). x.owner) pair.frame

pub pair-with : (views : Views) (l k : Live) (kq lq : Kqueue) → k ≡ record l { kq = k.kq } → AreAlike views kq.knotes lq.knotes
    → IsSound kq → IsSound lq → IsPair views (with_kq kq l) (with_kq lq k)
pair-with views l k kq lq frame alike sound other = record { frame = ap (with_kq lq) frame; alike = alike; sound = sound; other = other }

pub pair-seen : (views later : Views) (l k : Live) → views ≡ later → IsPair views l k → IsPair later l k
pair-seen views later l k same pair = subst (λ (v : Views). IsPair v l k) same pair

pub pairs-seen : (views later : Views) (ls ks : List Live) → views ≡ later → ArePairs views ls ks → ArePairs later ls ks
pairs-seen views later ls ks same pairs = subst (λ (v : Views). ArePairs v ls ks) same pairs

pub pairs-map : (views later : Views) (P Q : Live → Type 0) (f g : Live → Live)
    → ((l k : Live) → P l → Q k → IsPair views l k → IsPair later (f l) (g k))
    → (ls ks : List Live) → All P ls → All Q ks → ArePairs views ls ks → ArePairs later (map f ls) (map g ks)
pairs-map views later P Q f g each [] [] has have pairs = tt
pairs-map views later P Q f g each [] (k ∷ ks) has have pairs = absurd pairs
pairs-map views later P Q f g each (l ∷ ls) [] has have pairs = absurd pairs
pairs-map views later P Q f g each (l ∷ ls) (k ∷ ks) has have pairs = (
  each l k (All-head P l ls has) (All-head Q k ks have) pairs.0,
  pairs-map views later P Q f g each ls ks (All-tail P l ls has) (All-tail Q k ks have) pairs.1,
)

pub pairs-append : (views : Views) (ls ks more others : List Live) → ArePairs views ls ks → ArePairs views more others
    → ArePairs views (ls ++ more) (ks ++ others)
pairs-append views [] [] more others pairs rest = rest
pairs-append views [] (k ∷ ks) more others pairs rest = absurd pairs
pairs-append views (l ∷ ls) [] more others pairs rest = absurd pairs
pairs-append views (l ∷ ls) (k ∷ ks) more others pairs rest = (pairs.0, pairs-append views ls ks more others pairs.1 rest)

pub pairs-filter : (views : Views) (shut : List Pair) (ls ks : List Live) → ArePairs views ls ks
    → ArePairs views (filter (λ (l : Live). not (has_pair l.owner l.number shut)) ls)
    (filter (λ (l : Live). not (has_pair l.owner l.number shut)) ks)
pairs-filter views shut [] [] pairs = tt
pairs-filter views shut [] (k ∷ ks) pairs = absurd pairs
pairs-filter views shut (l ∷ ls) [] pairs = absurd pairs
pairs-filter views shut (l ∷ ls) (k ∷ ks) pairs =
    let p : Live → Bool = λ (x : Live). not (has_pair x.owner x.number shut) in
    let rest = pairs-filter views shut ls ks pairs.1 in
    subst (λ b. ArePairs views (cond (p l) (l ∷ filter p ls) (filter p ls)) (cond b (k ∷ filter p ks) (filter p ks)))
    (sym (ap p pairs.0.frame))
    (by_test (λ b. ArePairs views (cond b (l ∷ filter p ls) (filter p ls)) (cond b (k ∷ filter p ks) (filter p ks))) (p l)
    (λ _. (pairs.0, rest)) (λ _. rest))

pub pairs-found : (views : Views) (place : ℕ) (ls ks : List Live) → ArePairs views ls ks
    → IfPair views (live_at place ls) (live_at place ks)
unfolding live_at
pairs-found views place [] [] pairs = tt
pairs-found views place [] (k ∷ ks) pairs = absurd pairs
pairs-found views place (l ∷ ls) [] pairs = absurd pairs
pairs-found views place (l ∷ ls) (k ∷ ks) pairs =
    subst (λ (at : ℕ). IfPair views (cond (place == l.place) (Some l) (live_at place ls)) (cond (place == at) (Some k) (live_at place ks)))
    (sym (pair-place views l k pairs.0))
    (by_test (λ b. IfPair views (cond b (Some l) (live_at place ls)) (cond b (Some k) (live_at place ks))) (place == l.place)
    (λ _. pairs.0) (λ _. pairs-found views place ls ks pairs.1))

-- something is done with those of a place
module _ (views : Views) (place : ℕ) (does other : Live → Kqueue) (P Q : Live → Type 0) where
  at_one : (l k : Live) → ((place == l.place) ≡ true → IsPair views (with_kq (does l) l) (with_kq (other k) k)) → IsPair views l k
      → IsPair views (cond (place == l.place) (with_kq (does l) l) l) (cond (place == k.place) (with_kq (other k) k) k)
  at_one l k here pair =
      subst (λ (at : ℕ). IsPair views (cond (place == l.place) (with_kq (does l) l) l) (cond (place == at) (with_kq (other k) k) k))
      (sym (pair-place views l k pair))
      (by_test (λ b. (place == l.place) ≡ b → IsPair views (cond b (with_kq (does l) l) l) (cond b (with_kq (other k) k) k)) (place == l.place)
      (λ _ is. here is) (λ _ _. pair) refl)

  pub pairs-at : ((l k : Live) → P l → Q k → (place == l.place) ≡ true → IsPair views l k
      → IsPair views (with_kq (does l) l) (with_kq (other k) k))
      → (ls ks : List Live) → All P ls → All Q ks → ArePairs views ls ks
      → ArePairs views (with_live_at place does ls) (with_live_at place other ks)
  pairs-at each ls ks has have pairs =
      pairs-map views views P Q (λ (l : Live). cond (place == l.place) (with_kq (does l) l) l)
      (λ (k : Live). cond (place == k.place) (with_kq (other k) k) k)
      (λ l k is are pair. at_one l k (λ here. each l k is are here pair) pair) ls ks has have pairs

pub rise-at : (place : ℕ) (does : Live → Kqueue) (low high : ℕ) (ls : List Live) → Rise low high ls
    → Rise low high (with_live_at place does ls)
rise-at place does low high [] rise = rise
rise-at place does low high (l ∷ ls) rise =
    by_test (λ b. (low ≤ (cond b (with_kq (does l) l) l).place) × Rise (suc (cond b (with_kq (does l) l) l).place) high (with_live_at place does ls))
    (place == l.place)
    (λ _. (rise.0, rise-at place does (suc l.place) high ls rise.1)) (λ _. (rise.0, rise-at place does (suc l.place) high ls rise.1))

-- of a place there is one
abbrev pub IsOne : ℕ → List Live → Live → Type 0
IsOne place ls l = (place == l.place) ≡ true → live_at place ls ≡ Some l

live_at-find : (place : ℕ) (ls : List Live) → live_at place ls ≡ find_live place ls
unfolding live_at
live_at-find place [] = refl
live_at-find place (l ∷ ls) = ap (λ x. cond (place == l.place) (Some l) x) (live_at-find place ls)

pub all-one : (place high : ℕ) (ls : List Live) → Rise 0 high ls → All (IsOne place ls) ls
all-one place high ls rise =
    All-weaker (λ (l : Live). find_live l.place ls ≡ Some l) (IsOne place ls)
    (λ l found here. live_at-find place ls ∙ ap (λ (at : ℕ). find_live at ls) (eqb-true place l.place here) ∙ found) ls
    (all-found 0 high ls rise)

pub no_more : (ls : List Live) → All (λ (l : Live). Unit {0}) ls
no_more [] = All-nil (λ (l : Live). Unit {0})
no_more (l ∷ ls) = All-cons (λ (x : Live). Unit {0}) l ls tt (no_more ls)

-- ---- what comes before a call

announced-hinted : (before after : Views) (posted : List Posted) (ks : List Knote) → All (IsAnnounced before posted after) ks
    → AreHinted before posted after ks
announced-hinted before after posted ks all key k found = found-is (IsAnnounced before posted after) key ks k all found

closed-announced : (before after : Views) (posted : List Posted) (owner : ℕ) (shut : List Pair) (kq : Kqueue)
    → All (IsAnnounced before posted after) kq.knotes → All (IsAnnounced before posted after) (closed owner shut kq).knotes
unfolding closed
closed-announced before after posted owner shut kq all =
    All-filter (λ (k : Knote). not (is_closed owner shut k.key)) (IsAnnounced before posted after) kq.knotes all

module _ (before : Views) (m : Moment) where
  abbrev pub IsTold : Live → Type 0
  IsTold l = All (IsAnnounced before m.hints m.views) l.kq.knotes

  happened-alike : (owner : ℕ) (kq lq : Kqueue) → IsSound kq → IsSound lq → All (IsAnnounced before m.hints m.views) kq.knotes
      → All (IsAnnounced before m.hints m.views) lq.knotes → AreAlike before kq.knotes lq.knotes
      → AreAlike m.views (happened owner m kq).knotes (happened owner m lq).knotes
  unfolding happened
  happened-alike owner kq lq sound other told heard alike =
      let a = closed owner m.closed kq in
      let b = closed owner m.closed lq in
      let c = notified m.views m.hints a in
      let d = notified m.views m.hints b in
      clocked-alike m.views m.clock (followed m.version m.hints c) (followed m.version m.hints d)
      (followed-alike m.views m.version m.hints c d
      (notified-alike before m.views m.hints a b (closed-sound owner m.closed kq sound).own_keys (closed-sound owner m.closed lq other).own_keys
      (announced-hinted before m.views m.hints a.knotes (closed-announced before m.views m.hints owner m.closed kq told))
      (announced-hinted before m.views m.hints b.knotes (closed-announced before m.views m.hints owner m.closed lq heard))
      (closed-alike before owner m.closed kq lq alike)))

  stepped-happens : (l : Live) → m.call ≡ None → stepped m l ≡ with_kq (happened l.owner m l.kq) l
  unfolding stepped kqueue_step after_call
  stepped-happens l none = ap (λ c. with_kq (after_call l.place l.owner m c l.kq) l) none

  happened-pair : m.call ≡ None → (l k : Live) → IsTold l → IsTold k → IsPair before l k → IsPair m.views (stepped m l) (stepped m k)
  happened-pair none l k told heard pair =
      subst (λ (x : Live). IsPair m.views x (stepped m k)) (sym (stepped-happens l none))
      (subst (λ (x : Live). IsPair m.views (with_kq (happened l.owner m l.kq) l) x) (sym (stepped-happens k none))
      (subst (λ (o : ℕ). IsPair m.views (with_kq (happened l.owner m l.kq) l) (with_kq (happened o m k.kq) k)) (sym (pair-owner before l k pair))
      (pair-with m.views l k (happened l.owner m l.kq) (happened l.owner m k.kq) pair.frame
      (happened-alike l.owner l.kq k.kq pair.sound pair.other told heard pair.alike)
      (happened-sound before m l.owner l.kq pair.sound) (happened-sound before m l.owner k.kq pair.other))))

  pub lived-pairs : m.call ≡ None → (ls ks : List Live) → All IsTold ls → All IsTold ks → ArePairs before ls ks
      → ArePairs m.views (lived m ls) (lived m ks)
  unfolding lived
  lived-pairs none ls ks told heard pairs =
      let p : Live → Bool = λ (x : Live). not (has_pair x.owner x.number m.closed) in
      pairs-map before m.views IsTold IsTold (stepped m) (stepped m) (happened-pair none) (filter p ls) (filter p ks)
      (All-filter p IsTold ls told) (All-filter p IsTold ks heard) (pairs-filter before m.closed ls ks pairs)

pub born-pairs : (views : Views) (place : ℕ) (p : Option Pair) → ArePairs views (born place p) (born place p)
unfolding born
born-pairs views place None = tt
born-pairs views place (Some p) =
    (record { frame = refl; alike = alike-itself views []; sound = IsSound-empty; other = IsSound-empty }, tt)

-- ---- systems

-- the same system, but for its kqueues
abbrev pub beside : System → List Live → System
beside s ks = record s { live = ks }

-- both are reached by runs, before the record at this place
pub record IsGoing (place : ℕ) (s : System) (ks : List Live) : Type 0 where
  pub run : IsRun place s
  pub beside_run : IsRun place (beside s ks)
  pub rise : Rise 0 place s.live
  pub beside_rise : Rise 0 place ks
  pub pairs : ArePairs (views_of (seen_world s.world)) s.live ks
