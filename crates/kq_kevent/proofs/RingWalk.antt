-- Walks over the knotes in order of registration: to the moment of the next expiration, and past those that ring at one moment.
use Rattle.std.proofs.Common.{◌≡◌, ℕ, ◌+◌, ◌<◌, ◌≤◌, min, Bool, true, false, cond, eqb, leb, List, [], ◌∷◌, ◌++◌, length, slice_get, ◌⊎◌, inl, inr, Option, Some, None, append_assoc, refl, sym, ap, ◌∙◌, subst, arith}
use Rattle.std.proofs.lemmas.Bool.{cases_lt, le-leb, lt-leb}
use Rattle.std.proofs.lemmas.Option.{none-some, same_Some}
use Rattle.kq_model.specs.Knote.{find_knote, with_knote}
use Rattle.kq_model.specs.Kqueue.{HaveOwnKeys}
use Rattle.kq_model.specs.Tallied.{Knote, Kqueue}
use Rattle.kq_model.proofs.KnoteMiddle.{apart-middle, found-middle, with-middle}
use Rattle.kq_knote.proofs.WalkLaws.{after, after-middle}
use Rattle.kq_kevent.specs.Ringing.{first_of, ticks_of, rung, rung_each, firsts_at, AreOutside, IsReached}
use Rattle.kq_kevent.specs.Telling.{StandsFor}
use Rattle.kq_kevent.proofs.RingLaws.{rung-key, rung_times-target, rung_times-idle}

-- ---- where a walk stands

nothing_ahead : (ahead : List Knote) → None ≡ slice_get ahead 0 → ahead ≡ []
nothing_ahead [] is = refl
nothing_ahead (k ∷ ks) is = absurd (none-some k is)

none_left : (ahead : List Knote) → length ahead ≤ 0 → ahead ≡ []
none_left [] none = refl
none_left (k ∷ ks) none = absurd (omega (arith, none))

-- the knote that is next, and those behind it
pub record IsSplit (ahead : List Knote) (k : Knote) : Type 0 where
  pub rest : List Knote
  pub is : ahead ≡ k ∷ rest

pub split_ahead : (ahead : List Knote) (k : Knote) → Some k ≡ slice_get ahead 0 → IsSplit ahead k
split_ahead [] k is = absurd (none-some k (sym is))
split_ahead (x ∷ ks) k is = record { rest = ks; is = ap (λ y. y ∷ ks) (sym (same_Some k x is)) }

-- ---- to the moment of the next expiration

module _ (from low : ℕ) (ks : List Knote) where
  pub record IsLooking (next : Option Knote) (left least : ℕ) : Type 0 where
    pub past : List Knote
    pub ahead : List Knote
    pub parts : ks ≡ past ++ ahead
    pub next_is : next ≡ slice_get ahead 0
    pub few : length ahead ≤ left
    pub outside : AreOutside from low least past

  pub look-start : (next : Option Knote) (left least : ℕ) → next ≡ slice_get ks 0 → length ks ≤ left → IsLooking next left least
  look-start next left least is few = record {
    past = [];
    ahead = ks;
    parts = refl;
    next_is = is;
    few = few;
    outside = tt;
  }

  all_past : (next : Option Knote) (left least : ℕ) → (at : IsLooking next left least) → at.ahead ≡ [] → AreOutside from low least ks
  all_past next left least at none =
      subst (AreOutside from low least) (sym (at.parts ∙ ap (λ more. at.past ++ more) none ∙ append-nothing at.past)) at.outside
    where
      append-nothing : (xs : List Knote) → xs ++ [] ≡ xs
      append-nothing [] = refl
      append-nothing (x ∷ xs) = ap (λ rest. x ∷ rest) (append-nothing xs)

  pub look-stops : (left least : ℕ) → IsLooking None left least → AreOutside from low least ks
  look-stops left least at = all_past None left least at (nothing_ahead at.ahead at.next_is)

  pub look-ends : (next : Option Knote) (left least : ℕ) → left ≤ 0 → IsLooking next left least → AreOutside from low least ks
  look-ends next left least none at = all_past next left least at (none_left at.ahead (omega (arith, at.few, none)))

  outside-more : (least fewer : ℕ) (past : List Knote) (k : Knote) → fewer ≤ least → AreOutside from low least past → (first_of from k ≤ low) ⊎ (fewer ≤ first_of from k)
      → AreOutside from low fewer (past ++ k ∷ [])
  outside-more least fewer [] k less all here = (here, tt)
  outside-more least fewer (x ∷ past) k less all here = (still all.0, outside-more least fewer past k less all.1 here)
    where
      still : (first_of from x ≤ low) ⊎ (least ≤ first_of from x) → (first_of from x ≤ low) ⊎ (fewer ≤ first_of from x)
      still (inl h) = inl h
      still (inr h) = inr (omega (arith, h, less))

  -- the lesser of the moment so far and that of the knote, where it is after `low`
  nearer : (first least : ℕ) → (cond (leb first low) least (min least first) ≤ least) × ((first ≤ low) ⊎ (cond (leb first low) least (min least first) ≤ first))
  nearer first least = by_place (cases_lt low first)
    where
      by_place : (low < first) ⊎ (first ≤ low) → (cond (leb first low) least (min least first) ≤ least) × ((first ≤ low) ⊎ (cond (leb first low) least (min least first) ≤ first))
      by_place (inl h) = rw (lt-leb first low h) (omega arith, inr (omega arith))
      by_place (inr h) = rw (le-leb first low h) (omega arith, inl h)

  pub look-goes : HaveOwnKeys ks → (k : Knote) (next : Option Knote) (left fewer least closer first : ℕ) → IsLooking (Some k) left least → left ≤ fewer + 1
      → next ≡ after k.key ks → first ≡ first_of from k → closer ≡ cond (leb first low) least (min least first) → IsLooking next fewer closer
  look-goes own k next left fewer least closer first at less goes is becomes =
      let split = split_ahead at.ahead k at.next_is in
      let parts = at.parts ∙ ap (λ more. at.past ++ more) split.is in
      let middle = apart-middle at.past k split.rest (subst HaveOwnKeys parts own) in
      let near = nearer (first_of from k) least in
      let closer_is = becomes ∙ ap (λ n. cond (leb n low) least (min least n)) is in
      record {
        past = at.past ++ k ∷ [];
        ahead = split.rest;
        parts = parts ∙ sym (append_assoc at.past (k ∷ []) split.rest);
        next_is = goes ∙ ap (after k.key) parts ∙ after-middle at.past k split.rest middle.0;
        few = omega (arith, at.few, less, ap (length {A = Knote}) split.is);
        outside = outside-more least closer at.past k (subst (λ n. n ≤ least) (sym closer_is) near.0) at.outside
            (subst (λ n. (first_of from k ≤ low) ⊎ (n ≤ first_of from k)) (sym closer_is) near.1);
      }

  pub look-there : HaveOwnKeys ks → (k : Knote) (left least : ℕ) → IsLooking (Some k) left least → find_knote k.key ks ≡ Some k
  look-there own k left least at =
      let split = split_ahead at.ahead k at.next_is in
      let parts = at.parts ∙ ap (λ more. at.past ++ more) split.is in
      let middle = apart-middle at.past k split.rest (subst HaveOwnKeys parts own) in
      ap (find_knote k.key) parts ∙ found-middle at.past k split.rest middle.0

-- a knote expires first at the moment found, as at the one so far
pub nearer-reached : (from to low first least : ℕ) (ks : List Knote) (k : Knote) → find_knote k.key ks ≡ Some k → first ≡ first_of from k → IsReached from to ks least
    → IsReached from to ks (cond (leb first low) least (min least first))
nearer-reached from to low first least ks k there is old = by_place (cases_lt low first) (cases_lt least first)
  where
    by_place : (low < first) ⊎ (first ≤ low) → (least < first) ⊎ (first ≤ least) → IsReached from to ks (cond (leb first low) least (min least first))
    by_place (inr h) _ = rw (le-leb first low h) old
    by_place (inl h) (inl earlier) = let e : least ≡ min least first = omega arith in rw (lt-leb first low h) (subst (IsReached from to ks) e old)
    by_place (inl h) (inr later) = let e : first ≡ min least first = omega arith in rw (lt-leb first low h) (subst (IsReached from to ks) e (inr (k, there, sym is)))

-- the moment found is after `low`, as the one so far
pub nearer-later : (low first least : ℕ) → low < least → low < cond (leb first low) least (min least first)
nearer-later low first least later = by_place (cases_lt low first)
  where
    by_place : (low < first) ⊎ (first ≤ low) → low < cond (leb first low) least (min least first)
    by_place (inl h) = rw (lt-leb first low h) (omega (arith, h, later))
    by_place (inr h) = rw (le-leb first low h) later

pub nearer-bounded : (low first least most : ℕ) → least ≤ most → cond (leb first low) least (min least first) ≤ most
nearer-bounded low first least most within = by_place (cases_lt low first)
  where
    by_place : (low < first) ⊎ (first ≤ low) → cond (leb first low) least (min least first) ≤ most
    by_place (inl h) = rw (lt-leb first low h) (omega (arith, within))
    by_place (inr h) = rw (le-leb first low h) within

-- ---- past those that ring at a moment

module _ (from to moment : ℕ) (wanted : Kqueue) where
  -- what is ahead has still to ring, and then the kqueue is the one that is wanted
  pub record IsRinging (next : Option Knote) (left : ℕ) (kq : Kqueue) : Type 0 where
    pub past : List Knote
    pub ahead : List Knote
    pub parts : kq.knotes ≡ past ++ ahead
    pub next_is : next ≡ slice_get ahead 0
    pub few : length ahead ≤ left
    pub rest : rung_each from to (firsts_at from moment ahead) kq ≡ wanted

  pub ring-start : (kq : Kqueue) (next : Option Knote) (left : ℕ) → next ≡ slice_get kq.knotes 0 → length kq.knotes ≤ left
      → rung_each from to (firsts_at from moment kq.knotes) kq ≡ wanted → IsRinging next left kq
  ring-start kq next left is few all = record {
    past = [];
    ahead = kq.knotes;
    parts = refl;
    next_is = is;
    few = few;
    rest = all;
  }

  finished : (next : Option Knote) (left : ℕ) (kq : Kqueue) → (at : IsRinging next left kq) → at.ahead ≡ [] → kq ≡ wanted
  unfolding rung_each
  finished next left kq at none = ap (λ ks. rung_each from to (firsts_at from moment ks) kq) (sym none) ∙ at.rest

  pub ring-stops : (left : ℕ) (kq : Kqueue) → IsRinging None left kq → kq ≡ wanted
  ring-stops left kq at = finished None left kq at (nothing_ahead at.ahead at.next_is)

  pub ring-ends : (next : Option Knote) (left : ℕ) (kq : Kqueue) → left ≤ 0 → IsRinging next left kq → kq ≡ wanted
  ring-ends next left kq none at = finished next left kq at (none_left at.ahead (omega (arith, at.few, none)))

  module _ (kq : Kqueue) (own : HaveOwnKeys kq.knotes) (k : Knote) (left : ℕ) (at : IsRinging (Some k) left kq) where
    abbrev split : IsSplit at.ahead k
    split = split_ahead at.ahead k at.next_is

    parts : kq.knotes ≡ at.past ++ k ∷ split.rest
    parts = at.parts ∙ ap (λ more. at.past ++ more) split.is

    middle : (find_knote k.key at.past ≡ None) × (find_knote k.key split.rest ≡ None)
    middle = apart-middle at.past k split.rest (subst HaveOwnKeys parts own)

    pub ring-there : find_knote k.key kq.knotes ≡ Some k
    ring-there = ap (find_knote k.key) parts ∙ found-middle at.past k split.rest middle.0

    -- the knote rings where its moment has come
    after-knote : (b : Bool) (fewer : ℕ) → left ≤ fewer + 1
        → rung_each from to (cond b (k ∷ firsts_at from moment split.rest) (firsts_at from moment split.rest)) kq ≡ wanted
        → IsRinging (slice_get split.rest 0) fewer (rung_each from to (cond b (k ∷ []) []) kq)
    unfolding rung_each
    after-knote true fewer less all = record {
      past = at.past ++ rung from to k ∷ [];
      ahead = split.rest;
      parts = ap (with_knote (rung from to k)) parts ∙ with-middle at.past k (rung from to k) split.rest (rung-key from to k) middle.0 middle.1
          ∙ sym (append_assoc at.past (rung from to k ∷ []) split.rest);
      next_is = refl;
      few = omega (arith, at.few, less, ap (length {A = Knote}) split.is);
      rest = all;
    }
    after-knote false fewer less all = record {
      past = at.past ++ k ∷ [];
      ahead = split.rest;
      parts = parts ∙ sym (append_assoc at.past (k ∷ []) split.rest);
      next_is = refl;
      few = omega (arith, at.few, less, ap (length {A = Knote}) split.is);
      rest = all;
    }

    pub ring-goes : (next : Option Knote) (fewer : ℕ) (became : Kqueue) → left ≤ fewer + 1 → next ≡ after k.key kq.knotes
        → became ≡ rung_each from to (firsts_at from moment (k ∷ [])) kq → IsRinging next fewer became
    ring-goes next fewer became less goes is =
        subst (λ (o : Option Knote). IsRinging o fewer became) (sym (goes ∙ ap (after k.key) parts ∙ after-middle at.past k split.rest middle.0))
        (subst (λ (q : Kqueue). IsRinging (slice_get split.rest 0) fewer q) (sym is)
        (after-knote (eqb (first_of from k) moment) fewer less (ap (λ ks. rung_each from to (firsts_at from moment ks) kq) (sym split.is) ∙ at.rest)))

-- ---- one that rings

pub rung-stands : (from to : ℕ) (k r : Knote) (ks : List Knote) → r ≡ rung from to k → find_knote k.key ks ≡ Some k → StandsFor k r ks
rung-stands from to k r ks is there = record {
  there = ap (λ (n : Knote). find_knote n.key ks) is ∙ ap (λ key. find_knote key ks) (rung-key from to k) ∙ there;
  target = sym (ap (λ (n : Knote). n.target) is ∙ rung_times-target (ticks_of from to k) k);
  active = λ idle. rung_times-idle (ticks_of from to k) k (sym (ap (λ (n : Knote). n.active) is) ∙ idle);
}
