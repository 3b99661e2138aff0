-- Alarms that are made anew, and those that timers get next.
use Rattle.std.proofs.Common.{◌≡◌, ℕ, ◌+◌, ◌≤◌, true, List, [], ◌∷◌, ◌++◌, length, slice_get, ◌⊎◌, inl, inr, Option, None, Some, append_assoc, refl, sym, ap, ◌∙◌, subst, arith}
use Rattle.std.proofs.lemmas.Bool.{true≢false}
use Rattle.std.proofs.lemmas.List.{append-nil}
use Rattle.std.proofs.lemmas.Option.{none-some, same_Some}
use Rattle.kq_alarm.specs.Armed.{Entry, HasAlarm, entry_of}
use Rattle.kq_model.specs.declared.key.Key.{Key}
use Rattle.kq_model.specs.Knote.{has_key, find_knote}
use Rattle.kq_model.specs.Kqueue.{HaveOwnKeys}
use Rattle.kq_model.specs.Tallied.{Knote}
use Rattle.kq_model.specs.Ticks.{last_moment}
use Rattle.kq_model.proofs.KnoteMiddle.{apart-middle}
use Rattle.kq_knote.specs.Expiring.{next_of, IsAlarmed, AreAlarmed, AreArmed, AreKept}
use Rattle.kq_knote.proofs.AlarmLaws.{of-each, alarmed-attached}
use Rattle.kq_knote.proofs.DueLaws.{push-cases}
use Rattle.kq_knote.proofs.WalkLaws.{after, after-middle}

nothing_ahead : (ahead : List Knote) → None ≡ slice_get ahead 0 → ahead ≡ []
nothing_ahead [] is = refl
nothing_ahead (k ∷ ks) is = absurd (none-some k is)

none_left : (ahead : List Knote) → length ahead ≤ 0 → ahead ≡ []
none_left [] none = refl
none_left (k ∷ ks) none = absurd (omega (arith, none))

-- the knote that is next, and those behind it
record IsSplit (ahead : List Knote) (k : Knote) : Type 0 where
  rest : List Knote
  is : ahead ≡ k ∷ rest

split_ahead : (ahead : List Knote) (k : Knote) → Some k ≡ slice_get ahead 0 → IsSplit ahead k
split_ahead [] k is = absurd (none-some k (sym is))
split_ahead (x ∷ ks) k is = record { rest = ks; is = ap (λ y. y ∷ ks) (sym (same_Some k x is)) }

module _ (since : ℕ) (ks : List Knote) where
  -- those that the walk has passed have their alarms
  pub record IsArming (next : Option Knote) (left : ℕ) (entries : List Entry) : Type 0 where
    pub past : List Knote
    pub ahead : List Knote
    pub parts : ks ≡ past ++ ahead
    pub next_is : next ≡ slice_get ahead 0
    pub few : length ahead ≤ left
    pub armed : AreAlarmed since entries past

  pub arm-start : (next : Option Knote) (left : ℕ) (entries : List Entry) → next ≡ slice_get ks 0 → length ks ≤ left → IsArming next left entries
  arm-start next left entries is few = record {
    past = [];
    ahead = ks;
    parts = refl;
    next_is = is;
    few = few;
    armed = tt;
  }

  all_past : (next : Option Knote) (left : ℕ) (entries : List Entry) → (at : IsArming next left entries) → at.ahead ≡ [] → AreAlarmed since entries ks
  all_past next left entries at none =
      subst (AreAlarmed since entries) (sym (at.parts ∙ ap (λ more. at.past ++ more) none ∙ append-nil at.past)) at.armed

  pub arm-stops : (left : ℕ) (entries : List Entry) → IsArming None left entries → AreAlarmed since entries ks
  arm-stops left entries at = all_past None left entries at (nothing_ahead at.ahead at.next_is)

  pub arm-ends : (next : Option Knote) (left : ℕ) (entries : List Entry) → left ≤ 0 → IsArming next left entries → AreAlarmed since entries ks
  arm-ends next left entries none at = all_past next left entries at (none_left at.ahead (omega (arith, at.few, none)))

  pub arm-goes : HaveOwnKeys ks → (k : Knote) (next : Option Knote) (left fewer first : ℕ) (entries more : List Entry) → IsArming (Some k) left entries → left ≤ fewer + 1
      → next ≡ after k.key ks → first ≡ next_of since k → AreKept entries more → (first ≤ last_moment → HasAlarm more first k.key.ident) → IsArming next fewer more
  arm-goes own k next left fewer first entries more at less goes is kept here =
      let split = split_ahead at.ahead k at.next_is in
      let parts = at.parts ∙ ap (λ rest. at.past ++ rest) split.is in
      let middle = apart-middle at.past k split.rest (subst HaveOwnKeys parts own) in
      record {
        past = at.past ++ k ∷ [];
        ahead = split.rest;
        parts = parts ∙ sym (append_assoc at.past (k ∷ []) split.rest);
        next_is = goes ∙ ap (after k.key) parts ∙ after-middle at.past k split.rest middle.0;
        few = omega (arith, at.few, less, ap (length {A = Knote}) split.is);
        armed = alarmed-attached since more entries at.past (at.past ++ k ∷ []) k first at.armed kept is here refl;
      }

-- ---- of those that expired

pub arm-more : (to : ℕ) (ks : List Knote) (keys more : List Key) (key : Key) (found : Knote) (first : ℕ) (entries after : List Entry) → HaveOwnKeys ks
    → AreArmed to keys entries ks → AreKept entries after → find_knote key ks ≡ Some found → first ≡ next_of to found
    → (first ≤ last_moment → HasAlarm after first key.ident) → more ≡ keys ++ key ∷ [] → AreArmed to more after ks
arm-more to ks keys more key found first entries after own all kept is first_is here became =
    of-each (λ k. has_key k.key keys ≡ true → IsAlarmed entries (next_of to k) k) (λ k. has_key k.key more ≡ true → IsAlarmed after (next_of to k) k) ks own
    (λ k there h has. by_key k there h (push-cases k.key key keys (ap (has_key k.key) (sym became) ∙ has))) all
  where
    by_key : (k : Knote) → find_knote k.key ks ≡ Some k → (has_key k.key keys ≡ true → IsAlarmed entries (next_of to k) k) → (has_key k.key keys ≡ true) ⊎ (k.key ≡ key) → IsAlarmed after (next_of to k) k
    by_key k there h (inl old) = λ in_time. kept (entry_of (record { moment = next_of to k; ident = k.key.ident })) (h old in_time)
    by_key k there h (inr one) =
        let it : found ≡ k = same_Some found k (sym is ∙ ap (λ (n : Key). find_knote n ks) (sym one) ∙ there) in
        let at : first ≡ next_of to k = first_is ∙ ap (next_of to) it in
        subst (λ (n : Key). next_of to k ≤ last_moment → HasAlarm after (next_of to k) n.ident) (sym one)
        (subst (λ m. m ≤ last_moment → HasAlarm after m key.ident) at here)

pub arm-none : (to : ℕ) (ks : List Knote) (keys : List Key) (entries : List Entry) → keys ≡ [] → AreArmed to keys entries ks
arm-none to ks keys entries none = nothing ks
  where
    nothing : (some : List Knote) → AreArmed to keys entries some
    nothing [] = tt
    nothing (k ∷ some) = (λ has. absurd (true≢false (sym has ∙ ap (has_key k.key) none)), nothing some)
