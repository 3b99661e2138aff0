-- Timers that ring one after the other by their keys: all that expire, in the order of their first expirations.
use Rattle.std.proofs.Common.{◌≡◌, ℕ, ◌+◌, ◌≤◌, leb, List, [], ◌∷◌, map, Some, sym, ap, ◌∙◌, subst, arith}
use Rattle.std.proofs.lemmas.Option.{MatchOption-at_some}
use Rattle.std.specs.Option.{MatchOption}
use Rattle.kq_model.specs.declared.key.Key.{Key}
use Rattle.kq_model.specs.Clock.{clocked}
use Rattle.kq_model.specs.Knote.{find_knote}
use Rattle.kq_model.specs.Kqueue.{IsSound, HaveOwnKeys}
use Rattle.kq_model.specs.Tallied.{Knote, Kqueue}
use Rattle.kq_model.specs.Ticks.{last_moment}
use Rattle.kq_model.specs.WalkedAtOnce.{in_order}
use Rattle.kq_model.proofs.KnoteLaws.{HaveOwnKeys-with}
use Rattle.kq_knote.specs.Expiring.{expiring}
use Rattle.kq_kevent.specs.Ringing.{first_of, rung, with_rung, rung_each}
use Rattle.kq_kevent.proofs.ClockLaws.{ringing_before, is_before, leb-more, filter-alike, there-before, apart-before, all-clocked}
use Rattle.kq_kevent.proofs.RingLaws.{key_in, AreApart, AreThere, there-after}

-- the knotes of the keys that are left have still to ring, and then the kqueue is the one that is wanted
pub record IsRingingEach (from to : ℕ) (wanted : Kqueue) (keys : List Key) (kq : Kqueue) : Type 0 where
  pub ahead : List Knote
  pub keys_are : keys ≡ map key_in ahead
  pub own : HaveOwnKeys kq.knotes
  pub there : AreThere kq.knotes ahead
  pub apart : AreApart ahead
  pub rest : rung_each from to ahead kq ≡ wanted

expiring-before : (from to : ℕ) (ks : List Knote) → expiring from to ks ≡ ringing_before from to (to + 1) ks
expiring-before from to ks =
    ap (in_order (first_of from)) (filter-alike (λ (k : Knote). leb (first_of from k) to) (is_before from to (to + 1)) (λ k. leb-more (first_of from k) to) ks)

pub each-start : (from to : ℕ) (kq : Kqueue) → IsSound kq → from ≤ to → to ≤ last_moment → (keys : List Key) → keys ≡ map key_in (expiring from to kq.knotes)
    → IsRingingEach from to (clocked (Some (record { from = from; to = to })) kq) keys kq
each-start from to kq sound ordered within keys are = record {
  ahead = ringing_before from to (to + 1) kq.knotes;
  keys_are = are ∙ ap (map key_in) (expiring-before from to kq.knotes);
  own = sound.own_keys;
  there = there-before from to (to + 1) kq.knotes sound.own_keys;
  apart = apart-before from to (to + 1) kq.knotes sound.own_keys;
  rest = all-clocked from to kq sound ordered within (to + 1) (omega arith) (omega arith);
}

module _ (from to : ℕ) (wanted : Kqueue) where
  pub each-goes : (key : Key) (keys : List Key) (kq after : Kqueue) → IsRingingEach from to wanted (key ∷ keys) kq
      → MatchOption (find_knote key kq.knotes) (after ≡ kq) (λ (k : Knote). after ≡ with_rung from to k kq) → IsRingingEach from to wanted keys after
  unfolding rung_each
  each-goes key keys kq after at rings = go at.ahead at.keys_are at.there at.apart at.rest
    where
      go : (ahead : List Knote) → key ∷ keys ≡ map key_in ahead → AreThere kq.knotes ahead → AreApart ahead → rung_each from to ahead kq ≡ wanted → IsRingingEach from to wanted keys after
      go [] are there apart rest = absurd (cc)
      go (k ∷ ahead) are there apart rest =
          let one : key ≡ k.key = cc in
          let found : find_knote key kq.knotes ≡ Some k = ap (λ n. find_knote n kq.knotes) one ∙ there.0 in
          let is : after ≡ with_rung from to k kq = MatchOption-at_some (after ≡ kq) (λ (n : Knote). after ≡ with_rung from to n kq) k found rings in
          subst (λ (q : Kqueue). IsRingingEach from to wanted keys q) (sym is) (record {
            ahead = ahead;
            keys_are = cc;
            own = HaveOwnKeys-with (rung from to k) kq.knotes at.own;
            there = there-after from to k kq.knotes ahead apart.0 there.1;
            apart = apart.1;
            rest = rest;
          })

  pub each-ends : (kq : Kqueue) → IsRingingEach from to wanted [] kq → kq ≡ wanted
  unfolding rung_each
  each-ends kq at = go at.ahead at.keys_are at.rest
    where
      go : (ahead : List Knote) → [] ≡ map key_in ahead → rung_each from to ahead kq ≡ wanted → kq ≡ wanted
      go [] are rest = rest
      go (k ∷ ahead) are rest = absurd (cc)
