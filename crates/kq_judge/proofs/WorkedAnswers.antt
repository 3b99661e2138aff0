-- Three user events are triggered and stand in the queue as 1, 2, 3: which answers of a call are allowed.
use Rattle.std.proofs.Common.{◌≡◌, ℕ, pos, true, false, cond, ◌||◌, List, [], ◌∷◌, None, Some, refl, sym, lit<}
use Rattle.std.proofs.lemmas.Bool.{true≢false}
use Rattle.kq_model.specs.declared.filter.Filter.TheVariants.{User}
use Rattle.kq_model.specs.declared.kevent.Kevent.{Kevent}
use Rattle.kq_model.specs.declared.key.Key.{Key}
use Rattle.kq_model.specs.Bits.{clear}
use Rattle.kq_model.specs.Tallying.{tallying}
use Rattle.kq_model.specs.Knote.{key_eq, has_key, find_knote}
use Rattle.kq_model.specs.Kqueue.{is_waiting, IsSound}
use Rattle.kq_model.specs.Tallied.{Knote, Kqueue}
use Rattle.kq_model.proofs.Builders.{event}
use Rattle.kq_model.proofs.KnoteLaws.{by_test}
use Rattle.kq_model.proofs.Opened.{system_opened}
use Rattle.kq_kevent.specs.Arranged.{arranged, named_in}
use Rattle.kq_kevent.proofs.ArrangeLaws.{arranged-same}
use Rattle.kq_filters.specs.Nothing.{nothing_there}
use Rattle.kq_judge.specs.Allowed.{IsAllowed}
use Rattle.kq_judge.specs.Pending.{IsPending}
use Rattle.kq_judge.proofs.AllowedLaws.{same_as_itself, allowed-right}

abbrev key : ℕ → Key
key ident = record { ident = ident; filter = User }

-- a user event with CLEAR that was triggered
abbrev rung : ℕ → Knote
rung ident = record {
  key = key ident;
  target = None;
  fflags = 0;
  datum = pos 0;
  udata = 0;
  oneshot = false;
  clear = true;
  dispatch = false;
  enabled = true;
  active = true;
  seen = tallying.empty;
  start = 0;
  period = 0;
  bits = 0;
  triggered = true;
  notice = None;
}

abbrev three : Kqueue
three = record { knotes = rung 1 ∷ rung 2 ∷ rung 3 ∷ []; queue = key 1 ∷ key 2 ∷ key 3 ∷ [] }

abbrev returned : ℕ → Kevent
returned ident = event ident clear 0

three_sound : IsSound three
unfolding find_knote is_waiting
three_sound = record {
  own_keys = (refl, (refl, (refl, tt)));
  once = (refl, (refl, (refl, tt)));
  waiting = λ k.
      by_test (λ b. b || has_key k (key 2 ∷ key 3 ∷ [])
      ≡ is_waiting (cond b (Some (rung 1)) (find_knote k (rung 2 ∷ rung 3 ∷ [])))) (key_eq k (key 1))
      (λ _. refl)
      (λ _. by_test (λ b. b || has_key k (key 3 ∷ [])
      ≡ is_waiting (cond b (Some (rung 2)) (find_knote k (rung 3 ∷ [])))) (key_eq k (key 2))
      (λ _. refl)
      (λ _. by_test (λ b. b || false ≡ is_waiting (cond b (Some (rung 3)) (find_knote k []))) (key_eq k (key 3))
      (λ _. refl) (λ _. refl)));
}

-- with room for two, the third may come first
abbrev third_first : List Kevent
third_first = returned 3 ∷ returned 1 ∷ []

pub another_order : IsAllowed [] nothing_there 2 three third_first
unfolding system_opened arranged named_in
another_order = record {
  order = key 3 ∷ key 1 ∷ key 2 ∷ [];
  permutes = arranged-same (key 3 ∷ key 1 ∷ []) three.queue three_sound.once;
  same = same_as_itself [] third_first;
}

-- none comes twice
pub event_twice : IsAllowed [] nothing_there 3 three (returned 1 ∷ returned 1 ∷ []) → ⊥
event_twice allowed =
    true≢false (allowed-right [] nothing_there 3 three (returned 1 ∷ returned 1 ∷ []) three_sound allowed).right.once.0

-- and none is held back where there is room
third_pending : IsPending nothing_there three.knotes (key 3) (returned 3)
unfolding system_opened
third_pending = record {
  knote = rung 3;
  seen = record { fflags = 0; datum = pos 0; eof = false };
  found = refl;
  enabled = refl;
  active = refl;
  holds = refl;
  is = refl;
}

pub event_missing : IsAllowed [] nothing_there 3 three (returned 1 ∷ returned 2 ∷ []) → ⊥
event_missing allowed =
    let right = allowed-right [] nothing_there 3 three (returned 1 ∷ returned 2 ∷ []) three_sound allowed in
    true≢false (sym (right.complete (lit< tt) (key 3) (returned 3) third_pending))
