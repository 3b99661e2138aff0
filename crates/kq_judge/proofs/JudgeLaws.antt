-- What is wrong with an answer keeps it from being allowed, and where nothing is, it is allowed.
use Rattle.std.proofs.Common.{◌≡◌, ℕ, zero, suc, ◌+◌, ◌<◌, ◌≤◌, ◌⊎◌, inl, inr, true, false, ◌||◌, List, [], ◌∷◌, ◌++◌, map, take, length, get_or, slice_get, Some, None, pos, refl, sym, ap, ◌∙◌, subst, arith}
use Rattle.std.proofs.lemmas.Bool.{true≢false, or_left, or_right}
use Rattle.std.proofs.lemmas.List.{take_more, take_all, map-append, length-take}
use Rattle.std.proofs.lemmas.Option.{none-some, same_Some, slice_get-get_or}
use Rattle.kq_model.specs.declared.filter.Filter.TheVariants.{User}
use Rattle.kq_model.specs.declared.kevent.Kevent.{Kevent}
use Rattle.kq_model.specs.declared.key.Key.{Key}
use Rattle.kq_model.specs.CallLaws.{Each, key_of_event}
use Rattle.kq_model.specs.Knote.{key_eq, has_key}
use Rattle.kq_model.specs.Kqueue.{AreOnce, IsSound}
use Rattle.kq_model.specs.Tallied.{Knote, Kqueue}
use Rattle.kq_model.specs.Views.{Views}
use Rattle.kq_model.proofs.KeyLaws.{same_key, key_eq-refl}
use Rattle.kq_model.proofs.KnoteLaws.{by_test}
use Rattle.kq_kevent.proofs.QueueLaws.{AreOnce-push}
use Rattle.kq_judge.specs.declared.judging.Fault.{Fault}
use Rattle.kq_judge.specs.declared.judging.Fault.TheVariants.{PastRoom, Twice, NotPending, Differs}
use Rattle.kq_judge.specs.declared.member.Ignored.{Ignored}
use Rattle.kq_judge.specs.Allowed.{IsAllowed}
use Rattle.kq_judge.specs.Judged.{IsRightEvent, AreRight, IsOwnFault, IsRightBehind, IsFault, IsWrongAt, AreReturned, IsFirstHeldBack, IsMissing}
use Rattle.kq_judge.specs.Pending.{IsPending}
use Rattle.kq_judge.specs.Same.{AgreeOn}
use Rattle.kq_judge.proofs.AllowedLaws.{IsRight, right-allowed, allowed-right}
use Rattle.kq_judge.proofs.PendingLaws.{pending-one, pending-queued, absence-pending}

-- ---- one event more

each-push : {X : Type 0} (P : X → Type 0) (xs : List X) (x : X) → Each P xs → P x → Each P (xs ++ x ∷ [])
each-push P [] x each here = (here, tt)
each-push P (y ∷ xs) x each here = (each.0, each-push P xs x each.1 here)

keys-more : (own : List Kevent) (at : ℕ) (d : Kevent) → at < length own
    → map key_of_event (take (at + 1) own) ≡ map key_of_event (take at own) ++ key_of_event (get_or own at d) ∷ []
keys-more own at d less =
    ap (map key_of_event) (take_more own at d less) ∙ map-append key_of_event (take at own) (get_or own at d ∷ [])

pub rows-more : (own : List Kevent) (at : ℕ) (d : Kevent) (rows after : List Key) (key : Key) → at < length own
    → rows ≡ map key_of_event (take at own) → after ≡ rows ++ key ∷ [] → key ≡ key_of_event (get_or own at d)
    → after ≡ map key_of_event (take (at + 1) own)
rows-more own at d rows after key less are becomes is =
    becomes ∙ ap (λ (keys : List Key). keys ++ key ∷ []) are
    ∙ ap (λ (k : Key). map key_of_event (take at own) ++ k ∷ []) is ∙ sym (keys-more own at d less)

pub right-more : (ignored : List Ignored) (views : Views) (ks : List Knote) (own : List Kevent) (at : ℕ) (d : Kevent)
    (rows : List Key) → at < length own → AreRight ignored views ks (take at own)
    → rows ≡ map key_of_event (take at own) → IsRightBehind ignored views ks rows (get_or own at d)
    → AreRight ignored views ks (take (at + 1) own)
right-more ignored views ks own at d rows less right are more =
    let e = get_or own at d in
    record {
      each = subst (Each (IsRightEvent ignored views ks)) (sym (take_more own at d less))
          (each-push (IsRightEvent ignored views ks) (take at own) e right.each more.right);
      once = subst AreOnce (sym (keys-more own at d less))
          (AreOnce-push (key_of_event e) (map key_of_event (take at own)) right.once
          (ap (has_key (key_of_event e)) (sym are) ∙ more.new));
    }

-- a fault of the event itself, behind those of the keys
pub wrong-own : (ignored : List Ignored) (views : Views) (room : ℕ) (ks : List Knote) (own : List Kevent) (at : ℕ)
    (d : Kevent) (rows : List Key) (fault : Fault) → at < length own → at < room
    → AreRight ignored views ks (take at own) → rows ≡ map key_of_event (take at own)
    → IsOwnFault ignored views ks rows (get_or own at d) fault → IsWrongAt ignored views room ks own at fault
wrong-own ignored views room ks own at d rows fault less room_left right are wrong = record {
  event = get_or own at d;
  there = slice_get-get_or own at d less;
  right_before = right;
  within_before = omega (arith, room_left);
  fault_is = by fault
      (omega (arith, length-take at own, less, room_left))
      (subst (λ (keys : List Key). IsOwnFault ignored views ks keys (get_or own at d) fault) are wrong);
}
  where
    by : (f : Fault) → length (take at own) < room → IsOwnFault ignored views ks (map key_of_event (take at own)) (get_or own at d) f
        → IsFault ignored views room ks (take at own) (get_or own at d) f
    by PastRoom left is = absurd is
    by Twice left is = (left, is)
    by (NotPending absence) left is = (left, is)
    by (Differs member expected) left is = (left, is)

-- an event that stands for one past the end
nothing : Kevent
nothing = record { ident = 0; filter = User; flags = record { 0 = 0 }; fflags = 0; datum = pos 0; udata = 0 }

-- an event behind as many as there is room for
pub wrong-past : (ignored : List Ignored) (views : Views) (room : ℕ) (ks : List Knote) (own : List Kevent) (at : ℕ)
    → at < length own → at ≡ room → AreRight ignored views ks (take at own)
    → IsWrongAt ignored views room ks own at PastRoom
wrong-past ignored views room ks own at less is right = record {
  event = get_or own at nothing;
  there = slice_get-get_or own at nothing less;
  right_before = right;
  within_before = omega arith;
  fault_is = omega (arith, length-take at own, is, less);
}

-- all events are right
pub right-whole : (ignored : List Ignored) (views : Views) (ks : List Knote) (own : List Kevent) (at : ℕ)
    → length own ≤ at → AreRight ignored views ks (take at own) → AreRight ignored views ks own
right-whole ignored views ks own at all right =
    subst (λ (events : List Kevent). AreRight ignored views ks events) (take_all at own all) right

pub rows-whole : (own : List Kevent) (at : ℕ) (rows : List Key) → length own ≤ at
    → rows ≡ map key_of_event (take at own) → rows ≡ map key_of_event own
rows-whole own at rows all are = are ∙ ap (map key_of_event) (take_all at own all)

-- ---- what is wrong is not allowed

each-at : {X : Type 0} (P : X → Type 0) (xs : List X) (i : ℕ) (x : X) → Each P xs → slice_get xs i ≡ Some x → P x
each-at P [] i x each there = absurd (none-some x there)
each-at P (y ∷ xs) zero x each there = subst P (same_Some y x there) each.0
each-at P (y ∷ xs) (suc i) x each there = each-at P xs i x each.1 there

there-length : (xs : List Kevent) (i : ℕ) (x : Kevent) → slice_get xs i ≡ Some x → i < length xs
there-length [] i x there = absurd (none-some x there)
there-length (y ∷ xs) zero x there = omega arith
there-length (y ∷ xs) (suc i) x there = omega (arith, there-length xs i x there)

there-key : (xs : List Kevent) (i : ℕ) (x : Kevent) → slice_get xs i ≡ Some x
    → has_key (key_of_event x) (map key_of_event xs) ≡ true
there-key [] i x there = absurd (none-some x there)
there-key (y ∷ xs) zero x there =
    or_left (key_eq (key_of_event x) (key_of_event y)) (has_key (key_of_event x) (map key_of_event xs))
    (ap (λ (e : Kevent). key_eq (key_of_event x) (key_of_event e)) (same_Some y x there)
    ∙ key_eq-refl (key_of_event x))
there-key (y ∷ xs) (suc i) x there =
    or_right (key_eq (key_of_event x) (key_of_event y)) (has_key (key_of_event x) (map key_of_event xs))
    (there-key xs i x there)

once-at : (xs : List Kevent) (i : ℕ) (x : Kevent) → AreOnce (map key_of_event xs) → slice_get xs i ≡ Some x
    → has_key (key_of_event x) (map key_of_event (take i xs)) ≡ false
once-at [] i x once there = absurd (none-some x there)
once-at (y ∷ xs) zero x once there = refl
once-at (y ∷ xs) (suc i) x once there =
    by_test (λ b. key_eq (key_of_event x) (key_of_event y) ≡ b
    → b || has_key (key_of_event x) (map key_of_event (take i xs)) ≡ false) (key_eq (key_of_event x) (key_of_event y))
    (λ _ same. absurd (true≢false (sym (there-key xs i x there)
    ∙ ap (λ (key : Key). has_key key (map key_of_event xs)) (same_key (key_of_event x) (key_of_event y) same)
    ∙ once.0)))
    (λ _ _. once-at xs i x once.1 there) refl

pub wrong-refused : (ignored : List Ignored) (views : Views) (room : ℕ) (kq : Kqueue) (own : List Kevent) (at : ℕ)
    (fault : Fault) → IsSound kq → IsWrongAt ignored views room kq.knotes own at fault
    → IsAllowed ignored views room kq own → ⊥
wrong-refused ignored views room kq own at fault sound wrong allowed = by fault wrong.fault_is
  where
    right : IsRight ignored views room kq own
    right = allowed-right ignored views room kq own sound allowed

    here : IsRightEvent ignored views kq.knotes wrong.event
    here = each-at (IsRightEvent ignored views kq.knotes) own at wrong.event right.right.each wrong.there

    by : (f : Fault) → IsFault ignored views room kq.knotes (take at own) wrong.event f → ⊥
    by PastRoom full =
        absurd (omega (arith, full, length-take at own, there-length own at wrong.event wrong.there, right.within))
    by Twice there = true≢false (sym there.1 ∙ once-at own at wrong.event right.right.once wrong.there)
    by (NotPending absence) absent =
        absence-pending views kq.knotes (key_of_event wrong.event) here.expected absence absent.1 here.pending
    by (Differs member expected) differs =
        differs.1.2.differ (subst (λ (e : Kevent). AgreeOn member e wrong.event)
        (pending-one views kq.knotes (key_of_event wrong.event) here.expected expected here.pending differs.1.0)
        (here.same.members member differs.1.2.compared))

pub missing-refused : (ignored : List Ignored) (views : Views) (room : ℕ) (kq : Kqueue) (own : List Kevent) (key : Key)
    → IsSound kq → IsMissing ignored views room kq own key → IsAllowed ignored views room kq own → ⊥
missing-refused ignored views room kq own key sound missing allowed =
    let right = allowed-right ignored views room kq own sound allowed in
    true≢false (sym (right.complete missing.less key missing.held_back.event missing.held_back.pending)
    ∙ missing.held_back.absent)

-- ---- where nothing is wrong

pub full-allowed : (ignored : List Ignored) (views : Views) (room : ℕ) (kq : Kqueue) (own : List Kevent) → IsSound kq
    → AreRight ignored views kq.knotes own → length own ≡ room → IsAllowed ignored views room kq own
full-allowed ignored views room kq own sound right full =
    right-allowed ignored views room kq own sound (record {
      right = right;
      within = omega arith;
      complete = λ less key e p. absurd (omega (arith, less, full));
    })

pub whole-allowed : (ignored : List Ignored) (views : Views) (room : ℕ) (kq : Kqueue) (own : List Kevent) → IsSound kq
    → AreRight ignored views kq.knotes own → length own ≤ room
    → AreReturned views kq.knotes kq.queue (map key_of_event own) → IsAllowed ignored views room kq own
whole-allowed ignored views room kq own sound right within returned =
    right-allowed ignored views room kq own sound (record {
      right = right;
      within = within;
      complete = λ less key e p. returned key e (pending-queued views kq key e sound p) p;
    })

-- ---- the keys of a queue, one after the other

pub returned-none : (views : Views) (ks : List Knote) (rows : List Key) → AreReturned views ks [] rows
returned-none views ks rows = λ key e there p. absurd (true≢false (sym there))

pub returned-more : (views : Views) (ks : List Knote) (queue rows : List Key) (at : ℕ) (key : Key)
    → slice_get queue at ≡ Some key → AreReturned views ks (take at queue) rows
    → ((e : Kevent) → IsPending views ks key e → has_key key rows ≡ true)
    → AreReturned views ks (take (at + 1) queue) rows
returned-more views ks queue rows at key there past here = λ other e among p.
    by other e p (parts queue at key other there among)
  where
    -- a key among one more is among those before, or is that one
    parts : (q : List Key) (i : ℕ) (k other : Key) → slice_get q i ≡ Some k → has_key other (take (i + 1) q) ≡ true
        → (has_key other (take i q) ≡ true) ⊎ (other ≡ k)
    parts q i k other at_i among = split q i k other at_i (ap (λ n. has_key other (take n q)) (plus i) ∙ among)
      where
        plus : (n : ℕ) → suc n ≡ n + 1
        plus n = omega arith

        split : (xs : List Key) (n : ℕ) (x o : Key) → slice_get xs n ≡ Some x → has_key o (take (suc n) xs) ≡ true
            → (has_key o (take n xs) ≡ true) ⊎ (o ≡ x)
        split [] n x o is there = absurd (none-some x is)
        split (y ∷ xs) zero x o is there =
            by_test (λ b. key_eq o y ≡ b → b || false ≡ true → (false ≡ true) ⊎ (o ≡ x)) (key_eq o y)
            (λ _ same _. inr (same_key o y same ∙ same_Some y x is)) (λ _ _ no. inl no) refl there
        split (y ∷ xs) (suc n) x o is there =
            by_test (λ b. key_eq o y ≡ b → b || has_key o (take (suc n) xs) ≡ true
            → (b || has_key o (take n xs) ≡ true) ⊎ (o ≡ x)) (key_eq o y)
            (λ _ _ _. inl refl) (λ _ _ later. split xs n x o is later) refl there

    by : (other : Key) (e : Kevent) → IsPending views ks other e
        → (has_key other (take at queue) ≡ true) ⊎ (other ≡ key) → has_key other rows ≡ true
    by other e p (inl before) = past other e before p
    by other e p (inr is) =
        ap (λ (k : Key). has_key k rows) is ∙ here e (subst (λ (k : Key). IsPending views ks k e) is p)

pub returned-whole : (views : Views) (ks : List Knote) (queue rows : List Key) (at : ℕ) → length queue ≤ at
    → AreReturned views ks (take at queue) rows → AreReturned views ks queue rows
returned-whole views ks queue rows at all past =
    subst (λ (keys : List Key). AreReturned views ks keys rows) (take_all at queue all) past

-- past the last key
pub returned-past : (views : Views) (ks : List Knote) (queue rows : List Key) (at : ℕ) → slice_get queue at ≡ None
    → AreReturned views ks (take at queue) rows → AreReturned views ks queue rows
returned-past views ks queue rows at none past =
    returned-whole views ks queue rows at (short queue at none) past
  where
    short : (q : List Key) (i : ℕ) → slice_get q i ≡ None → length q ≤ i
    short [] i is = omega arith
    short (x ∷ q) zero is = absurd (none-some x (sym is))
    short (x ∷ q) (suc i) is = omega (arith, short q i is)

pub missing-at : (ignored : List Ignored) (views : Views) (room : ℕ) (kq : Kqueue) (own : List Kevent) (key : Key)
    → AreRight ignored views kq.knotes own → length own ≤ room → (length own ≡ room → ⊥)
    → IsFirstHeldBack views kq.knotes kq.queue (map key_of_event own) key → IsMissing ignored views room kq own key
missing-at ignored views room kq own key right within apart held = record {
  right = right;
  less = omega (arith, apart, within);
  held_back = held;
}
