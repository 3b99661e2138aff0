-- A registration keeps what it promises to its user.
use Rattle.std.proofs.Common.{◌≡◌, ℕ, ◌<◌, Bool, true, false, cond, not, List, [], ◌∷◌, ◌++◌, filter, Option, Some, None, refl, sym, ap, ◌∙◌, subst, arith}
use Rattle.std.proofs.lemmas.Bool.{cond_both, true≢false, and_parts, and_from}
use Rattle.std.proofs.lemmas.List.{append-nil, map-append}
use Rattle.std.proofs.lemmas.List.Elements.{filter-append}
use Rattle.std.specs.Option.{is_some, option_map}
use Rattle.kq_model.specs.declared.change.Change.{Change}
use Rattle.kq_model.specs.declared.errno.Errno.{Errno}
use Rattle.kq_model.specs.declared.errno.Errno.TheVariants.{ENOENT, ESRCH, EBADF, EINVAL}
use Rattle.kq_model.specs.declared.filter.Filter.{Filter}
use Rattle.kq_model.specs.declared.key.Key.{Key}
use Rattle.kq_model.specs.Bits.{asks, add, delete}
use Rattle.kq_model.specs.Call.{number_of}
use Rattle.kq_model.specs.Caller.{Caller}
use Rattle.kq_model.specs.ChangedKnote.{key_of, made, modified}
use Rattle.kq_model.specs.Errno.{error_number}
use Rattle.kq_model.specs.Hearing.{Hearing}
use Rattle.kq_model.specs.Knote.{Knote, key_eq, has_key, queued, find_knote, with_knote, without_knote, without_key}
use Rattle.kq_model.specs.Kqueue.{Kqueue}
use Rattle.kq_model.specs.Refusals.{is_malformed, is_unopened, own_refusal}
use Rattle.kq_model.specs.Registration.{Decision, Refuse, Remove, Make, Modify, unless_refused, decided, decision, queue_for, is_restart, without_restarted, carried_out, register}
use Rattle.kq_model.specs.RegistrationLaws.{keys_of, is_removal, IsRegistered}
use Rattle.kq_model.proofs.KeyLaws.{same_key, key_eq-refl}
use Rattle.kq_model.proofs.KnoteLaws.{by_test, found_or, find_knote-key, find_knote-here, find_knote-append, find_knote-with_same, find_knote-without_same}
use Rattle.kq_model.proofs.Subjects.{made-subject, modified-subject}

error_number-positive : (e : Errno) → 0 < error_number e
error_number-positive ENOENT = omega arith
error_number-positive ESRCH = omega arith
error_number-positive EBADF = omega arith
error_number-positive EINVAL = omega arith

filter-twice : {A : Type 0} (p : A → Bool) (xs : List A) → filter p (filter p xs) ≡ filter p xs
filter-twice p [] = refl
filter-twice p (x ∷ xs) =
    by_test (λ b. filter p (cond b (x ∷ filter p xs) (filter p xs)) ≡ cond b (x ∷ filter p xs) (filter p xs)) (p x)
    (λ stays. ap (λ b. cond b (x ∷ filter p (filter p xs)) (filter p (filter p xs))) stays ∙ ap (λ rest. x ∷ rest) (filter-twice p xs))
    (λ _. filter-twice p xs)

-- ---- the queue without the key

without_key-queued : (key : Key) (queue : List Key) → without_key key (queued key queue) ≡ without_key key queue
without_key-queued key queue =
    let other = λ (x : Key). not (key_eq key x) in
    cond_both (has_key key queue) queue (queue ++ key ∷ []) (λ r. without_key key r ≡ without_key key queue) (λ _. refl)
    (λ _. filter-append other queue (key ∷ [])
    ∙ ap (λ b. without_key key queue ++ cond (not b) (key ∷ []) []) (key_eq-refl key)
    ∙ append-nil (without_key key queue))

without_key-restarted : (c : Change) (queue : List Key) → without_key (key_of c) (without_restarted c queue) ≡ without_key (key_of c) queue
without_key-restarted c queue =
    cond_both (is_restart c) (without_key (key_of c) queue) queue (λ r. without_key (key_of c) r ≡ without_key (key_of c) queue)
    (λ _. filter-twice (λ other. not (key_eq (key_of c) other)) queue) (λ _. refl)

module _ {S : Type 0} (h : Hearing S) where
  without_key-queue_for : (k : Knote h) (queue : List Key) → without_key k.key (queue_for k queue) ≡ without_key k.key queue
  unfolding queue_for
  without_key-queue_for k queue =
      cond_both k.enabled _ _ Same
      (λ _. cond_both k.active (queued k.key queue) queue Same (λ _. without_key-queued k.key queue) (λ _. refl))
      (λ _. filter-twice (λ other. not (key_eq k.key other)) queue)
    where
      Same : List Key → Type 0
      Same r = without_key k.key r ≡ without_key k.key queue

  other_places : (key : Key) (k : Knote h) (queue : List Key) → k.key ≡ key → without_key key (queue_for k queue) ≡ without_key key queue
  other_places key k queue e = subst (λ x. without_key x (queue_for k queue) ≡ without_key x queue) e (without_key-queue_for k queue)

  -- ---- the knotes without the key

  without_knote-made : (key : Key) (ks : List (Knote h)) (k : Knote h) → k.key ≡ key → without_knote key (ks ++ k ∷ []) ≡ without_knote key ks
  without_knote-made key ks k e =
      filter-append (λ (x : Knote h). not (key_eq key x.key)) ks (k ∷ [])
      ∙ ap (λ b. without_knote key ks ++ cond (not b) (k ∷ []) []) (ap (key_eq key) e ∙ key_eq-refl key)
      ∙ append-nil (without_knote key ks)

  abbrev put : Knote h → Knote h → Bool → Knote h
  put k x b = cond b k x

  without_knote-with : (k : Knote h) (ks : List (Knote h)) → without_knote k.key (with_knote k ks) ≡ without_knote k.key ks
  without_knote-with k [] = refl
  without_knote-with k (x ∷ ks) =
      let before = without_knote k.key ks in
      let later = without_knote k.key (with_knote k ks) in
      by_test (λ b. key_eq k.key x.key ≡ b → cond (not (key_eq k.key (put k x b).key)) (put k x b ∷ later) later ≡ cond (not b) (x ∷ before) before) (key_eq k.key x.key)
      (λ _ _. ap (λ b. cond (not b) (k ∷ later) later) (key_eq-refl k.key) ∙ without_knote-with k ks)
      (λ _ apart. ap (λ b. cond (not b) (x ∷ later) later) apart ∙ ap (λ rest. x ∷ rest) (without_knote-with k ks)) refl

  other_knotes : (key : Key) (k : Knote h) (ks : List (Knote h)) → k.key ≡ key → without_knote key (with_knote k ks) ≡ without_knote key ks
  other_knotes key k ks e = subst (λ x. without_knote x (with_knote k ks) ≡ without_knote x ks) e (without_knote-with k ks)

  -- ---- keys

  keys-with : (k : Knote h) (ks : List (Knote h)) → keys_of (with_knote k ks) ≡ keys_of ks
  keys-with k [] = refl
  keys-with k (x ∷ ks) =
      ap (λ key. key ∷ keys_of (with_knote k ks))
      (by_test (λ b. (put k x b).key ≡ x.key) (key_eq k.key x.key) (λ same. same_key k.key x.key same) (λ _. refl))
      ∙ ap (λ rest. x.key ∷ rest) (keys-with k ks)

  abbrev keyed : Filter → ℕ → Key
  keyed filter ident = record { ident = ident; filter = filter }

  pub made-key : (caller : Caller) (c : Change) → (made {h = h} caller c).key ≡ key_of c
  made-key caller c = made-subject h (λ filter ident target. keyed filter ident ≡ key_of c) caller c refl

  pub modified-key : (caller : Caller) (c : Change) (k : Knote h) → (modified caller c k).key ≡ k.key
  modified-key caller c k = modified-subject h (λ filter ident target. keyed filter ident ≡ k.key) caller c k refl

  -- ---- what a decision tells of the knote of the change's key

  abbrev Fits : Option (Knote h) → Change → Decision h → Type 0
  Fits present c (Refuse e) = Unit {0}
  Fits present c Remove = (is_some present ≡ true) × (asks c.flags delete ≡ true)
  Fits present c Make = present ≡ None
  Fits present c (Modify k) = (present ≡ Some k) × (asks c.flags delete ≡ false)

  unless_refused-fits : (present : Option (Knote h)) (c : Change) (e : Option Errno) (d : Decision h) → Fits present c d → Fits present c (unless_refused e d)
  unfolding unless_refused
  unless_refused-fits present c None d fits = fits
  unless_refused-fits present c (Some e) d fits = tt

  decided-fits : (caller : Caller) (present : Option (Knote h)) (c : Change) → Fits present c (decided caller present c)
  unfolding decided
  decided-fits caller None c =
      cond_both (asks c.flags add) _ _ (Fits None c)
      (λ _. unless_refused-fits None c (own_refusal c.filter caller true c) Make refl) (λ _. tt)
  decided-fits caller (Some k) c =
      cond_both (asks c.flags delete) _ _ (Fits (Some k) c) (λ deletes. (refl, deletes))
      (λ stays. cond_both (asks c.flags add) _ _ (Fits (Some k) c)
      (λ _. unless_refused-fits (Some k) c (own_refusal c.filter caller false c) (Modify k) (refl, stays)) (λ _. (refl, stays)))

  decision-fits : (caller : Caller) (present : Option (Knote h)) (c : Change) → Fits present c (decision caller present c)
  unfolding decision
  decision-fits caller present c =
      cond_both (is_malformed c) _ _ (Fits present c) (λ _. tt)
      (λ _. cond_both (is_unopened caller c) _ _ (Fits present c) (λ _. tt) (λ _. decided-fits caller present c))

  -- ---- the law

  carried_out-registered : (caller : Caller) (c : Change) (kq : Kqueue h) (d : Decision h) → Fits (find_knote (key_of c) kq.knotes) c d
      → IsRegistered c kq (carried_out caller c kq d).kq (number_of (carried_out caller c kq d).error)
  unfolding carried_out number_of
  carried_out-registered caller c kq (Refuse e) fits = record {
    refused = λ _. refl;
    other_knotes = refl;
    other_places = refl;
    removed = λ none _. absurd (failed none);
    there = λ none _. absurd (failed none);
    no_second = λ _ _. refl;
    last = λ none _. absurd (failed none);
  }
    where
      failed : error_number e ≡ 0 → ⊥
      failed none = omega (arith, error_number-positive e)
  carried_out-registered caller c kq Remove fits = record {
    refused = λ failed. absurd (omega arith);
    other_knotes = filter-twice (λ (k : Knote h). not (key_eq (key_of c) k.key)) kq.knotes;
    other_places = filter-twice (λ other. not (key_eq (key_of c) other)) kq.queue;
    removed = λ _ _. ap is_some (find_knote-without_same (key_of c) kq.knotes);
    there = λ _ stays. absurd (true≢false (sym removal ∙ stays));
    no_second = λ _ stays. absurd (true≢false (sym removal ∙ stays));
    last = λ _ absent. absurd (true≢false (sym fits.0 ∙ absent));
  }
    where
      removal : is_removal c kq ≡ true
      removal = and_from _ _ fits.1 fits.0
  carried_out-registered caller c kq Make absent = record {
    refused = λ failed. absurd (omega arith);
    other_knotes = without_knote-made (key_of c) kq.knotes (made caller c) (made-key caller c);
    other_places = other_places (key_of c) (made caller c) kq.queue (made-key caller c);
    removed = λ _ removal. absurd (true≢false (sym (and_parts _ _ removal).1 ∙ ap is_some absent));
    there = λ _ _. ap is_some (find_knote-append (key_of c) kq.knotes (made caller c ∷ [])
        ∙ ap (λ f. found_or f (find_knote (key_of c) (made caller c ∷ []))) absent
        ∙ find_knote-here (key_of c) (made caller c) [] (ap (key_eq (key_of c)) (made-key caller c) ∙ key_eq-refl (key_of c)));
    no_second = λ present _. absurd (true≢false (sym present ∙ ap is_some absent));
    last = λ _ _. map-append (λ (k : Knote h). k.key) kq.knotes (made caller c ∷ [])
        ∙ ap (λ key. keys_of kq.knotes ++ key ∷ []) (made-key caller c);
  }
  carried_out-registered caller c kq (Modify k) fits = record {
    refused = λ failed. absurd (omega arith);
    other_knotes = other_knotes (key_of c) m kq.knotes same;
    other_places = other_places (key_of c) m (without_restarted c kq.queue) same ∙ without_key-restarted c kq.queue;
    removed = λ _ removal. absurd (true≢false (sym (and_parts _ _ removal).0 ∙ fits.1));
    there = λ _ _. ap (λ key. is_some (find_knote key (with_knote m kq.knotes))) (sym same)
        ∙ ap is_some (find_knote-with_same m kq.knotes)
        ∙ ap (λ key. is_some (option_map (λ _. m) (find_knote key kq.knotes))) same
        ∙ ap (λ found. is_some (option_map (λ _. m) found)) fits.0;
    no_second = λ _ _. keys-with m kq.knotes;
    last = λ _ absent. absurd (true≢false (sym (ap is_some fits.0) ∙ absent));
  }
    where
      m : Knote h
      m = modified caller c k

      same : (modified caller c k).key ≡ key_of c
      same = modified-key caller c k ∙ sym (find_knote-key (key_of c) kq.knotes k fits.0)

  pub register-registered : (caller : Caller) (c : Change) (kq : Kqueue h) → IsRegistered c kq (register caller c kq).kq (number_of (register caller c kq).error)
  unfolding register
  register-registered caller c kq =
      carried_out-registered caller c kq (decision caller (find_knote (key_of c) kq.knotes) c)
      (decision-fits caller (find_knote (key_of c) kq.knotes) c)
