-- The indexes name all live kqueues: after a record was shown to all, a call, and a birth.
use Rattle.std.proofs.Common.{◌≡◌, ◌∙◌, ◌<◌, ◌≤◌, ◌++◌, ℕ, Bool, true, false, cond, List, [], ◌∷◌, nat_eq, Option, None, Some, Result, Ok, Err, IsOk, refl, sym, ap, subst, arith}
use Rattle.std.proofs.lemmas.Bool.Decides.{nat_tests}
use Rattle.std.proofs.lemmas.List.Elements.{All-nil, All-weaker}
use Rattle.std.proofs.lemmas.Option.{same_Some}
use Rattle.std.specs.Prelude.{All, IfOk, OnErr}
use Rattle.std.specs.Map.{lookup, set_value}
use Rattle.std.specs.Map.Calls.{RetainsPairs}
use Rattle.std.specs.HashMap.{HashMap}
use Rattle.kq_model.specs.contracts.object.TargetPartialEq.TheImpl as target_equal
use Rattle.kq_model.specs.declared.change.Change.{Change}
use Rattle.kq_model.specs.declared.filter.Filter.{Filter}
use Rattle.kq_model.specs.declared.memory.Memory.{Memory}
use Rattle.kq_model.specs.declared.object.Target.{Target}
use Rattle.kq_model.specs.declared.object.Target.TheVariants.{Own}
use Rattle.kq_model.specs.declared.reply.Reply.{Reply}
use Rattle.kq_model.specs.Bits.{add, asks, delete}
use Rattle.kq_model.specs.Call as kevent
use Rattle.kq_model.specs.Caller.{Caller}
use Rattle.kq_model.specs.ChangedKnote.{key_of}
use Rattle.kq_model.specs.Close.{Pair}
use Rattle.kq_model.specs.Tallying.{tallying}
use Rattle.kq_model.specs.Knote.{find_knote}
use Rattle.kq_model.specs.Refusals.{is_malformed, is_unopened, own_refusal}
use Rattle.kq_model.specs.Registration.{Decision, Make, Modify, Refuse, Remove, decided, decision, unless_refused}
use Rattle.kq_model.specs.Subjects.{HasSubject, HaveSubjects, MakeSubjects, MakesSubject}
use Rattle.kq_model.specs.Tallied.{Called, Knote, Kqueue}
use Rattle.kq_model.specs.Targets.{Posted, target_of}
use Rattle.kq_model.specs.Views.{Views}
use Rattle.std.proofs.lemmas.Bool.{cond_both, true≢false}
use Rattle.kq_model.specs.declared.errno.Errno.{Errno}
use Rattle.kq_model.proofs.SubjectsCall.{call-subjects, closed-subjects, notified-subjects}
use Rattle.kq_system.specs.Places.{Grows, has_place, places_at}
use Rattle.kq_system.specs.Showing.{AreFound, Each, IsFound, IsListed}
use Rattle.kq_system.specs.SystemState.{NumberedKqueue}
use Rattle.kq_system.proofs.HappenLemmas.{Says}
use Rattle.kq_system.proofs.ShowLemmas.{Each-found, Each-push, Each-set, Each-weaker, Entries}

same_number : (a b : ℕ) → nat_eq a b ≡ true → a ≡ b
same_number a b h = grind (arith, nat_tests)

-- what is found is found among more
pub found_among : {T : Type 0} (place : ℕ) (old new : HashMap Target (List ℕ) T) → Grows target_equal.eq-value.it old new
    → (filter : Filter) (target : Option Target) → IsFound place old filter target → IsFound place new filter target
found_among place old new more filter target found =
    (λ t is other. more.grows t place (found.0 t is other), λ timer. more.grows Own place (found.1 timer))

-- a set of knotes under more places
pub listed_more : {T : Type 0} (place : ℕ) (old new : HashMap Target (List ℕ) T) → Grows target_equal.eq-value.it old new
    → (ks : List Knote) → HaveSubjects (IsListed place old) ks → HaveSubjects (IsListed place new) ks
listed_more place old new more ks has =
    All-weaker (HasSubject (IsListed place old)) (HasSubject (IsListed place new))
    (λ k found. found_among place old new more k.key.filter k.target found) ks has

-- ---- where a record was shown to all

module _ {F : Type 0} (T : F → ℕ → NumberedKqueue → Bool → NumberedKqueue → F → Type 0) (pairs : List Pair)
    (hints : List Posted) (views : Views) (f : F)
    (says : (k : ℕ) (v : NumberedKqueue) (b : Bool) (w : NumberedKqueue) (g : F) → T f k v b w g
    → Says pairs hints views f v b w g) where
  kept_step : (Q : ℕ → NumberedKqueue → Type 0) (k : ℕ) (w : NumberedKqueue) (rest : Entries) (b : Bool)
      → (b ≡ true → Q k w) → Each Q rest → Each Q (cond b ((k, w) ∷ rest) rest)
  kept_step Q k w rest true here others = (here refl, others)
  kept_step Q k w rest false here others = others

  each_retained : (P Q : ℕ → NumberedKqueue → Type 0)
      → ((k : ℕ) (v w : NumberedKqueue) (b : Bool) (g : F) → Says pairs hints views f v b w g → b ≡ true → P k v → Q k w)
      → (es kept : Entries) → RetainsPairs T f es kept → Each P es → Each Q kept
  each_retained P Q keeps [] kept h all = subst (Each Q) (sym h) tt
  each_retained P Q keeps (e ∷ es) kept h all =
      let s = says e.0 e.1 h.0 h.1 h.2 h.4 in
      let rest = each_retained P Q keeps es h.3 (subst (λ g. RetainsPairs T g es h.3) s.same h.5) all.1 in
      subst (Each Q) (sym h.6)
      (kept_step Q e.0 h.1 h.3 h.0 (λ stays. keeps e.0 e.1 h.1 h.0 h.2 s stays all.0) rest)

  pub found_walked : {S U : Type 0} (owned : HashMap ℕ (List ℕ) S) (watching : HashMap Target (List ℕ) U) (last : ℕ)
      (es kept : Entries) (spare spare' : ℕ) (prepared : Option (ℕ × ℕ)) → AreFound es spare prepared owned watching last
      → RetainsPairs T f es kept → AreFound kept spare' None owned watching last
  found_walked owned watching last es kept spare spare' prepared found h = record {
    by_owner = each_retained (λ k v. has_place k (places_at nat_eq owned v.kq.owner) ≡ true)
        (λ k w. has_place k (places_at nat_eq owned w.kq.owner) ≡ true)
        (λ k v w b g s stays has. subst (λ owner. has_place k (places_at nat_eq owned owner) ≡ true) (sym s.owner) has)
        es kept h found.by_owner;
    by_target = each_retained (λ k v. HaveSubjects (IsListed k watching) v.kq.kq.knotes)
        (λ k w. HaveSubjects (IsListed k watching) w.kq.kq.knotes)
        (λ k v w b g s stays has. subst (λ (kq : Kqueue). HaveSubjects (IsListed k watching) kq.knotes) (sym (s.kq stays))
        (notified-subjects tallying (IsListed k watching) views hints _
        (closed-subjects tallying (IsListed k watching) v.kq.owner pairs v.kq.kq has)))
        es kept h found.by_target;
    shown = each_retained (λ k v. v.shown ≤ last) (λ k w. w.shown ≤ last)
        (λ k v w b g s stays le. subst (λ n. n ≤ last) (sym s.shown) le) es kept h found.shown;
    standing = each_retained (λ k v. v.ended ≡ false) (λ k w. w.ended ≡ false)
        (λ k v w b g s stays none. s.ended ∙ none) es kept h found.standing;
    room = λ birth is. absurd (cc);
  }

-- ---- a call

module _ (caller : Caller) (c : Change) where
  abbrev Adds : Decision tallying → Type 0
  Adds (Refuse e) = Unit {0}
  Adds Remove = Unit {0}
  Adds Make = asks c.flags add ≡ true
  Adds (Modify k) = Unit {0}

  make-adds : asks c.flags add ≡ true → (e : Option Errno) → Adds (unless_refused e Make)
  unfolding unless_refused
  make-adds adds None = adds
  make-adds adds (Some e) = tt

  modify-adds : (e : Option Errno) (k : Knote) → Adds (unless_refused e (Modify k))
  unfolding unless_refused
  modify-adds None k = tt
  modify-adds (Some e) k = tt

  decided-adds : (present : Option Knote) → Adds (decided caller present c)
  unfolding decided
  decided-adds None =
      cond_both (asks c.flags add) _ _ Adds (λ adds. make-adds adds (own_refusal c.filter caller true c)) (λ _. tt)
  decided-adds (Some k) =
      cond_both (asks c.flags delete) _ _ Adds (λ _. tt)
      (λ _. cond_both (asks c.flags add) _ _ Adds (λ _. modify-adds (own_refusal c.filter caller false c) k) (λ _. tt))

  decision-adds : (present : Option Knote) → Adds (decision caller present c)
  unfolding decision
  decision-adds present =
      cond_both (is_malformed c) _ _ Adds (λ _. tt)
      (λ _. cond_both (is_unopened caller c) _ _ Adds (λ _. tt) (λ _. decided-adds present))

-- the changes make no knote but of targets under which the kqueue stands
pub make_listed : {T : Type 0} (watching : HashMap Target (List ℕ) T) (place : ℕ) (caller : Caller) (changes : List Change)
    → All (λ (c : Change). asks c.flags add ≡ true → IsListed place watching c.filter c.ident
    (target_of caller.views caller.owner c.filter c.ident)) changes
    → MakeSubjects tallying (IsListed place watching) caller changes
make_listed watching place caller changes listed =
    All-weaker (λ (c : Change). asks c.flags add ≡ true → IsListed place watching c.filter c.ident
    (target_of caller.views caller.owner c.filter c.ident))
    (λ (c : Change). (kq : Kqueue) → MakesSubject (IsListed place watching) caller c kq)
    (λ (c : Change) given kq makes. given (subst (Adds caller c) makes
    (decision-adds caller c (find_knote (key_of c) kq.knotes)))) changes listed

by_result : (P : Kqueue → Type 0) (old new : Kqueue) (answer : Called) (r : Result Reply Memory) → P answer.kq → P old
    → IfOk r (λ reply. ◌≡◌ {A = Called} (record { kq = new; reply = reply }) answer) → OnErr r (new ≡ old) → P new
by_result P old new answer (Ok x) there here ok err = subst P (sym (ap (λ (a : Called). a.kq) ok)) there
by_result P old new answer (Err e) there here ok err = subst P (sym err) here

pub called_listed : {T : Type 0} (watching : HashMap Target (List ℕ) T) (place : ℕ) (caller : Caller) (room : ℕ)
    (changes : List Change) (old new : Kqueue) (r : Result Reply Memory)
    → All (λ (c : Change). asks c.flags add ≡ true → IsListed place watching c.filter c.ident
    (target_of caller.views caller.owner c.filter c.ident)) changes
    → HaveSubjects (IsListed place watching) old.knotes
    → IfOk r (λ reply. ◌≡◌ {A = Called} (record { kq = new; reply = reply }) (kevent.call caller room changes old))
    → OnErr r (new ≡ old) → HaveSubjects (IsListed place watching) new.knotes
called_listed watching place caller room changes old new r listed has ok err =
    by_result (λ kq. HaveSubjects (IsListed place watching) kq.knotes) old new (kevent.call caller room changes old) r
    (call-subjects tallying (IsListed place watching) caller room changes old
    (make_listed watching place caller changes listed) has) has ok err

module _ {S T : Type 0} (owned : HashMap ℕ (List ℕ) S) (old new : HashMap Target (List ℕ) T) (round : ℕ)
    (es : Entries) (spare : ℕ) (prepared : Option (ℕ × ℕ)) (found : AreFound es spare prepared owned old round)
    (more : Grows target_equal.eq-value.it old new) where
  -- under more targets
  all_listed : Each (λ k v. HaveSubjects (IsListed k new) v.kq.kq.knotes) es
  all_listed =
      Each-weaker (λ k v. HaveSubjects (IsListed k old) v.kq.kq.knotes)
      (λ k v. HaveSubjects (IsListed k new) v.kq.kq.knotes)
      (λ k v has. listed_more k old new more v.kq.kq.knotes has) es found.by_target

  pub found_more : (spare' : ℕ) → AreFound es spare' None owned new round
  found_more spare' = record {
    by_owner = found.by_owner;
    by_target = all_listed;
    shown = found.shown;
    standing = found.standing;
    room = λ birth is. absurd (cc);
  }

  -- one of them was called
  pub found_called : (spare' k : ℕ) (v w : NumberedKqueue) → lookup (nat_eq k) es ≡ Some v → w.kq.owner ≡ v.kq.owner
      → w.shown ≡ v.shown → w.ended ≡ v.ended
      → (HaveSubjects (IsListed k new) v.kq.kq.knotes → HaveSubjects (IsListed k new) w.kq.kq.knotes)
      → AreFound (set_value (nat_eq k) es w) spare' None owned new round
  found_called spare' k v w here owner shown ended called = record {
    by_owner = Each-set (λ k v. has_place k (places_at nat_eq owned v.kq.owner) ≡ true) k es w found.by_owner (λ j hit.
        subst (λ j. has_place j (places_at nat_eq owned w.kq.owner) ≡ true) (same_number k j hit)
        (subst (λ owner. has_place k (places_at nat_eq owned owner) ≡ true) (sym owner)
        (Each-found (λ k v. has_place k (places_at nat_eq owned v.kq.owner) ≡ true) k es v found.by_owner here)));
    by_target = Each-set (λ k v. HaveSubjects (IsListed k new) v.kq.kq.knotes) k es w all_listed (λ j hit.
        subst (λ j. HaveSubjects (IsListed j new) w.kq.kq.knotes) (same_number k j hit)
        (called (Each-found (λ k v. HaveSubjects (IsListed k new) v.kq.kq.knotes) k es v all_listed here)));
    shown = Each-set (λ k v. v.shown ≤ round) k es w found.shown (λ j hit.
        subst (λ n. n ≤ round) (sym shown) (Each-found (λ k v. v.shown ≤ round) k es v found.shown here));
    standing = Each-set (λ k v. v.ended ≡ false) k es w found.standing (λ j hit.
        ended ∙ Each-found (λ k v. v.ended ≡ false) k es v found.standing here);
    room = λ birth is. absurd (cc);
  }

-- ---- a birth

module _ {S T : Type 0} (watching : HashMap Target (List ℕ) T) (round : ℕ) (es : Entries) (spare : ℕ)
    (prepared : Option (ℕ × ℕ)) where
  pub found_owned : (old new : HashMap ℕ (List ℕ) S) (spare' : ℕ) (prepared' : Option (ℕ × ℕ))
      → AreFound es spare prepared old watching round → Grows nat_eq old new
      → ((birth : ℕ × ℕ) → prepared' ≡ Some birth
      → (0 < spare') × (has_place birth.0 (places_at nat_eq new birth.1) ≡ true))
      → AreFound es spare' prepared' new watching round
  found_owned old new spare' prepared' found more room = record {
    by_owner = Each-weaker (λ k v. has_place k (places_at nat_eq old v.kq.owner) ≡ true)
        (λ k v. has_place k (places_at nat_eq new v.kq.owner) ≡ true)
        (λ k v has. more.grows v.kq.owner k has) es found.by_owner;
    by_target = found.by_target;
    shown = found.shown;
    standing = found.standing;
    room = room;
  }

  pub found_born : (owned : HashMap ℕ (List ℕ) S) (spare' k : ℕ) (w : NumberedKqueue)
      → AreFound es spare prepared owned watching round → prepared ≡ Some (k, w.kq.owner) → w.kq.kq.knotes ≡ []
      → w.shown ≡ 0 → w.ended ≡ false → AreFound (es ++ (k, w) ∷ []) spare' None owned watching round
  found_born owned spare' k w found ready none shown ended = record {
    by_owner = Each-push (λ k v. has_place k (places_at nat_eq owned v.kq.owner) ≡ true) es (k, w) found.by_owner (found.room (k, w.kq.owner) ready).1;
    by_target = Each-push (λ k v. HaveSubjects (IsListed k watching) v.kq.kq.knotes) es (k, w) found.by_target
        (subst (λ (ks : List Knote). HaveSubjects (IsListed k watching) ks) (sym none)
        (All-nil (HasSubject (IsListed k watching))));
    shown = Each-push (λ k v. v.shown ≤ round) es (k, w) found.shown (omega (arith, shown));
    standing = Each-push (λ k v. v.ended ≡ false) es (k, w) found.standing ended;
    room = λ birth is. absurd (cc);
  }

-- room for a birth, which is prepared
pub ready_room : {S : Type 0} (owned : HashMap ℕ (List ℕ) S) (spare place pid : ℕ) → 0 < spare
    → has_place place (places_at nat_eq owned pid) ≡ true → (birth : ℕ × ℕ) → Some (place, pid) ≡ Some birth
    → (0 < spare) × (has_place birth.0 (places_at nat_eq owned birth.1) ≡ true)
ready_room owned spare place pid room has birth is =
    (room, subst (λ (b : ℕ × ℕ). has_place b.0 (places_at nat_eq owned b.1) ≡ true) (same_Some (place, pid) birth is) has)

pub not_ok : {A B : Type 0} (r : Result A B) (e : B) → r ≡ Err e → IsOk r → ⊥
not_ok r e is ok = true≢false (sym (subst IsOk is ok))
