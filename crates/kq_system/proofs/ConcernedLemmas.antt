-- To show a record to the kqueues that it concerns is to show it to all.
use Rattle.std.proofs.Common.{◌≡◌, ◌∙◌, ◌==◌, ◌||◌, ◌&&◌, ◌<◌, ◌++◌, ℕ, Bool, true, false, not, cond, List, [], ◌∷◌, map, filter, nat_eq, Option, None, Some, refl, sym, ap, ap₂, subst, arith}
use Rattle.std.proofs.lemmas.Bool.{eqb-true}
use Rattle.std.proofs.lemmas.Bool.Decides.{nat_tests}
use Rattle.std.proofs.lemmas.List.Elements.{All-head, All-tail}
use Rattle.std.specs.Prelude.{All}
use Rattle.std.specs.List.{IsDistinct, list_any}
use Rattle.std.specs.Map.{lookup, keys_of}
use Rattle.std.specs.HashMap.{HashMap}
use Rattle.kq_model.specs.contracts.object.TargetPartialEq.TheImpl as target_equal
use Rattle.kq_model.specs.declared.key.Key.{Key}
use Rattle.kq_model.specs.declared.filter.Filter.{Filter}
use Rattle.kq_model.specs.declared.object.Hint.{Hint}
use Rattle.kq_model.specs.declared.object.Target.{Target}
use Rattle.kq_model.specs.declared.object.Target.TheVariants.{Own}
use Rattle.kq_model.specs.Close.{Pair, closed, has_pair, is_closed}
use Rattle.kq_model.specs.Tallying.{tallying}
use Rattle.kq_model.specs.Hints.{hints_for, if_there, knotes_alerted, alerted, notified, queue_after_all, queue_alerted, takes}
use Rattle.kq_model.specs.Knote.{watches_number}
use Rattle.kq_model.specs.Subjects.{HasSubject, HaveSubjects}
use Rattle.kq_model.specs.Tallied.{Knote, Kqueue, Live}
use Rattle.kq_model.specs.Targets.{Posted, is_target}
use Rattle.kq_model.specs.Views.{Views}
use Rattle.kq_model.proofs.SameTarget.{same_target}
use Rattle.kq_model.proofs.SubjectsCall.{closed-subjects, notified-subjects}
use Rattle.kq_process.specs.Effects.{pairs_in}
use Rattle.kq_system.specs.Places.{has_place, places_at}
use Rattle.kq_system.specs.Showing.{AreFound, ArePassed, AreShown, Each, IsListed, IsPassed, IsTold, asks_owned, asks_watching}
use Rattle.kq_system.specs.SystemState.{NumberedKqueue, goes_on, happened_to, happened_to_all, live_of}
use Rattle.kq_system.proofs.QuietLemmas.{all_kept}
use Rattle.kq_system.proofs.PassedLemmas.{AreStanding, not_yet, placed, same_keys, stands}
use Rattle.kq_system.proofs.ShowLemmas.{Each-from, Each-found, Entries, by_test, was}

no_case : {X : Type 0} (b : Bool) → b ≡ true → b ≡ false → X
no_case b is away = absurd (cc)

-- ---- a kqueue whose process closes nothing

or_parts : (a b : Bool) → (a || b) ≡ false → (a ≡ false) × (b ≡ false)
or_parts true b is = absurd (cc)
or_parts false b is = (refl, is)

both_false : (a b : Bool) → a ≡ false → b ≡ false → (a || b) ≡ false
both_false true b a_is b_is = absurd (cc)
both_false false b a_is b_is = b_is

and_none : (a b : Bool) → a ≡ false → (a && b) ≡ false
and_none true b is = absurd (cc)
and_none false b is = refl

not_this : {S : Type 0} (owned : HashMap ℕ (List ℕ) S) (pid owner place : ℕ)
    → has_place place (places_at nat_eq owned owner) ≡ true → has_place place (places_at nat_eq owned pid) ≡ false
    → (pid == owner) ≡ false
not_this owned pid owner place here away =
    by_test (λ b. (pid == owner) ≡ b → b ≡ false) (pid == owner)
    (λ _ same.
    let one : pid ≡ owner = eqb-true pid owner same in
    no_case (has_place place (places_at nat_eq owned owner)) here
    (subst (λ n. has_place place (places_at nat_eq owned n) ≡ false) one away))
    (λ _ _. refl) refl

pub not_closed : {S : Type 0} (owned : HashMap ℕ (List ℕ) S) (owner place : ℕ) (ps : List (ℕ × ℕ))
    → has_place place (places_at nat_eq owned owner) ≡ true → asks_owned owned ps place ≡ false
    → (number : ℕ) → has_pair owner number (pairs_in ps) ≡ false
not_closed owned owner place [] here away number = refl
not_closed owned owner place (p ∷ ps) here away number =
    let parts = or_parts (has_place place (places_at nat_eq owned p.0)) (asks_owned owned ps place) away in
    both_false ((p.0 == owner) && (p.1 == number)) (has_pair owner number (pairs_in ps))
    (and_none (p.0 == owner) (p.1 == number) (not_this owned p.0 owner place here parts.0))
    (not_closed owned owner place ps here parts.1 number)

still_open : (watches b : Bool) → b ≡ false → not (watches && b) ≡ true
still_open true b is = ap not is
still_open false b is = refl

pub unclosed : (owner : ℕ) (pairs : List Pair) (kq : Kqueue) → ((number : ℕ) → has_pair owner number pairs ≡ false)
    → closed owner pairs kq ≡ kq
unfolding closed
unclosed owner pairs kq none =
    ap₂ (λ (ks : List Knote) (queue : List Key). let k : Kqueue = record { knotes = ks; queue = queue } in k)
    (all_kept (λ (k : Knote). not (is_closed owner pairs k.key)) kq.knotes
    (λ k. still_open (watches_number k.key.filter) (has_pair owner k.key.ident pairs) (none k.key.ident)))
    (all_kept (λ key. not (is_closed owner pairs key)) kq.queue
    (λ key. still_open (watches_number key.filter) (has_pair owner key.ident pairs) (none key.ident)))

-- ---- a kqueue that watches nothing for which there is a hint

none_kept : {X : Type 0} (t : X → Bool) (xs : List X) → list_any t xs ≡ false → filter t xs ≡ []
none_kept t [] none = refl
none_kept t (x ∷ xs) none =
    let parts = or_parts (t x) (list_any t xs) none in
    ap (λ b. cond b (x ∷ filter t xs) (filter t xs)) parts.0 ∙ none_kept t xs parts.1

abbrev Unhinted : List Posted → List Knote → Type 0
Unhinted posted [] = Unit {0}
Unhinted posted (k ∷ ks) = (hints_for k posted ≡ []) × Unhinted posted ks

no_hints : (posted : List Posted) (k : Knote) → list_any (λ (p : Posted). is_target k.target p.0) posted ≡ false
    → hints_for k posted ≡ []
no_hints posted k none =
    ap (λ (ps : List Posted). filter (takes k.key.filter) (map (λ (p : Posted). p.1) ps))
    (none_kept (λ (p : Posted). is_target k.target p.0) posted none)

one_same : (views : Views) (hints : List Hint) (k : Knote) (rest : List Knote) → hints ≡ []
    → if_there (alerted views hints k) ++ rest ≡ k ∷ rest
unfolding alerted if_there
one_same views [] k rest none = refl
one_same views (h ∷ hs) k rest none = absurd (cc)

place_same : (views : Views) (hints : List Hint) (k : Knote) (queue : List Key) → hints ≡ []
    → queue_alerted views hints k queue ≡ queue
unfolding queue_alerted
place_same views [] k queue none = refl
place_same views (h ∷ hs) k queue none = absurd (cc)

knotes_same : (views : Views) (posted : List Posted) (ks : List Knote) → Unhinted posted ks
    → knotes_alerted views posted ks ≡ ks
unfolding knotes_alerted
knotes_same views posted [] none = refl
knotes_same views posted (k ∷ ks) none =
    one_same views (hints_for k posted) k (knotes_alerted views posted ks) none.0
    ∙ ap (λ (rest : List Knote). k ∷ rest) (knotes_same views posted ks none.1)

queue_same : (views : Views) (posted : List Posted) (ks : List Knote) (queue : List Key) → Unhinted posted ks
    → queue_after_all views posted ks queue ≡ queue
unfolding queue_after_all
queue_same views posted [] queue none = refl
queue_same views posted (k ∷ ks) queue none =
    ap (queue_after_all views posted ks) (place_same views (hints_for k posted) k queue none.0)
    ∙ queue_same views posted ks queue none.1

pub unheard : (views : Views) (posted : List Posted) (kq : Kqueue) → Unhinted posted kq.knotes
    → notified views posted kq ≡ kq
unfolding notified
unheard views posted kq none =
    ap₂ (λ (ks : List Knote) (queue : List Key). let k : Kqueue = record { knotes = ks; queue = queue } in k)
    (knotes_same views posted kq.knotes none) (queue_same views posted kq.knotes kq.queue none)

pub watched : (o : Option Target) (t : Target) → is_target o t ≡ true → o ≡ Some t
unfolding is_target
watched None t is = absurd (cc)
watched (Some w) t is = ap Some (same_target w t is)

-- none of the hints is for the knote itself
abbrev pub AreOfOthers : List Posted → Type 0
AreOfOthers [] = Unit {0}
AreOfOthers (p ∷ ps) = (p.0 ≡ Own → ⊥) × AreOfOthers ps

pub of_others : (posted : List Posted) → All (λ (p : Posted). p.0 ≡ Own → ⊥) posted → AreOfOthers posted
of_others [] all = tt
of_others (p ∷ ps) all = (
  All-head (λ (q : Posted). q.0 ≡ Own → ⊥) p ps all,
  of_others ps (All-tail (λ (q : Posted). q.0 ≡ Own → ⊥) p ps all),
)

unhinted_one : {T : Type 0} (watching : HashMap Target (List ℕ) T) (place : ℕ) (k : Knote) (posted : List Posted)
    → HasSubject (IsListed place watching) k → AreOfOthers posted → asks_watching watching posted place ≡ false
    → list_any (λ (p : Posted). is_target k.target p.0) posted ≡ false
unhinted_one watching place k [] listed others away = refl
unhinted_one watching place k (p ∷ ps) listed others away =
    let parts = or_parts (has_place place (places_at target_equal.eq-value.it watching p.0))
    (asks_watching watching ps place) away in
    both_false (is_target k.target p.0) (list_any (λ (q : Posted). is_target k.target q.0) ps)
    (by_test (λ b. is_target k.target p.0 ≡ b → b ≡ false) (is_target k.target p.0)
    (λ _ is. no_case (has_place place (places_at target_equal.eq-value.it watching p.0))
    (listed.0 p.0 (watched k.target p.0 is) others.0) parts.0)
    (λ _ _. refl) refl)
    (unhinted_one watching place k ps listed others.1 parts.1)

pub unhinted : {T : Type 0} (watching : HashMap Target (List ℕ) T) (place : ℕ) (ks : List Knote) (posted : List Posted)
    → HaveSubjects (IsListed place watching) ks → AreOfOthers posted → asks_watching watching posted place ≡ false
    → Unhinted posted ks
unhinted watching place [] posted listed others away = tt
unhinted watching place (k ∷ ks) posted listed others away = (
  no_hints posted k (unhinted_one watching place k posted
      (All-head (HasSubject (IsListed place watching)) k ks listed) others away),
  unhinted watching place ks posted (All-tail (HasSubject (IsListed place watching)) k ks listed) others away,
)

-- ---- all of them

-- what holds of the subjects of its knotes goes on to hold
pub told_subjects : (pairs : List Pair) (hints : List Posted) (views : Views) (P : Filter → ℕ → Option Target → Type 0)
    (v w : NumberedKqueue) → IsTold pairs hints views v w → w.ended ≡ false → HaveSubjects P v.kq.kq.knotes
    → HaveSubjects P w.kq.kq.knotes
told_subjects pairs hints views P v w told stays has =
    subst (λ (kq : Kqueue). HaveSubjects P kq.knotes) (sym (told.kq stays))
    (notified-subjects tallying P views hints _ (closed-subjects tallying P v.kq.owner pairs v.kq.kq has))

module _ (round : ℕ) (pairs : List Pair) (hints : List Posted) (views : Views) where
  abbrev becomes : Live → Live
  becomes = happened_to pairs hints views

  -- the record would leave it as it is
  pub record IsUntouched (w : NumberedKqueue) : Type 0 where
    pub stays_open : has_pair w.kq.owner w.number pairs ≡ false
    pub same : notified views hints (closed w.kq.owner pairs w.kq.kq) ≡ w.kq.kq

  joined : (b c : Bool) (n : ℕ × NumberedKqueue) (rest : Entries) (l : Live) (ls : List Live) → b ≡ c
      → (b ≡ true → live_of n ≡ becomes l) → map live_of rest ≡ map becomes ls
      → map live_of (cond b (n ∷ rest) rest) ≡ map becomes (cond c (l ∷ ls) ls)
  joined true true n rest l ls same one others = ap₂ (λ (l : Live) (ls : List Live). l ∷ ls) (one refl) others
  joined true false n rest l ls same one others = absurd (cc)
  joined false true n rest l ls same one others = absurd (cc)
  joined false false n rest l ls same one others = others

  one_became : (e n : ℕ × NumberedKqueue) (rest : Entries) (ls : List Live) → n.0 ≡ e.0
      → IsPassed round (IsTold pairs hints views) e.1 n.1 → e.1.ended ≡ false → (e.1.shown ≡ round → ⊥)
      → ((n.1.shown ≡ round → ⊥) → IsUntouched n.1) → map live_of rest ≡ map becomes ls
      → map live_of (cond (stands n) (n ∷ rest) rest) ≡ map becomes (cond (goes_on pairs (live_of e)) (live_of e ∷ ls) ls)
  one_became e n rest ls place passed was_standing fresh untouched others =
      by_test (λ b. nat_eq n.1.shown round ≡ b → map live_of (cond (stands n) (n ∷ rest) rest)
      ≡ map becomes (cond (goes_on pairs (live_of e)) (live_of e ∷ ls) ls)) (nat_eq n.1.shown round)
      (λ _ is.
      let seen : n.1.shown ≡ round = grind (arith, nat_tests) in
      let told = passed.told fresh seen in
      joined (stands n) (goes_on pairs (live_of e)) n rest (live_of e) ls (ap not told.ended)
      (λ stays. placed e n _ place passed.number passed.owner (told.kq (standing n.1.ended stays))) others)
      (λ _ other.
      let unseen : n.1.shown ≡ round → ⊥ = λ same. unlike n.1.shown round other same in
      let same = passed.unseen unseen in
      let left = untouched unseen in
      joined (stands n) (goes_on pairs (live_of e)) n rest (live_of e) ls
      (ap not (ap (λ (w : NumberedKqueue). w.ended) same ∙ was_standing)
      ∙ sym (ap not (ap (λ (w : NumberedKqueue). has_pair w.kq.owner w.number pairs) (sym same) ∙ left.stays_open)))
      (λ stays. placed e n _ place passed.number passed.owner
      (sym left.same ∙ ap (λ (w : NumberedKqueue). notified views hints (closed w.kq.owner pairs w.kq.kq)) same)) others)
      refl
    where
      standing : (b : Bool) → not b ≡ true → b ≡ false
      standing true is = absurd (cc)
      standing false is = refl

      unlike : (a b : ℕ) → nat_eq a b ≡ false → a ≡ b → ⊥
      unlike a b apart same = grind (arith, nat_tests)

  pub all_became : (es ns : Entries) → ArePassed round (IsTold pairs hints views) es ns → AreStanding es
      → Each (λ place v. v.shown ≡ round → ⊥) es → Each (λ place w. (w.shown ≡ round → ⊥) → IsUntouched w) ns
      → map live_of (filter stands ns) ≡ happened_to_all pairs hints views (map live_of es)
  all_became [] [] passed standing fresh untouched = refl
  all_became [] (n ∷ ns) passed standing fresh untouched = absurd passed
  all_became (e ∷ es) [] passed standing fresh untouched = absurd passed
  all_became (e ∷ es) (n ∷ ns) passed standing fresh untouched =
      one_became e n (filter stands ns) (filter (goes_on pairs) (map live_of es)) passed.0 passed.1 standing.0 fresh.0
      untouched.0 (all_became es ns passed.2 standing.1 fresh.1 untouched.1)

-- a record that was shown to all that its indexes name was shown to all
module _ (round : ℕ) (ps : List (ℕ × ℕ)) (hints : List Posted) (views : Views) {S T : Type 0}
    (owned : HashMap ℕ (List ℕ) S) (watching : HashMap Target (List ℕ) T) (last : ℕ) (later : last < round)
    (others : AreOfOthers hints) where
  abbrev asked : ℕ → Bool
  asked place = asks_owned owned ps place || asks_watching watching hints place

  module _ (es ns : Entries) (any : Bool) (spare : ℕ) (prepared : Option (ℕ × ℕ))
      (found : AreFound es spare prepared owned watching last)
      (shown : AreShown round (IsTold (pairs_in ps) hints views) asked any es ns) where
    left_out : (place : ℕ) (w : NumberedKqueue) → lookup (nat_eq place) ns ≡ Some w → (w.shown ≡ round → ⊥)
        → asked place ≡ false
    left_out place w here unseen =
        by_test (λ b. asked place ≡ b → b ≡ false) (asked place)
        (λ _ is. absurd (unseen (shown.seen place w is here)))
        (λ _ _. refl) refl

    untouched : (place : ℕ) (w : NumberedKqueue) → lookup (nat_eq place) ns ≡ Some w → (w.shown ≡ round → ⊥)
        → IsUntouched round (pairs_in ps) hints views w
    untouched place w here unseen =
        let before = was round (IsTold (pairs_in ps) hints views) place es ns w shown.passed here in
        let v = before.it in
        let parts = or_parts (asks_owned owned ps place) (asks_watching watching hints place)
        (left_out place w here unseen) in
        let owner = Each-found (λ k u. has_place k (places_at nat_eq owned u.kq.owner) ≡ true) place es v found.by_owner
        before.found in
        let listed = Each-found (λ k u. HaveSubjects (IsListed k watching) u.kq.kq.knotes) place es v found.by_target
        before.found in
        let none = not_closed owned v.kq.owner place ps owner parts.0 in
        let it : IsUntouched round (pairs_in ps) hints views v = record {
          stays_open = none v.number;
          same = ap (notified views hints) (unclosed v.kq.owner (pairs_in ps) v.kq.kq none)
              ∙ unheard views hints v.kq.kq (unhinted watching place v.kq.kq.knotes hints listed others parts.1);
        } in
        subst (IsUntouched round (pairs_in ps) hints views) (sym (before.passed.unseen unseen)) it

    pub concerned : IsDistinct nat_eq (keys_of es)
        → map live_of (filter stands ns) ≡ happened_to_all (pairs_in ps) hints views (map live_of es)
    concerned distinct =
        all_became round (pairs_in ps) hints views es ns shown.passed found.standing (not_yet round last later es found.shown)
        (Each-from (λ place w. (w.shown ≡ round → ⊥) → IsUntouched round (pairs_in ps) hints views w) ns
        (subst (IsDistinct nat_eq) (sym (same_keys round (IsTold (pairs_in ps) hints views) es ns shown.passed)) distinct)
        untouched)
