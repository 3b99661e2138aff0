-- A record with its answer: what the fold makes of it, and what one makes of it who takes any order that gives the
-- answer. Both come to one verdict, and leave systems that are alike.
use Rattle.std.proofs.Common.{◌≡◌, ℕ, ◌+◌, ◌==◌, true, cond, List, [], ◌∷◌, map, Option, Some, None, option_map, refl, sym, ap, ◌∙◌, subst}
use Rattle.std.proofs.lemmas.List.Sorted.{IsPermutation-refl, list_any-IsPermutation}
use Rattle.std.proofs.lemmas.Option.{same_Some}
use Rattle.std.proofs.lemmas.Bool.{true≢false}
use Rattle.std.specs.List.Sorted.{IsPermutation}
use Rattle.std.specs.Option.{is_some}
use Rattle.std.specs.Prelude.{option_and_then}
use Rattle.kq_answers.specs.declared.answer.Given.{Given}
use Rattle.kq_answers.specs.declared.answer.Given.TheVariants as given
use Rattle.kq_judge.specs.declared.member.Ignored.{Ignored}
use Rattle.kq_judge.specs.Allowed.{IsAllowed}
use Rattle.kq_judge.specs.Same.{AreSame}
use Rattle.kq_judge.proofs.Alike.{alike-back, allowed-alike}
use Rattle.kq_judge.proofs.AllowedLaws.{IsSound-ordered, allowed_given, same-keys}
use Rattle.kq_judge.proofs.OrderLaws.{AreOnce-IsPermutation}
use Rattle.kq_kevent.specs.Arranged.{arranged}
use Rattle.kq_kevent.proofs.ArrangeLaws.{arranged-same}
use Rattle.kq_model.specs.declared.event.Event.TheVariants.{Kevent as KeventRecord}
use Rattle.kq_model.specs.declared.kevent.Kevent.{Kevent}
use Rattle.kq_model.specs.declared.key.Key.{Key}
use Rattle.kq_model.specs.declared.object.Named.TheVariants as named
use Rattle.kq_model.specs.CallLaws.{key_of_event}
use Rattle.kq_model.specs.Knote.{key_eq}
use Rattle.kq_model.specs.Kqueue.{IsSound}
use Rattle.kq_model.specs.Retrieval.{retrieval}
use Rattle.kq_model.specs.Tallied.{Kqueue, Live, System}
use Rattle.kq_model.specs.Views.{Views}
use Rattle.kq_model.specs.World.{named_by, seen_world, views_of}
use Rattle.kq_model.proofs.KnoteLaws.{by_test}
use Rattle.kq_model.proofs.SeenWorld.{seen-counted}
use Rattle.kq_system.specs.Beginning.{live_at, place_named, with_live_at}
use Rattle.kq_system.proofs.BeginSteps.{arranged-some, names-some}
use Rattle.kq_system.proofs.NamedLemmas.{live_at-with}
use Rattle.kq_check.specs.declared.verdict.Verdict.{Verdict}
use Rattle.kq_check.specs.declared.verdict.Verdict.TheVariants.{Equal, Allowed, Refused, Impossible}
use Rattle.kq_check.specs.AnyOrder.{IsReadAs, IsReadIn, IsReadOn, IsReadOr, ordered_at, ordered_in}
use Rattle.kq_check.specs.Stepped.{IsInOrder, IsOrder, IsOrderOf, IsRead, IsReadBy, arranged_by, system_read}
use Rattle.kq_check.proofs.AlikeSystems.{IsGoing, IsPair, IfPair, beside, pair-seen, pairs-found, with_kq}
use Rattle.kq_check.proofs.AlikeSteps.{beside-step, ordered-going, read-going, stepped_beside}

-- ---- verdicts

-- the verdict of one who asks for no order
abbrev pub plain : Verdict → Verdict
plain Equal = Equal
plain Allowed = Equal
plain Refused = Refused
plain (Impossible why) = Impossible why

-- the systems behind a record are alike
abbrev pub Follow : ℕ → System → System → Type 0
Follow place next after = (ks : List Live) × (after ≡ beside next ks) × IsGoing (place + 1) next ks

pub record Agree (place : ℕ) (v w : Verdict) (next after : System) : Type 0 where
  pub verdict : w ≡ plain v
  pub follow : (v ≡ Refused → ⊥) → Follow place next after

-- nothing is said behind an answer that is refused
pub both-refused : (place : ℕ) (v w : Verdict) (next after : System) → v ≡ Refused → w ≡ Refused → Agree place v w next after
both-refused place v w next after first second = record {
  verdict = second ∙ sym (ap plain first);
  follow = λ no. absurd (no first);
}

-- ---- another order

own-order : (kqueue : ℕ) (ls : List Live) → with_live_at kqueue (λ l. l.kq) ls ≡ ls
own-order kqueue [] = refl
own-order kqueue (l ∷ ls) =
    by_test (λ b. cond b (with_kq l.kq l) l ∷ with_live_at kqueue (λ x. x.kq) ls ≡ l ∷ ls) (kqueue == l.place)
    (λ _. ap (λ (xs : List Live). l ∷ xs) (own-order kqueue ls)) (λ _. ap (λ (xs : List Live). l ∷ xs) (own-order kqueue ls))

sound-in : (kq : Kqueue) (order : List Key) → IsSound kq → IsPermutation kq.queue order → IsSound (record kq { queue = order })
sound-in kq order sound permutes =
    IsSound-ordered kq order sound (AreOnce-IsPermutation kq.queue order permutes sound.once)
    (λ key. list_any-IsPermutation (key_eq key) kq.queue order permutes)

-- ---- a call reads events

module _ (ignored : List Ignored) (place pid fd room : ℕ) (s : System) (ks : List Live) (going : IsGoing place s ks)
    (own : List Kevent) where
  abbrev views : Views
  views = views_of s.world

  -- a kqueue that gives the answer, as it is
  abbrev Gives : Kqueue → Type 0
  Gives kq = AreSame ignored (retrieval views room kq).events own

  module _ (kqueue : ℕ) (named_so : place_named pid fd s ≡ Some kqueue) (l k : Live) (first : live_at kqueue s.live ≡ Some l)
      (second : live_at kqueue ks ≡ Some k) where
    pair-by : IfPair (views_of (seen_world s.world)) (live_at kqueue s.live) (live_at kqueue ks) → IsPair views l k
    pair-by pair =
        pair-seen (views_of (seen_world s.world)) views l k (ap views_of (seen-counted s.world))
        (subst (λ (o : Option Live). IfPair (views_of (seen_world s.world)) (Some l) o) second
        (subst (λ (o : Option Live). IfPair (views_of (seen_world s.world)) o (live_at kqueue ks)) first pair))

    pair : IsPair views l k
    pair = pair-by (pairs-found (views_of (seen_world s.world)) kqueue s.live ks going.pairs)

    allowed-there : IsAllowed ignored views room l.kq own → IsAllowed ignored views room k.kq own
    allowed-there = allowed-alike views ignored room l.kq k.kq own pair.sound pair.other pair.alike

    allowed-here : IsAllowed ignored views room k.kq own → IsAllowed ignored views room l.kq own
    allowed-here = allowed-alike views ignored room k.kq l.kq own pair.other pair.sound (alike-back views l.kq.knotes k.kq.knotes pair.alike)

    -- in two orders that both give the answer
    module _ (does other : Live → Kqueue) (same : (x : Live) → (does x).knotes ≡ x.kq.knotes)
        (also : (x : Live) → (other x).knotes ≡ x.kq.knotes) (sound : IsSound (does l)) (sound_too : IsSound (other k))
        (gives : Gives (does l)) (gives_too : Gives (other k)) where
      abbrev s1 : System
      s1 = beside s (with_live_at kqueue does s.live)

      abbrev ks1 : List Live
      ks1 = with_live_at kqueue other ks

      ordered : IsGoing place s1 ks1
      ordered =
          ordered-going place kqueue s ks going does other same also (λ x y at at_too _. (
            subst (λ (z : Live). IsSound (does z)) (same_Some l x (sym first ∙ at)) sound,
            subst (λ (z : Live). IsSound (other z)) (same_Some k y (sym second ∙ at_too)) sound_too,
          ))

      keys : map key_of_event (retrieval views room (does l)).events ≡ map key_of_event (retrieval views room (other k)).events
      keys =
          same-keys ignored (retrieval views room (does l)).events own gives
          ∙ sym (same-keys ignored (retrieval views room (other k)).events own gives_too)

      one-kqueue : (n : ℕ) → named_by pid fd (seen_world s.world) ≡ Some (named.Kqueue n) → n ≡ kqueue
      one-kqueue n is = same_Some n kqueue (sym (names-some (named_by pid fd (seen_world s.world)) n is) ∙ named_so)

      found-in : (f : Live → Kqueue) (ls : List Live) (x y : Live) → live_at kqueue ls ≡ Some x
          → live_at kqueue (with_live_at kqueue f ls) ≡ Some y → with_kq (f x) x ≡ y
      found-in f ls x y found after =
          same_Some (with_kq (f x) x) y
          (sym (live_at-with kqueue f ls ∙ ap (option_map (λ (z : Live). with_kq (f z) z)) found) ∙ after)

      keys-seen : (v : Views) → views ≡ v
          → map key_of_event (retrieval v room (does l)).events ≡ map key_of_event (retrieval v room (other k)).events
      keys-seen v is = subst (λ (u : Views). map key_of_event (retrieval u room (does l)).events ≡ map key_of_event (retrieval u room (other k)).events) is keys

      read-same : (n : ℕ) → named_by pid fd (seen_world s.world) ≡ Some (named.Kqueue n)
          → (x y : Live) → live_at n s1.live ≡ Some x → live_at n ks1 ≡ Some y
          → map key_of_event (retrieval (views_of (seen_world s.world)) room x.kq).events
          ≡ map key_of_event (retrieval (views_of (seen_world s.world)) room y.kq).events
      read-same n is x y at at_too =
          let v = views_of (seen_world s.world) in
          let here : live_at kqueue s1.live ≡ Some x = subst (λ (i : ℕ). live_at i s1.live ≡ Some x) (one-kqueue n is) at in
          let there : live_at kqueue ks1 ≡ Some y = subst (λ (i : ℕ). live_at i ks1 ≡ Some y) (one-kqueue n is) at_too in
          ap (λ (z : Live). map key_of_event (retrieval v room z.kq).events) (sym (found-in does s.live l x first here))
          ∙ keys-seen v (sym (ap views_of (seen-counted s.world)))
          ∙ ap (λ (z : Live). map key_of_event (retrieval v room z.kq).events) (found-in other ks k y second there)

      pub follow-orders : Follow place (system_read place pid fd room s1) (system_read place pid fd room (beside s ks1))
      follow-orders = (
        stepped_beside place (KeventRecord pid fd [] room) s1 ks1,
        beside-step place (KeventRecord pid fd [] room) s1 ks1,
        read-going place pid fd room s1 ks1 ordered read-same,
      )

    follow-at : (a b : System) (next after : System) → next ≡ system_read place pid fd room a → after ≡ system_read place pid fd room b
        → Follow place (system_read place pid fd room a) (system_read place pid fd room b) → Follow place next after
    follow-at a b next after is too follow =
        subst (λ (x : System). Follow place x after) (sym is)
        (subst (λ (x : System). Follow place (system_read place pid fd room a) x) (sym too) follow)

    ordered-is : (order : List Key) → ordered_in pid fd order (beside s ks) ≡ beside s (with_live_at kqueue (λ x. record x.kq { queue = order }) ks)
    ordered-is order = ap (λ o. beside s (ordered_at o order ks)) named_so

    -- the fold read in this order, the other one in that
    follow-both : (does : Live → Kqueue) → ((x : Live) → (does x).knotes ≡ x.kq.knotes) → IsSound (does l) → Gives (does l)
        → (taken next after : System) → taken ≡ beside s (with_live_at kqueue does s.live) → next ≡ system_read place pid fd room taken
        → IsReadIn ignored place pid fd room own k (beside s ks) after → Follow place next after
    follow-both does same sound gives taken next after taken_is next_is read =
        let other : Live → Kqueue = λ x. record x.kq { queue = read.order } in
        follow-at (beside s (with_live_at kqueue does s.live)) (beside s (with_live_at kqueue other ks)) next after
        (next_is ∙ ap (system_read place pid fd room) taken_is)
        (read.next_is ∙ ap (system_read place pid fd room) (ordered-is read.order))
        (follow-orders does other same (λ x. refl) sound (sound-in k.kq read.order pair.other read.permutes) gives read.same)

    allowed-by : (after : System) → IsReadIn ignored place pid fd room own k (beside s ks) after → IsAllowed ignored views room k.kq own
    allowed-by after read = record { order = read.order; permutes = read.permutes; same = read.same }

    in-order : IsInOrder ignored room l s own → IsAllowed ignored views room l.kq own
    in-order gives = record { order = l.kq.queue; permutes = IsPermutation-refl l.kq.queue; same = gives }

    given-arranged : IsAllowed ignored views room l.kq own → Gives (record l.kq { queue = arranged (map key_of_event own) l.kq.queue })
    given-arranged allowed = allowed_given ignored views room l.kq own pair.sound allowed

    order-agrees : (v w : Verdict) (taken next after : System) → IsOrderOf ignored room own l s v → taken ≡ arranged_by pid fd own v s
        → IsReadBy v place pid fd room taken next → IsReadOr ignored place pid fd room own k (beside s ks) w after
        → Agree place v w next after
    order-agrees Equal Equal taken next after fold is read any = record {
      verdict = refl;
      follow = λ _. follow-both (λ x. x.kq) (λ x. refl) pair.sound fold taken next after
          (is ∙ ap (beside s) (sym (own-order kqueue s.live))) read any;
    }
    order-agrees Equal Allowed taken next after fold is read any = absurd any
    order-agrees Equal Refused taken next after fold is read any = absurd (any (allowed-there (in-order fold)))
    order-agrees Equal (Impossible why) taken next after fold is read any = absurd any
    order-agrees Allowed Equal taken next after fold is read any = record {
      verdict = refl;
      follow = λ _. follow-both (λ x. record x.kq { queue = arranged (map key_of_event own) x.kq.queue }) (λ x. refl)
          (sound-in l.kq (arranged (map key_of_event own) l.kq.queue) pair.sound
          (arranged-same (map key_of_event own) l.kq.queue pair.sound.once))
          (given-arranged fold.1) taken next after
          (is ∙ ap (beside s) (arranged-some (map key_of_event own) s.live kqueue (place_named pid fd s) named_so)) read any;
    }
    order-agrees Allowed Allowed taken next after fold is read any = absurd any
    order-agrees Allowed Refused taken next after fold is read any = absurd (any (allowed-there fold.1))
    order-agrees Allowed (Impossible why) taken next after fold is read any = absurd any
    order-agrees Refused Equal taken next after fold is read any = absurd (fold (allowed-here (allowed-by after any)))
    order-agrees Refused Allowed taken next after fold is read any = absurd any
    order-agrees Refused Refused taken next after fold is read any = both-refused place Refused Refused next after refl refl
    order-agrees Refused (Impossible why) taken next after fold is read any = absurd any
    order-agrees (Impossible why) w taken next after fold is read any = absurd fold

    -- so the other one comes to a verdict, too
    abbrev SomeRead : Verdict → Type 0
    SomeRead v = (after : System) × IsReadOr ignored place pid fd room own k (beside s ks) (plain v) after

    read-allowed : IsAllowed ignored views room k.kq own
        → (after : System) × IsReadIn ignored place pid fd room own k (beside s ks) after
    read-allowed allowed = (
      system_read place pid fd room (ordered_in pid fd allowed.order (beside s ks)),
      record { order = allowed.order; permutes = allowed.permutes; same = allowed.same; next_is = refl },
    )

    some-read : (v : Verdict) → IsOrderOf ignored room own l s v → SomeRead v
    some-read Equal fold = read-allowed (allowed-there (in-order fold))
    some-read Allowed fold = read-allowed (allowed-there fold.1)
    some-read Refused fold = (beside s ks, λ allowed. fold (allowed-here allowed))
    some-read (Impossible why) fold = absurd fold

  -- by what the number names
  found-agrees : (kqueue : ℕ) → place_named pid fd s ≡ Some kqueue → (x y : Option Live) → live_at kqueue s.live ≡ x → live_at kqueue ks ≡ y
      → (v w : Verdict) (taken next after : System) → IsOrder ignored room own x s v → taken ≡ arranged_by pid fd own v s
      → IsReadBy v place pid fd room taken next → IsReadOn ignored place pid fd room own y (beside s ks) w after
      → Agree place v w next after
  found-agrees kqueue is None None none also v w taken next after fold so read any = both-refused place v w next after fold any
  found-agrees kqueue is None (Some k) none also v w taken next after fold so read any =
      absurd (subst (λ (o : Option Live). IfPair (views_of (seen_world s.world)) None o) also
      (subst (λ (o : Option Live). IfPair (views_of (seen_world s.world)) o (live_at kqueue ks)) none
      (pairs-found (views_of (seen_world s.world)) kqueue s.live ks going.pairs)))
  found-agrees kqueue is (Some l) None found none v w taken next after fold so read any =
      absurd (subst (λ (o : Option Live). IfPair (views_of (seen_world s.world)) (Some l) o) none
      (subst (λ (o : Option Live). IfPair (views_of (seen_world s.world)) o (live_at kqueue ks)) found
      (pairs-found (views_of (seen_world s.world)) kqueue s.live ks going.pairs)))
  found-agrees kqueue is (Some l) (Some k) found also v w taken next after fold so read any =
      order-agrees kqueue is l k found also v w taken next after fold so read any

  named-agrees : (o : Option ℕ) → place_named pid fd s ≡ o
      → (v w : Verdict) (taken next after : System)
      → IsOrder ignored room own (option_and_then (λ n. live_at n s.live) o) s v → taken ≡ arranged_by pid fd own v s
      → IsReadBy v place pid fd room taken next
      → IsReadOn ignored place pid fd room own (option_and_then (λ n. live_at n ks) o) (beside s ks) w after
      → Agree place v w next after
  named-agrees None is v w taken next after fold so read any = both-refused place v w next after fold any
  named-agrees (Some kqueue) is v w taken next after fold so read any =
      found-agrees kqueue is (live_at kqueue s.live) (live_at kqueue ks) refl refl v w taken next after fold so read any

  some-found : (kqueue : ℕ) → place_named pid fd s ≡ Some kqueue → (x y : Option Live) → live_at kqueue s.live ≡ x → live_at kqueue ks ≡ y
      → (v : Verdict) → IsOrder ignored room own x s v
      → (after : System) × IsReadOn ignored place pid fd room own y (beside s ks) (plain v) after
  some-found kqueue is None None none also v fold = (beside s ks, ap plain fold)
  some-found kqueue is None (Some k) none also v fold =
      absurd (subst (λ (o : Option Live). IfPair (views_of (seen_world s.world)) None o) also
      (subst (λ (o : Option Live). IfPair (views_of (seen_world s.world)) o (live_at kqueue ks)) none
      (pairs-found (views_of (seen_world s.world)) kqueue s.live ks going.pairs)))
  some-found kqueue is (Some l) None found none v fold =
      absurd (subst (λ (o : Option Live). IfPair (views_of (seen_world s.world)) (Some l) o) none
      (subst (λ (o : Option Live). IfPair (views_of (seen_world s.world)) o (live_at kqueue ks)) found
      (pairs-found (views_of (seen_world s.world)) kqueue s.live ks going.pairs)))
  some-found kqueue is (Some l) (Some k) found also v fold = some-read kqueue is l k found also v fold

  some-named : (o : Option ℕ) → place_named pid fd s ≡ o → (v : Verdict)
      → IsOrder ignored room own (option_and_then (λ n. live_at n s.live) o) s v
      → (after : System)
      × IsReadOn ignored place pid fd room own (option_and_then (λ n. live_at n ks) o) (beside s ks) (plain v) after
  some-named None is v fold = (beside s ks, ap plain fold)
  some-named (Some kqueue) is v fold = some-found kqueue is (live_at kqueue s.live) (live_at kqueue ks) refl refl v fold

-- by the answer, which it has
pub read-agrees : (ignored : List Ignored) (place pid fd room : ℕ) (given : Option Given) (s : System) (ks : List Live) → IsGoing place s ks
    → (v w : Verdict) (next after : System) → IsRead ignored place pid fd room given s v next
    → IsReadAs ignored place pid fd room given (beside s ks) w after → Agree place v w next after
read-agrees ignored place pid fd room None s ks going v w next after fold any = absurd any
read-agrees ignored place pid fd room (Some (given.Events own)) s ks going v w next after fold any =
    named-agrees ignored place pid fd room s ks going own (place_named pid fd s) refl v w fold.0 next after fold.1.0 fold.1.1 fold.2 any
read-agrees ignored place pid fd room (Some (given.Failed number)) s ks going v w next after fold any =
    both-refused place v w next after fold.1.0 any
read-agrees ignored place pid fd room (Some (given.Impossible why)) s ks going v w next after fold any =
    both-refused place v w next after fold.1.0 any

pub some-answered : (ignored : List Ignored) (place pid fd room : ℕ) (given : Option Given) (s : System) (ks : List Live) → IsGoing place s ks
    → (v : Verdict) (next : System) → IsRead ignored place pid fd room given s v next → is_some given ≡ true
    → (after : System) × IsReadAs ignored place pid fd room given (beside s ks) (plain v) after
some-answered ignored place pid fd room None s ks going v next fold there = absurd (true≢false (sym there))
some-answered ignored place pid fd room (Some (given.Events own)) s ks going v next fold there =
    some-named ignored place pid fd room s ks going own (place_named pid fd s) refl v fold.1.0
some-answered ignored place pid fd room (Some (given.Failed number)) s ks going v next fold there = (beside s ks, ap plain fold.1.0)
some-answered ignored place pid fd room (Some (given.Impossible why)) s ks going v next fold there = (beside s ks, ap plain fold.1.0)
