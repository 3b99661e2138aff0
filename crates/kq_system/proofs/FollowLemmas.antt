-- A fork that is told to the kqueues under its parent is told to all: who is not there hears nothing of it and follows
-- nobody. The knotes that come by it are found.
use Rattle.std.proofs.Common.{◌≡◌, ◌∙◌, ◌||◌, ◌<◌, ◌≤◌, ℕ, Bool, true, false, cond, eqb, get_or, length, List, [], ◌∷◌, map, filter, nat_eq, Option, None, Some, refl, sym, ap, ap₂, subst, arith}
use Rattle.std.proofs.lemmas.Bool.{and_parts, false≢true, true≢false}
use Rattle.std.proofs.lemmas.Bool.Decides.{nat_tests}
use Rattle.std.proofs.lemmas.List.Elements.{All-cons, All-nil}
use Rattle.std.proofs.lemmas.Option.{same_Some}
use Rattle.std.specs.Prelude.{All}
use Rattle.std.specs.List.{IsDistinct}
use Rattle.std.specs.Map.{lookup, keys_of}
use Rattle.std.specs.HashMap.{HashMap}
use Rattle.kq_model.specs.contracts.object.TargetPartialEq.TheImpl as target_equal
use Rattle.kq_model.specs.declared.filter.Filter.{Filter}
use Rattle.kq_model.specs.declared.object.Target.{Target}
use Rattle.kq_model.specs.declared.object.Target.TheVariants.{Process}
use Rattle.kq_model.specs.Following.{Fork, all_forks, child_knote, followed, followed_each, forks_of, heir, is_follower, process_key, tracks, with_heir}
use Rattle.kq_model.specs.Tallying.{tallying}
use Rattle.kq_model.specs.Hints.{notified}
use Rattle.kq_model.specs.Knote.{find_knote, is_timer}
use Rattle.kq_model.specs.Kqueue.{HaveOwnKeys}
use Rattle.kq_model.specs.ProcessPlans.{forked}
use Rattle.kq_model.specs.Subjects.{FollowSubjects, FollowsSubject, HasSubject, HaveSubjects}
use Rattle.kq_model.specs.Tallied.{Knote, Kqueue, Live}
use Rattle.kq_model.specs.Targets.{Posted, is_target}
use Rattle.kq_model.specs.Views.{Views}
use Rattle.kq_model.proofs.Subjects.{find_knote-subject}
use Rattle.kq_model.proofs.SubjectsCall.{followed-subjects, notified-subjects}
use Rattle.kq_kevent.specs.Owned.{HasRoomToFollow}
use Rattle.kq_kevent.proofs.ForkRoom.{tracks-before}
use Rattle.kq_system.specs.Forking.{ArePrepared, AreRoomier, HaveRoom, IsFollowing}
use Rattle.kq_system.specs.Places.{Grows, has_place, places_at}
use Rattle.kq_system.specs.Showing.{AreFound, ArePassed, AreShown, Each, IsListed, IsPassed, places_of}
use Rattle.kq_system.specs.SystemState.{AreOfVersion, HaveStayed, NumberedKqueue, followed_to, live_of}
use Rattle.kq_system.proofs.ConcernedLemmas.{unheard, unhinted, watched}
use Rattle.kq_system.proofs.FoundLemmas.{listed_more}
use Rattle.kq_system.proofs.PassedLemmas.{all_keep, all_standing, not_yet, placed, same_keys, shown_kept, shown_stayed, stands}
use Rattle.kq_system.proofs.PlaceLemmas.{any-at}
use Rattle.kq_system.proofs.PrepareLemmas.{roomier_found, roomier_keys, roomier_live, roomier_stayed}
use Rattle.kq_system.proofs.ShowLemmas.{Each-found, Each-from, Entries, by_test, was}

-- ---- one kqueue

-- without a knote that follows the parent the child gets none
no_heir : (f : Fork) (parent present : Option Knote) (kq : Kqueue) → is_follower f.parent parent ≡ false
    → with_heir (heir f parent present) kq ≡ kq
unfolding with_heir heir is_follower
no_heir f None present kq none = refl
no_heir f (Some k) (Some x) kq none = refl
no_heir f (Some k) None kq none = ap (λ b. with_heir (cond b (Some (child_knote f k)) None) kq) none

module _ (pid child : ℕ) where
  abbrev told : List Posted
  told = forked pid child

  abbrev the_fork : Fork
  the_fork = record { parent = pid; child = child }

  pub untracked : (version : ℕ) (kq : Kqueue) → tracks pid kq ≡ false → followed version told kq ≡ kq
  unfolding all_forks forks_of followed_each
  untracked version kq none =
      by_test (λ b. followed_each (cond b [] (all_forks told)) kq ≡ kq) (eqb version 1) (λ _. refl)
      (λ _. no_heir the_fork (find_knote (process_key pid) kq.knotes) (find_knote (process_key child) kq.knotes) kq
      none)

  module _ {T : Type 0} (watching : HashMap Target (List ℕ) T) (place : ℕ) where
    abbrev Is : Filter → ℕ → Option Target → Type 0
    Is = IsListed place watching

    abbrev Are : List Knote → Type 0
    Are ks = HaveSubjects Is ks

    abbrev IfIs : Option Knote → Type 0
    IfIs None = Unit {0}
    IfIs (Some k) = HasSubject Is k

    follower_listed : (o : Option Knote) → IfIs o → is_follower pid o ≡ true
        → has_place place (places_of watching (Process pid)) ≡ true
    unfolding is_follower
    follower_listed None has does = absurd (false≢true does)
    follower_listed (Some k) has does =
        has.0 (Process pid) (watched k.target (Process pid) (and_parts (is_target k.target (Process pid)) _ does).0)
        (λ own. absurd (cc))

    -- who does not stand under the parent follows nobody
    away_untracked : (kq : Kqueue) → Are kq.knotes → has_place place (places_of watching (Process pid)) ≡ false
        → tracks pid kq ≡ false
    away_untracked kq has away =
        by_test (λ b. tracks pid kq ≡ b → b ≡ false) (tracks pid kq)
        (λ _ does. absurd (true≢false (sym (follower_listed (find_knote (process_key pid) kq.knotes)
        (find_knote-subject tallying Is (process_key pid) kq.knotes has) does) ∙ away)))
        (λ _ _. refl) refl

    -- and hears nothing
    pub untouched : (version : ℕ) (views : Views) (kq : Kqueue) → Are kq.knotes
        → has_place place (places_of watching (Process pid)) ≡ false → followed version told (notified views told kq) ≡
        kq
    untouched version views kq has away =
        ap (followed version told) (unheard views told kq (unhinted watching place kq.knotes told has
        ((λ own. absurd (cc)), ((λ own. absurd (cc)), tt)) (twice (has_place place (places_of watching (Process pid)))
        away)))
        ∙ untracked version kq (away_untracked kq has away)
      where
        twice : (b : Bool) → b ≡ false → (b || (b || false)) ≡ false
        twice true is = absurd (cc)
        twice false is = refl

    -- who is found for the child has a new knote of it that is found
    passes : (version : ℕ) → has_place place (places_of watching (Process child)) ≡ true → FollowSubjects Is version
        told
    unfolding all_forks forks_of is_timer
    passes version there =
        by_test (λ b. All (FollowsSubject Is) (cond b [] (all_forks told))) (eqb version 1)
        (λ _. All-nil (FollowsSubject Is))
        (λ _. All-cons (FollowsSubject Is) the_fork [] (λ _. (
          (λ t is other. subst (λ t. has_place place (places_of watching t) ≡ true) (same_Some (Process child) t is)
              there),
          (λ timer. absurd (false≢true timer)),
        )) (All-nil (FollowsSubject Is)))

    pub following_listed : (version : ℕ) (views : Views) (kq : Kqueue) → HaveOwnKeys kq.knotes
        → (tracks pid kq ≡ true → has_place place (places_of watching (Process child)) ≡ true) → Are kq.knotes
        → Are (followed version told (notified views told kq)).knotes
    following_listed version views kq own found has =
        let heard = notified views told kq in
        let listed = notified-subjects tallying Is views told kq has in
        by_test (λ b. tracks pid heard ≡ b → Are (followed version told heard).knotes) (tracks pid heard)
        (λ _ does. followed-subjects tallying Is version told heard
        (passes version (found (tracks-before views told pid kq own does))) listed)
        (λ _ none. subst (λ (x : Kqueue). Are x.knotes) (sym (untracked version heard none)) listed) refl

  -- ---- all of them

  module _ (views : Views) where
    abbrev becomes : NumberedKqueue → Kqueue
    becomes v = followed v.kq.version told (notified views told v.kq.kq)

    -- after all that were asked were told
    module _ (round : ℕ) where
      abbrev IsLeft : NumberedKqueue → Type 0
      IsLeft w = (w.shown ≡ round → ⊥) → becomes w ≡ w.kq.kq

      one_followed : (version : ℕ) (e n : ℕ × NumberedKqueue) → n.0 ≡ e.0 → IsPassed round (IsFollowing told views) e.1
          n.1
          → (e.1.shown ≡ round → ⊥) → e.1.kq.version ≡ version → IsLeft n.1 → live_of n ≡ followed_to version told
          views (live_of e)
      one_followed version e n place passed fresh of_version left =
          placed e n (followed version told (notified views told e.1.kq.kq)) place passed.number passed.owner
          (by_test (λ b. nat_eq n.1.shown round ≡ b → n.1.kq.kq ≡ becomes e.1) (nat_eq n.1.shown round)
          (λ _ is.
          let seen : n.1.shown ≡ round = grind (arith, nat_tests) in
          (passed.told fresh seen).kq)
          (λ _ other.
          let unseen : n.1.shown ≡ round → ⊥ = λ same. unlike n.1.shown round other same in
          sym (left unseen) ∙ ap becomes (passed.unseen unseen)) refl
          ∙ ap (λ n. followed n told (notified views told e.1.kq.kq)) of_version)
        where
          unlike : (a b : ℕ) → nat_eq a b ≡ false → a ≡ b → ⊥
          unlike a b apart same = grind (arith, nat_tests)

      all_followed : (version : ℕ) (es ns : Entries) → ArePassed round (IsFollowing told views) es ns
          → Each (λ place v. v.shown ≡ round → ⊥) es → AreOfVersion version es → Each (λ place w. IsLeft w) ns
          → map live_of ns ≡ map (followed_to version told views) (map live_of es)
      all_followed version [] [] passed fresh of_version left = refl
      all_followed version [] (n ∷ ns) passed fresh of_version left = absurd passed
      all_followed version (e ∷ es) [] passed fresh of_version left = absurd passed
      all_followed version (e ∷ es) (n ∷ ns) passed fresh of_version left =
          ap₂ (λ (l : Live) (ls : List Live). l ∷ ls)
          (one_followed version e n passed.0 passed.1 fresh.0 of_version.0 left.0)
          (all_followed version es ns passed.2 fresh.1 of_version.1 left.1)

    -- those under the parent are prepared
    module _ {S T : Type 0} (owned : HashMap ℕ (List ℕ) S) (before after : HashMap Target (List ℕ) T) (last : ℕ)
        (es : Entries)
        (spare : ℕ) (ready : Option (ℕ × ℕ)) (found : AreFound es spare ready owned before last)
        (more : Grows target_equal.eq-value.it before after)
        (prepared : ArePrepared pid child after (places_of before (Process pid)) es) (distinct : IsDistinct nat_eq
        (keys_of es)) where
      abbrev asked : ℕ → Bool
      asked place = has_place place (places_of before (Process pid))

      listed_here : (place : ℕ) (v : NumberedKqueue) → lookup (nat_eq place) es ≡ Some v
          → HaveSubjects (IsListed place before) v.kq.kq.knotes
      listed_here place v here = Each-found (λ k u. HaveSubjects (IsListed k before) u.kq.kq.knotes) place es v
          found.by_target here

      left_here : (place : ℕ) (v : NumberedKqueue) → lookup (nat_eq place) es ≡ Some v → asked place ≡ false
          → becomes v ≡ v.kq.kq
      left_here place v here away = untouched before place v.kq.version views v.kq.kq (listed_here place v here) away

      still_here : (place : ℕ) (v : NumberedKqueue) → lookup (nat_eq place) es ≡ Some v
          → HaveSubjects (IsListed place after) (becomes v).knotes
      still_here place v here =
          let listed = listed_more place before after more v.kq.kq.knotes (listed_here place v here) in
          by_test (λ b. asked place ≡ b → HaveSubjects (IsListed place after) (becomes v).knotes) (asked place)
          (λ _ asks.
          let is = prepared place v asks here in
          following_listed after place v.kq.version views v.kq.kq is.own_keys is.found listed)
          (λ _ away. subst (λ (kq : Kqueue). HaveSubjects (IsListed place after) kq.knotes)
          (sym (left_here place v here away)) listed)
          refl

      module _ (round : ℕ) (later : last < round) (ns : Entries)
          (shown : AreShown round (IsFollowing told views) asked false es ns) where
        all_stand : filter stands ns ≡ ns
        all_stand = all_standing ns (shown.calm refl found.standing)

        left_out : (place : ℕ) (w : NumberedKqueue) → lookup (nat_eq place) ns ≡ Some w → (w.shown ≡ round → ⊥)
            → asked place ≡ false
        left_out place w here unseen =
            by_test (λ b. asked place ≡ b → b ≡ false) (asked place)
            (λ _ is. absurd (unseen (shown.seen place w is here)))
            (λ _ _. refl) refl

        left : (place : ℕ) (w : NumberedKqueue) → lookup (nat_eq place) ns ≡ Some w → IsLeft round w
        left place w here unseen =
            let old = was round (IsFollowing told views) place es ns w shown.passed here in
            subst (λ (u : NumberedKqueue). becomes u ≡ u.kq.kq) (sym (old.passed.unseen unseen))
            (left_here place old.it old.found (left_out place w here unseen))

        pub fork_concerned : (version : ℕ) → AreOfVersion version es
            → map live_of ns ≡ map (followed_to version told views) (map live_of es)
        fork_concerned version of_version =
            all_followed round version es ns shown.passed (not_yet round last later es found.shown) of_version
            (Each-from (λ place w. IsLeft round w) ns
            (subst (IsDistinct nat_eq) (sym (same_keys round (IsFollowing told views) es ns shown.passed)) distinct)
            left)

        pub fork_stayed : HaveStayed es ns
        fork_stayed = subst (HaveStayed es) all_stand (shown_stayed round (IsFollowing told views) es ns shown.passed)

        -- what is found of each before it, and after it if it was told
        record Stays (place : ℕ) (v : NumberedKqueue) : Type 0 where
          fresh : v.shown ≡ round → ⊥
          listed : HaveSubjects (IsListed place after) v.kq.kq.knotes
          following : HaveSubjects (IsListed place after) (becomes v).knotes

        stays : Each Stays es
        stays = Each-from Stays es distinct (λ place v here. record {
          fresh = Each-found (λ place v. v.shown ≡ round → ⊥) place es v (not_yet round last later es found.shown)
              here;
          listed = listed_more place before after more v.kq.kq.knotes (listed_here place v here);
          following = still_here place v here;
        })

        found_one : (place : ℕ) (v w : NumberedKqueue) → IsPassed round (IsFollowing told views) v w → Stays place v
            → HaveSubjects (IsListed place after) w.kq.kq.knotes
        found_one place v w passed has =
            by_test (λ b. nat_eq w.shown round ≡ b → HaveSubjects (IsListed place after) w.kq.kq.knotes)
            (nat_eq w.shown round)
            (λ _ is.
            let seen : w.shown ≡ round = grind (arith, nat_tests) in
            subst (λ (kq : Kqueue). HaveSubjects (IsListed place after) kq.knotes)
            (sym (passed.told has.fresh seen).kq) has.following)
            (λ _ other.
            let unseen : w.shown ≡ round → ⊥ = λ same. grind (arith, nat_tests) in
            subst (λ (x : NumberedKqueue). HaveSubjects (IsListed place after) x.kq.kq.knotes)
            (sym (passed.unseen unseen)) has.listed)
            refl

        pub fork_found : (spare' : ℕ) → AreFound ns spare' None owned after round
        fork_found spare' =
            subst (λ (l : Entries). AreFound l spare' None owned after round) all_stand (record {
              by_owner = all_keep round (IsFollowing told views)
                  (λ k v. has_place k (places_at nat_eq owned v.kq.owner) ≡ true)
                  (λ k v. has_place k (places_at nat_eq owned v.kq.owner) ≡ true)
                  (λ k v w was _ has. subst (λ owner. has_place k (places_at nat_eq owned owner) ≡ true)
                  (sym was.owner) has)
                  es ns shown.passed found.by_owner;
              by_target = all_keep round (IsFollowing told views) Stays (λ k v. HaveSubjects (IsListed k after)
                  v.kq.kq.knotes)
                  (λ k v w was _ has. found_one k v w was has) es ns shown.passed stays;
              shown = all_keep round (IsFollowing told views) (λ k v. v.shown ≤ last) (λ k v. v.shown ≤ round)
                  (λ k v w was _ le. shown_kept round (IsFollowing told views) last later v w was le) es ns
                  shown.passed found.shown;
              standing = all_keep round (IsFollowing told views) (λ k v. v.ended ≡ false) (λ k v. v.ended ≡ false)
                  (λ k v w was stays _. stays) es ns shown.passed found.standing;
              room = λ birth is. absurd (cc);
            })

-- ---- as far as a loop has come

is_place : (a b : ℕ) → nat_eq a b ≡ true → a ≡ b
is_place a b h = grind (arith, nat_tests)

none_or : (b : Bool) → (b || false) ≡ true → b ≡ true
none_or true is = refl
none_or false is = is

-- those that were not told yet have the room that they had
pub room_left : (hints : List Posted) (views : Views) (round : ℕ) (places : List ℕ) (es ns : Entries)
    → HaveRoom hints views round places es → ArePassed round (IsFollowing hints views) es ns → (i d : ℕ) → i < length
    places
    → HaveRoom hints views round (get_or places i d ∷ []) ns
room_left hints views round places es ns room passed i d lt place w asked found unseen =
    let before = was round (IsFollowing hints views) place es ns w passed found in
    let same : w ≡ before.it = before.passed.unseen unseen in
    subst (λ (v : NumberedKqueue). HasRoomToFollow views hints v.kq) (sym same)
    (room place before.it (any-at (nat_eq place) places i d lt (none_or (nat_eq place (get_or places i d)) asked))
    before.found
    (λ seen. unseen (ap (λ (v : NumberedKqueue). v.shown) same ∙ seen)))

pub prepared_room : {T : Type 0} (pid child : ℕ) (watching : HashMap Target (List ℕ) T) (places : List ℕ)
    (es : Entries)
    (hints : List Posted) (views : Views) (round : ℕ) → hints ≡ forked pid child → ArePrepared pid child watching
    places es
    → HaveRoom hints views round places es
prepared_room pid child watching places es hints views round told_is prepared place v asked here unseen =
    subst (λ (hs : List Posted). HasRoomToFollow views hs v.kq) (sym told_is) ((prepared place v asked here).room
    views)

-- ---- from before the preparation on

pub record HasFollowed {S T : Type 0} (pid child : ℕ) (views : Views) (owned : HashMap ℕ (List ℕ) S)
    (watching : HashMap Target (List ℕ) T) (round : ℕ) (es ns : Entries) : Type 0 where
  pub found : (spare : ℕ) → AreFound ns spare None owned watching round
  pub stayed : HaveStayed es ns
  pub followed : (version : ℕ) → AreOfVersion version es
      → map live_of ns ≡ map (followed_to version (forked pid child) views) (map live_of es)

pub has_followed : {S T : Type 0} (pid child : ℕ) (views : Views) (owned : HashMap ℕ (List ℕ) S)
    (before after : HashMap Target (List ℕ) T) (last round : ℕ) (old es ns : Entries) (spare : ℕ)
    (ready : Option (ℕ × ℕ))
    (hints : List Posted) (places : List ℕ) → AreFound old spare ready owned before last
    → Grows target_equal.eq-value.it before after → AreRoomier old es → IsDistinct nat_eq (keys_of old)
    → places ≡ places_of before (Process pid) → ArePrepared pid child after places es → hints ≡ forked pid child
    → last < round → AreShown round (IsFollowing hints views) (λ p. has_place p places) false es ns
    → HasFollowed pid child views owned after round old ns
has_followed pid child views owned before after last round old es ns spare ready hints places found more roomier
    distinct places_are prepared told_is later shown =
    let still : AreFound es spare None owned before last =
    roomier_found owned before before last old es spare spare ready found (record { grows = λ key place has. has })
    roomier in
    let once = subst (IsDistinct nat_eq) (sym (roomier_keys old es roomier)) distinct in
    let ready_here = subst (λ (ps : List ℕ). ArePrepared pid child after ps es) places_are prepared in
    let shown_here = subst (λ (ps : List ℕ). AreShown round (IsFollowing (forked pid child) views)
    (λ p. has_place p ps) false es ns)
    places_are (subst (λ (hs : List Posted). AreShown round (IsFollowing hs views) (λ p. has_place p places) false es
    ns)
    told_is shown) in
    let first = roomier_stayed old es roomier in
    let second = fork_stayed pid child views owned before after last es spare None still more ready_here once round
    later ns shown_here in
    record {
      found = fork_found pid child views owned before after last es spare None still more ready_here once round later
          ns shown_here;
      stayed = record {
        of_version = λ version all. second.of_version version (first.of_version version all);
        up_to = λ most all. second.up_to most (first.up_to most all);
      };
      followed = λ version all.
          fork_concerned pid child views owned before after last es spare None still more ready_here once round later
          ns shown_here
          version (first.of_version version all)
          ∙ ap (map (followed_to version (forked pid child) views)) (roomier_live old es roomier);
    }
