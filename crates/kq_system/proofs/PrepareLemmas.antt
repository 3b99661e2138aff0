-- Kqueues that are prepared for a fork: nothing but their room is another.
use Rattle.std.proofs.Common.{◌≡◌, ◌∙◌, ◌||◌, ◌<◌, ◌≤◌, ℕ, suc, Bool, true, false, cond, List, [], ◌∷◌, get_or, length, map, nat_eq, take, Option, None, Some, refl, sym, ap, ap₂, subst, arith}
use Rattle.std.proofs.lemmas.Bool.Decides.{nat_tests}
use Rattle.std.specs.Map.{lookup, keys_of, set_value}
use Rattle.std.specs.HashMap.{HashMap}
use Rattle.kq_model.specs.contracts.object.TargetPartialEq.TheImpl as target_equal
use Rattle.kq_model.specs.declared.object.Target.{Target}
use Rattle.kq_model.specs.declared.object.Target.TheVariants.{Process}
use Rattle.kq_model.specs.Following.{followed, tracks}
use Rattle.kq_model.specs.Hints.{notified}
use Rattle.kq_model.specs.Kqueue.{HaveOwnKeys}
use Rattle.kq_model.specs.Subjects.{HaveSubjects}
use Rattle.kq_model.specs.Tallied.{Kqueue, Live}
use Rattle.kq_model.specs.Targets.{Posted}
use Rattle.kq_model.specs.Views.{Views}
use Rattle.kq_kevent.specs.Owned.{HasRoomToFollow}
use Rattle.kq_system.specs.Forking.{ArePrepared, AreRoomier, IsPrepared, IsRoomier}
use Rattle.kq_system.specs.Places.{Grows, has_place, places_at}
use Rattle.kq_system.specs.Showing.{AreFound, Each, IsListed}
use Rattle.kq_system.specs.SystemState.{AreOfVersion, AreUpTo, HaveStayed, NumberedKqueue, live_of}
use Rattle.kq_system.proofs.FoundLemmas.{listed_more}
use Rattle.kq_system.proofs.PassedLemmas.{placed}
use Rattle.kq_system.proofs.ShowLemmas.{Entries, any_end, any_next, by_test, read_back}

-- ---- one kqueue

pub roomier-same : (v : NumberedKqueue) → IsRoomier v v
roomier-same v = record {
  number = refl;
  owner = refl;
  version = refl;
  kq = refl;
  room = omega arith;
  shown = refl;
  ended = refl;
}

pub roomier-twice : (u v w : NumberedKqueue) → IsRoomier u v → IsRoomier v w → IsRoomier u w
roomier-twice u v w first second = record {
  number = second.number ∙ first.number;
  owner = second.owner ∙ first.owner;
  version = second.version ∙ first.version;
  kq = second.kq ∙ first.kq;
  room = omega (arith, first.room, second.room);
  shown = second.shown ∙ first.shown;
  ended = second.ended ∙ first.ended;
}

-- room stays where there is more
more_room : (views : Views) (posted : List Posted) (v w : NumberedKqueue) → IsRoomier v w → HasRoomToFollow views
    posted v.kq
    → HasRoomToFollow views posted w.kq
more_room views posted v w more room =
    let wanted : length (followed w.kq.version posted (notified views posted w.kq.kq)).knotes
    ≡ length (followed v.kq.version posted (notified views posted v.kq.kq)).knotes =
    ap₂ (λ n (kq : Kqueue). length (followed n posted (notified views posted kq)).knotes) more.version more.kq in
    let there : length w.kq.kq.knotes ≡ length v.kq.kq.knotes = ap (λ (kq : Kqueue). length kq.knotes) more.kq in
    omega (arith, room, wanted, there, more.room)

-- one that is prepared stays so
pub still_prepared : {T : Type 0} (pid child : ℕ) (old new : HashMap Target (List ℕ) T)
    → Grows target_equal.eq-value.it old new → (place : ℕ) (v w : NumberedKqueue) → IsRoomier v w
    → IsPrepared pid child old place v → IsPrepared pid child new place w
still_prepared pid child old new more place v w roomier prepared = record {
  room = λ views. more_room views _ v w roomier (prepared.room views);
  found = λ does. more.grows (Process child) place
      (prepared.found (sym (ap (tracks pid) roomier.kq) ∙ does));
  own_keys = subst (λ (kq : Kqueue). HaveOwnKeys kq.knotes) (sym roomier.kq) prepared.own_keys;
}

-- ---- all of them

pub all_roomier-same : (es : Entries) → AreRoomier es es
all_roomier-same [] = tt
all_roomier-same (e ∷ es) = (refl, roomier-same e.1, all_roomier-same es)

pub all_roomier-twice : (xs ys zs : Entries) → AreRoomier xs ys → AreRoomier ys zs → AreRoomier xs zs
all_roomier-twice [] [] [] first second = tt
all_roomier-twice [] [] (z ∷ zs) first second = second
all_roomier-twice [] (y ∷ ys) zs first second = absurd first
all_roomier-twice (x ∷ xs) [] zs first second = absurd first
all_roomier-twice (x ∷ xs) (y ∷ ys) [] first second = second
all_roomier-twice (x ∷ xs) (y ∷ ys) (z ∷ zs) first second = (
  second.0 ∙ first.0,
  roomier-twice x.1 y.1 z.1 first.1 second.1,
  all_roomier-twice xs ys zs first.2 second.2,
)

written : (k : ℕ) (e : ℕ × NumberedKqueue) (es rest : Entries) (v w : NumberedKqueue) (b : Bool)
    → cond b (Some e.1) (lookup (nat_eq k) es) ≡ Some v → IsRoomier v w
    → (lookup (nat_eq k) es ≡ Some v → AreRoomier es rest) → AreRoomier (e ∷ es) (cond b ((e.0, w) ∷ es) (e ∷ rest))
written k e es rest v w true found roomier later =
    let it : e.1 ≡ v = cc in
    (refl, subst (λ (x : NumberedKqueue). IsRoomier x w) (sym it) roomier, all_roomier-same es)
written k e es rest v w false found roomier later = (refl, roomier-same e.1, later found)

pub all_roomier-set : (k : ℕ) (es : Entries) (v w : NumberedKqueue) → lookup (nat_eq k) es ≡ Some v → IsRoomier v w
    → AreRoomier es (set_value (nat_eq k) es w)
all_roomier-set k [] v w found roomier = absurd (cc)
all_roomier-set k (e ∷ es) v w found roomier =
    written k e es (set_value (nat_eq k) es w) v w (nat_eq k e.0) found roomier
    (λ there. all_roomier-set k es v w there roomier)

-- what is found afterwards was found before
pub record WasRoomier (k : ℕ) (es : Entries) (w : NumberedKqueue) : Type 0 where
  pub it : NumberedKqueue
  pub found : lookup (nat_eq k) es ≡ Some it
  pub roomier : IsRoomier it w

was_step : (k : ℕ) (e : ℕ × NumberedKqueue) (es : Entries) (n : ℕ × NumberedKqueue) (rest : Option NumberedKqueue)
    (w : NumberedKqueue) (b : Bool) → nat_eq k e.0 ≡ b → IsRoomier e.1 n.1 → cond b (Some n.1) rest ≡ Some w
    → (rest ≡ Some w → WasRoomier k es w) → WasRoomier k (e ∷ es) w
was_step k e es n rest w true is roomier found later =
    let it : n.1 ≡ w = cc in
    record {
      it = e.1;
      found = ap (λ b. cond b (Some e.1) (lookup (nat_eq k) es)) is;
      roomier = subst (IsRoomier e.1) it roomier;
    }
was_step k e es n rest w false is roomier found later =
    let was = later found in
    record {
      it = was.it;
      found = ap (λ b. cond b (Some e.1) (lookup (nat_eq k) es)) is ∙ was.found;
      roomier = was.roomier;
    }

pub was_roomier : (k : ℕ) (es ns : Entries) (w : NumberedKqueue) → AreRoomier es ns → lookup (nat_eq k) ns ≡ Some w
    → WasRoomier k es w
was_roomier k [] [] w roomier found = absurd (cc)
was_roomier k [] (n ∷ ns) w roomier found = absurd roomier
was_roomier k (e ∷ es) [] w roomier found = absurd roomier
was_roomier k (e ∷ es) (n ∷ ns) w roomier found =
    was_step k e es n (lookup (nat_eq k) ns) w (nat_eq k e.0) refl roomier.1
    (ap (λ j. cond (nat_eq k j) (Some n.1) (lookup (nat_eq k) ns)) (sym roomier.0) ∙ found)
    (λ there. was_roomier k es ns w roomier.2 there)

-- ---- what it leaves as it was

pub roomier_live : (es ns : Entries) → AreRoomier es ns → map live_of ns ≡ map live_of es
roomier_live [] [] roomier = refl
roomier_live [] (n ∷ ns) roomier = absurd roomier
roomier_live (e ∷ es) [] roomier = absurd roomier
roomier_live (e ∷ es) (n ∷ ns) roomier =
    ap₂ (λ (l : Live) (ls : List Live). l ∷ ls)
    (placed e n e.1.kq.kq roomier.0 roomier.1.number roomier.1.owner roomier.1.kq) (roomier_live es ns roomier.2)

pub roomier_keys : (es ns : Entries) → AreRoomier es ns → keys_of ns ≡ keys_of es
roomier_keys [] [] roomier = refl
roomier_keys [] (n ∷ ns) roomier = absurd roomier
roomier_keys (e ∷ es) [] roomier = absurd roomier
roomier_keys (e ∷ es) (n ∷ ns) roomier = ap₂ (λ k (ks : List ℕ). k ∷ ks) roomier.0 (roomier_keys es ns roomier.2)

of_version : (version : ℕ) (es ns : Entries) → AreRoomier es ns → AreOfVersion version es → AreOfVersion version ns
of_version version [] [] roomier all = tt
of_version version [] (n ∷ ns) roomier all = absurd roomier
of_version version (e ∷ es) [] roomier all = absurd roomier
of_version version (e ∷ es) (n ∷ ns) roomier all =
    (roomier.1.version ∙ all.0, of_version version es ns roomier.2 all.1)

pub roomier_stayed : (es ns : Entries) → AreRoomier es ns → HaveStayed es ns
roomier_stayed es ns roomier = record {
  of_version = λ version all. of_version version es ns roomier all;
  up_to = λ most all. subst (AreUpTo most) (sym (roomier_keys es ns roomier)) all;
}

roomier_each : (P : ℕ → NumberedKqueue → Type 0) → ((k : ℕ) (v w : NumberedKqueue) → IsRoomier v w → P k v → P k w)
    → (es ns : Entries) → AreRoomier es ns → Each P es → Each P ns
roomier_each P keeps [] [] roomier all = tt
roomier_each P keeps [] (n ∷ ns) roomier all = absurd roomier
roomier_each P keeps (e ∷ es) [] roomier all = absurd roomier
roomier_each P keeps (e ∷ es) (n ∷ ns) roomier all = (
  subst (λ k. P k n.1) (sym roomier.0) (keeps e.0 e.1 n.1 roomier.1 all.0),
  roomier_each P keeps es ns roomier.2 all.1,
)

pub roomier_found : {S T : Type 0} (owned : HashMap ℕ (List ℕ) S) (old new : HashMap Target (List ℕ) T) (round : ℕ)
    (es ns : Entries) (spare spare' : ℕ) (prepared : Option (ℕ × ℕ)) → AreFound es spare prepared owned old round
    → Grows target_equal.eq-value.it old new → AreRoomier es ns → AreFound ns spare' None owned new round
roomier_found owned old new round es ns spare spare' prepared found more roomier = record {
  by_owner = roomier_each (λ k v. has_place k (places_at nat_eq owned v.kq.owner) ≡ true)
      (λ k v w is has. subst (λ owner. has_place k (places_at nat_eq owned owner) ≡ true) (sym is.owner) has)
      es ns roomier found.by_owner;
  by_target = roomier_each (λ k v. HaveSubjects (IsListed k new) v.kq.kq.knotes)
      (λ k v w is has. subst (λ (kq : Kqueue). HaveSubjects (IsListed k new) kq.knotes) (sym is.kq) has)
      es ns roomier (listed_under es found.by_target);
  shown = roomier_each (λ k v. v.shown ≤ round) (λ k v w is le. subst (λ n. n ≤ round) (sym is.shown) le)
      es ns roomier found.shown;
  standing = roomier_each (λ k v. v.ended ≡ false) (λ k v w is none. is.ended ∙ none) es ns roomier found.standing;
  room = λ birth is. absurd (cc);
}
  where
    listed_under : (es : Entries) → Each (λ k v. HaveSubjects (IsListed k old) v.kq.kq.knotes) es
        → Each (λ k v. HaveSubjects (IsListed k new) v.kq.kq.knotes) es
    listed_under [] all = tt
    listed_under (e ∷ es) all = (listed_more e.0 old new more e.1.kq.kq.knotes all.0, listed_under es all.1)

-- ---- which are prepared

is_place : (a b : ℕ) → nat_eq a b ≡ true → a ≡ b
is_place a b h = grind (arith, nat_tests)

none_or : (b : Bool) → (b || false) ≡ true → b ≡ true
none_or true is = refl
none_or false is = is

module _ {T : Type 0} (pid child : ℕ) where
  pub one_prepared : (watching : HashMap Target (List ℕ) T) (place : ℕ) (es : Entries) (w : NumberedKqueue)
      → IsPrepared pid child watching place w
      → ArePrepared pid child watching (place ∷ []) (set_value (nat_eq place) es w)
  one_prepared watching place es w prepared p u asked found =
      let same : p ≡ place = is_place p place (none_or (nat_eq p place) asked) in
      let it : u ≡ w = read_back place es w u
      (subst (λ j. lookup (nat_eq j) (set_value (nat_eq place) es w) ≡ Some u) same found) in
      subst (λ j. IsPrepared pid child watching j u) (sym same)
      (subst (IsPrepared pid child watching place) (sym it) prepared)

  pub absent_prepared : (watching : HashMap Target (List ℕ) T) (place : ℕ) (es : Entries)
      → lookup (nat_eq place) es ≡ None → ArePrepared pid child watching (place ∷ []) es
  absent_prepared watching place es none p u asked found =
      let same : p ≡ place = is_place p place (none_or (nat_eq p place) asked) in
      let there : lookup (nat_eq place) es ≡ Some u = subst (λ j. lookup (nat_eq j) es ≡ Some u) same found in
      absurd (cc)

  -- those that are prepared stay so
  pub all_prepared-still : (old new : HashMap Target (List ℕ) T) → Grows target_equal.eq-value.it old new
      → (places : List ℕ) (es ns : Entries) → AreRoomier es ns → ArePrepared pid child old places es
      → ArePrepared pid child new places ns
  all_prepared-still old new more places es ns roomier prepared place w asked found =
      let was = was_roomier place es ns w roomier found in
      still_prepared pid child old new more place was.it w was.roomier (prepared place was.it asked was.found)

  -- as far as a loop has come
  pub next_prepared : (old new : HashMap Target (List ℕ) T) → Grows target_equal.eq-value.it old new
      → (places : List ℕ)
      (i d : ℕ) → i < length places → (es ns : Entries) → AreRoomier es ns
      → ArePrepared pid child old (take i places) es → ArePrepared pid child new (get_or places i d ∷ []) ns
      → ArePrepared pid child new (take (suc i) places) ns
  next_prepared old new more places i d lt es ns roomier so_far here place w asked found =
      by_test (λ b. has_place place (take i places) ≡ b → IsPrepared pid child new place w)
      (has_place place (take i places))
      (λ _ is. all_prepared-still old new more (take i places) es ns roomier so_far place w is found)
      (λ _ away. here place w (this (has_place place (take i places)) (nat_eq place (get_or places i d)) away
      (any_next (nat_eq place) places i d lt asked)) found) refl
    where
      this : (a b : Bool) → a ≡ false → (a || b) ≡ true → (b || false) ≡ true
      this true b away is = absurd (cc)
      this false true away is = refl
      this false false away is = is

  pub end_prepared : (watching : HashMap Target (List ℕ) T) (places : List ℕ) (i : ℕ) → length places ≤ i
      → (es : Entries)
      → ArePrepared pid child watching (take i places) es → ArePrepared pid child watching places es
  end_prepared watching places i past es prepared place v asked found =
      prepared place v (any_end (nat_eq place) places i past asked) found
