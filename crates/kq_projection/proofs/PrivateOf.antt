-- What is picked by the sources of a kqueue is its private list.
use Rattle.std.proofs.Common.{◌≡◌, ◌∙◌, ◌<◌, ◌==◌, ◌&&◌, ◌||◌, not, ℕ, zero, suc, ◌+◌, eqb, Bool, true, false, cond, List, [], ◌∷◌, ◌++◌, map, filter, length, get_or, refl, sym, ap, ap₂, subst, arith}
use Rattle.std.specs.List.{All, Contains, flat_map, list_any}
use Rattle.std.proofs.lemmas.Bool.{and_from, and_parts, eq-eqb, eqb-true, false≢true}
use Rattle.std.proofs.lemmas.List.{length-map}
use Rattle.std.proofs.lemmas.List.Elements.{All-nil, All-cons, All-head, All-tail, All-weaker}
use Rattle.kq_model.specs.Births.{Birth}
use Rattle.kq_model.specs.Moment.{Moment, moment_of}
use Rattle.kq_model.specs.Moments.{moments_from, moment_by, world_by}
use Rattle.kq_model.specs.Objects.{listed}
use Rattle.kq_model.specs.Projection.{plans}
use Rattle.kq_model.specs.World.{World, Planned, Impossible, Possible, carried_out, empty_world}
use Rattle.kq_model.specs.declared.object.Target.{Target}
use Rattle.kq_model.specs.PrivateList.{private_by}
use Rattle.kq_model.specs.References.{Names, Reference, descended, forks_at, named_by, names_in, references}
use Rattle.kq_model.specs.declared.object.Hint.TheVariants.{Readable}
use Rattle.kq_model.specs.Following.{Fork, all_forks}
use Rattle.kq_model.specs.Items as model
use Rattle.kq_model.specs.Targets.{is_target}
use Rattle.kq_model.proofs.BornFirst.{born-first}
use Rattle.kq_model.proofs.Descended.{AreBornFirst}
use Rattle.kq_projection.specs.declared.history.item.Item.{Item}
use Rattle.kq_projection.specs.declared.history.item.Source.{Source}
use Rattle.kq_projection.specs.declared.history.item.Source.TheVariants as source
use Rattle.kq_projection.specs.declared.history.kqueues.Concerned.{Concerned}
use Rattle.kq_projection.specs.declared.history.trace_messages.TraceMessages.{TraceMessages}
use Rattle.kq_model.proofs.KnoteLaws.{by_test}
use Rattle.kq_projection.specs.Children.{AreReached, AreWithChildren}
use Rattle.kq_projection.specs.Concerned.{IsConcerned}
use Rattle.kq_projection.specs.Items.{bare_items, bare_what, has_source, is_from, source_of}
use Rattle.kq_projection.specs.Kqueues.{IsAtPlace}
use Rattle.kq_projection.specs.Private.{IsPrivate, is_owned}
use Rattle.kq_projection.specs.Messages.{IsNamedBy, AreMessagesOf}
use Rattle.kq_projection.specs.Traced.{Traced, births_of, moments_of}
use Rattle.kq_projection.proofs.Descending.{all-of, all-other, no-other}
use Rattle.kq_projection.proofs.NamedKqueues.{named-at}
use Rattle.kq_projection.proofs.PickedPrivate.{picked-private}
use Rattle.kq_projection.proofs.SameSource.{eq_is}
use Rattle.kq_projection.proofs.Sourced.{own-source}

or_true : (b : Bool) → (b || true) ≡ true
or_true true = refl
or_true false = refl

-- by what its changes name themselves
named-own : (ms : List Moment) (b : Birth) (c : Concerned) → IsNamedBy ms b c → (w : model.What)
    → has_source c.sources.set.keys (source_of (bare_what w)) ≡ model.is_own b.place b.owner (named_by (references b.place b.owner ms)) w
named-own ms b c is w = is.sources (source_of (bare_what w)) ∙ own-source eq_is b.place b.owner (references b.place b.owner ms) w

-- where no process that descends from one of these is asked for
pub concerned-named : (ms : List Moment) (b : Birth) (c : Concerned) → IsNamedBy ms b c
    → IsConcerned (names_in [] (references b.place b.owner ms)) b c.owner c.sources.set.keys
unfolding model.is_own descended
concerned-named ms b c is = (is.owner_is, λ w. named-own ms b c is w ∙ same w)
  where
    same : (w : model.What) → model.is_own b.place b.owner (named_by (references b.place b.owner ms)) w
        ≡ model.is_own b.place b.owner (names_in [] (references b.place b.owner ms)) w
    same (model.Told p) = no-other (references b.place b.owner ms) p.0
    same (model.Closed p) = refl
    same (model.Clocked span) = refl
    same (model.Called call) = refl

-- with the processes that descend from those that are named
pub concerned-later : (ms : List Moment) (b : Birth) (c : Concerned) (all : List Source) → IsNamedBy ms b c
    → All (λ (m : Moment). eqb m.version 1 ≡ false) ms → AreBornFirst (forks_at ms)
    → AreWithChildren (bare_items (model.all_items ms)) c.sources.set.keys all
    → IsConcerned (names_in (forks_at ms) (references b.place b.owner ms)) b c.owner all
unfolding model.is_own
concerned-later ms b c all is later born with_children = (is.owner_is, own)
  where
    rs : List Reference
    rs = references b.place b.owner ms

    named : List Source
    named = c.sources.set.keys

    named_is : (t : Target) → has_source c.sources.set.keys (source.Of t) ≡ list_any (λ (r : Reference). is_target r.target t) (references b.place b.owner ms)
    named_is t = named-own ms b c is (model.Told (t, Readable))

    own : (w : model.What) → has_source all (source_of (bare_what w)) ≡ model.is_own b.place b.owner (names_in (forks_at ms) (references b.place b.owner ms)) w
    own (model.Told p) = all-of ms (references b.place b.owner ms) c.sources.set.keys all later born named_is with_children p.0
    own (model.Closed p) = all-other ms (references b.place b.owner ms) c.sources.set.keys all later born named_is with_children (source.Number p.pid p.number) refl ∙ named-own ms b c is (model.Closed p)
    own (model.Clocked span) = all-other ms (references b.place b.owner ms) c.sources.set.keys all later born named_is with_children source.Clock refl ∙ named-own ms b c is (model.Clocked span)
    own (model.Called call) = all-other ms (references b.place b.owner ms) c.sources.set.keys all later born named_is with_children (source.Kqueue call.kqueue) refl ∙ named-own ms b c is (model.Called call)

place-at : (bs : List Birth) (index : ℕ) (b : Birth) → index < length bs → (get_or bs index b).place ≡ get_or (map (λ (x : Birth). x.place) bs) index 0
place-at [] index b within = absurd (omega (arith, within))
place-at (x ∷ bs) zero b within = refl
place-at (x ∷ bs) (suc index) b within = place-at bs index b (omega (arith, within))

abbrev pub no_birth : Birth
no_birth = record { place = 0; owner = 0; number = 0 }

-- the kqueue of a place is one of those that were born, with the sources of what concerns it
pub named-there : (t : Traced) (said : TraceMessages) → AreMessagesOf t said → (place : ℕ) (c : Concerned) → IsAtPlace place said.kqueues c
    → (index : ℕ) × (index < length (births_of t)) × ((get_or (births_of t) index no_birth).place ≡ place)
    × IsNamedBy (moments_of t) (get_or (births_of t) index no_birth) c
named-there t said is place c at =
    let bs = births_of t in
    let index = at.0 in
    let places = said.kqueues.places.items in
    let count : length places ≡ length bs = ap (λ (ps : List ℕ). length ps) is.kqueues.births ∙ length-map bs (λ (b : Birth). b.place) in
    let inside : index < length places = at.1 in
    let within : index < length bs = omega (arith, inside, count) in (
      index,
      within,
      place-at bs index no_birth within ∙ ap (λ (ps : List ℕ). get_or ps index 0) (sym is.kqueues.births) ∙ at.2,
      subst (IsNamedBy (moments_of t) (get_or bs index no_birth)) (sym at.3)
          (named-at (moments_of t) bs said.kqueues.concerned.items is.kqueues.concerned index no_birth c within),
    )

found-there : (bs : List Birth) (index : ℕ) (b : Birth) (place owner : ℕ) → index < length bs → (get_or bs index b).place ≡ place → (get_or bs index b).owner ≡ owner
    → list_any (λ (x : Birth). (x.place == place) && (x.owner == owner)) bs ≡ true
found-there [] index b place owner within here mine = absurd (omega (arith, within))
found-there (x ∷ bs) zero b place owner within here mine =
    ap (λ v. v || list_any (λ (y : Birth). (y.place == place) && (y.owner == owner)) bs)
    (and_from (x.place == place) (x.owner == owner) (eq-eqb x.place place here) (eq-eqb x.owner owner mine))
found-there (x ∷ bs) (suc index) b place owner within here mine =
    ap (λ v. ((x.place == place) && (x.owner == owner)) || v) (found-there bs index b place owner (omega (arith, within)) here mine)
    ∙ or_true ((x.place == place) && (x.owner == owner))

-- the kqueue of a place is there
pub owned-there : (t : Traced) (said : TraceMessages) → AreMessagesOf t said → (place : ℕ) (c : Concerned) → IsAtPlace place said.kqueues c
    → is_owned t place c.owner ≡ true
owned-there t said is place c at =
    let there = named-there t said is place c at in
    found-there (births_of t) there.0 no_birth place c.owner there.1 there.2 (sym there.3.owner_is)

-- what is picked by the sources of what concerns it, for its place and its owner
picked-there : (t : Traced) (said : TraceMessages) → AreMessagesOf t said → (place : ℕ) (c : Concerned) → IsAtPlace place said.kqueues c
    → (names : ℕ → ℕ → Names) (sources : List Source)
    → ((b : Birth) → IsNamedBy (moments_of t) b c → IsConcerned (names b.place b.owner) b c.owner sources)
    → filter (is_from sources) said.log
    ≡ bare_items (flat_map model.items_of (private_by place c.owner (names place c.owner) (moments_of t)))
picked-there t said is place c at names sources concerned =
    let there = named-there t said is place c at in
    let b = get_or (births_of t) there.0 no_birth in
    ap (filter (is_from sources)) is.logged
    ∙ picked-private (names b.place b.owner) (moments_of t) b c.owner sources (concerned b there.3)
    ∙ ap₂ (λ p o. bare_items (flat_map model.items_of (private_by p o (names p o) (moments_of t)))) there.2 (sym there.3.owner_is)

-- the moments have the version of the trace
all-version : (version place : ℕ) (w : World listed) (qs : List Planned) → All (λ (m : Moment). m.version ≡ version) (moments_from version place w qs)
unfolding moments_from moment_by world_by moment_of
all-version version place w [] = All-nil (λ m. m.version ≡ version)
all-version version place w (Impossible why ∷ qs) = all-version version (place + 1) w qs
all-version version place w (Possible p ∷ qs) =
    All-cons (λ m. m.version ≡ version) (moment_of version place p w) (moments_from version (place + 1) (carried_out place p w) qs)
    refl (all-version version (place + 1) (carried_out place p w) qs)

no-forks : (ms : List Moment) → All (λ (m : Moment). m.version ≡ 1) ms → forks_at ms ≡ []
unfolding forks_at
no-forks [] all = refl
no-forks (m ∷ ms) all =
    ap₂ (λ (fs gs : List Fork). fs ++ gs)
    (ap (λ b. cond b [] (all_forks m.hints)) (eq-eqb m.version 1 (All-head (λ (x : Moment). x.version ≡ 1) m ms all)))
    (no-forks ms (All-tail (λ (x : Moment). x.version ≡ 1) m ms all))

-- ---- all of it

module _ (t : Traced) (said : TraceMessages) (is : AreMessagesOf t said) (place : ℕ) (c : Concerned) (at : IsAtPlace place said.kqueues c) (sources : List Source) where
  -- in a later version than 1 the processes that descend from those that are named are reached
  reached-later : (b : Birth) → IsNamedBy (moments_of t) b c → (t.version == 1) ≡ false
      → AreWithChildren said.log c.sources.set.keys sources
      → IsConcerned (names_in (forks_at (moments_of t)) (references b.place b.owner (moments_of t))) b c.owner sources
  reached-later b named later with_children =
      concerned-later (moments_of t) b c sources named
      (All-weaker (λ (m : Moment). m.version ≡ t.version) (λ (m : Moment). eqb m.version 1 ≡ false) (λ m of. ap (λ n. eqb n 1) of ∙ later) (moments_of t)
      (all-version t.version 1 (empty_world listed) (plans listed t.version t.events)))
      (born-first listed t.version t.events)
      (subst (λ xs. AreWithChildren xs c.sources.set.keys sources) is.logged with_children)

  -- where no fork is asked for
  reached-none : (b : Birth) → IsNamedBy (moments_of t) b c → (forks : List Fork) → forks ≡ [] → sources ≡ c.sources.set.keys
      → IsConcerned (names_in forks (references b.place b.owner (moments_of t))) b c.owner sources
  reached-none b named forks none same =
      subst (IsConcerned (names_in forks (references b.place b.owner (moments_of t))) b c.owner) (sym same)
      (subst (λ (fs : List Fork). IsConcerned (names_in fs (references b.place b.owner (moments_of t))) b c.owner c.sources.set.keys) (sym none)
      (concerned-named (moments_of t) b c named))

  -- version 1 has no forks
  none-at-first : (t.version == 1) ≡ true → forks_at (moments_of t) ≡ []
  none-at-first one =
      no-forks (moments_of t)
      (All-weaker (λ (m : Moment). m.version ≡ t.version) (λ (m : Moment). m.version ≡ 1) (λ m of. of ∙ eqb-true t.version 1 one) (moments_of t)
      (all-version t.version 1 (empty_world listed) (plans listed t.version t.events)))

  reached-all : AreReached (not (t.version == 1)) said.log c.sources.set.keys sources
      → (b : Birth) → IsNamedBy (moments_of t) b c
      → IsConcerned (names_in (forks_at (moments_of t)) (references b.place b.owner (moments_of t))) b c.owner sources
  reached-all reached b named =
      by_test (λ v. (t.version == 1) ≡ v → AreReached (not v) said.log c.sources.set.keys sources
      → IsConcerned (names_in (forks_at (moments_of t)) (references b.place b.owner (moments_of t))) b c.owner sources) (t.version == 1)
      (λ _ one same. reached-none b named (forks_at (moments_of t)) (none-at-first one) same)
      (λ _ later with_children. reached-later b named later with_children) refl reached

  pub is-private : (items : List Item) → AreReached (not (t.version == 1)) said.log c.sources.set.keys sources
      → items ≡ filter (is_from sources) said.log → IsPrivate t place c.owner items
  is-private items reached picked = record {
    owned = owned-there t said is place c at;
    items_are = picked ∙ picked-there t said is place c at (λ p o. names_in (forks_at (moments_of t)) (references p o (moments_of t))) sources (reached-all reached);
  }

-- whose list it is
born-in : (bs : List Birth) (place owner : ℕ) → list_any (λ (x : Birth). (x.place == place) && (x.owner == owner)) bs ≡ true
    → (b : Birth) × Contains bs b × (b.place ≡ place) × (b.owner ≡ owner)
born-in [] place owner found = absurd (false≢true found)
born-in (x ∷ bs) place owner found =
    by_test (λ v. (v || list_any (λ (y : Birth). (y.place == place) && (y.owner == owner)) bs) ≡ true
    → (b : Birth) × Contains (x ∷ bs) b × (b.place ≡ place) × (b.owner ≡ owner)) ((x.place == place) && (x.owner == owner))
    (λ is _.
    let both = and_parts (x.place == place) (x.owner == owner) is in
    (x, (0, omega arith, refl), eqb-true x.place place both.0, eqb-true x.owner owner both.1))
    (λ _ later.
    let there = born-in bs place owner later in
    (there.0, (suc there.1.0, omega (arith, there.1.1), there.1.2), there.2, there.3))
    found

pub owner-born : (t : Traced) (place owner : ℕ) (items : List Item) → IsPrivate t place owner items
    → (b : Birth) × Contains (births_of t) b × (b.place ≡ place) × (b.owner ≡ owner)
owner-born t place owner items is = born-in (births_of t) place owner is.owned
