-- What was said and heard is what the trace with one record more says.
use Rattle.std.proofs.Common.{◌≡◌, ◌∙◌, ◌<◌, ◌+◌, ℕ, length, get_or, List, [], ◌∷◌, ◌++◌, map, Option, None, Some, Result, Ok, Err, refl, sym, ap, ap₂, subst, arith}
use Rattle.std.specs.Prelude.{All, IsOk}
use Rattle.std.proofs.lemmas.Bool.{false≢true}
use Rattle.std.proofs.lemmas.List.{append-nil, length-append, length-map, map-append}
use Rattle.std.proofs.lemmas.List.Elements.{All-nil, All-cons, All-append, All-weaker}
use Rattle.std.proofs.lemmas.Option.{none-some, same_Some}
use Rattle.kq_model.specs.declared.event.Event.{Event}
use Rattle.kq_model.specs.declared.event.Event.TheVariants as event
use Rattle.kq_model.specs.declared.object.Named.{Named}
use Rattle.kq_model.specs.declared.object.Named.TheVariants as named
use Rattle.kq_model.specs.declared.why.Why.{Why}
use Rattle.kq_model.specs.Births.{Birth, birth_at, birth_by, births_from}
use Rattle.kq_model.specs.Close.{Pair}
use Rattle.kq_model.specs.CountedWorld.{IsCountedWorld, place_named}
use Rattle.kq_model.specs.Items.{all_items, items_at, items_in, whats}
use Rattle.kq_model.specs.ListedFiles.{AreListed}
use Rattle.kq_model.specs.Moment.{Moment, moment_of}
use Rattle.kq_model.specs.Moments.{moment_by, moments_from}
use Rattle.kq_model.specs.Objects.{counted}
use Rattle.kq_model.specs.Plans.{plan}
use Rattle.kq_model.specs.Views.{Views}
use Rattle.kq_model.specs.World.{World, Call, Plan, Planned, Impossible, Possible, carried_out, empty_world, named_by, views_of}
use Rattle.kq_model.proofs.CountedTables.{named_among-all}
use Rattle.kq_model.proofs.HistoryPushed.{births-push, moments-push}
use Rattle.kq_model.proofs.ListedTrace.{kqueues-listed, moments-listed}
use Rattle.kq_model.proofs.SeenWorld.{seen-counted}
use Rattle.kq_process.specs.declared.effect.Effect.{Effect}
use Rattle.kq_process.specs.Effects.{IsDone, IsEffectOf, pairs_in}
use Rattle.kq_projection.specs.declared.history.item.Item.{Item}
use Rattle.kq_projection.specs.declared.history.kqueues.Kqueues.{Kqueues}
use Rattle.kq_projection.specs.declared.history.message_log.MessageLog.{MessageLog}
use Rattle.kq_projection.specs.Heard.{IsHeard, IsHeardBy, IsSaidOnce}
use Rattle.kq_projection.specs.Items.{bare_items}
use Rattle.kq_projection.specs.Messages.{said_items, AreAllSaid, AreHeard, AreNamedBy, AreTheKqueues, CallsBelow, IsMessageLog}
use Rattle.kq_projection.specs.Sayings.{born_of, call_by, call_of, call_on, clock_of, kqueue_named, kqueue_of, Says, SaysBy}
use Rattle.kq_projection.specs.Sources.{Grows, call_sources}
use Rattle.kq_projection.specs.Traced.{Traced, births_of, longer, moments_of, places_of}
use Rattle.kq_projection.proofs.NamedKqueues.{all-called, all-quiet, new-named, one-more}
use Rattle.kq_projection.proofs.SaidItems.{items-longer, kqueue_in, said-parts}
use Rattle.kq_projection.proofs.Sayings.{says}
use Rattle.kq_projection.proofs.TracedWorlds.{end, now, past, pushed, reached}

-- ---- calls

-- the call is known by its kqueue
call-known : (e : Event) (w : World counted) → call_by e (kqueue_of e w) ≡ call_of e w
unfolding call_by kqueue_of call_of kqueue_named call_on
call-known (event.Kevent pid fd changes room) w = of_name (named_by pid fd w)
  where
    of_name : (x : Option Named) → call_by (event.Kevent pid fd changes room) (kqueue_named x) ≡ call_on changes room x
    of_name None = refl
    of_name (Some (named.Kqueue place)) = refl
    of_name (Some (named.Socket place)) = refl
    of_name (Some (named.PipeRead place)) = refl
    of_name (Some (named.PipeWrite place)) = refl
    of_name (Some (named.Open place file)) = refl
call-known e w = refl

kqueue-known : (e : Event) (w : World counted) → kqueue_in (call_of e w) ≡ kqueue_of e w
unfolding kqueue_of call_of kqueue_named call_on
kqueue-known (event.Kevent pid fd changes room) w = of_name (named_by pid fd w)
  where
    of_name : (x : Option Named) → kqueue_in (call_on changes room x) ≡ kqueue_named x
    of_name None = refl
    of_name (Some (named.Kqueue place)) = refl
    of_name (Some (named.Socket place)) = refl
    of_name (Some (named.PipeRead place)) = refl
    of_name (Some (named.PipeWrite place)) = refl
    of_name (Some (named.Open place file)) = refl
kqueue-known e w = refl

-- a record that makes a kqueue calls none
none-called : (e : Event) (x : Pair) (k : Option ℕ) → born_of e ≡ Some x → call_by e k ≡ None
unfolding born_of call_by
none-called (event.Kevent pid fd changes room) x k born = absurd (none-some x born)
none-called e x k born = refl

-- a call is on a kqueue that was made before
called-below : (e : Event) (w : World counted) (next : ℕ) (c : Call) → IsCountedWorld next w → call_of e w ≡ Some c → c.kqueue < next
unfolding call_of call_on named_by
called-below (event.Kevent pid fd changes room) w next c counts is = of_name (named_by pid fd w) refl is
  where
    of_name : (x : Option Named) → named_by pid fd w ≡ x → call_on changes room x ≡ Some c → c.kqueue < next
    of_name None found calls = absurd (none-some c calls)
    of_name (Some (named.Kqueue place)) found calls =
        subst (λ (k : Call). k.kqueue < next) (same_Some _ c calls) (named_among-all (λ n. place_named n < next) pid fd (named.Kqueue place) w.table counts.below found)
    of_name (Some (named.Socket place)) found calls = absurd (none-some c calls)
    of_name (Some (named.PipeRead place)) found calls = absurd (none-some c calls)
    of_name (Some (named.PipeWrite place)) found calls = absurd (none-some c calls)
    of_name (Some (named.Open place file)) found calls = absurd (none-some c calls)
called-below e w next c counts is = absurd (none-some c is)

-- ---- one record more

module _ (t : Traced) (e : Event) (counts : IsCountedWorld (end t e) (now t e)) (lists : AreListed (now t e).objects) where
  moments-longer : moments_of (longer t e) ≡ moments_of t ++ moment_by t.version (end t e) (plan (end t e) e (now t e)) (now t e)
  moments-longer =
      moments-listed t.version (t.events ++ e ∷ []) ∙ ap (moments_from t.version 1 (empty_world counted)) (pushed t e)
      ∙ moments-push t.version 1 (end t e) (empty_world counted) (past t e) (plan (end t e) e (now t e)) (reached t e)
      ∙ ap (λ ms. ms ++ moment_by t.version (end t e) (plan (end t e) e (now t e)) (now t e)) (sym (moments-listed t.version t.events))

  births-longer : births_of (longer t e) ≡ births_of t ++ birth_by (end t e) (plan (end t e) e (now t e))
  births-longer =
      kqueues-listed t.version (t.events ++ e ∷ []) ∙ ap (births_from 1) (pushed t e)
      ∙ births-push 1 (end t e) (past t e) (plan (end t e) e (now t e)) (reached t e)
      ∙ ap (λ bs. bs ++ birth_by (end t e) (plan (end t e) e (now t e))) (sym (kqueues-listed t.version t.events))

  length_is : length (t.events ++ e ∷ []) ≡ end t e
  length_is = length-append t.events (e ∷ [])

  later-calls : (ms : List Moment) → All (CallsBelow (end t e)) ms → All (CallsBelow (length (t.events ++ e ∷ []) + 1)) ms
  later-calls ms below =
      All-weaker (CallsBelow (end t e)) (CallsBelow (length (t.events ++ e ∷ []) + 1)) (λ m is c calls. omega (arith, is c calls, length_is)) ms below

  -- ---- an impossible one

  module _ (why : Why) (is : plan (end t e) e (now t e) ≡ Impossible why) where
    refused-moments : moments_of (longer t e) ≡ moments_of t
    unfolding moment_by
    refused-moments =
        moments-longer ∙ ap (λ q. moments_of t ++ moment_by t.version (end t e) q (now t e)) is ∙ append-nil (moments_of t)

    refused-births : births_of (longer t e) ≡ births_of t
    unfolding birth_by
    refused-births = births-longer ∙ ap (λ q. births_of t ++ birth_by (end t e) q) is ∙ append-nil (births_of t)

    refused-said : (items : List Item) → AreAllSaid t items → AreAllSaid (longer t e) items
    refused-said items said = said ∙ ap (λ ms. bare_items (all_items ms)) (sym refused-moments)

    refused-kqueues : (k : Kqueues) → AreTheKqueues t k → AreTheKqueues (longer t e) k
    refused-kqueues k are = record {
      births = are.births ∙ ap (λ bs. map (λ (b : Birth). b.place) bs) (sym refused-births);
      concerned = subst (λ ms. AreNamedBy ms (births_of (longer t e)) k.concerned.items) (sym refused-moments)
          (subst (λ bs. AreNamedBy (moments_of t) bs k.concerned.items) (sym refused-births) are.concerned);
      calls = subst (λ ms. All (CallsBelow (length (t.events ++ e ∷ []) + 1)) ms) (sym refused-moments) (later-calls (moments_of t) are.calls);
    }

  -- ---- a possible one

  module _ (p : Plan) (is : plan (end t e) e (now t e) ≡ Possible p) (effect : Effect) (done : IsDone p effect) where
    abbrev m : Moment
    m = moment_of t.version (end t e) p (now t e)

    abbrev after : World counted
    after = carried_out (end t e) p (now t e)

    speaks : Says (born_of e) (call_of e (now t e)) (clock_of e (now t e).now) p
    speaks = subst (SaysBy (born_of e) (call_of e (now t e)) (clock_of e (now t e).now)) is (says (now t e) (end t e) e)

    same_moments : moments_of (longer t e) ≡ moments_of t ++ m ∷ []
    unfolding moment_by
    same_moments = moments-longer ∙ ap (λ q. moments_of t ++ moment_by t.version (end t e) q (now t e)) is

    same_births : births_of (longer t e) ≡ births_of t ++ birth_at (end t e) (born_of e)
    unfolding birth_by
    same_births =
        births-longer ∙ ap (λ q. births_of t ++ birth_by (end t e) q) is ∙ ap (λ b. births_of t ++ birth_at (end t e) b) speaks.born_is

    m-call : m.call ≡ call_of e (now t e)
    unfolding moment_of
    m-call = speaks.call_is

    m-views : m.views ≡ views_of after
    unfolding moment_of
    m-views = ap views_of (seen-counted after)

    m-items : bare_items (items_in m) ≡ said_items (end t e) effect.closed effect.hints (clock_of e (now t e).now) (kqueue_of e (now t e))
    unfolding moment_of
    m-items =
        ap (λ closed. bare_items (items_at (end t e) (whats closed p.hints p.clock p.call))) (sym done.closed)
        ∙ ap (λ hints. bare_items (items_at (end t e) (whats (pairs_in effect.closed) hints p.clock p.call))) (sym done.hints)
        ∙ said-parts (end t e) effect.closed effect.hints p.clock p.call
        ∙ ap₂ (λ clock call. said_items (end t e) effect.closed effect.hints clock (kqueue_in call)) speaks.clock_is speaks.call_is
        ∙ ap (said_items (end t e) effect.closed effect.hints (clock_of e (now t e).now)) (kqueue-known e (now t e))

    m-calls : CallsBelow (end t e) m
    m-calls c calls = called-below e (now t e) (end t e) c counts (sym m-call ∙ calls)

    all-below : (k : Kqueues) → AreTheKqueues t k → All (CallsBelow (end t e)) (moments_of t ++ m ∷ [])
    all-below k are =
        All-append (CallsBelow (end t e)) (moments_of t) (m ∷ []) are.calls (All-cons (CallsBelow (end t e)) m [] m-calls (All-nil (CallsBelow (end t e))))

    -- the kqueues, by what the record says of itself
    kqueues-next : (k k' : Kqueues) → AreTheKqueues t k → (born : Option Pair) (call : Option Call) → born_of e ≡ born → call_of e (now t e) ≡ call
        → AreHeard (end t e) born call (views_of after) k k'
        → (k'.places.items ≡ places_of (longer t e))
        × AreNamedBy (moments_of t ++ m ∷ []) (births_of t ++ birth_at (end t e) born) k'.concerned.items
    unfolding birth_at
    kqueues-next k k' are (Some x) call born calls heard =
        let c = heard.1.0 in
        let b : Birth = record { place = end t e; owner = x.pid; number = x.number } in
        let none : m.call ≡ None = m-call ∙ sym (call-known e (now t e)) ∙ none-called e x (kqueue_of e (now t e)) born in (
          heard.0 ∙ ap (λ ps. ps ++ end t e ∷ []) are.births
              ∙ sym (map-append (λ (b : Birth). b.place) (births_of t) (b ∷ []))
              ∙ ap (λ bs. map (λ (b : Birth). b.place) bs) (sym (same_births ∙ ap (λ x. births_of t ++ birth_at (end t e) x) born)),
          subst (AreNamedBy (moments_of t ++ m ∷ []) (births_of t ++ b ∷ [])) (sym heard.1.2)
              (one-more (moments_of t ++ m ∷ []) (births_of t) k.concerned.items b c
              (all-quiet (moments_of t) m none (births_of t) k.concerned.items are.concerned)
              (new-named (moments_of t ++ m ∷ []) b c heard.1.1 (all-below k are))),
        )
    kqueues-next k k' are None None born calls heard = (
      ap (λ (ks : Kqueues). ks.places.items) heard ∙ are.births ∙ places-same born,
      subst (λ bs. AreNamedBy (moments_of t ++ m ∷ []) bs k'.concerned.items) (sym (append-nil (births_of t)))
          (subst (λ (ks : Kqueues). AreNamedBy (moments_of t ++ m ∷ []) (births_of t) ks.concerned.items) (sym heard)
          (all-quiet (moments_of t) m (m-call ∙ calls) (births_of t) k.concerned.items are.concerned)),
    )
      where
        places-same : born_of e ≡ None → places_of t ≡ places_of (longer t e)
        places-same none = ap (λ bs. map (λ (b : Birth). b.place) bs)
            (sym (same_births ∙ ap (λ x. births_of t ++ birth_at (end t e) x) none ∙ append-nil (births_of t)))
    kqueues-next k k' are None (Some c) born calls heard = (
      heard.0 ∙ are.births ∙ places-same born,
      subst (λ bs. AreNamedBy (moments_of t ++ m ∷ []) bs k'.concerned.items) (sym (append-nil (births_of t)))
          (all-called (moments_of t) m c (m-call ∙ calls) (births_of t) k.concerned.items k'.concerned.items
          heard.1.length_is heard.1.owners
          (λ index d within here. subst (λ (v : Views). Grows (call_sources v (get_or k.concerned.items index d).owner c.changes)
          (get_or k.concerned.items index d).sources (get_or k'.concerned.items index d).sources) (sym m-views)
          (heard.1.named index d (inside index within) (ap (λ ps. get_or ps index 0) are.births ∙ here)))
          (λ index d away. heard.1.others index d (λ here. away (ap (λ ps. get_or ps index 0) (sym are.births) ∙ here)))
          are.concerned),
    )
      where
        inside : (index : ℕ) → index < length (births_of t) → index < length k.places.items
        inside index within =
            let count : length k.places.items ≡ length (births_of t) = ap (λ (ps : List ℕ). length ps) are.births ∙ length-map (births_of t) (λ (b : Birth). b.place) in
            omega (arith, within, count)

        places-same : born_of e ≡ None → places_of t ≡ places_of (longer t e)
        places-same none = ap (λ bs. map (λ (b : Birth). b.place) bs)
            (sym (same_births ∙ ap (λ x. births_of t ++ birth_at (end t e) x) none ∙ append-nil (births_of t)))

    done-said : (items more : List Item) → AreAllSaid t items
        → more ≡ items ++ said_items (end t e) effect.closed effect.hints (clock_of e (now t e).now) (kqueue_of e (now t e))
        → AreAllSaid (longer t e) more
    done-said items more said once =
        let these = said_items (end t e) effect.closed effect.hints (clock_of e (now t e).now) (kqueue_of e (now t e)) in
        once ∙ ap (λ xs. xs ++ these) said ∙ ap (λ xs. bare_items (all_items (moments_of t)) ++ xs) (sym m-items)
        ∙ sym (ap (λ ms. bare_items (all_items ms)) same_moments ∙ items-longer (moments_of t) m)

    done-kqueues : (k k' : Kqueues) → AreTheKqueues t k
        → AreHeard (end t e) (born_of e) (call_by e (kqueue_of e (now t e))) (views_of after) k k' → AreTheKqueues (longer t e) k'
    done-kqueues k k' are once =
        let heard = subst (λ call. AreHeard (end t e) (born_of e) call (views_of after) k k') (call-known e (now t e)) once in
        let next = kqueues-next k k' are (born_of e) (call_of e (now t e)) refl refl heard in
        record {
          births = next.0;
          concerned = subst (λ ms. AreNamedBy ms (births_of (longer t e)) k'.concerned.items) (sym same_moments)
              (subst (λ bs. AreNamedBy (moments_of t ++ m ∷ []) bs k'.concerned.items) (sym same_births) next.1);
          calls = subst (λ ms. All (CallsBelow (length (t.events ++ e ∷ []) + 1)) ms) (sym same_moments) (later-calls (moments_of t ++ m ∷ []) (all-below k are));
        }

  -- ---- any

  pub said-next : (q : Planned) → plan (end t e) e (now t e) ≡ q → (effect : Effect) → IsEffectOf q effect → (next : World counted)
      → ((p : Plan) → q ≡ Possible p → next ≡ carried_out (end t e) p (now t e)) → (s s' : MessageLog) → IsMessageLog t s
      → IsHeard (end t e) e effect (now t e) next s s' → IsMessageLog (longer t e) s'
  said-next (Impossible why) is effect refused next leads s s' said heard =
      let none : s' ≡ s = subst (λ v. IsHeardBy v (end t e) e effect (now t e) next s s') refused.verdict heard in
      subst (IsMessageLog (longer t e)) (sym none) (record {
        logged = refused-said why is s.log.items said.logged;
        kqueues = refused-kqueues why is s.kqueues said.kqueues;
      })
  said-next (Possible p) is effect done next leads s s' said heard =
      let once = possible effect.verdict done.verdict heard in
      record {
        logged = done-said p is effect done s.log.items s'.log.items said.logged once.items;
        kqueues = done-kqueues p is effect done s.kqueues s'.kqueues said.kqueues
            (subst (λ w. AreHeard (end t e) (born_of e) (call_by e (kqueue_of e (now t e))) (views_of w) s.kqueues s'.kqueues) (leads p refl) once.kqueues);
      }
    where
      possible : (v : Result (Unit {0}) Why) → IsOk v → IsHeardBy v (end t e) e effect (now t e) next s s'
          → IsSaidOnce (end t e) e effect (now t e) next s s'
      possible (Ok done) is heard = heard
      possible (Err why) is heard = absurd (false≢true is)
