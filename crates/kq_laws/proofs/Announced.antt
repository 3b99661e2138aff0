-- Each record hints each condition that it makes hold of a knote which watches what its number names.
use Rattle.std.proofs.Common.{◌≡◌, ℕ, ◌^◌, ltb, ◌==◌, Bool, true, false, cond, not, ◌&&◌, ◌||◌, List, [], ◌∷◌, map, filter, Option, Some, None, option_map, refl, sym, ap, subst, ◌∙◌}
use Rattle.std.proofs.lemmas.Bool.{true≢false}
use Rattle.std.proofs.lemmas.Option.{none-some, same_Some}
use Rattle.std.specs.Option.{is_some, option_and_then}
use Rattle.kq_model.specs.declared.event.Event.{Event}
use Rattle.kq_model.specs.declared.filter.Filter.{Filter}
use Rattle.kq_model.specs.declared.filter.Filter.TheVariants.{Read, Write, Vnode, Proc, Signal, Timer, User, Aio, Lio, Fs, Procdesc, Sendfile, Empty}
use Rattle.kq_model.specs.declared.object.Hint.{Hint}
use Rattle.kq_model.specs.declared.object.Named.{Named}
use Rattle.kq_model.specs.declared.object.Named.TheVariants as named
use Rattle.kq_model.specs.declared.object.Target.{Target}
use Rattle.kq_model.specs.declared.object.Target.TheVariants as target
use Rattle.kq_model.specs.declared.side.Side.{Side}
use Rattle.kq_model.specs.declared.side.Side.TheVariants as side_of
use Rattle.kq_model.specs.CountedWorld.{IsCountedWorld}
use Rattle.kq_model.specs.Hints.{takes}
use Rattle.kq_model.specs.Holders.{holders_of, times, IsCounted, IsNamed}
use Rattle.kq_model.specs.Knote.{watches_number}
use Rattle.kq_model.specs.ListedFiles.{AreListed}
use Rattle.kq_model.specs.Look.{Seen, mark_of, look_by, notice_or, look, process_seen}
use Rattle.kq_model.specs.NamedTargets as targets
use Rattle.kq_model.specs.Objects.{Objects, counted, description_view, view_of}
use Rattle.kq_model.specs.Pipes.{pipe_view}
use Rattle.kq_model.specs.Plans.{plan}
use Rattle.kq_model.specs.ProcessPlans.{names_of}
use Rattle.kq_model.specs.Sockets.{socket_view}
use Rattle.kq_model.specs.Subjects.{HasSubject}
use Rattle.kq_model.specs.Tallied.{Knote}
use Rattle.kq_model.specs.Targets.{Posted, is_target, number_in, named_in, object_of, target_eq, target_of}
use Rattle.kq_model.specs.World.{World, Plan, Possible, carried_out, named_by, view_in, views_of}
use Rattle.kq_model.proofs.KnoteLaws.{by_test}
use Rattle.kq_model.proofs.NamedWorld.{named-by}
use Rattle.kq_laws.specs.Wakes.{IsAnnounced}
use Rattle.kq_laws.proofs.ActWakes.{AreCalm}
use Rattle.kq_laws.proofs.HoldWakes.{found_socket, found_reader, found_writer, found_description}
use Rattle.kq_laws.proofs.Shown.{filter_of, is_told, shown}
use Rattle.kq_laws.proofs.WorldWakes.{TellsPlanned, tells-record}

-- ---- what a number names is there, to be seen

module _ (o : Objects counted) (names : List Named) (c : IsCounted o names) where
  named-there : (n : Named) (t : Target) → object_of (Some n) ≡ Some t → IsNamed n names → is_some (view_of t o) ≡ true
  unfolding object_of view_of holders_of
  named-there (named.Socket p) t is some =
      let found = found_socket (o.socket p) (times (named.Socket p) names) (c (named.Socket p)) some in
      subst (λ x. is_some (view_of x o) ≡ true) (same_Some (target.Socket p) t is) (ap (λ x. is_some (option_map socket_view x)) found.1)
  named-there (named.PipeRead p) t is some =
      let found = found_reader (o.pipe p) (times (named.PipeRead p) names) (c (named.PipeRead p)) some in
      subst (λ x. is_some (view_of x o) ≡ true) (same_Some (target.Pipe p) t is) (ap (λ x. is_some (option_map pipe_view x)) found.1)
  named-there (named.PipeWrite p) t is some =
      let found = found_writer (o.pipe p) (times (named.PipeWrite p) names) (c (named.PipeWrite p)) some in
      subst (λ x. is_some (view_of x o) ≡ true) (same_Some (target.Pipe p) t is) (ap (λ x. is_some (option_map pipe_view x)) found.1)
  named-there (named.Open p f) t is some =
      let found = found_description (o.description p) (times (named.Open p f) names) (c (named.Open p f)) some in
      subst (λ x. is_some (view_of x o) ≡ true) (same_Some (target.Open p) t is) (ap (λ x. is_some (option_map (description_view o) x)) found.1)
  named-there (named.Kqueue p) t is some = absurd (none-some t is)

-- READ and WRITE watch objects
abbrev IsObject : Target → Type 0
IsObject t = (w : World counted) → view_in w t ≡ view_of t w.objects

object-target : (n : Option Named) (t : Target) → object_of n ≡ Some t → IsObject t
unfolding object_of view_in
object-target None t is = absurd (none-some t is)
object-target (Some (named.Socket p)) t is = subst IsObject (same_Some (target.Socket p) t is) (λ w. refl)
object-target (Some (named.PipeRead p)) t is = subst IsObject (same_Some (target.Pipe p) t is) (λ w. refl)
object-target (Some (named.PipeWrite p)) t is = subst IsObject (same_Some (target.Pipe p) t is) (λ w. refl)
object-target (Some (named.Open p f)) t is = subst IsObject (same_Some (target.Open p) t is) (λ w. refl)
object-target (Some (named.Kqueue p)) t is = absurd (none-some t is)

ident-named : (owner ident : ℕ) (w : World counted) (n : Named) → named_in (views_of w) owner ident ≡ Some n → IsNamed n (names_of w.table)
unfolding named_in number_in views_of
ident-named owner ident w n found =
    by_test (λ b. option_and_then (λ number. named_by owner number w) (cond b (Some ident) None) ≡ Some n → IsNamed n (names_of w.table)) (ltb ident (2 ^ 32))
    (λ _ here. named-by owner ident n w here) (λ _ nothing. absurd (none-some n nothing)) found

watched-there : (w : World counted) → IsCounted w.objects (names_of w.table) → (owner ident : ℕ) (t : Target) (x : Option Named)
    → named_in (views_of w) owner ident ≡ x → object_of x ≡ Some t → is_some (view_of t w.objects) ≡ true
unfolding object_of
watched-there w c owner ident t None found is = absurd (none-some t is)
watched-there w c owner ident t (Some n) found is = named-there w.objects (names_of w.table) c n t is (ident-named owner ident w n found)

-- ---- with no hint for it, nothing is told

untold : (side : Side) (t : Target) (posted : List Posted)
    → filter (takes (filter_of side)) (map (λ (p : Posted). p.1) (filter (λ (p : Posted). target_eq t p.0) posted)) ≡ [] → is_told side t posted ≡ false
untold side t [] none = refl
untold side t (p ∷ ps) none =
    by_test (λ b. filter (takes (filter_of side)) (map (λ (x : Posted). x.1) (cond b (p ∷ others) others)) ≡ []
    → ((b && takes (filter_of side) p.1) || is_told side t ps) ≡ false) (target_eq t p.0)
    (λ _ for_it. by_test (λ b. cond b (p.1 ∷ hints) hints ≡ [] → (b || is_told side t ps) ≡ false) (takes (filter_of side) p.1)
    (λ _ some. absurd (cc)) (λ _ rest. untold side t ps rest) for_it)
    (λ _ rest. untold side t ps rest) none
  where
    others : List Posted
    others = filter (λ (x : Posted). target_eq t x.0) ps

    hints : List Hint
    hints = filter (takes (filter_of side)) (map (λ (x : Posted). x.1) others)

-- ---- whether a look sees something, where that does not depend on the world

is_some-unless : (b : Bool) (x : Seen) → is_some (cond b None (Some x)) ≡ not b
is_some-unless true x = refl
is_some-unless false x = refl

process-some : (notes : ℕ) (x : Option ℕ) → is_some (process_seen notes x) ≡ not (notes == 0)
unfolding process_seen
process-some notes None = is_some-unless (notes == 0) _
process-some notes (Some status) = is_some-unless (notes == 0) _

-- ---- the knote

module _ (place : ℕ) (w : World counted) (p : Plan) (c : IsCountedWorld place w) (tells : TellsPlanned w (Possible p)) (owner : ℕ) (k : Knote) where
  abbrev after : World counted
  after = carried_out place p w

  -- what a knote of a side sees
  seen-told : (side : Side) (t : Target) → IsObject t → is_some (view_of t w.objects) ≡ true → is_told side t p.hints ≡ false
      → shown side (mark_of k) (view_in after t) ≡ true → shown side (mark_of k) (view_in w t) ≡ true
  unfolding carried_out
  seen-told side t object there quiet e =
      ap (shown side (mark_of k)) (object w)
      ∙ tells.0 t there side (mark_of k) quiet (ap (shown side (mark_of k)) (sym (object after)) ∙ e)

  abbrev Watched : Option Target → Type 0
  Watched x = (is_some x ≡ true) × (x ≡ object_of (named_in (views_of w) owner k.key.ident))

  watched-told : (side : Side) (x : Option Target) → Watched x
      → filter (takes (filter_of side)) (map (λ (q : Posted). q.1) (filter (λ (q : Posted). is_target x q.0) p.hints)) ≡ []
      → shown side (mark_of k) (option_and_then (λ t. view_in after t) x) ≡ true
      → shown side (mark_of k) (option_and_then (λ t. view_in w t) x) ≡ true
  unfolding is_target
  watched-told side None watched none e = absurd (true≢false (sym watched.0))
  watched-told side (Some t) watched none e =
      seen-told side t (object-target (named_in (views_of w) owner k.key.ident) t (sym watched.1))
      (watched-there w c.counts owner k.key.ident t (named_in (views_of w) owner k.key.ident) refl (sym watched.1))
      (untold side t p.hints none) e

  due-told : (f : Filter) → (watches_number f ≡ true → (is_some k.target ≡ true) × (k.target ≡ target_of (views_of w) owner f k.key.ident))
      → filter (takes f) (map (λ (q : Posted). q.1) (filter (λ (q : Posted). is_target k.target q.0) p.hints)) ≡ []
      → is_some (look_by f (option_and_then (λ t. view_in after t) k.target) k) ≡ true
      → is_some (look_by f (option_and_then (λ t. view_in w t) k.target) k) ≡ true
  unfolding look_by watches_number target_of
  due-told Read watched none e = watched-told side_of.Read k.target (watched refl) none e
  due-told Write watched none e = watched-told side_of.Write k.target (watched refl) none e
  due-told Vnode watched none e = e
  due-told Proc watched none e = process-some _ _ ∙ sym (process-some _ _) ∙ e
  due-told Signal watched none e = e
  due-told Timer watched none e = e
  due-told User watched none e = e
  due-told Aio watched none e = e
  due-told Lio watched none e = e
  due-told Fs watched none e = e
  due-told Procdesc watched none e = e
  due-told Sendfile watched none e = e
  due-told Empty watched none e = e

  -- a notice is seen before as after
  alerted-told : (notice : Option ℕ) (before later : Option Seen) → (is_some later ≡ true → is_some before ≡ true)
      → is_some (notice_or notice later) ≡ true → is_some (notice_or notice before) ≡ true
  unfolding notice_or
  alerted-told None before later told e = told e
  alerted-told (Some parent) before later told e = refl

  pub is-announced : HasSubject (targets.IsNamed (views_of w) owner) k → IsAnnounced (views_of w) p.hints (views_of after) k
  unfolding look views_of
  is-announced named none e =
      alerted-told k.notice (look_by k.key.filter (option_and_then (λ t. view_in w t) k.target) k)
      (look_by k.key.filter (option_and_then (λ t. view_in after t) k.target) k) (due-told k.key.filter named none) e

-- of a record that is possible
pub announced : (place : ℕ) (e : Event) (w : World counted) (p : Plan) → plan place e w ≡ Possible p → IsCountedWorld place w → AreListed w.objects → AreCalm w.objects
    → (owner : ℕ) (k : Knote) → HasSubject (targets.IsNamed (views_of w) owner) k → IsAnnounced (views_of w) p.hints (views_of (carried_out place p w)) k
announced place e w p is c l calm owner k named =
    is-announced place w p c (subst (TellsPlanned w) is ((tells-record place w e).tells c l calm)) owner k named
