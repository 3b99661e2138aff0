-- Each item of what concerns a kqueue is of a record that says it.
use Rattle.std.proofs.Common.{◌≡◌, ℕ, List, [], ◌∷◌, ◌++◌, map, Option, Some, None, refl, sym, subst}
use Rattle.std.proofs.lemmas.List.{map-append}
use Rattle.std.proofs.lemmas.List.Elements.{All-nil, All-cons, All-append, All-map}
use Rattle.std.specs.List.{All, flat_map}
use Rattle.kq_model.specs.Clock.{Span}
use Rattle.kq_model.specs.Close.{Pair}
use Rattle.kq_model.specs.Items as model
use Rattle.kq_model.specs.Items.{clock_whats, call_whats, items_at, items_of, whats}
use Rattle.kq_model.specs.PrivateList.{Concern, private_by}
use Rattle.kq_model.specs.References.{Names}
use Rattle.kq_model.specs.Targets.{Posted}
use Rattle.kq_model.specs.World.{Call}
use Rattle.kq_projection.specs.Items.{bare, bare_items, bare_what}
use Rattle.kq_projection.specs.Traced.{Traced, event_at, moments_of}
use Rattle.kq_projection.specs.Recorded.{IsCallOf, IsClockOf, IsRecorded, IsSaidBy}
use Rattle.kq_projection.proofs.ItemByItem.{AreOwn}
use Rattle.kq_projection.proofs.OneConcern.{IsOwn}
use Rattle.kq_projection.proofs.OwnConcerns.{all-own}

module _ (t : Traced) where
  -- what is said at a place
  abbrev AreMessagesOf : ℕ → model.What → Type 0
  AreMessagesOf place w = IsSaidBy (event_at t place) (bare_what w)

  closes-said : (place : ℕ) (ps : List Pair) → All (AreMessagesOf place) (map model.Closed ps)
  closes-said place [] = All-nil (AreMessagesOf place)
  closes-said place (p ∷ ps) = All-cons (AreMessagesOf place) (model.Closed p) (map model.Closed ps) tt (closes-said place ps)

  hints-said : (place : ℕ) (hints : List Posted) → All (AreMessagesOf place) (map model.Told hints)
  hints-said place [] = All-nil (AreMessagesOf place)
  hints-said place (p ∷ hints) = All-cons (AreMessagesOf place) (model.Told p) (map model.Told hints) tt (hints-said place hints)

  clock-said : (place : ℕ) (clock : Option Span) → ((s : Span) → clock ≡ Some s → IsClockOf (event_at t place) s.from s.to)
      → All (AreMessagesOf place) (clock_whats clock)
  unfolding clock_whats
  clock-said place None clocks = All-nil (AreMessagesOf place)
  clock-said place (Some s) clocks = All-cons (AreMessagesOf place) (model.Clocked s) [] (clocks s refl) (All-nil (AreMessagesOf place))

  call-said : (place : ℕ) (call : Option Call) → ((x : Call) → call ≡ Some x → IsCallOf (event_at t place) x.changes x.room)
      → All (AreMessagesOf place) (call_whats call)
  unfolding call_whats
  call-said place None calls = All-nil (AreMessagesOf place)
  call-said place (Some x) calls =
      All-cons (AreMessagesOf place) (model.Called x) [] (x.changes, x.room, calls x refl) (All-nil (AreMessagesOf place))

  module _ (kqueue owner : ℕ) where
    concern-said : (c : Concern) → IsOwn t kqueue owner c → All (AreMessagesOf c.place) (whats c.closed c.hints c.clock c.call)
    concern-said c own =
        let is = AreMessagesOf c.place in
        let clock = clock_whats c.clock in
        let call = call_whats c.call in
        All-append is (map model.Closed c.closed) (map model.Told c.hints ++ (clock ++ call)) (closes-said c.place c.closed)
        (All-append is (map model.Told c.hints) (clock ++ call) (hints-said c.place c.hints)
        (All-append is clock call (clock-said c.place c.clock own.clocks) (call-said c.place c.call (λ x same. (own.calls x same).1))))

    all-said : (low : ℕ) (cs : List Concern) → AreOwn t kqueue owner low cs → All (IsRecorded t) (bare_items (flat_map items_of cs))
    all-said low [] own = All-nil (IsRecorded t)
    all-said low (c ∷ cs) own =
        let ws = whats c.closed c.hints c.clock c.call in
        subst (All (IsRecorded t)) (sym (map-append bare (items_of c) (flat_map items_of cs)))
        (All-append (IsRecorded t) (bare_items (items_of c)) (bare_items (flat_map items_of cs))
        (All-map (IsRecorded t) bare (items_of c)
        (All-map (λ (i : model.Item). IsRecorded t (bare i)) (λ (w : model.What). record { place = c.place; what = w }) ws (concern-said c own.1)))
        (all-said c.place cs own.2))

    pub items-recorded : (ns : Names) → All (IsRecorded t) (bare_items (flat_map items_of (private_by kqueue owner ns (moments_of t))))
    items-recorded ns = all-said 0 (private_by kqueue owner ns (moments_of t)) (all-own t kqueue owner ns)
