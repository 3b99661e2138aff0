-- A kqueue replayed from its private list gives the rows that it gives over all moments.
use Rattle.std.proofs.Common.{◌≡◌, ℕ, Bool, cond, List, [], ◌∷◌, ◌++◌, map, filter, refl, sym, ap, ap₂, ◌∙◌}
use Rattle.std.proofs.lemmas.List.Elements.{All-nil, All-cons, All-head, All-tail, All-weaker, All-contains_itself}
use Rattle.std.proofs.lemmas.Bool.{and_from, or_left, eq-eqb}
use Rattle.std.specs.List.{All, Contains}
use Rattle.kq_model.specs.Following.{Fork, forks_in}
use Rattle.kq_model.specs.Hearing.{Hearing}
use Rattle.kq_model.specs.Knote.{is_timer}
use Rattle.kq_model.specs.Kqueue.{Kqueue, empty_kqueue}
use Rattle.kq_model.specs.Moment.{Moment, kqueue_step}
use Rattle.kq_model.specs.PrivateList.{Concern, concern_of, concerns, private_by, private_list}
use Rattle.kq_model.specs.References.{Reference, Names, names_number, names_in, references_in, references, forks_at}
use Rattle.kq_model.specs.Replayed.{moment_with, own_reply, rows_over, rows_alone}
use Rattle.kq_model.specs.Subjects.{HasSubject}
use Rattle.kq_model.specs.System.{row_of}
use Rattle.kq_model.specs.Targets.{is_target}
use Rattle.kq_model.specs.Views.{Views}
use Rattle.kq_model.proofs.KnoteLaws.{by_test}
use Rattle.kq_model.proofs.ListFilters.{any_contained, All-left, All-right}
use Rattle.kq_model.proofs.Descended.{AreBornFirst, names-closed}
use Rattle.kq_model.proofs.PrivateParts.{IsReferred, IsNumbered, IsClosedUnder}
use Rattle.kq_model.proofs.PrivateStep.{IsAmong, AreClosedAt, Fits, step-fits, own_moment, step-own, reply-own, quiet-step, quiet-reply}
use Rattle.kq_model.proofs.SameTarget.{is_target-it}

-- ---- what is named is among the names

named-among : (forks : List Fork) (rs : List Reference) (r : Reference) → Contains rs r → IsReferred (names_in forks rs) r.filter r.ident r.target
named-among forks rs r there = (
  (λ watches. any_contained (names_number r.ident) rs r there (and_from _ _ watches (eq-eqb r.ident r.ident refl))),
  (λ t is. or_left _ _ (any_contained (λ (x : Reference). is_target x.target t) rs r there (is_target-it r.target t is))),
  (λ is. any_contained (λ (x : Reference). is_timer x.filter) rs r there is),
)

module _ {S : Type 0} (h : Hearing S) (kqueue owner : ℕ) where
  -- each change of the kqueue's calls is among these
  abbrev pub AreAmong : Names → List Moment → Type 0
  AreAmong ns ms = All (λ (m : Moment). All (IsAmong h kqueue owner ns) (references_in kqueue owner m.views m.call)) ms

  each-among : (ns : Names) (ms : List Moment) → All (IsAmong h kqueue owner ns) (references kqueue owner ms) → AreAmong ns ms
  unfolding references
  each-among ns [] all = All-nil (λ (m : Moment). All (IsAmong h kqueue owner ns) (references_in kqueue owner m.views m.call))
  each-among ns (m ∷ ms) all =
      let first = references_in kqueue owner m.views m.call in
      All-cons (λ (m : Moment). All (IsAmong h kqueue owner ns) (references_in kqueue owner m.views m.call)) m ms
      (All-left (IsAmong h kqueue owner ns) first (references kqueue owner ms) all)
      (each-among ns ms (All-right (IsAmong h kqueue owner ns) first (references kqueue owner ms) all))

  pub all-among : (forks : List Fork) (ms : List Moment) → AreAmong (names_in forks (references kqueue owner ms)) ms
  all-among forks ms =
      let rs = references kqueue owner ms in
      each-among (names_in forks rs) ms
      (All-weaker (Contains rs) (IsAmong h kqueue owner (names_in forks rs)) (λ r there. named-among forks rs r there) rs (All-contains_itself rs))

  -- and so is each child of a process that is named
  abbrev AreClosed : Names → List Moment → Type 0
  AreClosed ns ms = All (AreClosedAt h kqueue owner ns) ms

  each-closed : (ns : Names) (ms : List Moment) → All (IsClosedUnder h ns) (forks_at ms) → AreClosed ns ms
  unfolding forks_at
  each-closed ns [] all = All-nil (AreClosedAt h kqueue owner ns)
  each-closed ns (m ∷ ms) all =
      let first = forks_in m.version m.hints in
      All-cons (AreClosedAt h kqueue owner ns) m ms (All-left (IsClosedUnder h ns) first (forks_at ms) all)
      (each-closed ns ms (All-right (IsClosedUnder h ns) first (forks_at ms) all))

  -- ---- the replay

  module _ (ns : Names) where
    abbrev pub own_moments : List Moment → List Moment
    own_moments ms = map (own_moment h kqueue owner ns) ms

    abbrev pub quiet : Moment → Bool
    quiet m = concerns (concern_of kqueue owner ns m)

    rows-own : (kq : Kqueue h) (ms : List Moment) → AreAmong ns ms → AreClosed ns ms → Fits h kqueue owner ns kq
        → rows_over kqueue owner kq (own_moments (filter quiet ms)) ≡ rows_over kqueue owner kq ms
    unfolding rows_over row_of
    rows-own kq [] all closes fits = refl
    rows-own kq (m ∷ ms) all closes fits =
        let closes_now = All-head (AreClosedAt h kqueue owner ns) m ms closes in
        let own = own_moment h kqueue owner ns m in
        let now = All-head (λ (m : Moment). All (IsAmong h kqueue owner ns) (references_in kqueue owner m.views m.call)) m ms all in
        let later = All-tail (λ (m : Moment). All (IsAmong h kqueue owner ns) (references_in kqueue owner m.views m.call)) m ms all in
        let next = kqueue_step kqueue owner m kq in
        let rest = rows-own next ms later (All-tail (AreClosedAt h kqueue owner ns) m ms closes) (step-fits h kqueue owner ns m kq closes_now now fits) in
        let reply = reply-own h kqueue owner ns m kq closes_now fits in
        let step = step-own h kqueue owner ns m kq closes_now fits in
        by_test (λ b. concerns (concern_of kqueue owner ns m) ≡ b → rows_over kqueue owner kq (own_moments (cond b (m ∷ filter quiet ms) (filter quiet ms)))
        ≡ row_of m.place (own_reply kqueue owner m m.call kq) ++ rows_over kqueue owner next ms) (quiet m)
        (λ _ _. ap₂ (λ r q. row_of m.place r ++ rows_over kqueue owner q (own_moments (filter quiet ms))) reply step
        ∙ ap (λ rows. row_of m.place (own_reply kqueue owner m m.call kq) ++ rows) rest)
        (λ fails _. ap (λ q. rows_over kqueue owner q (own_moments (filter quiet ms))) (sym (quiet-step h kqueue owner own kq fails) ∙ step)
        ∙ rest
        ∙ ap (λ r. row_of m.place r ++ rows_over kqueue owner next ms) (sym (quiet-reply h kqueue owner own kq fails) ∙ reply))
        refl

  -- ---- the private list, with the views of its places

  abbrev pub IsSeen : ℕ → (ℕ → Views) → Moment → Type 0
  IsSeen version views m = (m.version ≡ version) × (m.views ≡ views m.place)

  module _ (version : ℕ) (views : ℕ → Views) (ns : Names) where
    abbrev pub at_place : Concern → Moment
    at_place c = moment_with version (views c.place) c

    seen-moment : (m : Moment) → IsSeen version views m → at_place (concern_of kqueue owner ns m) ≡ own_moment h kqueue owner ns m
    seen-moment m seen =
        ap₂ (λ v w. moment_with v w (concern_of kqueue owner ns m)) (sym seen.0) (sym seen.1)

    pub private-moments : (ms : List Moment) → All (IsSeen version views) ms
        → map at_place (private_by kqueue owner ns ms) ≡ own_moments ns (filter (quiet ns) ms)
    private-moments [] seen = refl
    private-moments (m ∷ ms) seen =
        let rest = private-moments ms (All-tail (IsSeen version views) m ms seen) in
        by_test (λ b. map at_place (cond b (concern_of kqueue owner ns m ∷ private_by kqueue owner ns ms) (private_by kqueue owner ns ms))
        ≡ own_moments ns (cond b (m ∷ filter (quiet ns) ms) (filter (quiet ns) ms))) (quiet ns m)
        (λ _. ap₂ (λ x xs. x ∷ xs) (seen-moment m (All-head (IsSeen version views) m ms seen)) rest)
        (λ _. rest)

  -- its rows from its private list alone
  pub alone-all : (version : ℕ) (views : ℕ → Views) (ms : List Moment) → All (IsSeen version views) ms → AreBornFirst (forks_at ms)
      → rows_alone version kqueue owner views (empty_kqueue {h = h}) (private_list kqueue owner ms) ≡ rows_over kqueue owner (empty_kqueue {h = h}) ms
  alone-all version views ms seen born =
      let ns = names_in (forks_at ms) (references kqueue owner ms) in
      ap (rows_over kqueue owner (empty_kqueue {h = h})) (private-moments version views ns ms seen)
      ∙ rows-own ns (empty_kqueue {h = h}) ms (all-among (forks_at ms) ms)
      (each-closed ns ms (names-closed h (forks_at ms) (references kqueue owner ms) born)) (All-nil (HasSubject {h = h} (IsReferred ns)), (All-nil (HasSubject {h = h} (λ f i t. IsNumbered ns f i)), All-nil (λ key. IsNumbered ns key.filter key.ident)))
