-- One moment more: what each kqueue is concerned by goes on to be its calls and what its changes name.
use Rattle.std.proofs.Common.{◌≡◌, ◌≢◌, ◌∙◌, ◌<◌, ◌||◌, ◌==◌, ℕ, zero, suc, true, false, cond, length, get_or, List, [], ◌∷◌, ◌++◌, map, Option, None, Some, refl, sym, ap, ap₂, subst, arith}
use Rattle.std.specs.Prelude.{All}
use Rattle.std.specs.List.{flat_map}
use Rattle.std.proofs.lemmas.Bool.{eqb-true, true≢false}
use Rattle.std.proofs.lemmas.Bool.Decides.{nat_tests}
use Rattle.std.proofs.lemmas.List.{append-nil}
use Rattle.std.proofs.lemmas.List.Elements.{All-head, All-tail}
use Rattle.std.proofs.lemmas.List.Folds.{flat_map-map, list_any-append}
use Rattle.std.proofs.lemmas.Grind.{flat_map-append}
use Rattle.kq_model.specs.declared.change.Change.{Change}
use Rattle.kq_model.specs.Births.{Birth}
use Rattle.kq_model.specs.Moment.{Moment}
use Rattle.kq_model.specs.References.{Reference, reference_of, references, references_in}
use Rattle.kq_model.specs.Views.{Views}
use Rattle.kq_model.specs.World.{Call}
use Rattle.kq_model.proofs.HistoryPushed.{references-append}
use Rattle.kq_model.proofs.KnoteLaws.{by_test}
use Rattle.kq_projection.specs.declared.history.item.Source.{Source}
use Rattle.kq_projection.specs.declared.history.item.Source.TheVariants.{Kqueue}
use Rattle.kq_projection.specs.declared.history.kqueues.Concerned.{Concerned}
use Rattle.kq_projection.specs.Items.{has_source, source_eq}
use Rattle.kq_projection.specs.Kqueues.{IsNew}
use Rattle.kq_projection.specs.Messages.{AreNamedBy, CallsBelow, IsNamedBy}
use Rattle.kq_projection.specs.Sources.{Grows, call_sources, named_sources, reference_sources}

-- ---- sources

-- of some references and then others
named-more : (k owner : ℕ) (rs extra : List Reference) (x : Source)
    → has_source (named_sources k owner (rs ++ extra)) x
    ≡ (has_source (named_sources k owner rs) x || has_source (flat_map (reference_sources owner) extra) x)
named-more k owner rs extra x =
    ap (λ ys. has_source (Kqueue k ∷ ys) x) (flat_map-append (reference_sources owner) rs extra)
    ∙ list_any-append (source_eq x) (Kqueue k ∷ flat_map (reference_sources owner) rs) (flat_map (reference_sources owner) extra)

-- of the changes of a call
called-sources : (views : Views) (owner : ℕ) (changes : List Change)
    → flat_map (reference_sources owner) (map (reference_of views owner) changes) ≡ call_sources views owner changes
called-sources views owner changes = flat_map-map (reference_sources owner) (reference_of views owner) changes

module _ (ms : List Moment) (m : Moment) where
  references-more : (k owner : ℕ) → references k owner (ms ++ m ∷ []) ≡ references k owner ms ++ references_in k owner m.views m.call
  unfolding references
  references-more k owner =
      references-append k owner ms (m ∷ []) ∙ ap (λ rs. references k owner ms ++ rs) (append-nil (references_in k owner m.views m.call))

  -- ---- one kqueue

  -- which the moment does not call
  quiet : (b : Birth) (c : Concerned) → references_in b.place b.owner m.views m.call ≡ []
      → IsNamedBy ms b c → IsNamedBy (ms ++ m ∷ []) b c
  quiet b c none is =
      let same : references b.place b.owner (ms ++ m ∷ []) ≡ references b.place b.owner ms =
      references-more b.place b.owner ∙ ap (λ rs. references b.place b.owner ms ++ rs) none ∙ append-nil (references b.place b.owner ms) in
      record {
        owner_is = is.owner_is;
        sources = λ x. is.sources x ∙ ap (λ rs. has_source (named_sources b.place b.owner rs) x) (sym same);
      }

  -- which it calls
  called : (b : Birth) (c d : Concerned) (call : Call) → m.call ≡ Some call → (call.kqueue == b.place) ≡ true → d.owner ≡ c.owner
      → Grows (call_sources m.views c.owner call.changes) c.sources d.sources → IsNamedBy ms b c → IsNamedBy (ms ++ m ∷ []) b d
  unfolding references_in
  called b c d call is same owner grows named =
      let extra : references_in b.place b.owner m.views m.call ≡ map (reference_of m.views b.owner) call.changes =
      ap (references_in b.place b.owner m.views) is ∙ ap (λ t. cond t (map (reference_of m.views b.owner) call.changes) []) same in
      record {
        owner_is = owner ∙ named.owner_is;
        sources = λ x.
            grows x
            ∙ ap₂ (λ p q. p || q) (named.sources x)
            (ap (λ o. has_source (call_sources m.views o call.changes) x) named.owner_is
            ∙ ap (λ ys. has_source ys x) (sym (called-sources m.views b.owner call.changes)))
            ∙ sym (named-more b.place b.owner (references b.place b.owner ms) (map (reference_of m.views b.owner) call.changes) x)
            ∙ ap (λ rs. has_source (named_sources b.place b.owner rs) x)
            (ap (λ rs. references b.place b.owner ms ++ rs) (sym extra) ∙ sym (references-more b.place b.owner));
      }

  -- ---- all of them

  pub all-quiet : m.call ≡ None → (bs : List Birth) (cs : List Concerned) → AreNamedBy ms bs cs → AreNamedBy (ms ++ m ∷ []) bs cs
  unfolding references_in
  all-quiet none [] [] are = tt
  all-quiet none [] (c ∷ cs) are = absurd are
  all-quiet none (b ∷ bs) [] are = absurd are
  all-quiet none (b ∷ bs) (c ∷ cs) are = (
    quiet b c (ap (references_in b.place b.owner m.views) none) are.0,
    all-quiet none bs cs are.1,
  )

  -- the kqueue that is called comes to more, and the others stay
  pub all-called : (call : Call) → m.call ≡ Some call → (bs : List Birth) (cs ds : List Concerned) → length ds ≡ length cs
      → ((index : ℕ) (d : Concerned) → (get_or ds index d).owner ≡ (get_or cs index d).owner)
      → ((index : ℕ) (d : Concerned) → index < length bs → get_or (map (λ (b : Birth). b.place) bs) index 0 ≡ call.kqueue
      → Grows (call_sources m.views (get_or cs index d).owner call.changes) (get_or cs index d).sources (get_or ds index d).sources)
      → ((index : ℕ) (d : Concerned) → get_or (map (λ (b : Birth). b.place) bs) index 0 ≢ call.kqueue → get_or ds index d ≡ get_or cs index d)
      → AreNamedBy ms bs cs → AreNamedBy (ms ++ m ∷ []) bs ds
  unfolding references_in
  all-called call is [] [] [] count owners named others are = tt
  all-called call is [] [] (d ∷ ds) count owners named others are = absurd (omega (arith, count))
  all-called call is [] (c ∷ cs) ds count owners named others are = absurd are
  all-called call is (b ∷ bs) [] ds count owners named others are = absurd are
  all-called call is (b ∷ bs) (c ∷ cs) [] count owners named others are = absurd (omega (arith, count))
  all-called call is (b ∷ bs) (c ∷ cs) (d ∷ ds) count owners named others are = (
    by_test (λ t. (call.kqueue == b.place) ≡ t → IsNamedBy (ms ++ m ∷ []) b d) (call.kqueue == b.place)
        (λ _ same. called b c d call is same (owners 0 c)
        (named 0 c (omega arith) (sym (eqb-true call.kqueue b.place same))) are.0)
        (λ _ apart.
        let other : d ≡ c = others 0 c (λ here. true≢false (sym (itself call.kqueue b.place (sym here)) ∙ apart)) in
        subst (IsNamedBy (ms ++ m ∷ []) b) (sym other)
        (quiet b c (ap (references_in b.place b.owner m.views) is ∙ ap (λ t. cond t (map (reference_of m.views b.owner) call.changes) []) apart) are.0))
        refl,
    all-called call is bs cs ds (omega (arith, count)) (λ index x. owners (suc index) x)
        (λ index x within here. named (suc index) x (omega (arith, within)) here)
        (λ index x away. others (suc index) x away) are.1,
  )
    where
      itself : (a b : ℕ) → a ≡ b → (a == b) ≡ true
      itself a b same = grind (arith, nat_tests)

-- ---- a kqueue that is born

-- which no moment calls
pub uncalled : (place owner : ℕ) (ms : List Moment) → All (CallsBelow place) ms → references place owner ms ≡ []
unfolding references references_in
uncalled place owner [] below = refl
uncalled place owner (m ∷ ms) below =
    ap₂ (λ xs ys. xs ++ ys) (not_this m.call refl) (uncalled place owner ms (All-tail (CallsBelow place) m ms below))
  where
    away : (a b : ℕ) → a < b → (a == b) ≡ false
    away a b less = grind (arith, nat_tests)

    not_this : (call : Option Call) → m.call ≡ call → references_in place owner m.views call ≡ []
    not_this None is = refl
    not_this (Some c) is =
        ap (λ t. cond t (map (reference_of m.views owner) c.changes) []) (away c.kqueue place (All-head (CallsBelow place) m ms below c is))

pub new-named : (ms : List Moment) (b : Birth) (c : Concerned) → IsNew b.place b.owner c → All (CallsBelow b.place) ms → IsNamedBy ms b c
new-named ms b c new below = record {
  owner_is = new.owner_is;
  sources = λ x.
      ap (λ ys. has_source ys x) new.sources
      ∙ ap (λ rs. has_source (named_sources b.place b.owner rs) x) (sym (uncalled b.place b.owner ms below));
}

pub one-more : (ms : List Moment) (bs : List Birth) (cs : List Concerned) (b : Birth) (c : Concerned) → AreNamedBy ms bs cs → IsNamedBy ms b c
    → AreNamedBy ms (bs ++ b ∷ []) (cs ++ c ∷ [])
one-more ms [] [] b c are is = (is, tt)
one-more ms [] (d ∷ cs) b c are is = absurd are
one-more ms (a ∷ bs) [] b c are is = absurd are
one-more ms (a ∷ bs) (d ∷ cs) b c are is = (are.0, one-more ms bs cs b c are.1 is)

-- ---- as a private list wants it

pub named-at : (ms : List Moment) (bs : List Birth) (cs : List Concerned) → AreNamedBy ms bs cs → (index : ℕ) (b : Birth) (c : Concerned) → index < length bs
    → IsNamedBy ms (get_or bs index b) (get_or cs index c)
named-at ms [] cs are index b c within = absurd (omega (arith, within))
named-at ms (x ∷ bs) [] are index b c within = absurd are
named-at ms (x ∷ bs) (y ∷ cs) are zero b c within = are.0
named-at ms (x ∷ bs) (y ∷ cs) are (suc index) b c within = named-at ms bs cs are.1 index b c (omega (arith, within))

pub named-length : (ms : List Moment) (bs : List Birth) (cs : List Concerned) → AreNamedBy ms bs cs → length cs ≡ length bs
named-length ms [] [] are = refl
named-length ms [] (c ∷ cs) are = absurd are
named-length ms (b ∷ bs) [] are = absurd are
named-length ms (b ∷ bs) (c ∷ cs) are =
    let rest : length cs ≡ length bs = named-length ms bs cs are.1 in
    omega (arith, rest)
