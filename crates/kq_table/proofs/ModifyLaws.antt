-- A table when a row is put in the place of the one of its key.
use Rattle.std.proofs.Common.{◌≡◌, ℕ, ◌-◌, ◌≤◌, Bool, true, false, cond, eqb, List, [], ◌∷◌, map, length, Option, Some, None, is_some, refl, sym, ap, ◌∙◌, subst, le_refl, arith}
use Rattle.std.proofs.lemmas.Bool.{false≢true, eqb-true, or_right}
use Rattle.std.proofs.lemmas.Option.{same_Some}
use Rattle.std.specs.Cmp.{IsEquivalence}
use Rattle.std.specs.HashMap.{HashMap, get as found}
use Rattle.std.specs.Option.{option_map, option_eq, option_and_then}
use Rattle.slab.specs.Slab.{Slab, slab_len}
use Rattle.kq_table.specs.declared.node.Ends.{Ends}
use Rattle.kq_table.specs.declared.node.Links.{Links}
use Rattle.kq_table.specs.declared.node.Node.{Node}
use Rattle.kq_table.specs.declared.node.Thread.{Thread}
use Rattle.kq_table.specs.declared.node.Thread.TheVariants.{Order, Watch, Queue}
use Rattle.kq_table.specs.Links.{is_target}
use Rattle.kq_table.specs.Rows.{Tabled, with_row}
use Rattle.kq_table.specs.Threads.{is_in, head_or, AreDistinct, AreLinked, IsThread, IsQueue, written, before_rows, rows_in, births_in, links_in, rows_at, SameBut}
use Rattle.kq_table.specs.Kept.{names_room, ends_of, watches, watching, AreBorn, AreApart, IsEntered, StandsAt}
use Rattle.kq_table.proofs.RowLaws.{by_test}
use Rattle.kq_table.proofs.KeptLaws.{IsSeen, apart, there, test}
use Rattle.kq_table.proofs.MoveLaws.{read-here, read-other}
use Rattle.kq_table.proofs.NodeLaws.{SameBut-refl}
use Rattle.kq_table.proofs.ThreadLaws.{is_in-here}
use Rattle.kq_table.proofs.WithoutLaws.{filter-same}

abbrev with_key : {K : Type 0} → Option K → List K → List K
with_key None keys = keys
with_key (Some key) keys = key ∷ keys

module _ {T : Type 0} where
  key-before : {K : Type 0} (key_of : T → K) (o : Option T) (rows : List T) → map key_of (before_rows o rows) ≡ with_key (option_map key_of o) (map key_of rows)
  key-before key_of None rows = refl
  key-before key_of (Some row) rows = refl

  map-before : (change : T → T) (o : Option T) (rows : List T) → before_rows (option_map change o) (map change rows) ≡ map change (before_rows o rows)
  map-before change None rows = refl
  map-before change (Some row) rows = refl

  -- rows that are changed where they stand
  pub rows_at-map : (f g : ℕ → Option T) (change : T → T) (xs : List ℕ) → ((t : ℕ) → is_in t xs ≡ true → g t ≡ option_map change (f t)) → rows_at g xs ≡ map change (rows_at f xs)
  rows_at-map f g change [] changed = refl
  rows_at-map f g change (x ∷ xs) changed =
      ap (λ o. before_rows o (rows_at g xs)) (changed x (is_in-here x xs))
      ∙ ap (before_rows (option_map change (f x))) (rows_at-map f g change xs (λ t there. changed t (or_right (eqb t x) (is_in t xs) there)))
      ∙ map-before change (f x) (rows_at f xs)

  -- rows of the same keys
  pub keys_at-same : {K : Type 0} (key_of : T → K) (f g : ℕ → Option T) (xs : List ℕ) → ((t : ℕ) → is_in t xs ≡ true → option_map key_of (g t) ≡ option_map key_of (f t)) → map key_of (rows_at g xs) ≡ map key_of (rows_at f xs)
  keys_at-same {K} key_of f g [] same = refl
  keys_at-same {K} key_of f g (x ∷ xs) same =
      key-before key_of (g x) (rows_at g xs) ∙ ap (λ o. with_key o (map key_of (rows_at g xs))) (same x (is_in-here x xs))
      ∙ ap (with_key (option_map key_of (f x))) (keys_at-same key_of f g xs (λ t there. same t (or_right (eqb t x) (is_in t xs) there)))
      ∙ sym (key-before key_of (f x) (rows_at f xs))

-- targets that are equal are the same to every test
targets-agree : {G : Type 0} (alike : G → G → Bool) (matches : IsEquivalence alike) (a b : Option G) (t : G) → option_eq alike a b ≡ true → is_target alike t a ≡ is_target alike t b
targets-agree alike matches None None t is = refl
targets-agree alike matches (Some x) (Some y) t is = matches.symm t x ∙ matches.congr x y t is ∙ matches.symm y t
targets-agree alike matches None (Some y) t is = absurd (false≢true is)
targets-agree alike matches (Some x) None t is = absurd (false≢true is)

module _ {K T G S R : Type 0} {same : K → K → Bool} {alike : G → G → Bool} {key_of : T → K} {target_of : T → Option G}
    {nodes : Slab (Node T)} {index : HashMap K ℕ S} {targets : HashMap G Ends R} {order queue : Ends} {waiting limit births : ℕ} {v : Tabled K T}
    (table : IsSeen same alike key_of target_of nodes index targets order queue waiting limit births v)
    (new : T) {key : K} (key_new : key ≡ key_of new) {slot : ℕ} (at : StandsAt same key_of (rows_in nodes) key slot)
    (set : Slab (Node T)) (set_is : rows_in set ≡ written slot (Some new) (rows_in nodes)) (set_births : births_in set ≡ births_in nodes)
    (set_links : (thread : Thread) → links_in thread set ≡ links_in thread nodes) (set_len : slab_len set ≡ slab_len nodes) (set_capacity : set.capacity ≡ nodes.capacity) where
  is_new : same (key_of new) (key_of at.row) ≡ true
  is_new = ap (λ k. same k (key_of at.row)) (sym key_new) ∙ at.is

  key_is : key_of new ≡ key_of at.row
  key_is = table.one_key (key_of new) (key_of at.row) is_new

  set-here : rows_in set slot ≡ Some new
  set-here = ap (λ (f : ℕ → Option T). f slot) set_is ∙ read-here slot (Some new) (rows_in nodes)

  set-other : (t : ℕ) → eqb t slot ≡ false → rows_in set t ≡ rows_in nodes t
  set-other t other = ap (λ (f : ℕ → Option T). f t) set_is ∙ read-other slot t (Some new) (rows_in nodes) other

  -- what holds of the new row at its slot, and of the others as they were, holds of all
  at_each : (P : ℕ → Option T → Option T → Type 0) → P slot (Some at.row) (Some new) → ((t : ℕ) → P t (rows_in nodes t) (rows_in nodes t)) → (t : ℕ) → P t (rows_in nodes t) (rows_in set t)
  at_each P at_slot others t =
      by_test (λ b. eqb t slot ≡ b → P t (rows_in nodes t) (rows_in set t)) (eqb t slot)
      (λ _ e. subst (λ s. P s (rows_in nodes s) (rows_in set s)) (sym (eqb-true t slot e))
      (subst (λ o. P slot o (rows_in set slot)) (sym at.here) (subst (λ o. P slot (Some at.row) o) (sym set-here) at_slot)))
      (λ _ e. subst (λ o. P t (rows_in nodes t) o) (sym (set-other t e)) (others t)) refl

  rows-set : rows_at (rows_in set) table.kept.slots ≡ with_row same key_of new (rows_at (rows_in nodes) table.kept.slots)
  rows-set =
      rows_at-map (rows_in nodes) (rows_in set) (λ r. cond (same (key_of new) (key_of r)) new r) table.kept.slots
      (λ t _. by_test (λ b. eqb t slot ≡ b → rows_in set t ≡ option_map (λ r. cond (same (key_of new) (key_of r)) new r) (rows_in nodes t)) (eqb t slot)
      (λ _ e. ap (rows_in set) (eqb-true t slot e) ∙ set-here
      ∙ sym (ap (λ s. option_map (λ r. cond (same (key_of new) (key_of r)) new r) (rows_in nodes s)) (eqb-true t slot e)
      ∙ ap (option_map (λ r. cond (same (key_of new) (key_of r)) new r)) at.here ∙ ap (λ b. Some (cond b new at.row)) is_new))
      (λ _ e. set-other t e ∙ sym (stays t e (rows_in nodes t) refl))
      refl)
    where
      stays : (t : ℕ) → eqb t slot ≡ false → (o : Option T) → rows_in nodes t ≡ o → option_map (λ r. cond (same (key_of new) (key_of r)) new r) o ≡ o
      stays t e None was_at = refl
      stays t e (Some r) was_at =
          ap (λ b. Some (cond b new r)) (ap (λ k. same k (key_of r)) (sym key_new) ∙ test table at t r was_at ∙ e)

  queue-set : map key_of (rows_at (rows_in set) table.kept.waits) ≡ map key_of (rows_at (rows_in nodes) table.kept.waits)
  queue-set =
      keys_at-same key_of (rows_in nodes) (rows_in set) table.kept.waits
      (λ t _. at_each (λ _ before after. option_map key_of after ≡ option_map key_of before) (ap Some key_is) (λ _. refl) t)

  whole : (t : ℕ) → is_some (rows_in set t) ≡ true → is_in t table.kept.slots ≡ true
  whole = at_each (λ t _ after. is_some after ≡ true → is_in t table.kept.slots ≡ true) (λ _. there table at) (λ t some. table.kept.whole t some)

  apart-set : AreApart same key_of (rows_in set) table.kept.slots
  apart-set a b r s in_a in_b at_a at_b =
      let before_a = was a r at_a in
      let before_b = was b s at_b in
      λ both. apart table a b before_a.0 before_b.0 in_a in_b before_a.1 before_b.1
      (ap (λ key. same key (key_of before_b.0)) (sym before_a.2) ∙ ap (same (key_of r)) (sym before_b.2) ∙ both)
    where
      -- in each slot stood a row of the same key
      was : (t : ℕ) (r : T) → rows_in set t ≡ Some r → (before : T) × (rows_in nodes t ≡ Some before) × (key_of r ≡ key_of before)
      was t r = at_each (λ t before after. after ≡ Some r → (x : T) × (before ≡ Some x) × (key_of r ≡ key_of x)) (λ was_at. (at.row, refl, ap key_of (sym (same_Some new r was_at)) ∙ key_is)) (λ t was_at. (r, was_at, refl)) t

  indexed-set : (t : ℕ) (r : T) → is_in t table.kept.slots ≡ true → rows_in set t ≡ Some r → found same index (key_of r) ≡ Some t
  indexed-set t r in_slots =
      at_each (λ t _ after. is_in t table.kept.slots ≡ true → after ≡ Some r → found same index (key_of r) ≡ Some t)
      (λ inside was_at. ap (found same index) (ap key_of (sym (same_Some new r was_at)) ∙ key_is) ∙ table.kept.entered.indexed slot at.row inside at.here)
      (λ t inside was_at. table.kept.entered.indexed t r inside was_at) t in_slots

  -- it watches what the one before it did
  entered-kept : ((g : G) → is_target alike g (target_of new) ≡ is_target alike g (target_of at.row)) → IsEntered same alike key_of target_of (rows_in set) (links_in Watch set) index targets table.kept.slots
  entered-kept agree = record {
    indexed = indexed-set;
    watched = λ g.
        subst (λ l. IsThread (links_in Watch set) (ends_of (found alike targets g)) l)
        (sym (filter-same (λ s. watches alike target_of g (rows_in set s)) (λ s. watches alike target_of g (rows_in nodes s)) table.kept.slots
        (λ t _. at_each (λ _ before after. watches alike target_of g after ≡ watches alike target_of g before) (agree g) (λ _. refl) t)))
        (subst (λ f. IsThread f (ends_of (found alike targets g)) (watching alike target_of g (rows_in nodes) table.kept.slots)) (sym (set_links Watch)) (table.kept.entered.watched g));
  }

  -- the table after it, whatever was linked anew by target
  modified : {S' R' : Type 0} (more : Slab (Node T)) (noted : HashMap K ℕ S') (left : HashMap G Ends R') → SameBut Watch set more
      → names_room index ≤ names_room noted → names_room targets ≤ names_room left
      → IsEntered same alike key_of target_of (rows_in set) (links_in Watch more) noted left table.kept.slots
      → IsSeen same alike key_of target_of more noted left order queue waiting limit births (record v { rows = with_row same key_of new v.rows })
  modified more noted left but keys_room targets_room entered =
      let slots = table.kept.slots in
      let len = but.len in
      let capacity = but.capacity in
      let room = table.kept.room in
      record {
        laws = table.laws;
        matches = table.matches;
        one_key = table.one_key;
        kept = record {
          slots = slots;
          waits = table.kept.waits;
          ordered = subst (λ f. IsThread f order slots) (sym (but.links Order refl ∙ set_links Order)) table.kept.ordered;
          whole = λ t some. whole t (ap (λ (f : ℕ → Option T). is_some (f t)) (sym but.rows) ∙ some);
          entered = subst (λ (f : ℕ → Option T). IsEntered same alike key_of target_of f (links_in Watch more) noted left slots) (sym but.rows) entered;
          queued = subst (λ f. IsQueue f queue table.kept.waits waiting) (sym (but.links Queue refl ∙ set_links Queue)) table.kept.queued;
          born = subst (λ f. AreBorn f 0 births slots) (sym (but.births ∙ set_births)) table.kept.born;
          room = record {
            counted = omega arith;
            within = omega arith;
            nodes_fit = omega arith;
            keys_fit = omega arith;
            targets_fit = omega arith;
          };
        };
        rows = ap (λ (f : ℕ → Option T). rows_at f slots) but.rows ∙ rows-set ∙ ap (with_row same key_of new) table.rows;
        keys = ap (λ (f : ℕ → Option T). map key_of (rows_at f table.kept.waits)) but.rows ∙ queue-set ∙ table.keys;
        room = ap (λ n. limit - n) (but.len ∙ set_len) ∙ table.room;
      }

  pub modified-anew : {S' R' : Type 0} (more : Slab (Node T)) (noted : HashMap K ℕ S') (left : HashMap G Ends R') → SameBut Watch set more
      → names_room index ≤ names_room noted → names_room targets ≤ names_room left
      → ((slots : List ℕ) → AreLinked (links_in Order set) None slots None → AreDistinct slots → order.first ≡ head_or None slots → slab_len set ≡ length slots
      → AreApart same key_of (rows_in set) slots → IsEntered same alike key_of target_of (rows_in set) (links_in Watch more) noted left slots)
      → IsSeen same alike key_of target_of more noted left order queue waiting limit births (record v { rows = with_row same key_of new v.rows })
  modified-anew more noted left but keys_room targets_room enter =
      let slots = table.kept.slots in
      modified more noted left but keys_room targets_room
      (enter slots (subst (λ (f : ℕ → Option Links). AreLinked f None slots None) (sym (set_links Order)) table.kept.ordered.linked)
      table.kept.ordered.distinct table.kept.ordered.first (set_len ∙ table.kept.room.counted) apart-set)

  -- where it watches what the one before it did, nothing is linked anew
  pub modified-alike : (old : Option G) → old ≡ option_and_then target_of (rows_in nodes slot) → option_eq alike old (target_of new) ≡ true
      → IsSeen same alike key_of target_of set index targets order queue waiting limit births (record v { rows = with_row same key_of new v.rows })
  modified-alike old old_is is =
      modified set index targets (SameBut-refl Watch set) (le_refl _) (le_refl _)
      (entered-kept (λ t. sym (targets-agree alike table.matches (target_of at.row) (target_of new) t
      (ap (λ o. option_eq alike o (target_of new)) (sym (old_is ∙ ap (option_and_then target_of) at.here)) ∙ is))))
