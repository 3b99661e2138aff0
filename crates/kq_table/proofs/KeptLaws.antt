-- What a table that is kept says: its rows and its queue as contracts see them, of a key that has a row, and of one that
-- has none.
use Rattle.std.proofs.Common.{◌≡◌, ℕ, ◌+◌, ◌-◌, ◌<◌, ◌≤◌, Bool, true, false, not, eqb, List, [], ◌∷◌, map, length, Option, Some, None, MatchOption, is_some, slice_get, refl, sym, ap, ◌∙◌, subst, arith}
use Rattle.std.proofs.lemmas.Bool.{false≢true, eqb-true, eqb-false, or_right, false_from_ne_true}
use Rattle.std.proofs.lemmas.List.{length-map}
use Rattle.std.proofs.lemmas.Option.{none-some, same_Some, slice_get-map}
use Rattle.std.specs.Cmp.{IsEquivalence}
use Rattle.std.specs.HashMap.{HashMap, get as found}
use Rattle.std.specs.Option.{option_map, option_and_then}
use Rattle.slab.specs.Slab.{Slab, get, slab_len}
use Rattle.kq_table.specs.declared.node.Ends.{Ends}
use Rattle.kq_table.specs.declared.node.Links.{Links}
use Rattle.kq_table.specs.declared.node.Node.{Node}
use Rattle.kq_table.specs.declared.node.Thread.TheVariants.{Order, Watch, Queue}
use Rattle.kq_table.specs.Rows.{Tabled, find_row, row_after, with_row, without_row, HaveOwnKeys, waits_in, without_waiting, key_behind, put_in, AreOnce, HaveRows}
use Rattle.kq_table.specs.Threads.{is_in, AreDistinct, AreLinked, head_or, last_or, after_of, before_rows, without_slot, walk, rows_in, links_in, rows_at, rows_along}
use Rattle.kq_table.specs.Kept.{IsIndexed, AreApart, HasNoRow, StandsAt, IsEntered, IsKept}
use Rattle.kq_table.proofs.KeepLaws.{with_row-absent, without_row-absent}
use Rattle.kq_table.proofs.NodeLaws.{linked-row}
use Rattle.kq_table.proofs.RowLaws.{by_test}
use Rattle.kq_table.proofs.QueueLaws.{waits_in-keys, key_behind-keys, without_waiting-absent, put_in-missed, AreOnce-keys}
use Rattle.kq_table.proofs.SeatLaws.{AreFilled, IsAway, parted, length-rows_at, find_row-away, find_row-parted, row_after-parted, row_after-away, HaveOwnKeys-at}
use Rattle.kq_table.proofs.ThreadLaws.{at_split, apart-in, in_right, is_in-here, AreLinked-between, IsThread-at, walk-linked}
use Rattle.kq_table.proofs.WithoutLaws.{length-within, length-without, without-in_from, AreDistinct-filter}

-- slots that are entered are found by their keys, so these differ
pub apart-entered : {K T G S R : Type 0} (same : K → K → Bool) (alike : G → G → Bool) (key_of : T → K) (target_of : T → Option G) (one_key : (a b : K) → same a b ≡ true → a ≡ b)
    (rows : ℕ → Option T) (watch : ℕ → Option Links) (index : HashMap K ℕ S) (targets : HashMap G Ends R) (slots : List ℕ) → IsEntered same alike key_of target_of rows watch index targets slots → AreApart same key_of rows slots
apart-entered same alike key_of target_of one_key rows watch index targets slots is a b r s in_a in_b at_a at_b alike_keys =
    same_Some a b (sym (is.indexed a r in_a at_a) ∙ ap (found same index) (one_key (key_of r) (key_of s) alike_keys) ∙ is.indexed b s in_b at_b)

-- the first row that stands in the slots
pub first-at : {T : Type 0} (rows : ℕ → Option T) (xs : List ℕ) → AreFilled rows xs → slice_get (rows_at rows xs) 0 ≡ option_and_then rows (head_or None xs)
first-at {T} rows [] filled = refl
first-at {T} rows (x ∷ xs) filled =
    let first = filled x (is_in-here x xs) in
    ap (λ (o : Option T). slice_get (before_rows o (rows_at rows xs)) 0) first.1 ∙ sym first.1

module _ {K T G : Type 0} (same : K → K → Bool) (alike : G → G → Bool) (key_of : T → K) (target_of : T → Option G) where
  -- a table that is kept, and what contracts see of it
  pub record IsSeen {S R : Type 0} (nodes : Slab (Node T)) (index : HashMap K ℕ S) (targets : HashMap G Ends R)
      (order queue : Ends) (waiting limit births : ℕ) (v : Tabled K T) : Type 0 where
    pub laws : IsEquivalence same
    pub matches : IsEquivalence alike
    pub one_key : (a b : K) → same a b ≡ true → a ≡ b
    pub kept : IsKept same alike key_of target_of nodes index targets order queue waiting limit births
    pub rows : rows_at (rows_in nodes) kept.slots ≡ v.rows
    pub keys : map key_of (rows_at (rows_in nodes) kept.waits) ≡ v.queue
    pub room : limit - slab_len nodes ≡ v.room

module _ {K T G S R : Type 0} {same : K → K → Bool} {alike : G → G → Bool} {key_of : T → K} {target_of : T → Option G}
    {nodes : Slab (Node T)} {index : HashMap K ℕ S} {targets : HashMap G Ends R} {order queue : Ends} {waiting limit births : ℕ} where
  module _ (k : IsKept same alike key_of target_of nodes index targets order queue waiting limit births) where
    pub indexed : IsIndexed same key_of (rows_in nodes) index
    indexed slot row here = k.entered.indexed slot row (k.whole slot (ap is_some here)) here

    rows_are : rows_along Order nodes (slab_len nodes) order.first ≡ rows_at (rows_in nodes) k.slots
    rows_are =
        let counted = k.room.counted in
        ap (rows_at (rows_in nodes)) (ap (walk (links_in Order nodes) (slab_len nodes)) k.ordered.first ∙ walk-linked (links_in Order nodes) None k.slots (slab_len nodes) k.ordered.linked (omega arith))

    queue_is : rows_along Queue nodes waiting queue.first ≡ rows_at (rows_in nodes) k.waits
    queue_is =
        let counted = k.queued.counted in
        ap (rows_at (rows_in nodes)) (ap (walk (links_in Queue nodes) waiting) k.queued.thread.first ∙ walk-linked (links_in Queue nodes) None k.waits waiting k.queued.thread.linked (omega arith))

  module _ {v : Tabled K T} where
    pub seen : IsEquivalence same → IsEquivalence alike → ((a b : K) → same a b ≡ true → a ≡ b) → (k : IsKept same alike key_of target_of nodes index targets order queue waiting limit births)
        → record { rows = rows_along Order nodes (slab_len nodes) order.first; queue = map key_of (rows_along Queue nodes waiting queue.first); room = limit - slab_len nodes } ≡ v
        → IsSeen same alike key_of target_of nodes index targets order queue waiting limit births v
    seen laws matches one_key k view_is = record {
      laws = laws;
      matches = matches;
      one_key = one_key;
      kept = k;
      rows = sym (rows_are k) ∙ ap (λ (t : Tabled K T). t.rows) view_is;
      keys = sym (ap (map key_of) (queue_is k)) ∙ ap (λ (t : Tabled K T). t.queue) view_is;
      room = ap (λ (t : Tabled K T). t.room) view_is;
    }

    module _ (table : IsSeen same alike key_of target_of nodes index targets order queue waiting limit births v) where
      pub rows-seen : rows_along Order nodes (slab_len nodes) order.first ≡ v.rows
      rows-seen = rows_are table.kept ∙ table.rows

      pub queue-seen : map key_of (rows_along Queue nodes waiting queue.first) ≡ v.queue
      queue-seen = ap (map key_of) (queue_is table.kept) ∙ table.keys

      pub apart : AreApart same key_of (rows_in nodes) table.kept.slots
      apart = apart-entered same alike key_of target_of table.one_key (rows_in nodes) (links_in Watch nodes) index targets table.kept.slots table.kept.entered

      pub filled : AreFilled (rows_in nodes) table.kept.slots
      filled t there = let at = IsThread-at (links_in Order nodes) order table.kept.slots t table.kept.ordered there in linked-row Order (get nodes t) at.0 at.1

      pub waits-filled : AreFilled (rows_in nodes) table.kept.waits
      waits-filled t there = let at = IsThread-at (links_in Queue nodes) queue table.kept.waits t table.kept.queued.thread there in linked-row Queue (get nodes t) at.0 at.1

      pub waits-within : (t : ℕ) → is_in t table.kept.waits ≡ true → is_in t table.kept.slots ≡ true
      waits-within t there = table.kept.whole t (ap is_some (waits-filled t there).1)

      waits-apart : AreApart same key_of (rows_in nodes) table.kept.waits
      waits-apart a b r s in_a in_b = apart a b r s (waits-within a in_a) (waits-within b in_b)

      -- where a slot is out of the queue, more are to come
      pub waits-fewer : (slot : ℕ) → is_in slot table.kept.slots ≡ true → is_in slot table.kept.waits ≡ false → length table.kept.waits + 1 ≤ length table.kept.slots
      waits-fewer slot there out =
          let fewer = length-without slot table.kept.slots table.kept.ordered.distinct there in
          let within = length-within table.kept.waits (without_slot slot table.kept.slots) table.kept.queued.thread.distinct
          (λ t in_waits. without-in_from slot t table.kept.slots (waits-within t in_waits) (apart-in slot t table.kept.waits out in_waits))
          (AreDistinct-filter (λ t. not (eqb t slot)) table.kept.slots table.kept.ordered.distinct) in
          omega arith

      -- ---- what is seen

      pub count : length v.rows ≡ slab_len nodes
      count = ap length (sym table.rows) ∙ length-rows_at (rows_in nodes) table.kept.slots filled ∙ sym table.kept.room.counted

      pub queue-count : length v.queue ≡ waiting
      queue-count =
          ap length (sym table.keys) ∙ length-map (rows_at (rows_in nodes) table.kept.waits) key_of
          ∙ length-rows_at (rows_in nodes) table.kept.waits waits-filled ∙ sym table.kept.queued.counted

      pub fits-one : 0 < v.room → slab_len nodes + 1 ≤ limit
      fits-one some = let room = table.room in omega arith

      pub own_keys : HaveOwnKeys same key_of v.rows
      own_keys = subst (HaveOwnKeys same key_of) table.rows (HaveOwnKeys-at same key_of table.laws (rows_in nodes) table.kept.slots table.kept.ordered.distinct apart)

      pub once : AreOnce same v.queue
      once =
          subst (AreOnce same) table.keys
          (AreOnce-keys same key_of _ (HaveOwnKeys-at same key_of table.laws (rows_in nodes) table.kept.waits table.kept.queued.thread.distinct waits-apart))

      pub first-row : option_and_then (rows_in nodes) order.first ≡ slice_get v.rows 0
      first-row =
          ap (option_and_then (rows_in nodes)) table.kept.ordered.first ∙ sym (first-at (rows_in nodes) table.kept.slots filled)
          ∙ ap (λ (rows : List T). slice_get rows 0) table.rows

      pub first-waiting : option_map key_of (option_and_then (rows_in nodes) queue.first) ≡ slice_get v.queue 0
      first-waiting =
          ap (λ o. option_map key_of (option_and_then (rows_in nodes) o)) table.kept.queued.thread.first
          ∙ ap (option_map key_of) (sym (first-at (rows_in nodes) table.kept.waits waits-filled)) ∙ sym (slice_get-map key_of _ 0)
          ∙ ap (λ (keys : List K). slice_get keys 0) table.keys

      -- ---- a key that has no row

      module _ {key : K} (never : HasNoRow same key_of (rows_in nodes) key) where
        away : (xs : List ℕ) → IsAway same key_of table.laws (rows_in nodes) key xs
        away xs t row there here = false_from_ne_true (same key (key_of row)) (λ is. never t row here is)

        pub missed-row : find_row same key_of key v.rows ≡ None
        missed-row = ap (find_row same key_of key) (sym table.rows) ∙ find_row-away same key_of table.laws (rows_in nodes) key table.kept.slots (away table.kept.slots)

        pub missed-without_row : without_row same key_of key v.rows ≡ v.rows
        missed-without_row = without_row-absent same key_of table.laws key v.rows missed-row

        -- nothing is replaced by a row of the key
        pub missed-with_row : (row : T) → key ≡ key_of row → with_row same key_of row v.rows ≡ v.rows
        missed-with_row row is = with_row-absent same key_of table.laws row v.rows (ap (λ (k : K). find_row same key_of k v.rows) (sym is) ∙ missed-row)

        pub missed-after : row_after same key_of key v.rows ≡ None
        missed-after = row_after-away same key_of table.laws key v.rows missed-row

        not-waiting : find_row same key_of key (rows_at (rows_in nodes) table.kept.waits) ≡ None
        not-waiting = find_row-away same key_of table.laws (rows_in nodes) key table.kept.waits (away table.kept.waits)

        pub missed-waits : waits_in same key v.queue ≡ false
        missed-waits = ap (waits_in same key) (sym table.keys) ∙ waits_in-keys same key_of key _ ∙ ap is_some not-waiting

        pub missed-without : without_waiting same key v.queue ≡ v.queue
        missed-without = without_waiting-absent same table.laws key v.queue missed-waits

        pub missed-behind : key_behind same key v.queue ≡ None
        missed-behind =
            ap (key_behind same key) (sym table.keys) ∙ key_behind-keys same key_of key _
            ∙ ap (option_map key_of) (row_after-away same key_of table.laws key _ not-waiting)

        pub missed-put_in : put_in same key_of key v.rows v.queue ≡ v.queue
        missed-put_in = put_in-missed same key_of key v.rows v.queue missed-row

      -- ---- a key that has one

      module _ {key : K} {slot : ℕ} (at : StandsAt same key_of (rows_in nodes) key slot) where
        pub there : is_in slot table.kept.slots ≡ true
        there = table.kept.whole slot (ap is_some at.here)

        -- of each row the test for the key is that for the slot
        pub test : (t : ℕ) (r : T) → rows_in nodes t ≡ Some r → same key (key_of r) ≡ eqb t slot
        test t r here =
            by_test (λ b. eqb t slot ≡ b → same key (key_of r) ≡ b) (eqb t slot)
            (λ _ e. ap (λ (x : T). same key (key_of x)) (same_Some r at.row (sym here ∙ ap (rows_in nodes) (eqb-true t slot e) ∙ at.here)) ∙ at.is)
            (λ _ e. false_from_ne_true (same key (key_of r)) (λ alike_keys.
            let alike_rows = table.laws.congr (key_of at.row) key (key_of r) (table.laws.symm (key_of at.row) key ∙ at.is) ∙ alike_keys in
            eqb-false t slot e (sym (apart slot t at.row r there (table.kept.whole t (ap is_some here)) at.here here alike_rows)))) refl

        found-in : (l : List ℕ) → is_in slot l ≡ true → AreDistinct l → AreApart same key_of (rows_in nodes) l → find_row same key_of key (rows_at (rows_in nodes) l) ≡ Some at.row
        found-in l in_l =
            at_split (λ l. AreDistinct l → AreApart same key_of (rows_in nodes) l → find_row same key_of key (rows_at (rows_in nodes) l) ≡ Some at.row) slot l in_l
            (λ xs ys d a. let p = parted same key_of table.laws (rows_in nodes) key slot at.row xs ys d a at.here at.is in
            ap (find_row same key_of key) p.all_is ∙ find_row-parted same key_of table.laws key at.row (rows_at (rows_in nodes) xs) (rows_at (rows_in nodes) ys) p.none_before at.is)

        pub stands-row : find_row same key_of key v.rows ≡ Some at.row
        stands-row = ap (find_row same key_of key) (sym table.rows) ∙ found-in table.kept.slots there table.kept.ordered.distinct apart

        -- the row behind that of a slot in a thread stands where the slot is linked
        after-in : (thread : ℕ → Option Links) (l : List ℕ) (links : Links) → AreFilled (rows_in nodes) l → AreLinked thread None l None → AreDistinct l → AreApart same key_of (rows_in nodes) l → is_in slot l ≡ true → thread slot ≡ Some links
            → option_and_then (rows_in nodes) links.after ≡ row_after same key_of key (rows_at (rows_in nodes) l)
        after-in thread l links full linked distinct ap_l in_l linked_at =
            at_split (λ l. AreFilled (rows_in nodes) l → AreLinked thread None l None → AreDistinct l → AreApart same key_of (rows_in nodes) l → option_and_then (rows_in nodes) links.after ≡ row_after same key_of key (rows_at (rows_in nodes) l)) slot l in_l
            (λ xs ys full lk d a. let p = parted same key_of table.laws (rows_in nodes) key slot at.row xs ys d a at.here at.is in
            let between = same_Some links (record { before = last_or None xs; after = head_or None ys }) (sym linked_at ∙ AreLinked-between thread xs slot ys lk) in
            ap (λ (l : Links). option_and_then (rows_in nodes) l.after) between
            ∙ sym (ap (row_after same key_of key) p.all_is ∙ row_after-parted same key_of table.laws key at.row (rows_at (rows_in nodes) xs) (rows_at (rows_in nodes) ys) p.none_before at.is
            ∙ first-at (rows_in nodes) ys (λ t in_ys. full t (in_right t xs (slot ∷ ys) (or_right (eqb t slot) (is_in t ys) in_ys)))))
            full linked distinct ap_l

        pub stands-after : (o : Option ℕ) → o ≡ after_of (links_in Order nodes slot) → option_and_then (rows_in nodes) o ≡ row_after same key_of key v.rows
        stands-after o is =
            let l = IsThread-at (links_in Order nodes) order table.kept.slots slot table.kept.ordered there in
            ap (option_and_then (rows_in nodes)) (is ∙ ap after_of l.1)
            ∙ after-in (links_in Order nodes) table.kept.slots l.0 filled table.kept.ordered.linked table.kept.ordered.distinct apart there l.1 ∙ ap (row_after same key_of key) table.rows

        -- ---- in the queue

        waiting-there : is_in slot table.kept.waits ≡ is_some (links_in Queue nodes slot)
        waiting-there = linked (links_in Queue nodes slot) refl
          where
            linked : (o : Option Links) → links_in Queue nodes slot ≡ o → is_in slot table.kept.waits ≡ is_some o
            linked None e = false_from_ne_true (is_in slot table.kept.waits) (λ in_waits. let l = IsThread-at (links_in Queue nodes) queue table.kept.waits slot table.kept.queued.thread in_waits in none-some l.0 (sym e ∙ l.1))
            linked (Some l) e = table.kept.queued.whole slot (ap is_some e)

        pub stands-out : is_some (links_in Queue nodes slot) ≡ false → is_in slot table.kept.waits ≡ false
        stands-out out = waiting-there ∙ out

        waiting-none : is_in slot table.kept.waits ≡ false → find_row same key_of key (rows_at (rows_in nodes) table.kept.waits) ≡ None
        waiting-none out = find_row-away same key_of table.laws (rows_in nodes) key table.kept.waits (λ t r in_waits here. test t r here ∙ apart-in slot t table.kept.waits out in_waits)

        pub stands-waits : is_some (links_in Queue nodes slot) ≡ waits_in same key v.queue
        stands-waits =
            sym (waits_in-keys same key_of key (rows_at (rows_in nodes) table.kept.waits)
            ∙ by_test (λ b. is_in slot table.kept.waits ≡ b → is_some (find_row same key_of key (rows_at (rows_in nodes) table.kept.waits)) ≡ b) (is_in slot table.kept.waits)
            (λ _ e. ap is_some (found-in table.kept.waits e table.kept.queued.thread.distinct waits-apart)) (λ _ e. ap is_some (waiting-none e)) refl
            ∙ waiting-there) ∙ ap (waits_in same key) table.keys

        pub stands-behind : (o : Option ℕ) → o ≡ after_of (links_in Queue nodes slot) → option_map key_of (option_and_then (rows_in nodes) o) ≡ key_behind same key v.queue
        stands-behind o is =
            ap (λ o. option_map key_of (option_and_then (rows_in nodes) o)) is ∙ ap (option_map key_of) (behind (links_in Queue nodes slot) refl)
            ∙ sym (key_behind-keys same key_of key _) ∙ ap (key_behind same key) table.keys
          where
            behind : (o : Option Links) → links_in Queue nodes slot ≡ o → option_and_then (rows_in nodes) (after_of (links_in Queue nodes slot)) ≡ row_after same key_of key (rows_at (rows_in nodes) table.kept.waits)
            behind None e = ap (λ l. option_and_then (rows_in nodes) (after_of l)) e ∙ sym (row_after-away same key_of table.laws key _ (waiting-none (waiting-there ∙ ap is_some e)))
            behind (Some l) e =
                ap (λ l. option_and_then (rows_in nodes) (after_of l)) e
                ∙ after-in (links_in Queue nodes) table.kept.waits l waits-filled table.kept.queued.thread.linked table.kept.queued.thread.distinct waits-apart (table.kept.queued.whole slot (ap is_some e)) e

      -- the slot that a search named has the row that is found
      pub sought-row : (key : K) (o : Option ℕ) → MatchOption o (HasNoRow same key_of (rows_in nodes) key) (StandsAt same key_of (rows_in nodes) key)
          → option_and_then (rows_in nodes) o ≡ find_row same key_of key v.rows
      sought-row key None never = sym (missed-row never)
      sought-row key (Some slot) at = at.here ∙ sym (stands-row at)

      -- each key in the queue has a row
      pub have_rows : HaveRows same key_of v.queue v.rows
      have_rows key waits =
          by_test (λ b. is_some (find_row same key_of key v.rows) ≡ b → b ≡ true) (is_some (find_row same key_of key v.rows))
          (λ _ _. refl)
          (λ _ none. absurd (false≢true (sym (missed-waits {key = key} (λ slot row here is. false≢true (sym none ∙ ap is_some (stands-row (record { row = row; here = here; is = is }))))) ∙ waits))) refl
