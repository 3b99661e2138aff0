-- A table when its queue changes, and when a row is taken out.
use Rattle.std.proofs.Common.{◌≡◌, ℕ, ◌+◌, ◌-◌, ◌≤◌, Bool, true, false, cond, not, eqb, List, [], ◌∷◌, ◌++◌, map, Option, Some, None, is_some, refl, sym, ap, ◌∙◌, subst, arith}
use Rattle.std.proofs.lemmas.Bool.{false≢true}
use Rattle.std.proofs.lemmas.List.{map-append}
use Rattle.std.specs.HashMap.{HashMap}
use Rattle.slab.specs.Slab.{Slab, get, slab_len}
use Rattle.kq_table.specs.declared.node.Ends.{Ends}
use Rattle.kq_table.specs.declared.node.Links.{Links}
use Rattle.kq_table.specs.declared.node.Node.{Node}
use Rattle.kq_table.specs.declared.node.Thread.{Thread}
use Rattle.kq_table.specs.declared.node.Thread.TheVariants.{Order, Watch, Queue}
use Rattle.kq_table.specs.Rows.{Tabled, without_row, without_waiting, with_first, put_in}
use Rattle.kq_table.specs.Threads.{is_in, AreDistinct, without_slot, IsThread, IsQueue, written, passed_over, ends_past, row_of, birth_of, links_of, rows_in, births_in, links_in, before_rows, rows_at, SameBut}
use Rattle.kq_table.specs.Kept.{names_room, AreBorn, AreWatched, IsEntered, StandsAt}
use Rattle.kq_table.proofs.RowLaws.{by_test}
use Rattle.kq_table.proofs.NodeLaws.{reading, through-written}
use Rattle.kq_table.proofs.QueueLaws.{without_waiting-keys, put_in-new, with_first-there}
use Rattle.kq_table.proofs.SeatLaws.{rows_at-same, rows_at-push}
use Rattle.kq_table.proofs.ThreadLaws.{eqb-refl, IsThread-same}
use Rattle.kq_table.proofs.WithoutLaws.{without-in, without-in_from, length-without, IsThread-without, rows_at-filter, AreBorn-filter, AreBorn-same}
use Rattle.kq_table.proofs.KeptLaws.{IsSeen, filled, waits-filled, there, test, stands-row, stands-waits}
use Rattle.kq_table.proofs.EnterLaws.{AreWatched-same}

-- what is written at one slot is not read at another
pub read-other : {V : Type 0} (slot t : ℕ) (o : Option V) (f : ℕ → Option V) → eqb t slot ≡ false → written slot o f t ≡ f t
read-other slot t o f apart = ap (λ b. cond b o (f t)) apart

pub read-here : {V : Type 0} (slot : ℕ) (o : Option V) (f : ℕ → Option V) → written slot o f slot ≡ o
read-here slot o f = ap (λ b. cond b o (f slot)) (eqb-refl slot)

-- what is there where one was taken out is another one
pub left-other : {V : Type 0} (slot t : ℕ) (f : ℕ → Option V) → is_some (written slot None f t) ≡ true → (eqb t slot ≡ false) × (is_some (f t) ≡ true)
left-other slot t f some =
    by_test (λ b. eqb t slot ≡ b → is_some (cond b None (f t)) ≡ true → (eqb t slot ≡ false) × (is_some (f t) ≡ true)) (eqb t slot)
    (λ _ is none. absurd (false≢true none)) (λ _ apart there. (apart, there)) refl some

module _ {K T G S R : Type 0} {same : K → K → Bool} {alike : G → G → Bool} {key_of : T → K} {target_of : T → Option G}
    {nodes : Slab (Node T)} {index : HashMap K ℕ S} {targets : HashMap G Ends R} {order queue : Ends} {waiting limit births : ℕ} {v : Tabled K T}
    (table : IsSeen same alike key_of target_of nodes index targets order queue waiting limit births v) where
  -- ---- another queue

  requeued : (more : Slab (Node T)) (ends : Ends) (waits : List ℕ) (count : ℕ) (keys : List K) → SameBut Queue nodes more → IsQueue (links_in Queue more) ends waits count
      → map key_of (rows_at (rows_in nodes) waits) ≡ keys
      → IsSeen same alike key_of target_of more index targets order ends count limit births (record v { queue = keys })
  requeued more ends waits count keys but is keys_are =
      let len = but.len in
      let capacity = but.capacity in
      let room = table.kept.room in
      let slots = table.kept.slots in
      record {
        laws = table.laws;
        matches = table.matches;
        one_key = table.one_key;
        kept = record {
          slots = slots;
          waits = waits;
          ordered = subst (λ f. IsThread f order slots) (sym (but.links Order refl)) table.kept.ordered;
          whole = λ slot some. table.kept.whole slot (ap (λ (f : ℕ → Option T). is_some (f slot)) (sym but.rows) ∙ some);
          entered = subst (λ f. IsEntered same alike key_of target_of (rows_in more) f index targets slots) (sym (but.links Watch refl))
              (subst (λ f. IsEntered same alike key_of target_of f (links_in Watch nodes) index targets slots) (sym but.rows) table.kept.entered);
          queued = is;
          born = subst (λ f. AreBorn f 0 births slots) (sym but.births) table.kept.born;
          room = record {
            counted = but.len ∙ table.kept.room.counted;
            within = omega arith;
            nodes_fit = omega arith;
            keys_fit = table.kept.room.keys_fit;
            targets_fit = table.kept.room.targets_fit;
          };
        };
        rows = ap (λ (f : ℕ → Option T). rows_at f slots) but.rows ∙ table.rows;
        keys = ap (λ (f : ℕ → Option T). map key_of (rows_at f waits)) but.rows ∙ keys_are;
        room = ap (λ n. limit - n) len ∙ table.room;
      }

  module _ {key : K} {slot : ℕ} (at : StandsAt same key_of (rows_in nodes) key slot) where
    -- for the rows the test for the key is that for the slot
    agree : (l : List ℕ) (t : ℕ) (r : T) → is_in t l ≡ true → rows_in nodes t ≡ Some r → not (same key (key_of r)) ≡ not (eqb t slot)
    agree l t r _ here = ap not (test table at t r here)

    keys-without : map key_of (rows_at (rows_in nodes) (without_slot slot table.kept.waits)) ≡ without_waiting same key v.queue
    keys-without =
        ap (map key_of) (rows_at-filter (rows_in nodes) (λ t. not (eqb t slot)) (λ (r : T). not (same key (key_of r))) table.kept.waits (agree table.kept.waits)
        (waits-filled table))
        ∙ sym (without_waiting-keys same key_of key (rows_at (rows_in nodes) table.kept.waits)) ∙ ap (without_waiting same key) table.keys

    keys-push : map key_of (rows_at (rows_in nodes) (table.kept.waits ++ slot ∷ [])) ≡ v.queue ++ key ∷ []
    keys-push =
        ap (map key_of) (rows_at-push (rows_in nodes) table.kept.waits slot at.row at.here)
        ∙ map-append key_of (rows_at (rows_in nodes) table.kept.waits) (at.row ∷ [])
        ∙ ap (λ (keys : List K). keys ++ key_of at.row ∷ []) table.keys ∙ ap (λ (k : K). v.queue ++ k ∷ []) (sym (table.one_key key (key_of at.row) at.is))

    keys-first : map key_of (rows_at (rows_in nodes) (slot ∷ without_slot slot table.kept.waits)) ≡ key ∷ without_waiting same key v.queue
    keys-first =
        let left = rows_at (rows_in nodes) (without_slot slot table.kept.waits) in
        ap (λ (o : Option T). map key_of (before_rows o left)) at.here
        ∙ ap (λ (k : K). k ∷ map key_of left) (sym (table.one_key key (key_of at.row) at.is))
        ∙ ap (λ (keys : List K). key ∷ keys) keys-without

    -- the key is put in, taken to the front, or taken out
    module _ (more : Slab (Node T)) (ends : Ends) (count : ℕ) (but : SameBut Queue nodes more) where
      pub put-in : is_some (links_in Queue nodes slot) ≡ false → IsQueue (links_in Queue more) ends (table.kept.waits ++ slot ∷ []) count
          → IsSeen same alike key_of target_of more index targets order ends count limit births (record v { queue = put_in same key_of key v.rows v.queue })
      put-in out is =
          requeued more ends (table.kept.waits ++ slot ∷ []) count (put_in same key_of key v.rows v.queue) but is
          (keys-push ∙ sym (put_in-new same key_of key v.rows v.queue at.row (stands-row table at) (sym (stands-waits table at) ∙ out)))

      pub put-first : is_some (links_in Queue nodes slot) ≡ true → IsQueue (links_in Queue more) ends (slot ∷ without_slot slot table.kept.waits) count
          → IsSeen same alike key_of target_of more index targets order ends count limit births (record v { queue = with_first same key v.queue })
      put-first waits is =
          requeued more ends (slot ∷ without_slot slot table.kept.waits) count (with_first same key v.queue) but is
          (keys-first ∙ sym (with_first-there same key v.queue (sym (stands-waits table at) ∙ waits)))

      pub taken-out : IsQueue (links_in Queue more) ends (without_slot slot table.kept.waits) count
          → IsSeen same alike key_of target_of more index targets order ends count limit births (record v { queue = without_waiting same key v.queue })
      taken-out is = requeued more ends (without_slot slot table.kept.waits) count (without_waiting same key v.queue) but is keys-without

    -- out of the queue, it is still among those that watch what it watches
    watched-off : (off : Slab (Node T)) → SameBut Queue nodes off → AreWatched alike target_of (rows_in off) (links_in Watch off) targets table.kept.slots
    watched-off off but =
        subst (λ (f : ℕ → Option Links). AreWatched alike target_of (rows_in off) f targets table.kept.slots) (sym (but.links Watch refl))
        (subst (λ (f : ℕ → Option T). AreWatched alike target_of f (links_in Watch nodes) targets table.kept.slots) (sym but.rows) table.kept.entered.watched)

    -- ---- a row is taken out: from the queue, from its target, from the order, and from its slot

    module _ (off away past bare : Slab (Node T)) (ends ends_past' : Ends) (count : ℕ) (left : HashMap G Ends R)
        (off_same : SameBut Queue nodes off) (off_is : IsQueue (links_in Queue off) ends (without_slot slot table.kept.waits) count)
        (away_same : SameBut Watch off away) (withdraw : (slots : List ℕ) (row : T) → rows_in off slot ≡ Some row → is_in slot slots ≡ true → AreDistinct slots
        → AreWatched alike target_of (rows_in off) (links_in Watch off) targets slots → AreWatched alike target_of (rows_in off) (links_in Watch away) left (without_slot slot slots)) (left_room : names_room targets ≤ names_room left)
        (past_same : SameBut Order away past) (past_is : links_in Order past ≡ passed_over (links_in Order away slot) (links_in Order away)) (past_ends : ends_past' ≡ ends_past (links_in Order away slot) order)
        (bare_is : get bare ≡ written slot None (get past)) (bare_len : slab_len bare + 1 ≡ slab_len past) (bare_capacity : bare.capacity ≡ past.capacity) where
      abbrev slots : List ℕ
      slots = without_slot slot table.kept.slots

      rows-past : rows_in past ≡ rows_in nodes
      rows-past = past_same.rows ∙ away_same.rows ∙ off_same.rows

      rows-bare : rows_in bare ≡ written slot None (rows_in nodes)
      rows-bare =
          ap (reading row_of) bare_is ∙ through-written row_of slot None (get past) None refl ∙ ap (written slot None) rows-past

      births-bare : births_in bare ≡ written slot None (births_in nodes)
      births-bare =
          ap (reading birth_of) bare_is ∙ through-written birth_of slot None (get past) None refl
          ∙ ap (written slot None) (past_same.births ∙ away_same.births ∙ off_same.births)

      links-bare : (thread : Thread) → links_in thread bare ≡ written slot None (links_in thread past)
      links-bare thread =
          ap (reading (links_of thread)) bare_is ∙ through-written (links_of thread) slot None (get past) None refl

      order-away : links_in Order away ≡ links_in Order nodes
      order-away = away_same.links Order refl ∙ off_same.links Order refl

      -- of the slots that are left nothing changes
      rows-left : (t : ℕ) (l : List ℕ) → is_in t (without_slot slot l) ≡ true → rows_in bare t ≡ rows_in nodes t
      rows-left t l in_l = ap (λ (f : ℕ → Option T). f t) rows-bare ∙ read-other slot t None (rows_in nodes) (without-in slot t l in_l).1

      links-left : (thread : Thread) (t : ℕ) (l : List ℕ) → is_in t (without_slot slot l) ≡ true → links_in thread bare t ≡ links_in thread past t
      links-left thread t l in_l = ap (λ (f : ℕ → Option Links). f t) (links-bare thread) ∙ read-other slot t None (links_in thread past) (without-in slot t l in_l).1

      ordered : IsThread (links_in Order bare) ends_past' slots
      ordered =
          IsThread-same (links_in Order past) (links_in Order bare) ends_past' slots (λ t in_l. links-left Order t table.kept.slots in_l)
          (subst (λ f. IsThread f ends_past' slots) (sym past_is) (subst (λ e. IsThread (passed_over (links_in Order away slot) (links_in Order away)) e slots) (sym past_ends)
          (IsThread-without (links_in Order away) order table.kept.slots slot (subst (λ f. IsThread f order table.kept.slots) (sym order-away) table.kept.ordered) (there table at))))

      whole : (t : ℕ) → is_some (rows_in bare t) ≡ true → is_in t slots ≡ true
      whole t some =
          let both = left-other slot t (rows_in nodes) (ap (λ (f : ℕ → Option T). is_some (f t)) (sym rows-bare) ∙ some) in
          without-in_from slot t table.kept.slots (table.kept.whole t both.1) both.0

      entered : IsEntered same alike key_of target_of (rows_in bare) (links_in Watch bare) index left slots
      entered = record {
        indexed = λ t r in_l here. table.kept.entered.indexed t r (without-in slot t table.kept.slots in_l).0 (sym (rows-left t table.kept.slots in_l) ∙ here);
        watched = AreWatched-same alike target_of table.matches (rows_in off) (links_in Watch away) left slots (rows_in bare) (links_in Watch bare)
            (λ t in_l. rows-left t table.kept.slots in_l ∙ ap (λ (f : ℕ → Option T). f t) (sym off_same.rows))
            (λ t in_l. links-left Watch t table.kept.slots in_l ∙ ap (λ (f : ℕ → Option Links). f t) (past_same.links Watch refl))
            (withdraw table.kept.slots at.row (ap (λ (f : ℕ → Option T). f slot) off_same.rows ∙ at.here) (there table at) table.kept.ordered.distinct (watched-off off off_same));
      }

      queue-past : links_in Queue past ≡ links_in Queue off
      queue-past = past_same.links Queue refl ∙ away_same.links Queue refl

      queued : IsQueue (links_in Queue bare) ends (without_slot slot table.kept.waits) count
      queued = record {
        thread = IsThread-same (links_in Queue off) (links_in Queue bare) ends (without_slot slot table.kept.waits)
            (λ t in_l. links-left Queue t table.kept.waits in_l ∙ ap (λ (f : ℕ → Option Links). f t) queue-past) off_is.thread;
        whole = λ t some. off_is.whole t
            (ap (λ (f : ℕ → Option Links). is_some (f t)) (sym queue-past) ∙ (left-other slot t (links_in Queue past) (ap (λ (f : ℕ → Option Links). is_some (f t)) (sym (links-bare Queue)) ∙ some)).1);
        counted = off_is.counted;
      }

      pub removed : IsSeen same alike key_of target_of bare index left ends_past' ends count limit births
          (record { rows = without_row same key_of key v.rows; queue = without_waiting same key v.queue; room = v.room + 1 })
      removed =
          let fewer = length-without slot table.kept.slots table.kept.ordered.distinct (there table at) in
          let len = past_same.len ∙ away_same.len ∙ off_same.len in
          let capacity = bare_capacity ∙ past_same.capacity ∙ away_same.capacity ∙ off_same.capacity in
          let had = table.kept.room in
          let room_seen = table.room in
          record {
            laws = table.laws;
            matches = table.matches;
            one_key = table.one_key;
            kept = record {
              slots = slots;
              waits = without_slot slot table.kept.waits;
              ordered = ordered;
              whole = whole;
              entered = entered;
              queued = queued;
              born = AreBorn-same (births_in nodes) (births_in bare) 0 births slots
                  (λ t in_l. ap (λ (f : ℕ → Option ℕ). f t) births-bare ∙ read-other slot t None (births_in nodes) (without-in slot t table.kept.slots in_l).1)
                  (AreBorn-filter (births_in nodes) 0 births (λ t. not (eqb t slot)) table.kept.slots table.kept.born);
              room = record {
                counted = omega arith;
                within = omega arith;
                nodes_fit = omega arith;
                keys_fit = table.kept.room.keys_fit;
                targets_fit = omega arith;
              };
            };
            rows = rows_at-same (rows_in nodes) (rows_in bare) slots (λ t in_l. rows-left t table.kept.slots in_l)
                ∙ rows_at-filter (rows_in nodes) (λ t. not (eqb t slot)) (λ (r : T). not (same key (key_of r))) table.kept.slots (agree table.kept.slots)
                (filled table) ∙ ap (without_row same key_of key) table.rows;
            keys = ap (map key_of) (rows_at-same (rows_in nodes) (rows_in bare) (without_slot slot table.kept.waits) (λ t in_l. rows-left t table.kept.waits in_l)) ∙ keys-without;
            room = omega arith;
          }
