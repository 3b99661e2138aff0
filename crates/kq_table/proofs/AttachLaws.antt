-- A table when a row is attached: others are entered anew or numbered anew, it is put into a slot, linked
-- behind the last, and entered.
use Rattle.std.proofs.Common.{◌≡◌, ℕ, ◌+◌, ◌-◌, ◌<◌, ◌≤◌, Bool, true, false, cond, eqb, List, [], ◌∷◌, ◌++◌, map, length, Option, Some, None, is_some, length-append, refl, sym, ap, ◌∙◌, subst, arith}
use Rattle.std.proofs.lemmas.Bool.{or_left, false_from_ne_true}
use Rattle.std.proofs.lemmas.Option.{none-some}
use Rattle.std.specs.HashMap.{HashMap}
use Rattle.slab.specs.Slab.{Slab, get, slab_len}
use Rattle.kq_table.specs.declared.node.Ends.{Ends}
use Rattle.kq_table.specs.declared.node.Links.{Links}
use Rattle.kq_table.specs.declared.node.Node.{Node}
use Rattle.kq_table.specs.declared.node.Thread.{Thread}
use Rattle.kq_table.specs.declared.node.Thread.TheVariants.{Order, Watch, Queue}
use Rattle.kq_table.specs.Rows.{Tabled, find_row}
use Rattle.kq_table.specs.Threads.{is_in, head_or, AreDistinct, AreLinked, IsThread, IsQueue, written, put_last, ends_with, row_of, birth_of, links_of, rows_in, births_in, links_in, SameBut, SameButBirths}
use Rattle.kq_table.specs.Kept.{names_room, AreBorn, IsEntered}
use Rattle.kq_table.proofs.RowLaws.{by_test}
use Rattle.kq_table.proofs.NodeLaws.{reading, through-written, through-same}
use Rattle.kq_table.proofs.SeatLaws.{rows_at-same, rows_at-push}
use Rattle.kq_table.proofs.ThreadLaws.{apart-in, in_left, in_right, IsThread-same, IsThread-push}
use Rattle.kq_table.proofs.WithoutLaws.{AreBorn-same, AreBorn-push}
use Rattle.kq_table.proofs.KeptLaws.{IsSeen, filled, waits-within, stands-row}
use Rattle.kq_table.proofs.MoveLaws.{read-here, read-other}
use Rattle.kq_table.proofs.EnterLaws.{IsEntered-same}

module _ {K T G S R : Type 0} {same : K → K → Bool} {alike : G → G → Bool} {key_of : T → K} {target_of : T → Option G}
    {nodes : Slab (Node T)} {index : HashMap K ℕ S} {targets : HashMap G Ends R} {order queue : Ends} {waiting limit births : ℕ} {v : Tabled K T}
    (table : IsSeen same alike key_of target_of nodes index targets order queue waiting limit births v)
    (row : T) (absent : find_row same key_of (key_of row) v.rows ≡ None) (ready numbered held : Slab (Node T)) (slot born : ℕ) (node : Node T)
    (node_is : node ≡ record { row = row; born = born; order = record { before = None; after = None }; watch = record { before = None; after = None }; queue = None })
    (ready_same : SameBut Watch nodes ready) (numbered_same : SameButBirths ready numbered)
    (number : (slots : List ℕ) → AreLinked (links_in Order ready) None slots None → AreDistinct slots → order.first ≡ head_or None slots → slab_len ready ≡ length slots
    → AreBorn (births_in ready) 0 births slots → AreBorn (births_in numbered) 0 born slots)
    (vacant : get numbered slot ≡ None) (held_is : get held ≡ written slot (Some node) (get numbered)) where
  rows-numbered : rows_in numbered ≡ rows_in nodes
  rows-numbered = numbered_same.rows ∙ ready_same.rows

  born_are : AreBorn (births_in numbered) 0 born table.kept.slots
  born_are =
      number table.kept.slots (subst (λ (f : ℕ → Option Links). AreLinked f None table.kept.slots None) (sym (ready_same.links Order refl)) table.kept.ordered.linked) table.kept.ordered.distinct table.kept.ordered.first
      (ready_same.len ∙ table.kept.room.counted) (subst (λ (f : ℕ → Option ℕ). AreBorn f 0 births table.kept.slots) (sym ready_same.births) table.kept.born)

  vacant-out : is_in slot table.kept.slots ≡ false
  vacant-out = false_from_ne_true (is_in slot table.kept.slots) (λ there.
      let at = filled table slot there in
      none-some at.0 (sym (ap row_of vacant) ∙ ap (λ (f : ℕ → Option T). f slot) rows-numbered ∙ at.1))

  other : (t : ℕ) → is_in t table.kept.slots ≡ true → eqb t slot ≡ false
  other t there = apart-in slot t table.kept.slots vacant-out there

  rows-held : rows_in held ≡ written slot (Some row) (rows_in nodes)
  rows-held =
      ap (reading row_of) held_is
      ∙ through-written row_of slot (Some node) (get numbered) (Some row) (ap (λ (n : Node T). Some n.row) node_is) ∙ ap (written slot (Some row)) rows-numbered

  links-held : (thread : Thread) → links_in thread held ≡ written slot (links_of thread (Some node)) (links_in thread numbered)
  links-held thread =
      ap (reading (links_of thread)) held_is
      ∙ through-written (links_of thread) slot (Some node) (get numbered) (links_of thread (Some node)) refl

  held-at : (thread : Thread) (t : ℕ) → is_in t table.kept.slots ≡ true → links_in thread held t ≡ links_in thread ready t
  held-at thread t there =
      ap (λ (f : ℕ → Option Links). f t) (links-held thread) ∙ read-other slot t (links_of thread (Some node)) (links_in thread numbered) (other t there)
      ∙ ap (λ (f : ℕ → Option Links). f t) (numbered_same.links thread)

  queue-held : links_in Queue held ≡ links_in Queue nodes
  queue-held =
      ap (reading (links_of Queue)) held_is
      ∙ through-same (links_of Queue) slot (Some node) (get numbered) (ap (λ (n : Node T). n.queue) node_is ∙ sym (ap (links_of Queue) vacant))
      ∙ numbered_same.links Queue ∙ ready_same.links Queue refl

  held-there : rows_in held slot ≡ Some row
  held-there = ap (λ (f : ℕ → Option T). f slot) rows-held ∙ read-here slot (Some row) (rows_in nodes)

  held-rows : (t : ℕ) → is_in t table.kept.slots ≡ true → rows_in held t ≡ rows_in nodes t
  held-rows t there = ap (λ (f : ℕ → Option T). f t) rows-held ∙ read-other slot t (Some row) (rows_in nodes) (other t there)

  -- ---- linked behind the last

  module _ {S' R' : Type 0} (placed : Slab (Node T)) (last : Ends) (placed_is : links_in Order placed ≡ put_last order.last slot (links_in Order held)) (last_is : last ≡ ends_with slot order)
      (placed_same : SameBut Order held placed) (noted : HashMap K ℕ S') (listed : HashMap G Ends R')
      (ready_is : IsEntered same alike key_of target_of (rows_in nodes) (links_in Watch ready) noted listed table.kept.slots) where
    placed-there : rows_in placed slot ≡ Some row
    placed-there = ap (λ (f : ℕ → Option T). f slot) placed_same.rows ∙ held-there

    placed-rows : (t : ℕ) → is_in t table.kept.slots ≡ true → rows_in placed t ≡ rows_in nodes t
    placed-rows t there = ap (λ (f : ℕ → Option T). f t) placed_same.rows ∙ held-rows t there

    placed-away : (t : ℕ) (r : T) → is_in t table.kept.slots ≡ true → rows_in placed t ≡ Some r → same (key_of row) (key_of r) ≡ false
    placed-away t r there at =
        false_from_ne_true (same (key_of row) (key_of r)) (λ both.
        none-some r (sym absent ∙ stands-row table (record { row = r; here = sym (placed-rows t there) ∙ at; is = both })))

    placed-entered : IsEntered same alike key_of target_of (rows_in placed) (links_in Watch placed) noted listed table.kept.slots
    placed-entered =
        IsEntered-same same alike key_of target_of table.laws table.matches (rows_in nodes) (rows_in placed) (links_in Watch ready) (links_in Watch placed) noted listed table.kept.slots placed-rows
        (λ t there. ap (λ (f : ℕ → Option Links). f t) (placed_same.links Watch refl) ∙ held-at Watch t there) ready_is

    placed-ordered : IsThread (links_in Order placed) last (table.kept.slots ++ slot ∷ [])
    placed-ordered =
        subst (λ f. IsThread f last (table.kept.slots ++ slot ∷ [])) (sym placed_is)
        (subst (λ e. IsThread (put_last order.last slot (links_in Order held)) e (table.kept.slots ++ slot ∷ [])) (sym last_is)
        (IsThread-push (links_in Order held) order table.kept.slots slot
        (IsThread-same (links_in Order nodes) (links_in Order held) order table.kept.slots
        (λ t there. held-at Order t there ∙ ap (λ (f : ℕ → Option Links). f t) (ready_same.links Order refl)) table.kept.ordered) vacant-out))

    -- ---- entered

    module _ {S'' R'' : Type 0} (more : Slab (Node T)) (found : HashMap K ℕ S'') (left : HashMap G Ends R'') (more_same : SameBut Watch placed more)
        (enter : (slots : List ℕ) (row : T) → rows_in placed slot ≡ Some row → is_in slot slots ≡ false
        → ((t : ℕ) (r : T) → is_in t slots ≡ true → rows_in placed t ≡ Some r → same (key_of row) (key_of r) ≡ false)
        → IsEntered same alike key_of target_of (rows_in placed) (links_in Watch placed) noted listed slots
        → IsEntered same alike key_of target_of (rows_in placed) (links_in Watch more) found left (slots ++ slot ∷ []))
        (len : slab_len held ≡ slab_len numbered + 1) (capacity : held.capacity ≡ numbered.capacity) (room : 0 < v.room)
        (keys_room : names_room index ≤ names_room found) (targets_room : names_room targets ≤ names_room left) where
      rows-more : rows_in more ≡ written slot (Some row) (rows_in nodes)
      rows-more = more_same.rows ∙ placed_same.rows ∙ rows-held

      whole : (t : ℕ) → is_some (rows_in more t) ≡ true → is_in t (table.kept.slots ++ slot ∷ []) ≡ true
      whole t some =
          by_test (λ b. eqb t slot ≡ b → is_some (cond b (Some row) (rows_in nodes t)) ≡ true → is_in t (table.kept.slots ++ slot ∷ []) ≡ true) (eqb t slot)
          (λ _ e _. in_right t table.kept.slots (slot ∷ []) (or_left (eqb t slot) false e))
          (λ _ _ there. in_left t table.kept.slots (slot ∷ []) (table.kept.whole t there))
          refl (ap (λ (f : ℕ → Option T). is_some (f t)) (sym rows-more) ∙ some)

      births-more : births_in more ≡ written slot (Some born) (births_in numbered)
      births-more =
          more_same.births ∙ placed_same.births ∙ ap (reading birth_of) held_is
          ∙ through-written birth_of slot (Some node) (get numbered) (Some born) (ap (λ (n : Node T). Some n.born) node_is)

      more-at : (t : ℕ) → is_in t table.kept.slots ≡ true → rows_in more t ≡ rows_in nodes t
      more-at t there = ap (λ (f : ℕ → Option T). f t) rows-more ∙ read-other slot t (Some row) (rows_in nodes) (other t there)

      pub attached : (next : ℕ) → next ≡ born + 1
          → IsSeen same alike key_of target_of more found left last queue waiting limit next (record { rows = v.rows ++ row ∷ []; queue = v.queue; room = limit - slab_len more })
      attached next next_is =
          let had = table.kept.room in
          let room_is = table.room in
          let many = length-append table.kept.slots (slot ∷ []) in
          let all_len = more_same.len ∙ placed_same.len ∙ len in
          let old_len = numbered_same.len ∙ ready_same.len in
          let all_capacity = more_same.capacity ∙ placed_same.capacity ∙ capacity ∙ numbered_same.capacity ∙ ready_same.capacity in
          record {
            laws = table.laws;
            matches = table.matches;
            one_key = table.one_key;
            kept = record {
              slots = table.kept.slots ++ slot ∷ [];
              waits = table.kept.waits;
              ordered = subst (λ f. IsThread f last (table.kept.slots ++ slot ∷ [])) (sym (more_same.links Order refl)) placed-ordered;
              whole = whole;
              entered = subst (λ f. IsEntered same alike key_of target_of f (links_in Watch more) found left (table.kept.slots ++ slot ∷ [])) (sym more_same.rows)
                  (enter table.kept.slots row placed-there vacant-out placed-away placed-entered);
              queued = subst (λ f. IsQueue f queue table.kept.waits waiting) (sym (more_same.links Queue refl ∙ placed_same.links Queue refl ∙ queue-held)) table.kept.queued;
              born = subst (λ n. AreBorn (births_in more) 0 n (table.kept.slots ++ slot ∷ [])) (sym next_is) (AreBorn-push (births_in more) 0 born table.kept.slots slot
                  (AreBorn-same (births_in numbered) (births_in more) 0 born table.kept.slots
                  (λ t there. ap (λ (f : ℕ → Option ℕ). f t) births-more ∙ read-other slot t (Some born) (births_in numbered) (other t there)) born_are)
                  (ap (λ (f : ℕ → Option ℕ). f slot) births-more ∙ read-here slot (Some born) (births_in numbered)));
              room = record {
                counted = omega arith;
                within = omega arith;
                nodes_fit = omega arith;
                keys_fit = omega arith;
                targets_fit = omega arith;
              };
            };
            rows = rows_at-push (rows_in more) table.kept.slots slot row (ap (λ (f : ℕ → Option T). f slot) rows-more ∙ read-here slot (Some row) (rows_in nodes))
                ∙ ap (λ (l : List T). l ++ row ∷ []) (rows_at-same (rows_in nodes) (rows_in more) table.kept.slots more-at ∙ table.rows);
            keys = ap (map key_of) (rows_at-same (rows_in nodes) (rows_in more) table.kept.waits (λ t there. more-at t (waits-within table t there))) ∙ table.keys;
            room = refl;
          }
