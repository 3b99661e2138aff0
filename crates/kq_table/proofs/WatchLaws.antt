-- Who watches a target, and who watches the same target next behind a key.
use Rattle.std.proofs.Common.{◌≡◌, ℕ, ◌+◌, ◌≤◌, Bool, true, cond, eqb, List, [], ◌∷◌, ◌++◌, map, length, Option, Some, None, MatchOption, slice_get, is_some, sym, ap, ◌∙◌, subst, arith}
use Rattle.std.proofs.lemmas.Bool.{false≢true, or_right}
use Rattle.std.proofs.lemmas.Option.{none-some, same_Some, slice_get-map}
use Rattle.std.specs.HashMap.{HashMap, get as found}
use Rattle.std.specs.Option.{is_none, option_map, option_and_then}
use Rattle.slab.specs.Slab.{Slab}
use Rattle.kq_table.specs.declared.node.Ends.{Ends}
use Rattle.kq_table.specs.declared.node.Links.{Links}
use Rattle.kq_table.specs.declared.node.Node.{Node}
use Rattle.kq_table.specs.declared.node.Thread.TheVariants.{Watch}
use Rattle.kq_table.specs.Links.{is_target, keys_watching, first_watching, first_alike, next_watching}
use Rattle.kq_table.specs.Rows.{Tabled, find_row, rows_behind}
use Rattle.kq_table.specs.Threads.{is_in, AreDistinct, AreLinked, head_or, last_or, after_of, before_rows, IsThread, rows_in, links_in, rows_at}
use Rattle.kq_table.specs.Kept.{ends_of, watches, watching, AreApart, AreLed, IsLeading, IsLone, HasNoRow, StandsAt}
use Rattle.kq_table.proofs.AlongLaws.{IsAlong, keys-watching, along-more, along-there, along-end}
use Rattle.kq_table.proofs.EnterLaws.{in_watching}
use Rattle.kq_table.proofs.KeptLaws.{IsSeen, first-at, first-waiting, filled, apart, there, missed-row, stands-row}
use Rattle.kq_table.proofs.QueueLaws.{none-of}
use Rattle.kq_table.proofs.SeatLaws.{AreFilled, parted, find_row-parted, rows_behind-parted}
use Rattle.kq_table.proofs.ThreadLaws.{at_split, last-named, in_right, AreLinked-between, IsThread-at}
use Rattle.kq_table.proofs.WithoutLaws.{filter-append, in_filter-from}

-- what has none before it is the first
led-at : (links : ℕ → Option Links) (ends : Ends) (slot : ℕ) (after : Option ℕ) (xs ys : List ℕ) → IsThread links ends (xs ++ slot ∷ ys)
    → links slot ≡ Some (record { before = None; after = after }) → Some slot ≡ ends.first
led-at links ends slot after [] ys thread first = sym thread.first
led-at links ends slot after (x ∷ xs) ys thread first =
    let between = sym first ∙ AreLinked-between links (x ∷ xs) slot ys thread.linked in
    let before = ap (λ (o : Option Links). is_none (option_and_then (λ (l : Links). l.before) o)) between in
    absurd (false≢true (sym (last-named x xs) ∙ sym before))

module _ {K T G S R : Type 0} {same : K → K → Bool} {alike : G → G → Bool} {key_of : T → K} {target_of : T → Option G}
    {nodes : Slab (Node T)} {index : HashMap K ℕ S} {targets : HashMap G Ends R} {order queue : Ends} {waiting limit births : ℕ} {v : Tabled K T}
    (table : IsSeen same alike key_of target_of nodes index targets order queue waiting limit births v) where
  -- the row at a slot, where one is named, is that of its key
  pub row-found : (o : Option ℕ) (row : T) → option_and_then (rows_in nodes) o ≡ Some row → find_row same key_of (key_of row) v.rows ≡ Some row
  row-found None row none = absurd (none-some row none)
  row-found (Some slot) row here = stands-row table (record { row = row; here = here; is = table.laws.refl (key_of row) })

  -- the row of the key at the front of the queue
  pub front-row : (o : Option T) → o ≡ option_and_then (rows_in nodes) queue.first
      → MatchOption o (v.queue ≡ []) (λ row. (slice_get v.queue 0 ≡ Some (key_of row)) × (find_row same key_of (key_of row) v.rows ≡ Some row))
  front-row None none = none-of v.queue (sym (first-waiting table) ∙ ap (option_map key_of) (sym none))
  front-row (Some row) here = (sym (first-waiting table) ∙ ap (option_map key_of) (sym here), row-found queue.first row (sym here))

  module _ (target : G) where
    abbrev slots : List ℕ
    slots = watching alike target_of target (rows_in nodes) table.kept.slots

    part-filled : (l : List ℕ) → ((t : ℕ) → is_in t l ≡ true → is_in t table.kept.slots ≡ true) → AreFilled (rows_in nodes) (watching alike target_of target (rows_in nodes) l)
    part-filled l within t in_l = filled table t (within t (in_watching alike target_of table.matches target (rows_in nodes) l t in_l).0)

    full : AreFilled (rows_in nodes) slots
    full = part-filled table.kept.slots (λ t in_l. in_l)

    keys-along : map key_of (rows_at (rows_in nodes) slots) ≡ keys_watching alike key_of target_of target v.rows
    keys-along =
        keys-watching alike key_of target_of target (rows_in nodes) table.kept.slots (filled table) ∙ ap (keys_watching alike key_of target_of target) table.rows

    pub first-watching : (o : Option ℕ) → o ≡ (ends_of (found alike targets target)).first → option_map key_of (option_and_then (rows_in nodes) o) ≡ slice_get (keys_watching alike key_of target_of target v.rows) 0
    first-watching o is =
        ap (λ o. option_map key_of (option_and_then (rows_in nodes) o)) (is ∙ (table.kept.entered.watched target).first)
        ∙ ap (option_map key_of) (sym (first-at (rows_in nodes) slots full))
        ∙ sym (slice_get-map key_of (rows_at (rows_in nodes) slots) 0) ∙ ap (λ keys. slice_get keys 0) keys-along

    leading : (slot : ℕ) → IsLeading alike target_of (rows_in nodes) (links_in Watch nodes) target slot → Some slot ≡ (ends_of (found alike targets target)).first
    leading slot leads =
        let passes : watches alike target_of target (rows_in nodes slot) ≡ true = ap (watches alike target_of target) leads.here ∙ leads.is in
        let within : is_in slot table.kept.slots ≡ true = table.kept.whole slot (ap is_some leads.here) in
        at_split (λ l. IsThread (links_in Watch nodes) (ends_of (found alike targets target)) l → Some slot ≡ (ends_of (found alike targets target)).first) slot slots
        (in_filter-from (λ t. watches alike target_of target (rows_in nodes t)) table.kept.slots slot within passes)
        (λ xs ys thread. led-at (links_in Watch nodes) (ends_of (found alike targets target)) slot leads.after xs ys thread leads.first)
        (table.kept.entered.watched target)

    -- what has none before it and none behind it is the only one
    only-at : (slot : ℕ) (row : T) → IsLone alike target_of (rows_in nodes) (links_in Watch nodes) target slot row → (xs ys : List ℕ)
        → IsThread (links_in Watch nodes) (ends_of (found alike targets target)) (xs ++ slot ∷ ys) → map key_of (rows_at (rows_in nodes) (xs ++ slot ∷ ys)) ≡ key_of row ∷ []
    only-at slot row lone [] [] thread = ap (λ (o : Option T). map key_of (before_rows o [])) lone.here
    only-at slot row lone [] (y ∷ ys) thread =
        absurd (none-some y (ap after_of (sym lone.linked ∙ AreLinked-between (links_in Watch nodes) [] slot (y ∷ ys) thread.linked)))
    only-at slot row lone (x ∷ xs) ys thread =
        let between = sym lone.linked ∙ AreLinked-between (links_in Watch nodes) (x ∷ xs) slot ys thread.linked in
        let before = ap (λ (o : Option Links). is_none (option_and_then (λ (l : Links). l.before) o)) between in
        absurd (false≢true (sym (last-named x xs) ∙ sym before))

    pub lone-watching : (slot : ℕ) (row : T) → IsLone alike target_of (rows_in nodes) (links_in Watch nodes) target slot row
        → keys_watching alike key_of target_of target v.rows ≡ key_of row ∷ []
    lone-watching slot row lone =
        let passes : watches alike target_of target (rows_in nodes slot) ≡ true = ap (watches alike target_of target) lone.here ∙ lone.is in
        let within : is_in slot table.kept.slots ≡ true = table.kept.whole slot (ap is_some lone.here) in
        sym keys-along
        ∙ at_split (λ l. IsThread (links_in Watch nodes) (ends_of (found alike targets target)) l → map key_of (rows_at (rows_in nodes) l) ≡ key_of row ∷ []) slot slots
        (in_filter-from (λ t. watches alike target_of target (rows_in nodes t)) table.kept.slots slot within passes)
        (only-at slot row lone) (table.kept.entered.watched target)

    -- ---- a walk along them

    module _ (before added : List K) (next : Option ℕ) (along : IsAlong key_of (rows_in nodes) (links_in Watch nodes) (ends_of (found alike targets target)) before added next) where
      pub watching-more : (slot : ℕ) → next ≡ Some slot → length added + 1 ≤ length before + length (keys_watching alike key_of target_of target v.rows)
      watching-more slot is =
          let more = along-more key_of (rows_in nodes) (links_in Watch nodes) (ends_of (found alike targets target)) before added slot slots (table.kept.entered.watched target) full next is along in
          let as_many = ap length keys-along in
          omega arith

      pub watching-there : (slot : ℕ) → next ≡ Some slot → (row : T) × (rows_in nodes slot ≡ Some row)
      watching-there slot is =
          along-there key_of (rows_in nodes) (links_in Watch nodes) (ends_of (found alike targets target)) before added slot slots (table.kept.entered.watched target) full next is along

      pub watching-end : next ≡ None → added ≡ before ++ keys_watching alike key_of target_of target v.rows
      watching-end is =
          along-end key_of (rows_in nodes) (links_in Watch nodes) (ends_of (found alike targets target)) before added slots (table.kept.entered.watched target) full next is along
          ∙ ap (λ keys. before ++ keys) keys-along

  pub are-led : AreLed alike target_of (rows_in nodes) (links_in Watch nodes) targets
  are-led target slot leads = leading target slot leads

  -- ---- next behind a key

  pub missed-next : {key : K} → HasNoRow same key_of (rows_in nodes) key → next_watching alike key_of target_of same key v.rows ≡ None
  missed-next {key} never = ap (λ o. first_alike alike key_of target_of o (rows_behind same key_of key v.rows)) (missed-row table never)

  module _ {key : K} {slot : ℕ} (at : StandsAt same key_of (rows_in nodes) key slot) where
    at_target : (xs ys : List ℕ) → AreDistinct (xs ++ slot ∷ ys) → AreApart same key_of (rows_in nodes) (xs ++ slot ∷ ys) → (o : Option G) → target_of at.row ≡ o
        → next_watching alike key_of target_of same key (rows_at (rows_in nodes) (xs ++ slot ∷ ys)) ≡ first_watching alike key_of target_of o (rows_at (rows_in nodes) ys)
    at_target xs ys distinct ap_l o o_is =
        let p = parted same key_of table.laws (rows_in nodes) key slot at.row xs ys distinct ap_l at.here at.is in
        let before = rows_at (rows_in nodes) xs in
        let behind = rows_at (rows_in nodes) ys in
        ap (next_watching alike key_of target_of same key) p.all_is
        ∙ ap (λ r. first_alike alike key_of target_of r (rows_behind same key_of key (before ++ at.row ∷ behind))) (find_row-parted same key_of table.laws key at.row before behind p.none_before at.is)
        ∙ ap (first_watching alike key_of target_of (target_of at.row)) (rows_behind-parted same key_of table.laws key at.row before behind p.none_before at.is)
        ∙ ap (λ t. first_watching alike key_of target_of t behind) o_is

    -- what it says of the target of a key's row
    pub stands-last : None ≡ option_and_then target_of (rows_in nodes slot) → next_watching alike key_of target_of same key v.rows ≡ None
    stands-last none =
        ap (next_watching alike key_of target_of same key) (sym table.rows)
        ∙ at_split (λ l. AreDistinct l → AreApart same key_of (rows_in nodes) l → next_watching alike key_of target_of same key (rows_at (rows_in nodes) l) ≡ None) slot table.kept.slots (there table at)
        (λ xs ys d a. at_target xs ys d a None (ap (option_and_then target_of) (sym at.here) ∙ sym none)) table.kept.ordered.distinct (apart table)

    pub stands-next : (target : G) → Some target ≡ option_and_then target_of (rows_in nodes slot) → (o : Option ℕ) → o ≡ after_of (links_in Watch nodes slot)
        → option_map key_of (option_and_then (rows_in nodes) o) ≡ next_watching alike key_of target_of same key v.rows
    stands-next target o_is o is =
        let target_is = ap (option_and_then target_of) (sym at.here) ∙ sym o_is in
        let passes : watches alike target_of target (rows_in nodes slot) ≡ true = ap (watches alike target_of target) at.here ∙ ap (is_target alike target) target_is ∙ table.matches.refl target in
        let linked = IsThread-at (links_in Watch nodes) (ends_of (found alike targets target)) (slots target) slot (table.kept.entered.watched target)
        (in_filter-from (λ t. watches alike target_of target (rows_in nodes t)) table.kept.slots slot (there table at) passes) in
        ap (λ o. option_map key_of (option_and_then (rows_in nodes) o)) (is ∙ ap after_of linked.1)
        ∙ at_split (λ l. AreDistinct l → AreApart same key_of (rows_in nodes) l → ((t : ℕ) → is_in t l ≡ true → is_in t table.kept.slots ≡ true)
        → IsThread (links_in Watch nodes) (ends_of (found alike targets target)) (watching alike target_of target (rows_in nodes) l)
        → option_map key_of (option_and_then (rows_in nodes) linked.0.after) ≡ next_watching alike key_of target_of same key (rows_at (rows_in nodes) l)) slot table.kept.slots (there table at)
        (λ xs ys d a within thread.
        let p = λ (s : ℕ). watches alike target_of target (rows_in nodes s) in
        let front = watching alike target_of target (rows_in nodes) xs in
        let back = watching alike target_of target (rows_in nodes) ys in
        let split : watching alike target_of target (rows_in nodes) (xs ++ slot ∷ ys) ≡ front ++ slot ∷ back = filter-append p xs (slot ∷ ys) ∙ ap (λ b. front ++ cond b (slot ∷ back) back) passes in
        let between = same_Some linked.0 (record { before = last_or None front; after = head_or None back })
        (sym linked.1 ∙ AreLinked-between (links_in Watch nodes) front slot back (subst (λ l. AreLinked (links_in Watch nodes) None l None) split thread.linked)) in
        let within_ys = λ (t : ℕ) (in_ys : is_in t ys ≡ true). within t (in_right t xs (slot ∷ ys) (or_right (eqb t slot) (is_in t ys) in_ys)) in
        ap (λ (l : Links). option_map key_of (option_and_then (rows_in nodes) l.after)) between
        ∙ ap (option_map key_of) (sym (first-at (rows_in nodes) back (part-filled target ys within_ys)))
        ∙ sym (slice_get-map key_of (rows_at (rows_in nodes) back) 0)
        ∙ ap (λ keys. slice_get keys 0) (keys-watching alike key_of target_of target (rows_in nodes) ys (λ t in_ys. filled table t (within_ys t in_ys)))
        ∙ sym (at_target xs ys d a (Some target) target_is))
        table.kept.ordered.distinct (apart table) (λ t in_l. in_l) (table.kept.entered.watched target)
        ∙ ap (next_watching alike key_of target_of same key) table.rows
