-- The rule of the lock's table, and what each step tells the seat that takes it.
use Rattle.std.specs.Prelude.{◌≡◌, ◌≢◌, ℕ, ◌+◌, ◌%◌, ◌<◌, ◌≤◌, ◌⊎◌, true}
use Rattle.std.specs.Prelude.{false, Some, None, List, []}
use Rattle.std.specs.Prelude.{◌∷◌, ◌++◌, length, sum_by}
use Rattle.std.specs.Prelude as std
use mathlib.Core.List.{IsPrefix}
use mathlib.Core.Option.{Option, some}
use lib.ListN.{get_elem?}
use Rattle.atomic_table.specs.Table.{State, Me, Step}
use Rattle.atomic_table.specs.Seated.{TableId}
use Rattle.atomic_table.specs.declared.shared.Seat.{Seat}
use Rattle.kq_lock.specs.declared.entry.Entry.{Entry}
use Rattle.kq_lock.specs.declared.view.Call.{Call}
use Rattle.kq_lock.specs.declared.kept.Kept.{Kept}
use Rattle.kq_lock.specs.declared.view.View.{View}
use Rattle.kq_lock.specs.declared.view.Stage.{Stage}
use Rattle.kq_lock.specs.declared.view.Stage.TheVariants.{Spent, Idle, Joined, Waits, Holds, Raised}
use Rattle.kq_lock.specs.Calls.{plain, call_of, calls_by, Each, IsMade, Merged, longer, Leads}
use Rattle.kq_lock.specs.Calls.{Grows}

-- What the words and the slot stand for. The phase is 0 while the turn is free, 1 once a seat has
-- taken the value out, and 2 once it has raised LENGTH. `who` tells which seat drew a ticket,
-- `owner`
-- which seat owns a number, and `made` is the number of each seat that was made, in the seats'
-- order.
pub record LockState (M S A : Type 0) : Type 0 where
  pub ticket : ℕ
  pub serving : ℕ
  pub log : List (Call S A)
  pub value : M
  pub phase : ℕ
  pub who : ℕ → ℕ
  pub owner : ℕ → ℕ
  pub made : List ℕ

-- what a seat knows, with the slots that it carries
abbrev pub Mine : Type 0 → Type 0 → Type 0 → Type 0
Mine M S A = Me (std.Option (Kept M S A)) (View M S A)

abbrev pub At : Type 0 → Type 0 → Type 0 → Type 0
At M S A = Step (std.Option (Kept M S A))

abbrev pub Homes : Type 0 → Type 0 → Type 0 → Type 0
Homes M S A = List (Option (std.Option (Kept M S A)))

module _ {M S A : Type 0} where
  -- LENGTH, TICKET and SERVING
  abbrev pub words_of : LockState M S A → List ℕ
  words_of x = length x.log ∷ x.ticket ∷ x.serving ∷ []

  -- the seat may use the number, for itself or for a seat that is split off
  abbrev pub Owns : View M S A → ℕ → Type 0
  Owns v n = n % v.stride ≡ v.number

  abbrev pub Unspent : Stage M S A → Type 0
  Unspent Spent = ⊥
  Unspent _ = Unit {0}

  -- 1 where the seat has a ticket
  abbrev pub tickets_at : Stage M S A → ℕ
  tickets_at Spent = 0
  tickets_at Idle = 0
  tickets_at (Joined before other n s) = 0
  tickets_at _ = 1

  abbrev pub tickets : View M S A → ℕ
  tickets v = tickets_at v.stage

  -- the seat has the ticket t and the value
  abbrev pub Carries : ℕ → Stage M S A → Type 0
  Carries t (Holds u v l) = u ≡ t
  Carries t (Raised u v l) = u ≡ t
  Carries t _ = ⊥

  -- the seat j has the turn with the ticket t, took out v with the history l, and is in this phase
  abbrev pub IsInTurn : LockState M S A → ℕ → ℕ → ℕ → M → List (Call S A) → Type 0
  IsInTurn x j phase t v l =
      (x.who t ≡ j) × (t ≡ x.serving) × (t < x.ticket) × (x.phase ≡ phase) × (v ≡ x.value)
      × (l ≡ x.log)

  -- what the stage of the seat j says of the state
  abbrev pub Stands : LockState M S A → ℕ → ℕ → ℕ → List (Call S A) → Stage M S A → Type 0
  Stands x j number stride seen Spent = Unit {0}
  Stands x j number stride seen Idle = Unit {0}
  Stands x j number stride seen (Joined before other n s) =
      Merged number stride n s seen before other
  Stands x j number stride seen (Waits t) =
      (x.who t ≡ j) × (x.serving ≤ t) × (t < x.ticket) × (t ≡ x.serving → x.phase ≡ 0)
  Stands x j number stride seen (Holds t v l) = IsInTurn x j 1 t v l
  Stands x j number stride seen (Raised t v l) = IsInTurn x j 2 t v l

  -- what an unspent seat j knows
  pub record Fits (opening : M) (last : ℕ) (x : LockState M S A) (j : ℕ)
      (v : View M S A) : Type 0 where
    -- the value at the start, and how many tickets there are
    pub opened : v.opening ≡ Some opening
    pub limit : v.last ≡ last
    -- its number is one of those that it owns
    pub small : v.number < v.stride
    -- where it is worn, TICKET is `last`
    pub worn : v.worn ≡ true → x.ticket ≡ last
    -- its lower bound is not over SERVING
    pub bound : v.bound ≤ x.serving
    -- its number is that of the seat that was made in its place
    pub numbered : get_elem? x.made j ≡ some v.number
    -- what it has seen begins the history
    pub seen : IsPrefix v.seen x.log
    -- no other seat owns a number that it owns
    pub owned : (n : ℕ) → Owns v n → x.owner n ≡ j
    -- it has seen all calls with numbers that it owns
    pub own : (n : ℕ) → Owns v n → calls_by n x.log ≡ calls_by n v.seen

  abbrev pub Sits : M → ℕ → LockState M S A → ℕ → View M S A → Type 0
  Sits opening last x j v =
      (Unspent v.stage → Fits opening last x j v) × Stands x j v.number v.stride v.seen v.stage

  -- the slot is home, with the value and its history
  abbrev pub IsHome : Homes M S A → M → List (Call S A) → Type 0
  IsHome homes value log =
      (k : Kept M S A) × (homes ≡ some (Some k) ∷ []) × (k.value ≡ value)
      × (k.history.items ≡ plain log)

  -- the rule, of a state with its slot and what the seats know
  pub record Fair (leads : M → S → A → M → Type 0) (opening : M) (last : ℕ) (x : LockState M S A)
      (homes : Homes M S A) (views : List (View M S A)) : Type 0 where
    -- TICKET is at most `last`
    pub at_most_last : x.ticket ≤ last
    -- SERVING plus the number of seats with a ticket is TICKET
    pub count : x.serving + sum_by tickets views ≡ x.ticket
    -- the history leads from the opening value to the value
    pub legal : Leads leads opening x.log x.value
    -- LENGTH is at most SERVING, until it is raised in this turn
    pub length_served : x.phase < 2 → length x.log ≤ x.serving
    -- LENGTH is at most one more than SERVING
    pub length_one_ahead : length x.log ≤ x.serving + 1
    -- while a seat has the turn, SERVING is a ticket that was drawn
    pub turn_has_ticket : 0 < x.phase → x.serving < x.ticket
    -- while the slot is empty, the seat that drew the ticket SERVING has the value
    pub holder : 0 < x.phase
        → (v : View M S A) × (get_elem? views (x.who x.serving) ≡ some v)
        × Carries x.serving v.stage
    -- while the turn is free, the slot has the value and its history
    pub home_while_free : x.phase ≡ 0 → IsHome homes x.value x.log
    -- each seat has the number that it was made with
    pub made : length x.made ≡ length views
    -- each entry has the number of a seat that was made
    pub made_by_seats : Each (IsMade x.made) x.log
    -- what each seat knows is true, and where it stands
    pub seats : (j : ℕ) (v : View M S A) → get_elem? views j ≡ some v → Sits opening last x j v

  -- the rule of the table: its words are those of some state, of which the rule above holds
  pub record Turned (leads : M → S → A → M → Type 0) (opening : M) (last : ℕ)
      (s : State (std.Option (Kept M S A)) (View M S A)) : Type 0 where
    pub state : LockState M S A
    pub words : s.words ≡ words_of state
    pub fair : Fair leads opening last state s.homes s.views

  -- the first seat
  abbrev pub newcomer : M → ℕ → View M S A
  newcomer opening last = record {
    opening = Some opening;
    last = last;
    number = 0;
    stride = 1;
    seen = [];
    worn = false;
    bound = 0;
    stage = Idle;
  }

  abbrev pub first_half : View M S A → View M S A
  first_half v = record v { stride = v.stride + v.stride }

  abbrev pub second_half : View M S A → View M S A
  second_half v =
      record v {
        number = v.number + v.stride;
        stride = v.stride + v.stride;
        worn = false;
        stage =
            Idle;
      }

  abbrev pub joined : View M S A → View M S A → View M S A
  joined v w =
      record v { seen = longer v.seen w.seen; stage = Joined v.seen w.seen w.number w.stride }

  abbrev pub spent : View M S A
  spent = record {
    opening = None;
    last = 0;
    number = 0;
    stride = 0;
    seen = [];
    worn = false;
    bound = 0;
    stage = Spent;
  }

  -- the seat has the turn with the ticket t: it carries the slot, and knows the value in it and its
  -- history
  pub record HasTurn (leads : M → S → A → M → Type 0) (t : ℕ) (m : Mine M S A) : Type 0 where
    pub kept : Kept M S A
    pub log : List (Call S A)
    pub stage : m.0.stage ≡ Holds t kept.value log
    pub slot : m.1 ≡ (0, Some kept) ∷ []
    pub items : kept.history.items ≡ plain log
    pub small : m.0.number < m.0.stride
    pub seen : IsPrefix m.0.seen log
    pub legal : (o : M) × (m.0.opening ≡ Some o) × Leads leads o log kept.value
    pub own : (n : ℕ) → Owns m.0 n → calls_by n log ≡ calls_by n m.0.seen
    pub short : length log ≤ t
    pub limit : t < m.0.last

  -- the seat may pass on the turn with the ticket t: it carries the slot, with the value and its
  -- history
  pub record MayPassOn (t : ℕ) (m : Mine M S A) : Type 0 where
    pub kept : Kept M S A
    pub log : List (Call S A)
    pub stage : (m.0.stage ≡ Holds t kept.value log) ⊎ (m.0.stage ≡ Raised t kept.value log)
    pub slot : m.1 ≡ (0, Some kept) ∷ []
    pub items : kept.history.items ≡ plain log

  -- the seat v made a call with this answer, and is w afterwards
  abbrev pub IsLogged : (M → S → A → M → Type 0) → View M S A → View M S A → S → A → Type 0
  IsLogged leads v w step answer =
      Grows leads v.opening v.number v.seen w.seen (record { step = step; answer = answer })

  -- no call was made under another number that the seat owns
  abbrev pub KeepsOthers : View M S A → View M S A → Type 0
  KeepsOthers v w = (n : ℕ) → Owns v n → n ≢ v.number → calls_by n w.seen ≡ calls_by n v.seen

  -- the same seat, somewhere else
  abbrev pub IsSameView : View M S A → View M S A → Type 0
  IsSameView v w = w ≡ record v { bound = w.bound; stage = w.stage }

  -- the step gave the seat the turn, if it carried no slot
  abbrev pub Entered : (M → S → A → M → Type 0) → ℕ → Mine M S A → Mine M S A → Type 0
  Entered leads t m m' = IsSameView m.0 m'.0 × (m.1 ≡ [] → HasTurn leads t m')

  abbrev pub LooksAtTicket : At M S A → Mine M S A → ℕ → Mine M S A → Type 0
  LooksAtTicket st m r m' =
      (r ≤ m.0.last) × (m.0.worn ≡ true → r ≡ m.0.last)
      × (r ≡ m.0.last → m' ≡ (record m.0 { worn = true }, m.1)) × (r ≢ m.0.last → m' ≡ m)

  abbrev pub Draws : At M S A → Mine M S A → ℕ → Mine M S A → Type 0
  Draws st m r m' =
      (r ≡ st.first → m' ≡ (record m.0 { stage = Waits st.first }, m.1)) × (r ≢ st.first → m' ≡ m)

  abbrev pub Seizes : (M → S → A → M → Type 0) → At M S A → Mine M S A → ℕ → Mine M S A → Type 0
  Seizes leads st m r m' = (r ≡ st.first → Entered leads st.first m m') × (r ≢ st.first → m' ≡ m)

  abbrev pub LooksAtTurn : At M S A → Mine M S A → ℕ → Mine M S A → Type 0
  LooksAtTurn st m r m' = m' ≡ (record m.0 { bound = r }, m.1)

  abbrev pub Enters : (M → S → A → M → Type 0) → At M S A → Mine M S A → ℕ → Mine M S A → Type 0
  Enters leads st m r m' =
      (t : ℕ) → m.0.stage ≡ Waits t
      → (r ≡ t → Entered leads t m m') × (r ≢ t → m' ≡ (record m.0 { bound = r }, m.1))

  -- the history with this entry as a call of the seat
  abbrev pub logged : View M S A → List (Call S A) → Entry S A → List (Call S A)
  logged v log e = log ++ call_of v.number e ∷ []

  -- LENGTH was raised for the entry that the seat put behind the history
  abbrev pub Raises : At M S A → Mine M S A → ℕ → Mine M S A → Type 0
  Raises st m r m' =
      (t : ℕ) (v : M) (log : List (Call S A)) (k : Kept M S A) (e : Entry S A)
      → m.0.stage ≡ Holds t v log → m.1 ≡ (0, Some k) ∷ [] → k.history.items ≡ plain log ++ e ∷ []
      → m' ≡ (
        record m.0 {
          seen = logged m.0 log e;
          stage =
              Raised t k.value (logged m.0 log e);
        },
        m.1,
      )

  abbrev pub PassesOn : At M S A → Mine M S A → ℕ → Mine M S A → Type 0
  PassesOn st m r m' = m' ≡ (record m.0 { stage = Idle }, [])

  abbrev pub Settles : At M S A → Mine M S A → ℕ → Mine M S A → Type 0
  Settles st m r m' =
      (before other : List (Call S A)) (n s : ℕ) → m.0.stage ≡ Joined before other n s
      → Merged m.0.number m.0.stride n s m.0.seen before other
      × (m' ≡ (record m.0 { stage = Idle }, m.1))

  abbrev pub IsSameSeat : Seat (std.Option (Kept M S A)) (View M S A)
      → Seat (std.Option (Kept M S A)) (View M S A) → Type 0
  IsSameSeat p q = (q.table_id ≡ p.table_id) × (q.id ≡ p.id)

-- LENGTH, TICKET, SERVING and the slot
abbrev pub IsLockTable : TableId → Type 0
IsLockTable z = (z.words ≡ 3) × (z.slots ≡ 1)
