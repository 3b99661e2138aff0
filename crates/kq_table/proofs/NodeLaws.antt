-- What a write of a node changes of what the nodes say, slot by slot.
use mathlib.Core.Path.{fun_ext}
use Rattle.std.proofs.Common.{◌≡◌, ℕ, Bool, true, false, cond, eqb, Option, Some, None, is_some, refl, sym, ap, ◌∙◌, ◌+◌, arith}
use Rattle.std.proofs.lemmas.Bool.{false≢true, eqb-true, eqb-false}
use Rattle.std.proofs.lemmas.Option.{none-some}
use Rattle.std.specs.Option.{option_map, option_and_then}
use Rattle.std.proofs.lemmas.List.Sums.{sum_by-set}
use Rattle.slab.proofs.SlabLemmas.{ContainsKey-within, Updates-with_value}
use Rattle.slab.specs.Slab.{Slab, get, slab_len, with_value, Updates}
use Rattle.kq_table.specs.declared.node.Links.{Links}
use Rattle.kq_table.specs.declared.node.Node.{Node}
use Rattle.kq_table.specs.declared.node.Thread.{Thread}
use Rattle.kq_table.specs.declared.node.Thread.TheVariants.{Order, Watch, Queue}
use Rattle.kq_table.specs.Threads.{with_after, with_before, written, row_of, birth_of, links_of, rows_in, with_links, differ, SameBut, SameButBirths}
use Rattle.kq_table.proofs.RowLaws.{by_test}

-- what is read of what is there, slot by slot
abbrev pub reading : {A B : Type 0} → (Option A → Option B) → (ℕ → Option A) → ℕ → Option B
reading h f t = h (f t)

module _ {A B : Type 0} (h : Option A → Option B) (slot : ℕ) (o : Option A) (f : ℕ → Option A) where
  pub through-written : (v : Option B) → h o ≡ v → reading h (written slot o f) ≡ written slot v (reading h f)
  through-written v e =
      fun_ext (λ t. elim (eqb t slot) as (λ b. h (cond b o (f t)) ≡ cond b v (h (f t))) [ true ↦ e | false ↦ refl ])

  pub through-same : h o ≡ h (f slot) → reading h (written slot o f) ≡ reading h f
  through-same e =
      fun_ext (λ t. by_test (λ b. h (cond b o (f t)) ≡ h (f t)) (eqb t slot) (λ is. e ∙ ap (λ n. h (f n)) (sym (eqb-true t slot is))) (λ _. refl))

-- a function that agrees with a write is that
pub written-from : {A : Type 0} (slot : ℕ) (o : Option A) (f g : ℕ → Option A) → g slot ≡ o → ((t : ℕ) → eqb t slot ≡ false → g t ≡ f t) → g ≡ written slot o f
written-from slot o f g here others =
    fun_ext (λ t. by_test (λ b. g t ≡ cond b o (f t)) (eqb t slot) (λ is. ap g (eqb-true t slot is) ∙ here) (λ apart. others t apart))

module _ (slot : ℕ) (f : ℕ → Option Links) where
  pub after-none : (after : Option ℕ) → f slot ≡ None → with_after (Some slot) after f ≡ f
  after-none after none =
      fun_ext (λ t. by_test (λ b. cond b (option_map (λ (l : Links). record l { after = after }) (f t)) (f t) ≡ f t) (eqb t slot)
      (λ is. let here : f t ≡ None = ap f (eqb-true t slot is) ∙ none in ap (option_map (λ (l : Links). record l { after = after })) here ∙ sym here) (λ _. refl))

  pub after-written : (after : Option ℕ) (l : Links) → f slot ≡ Some l → written slot (Some (record l { after = after })) f ≡ with_after (Some slot) after f
  after-written after l here =
      fun_ext (λ t. by_test (λ b. cond b (Some (record l { after = after })) (f t) ≡ cond b (option_map (λ (l : Links). record l { after = after }) (f t)) (f t)) (eqb t slot)
      (λ is. ap (option_map (λ (l : Links). record l { after = after })) (sym (ap f (eqb-true t slot is) ∙ here))) (λ _. refl))

  pub before-none : (before : Option ℕ) → f slot ≡ None → with_before (Some slot) before f ≡ f
  before-none before none =
      fun_ext (λ t. by_test (λ b. cond b (option_map (λ (l : Links). record l { before = before }) (f t)) (f t) ≡ f t) (eqb t slot)
      (λ is. let here : f t ≡ None = ap f (eqb-true t slot is) ∙ none in ap (option_map (λ (l : Links). record l { before = before })) here ∙ sym here) (λ _. refl))

  pub before-written : (before : Option ℕ) (l : Links) → f slot ≡ Some l → written slot (Some (record l { before = before })) f ≡ with_before (Some slot) before f
  before-written before l here =
      fun_ext (λ t. by_test (λ b. cond b (Some (record l { before = before })) (f t) ≡ cond b (option_map (λ (l : Links). record l { before = before }) (f t)) (f t)) (eqb t slot)
      (λ is. ap (option_map (λ (l : Links). record l { before = before })) (sym (ap f (eqb-true t slot is) ∙ here))) (λ _. refl))

module _ {T : Type 0} where
  -- ---- one node

  pub links-with : (thread : Thread) (links : Links) (node : Node T) → links_of thread (Some (with_links thread links node)) ≡ Some links
  links-with Order links node = refl
  links-with Watch links node = refl
  links-with Queue links node = refl

  pub links-with_other : (thread other : Thread) (links : Links) (node : Node T) → differ thread other ≡ true → links_of other (Some (with_links thread links node)) ≡ links_of other (Some node)
  links-with_other Order Order links node d = absurd (false≢true d)
  links-with_other Order Watch links node d = refl
  links-with_other Order Queue links node d = refl
  links-with_other Watch Order links node d = refl
  links-with_other Watch Watch links node d = absurd (false≢true d)
  links-with_other Watch Queue links node d = refl
  links-with_other Queue Order links node d = refl
  links-with_other Queue Watch links node d = refl
  links-with_other Queue Queue links node d = absurd (false≢true d)

  pub row-with : (thread : Thread) (links : Links) (node : Node T) → (with_links thread links node).row ≡ node.row
  row-with Order links node = refl
  row-with Watch links node = refl
  row-with Queue links node = refl

  pub birth-with : (thread : Thread) (links : Links) (node : Node T) → (with_links thread links node).born ≡ node.born
  birth-with Order links node = refl
  birth-with Watch links node = refl
  birth-with Queue links node = refl

  -- a node out of the queue
  pub links-left : (node : Node T) (other : Thread) → differ Queue other ≡ true → links_of other (Some (record node { queue = None })) ≡ links_of other (Some node)
  links-left node Order d = refl
  links-left node Watch d = refl
  links-left node Queue d = absurd (false≢true d)

  -- a node with the same links
  pub links-kept : (a b : Node T) → a.order ≡ b.order → a.watch ≡ b.watch → a.queue ≡ b.queue → (thread : Thread) → links_of thread (Some a) ≡ links_of thread (Some b)
  links-kept a b order watch queue Order = ap Some order
  links-kept a b order watch queue Watch = ap Some watch
  links-kept a b order watch queue Queue = queue

  -- what is linked is a node, and so is what has a row
  pub linked-row : (thread : Thread) (o : Option (Node T)) (l : Links) → links_of thread o ≡ Some l → (row : T) × (row_of o ≡ Some row)
  linked-row thread None l is = absurd (none-some l is)
  linked-row thread (Some node) l is = (node.row, refl)

  pub linked-birth : (thread : Thread) (o : Option (Node T)) (l : Links) → links_of thread o ≡ Some l → (born : ℕ) × (birth_of o ≡ Some born)
  linked-birth thread None l is = absurd (none-some l is)
  linked-birth thread (Some node) l is = (node.born, refl)

  pub linked-some : (thread : Thread) (o : Option (Node T)) (l : Links) → links_of thread o ≡ Some l → is_some o ≡ true
  linked-some thread None l is = absurd (none-some l is)
  linked-some thread (Some node) l is = refl

  pub row-some : (o : Option (Node T)) (row : T) → row_of o ≡ Some row → is_some o ≡ true
  row-some None row is = absurd (none-some row is)
  row-some (Some node) row is = refl

  pub target-some : {G : Type 0} (target_of : T → Option G) (o : Option (Node T)) (target : G) → option_and_then target_of (row_of o) ≡ Some target → is_some o ≡ true
  target-some target_of None target is = absurd (none-some target is)
  target-some target_of (Some node) target is = refl

  row-there : (o : Option (Node T)) → is_some (row_of o) ≡ is_some o
  row-there None = refl
  row-there (Some node) = refl

  -- where the rows are the same, a node is there as before
  pub same-some : (old new : Slab (Node T)) (slot : ℕ) → rows_in new ≡ rows_in old → is_some (get old slot) ≡ true → is_some (get new slot) ≡ true
  same-some old new slot same there =
      sym (row-there (get new slot)) ∙ ap (λ (f : ℕ → Option T). is_some (f slot)) same ∙ row-there (get old slot) ∙ there

  -- ---- all of them

  pub SameBut-refl : (thread : Thread) (nodes : Slab (Node T)) → SameBut thread nodes nodes
  SameBut-refl thread nodes = record { rows = refl; births = refl; links = λ _ _. refl; len = refl; capacity = refl }

  pub SameBut-trans : (thread : Thread) (a b c : Slab (Node T)) → SameBut thread a b → SameBut thread b c → SameBut thread a c
  SameBut-trans thread a b c first second = record {
    rows = second.rows ∙ first.rows;
    births = second.births ∙ first.births;
    links = λ other d. second.links other d ∙ first.links other d;
    len = second.len ∙ first.len;
    capacity = second.capacity ∙ first.capacity;
  }

  pub SameButBirths-refl : (nodes : Slab (Node T)) → SameButBirths nodes nodes
  SameButBirths-refl nodes = record { rows = refl; links = λ _. refl; len = refl; capacity = refl }

  pub SameButBirths-trans : (a b c : Slab (Node T)) → SameButBirths a b → SameButBirths b c → SameButBirths a c
  SameButBirths-trans a b c first second = record {
    rows = second.rows ∙ first.rows;
    links = λ thread. second.links thread ∙ first.links thread;
    len = second.len ∙ first.len;
    capacity = second.capacity ∙ first.capacity;
  }

  -- a slot that holds another node, or none
  pub get-updated : (old new : Slab (Node T)) (slot : ℕ) (o : Option (Node T)) → Updates old new slot o → get new ≡ written slot o (get old)
  get-updated old new slot o updates =
      written-from slot o (get old) (get new) updates.changed (λ t apart. updates.others t (λ is. eqb-false t slot apart is))

-- a write of a value that is there makes no more values
pub len-with_value : {X : Type 0} (s : Slab X) (key : ℕ) (value old : X) → get s key ≡ Some old → slab_len (with_value s key value) ≡ slab_len s
len-with_value {X} s key value old here =
    let within = ContainsKey-within s key (ap is_some here) in
    let sums : slab_len (with_value s key value) + cond {A = ℕ} (is_some (get s key)) 1 0 ≡ slab_len s + 1 =
    sum_by-set (λ (o : Option X). cond {A = ℕ} (is_some o) 1 0) s.slots key (Some value) None within in
    let had : cond {A = ℕ} (is_some (get s key)) 1 0 ≡ 1 = ap (λ (b : Bool). cond {A = ℕ} b 1 0) (ap is_some here) in
    omega (arith, sums, had)

module _ {T : Type 0} (nodes : Slab (Node T)) (slot : ℕ) (old new : Node T) (here : get nodes slot ≡ Some old) where
  abbrev put : Slab (Node T)
  put = with_value nodes slot new

  put-is : get put ≡ written slot (Some new) (get nodes)
  put-is = get-updated nodes put slot (Some new) (Updates-with_value nodes slot new (ap is_some here))

  -- what the node at a slot says that is written there, and what it says as before
  pub put-read : {B : Type 0} (h : Option (Node T) → Option B) (o : Option B) → h (Some new) ≡ o → reading h (get put) ≡ written slot o (reading h (get nodes))
  put-read h o e = ap (reading h) put-is ∙ through-written h slot (Some new) (get nodes) o e

  pub put-same : {B : Type 0} (h : Option (Node T) → Option B) → h (Some new) ≡ h (Some old) → reading h (get put) ≡ reading h (get nodes)
  put-same h e = ap (reading h) put-is ∙ through-same h slot (Some new) (get nodes) (e ∙ ap h (sym here))

  pub put-len : slab_len put ≡ slab_len nodes
  put-len = len-with_value nodes slot new old here

  pub SameBut-put : (thread : Thread) → new.row ≡ old.row → new.born ≡ old.born → ((other : Thread) → differ thread other ≡ true → links_of other (Some new) ≡ links_of other (Some old)) → SameBut thread nodes put
  SameBut-put thread row born links = record {
    rows = put-same row_of (ap Some row);
    births = put-same birth_of (ap Some born);
    links = λ other d. put-same (links_of other) (links other d);
    len = put-len;
    capacity = refl;
  }

  pub SameBut-linked : (thread : Thread) (links : Links) → new ≡ with_links thread links old → SameBut thread nodes put
  SameBut-linked thread links e =
      SameBut-put thread (ap (λ (n : Node T). n.row) e ∙ row-with thread links old) (ap (λ (n : Node T). n.born) e ∙ birth-with thread links old)
      (λ other d. ap (λ (n : Node T). links_of other (Some n)) e ∙ links-with_other thread other links old d)
