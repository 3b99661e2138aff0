-- A table that is empty is kept, and so is one that got more room.
use Rattle.std.proofs.Common.{◌≡◌, ℕ, ◌≤◌, Bool, [], Option, None, is_some, count_by, refl, sym, ap, ◌∙◌, subst, arith}
use Rattle.std.proofs.lemmas.Bool.{false≢true}
use Rattle.std.specs.HashMap.{HashMap, get as found}
use Rattle.std.specs.Map.{lookup}
use Rattle.slab.specs.Slab.{Slab, get, slab_len}
use Rattle.kq_table.specs.declared.node.Ends.{Ends}
use Rattle.kq_table.specs.declared.node.Node.{Node}
use Rattle.kq_table.specs.declared.node.Thread.TheVariants.{Watch, Queue}
use Rattle.kq_table.specs.Threads.{IsThread, row_of, links_of, rows_in, links_in}
use Rattle.kq_table.specs.Kept.{names_room, ends_of, watching, IsKept}

-- a map that has no entries has nothing of any name
pub found-empty : {K V S : Type 0} (same : K → K → Bool) (m : HashMap K V S) → m.entries ≡ [] → (key : K) → found same m key ≡ None
found-empty same m empty key = ap (λ es. lookup (same key) es) empty

module _ {K T G S R : Type 0} (same : K → K → Bool) (alike : G → G → Bool) (key_of : T → K) (target_of : T → Option G)
    (nodes : Slab (Node T)) (index : HashMap K ℕ S) (targets : HashMap G Ends R) (no_nodes : nodes.slots ≡ []) (no_keys : index.entries ≡ []) (no_targets : targets.entries ≡ []) where
  vacant : (slot : ℕ) → get nodes slot ≡ None
  vacant slot = ap (λ slots. get (record nodes { slots = slots }) slot) no_nodes

  pub no-len : slab_len nodes ≡ 0
  no-len = ap (count_by is_some) no_nodes

  pub kept-none : (none also : Ends) → none ≡ record { first = None; last = None } → also ≡ record { first = None; last = None } → IsKept same alike key_of target_of nodes index targets none also 0 0 0
  kept-none none also none_is also_is =
      let len = no-len in
      record {
        slots = [];
        waits = [];
        ordered = record { linked = tt; distinct = tt; first = ap (λ (e : Ends). e.first) none_is; last = ap (λ (e : Ends). e.last) none_is };
        whole = λ slot some. absurd (false≢true (sym (ap (λ o. is_some (row_of o)) (vacant slot)) ∙ some));
        entered = record {
          indexed = λ slot row there here. absurd (false≢true there);
          watched = λ g. subst (λ o. IsThread (links_in Watch nodes) (ends_of o) []) (sym (found-empty alike targets no_targets g)) (record { linked = tt; distinct = tt; first = refl; last = refl });
        };
        queued = record {
          thread = record { linked = tt; distinct = tt; first = ap (λ (e : Ends). e.first) also_is; last = ap (λ (e : Ends). e.last) also_is };
          whole = λ slot some. absurd (false≢true (sym (ap (λ o. is_some (links_of Queue o)) (vacant slot)) ∙ some));
          counted = refl;
        };
        born = omega arith;
        room = record {
          counted = len;
          within = omega arith;
          nodes_fit = omega arith;
          keys_fit = omega arith;
          targets_fit = omega arith;
        };
      }

module _ {K T G S R : Type 0} {same : K → K → Bool} {alike : G → G → Bool} {key_of : T → K} {target_of : T → Option G}
    {nodes : Slab (Node T)} {index : HashMap K ℕ S} {targets : HashMap G Ends R} {order queue : Ends} {waiting limit births : ℕ}
    (k : IsKept same alike key_of target_of nodes index targets order queue waiting limit births) where
  -- the same nodes and names, and more room
  roomier-at : {S' R' : Type 0} (capacity : ℕ) (noted : HashMap K ℕ S') (listed : HashMap G Ends R') (most : ℕ)
      → ((key : K) → found same noted key ≡ found same index key) → ((g : G) → found alike listed g ≡ found alike targets g)
      → limit ≤ most → most ≤ capacity → most ≤ names_room noted → most ≤ names_room listed
      → IsKept same alike key_of target_of (record nodes { capacity = capacity }) noted listed order queue waiting most births
  roomier-at capacity noted listed most noted_is listed_is up nodes_fit keys_fit targets_fit =
      let within = k.room.within in
      record {
        slots = k.slots;
        waits = k.waits;
        ordered = k.ordered;
        whole = k.whole;
        entered = record {
          indexed = λ slot row there here. noted_is (key_of row) ∙ k.entered.indexed slot row there here;
          watched = λ g. subst (λ o. IsThread (links_in Watch nodes) (ends_of o) (watching alike target_of g (rows_in nodes) k.slots)) (sym (listed_is g)) (k.entered.watched g);
        };
        queued = k.queued;
        born = k.born;
        room = record { counted = k.room.counted; within = omega arith; nodes_fit = nodes_fit; keys_fit = keys_fit; targets_fit = targets_fit };
      }

  pub roomier : {S' R' : Type 0} (more : Slab (Node T)) (noted : HashMap K ℕ S') (listed : HashMap G Ends R') (most : ℕ) → more ≡ record nodes { capacity = more.capacity }
      → ((key : K) → found same noted key ≡ found same index key) → ((g : G) → found alike listed g ≡ found alike targets g)
      → limit ≤ most → most ≤ more.capacity → most ≤ names_room noted → most ≤ names_room listed
      → IsKept same alike key_of target_of more noted listed order queue waiting most births
  roomier more noted listed most more_is noted_is listed_is up nodes_fit keys_fit targets_fit =
      subst (λ (n : Slab (Node T)). IsKept same alike key_of target_of n noted listed order queue waiting most births) (sym more_is)
      (roomier-at more.capacity noted listed most noted_is listed_is up nodes_fit keys_fit targets_fit)
