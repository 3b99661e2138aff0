-- What is picked from the log by the sources of what concerns a kqueue is its private list by what it names, item by item.
use Rattle.std.proofs.Common.{◌≡◌, ℕ, Bool, cond, List, [], ◌∷◌, filter, refl, ap, ◌∙◌}
use Rattle.std.specs.List.{flat_map}
use Rattle.kq_model.specs.Births.{Birth}
use Rattle.kq_model.specs.Items as model
use Rattle.kq_model.specs.Moment.{Moment}
use Rattle.kq_model.specs.PrivateList.{private_by}
use Rattle.kq_model.specs.References.{Names}
use Rattle.kq_model.proofs.KnoteLaws.{by_test}
use Rattle.kq_model.proofs.PrivateItems.{private-items}
use Rattle.kq_projection.specs.declared.history.item.Item.{Item}
use Rattle.kq_projection.specs.declared.history.item.Source.{Source}
use Rattle.kq_projection.specs.Items.{bare, bare_items, is_from}
use Rattle.kq_projection.specs.Concerned.{IsConcerned}

-- a test of what was made bare, on the items as they were
filter-bare : (test : Item → Bool) (own : model.Item → Bool) → ((i : model.Item) → test (bare i) ≡ own i) → (items : List model.Item)
    → filter test (bare_items items) ≡ bare_items (filter own items)
filter-bare test own same [] = refl
filter-bare test own same (i ∷ items) =
    ap (λ b. cond b (bare i ∷ filter test (bare_items items)) (filter test (bare_items items))) (same i)
    ∙ by_test (λ b. cond b (bare i ∷ filter test (bare_items items)) (filter test (bare_items items)) ≡ bare_items (cond b (i ∷ filter own items) (filter own items))) (own i)
    (λ _. ap (λ rest. bare i ∷ rest) (filter-bare test own same items)) (λ _. filter-bare test own same items)

pub picked-private : (ns : Names) (ms : List Moment) (b : Birth) (owner : ℕ) (sources : List Source) → IsConcerned ns b owner sources
    → filter (is_from sources) (bare_items (model.all_items ms)) ≡ bare_items (flat_map model.items_of (private_by b.place b.owner ns ms))
picked-private ns ms b owner sources is =
    filter-bare (is_from sources) (λ (i : model.Item). model.is_own b.place b.owner ns i.what) (λ i. is.1 i.what) (model.all_items ms)
    ∙ ap bare_items (private-items b.place b.owner ns ms)
