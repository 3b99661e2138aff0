-- A knote in the middle of a list, where keys differ, and what becomes of it.
use Rattle.std.proofs.Common.{◌≡◌, ℕ, ap₂, false, cond, not, List, [], ◌∷◌, ◌++◌, Option, Some, None, refl, sym, ap, ◌∙◌}
use Rattle.std.proofs.lemmas.List.{map-append}
use Rattle.std.proofs.lemmas.List.Elements.{filter-append}
use Rattle.kq_model.specs.declared.filter.Filter.{Filter}
use Rattle.kq_model.specs.declared.key.Key.{Key}
use Rattle.kq_model.specs.declared.object.Hint.{Hint}
use Rattle.kq_model.specs.Hearing.{Hearing}
use Rattle.kq_model.specs.Hints.{alerted}
use Rattle.kq_model.specs.Knote.{Knote, key_eq, find_knote, with_knote, without_knote}
use Rattle.kq_model.specs.Kqueue.{HaveOwnKeys}
use Rattle.kq_model.specs.Views.{Views}
use Rattle.kq_model.proofs.KeyLaws.{key_eq-refl, key_eq-sym}
use Rattle.std.proofs.lemmas.Option.{none-some}
use Rattle.kq_model.proofs.KnoteLaws.{found_or, find_knote-append, find_knote-here, find_knote-later, find_knote-none, find_knote-head, with_knote-absent, without_knote-absent}
use Rattle.kq_model.proofs.SubjectsCall.{IfIs, alerted-subject}

module _ {S : Type 0} {h : Hearing S} where
  -- no knote before it or behind it has its key
  pub apart-middle : (past : List (Knote h)) (k : Knote h) (ks : List (Knote h)) → HaveOwnKeys (past ++ k ∷ ks)
      → (find_knote k.key past ≡ None) × (find_knote k.key ks ≡ None)
  apart-middle [] k ks own = (find_knote-none h k.key, own.0)
  apart-middle (x ∷ past) k ks own =
      let rest = apart-middle past k ks own.1 in
      (find_knote-later k.key x past (before (find_knote x.key past) (sym (find_knote-append x.key past (k ∷ ks)) ∙ own.0)) ∙ rest.0, rest.1)
    where
      before : (found : Option (Knote h)) → found_or found (find_knote x.key (k ∷ ks)) ≡ None → key_eq k.key x.key ≡ false
      before None e = key_eq-sym k.key x.key ∙ find_knote-head x.key k ks e
      before (Some y) e = absurd (none-some y (sym e))

  -- ---- one knote in the middle

  pub found-middle : (past : List (Knote h)) (k : Knote h) (ks : List (Knote h)) → find_knote k.key past ≡ None → find_knote k.key (past ++ k ∷ ks) ≡ Some k
  found-middle past k ks fresh =
      find_knote-append k.key past (k ∷ ks) ∙ ap (λ f. found_or f (find_knote k.key (k ∷ ks))) fresh ∙ find_knote-here k.key k ks (key_eq-refl k.key)

  pub with-middle : (past : List (Knote h)) (k next : Knote h) (ks : List (Knote h)) → next.key ≡ k.key → find_knote k.key past ≡ None → find_knote k.key ks ≡ None
      → with_knote next (past ++ k ∷ ks) ≡ past ++ next ∷ ks
  with-middle past k next ks same fresh absent =
      map-append (λ x. cond (key_eq next.key x.key) next x) past (k ∷ ks)
      ∙ ap (λ before. before ++ with_knote next (k ∷ ks)) (with_knote-absent next past (ap (λ o. find_knote o past) same ∙ fresh))
      ∙ ap (λ b. past ++ cond b next k ∷ with_knote next ks) (ap (λ o. key_eq o k.key) same ∙ key_eq-refl k.key)
      ∙ ap (λ rest. past ++ next ∷ rest) (with_knote-absent next ks (ap (λ o. find_knote o ks) same ∙ absent))

  pub without-middle : (past : List (Knote h)) (k : Knote h) (ks : List (Knote h)) → find_knote k.key past ≡ None → find_knote k.key ks ≡ None
      → without_knote k.key (past ++ k ∷ ks) ≡ past ++ ks
  without-middle past k ks fresh absent =
      filter-append (λ x. not (key_eq k.key x.key)) past (k ∷ ks)
      ∙ ap (λ before. before ++ without_knote k.key (k ∷ ks)) (without_knote-absent k.key past fresh)
      ∙ ap (λ b. past ++ cond (not b) (k ∷ without_knote k.key ks) (without_knote k.key ks)) (key_eq-refl k.key)
      ∙ ap (λ rest. past ++ rest) (without_knote-absent k.key ks absent)

  -- a knote that heard hints has the key that it had
  abbrev pub HasKey : Key → Option (Knote h) → Type 0
  HasKey key None = Unit {0}
  HasKey key (Some k) = k.key ≡ key

  abbrev HasNames : Key → Option (Knote h) → Type 0
  HasNames key None = Unit {0}
  HasNames key (Some k) = (k.key.filter ≡ key.filter) × (k.key.ident ≡ key.ident)

  same_names : (key : Key) (o : Option (Knote h)) → HasNames key o → HasKey key o
  same_names key None is = tt
  same_names key (Some k) is = ap₂ (λ (i : ℕ) (f : Filter). keyed i f) is.1 is.0
    where
      keyed : ℕ → Filter → Key
      keyed i f = record { ident = i; filter = f }

  names_kept : (views : Views) (hints : List Hint) (k : Knote h) → HasNames k.key (alerted views hints k)
  names_kept views hints k = kept (alerted views hints k) (alerted-subject h (λ f i t. (f ≡ k.key.filter) × (i ≡ k.key.ident)) views hints k (refl, refl))
    where
      kept : (o : Option (Knote h)) → IfIs h (λ f i t. (f ≡ k.key.filter) × (i ≡ k.key.ident)) o → HasNames k.key o
      kept None is = tt
      kept (Some x) is = is

  pub alerted-key : (views : Views) (hints : List Hint) (k : Knote h) → HasKey k.key (alerted views hints k)
  alerted-key views hints k = same_names k.key (alerted views hints k) (names_kept views hints k)
