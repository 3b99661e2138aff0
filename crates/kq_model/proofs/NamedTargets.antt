-- Registration makes a knote only of a number that names something to watch.
use Rattle.std.proofs.Common.{◌≡◌, Bool, true, false, not, Option, Some, None, refl, sym, subst}
use Rattle.std.proofs.lemmas.Bool.{cond_both, true≢false}
use Rattle.std.proofs.lemmas.Option.{none-some}
use Rattle.std.specs.Option.{is_some}
use Rattle.kq_model.specs.declared.change.Change.{Change}
use Rattle.kq_model.specs.declared.errno.Errno.{Errno}
use Rattle.kq_model.specs.declared.errno.Errno.TheVariants.{EINVAL}
use Rattle.kq_model.specs.declared.filter.Filter.{Filter}
use Rattle.kq_model.specs.declared.filter.Filter.TheVariants.{Read, Write, Vnode}
use Rattle.kq_model.specs.declared.object.Named.{Named}
use Rattle.kq_model.specs.declared.object.Named.TheVariants as named
use Rattle.kq_model.specs.Bits.{asks, add, delete}
use Rattle.kq_model.specs.Caller.{Caller}
use Rattle.kq_model.specs.ChangedKnote.{key_of}
use Rattle.kq_model.specs.Hearing.{Hearing}
use Rattle.kq_model.specs.Knote.{Knote, find_knote, watches_number}
use Rattle.kq_model.specs.Kqueue.{Kqueue}
use Rattle.kq_model.specs.NamedTargets.{IsNamed}
use Rattle.kq_model.specs.Refusals.{is_malformed, is_unopened, own_refusal, invalid_if, is_readable, is_writable, is_file}
use Rattle.kq_model.specs.Registration.{Decision, Refuse, Remove, Make, Modify, unless_refused, decided, decision}
use Rattle.kq_model.specs.Subjects.{MakesSubject}
use Rattle.kq_model.specs.Targets.{named_in, object_of, file_of, target_of}

-- ---- what is not refused names something

pub valid : (b : Bool) → invalid_if (not b) ≡ None → b ≡ true
unfolding invalid_if
valid true e = refl
valid false e = absurd (none-some EINVAL (sym e))

readable-object : (n : Option Named) → is_readable n ≡ true → is_some (object_of n) ≡ true
unfolding is_readable object_of
readable-object (Some (named.Socket place)) e = refl
readable-object (Some (named.PipeRead place)) e = refl
readable-object (Some (named.Open description file)) e = refl
readable-object (Some (named.PipeWrite place)) e = absurd (true≢false (sym e))
readable-object (Some (named.Kqueue place)) e = absurd (true≢false (sym e))
readable-object None e = absurd (true≢false (sym e))

writable-object : (n : Option Named) → is_writable n ≡ true → is_some (object_of n) ≡ true
unfolding is_writable object_of
writable-object (Some (named.Socket place)) e = refl
writable-object (Some (named.PipeWrite place)) e = refl
writable-object (Some (named.PipeRead place)) e = absurd (true≢false (sym e))
writable-object (Some (named.Open description file)) e = absurd (true≢false (sym e))
writable-object (Some (named.Kqueue place)) e = absurd (true≢false (sym e))
writable-object None e = absurd (true≢false (sym e))

file-object : (n : Option Named) → is_file n ≡ true → is_some (file_of n) ≡ true
unfolding is_file file_of
file-object (Some (named.Open description file)) e = refl
file-object (Some (named.Socket place)) e = absurd (true≢false (sym e))
file-object (Some (named.PipeRead place)) e = absurd (true≢false (sym e))
file-object (Some (named.PipeWrite place)) e = absurd (true≢false (sym e))
file-object (Some (named.Kqueue place)) e = absurd (true≢false (sym e))
file-object None e = absurd (true≢false (sym e))

target-there : (filter : Filter) (caller : Caller) (c : Change) → own_refusal filter caller true c ≡ None → watches_number filter ≡ true
    → is_some (target_of caller.views caller.owner filter c.ident) ≡ true
unfolding own_refusal watches_number target_of
target-there Read caller c e watches = readable-object (named_in caller.views caller.owner c.ident) (valid _ e)
target-there Write caller c e watches = writable-object (named_in caller.views caller.owner c.ident) (valid _ e)
target-there Vnode caller c e watches = file-object (named_in caller.views caller.owner c.ident) (valid _ e)
target-there _ caller c e watches = absurd (true≢false (sym watches))

-- ---- a knote is made only where the filter does not refuse

module _ {S : Type 0} (h : Hearing S) (caller : Caller) (c : Change) where
  abbrev Unrefused : Decision h → Type 0
  Unrefused (Refuse e) = Unit {0}
  Unrefused Remove = Unit {0}
  Unrefused Make = own_refusal c.filter caller true c ≡ None
  Unrefused (Modify k) = Unit {0}

  make-unrefused : (e : Option Errno) → own_refusal c.filter caller true c ≡ e → Unrefused (unless_refused e Make)
  unfolding unless_refused
  make-unrefused None same = same
  make-unrefused (Some e) same = tt

  modify-unrefused : (e : Option Errno) (k : Knote h) → Unrefused (unless_refused e (Modify k))
  unfolding unless_refused
  modify-unrefused None k = tt
  modify-unrefused (Some e) k = tt

  decided-unrefused : (present : Option (Knote h)) → Unrefused (decided caller present c)
  unfolding decided
  decided-unrefused None =
      cond_both (asks c.flags add) _ _ Unrefused (λ _. make-unrefused (own_refusal c.filter caller true c) refl) (λ _. tt)
  decided-unrefused (Some k) =
      cond_both (asks c.flags delete) _ _ Unrefused (λ _. tt)
      (λ _. cond_both (asks c.flags add) _ _ Unrefused (λ _. modify-unrefused (own_refusal c.filter caller false c) k) (λ _. tt))

  pub decision-unrefused : (present : Option (Knote h)) → Unrefused (decision caller present c)
  unfolding decision
  decision-unrefused present =
      cond_both (is_malformed c) _ _ Unrefused (λ _. tt)
      (λ _. cond_both (is_unopened caller c) _ _ Unrefused (λ _. tt) (λ _. decided-unrefused present))

  -- so a change brings no knote but of a number that names its target
  pub makes-named : (kq : Kqueue h) → MakesSubject (IsNamed caller.views caller.owner) caller c kq
  makes-named kq makes watches =
      let unrefused = subst Unrefused makes (decision-unrefused (find_knote (key_of c) kq.knotes)) in
      (target-there c.filter caller c unrefused watches, refl)
