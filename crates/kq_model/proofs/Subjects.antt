-- Every operation on one kqueue keeps what holds of the subjects of its knotes.
use Rattle.std.proofs.Common.{◌≡◌, ℕ, Bool, true, false, cond, not, List, [], ◌∷◌, filter, Option, Some, None, refl}
use Rattle.std.proofs.lemmas.Bool.{cond_both}
use Rattle.std.proofs.lemmas.List.Elements.{All-nil, All-cons, All-head, All-tail, All-append, All-filter}
use Rattle.kq_model.specs.declared.change.Change.{Change}
use Rattle.kq_model.specs.declared.errno.Errno.{Errno}
use Rattle.kq_model.specs.declared.filter.Filter.{Filter}
use Rattle.kq_model.specs.declared.filter.Filter.TheVariants.{Timer, User}
use Rattle.kq_model.specs.declared.key.Key.{Key}
use Rattle.kq_model.specs.declared.object.Target.{Target}
use Rattle.kq_model.specs.Bits.{asks, add, delete}
use Rattle.kq_model.specs.Caller.{Caller}
use Rattle.kq_model.specs.ChangedKnote.{key_of, fresh, started, begun, replaced, restarted, changed, switched, activated, attended, made, modified}
use Rattle.kq_model.specs.Hearing.{Hearing}
use Rattle.kq_model.specs.Knote.{Knote, key_eq, find_knote, with_knote, without_knote}
use Rattle.kq_model.specs.Kqueue.{Kqueue}
use Rattle.kq_model.specs.Look.{Seen, look}
use Rattle.kq_model.specs.Refusals.{is_malformed, is_unopened, own_refusal}
use Rattle.kq_model.specs.Registration.{Decision, Refuse, Remove, Make, Modify, unless_refused, decided, decision, carried_out, register}
use Rattle.kq_model.specs.Subjects.{HasSubject, HaveSubjects, MakesSubject}
use Rattle.kq_model.specs.Targets.{target_of}
use Rattle.kq_model.specs.Views.{Views}

module _ {S : Type 0} (h : Hearing S) (P : Filter → ℕ → Option Target → Type 0) where
  abbrev Is : Knote h → Type 0
  Is k = HasSubject P k

  abbrev Are : List (Knote h) → Type 0
  Are ks = HaveSubjects P ks

  -- ---- lists of knotes

  pub with_knote-subjects : (k : Knote h) (ks : List (Knote h)) → Is k → Are ks → Are (with_knote k ks)
  with_knote-subjects k [] has all = All-nil Is
  with_knote-subjects k (x ∷ ks) has all =
      All-cons Is (cond (key_eq k.key x.key) k x) (with_knote k ks)
      (cond_both (key_eq k.key x.key) k x Is (λ _. has) (λ _. All-head Is x ks all))
      (with_knote-subjects k ks has (All-tail Is x ks all))

  pub without_knote-subjects : (key : Key) (ks : List (Knote h)) → Are ks → Are (without_knote key ks)
  without_knote-subjects key ks all = All-filter (λ k. not (key_eq key k.key)) Is ks all

  pub filter-subjects : (test : Knote h → Bool) (ks : List (Knote h)) → Are ks → Are (filter test ks)
  filter-subjects test ks all = All-filter test Is ks all

  -- what is found
  abbrev IfIs : Option (Knote h) → Type 0
  IfIs None = Unit {0}
  IfIs (Some k) = Is k

  pub find_knote-subject : (key : Key) (ks : List (Knote h)) → Are ks → IfIs (find_knote key ks)
  unfolding find_knote
  find_knote-subject key [] all = tt
  find_knote-subject key (k ∷ ks) all =
      cond_both (key_eq key k.key) (Some k) (find_knote key ks) IfIs
      (λ _. All-head Is k ks all) (λ _. find_knote-subject key ks (All-tail Is k ks all))

  -- ---- one knote

  pub activated-subject : (seen : Option Seen) (k : Knote h) → Is k → Is (activated seen k)
  unfolding activated
  activated-subject None k has = has
  activated-subject (Some seen) k has = has

  attended-subject : (views : Views) (k : Knote h) → Is k → Is (attended views k)
  unfolding attended
  attended-subject views k has =
      cond_both k.enabled (activated (look views k) k) k Is (λ _. activated-subject (look views k) k has) (λ _. has)

  fresh-subject : (caller : Caller) (c : Change) → P c.filter c.ident (target_of caller.views caller.owner c.filter c.ident) → Is (fresh caller c)
  unfolding fresh
  fresh-subject caller c new = new

  begun-subject : (filter : Filter) (caller : Caller) (c : Change) (k : Knote h) → Is k → Is (begun filter caller c k)
  unfolding begun started
  begun-subject Timer caller c k has = has
  begun-subject User caller c k has = has
  begun-subject _ caller c k has = has

  replaced-subject : (c : Change) (k : Knote h) → Is k → Is (replaced c k)
  unfolding replaced
  replaced-subject c k has = cond_both (asks c.flags add) _ _ Is (λ _. has) (λ _. has)

  restarted-subject : (filter : Filter) (caller : Caller) (c : Change) (k : Knote h) → Is k → Is (restarted filter caller c k)
  unfolding restarted started
  restarted-subject Timer caller c k has = cond_both (asks c.flags add) _ _ Is (λ _. has) (λ _. has)
  restarted-subject _ caller c k has = has

  changed-subject : (filter : Filter) (c : Change) (k : Knote h) → Is k → Is (changed filter c k)
  unfolding changed
  changed-subject User c k has = has
  changed-subject _ c k has = has

  switched-subject : (c : Change) (k : Knote h) → Is k → Is (switched c k)
  unfolding switched
  switched-subject c k has = has

  pub made-subject : (caller : Caller) (c : Change) → P c.filter c.ident (target_of caller.views caller.owner c.filter c.ident) → Is (made caller c)
  unfolding made
  made-subject caller c new =
      attended-subject caller.views (begun c.filter caller c (fresh caller c))
      (begun-subject c.filter caller c (fresh caller c) (fresh-subject caller c new))

  pub modified-subject : (caller : Caller) (c : Change) (k : Knote h) → Is k → Is (modified caller c k)
  unfolding modified
  modified-subject caller c k has =
      attended-subject caller.views _ (switched-subject c _ (changed-subject c.filter c _
      (restarted-subject c.filter caller c _ (replaced-subject c k has))))

  -- ---- a registration

  -- a decision to modify is about a knote with such a subject
  abbrev Decides : Decision h → Type 0
  Decides (Refuse e) = Unit {0}
  Decides Remove = Unit {0}
  Decides Make = Unit {0}
  Decides (Modify k) = Is k

  unless_refused-subject : (e : Option Errno) (d : Decision h) → Decides d → Decides (unless_refused e d)
  unfolding unless_refused
  unless_refused-subject None d fine = fine
  unless_refused-subject (Some e) d fine = tt

  decided-subject : (caller : Caller) (present : Option (Knote h)) (c : Change) → IfIs present → Decides (decided caller present c)
  unfolding decided
  decided-subject caller None c has =
      cond_both (asks c.flags add) _ _ Decides (λ _. unless_refused-subject (own_refusal c.filter caller true c) Make tt) (λ _. tt)
  decided-subject caller (Some k) c has =
      cond_both (asks c.flags delete) _ _ Decides (λ _. tt)
      (λ _. cond_both (asks c.flags add) _ _ Decides (λ _. unless_refused-subject (own_refusal c.filter caller false c) (Modify k) has) (λ _. has))

  pub decision-subject : (caller : Caller) (present : Option (Knote h)) (c : Change) → IfIs present → Decides (decision caller present c)
  unfolding decision
  decision-subject caller present c has =
      cond_both (is_malformed c) _ _ Decides (λ _. tt)
      (λ _. cond_both (is_unopened caller c) _ _ Decides (λ _. tt) (λ _. decided-subject caller present c has))

  carried_out-subjects : (caller : Caller) (c : Change) (kq : Kqueue h) (d : Decision h) → Are kq.knotes → Decides d
      → (d ≡ Make → P c.filter c.ident (target_of caller.views caller.owner c.filter c.ident)) → Are (carried_out caller c kq d).kq.knotes
  unfolding carried_out
  carried_out-subjects caller c kq (Refuse e) all fine new = all
  carried_out-subjects caller c kq Remove all fine new = without_knote-subjects (key_of c) kq.knotes all
  carried_out-subjects caller c kq Make all fine new =
      All-append Is kq.knotes (made caller c ∷ []) all (All-cons Is (made caller c) [] (made-subject caller c (new refl)) (All-nil Is))
  carried_out-subjects caller c kq (Modify k) all fine new =
      with_knote-subjects (modified caller c k) kq.knotes (modified-subject caller c k fine) all

  pub register-subjects : (caller : Caller) (c : Change) (kq : Kqueue h) → Are kq.knotes → MakesSubject P caller c kq → Are (register caller c kq).kq.knotes
  unfolding register
  register-subjects caller c kq all new =
      carried_out-subjects caller c kq (decision caller (find_knote (key_of c) kq.knotes) c) all
      (decision-subject caller (find_knote (key_of c) kq.knotes) c (find_knote-subject (key_of c) kq.knotes all)) new
