-- The subject of a knote is its filter, its ident and its target. No operation changes it, so whatever
-- holds of the subjects of all knotes goes on to hold; only a change that makes a knote brings a new one.
use Rattle.std.specs.Prelude.{◌≡◌, ℕ, List, Option, Some, All}
use Rattle.kq_model.specs.declared.change.Change.{Change}
use Rattle.kq_model.specs.declared.filter.Filter.{Filter}
use Rattle.kq_model.specs.declared.filter.Filter.TheVariants.{Proc}
use Rattle.kq_model.specs.declared.object.Target.{Target}
use Rattle.kq_model.specs.declared.object.Target.TheVariants.{Process}
use Rattle.kq_model.specs.Caller.{Caller}
use Rattle.kq_model.specs.ChangedKnote.{key_of}
use Rattle.kq_model.specs.Following.{Fork, forks_in}
use Rattle.kq_model.specs.Hearing.{Hearing}
use Rattle.kq_model.specs.Knote.{Knote, find_knote}
use Rattle.kq_model.specs.Kqueue.{Kqueue}
use Rattle.kq_model.specs.Registration.{Make, decision}
use Rattle.kq_model.specs.Targets.{Posted, target_of}

module _ {S : Type 0} {h : Hearing S} where
  abbrev pub HasSubject : (Filter → ℕ → Option Target → Type 0) → Knote h → Type 0
  HasSubject P k = P k.key.filter k.key.ident k.target

  abbrev pub HaveSubjects : (Filter → ℕ → Option Target → Type 0) → List (Knote h) → Type 0
  HaveSubjects P ks = All (HasSubject P) ks

  -- what the change would make has such a subject
  abbrev pub MakesSubject : (Filter → ℕ → Option Target → Type 0) → Caller → Change → Kqueue h → Type 0
  MakesSubject P caller c kq =
      decision caller (find_knote (key_of c) kq.knotes) c ≡ Make
      → P c.filter c.ident (target_of caller.views caller.owner c.filter c.ident)

-- The knote of a child has such a subject where that of its parent has. Each operation but this one takes what it
-- needs from the changes.
abbrev pub FollowsSubject : (Filter → ℕ → Option Target → Type 0) → Fork → Type 0
FollowsSubject P f = P Proc f.parent (Some (Process f.parent)) → P Proc f.child (Some (Process f.child))

abbrev pub FollowSubjects : (Filter → ℕ → Option Target → Type 0) → ℕ → List Posted → Type 0
FollowSubjects P version posted = All (FollowsSubject P) (forks_in version posted)

-- each knote that one of the changes may make has such a subject, whatever kqueue the change meets
abbrev pub MakeSubjects : {S : Type 0} (h : Hearing S) → (Filter → ℕ → Option Target → Type 0) → Caller
    → List Change
    → Type 0
MakeSubjects h P caller changes = All (λ c. (kq : Kqueue h) → MakesSubject P caller c kq) changes
