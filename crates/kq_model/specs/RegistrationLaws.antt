-- What the registration of one change promises, in the words of its user (kqueue(2)).
use Rattle.std.specs.Prelude.{◌≡◌, ◌<◌, ℕ, Bool, true, false, ◌&&◌, List, [], ◌∷◌, ◌++◌, map}
use Rattle.std.specs.Option.{is_some}
use Rattle.kq_model.specs.declared.change.Change.{Change}
use Rattle.kq_model.specs.declared.key.Key.{Key}
use Rattle.kq_model.specs.Bits.{asks, delete}
use Rattle.kq_model.specs.ChangedKnote.{key_of}
use Rattle.kq_model.specs.Hearing.{Hearing}
use Rattle.kq_model.specs.Knote.{Knote, find_knote, without_knote, without_key}
use Rattle.kq_model.specs.Kqueue.{Kqueue}

module _ {S : Type 0} {h : Hearing S} where
  -- in order of registration
  abbrev pub keys_of : List (Knote h) → List Key
  keys_of knotes = map (λ k. k.key) knotes

  abbrev pub is_there : Key → Kqueue h → Bool
  is_there key kq = is_some (find_knote key kq.knotes)

  -- DELETE of a knote that is there
  abbrev pub is_removal : Change → Kqueue h → Bool
  is_removal c kq = asks c.flags delete && is_there (key_of c) kq

-- a change of the kqueue `kq` left it as `after`, and was answered with this error number, or 0
pub record IsRegistered {S : Type 0} {h : Hearing S} (c : Change) (kq after : Kqueue h) (error : ℕ) : Type 0 where
  -- a refused change changes nothing
  pub refused : 0 < error → after ≡ kq
  -- the knotes of other keys stay as they are, in their order
  pub other_knotes : without_knote (key_of c) after.knotes ≡ without_knote (key_of c) kq.knotes
  -- and their keys keep their order in the queue
  pub other_places : without_key (key_of c) after.queue ≡ without_key (key_of c) kq.queue
  -- a removal takes the knote out
  pub removed : error ≡ 0 → is_removal c kq ≡ true → is_there (key_of c) after ≡ false
  -- after any other change the knote is there
  pub there : error ≡ 0 → is_removal c kq ≡ false → is_there (key_of c) after ≡ true
  -- one that was there keeps its place in the order of registration, and there is no second one
  pub no_second : is_there (key_of c) kq ≡ true → is_removal c kq ≡ false
      → keys_of after.knotes ≡ keys_of kq.knotes
  -- a new one is the last
  pub last : error ≡ 0 → is_there (key_of c) kq ≡ false
      → keys_of after.knotes ≡ keys_of kq.knotes ++ key_of c ∷ []
