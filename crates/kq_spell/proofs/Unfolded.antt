-- What the proofs of a function unfold together, by one name: to unfold it is to unfold all that its line names.
use Rattle.kq_model.specs.Spelling.{members_of, record_data}
use Rattle.kq_spell.specs.Again.{FitsRecord}

-- the members of a record
unfoldable pub spelling : Unit {0}
unfolding members_of record_data FitsRecord
spelling = tt
