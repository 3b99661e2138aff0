-- What tells keys of tables apart at a glance: less than a whole key, since a table compares those whose hashes agree.
use Rattle.std.specs.Prelude.{ℕ, List, [], ◌++◌}
use Rattle.std.specs.Hash as fed
use Rattle.kq_model.specs.declared.object.Target.{Target}
use Rattle.kq_model.specs.declared.object.Target.TheVariants as target

-- of a target its place or its numbers, without what kind it is
unfoldable pub hashed_target : Target → List (List ℕ)
hashed_target (target.Socket place) = fed.u64 place
hashed_target (target.Pipe place) = fed.u64 place
hashed_target (target.Open place) = fed.u64 place
hashed_target (target.File number) = fed.u32 number
hashed_target (target.Process pid) = fed.u32 pid
hashed_target (target.Signal pid signal) = fed.u32 pid ++ fed.u32 signal
hashed_target target.Own = []
