-- All definitions of projection, opened at once: a proof by computation unfolds this one word.
use Rattle.std.specs.Prelude.{⊤}
use Rattle.kq_model.specs.Births.{birth_at, birth_by, births_from}
use Rattle.kq_model.specs.Moments.{world_by, plans_from, moment_by, moments_from, world_at}
use Rattle.kq_model.specs.OwnedRows.{same_kqueue, owned_rows, plain_by, plain_from}
use Rattle.kq_model.specs.PrivateList.{own_call, has_item}
use Rattle.kq_model.specs.References.{unless_file, named_target, references_in, references, descended, forks_at, pid_of, pids_in, is_process_of}
use Rattle.kq_model.specs.Replayed.{own_reply, rows_over}
use Rattle.kq_model.proofs.Opened.{system_opened}
use Rattle.kq_model.proofs.WorldPlayed.{world_opened}

unfoldable pub projection_opened : ⊤
unfolding system_opened world_opened
    birth_at birth_by births_from world_by plans_from moment_by moments_from world_at
    same_kqueue owned_rows plain_by plain_from own_call has_item
    unless_file named_target references_in references descended forks_at pid_of pids_in is_process_of own_reply rows_over
projection_opened = tt
