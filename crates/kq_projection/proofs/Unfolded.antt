-- What the proofs of a function unfold together, by one name: to unfold it is to unfold all that its line names.
use Rattle.kq_model.specs.Items.{clock_whats}
use Rattle.kq_projection.specs.Sayings.{clock_of, span_to}
use Rattle.kq_projection.specs.RecordSubjects.{first_opened, second_number, second_opened, spoken_file, spoken_process}

unfoldable pub clocking : Unit {0}
unfolding clock_of span_to clock_whats
clocking = tt

unfoldable pub spoken : Unit {0}
unfolding first_opened second_number second_opened spoken_file spoken_process
spoken = tt
