-- Which faults tell of the number of workers.
use Rattle.std.proofs.Common.{◌≡◌, ◌<◌, ◌⊎◌, ℕ, Result, Ok, Err, IfErr, subst}
use Rattle.std.specs.Result.{IsErrAnd}
use Rattle.kq_jobs.specs.Outcomes.{IsRunFault}
use Rattle.kq_projection.specs.declared.RunFault.{RunFault}

-- want of memory says nothing of the number of workers
pub memory_is_no_count : {A : Type 0} (r : Result A RunFault) (P : Type 0) → IsErrAnd r (λ f. f ≡ RunFault.Memory) → IfErr r (λ f. f ≡ RunFault.Workers → P)
memory_is_no_count (Ok x) P is = tt
memory_is_no_count (Err f) P is = λ workers. absurd (cc)

-- a fault that tells of the number of workers is told where that is out of range
pub workers_are_told : (count workers : ℕ) (f : RunFault) → IsRunFault count workers f
    → f ≡ RunFault.Workers → (workers ≡ 0) ⊎ (256 < workers)
workers_are_told count workers f told is = subst (λ (one : RunFault). IsRunFault count workers one) is told
