-- Any record stays within what it touches.
use Rattle.std.proofs.Common.{◌≡◌, ℕ, ◌||◌, ◌&&◌, true, false, eq-eqb, List, [], ◌∷◌, refl, ap, ap₂}
use Rattle.kq_model.specs.declared.event.Event.{Event}
use Rattle.kq_model.specs.declared.event.Event.TheVariants as event
use Rattle.kq_model.specs.declared.object.Target.{Target}
use Rattle.kq_model.specs.declared.object.Target.TheVariants as target
use Rattle.kq_model.specs.CountedWorld.{IsCountedWorld}
use Rattle.kq_model.specs.ListedFiles.{AreListed}
use Rattle.kq_model.specs.Objects.{counted}
use Rattle.kq_model.specs.Plans.{plan}
use Rattle.kq_model.specs.Targets.{target_eq}
use Rattle.kq_model.specs.World.{World}
use Rattle.kq_projection.specs.RecordSubjects.{first_number, first_opened, second_number, second_opened, spoken_process, spoken_file}
use Rattle.kq_projection.specs.Touched.{has_target}
use Rattle.kq_projection.specs.Within.{IsWithinRecord}
use Rattle.kq_projection.proofs.WithinRecords.{accept-within, at-within, close-within, clock-within, dup-within, exec-within, exit-within, file-within, first_there, fork-within, kevent-within, kqueue-within, open-within, pipe-within, proc-within, second_there, sig-within, sigset-within, socket-within}

process_there : (pid : ℕ) (ts : List Target) → has_target (target.Process pid) (target.Process pid ∷ ts) ≡ true
unfolding target_eq
process_there pid ts = ap (λ b. b || has_target (target.Process pid) ts) (eq-eqb pid pid refl)

file_there : (number : ℕ) (ts : List Target) → has_target (target.File number) (target.File number ∷ ts) ≡ true
unfolding target_eq
file_there number ts = ap (λ b. b || has_target (target.File number) ts) (eq-eqb number number refl)

pub any-within : (place : ℕ) (e : Event) (w : World counted) → IsCountedWorld place w → AreListed w.objects → IsWithinRecord e w (plan place e w)
unfolding plan first_number second_number first_opened second_opened spoken_process spoken_file
any-within place (event.Proc pid) w counts listed = proc-within _ _ _ w listed pid (process_there pid [])
any-within place (event.Fork pid child) w counts listed = fork-within _ _ _ w listed place pid child counts (process_there child [])
any-within place (event.Exit pid status) w counts listed = exit-within _ _ _ w listed pid status counts.rising (process_there pid [])
any-within place (event.Kqueue pid fd) w counts listed = kqueue-within _ _ _ w listed pid fd (first_there pid fd [])
any-within place (event.Dup pid fd to) w counts listed = dup-within _ _ _ w listed pid fd to (first_there pid to [])
any-within place (event.Close pid fd) w counts listed = close-within _ _ _ w listed pid fd
any-within place (event.Socket pid fd rcv snd) w counts listed = socket-within _ _ _ w listed place pid fd rcv snd (first_there pid fd [])
any-within place (event.Listen pid fd backlog) w counts listed = at-within _ _ _ w listed place pid fd _ (λ n. refl) (first_there pid fd []) refl
any-within place (event.Arrive pid fd) w counts listed = at-within _ _ _ w listed place pid fd _ (λ n. refl) (first_there pid fd []) refl
any-within place (event.Accept pid fd to rcv snd) w counts listed =
    accept-within _ _ _ w listed place pid fd to rcv snd (first_there pid fd ((pid, to) ∷ [])) (first_there pid to [])
    (λ apart. ap₂ (λ a b. (a && b) || false) (eq-eqb pid pid refl) apart)
any-within place (event.Connect pid fd) w counts listed = at-within _ _ _ w listed place pid fd _ (λ n. refl) (first_there pid fd []) refl
any-within place (event.Rx pid fd n) w counts listed = at-within _ _ _ w listed place pid fd _ (λ n. refl) (first_there pid fd []) refl
any-within place (event.Tx pid fd n) w counts listed = at-within _ _ _ w listed place pid fd _ (λ n. refl) (first_there pid fd []) refl
any-within place (event.Shut pid fd side error) w counts listed = at-within _ _ _ w listed place pid fd _ (λ n. refl) (first_there pid fd []) refl
any-within place (event.Lowat pid fd side n) w counts listed = at-within _ _ _ w listed place pid fd _ (λ n. refl) (first_there pid fd []) refl
any-within place (event.Pipe pid rfd wfd cap) w counts listed =
    pipe-within _ _ _ w listed place pid rfd wfd cap (first_there pid rfd ((pid, wfd) ∷ [])) (second_there pid wfd (pid, rfd) [])
any-within place (event.Read pid fd n) w counts listed = at-within _ _ _ w listed place pid fd _ (λ n. refl) (first_there pid fd []) refl
any-within place (event.Write pid fd n) w counts listed = at-within _ _ _ w listed place pid fd _ (λ n. refl) (first_there pid fd []) refl
any-within place (event.Exec pid) w counts listed = exec-within _ _ _ w listed pid
any-within place (event.Sigset pid sig ignore) w counts listed = sigset-within _ _ _ w listed pid sig ignore
any-within place (event.Sig pid sig) w counts listed = sig-within _ _ _ w listed pid sig
any-within place (event.File file size) w counts listed = file-within _ _ _ w listed place file _ refl (file_there file [])
any-within place (event.Open pid fd file mode) w counts listed = open-within _ _ _ w listed place pid fd file mode (first_there pid fd [])
any-within place (event.Seek pid fd offset) w counts listed = at-within _ _ _ w listed place pid fd _ (λ n. refl) (first_there pid fd []) refl
any-within place (event.Truncate file size) w counts listed = file-within _ _ _ w listed place file _ refl (file_there file [])
any-within place (event.Note file note) w counts listed = file-within _ _ _ w listed place file _ refl (file_there file [])
any-within place (event.Clock ns) w counts listed = clock-within _ _ _ w listed ns
any-within place (event.Kevent pid fd changes room) w counts listed = kevent-within _ _ _ w listed pid fd room changes
