-- Any record: what it keeps true, and what it does where each object's records are kept.
use Rattle.std.proofs.Common.{◌≡◌, ℕ, ◌+◌, ◌≤◌, refl, sym, arith}
use Rattle.std.proofs.lemmas.List.Elements.{All-weaker}
use Rattle.kq_model.specs.declared.act.Act.TheVariants as act
use Rattle.kq_model.specs.declared.event.Event.{Event}
use Rattle.kq_model.specs.declared.event.Event.TheVariants as event
use Rattle.kq_model.specs.CountedWorld.{IsCountedWorld, KeepsCounts, NamesBelow}
use Rattle.kq_model.specs.Holders.{made_names}
use Rattle.kq_model.specs.ListedFiles.{AreListed, KeepsLists}
use Rattle.kq_model.specs.ObjectRecordPlans.{plan_at}
use Rattle.kq_model.specs.Objects.{counted, listed}
use Rattle.kq_model.specs.Plans.{plan}
use Rattle.kq_model.specs.World.{World, Planned, Impossible, Possible, seen_world}
use Rattle.kq_model.proofs.CountedObjects.{listed-counts}
use Rattle.kq_model.proofs.CountedRecords.{counted-act, counted-at, counted-socket, counted-accept, counted-open, counted-pipe}
use Rattle.kq_model.proofs.CountedWorld.{counted-proc, counted-exec, counted-sigset, counted-sig, counted-clock_at, counted-fork, counted-exit, counted-kqueue, counted-dup, counted-close, counted-kevent}
use Rattle.kq_model.proofs.SeenWorld.{seen-carried_out}
use Rattle.kq_process.specs.Effects.{world_after, listed_after}
use Rattle.kq_process.specs.Uses.{act_on}
use Rattle.kq_process.specs.World.{last_of, world_of}
use Rattle.kq_process.specs.declared.uses.Use.{Use}
use Rattle.kq_process.specs.declared.uses.Use.TheVariants as use_of
use Rattle.kq_process.specs.declared.world.World as code
use Rattle.kq_process.proofs.Acted.{uses-make}

-- what was made before a place was made before every later one
pub counted-later : (next later : ℕ) (w : World counted) → next ≤ later → IsCountedWorld next w → IsCountedWorld later w
counted-later next later w le c = record {
  counts = c.counts;
  held = c.held;
  rising = c.rising;
  owned = c.owned;
  below = All-weaker (NamesBelow next) (NamesBelow later) (λ d below. omega (arith, below, le)) w.table c.below;
}

-- what the type keeps
pub counted-now : (w : code.World) → IsCountedWorld (last_of w + 1) (world_of w)
counted-now w = record {
  counts = w.state.sound.counted;
  held = w.state.sound.held;
  rising = w.rising;
  owned = w.owned;
  below = w.below;
}

module _ (place : ℕ) (w : World counted) where
  counted-use : (pid fd : ℕ) (what : Use) → KeepsCounts place w (plan_at place pid fd (act_on what) w)
  counted-use pid fd what = counted-at place pid fd (act_on what) w (λ n. uses-make what place n)

  pub counted-record : (e : Event) → KeepsCounts place w (plan place e w)
  unfolding plan made_names
  counted-record (event.Proc pid) = counted-proc place pid w
  counted-record (event.Fork pid child) = counted-fork place pid child w
  counted-record (event.Exit pid status) = counted-exit place pid status w
  counted-record (event.Kqueue pid fd) = counted-kqueue place pid fd w
  counted-record (event.Dup pid fd to) = counted-dup place pid fd to w
  counted-record (event.Close pid fd) = counted-close place pid fd w
  counted-record (event.Socket pid fd rcv snd) = counted-socket place pid fd rcv snd w
  counted-record (event.Listen pid fd backlog) = counted-use pid fd (use_of.Listen backlog)
  counted-record (event.Arrive pid fd) = counted-use pid fd use_of.Arrive
  counted-record (event.Accept pid fd to rcv snd) = counted-accept place pid fd to rcv snd w
  counted-record (event.Connect pid fd) = counted-use pid fd use_of.Connect
  counted-record (event.Rx pid fd n) = counted-use pid fd (use_of.Receive n)
  counted-record (event.Tx pid fd n) = counted-use pid fd (use_of.Transmit n)
  counted-record (event.Shut pid fd side error) = counted-use pid fd (use_of.Shut side error)
  counted-record (event.Lowat pid fd side n) = counted-use pid fd (use_of.LowWater side n)
  counted-record (event.Pipe pid rfd wfd size) = counted-pipe place pid rfd wfd size w
  counted-record (event.Read pid fd n) = counted-use pid fd (use_of.Read n)
  counted-record (event.Write pid fd n) = counted-use pid fd (use_of.Write n)
  counted-record (event.Exec pid) = counted-exec place pid w
  counted-record (event.Sigset pid sig ignore) = counted-sigset place pid sig ignore w
  counted-record (event.Sig pid sig) = counted-sig place pid sig w
  counted-record (event.File file size) = counted-act place (act.File file size) w refl
  counted-record (event.Open pid fd file mode) = counted-open place pid fd file mode w
  counted-record (event.Seek pid fd offset) = counted-use pid fd (use_of.Seek offset)
  counted-record (event.Truncate file size) = counted-act place (act.Truncate file size) w refl
  counted-record (event.Note file note) = counted-act place (act.Note file note) w refl
  counted-record (event.Clock ns) = counted-clock_at place ns w
  counted-record (event.Kevent pid fd changes room) = counted-kevent place pid fd changes room w

  -- an impossible record changes nothing
  pub counted-after : (p : Planned) → KeepsCounts place w p → IsCountedWorld place w → IsCountedWorld (place + 1) (world_after place p w)
  counted-after (Impossible why) keeps c = counted-later place (place + 1) w (omega arith) c
  counted-after (Possible p) keeps c = keeps.keeps c

-- the lists of all files stay as they have to be
pub lists-after : (place : ℕ) (w : World counted) (p : Planned) → KeepsLists place w p → IsCountedWorld place w → AreListed w.objects → AreListed (world_after place p w).objects
lists-after place w (Impossible why) keeps c l = l
lists-after place w (Possible p) keeps c l = keeps.keeps c l

pub listed-after : (place : ℕ) (p : Planned) (m : World listed) → world_after place p (seen_world m) ≡ seen_world (listed_after place p m)
listed-after place (Impossible why) m = refl
listed-after place (Possible p) m = sym (seen-carried_out listed-counts place p m)
