-- What a record does not touch keeps its view, in the whole world.
use Rattle.std.proofs.Common.{◌≡◌, ℕ, true, false, cond, eqb, ltb, List, [], ◌∷◌, map, Option, Some, None, refl, sym, ap, ◌∙◌}
use Rattle.std.proofs.lemmas.Bool.{or_parts, both_ways, ne_eqb}
use Rattle.kq_model.specs.declared.object.Target.{Target}
use Rattle.kq_model.specs.declared.object.Target.TheVariants as target
use Rattle.kq_model.specs.Objects.{counted}
use Rattle.kq_model.specs.Processes.{Process, Start, Exit, Disposition, process_of, started, with_start, with_process, without_process, disposed, with_disposition}
use Rattle.kq_model.specs.TouchedTargets.{starts, ends, is_touched}
use Rattle.kq_model.specs.World.{World, Plan, process_view, view_in, carried_out}
use Rattle.kq_model.proofs.KnoteLaws.{by_test}
use Rattle.kq_model.proofs.UntouchedViews.{untouched-all}

module _ (pid : ℕ) where
  -- ---- a list in which each process was changed

  kept-view : (f : Process → Process) → ((p : Process) → (f p).pid ≡ p.pid) → ((p : Process) → eqb p.pid pid ≡ true → (f p).exited ≡ p.exited) → (ps : List Process)
      → process_view (process_of pid (map f ps)) ≡ process_view (process_of pid ps)
  unfolding process_of process_view
  kept-view f same exited [] = refl
  kept-view f same exited (p ∷ ps) =
      ap (λ n. process_view (cond (eqb n pid) (Some (f p)) (process_of pid (map f ps)))) (same p)
      ∙ by_test (λ b. eqb p.pid pid ≡ b → process_view (cond b (Some (f p)) (process_of pid (map f ps))) ≡ process_view (cond b (Some p) (process_of pid ps))) (eqb p.pid pid)
      (λ _ is. ap (λ (gone : Option ℕ). process_view (Some (record p { exited = gone }))) (exited p is))
      (λ _ _. kept-view f same exited ps) refl

  disposed-view : (d : Option Disposition) (ps : List Process) → process_view (process_of pid (with_disposition d ps)) ≡ process_view (process_of pid ps)
  unfolding with_disposition
  disposed-view None ps = refl
  disposed-view (Some d) ps =
      kept-view (λ (p : Process). cond (eqb p.pid d.pid) (record p { ignores = disposed d.signal d.ignore p.ignores }) p)
      (λ p. by_test (λ b. (cond b (record p { ignores = disposed d.signal d.ignore p.ignores }) p).pid ≡ p.pid) (eqb p.pid d.pid) (λ _. refl) (λ _. refl))
      (λ p _. by_test (λ b. (cond b (record p { ignores = disposed d.signal d.ignore p.ignores }) p).exited ≡ p.exited) (eqb p.pid d.pid) (λ _. refl) (λ _. refl))
      ps

  ended-view : (e : Option Exit) (ps : List Process) → ends pid e ≡ false → process_view (process_of pid (without_process e ps)) ≡ process_view (process_of pid ps)
  unfolding without_process ends
  ended-view None ps other = refl
  ended-view (Some e) ps other =
      kept-view (λ (p : Process). cond (eqb p.pid e.pid) (record p { exited = Some e.status }) p)
      (λ p. by_test (λ b. (cond b (record p { exited = Some e.status }) p).pid ≡ p.pid) (eqb p.pid e.pid) (λ _. refl) (λ _. refl))
      (λ p is. ap (λ b. (cond b (record p { exited = Some e.status }) p).exited)
      (ne_eqb p.pid e.pid (λ same. both_ways (eqb e.pid pid) other (ap (λ n. eqb n pid) (sym same) ∙ is))))
      ps

  -- ---- a process that starts

  started-view : (s : Start) (ps : List Process) → eqb s.pid pid ≡ false → process_of pid (with_start s ps) ≡ process_of pid ps
  unfolding with_start process_of
  started-view s [] other = ap (λ b. cond b (Some (started s)) None) other
  started-view s (p ∷ ps) other =
      by_test (λ b. process_of pid (cond b (started s ∷ p ∷ ps) (p ∷ with_start s ps)) ≡ cond (eqb p.pid pid) (Some p) (process_of pid ps)) (ltb s.pid p.pid)
      (λ _. ap (λ b. cond b (Some (started s)) (cond (eqb p.pid pid) (Some p) (process_of pid ps))) other)
      (λ _. ap (λ rest. cond (eqb p.pid pid) (Some p) rest) (started-view s ps other))

  process-started : (s : Option Start) (ps : List Process) → starts pid s ≡ false → process_of pid (with_process s ps) ≡ process_of pid ps
  unfolding with_process starts
  process-started None ps other = refl
  process-started (Some s) ps other = started-view s ps other

  untouched-process : (p : Plan) (ps : List Process) → (starts pid p.started ≡ false) × (ends pid p.ended ≡ false)
      → process_view (process_of pid (with_process p.started (without_process p.ended (with_disposition p.disposed ps)))) ≡ process_view (process_of pid ps)
  untouched-process p ps others =
      ap process_view (process-started p.started (without_process p.ended (with_disposition p.disposed ps)) others.0)
      ∙ ended-view p.ended (with_disposition p.disposed ps) others.1
      ∙ disposed-view p.disposed ps

pub untouched-target : (t : Target) (place : ℕ) (p : Plan) (w : World counted) → is_touched t p w ≡ false → view_in (carried_out place p w) t ≡ view_in w t
unfolding is_touched view_in carried_out
untouched-target (target.Process pid) place p w other = untouched-process pid p w.processes (or_parts (starts pid p.started) (ends pid p.ended) other)
untouched-target (target.Socket at) place p w other = untouched-all (target.Socket at) p.doings w.objects other
untouched-target (target.Pipe at) place p w other = untouched-all (target.Pipe at) p.doings w.objects other
untouched-target (target.Open at) place p w other = untouched-all (target.Open at) p.doings w.objects other
untouched-target (target.File number) place p w other = untouched-all (target.File number) p.doings w.objects other
untouched-target (target.Signal of signal) place p w other = untouched-all (target.Signal of signal) p.doings w.objects other
untouched-target target.Own place p w other = untouched-all target.Own p.doings w.objects other
