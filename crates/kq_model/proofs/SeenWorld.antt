-- What is seen of a world, however its objects are kept, is a world whose objects keep quantities alone;
-- it stays so by every plan, and at every moment kqueues see the same.
use Rattle.std.specs.Prelude.{◌≡◌, ℕ, Option, Some, None}
use Rattle.std.proofs.Common.{refl, sym, ap, ◌∙◌}
use Rattle.std.proofs.Math.Path.{fun_ext}
use Rattle.std.specs.Option.{option_map}
use Rattle.kq_model.specs.Descriptors.{with_descriptors, without_closed}
use Rattle.kq_model.specs.Moment.{Moment, moment_of}
use Rattle.kq_model.specs.Objects.{Keeping, Objects, counted, quantities}
use Rattle.kq_model.specs.Processes.{with_process, without_process, with_disposition}
use Rattle.kq_model.specs.World.{World, Plan, carried_out, seen_world, views_of, with_kqueue, clock_after}
use Rattle.kq_model.proofs.CountedObjects.{CountsAll, all_done-quantities}

-- ---- what is seen is seen as it is

as_it_is : {X : Type 0} (x : Option X) → option_map (λ y. y) x ≡ x
as_it_is None = refl
as_it_is (Some x) = refl

quantities-again : (o : Objects counted) → quantities o ≡ o
quantities-again o =
    ap (λ f. record (quantities o) { socket = f }) (fun_ext (λ place. as_it_is (o.socket place)))
    ∙ ap (λ f. record o { pipe = f; description = λ place. option_map (λ y. y) (o.description place); file = λ n. option_map (λ y. y) (o.file n) }) (fun_ext (λ place. as_it_is (o.pipe place)))
    ∙ ap (λ f. record o { description = f; file = λ n. option_map (λ y. y) (o.file n) }) (fun_ext (λ place. as_it_is (o.description place)))
    ∙ ap (λ f. record o { file = f }) (fun_ext (λ n. as_it_is (o.file n)))

-- of a world that keeps quantities alone, all is seen
pub seen-counted : (w : World counted) → seen_world w ≡ w
seen-counted w = ap (λ (o : Objects counted). record w { objects = o }) (quantities-again w.objects)

module _ {A B C D : Type 0} {k : Keeping A B C D} (counts : CountsAll k) where
  pub seen-again : (w : World k) → seen_world (seen_world w) ≡ seen_world w
  seen-again w = ap (λ (o : Objects counted). record (seen_world w) { objects = o }) (quantities-again (quantities w.objects))

  -- ---- a plan is carried out alike

  pub seen-carried_out : (place : ℕ) (p : Plan) (w : World k)
      → seen_world (carried_out place p w) ≡ carried_out place p (seen_world w)
  unfolding carried_out
  seen-carried_out place p w = ap (λ (o : Objects counted). record {
    processes = with_process p.started (without_process p.ended (with_disposition p.disposed w.processes));
    table = with_kqueue place p.born (with_descriptors p.opened (without_closed p.closed w.table));
    objects = o;
    now = clock_after p.clock w.now;
  }) (all_done-quantities k counts p.doings w.objects)

  abbrev with_views : ℕ → ℕ → Plan → World counted → Moment
  with_views version place p w = record {
    place = place;
    version = version;
    closed = p.closed;
    hints = p.hints;
    clock = p.clock;
    call = p.call;
    views = views_of w;
  }

  pub moment-seen : (version place : ℕ) (p : Plan) (w : World k)
      → moment_of version place p (seen_world w) ≡ moment_of version place p w
  unfolding moment_of
  moment-seen version place p w =
      ap (λ v. with_views version place p (seen_world v)) (sym (seen-carried_out place p w))
      ∙ ap (with_views version place p) (seen-again (carried_out place p w))
