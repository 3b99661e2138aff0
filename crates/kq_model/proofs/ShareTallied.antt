-- The step of a share in tallies is that of the share of the system that keeps all that was recorded and heard.
use Rattle.std.proofs.Common.{◌≡◌, ◌∙◌, ℕ, Bool, cond, List, Option, Some, ap}
use Rattle.kq_model.specs.declared.event.Event.{Event}
use Rattle.kq_model.specs.declared.reply.Reply.{Reply}
use Rattle.kq_model.specs.declared.reply.Reply.TheVariants as reply
use Rattle.kq_model.specs.Hearing.{listed}
use Rattle.kq_model.specs.Tallying.{tallying}
use Rattle.kq_model.specs.Objects as objects
use Rattle.kq_model.specs.Objects.{counted}
use Rattle.kq_model.specs.Recast.{IsTalliedStep, recast_live, tally_of, tallied_system}
use Rattle.kq_model.specs.Shares.{own_step, share, share_step}
use Rattle.kq_model.specs.System.{Live, Stepped, System, step}
use Rattle.kq_model.proofs.CountedObjects.{listed-counts}
use Rattle.kq_model.proofs.RecastSystem.{recast_stepped, step-recast}
use Rattle.kq_model.proofs.RecastTally.{tally_of-map}
use Rattle.kq_model.proofs.Shares.{filter-map}

module _ (own : Option ℕ → Bool) where
  share-recast : (m : System listed objects.listed) → share own (tallied_system m) ≡ tallied_system (share own m)
  unfolding share
  share-recast m =
      ap (λ (live : List (Live tallying)). record (tallied_system m) { live = live })
      (filter-map (λ (l : Live tallying). own (Some l.place)) (recast_live tallying tally_of) m.live)

  abbrev tallied_stepped : Stepped listed objects.listed → Stepped tallying counted
  tallied_stepped t = recast_stepped tally_of-map listed-counts t

  own_step-recast : (t : Stepped listed objects.listed) → own_step own (tallied_stepped t) ≡ tallied_stepped (own_step own t)
  unfolding own_step
  own_step-recast t =
      ap (λ (s : System tallying counted). record { system = s; reply = cond (own t.kqueue) t.reply reply.Done; kqueue = t.kqueue })
      (share-recast t.system)

  pub share_step-tallied : (place : ℕ) (e : Event) (s after : System tallying counted) (r : Reply) (m : System listed objects.listed)
      → s ≡ tallied_system m → after ≡ (share_step own place e s).system → r ≡ (share_step own place e s).reply
      → IsTalliedStep after r (share_step own place e m)
  unfolding share_step
  share_step-tallied place e s after r m same became answered =
      let stepped = ap (λ (x : System tallying counted). own_step own (step place e x)) same
      ∙ ap (own_step own) (step-recast tally_of-map listed-counts place e m) ∙ own_step-recast (step place e m) in (
        became ∙ ap (λ (t : Stepped tallying counted). t.system) stepped,
        answered ∙ ap (λ (t : Stepped tallying counted). t.reply) stepped,
      )
