use Rattle.std.proofs.Common.{ℕ, ◌∙◌}
use Rattle.kq_projection.proofs.FirstTracked.{first-plain, first-tracked}
use Rattle.kq_projection.proofs.history.splitting.Splitting.new.Goals as goal

pub returns : goal.returns
returns c =
    λ (version : ℕ). record {
      tracked = first-tracked version c.in_ok-world.world c.new-seen.result c.in_ok-world.ensures.world c.in_ok-world.ensures.last c.new-seen.ensures;
      said = c.new-said.ensures version;
      plain_is = c.new-plain.ensures.items ∙ first-plain version;
    }
