use Rattle.std.proofs.Common.{Bor, sym, ◌∙◌}
use Rattle.std.specs.Option.{option_copied}
use Rattle.kq_process.specs.declared.process.Process.{Process}
use Rattle.kq_process.proofs.Told.{is_some_map, used_is}
use Rattle.kq_process.proofs.processes.Processes.was_used.Goals as goal

pub returns : goal.returns
returns c =
    let es = c.args.self.now.shelf in
    c.is_some.ensures ∙ sym (is_some_map (λ (process : Bor Process). process.now) c.get.result)
    ∙ used_is c.args.pid es (option_copied c.get.result) c.get.ensures.found
