-- `Run::untaken` meets its contract: for each handler the refusals but 15. Assumes nothing.
use Rattle.std.proofs.Common.{sym, ◌∙◌}
use Rattle.run.specs.Steps.{untaken_by}
use Rattle.run.proofs.Stages.{untaken_by_is}
use Rattle.run.proofs.Run.untaken.Goals as goal

pub returns-in-TakeResponse : goal.returns-in-TakeResponse
unfolding untaken_by
returns-in-TakeResponse c =
    let by = untaken_by_is c.args.self.now c.args.bytes.now (sym c.in-TakeResponse.is ∙ c.taken_by-handler.ensures) c.tag.ensures c.stage_of.ensures in
    c.untested.ensures ∙ by

pub returns-in-Refuse : goal.returns-in-Refuse
unfolding untaken_by
returns-in-Refuse c =
    untaken_by_is c.args.self.now c.args.bytes.now (sym c.in-Refuse.is ∙ c.taken_by-handler.ensures) c.tag.ensures c.stage_of.ensures
