-- `Run::step` meets its contract: each arm is one handler. Assumes nothing.
use Rattle.std.specs.Prelude.{◌≡◌, true}
use Rattle.std.proofs.Common.{sym, ◌∙◌}
use Rattle.stages.specs.declared.Handler.{Handler}
use Rattle.run.specs.Runs.{well_formed}
use Rattle.run.specs.Steps.{handled}
use Rattle.run.proofs.Stages.{Past, step_by, formed_by}
use Rattle.run.proofs.Run.step.Goals as goal
use Rattle.run.proofs.Run.step.Goals.{After-taken_by-handler}

-- past stage 0 the run is well formed
formed : (c : After-taken_by-handler) {h : Handler} → c.taken_by-handler.result ≡ h → Past h → well_formed c.args.self ≡ true
formed c e = formed_by _ _ (sym e ∙ c.taken_by-handler.ensures) c.tag.ensures c.stage_of.ensures

pub take_dealing-requires : goal.take_dealing-requires
take_dealing-requires c = formed (goal.at.take_dealing-requires c).After-taken_by-handler c.in-TakeDealing.is tt

pub take_complaint-requires : goal.take_complaint-requires
take_complaint-requires c = formed (goal.at.take_complaint-requires c).After-taken_by-handler c.in-TakeComplaint.is tt

pub take_response-requires : goal.take_response-requires
take_response-requires c = formed (goal.at.take_response-requires c).After-taken_by-handler c.in-TakeResponse.is tt

pub returns-in-Refuse : goal.returns-in-Refuse
unfolding handled
returns-in-Refuse c =
    step_by c.args.self c.args.bytes.now (sym c.in-Refuse.is ∙ c.taken_by-handler.ensures) c.tag.ensures c.stage_of.ensures
