-- `Run::stage_of` meets its contract. Assumes nothing.
use Rattle.std.proofs.Common.{sym, ap, ◌∙◌}
use Rattle.std.specs.Prelude.{Bool}
use Rattle.lists.specs.Tests.{pick}
use Rattle.run.specs.RunLaws.{stage_past}
use Rattle.run.proofs.Run.stage_of.Goals as goal

pub returns-else-well_formed : goal.returns-else-well_formed
returns-else-well_formed c =
    sym (stage_past _ c.if-self-eq0.false ∙ ap (λ (b : Bool). pick b c.args.self.now.stage 6) (sym c.well_formed-2.ensures ∙ c.if-well_formed.false))
