-- `Run::kept` meets its contract. Assumes nothing.
use Rattle.parameters.specs.ParameterLaws.{bounds_test}
use Rattle.run.specs.RunLaws.{formed_of, formed_batch}
use Rattle.run.proofs.Run.kept.Goals as goal

pub invariant_of-result : goal.invariant_of-result
invariant_of-result c = record { within = bounds_test (formed_of _ c.requires).bounds }

pub returns-clause-few : goal.returns-clause-few
returns-clause-few c = formed_batch (formed_of _ c.requires)
