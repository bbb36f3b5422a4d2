-- `Kept::quorum` meets its contract. Assumes nothing.
use Rattle.std.proofs.Common.{arith}
use Rattle.parameters.specs.ParameterLaws.{bounds_of, quorum_max}
use Rattle.verification.proofs.Kept.quorum.Goals as goal

pub overflow_cast-result : goal.overflow_cast-result
overflow_cast-result c = omega (arith, c.quorum.ensures, quorum_max (bounds_of _ _ _ c.args.self.now.within))

pub returns : goal.returns
returns c = (c.quorum.ensures, omega (arith, c.quorum.ensures, quorum_max (bounds_of _ _ _ c.args.self.now.within)))
