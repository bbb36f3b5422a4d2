-- `settled` meets its contract. Assumes nothing.
use mathlib.Core.Path.{ap}
use lib.Dec.{leb}
use Rattle.summary.specs.Consumed.{settled}
use Rattle.summary.proofs.settled.Goals as goal

pub returns : goal.returns
unfolding settled
returns c = ap (leb 3) c.stage_of.ensures
