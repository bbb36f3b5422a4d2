-- Each bundle takes some of what is left of the input.
use Rattle.std.proofs.Common.{length}
use Rattle.collector.proofs.serve_all.Given as goal

abbrev pub decreases-loop-rest : goal.decreases-loop-rest
decreases-loop-rest g l = length l.rest
