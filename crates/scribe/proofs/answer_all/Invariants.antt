-- Each request takes some of what is left of the stream.
use Rattle.std.proofs.Common.{length}
use Rattle.scribe.proofs.answer_all.Given as goal

abbrev pub decreases-loop-rest : goal.decreases-loop-rest
decreases-loop-rest g l = length l.rest
