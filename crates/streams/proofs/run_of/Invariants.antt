-- `run_of` meets its contract: the run with what is left comes to what the log comes to, and what is left gets shorter. Assumes nothing.
use Rattle.std.specs.Prelude.{◌≡◌, length}
use Rattle.reader.specs.Cutting.{run_of}
use Rattle.reader.specs.Turns.{run_from}
use Rattle.streams.proofs.run_of.Given as goal

abbrev pub invariant-loop-rest : goal.invariant-loop-rest
invariant-loop-rest l = run_from l.run l.rest ≡ run_of l.log

abbrev pub decreases-loop-rest : goal.decreases-loop-rest
decreases-loop-rest l = length l.rest
