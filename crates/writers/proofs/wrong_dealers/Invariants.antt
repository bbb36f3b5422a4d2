-- `wrong_dealers` meets its contract. The loop's mask is the set of the wrong dealers passed. Assumes nothing.
use Rattle.std.proofs.Common.{◌≡◌}
use Rattle.sets.specs.Masks.{mask_of}
use Rattle.dealing.specs.Definitions.{may_blame}
use Rattle.writers.proofs.wrong_dealers.Given as goal

abbrev pub invariant-loop-i : goal.invariant-loop-i
invariant-loop-i l = l.mask ≡ mask_of l.i (may_blame l.run.dealings l.j)
