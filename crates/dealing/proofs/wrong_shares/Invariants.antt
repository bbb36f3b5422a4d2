-- `wrong_shares` meets its contract. The mask has the holders passed whose share does not fit. Assumes nothing.
use mathlib.Core.Path.{◌≡◌}
use Prim.Native.Nat.{◌-◌, ◌≤◌}
use Rattle.sets.specs.Masks.{mask_of}
use Rattle.parameters.specs.Definitions.{most_parties}
use Rattle.dealing.proofs.Shares.{unfit}
use Rattle.dealing.proofs.wrong_shares.Given as goal

abbrev pub invariant-loop-i : goal.invariant-loop-i
invariant-loop-i l = (l.i ≤ l.i-end) × (l.i-end ≤ most_parties) × (l.wrong ≡ mask_of l.i (unfit l.basis l.values l.bytes l.from))

abbrev pub decreases-loop-i : goal.decreases-loop-i
decreases-loop-i l = l.i-end - l.i
