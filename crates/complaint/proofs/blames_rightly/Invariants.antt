-- `blames_rightly` meets its contract. No dealer passed is blamed wrongly. Assumes nothing.
use mathlib.Core.Path.{◌≡◌}
use mathlib.Core.Bool.{Bool, true, not, ◌||◌}
use Prim.Native.Nat.{ℕ, ◌+◌, ◌-◌, ◌≤◌}
use Rattle.lists.specs.Tests.{all_to}
use Rattle.sets.specs.Masks.{has}
use Rattle.dealing.specs.declared.Dealings.{Dealings}
use Rattle.dealing.specs.Definitions.{may_blame}
use Rattle.complaint.proofs.blames_rightly.Given as goal

-- dealer i + 1 is not blamed, or rightly
abbrev pub rightly : Dealings → ℕ → ℕ → ℕ → Bool
rightly d j mask i = not (has mask (i + 1)) || may_blame d j (i + 1)

abbrev pub invariant-loop-i : goal.invariant-loop-i
invariant-loop-i l = (l.i ≤ l.n) × (all_to l.i (rightly l.dealings l.j l.mask) ≡ true)

abbrev pub decreases-loop-i : goal.decreases-loop-i
decreases-loop-i l = l.n - l.i
