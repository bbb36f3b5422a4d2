-- `put_set` meets its contract. The loop has added the fields of the members among the parties that it passed. Assumes nothing.
use Prim.Native.Nat.{◌-◌, ◌≤◌}
use Rattle.sets.specs.Masks.{has, members}
use Rattle.text.specs.Lines.{fields}
use Rattle.text.specs.Texts.{Added}
use Rattle.text.proofs.Page.put_set.Given as goal

abbrev pub invariant-loop-i : goal.invariant-loop-i
invariant-loop-i l = (l.i ≤ l.n) × Added l.initial.self l.self (fields (members l.i (has l.mask)))

abbrev pub decreases-loop-i : goal.decreases-loop-i
decreases-loop-i l = l.n - l.i
