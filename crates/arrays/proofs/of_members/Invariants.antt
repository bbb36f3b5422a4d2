-- `of_members` meets its contract. The loop has stored what the rule gave for the members passed. Assumes nothing.
use Rattle.std.proofs.Common.{◌≡◌, ℕ, ◌<◌}
use Rattle.sets.specs.Masks.{has}
use Rattle.field.specs.declared.Scalar.{Scalar}
use Rattle.field.specs.Definitions.{scalar}
use Rattle.arrays.specs.LoopLaws.{Passed}
use Rattle.arrays.proofs.of_members.Given as goal

abbrev pub invariant-loop-i : goal.invariant-loop-i
invariant-loop-i g l =
    Passed (scalar 0) (λ f. (j : ℕ) → j < 256 → (x : Scalar) → goal.F-post g l.rule j x → x ≡ f j) (has l.set) l.i l.count l.at
