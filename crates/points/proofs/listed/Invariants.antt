-- `listed` meets its contract. The loop has stored what the rule gave at the places passed. Assumes nothing.
use Rattle.std.proofs.Common.{◌≡◌, ℕ, ◌+◌, ◌<◌, List, length, take}
use Prim.Native.Nat.{min}
use Rattle.lists.specs.Stores.{stored, filled}
use Rattle.field.specs.declared.Scalar.{Scalar}
use Rattle.field.specs.Definitions.{scalar}
use Rattle.rows.specs.Definitions.{most_scalars}
use Rattle.points.proofs.listed.Given as goal

-- the array before the first store
abbrev pub empty : List Scalar
empty = filled most_scalars (scalar 0)

abbrev pub invariant-loop-v : goal.invariant-loop-v
invariant-loop-v g l =
    (l.m ≡ min l.count most_scalars) × (length l.place-items ≡ l.m) × ((f : ℕ → Scalar) → ((v : ℕ) → v < most_scalars → (x : Scalar) → goal.F-post g l.rule (v + 1) x → x ≡ f v) → l.place-items ≡ stored (take l.m empty) 0 l.v f)
