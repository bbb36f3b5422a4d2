-- The differences from the points before one, and the points in the other order.
use Rattle.std.specs.Prelude.{ℕ, ◌-◌}
use Rattle.algebra.specs.Fold.{fold}
use Rattle.field.specs.declared.Scalar.{Scalar}
use Rattle.field.specs.Definitions.{scalar, minus, times}
use Rattle.rows.specs.declared.Row.{Row}
use Rattle.rows.specs.Definitions.{size, nth, listed}

-- the product of x's differences from the first i points
unfoldable pub partial_product : Row → Scalar → ℕ → Scalar
partial_product r x i = fold times (scalar 1) i (λ l. minus x (nth r l))

-- these for i below the count
unfoldable pub partial_products : Row → Scalar → Row
partial_products r x = listed (size r) (partial_product r x)

-- the points in the other order
unfoldable pub reversed : Row → Row
reversed r = listed (size r) (λ i. nth r (size r - 1 - i))
