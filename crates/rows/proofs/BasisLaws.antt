-- That a basis has the weights of its points, and that the differences from all points but one are those from the points before and after it.
-- Assumes nothing.
use Rattle.std.specs.Prelude.{◌≡◌, ℕ, ◌-◌, ◌<◌}
use Rattle.std.proofs.Common.{ap, ap₂, ◌∙◌, arith}
use Rattle.algebra.specs.Fold.{fold}
use Rattle.algebra.specs.FoldLaws.{fold_cong}
use Rattle.field.specs.declared.Scalar.{Scalar}
use Rattle.field.specs.Definitions.{scalar, minus, times}
use Rattle.interpolation.specs.Definitions.{weight}
use Rattle.interpolation.proofs.WeightLaws.{differences, weight_is, differences_but}
use Rattle.rows.specs.declared.Row.{Row}
use Rattle.rows.specs.Definitions.{size, nth, listed, weights_of, scale, basis_of, weights_by}
use Rattle.rows.specs.BasisLaws.{partial_product, partial_products, reversed}
use Rattle.rows.proofs.RowLaws.{size_max, nth_listed, listed_cong}

-- the basis of a row of points has the weights of the row
pub weights_by_is : (r : Row) (x : Scalar) → weights_by (basis_of r) x ≡ weights_of r x
unfolding weights_by basis_of weights_of scale
weights_by_is r x =
    let pt = nth r in
    let m = size r in
    listed_cong m (λ i. times (differences pt m i x) (nth (listed m (scale pt m)) i)) (λ i. weight pt m i x)
    (λ i c. ap (λ (t : Scalar). times (differences pt m i x) t) (nth_listed m (scale pt m) i c (size_max r)) ∙ weight_is pt m i x)

-- ---- the points before and after one

-- the partial products of the points in the other order
reversed_products : (r : Row) (x : Scalar) (k : ℕ) → k < size r → nth (partial_products (reversed r) x) k ≡ fold times (scalar 1) k (λ l. minus x (nth r (size r - 1 - l)))
unfolding partial_products reversed listed size partial_product
reversed_products r x k h =
    nth_listed (size (reversed r)) (partial_product (reversed r) x) k (omega arith) (omega arith)
    ∙ fold_cong times (scalar 1) k (λ l c. ap (minus x) (nth_listed (size r) (λ i. nth r (size r - 1 - i)) l (omega arith) (omega arith)))

-- x's differences from all points but one, from the partial products of both orders
pub differences_split : (r : Row) (x : Scalar) (i : ℕ) → i < size r
    → times (nth (partial_products r x) i) (nth (partial_products (reversed r) x) (size r - 1 - i)) ≡ differences (nth r) (size r) i x
unfolding partial_products partial_product
differences_split r x i h =
    ap₂ times (nth_listed (size r) (partial_product r x) i h (size_max r)) (reversed_products r x (size r - 1 - i) (omega arith))
    ∙ differences_but (nth r) (size r) i x h
