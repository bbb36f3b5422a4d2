-- Lists of at most 64 scalars with their count, as the code passes them, and what their weights and values come to.
use Rattle.std.specs.Prelude.{List, ℕ, min, get_or}
use Rattle.algebra.specs.Fold.{fold}
use Rattle.lists.specs.Stores.{stored, filled}
use Rattle.field.specs.declared.Scalar.{Scalar}
use Rattle.field.specs.declared.Element.{Element}
use Rattle.field.specs.Definitions.{scalar, identity, plus, times, inverse, product, raise}
use Rattle.rows.specs.declared.Row.{Row}
use Rattle.rows.specs.declared.Basis.{Basis}
use Rattle.interpolation.specs.Definitions.{weight}
use Rattle.interpolation.proofs.WeightLaws.{differences}

-- the most scalars of a row
abbrev pub most_scalars : ℕ
most_scalars = 64

-- how many scalars a row has
unfoldable pub size : Row → ℕ
size r = min r.count most_scalars

-- scalar i of a row
unfoldable pub nth : Row → ℕ → Scalar
nth r i = get_or r.at i (scalar 0)

-- the row of f 0, .., f (m - 1), at most 64 of them
unfoldable pub listed : ℕ → (ℕ → Scalar) → Row
listed m f = record { at = stored (filled most_scalars (scalar 0)) 0 (min m most_scalars) f; count = min m most_scalars }

-- the weights at x of a row of points
unfoldable pub weights_of : Row → Scalar → Row
weights_of r x = listed (size r) (λ i. weight (nth r) (size r) i x)

-- what does not depend on x in weight i: the inverse of the product of point i's differences from the others
unfoldable pub scale : (ℕ → Scalar) → ℕ → ℕ → Scalar
scale pt m i = inverse (differences pt m i (pt i))

-- a row of points with their scales
unfoldable pub basis_of : Row → Basis
basis_of r = record { points = r; scales = listed (size r) (scale (nth r) (size r)) }

-- the weights at x of a basis
unfoldable pub weights_by : Basis → Scalar → Row
weights_by b x = listed (size b.points) (λ i. times (differences (nth b.points) (size b.points) i x) (nth b.scales i))

-- with a row of weights: the sum of weight × value, and the product of value^weight
unfoldable pub sum_of : Row → List Scalar → Scalar
sum_of w values = fold plus (scalar 0) (size w) (λ i. times (nth w i) (get_or values i (scalar 0)))

unfoldable pub product_of : Row → List Element → Element
product_of w values = fold product identity (size w) (λ i. raise (get_or values i identity) (nth w i))
