-- Points, weights and interpolation (document 01, "Points and weights").
use Rattle.std.specs.Prelude.{ℕ, ◌+◌, List, [], ◌∷◌, eqb}
use Rattle.algebra.specs.Fold.{fold}
use Rattle.lists.specs.Tests.{pick}
use Rattle.field.specs.declared.Scalar.{Scalar}
use Rattle.field.specs.declared.Element.{Element}
use Rattle.field.specs.Definitions.{scalar, identity, reduced, plus, minus, times, inverse, product, raise}

-- the integer x - y, taken modulo q
unfoldable pub point : ℕ → ℕ → Scalar
point x y = minus (reduced x) (reduced y)

-- holder or dealer j
unfoldable pub party : ℕ → Scalar
party j = point j 0

-- slot k (packed place, in document 01), the point 1 - k
unfoldable pub slot : ℕ → Scalar
slot k = point 1 k

-- committed value number v, counted from 0, is at v + 1 - a
unfoldable pub committed_point : ℕ → ℕ → Scalar
committed_point a v = point (v + 1) a

-- the factor of point l in weight i: (x - x_l) / (x_i - x_l), and none for l = i
unfoldable pub factor : (ℕ → Scalar) → ℕ → ℕ → Scalar → Scalar
factor pt i l x = pick (eqb l i) (scalar 1) (times (minus x (pt l)) (inverse (minus (pt i) (pt l))))

-- weight i at x of the m points pt 0, .., pt (m - 1)
unfoldable pub weight : (ℕ → Scalar) → ℕ → ℕ → Scalar → Scalar
weight pt m i x = fold times (scalar 1) m (λ l. factor pt i l x)

-- scalars interpolate as the sum of weight × value
unfoldable pub scalar_at : (ℕ → Scalar) → ℕ → (ℕ → Scalar) → Scalar → Scalar
scalar_at pt m f x = fold plus (scalar 0) m (λ i. times (weight pt m i x) (f i))

-- elements as the product of value^weight
unfoldable pub element_at : (ℕ → Scalar) → ℕ → (ℕ → Element) → Scalar → Element
element_at pt m g x = fold product identity m (λ i. raise (g i) (weight pt m i x))

-- a polynomial by its coefficients, the constant one first
unfoldable pub evaluate : List Scalar → Scalar → Scalar
evaluate [] x = scalar 0
evaluate (c ∷ p) x = plus c (times x (evaluate p x))
