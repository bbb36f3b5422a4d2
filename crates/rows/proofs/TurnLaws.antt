-- The product of values to their weights, one value a turn. Assumes nothing.
use Rattle.std.specs.Prelude.{◌≡◌, List, length, get_or}
use Rattle.std.proofs.Math.Path.{ap, ap₂}
use Rattle.std.proofs.Common.{sym, ◌∙◌}
use Prim.Native.Nat.{ℕ, ◌+◌, ◌≤◌, ◌<◌, min}
use native.Mathlib.Omega.{arith}
use Rattle.algebra.specs.Fold.{fold}
use Rattle.algebra.specs.FoldLaws.{fold_zero, fold_next}
use Rattle.lists.specs.StoreLaws.{get_d_default}
use Rattle.field.specs.declared.Scalar.{Scalar}
use Rattle.field.specs.declared.Element.{Element}
use Rattle.field.specs.Definitions.{scalar, identity, product, raise}
use Rattle.rows.specs.declared.Row.{Row}
use Rattle.interpolation.specs.Definitions.{weight}
use Rattle.rows.specs.Definitions.{most_scalars, size, nth, listed, weights_of, product_of}
use Rattle.rows.proofs.RowLaws.{weights_listed, listed_is}

-- the first k scalars of a row
unfoldable pub first : ℕ → Row → Row
first k w = record { at = w.at; count = k }

module _ (w : Row) (values : List Element) where
  -- value k to its weight
  abbrev power : ℕ → Element
  power k = raise (get_or values k identity) (nth w k)

  pub product_none : product_of (first 0 w) values ≡ identity
  unfolding product_of nth size first
  product_none = fold_zero product identity power

  -- the value read with any default, as there is one
  pub product_next : (k : ℕ) (d : Element) → k < most_scalars → k < length values
      → product_of (first (k + 1) w) values ≡ product (product_of (first k w) values) (raise (get_or values k d) (get_or w.at k (scalar 0)))
  unfolding product_of nth size first
  product_next k d l h =
      let more : min (k + 1) most_scalars ≡ k + 1 = omega arith in
      let same : k ≡ min k most_scalars = omega arith in
      ap (λ (n : ℕ). fold product identity n power) more
      ∙ fold_next product identity k power
      ∙ ap₂ (λ (n : ℕ) (v : Element). product (fold product identity n power) (raise v (nth w k))) same (get_d_default values k identity d h)

  -- all of them
  pub product_all : product_of (first (size w) w) values ≡ product_of w values
  unfolding product_of nth size first
  product_all =
      let same : min (min w.count most_scalars) most_scalars ≡ min w.count most_scalars = omega arith in
      ap (λ (n : ℕ). fold product identity n power) same

-- the weights of m points are m
pub first_weights : (m : ℕ) (pt : ℕ → Scalar) (x : Scalar) → m ≤ most_scalars → first m (weights_of (listed m pt) x) ≡ weights_of (listed m pt) x
unfolding first
first_weights m pt x h =
    let row = weights_listed m pt x h ∙ listed_is m (λ i. weight pt m i x) h in
    ap (first m) row ∙ sym row
