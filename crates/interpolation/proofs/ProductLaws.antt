-- A product of powers of interpolated elements is the interpolation of the products of powers, whatever the numbers. Assumes nothing.
use Rattle.std.specs.Prelude.{◌≡◌, refl, Bool, ℕ}
use Rattle.std.proofs.Math.Path.{sym}
use Rattle.std.proofs.Common.{ap, ap₂, ◌∙◌}
use Rattle.std.proofs.Math.Bool.{true, false}
use mathlib.Core.HLevel.{Σ_prop_path}
use Rattle.algebra.specs.Fold.{fold}
use Rattle.algebra.specs.FoldLaws.{CommMonoid, big, fold_cong, fold_hom, fold_keeps, fold_swap}
use Rattle.lists.specs.Tests.{pick}
use Rattle.field.specs.declared.Scalar.{Scalar}
use Rattle.field.specs.declared.Element.{Element}
use Rattle.field.specs.Definitions.{Below, identity, product, raise, powered}
use Rattle.field.proofs.ElementLaws.{below_prop, identity_below, product_below, powered_below, product_assoc, product_comm, product_one, product_raise, product_powered, identity_raise, identity_powered, powered_raise}
use Rattle.interpolation.specs.Definitions.{weight, element_at}

-- ---- numbers below P multiply as a commutative monoid, elements or not

abbrev Factor : Type 0
Factor = (v : Element) × Below v

factor_path : {v w : Factor} → v.0 ≡ w.0 → v ≡ w
factor_path {v} {w} p = Σ_prop_path below_prop {u = v} {v = w} p

abbrev Products : CommMonoid Factor
Products = record {
  op = λ v w. (product v.0 w.0, product_below v.0 w.0);
  unit = (identity, identity_below);
  assoc = λ u v w. factor_path (product_assoc u.0 v.0 w.0);
  comm = λ v w. factor_path (product_comm v.0 w.0);
  op_unit = λ v. factor_path (product_one v.0 v.1);
}

-- products over rows or columns first
product_swap : (n m : ℕ) (f : ℕ → ℕ → Element) → ((i j : ℕ) → Below (f i j))
    → fold product identity n (λ i. fold product identity m (λ j. f i j)) ≡ fold product identity m (λ j. fold product identity n (λ i. f i j))
product_swap n m f h =
    sym (value n m (λ i j. (f i j, h i j))) ∙ ap (λ (z : Factor). z.0) (fold_swap Products n m (λ i j. (f i j, h i j))) ∙ value m n (λ j i. (f i j, h i j))
  where
    value : (k l : ℕ) (g : ℕ → ℕ → Factor) → (big Products k (λ i. big Products l (λ j. g i j))).0 ≡ fold product identity k (λ i. fold product identity l (λ j. (g i j).0))
    value k l g =
        fold_hom Products.op Products.unit product identity (λ (z : Factor). z.0) refl (λ a b. refl) k (λ i. big Products l (λ j. g i j))
        ∙ fold_cong product identity k
        (λ i c. fold_hom Products.op Products.unit product identity (λ (z : Factor). z.0) refl (λ a b. refl) l (λ j. g i j))

all_ones : (n : ℕ) → fold product identity n (λ i. identity) ≡ identity
all_ones n = fold_keeps product identity (λ (z : Element). z ≡ identity) refl (λ v w p q. ap₂ product p q ∙ product_one identity identity_below) n (λ i l. refl)

-- ---- the product over the i below n that pass a test of (f i at x)^(c i)

module _ (pt : ℕ → Scalar) (m n : ℕ) (test : ℕ → Bool) (f : ℕ → ℕ → Element) (c : ℕ → ℕ) (x : Scalar) where
  -- the factor of point v in that of i
  part : ℕ → ℕ → Element
  part i v = pick (test i) (powered (raise (f i v) (weight pt m v x)) (c i)) identity

  part_below : (i v : ℕ) → Below (part i v)
  unfolding part
  part_below i v = go (test i)
    where
      go : (b : Bool) → Below (pick b (powered (raise (f i v) (weight pt m v x)) (c i)) identity)
      go true = powered_below _ _
      go false = identity_below

  -- i's factor, point by point
  row_parts : (i : ℕ) → pick (test i) (powered (element_at pt m (f i) x) (c i)) identity ≡ fold product identity m (part i)
  unfolding element_at part
  row_parts i = go (test i)
    where
      go : (b : Bool) → pick b (powered (element_at pt m (f i) x) (c i)) identity
          ≡ fold product identity m (λ v. pick b (powered (raise (f i v) (weight pt m v x)) (c i)) identity)
      go true = fold_hom product identity product identity (λ (v : Element). powered v (c i)) (identity_powered (c i)) (λ v w. product_powered v w (c i)) m (λ v. raise (f i v) (weight pt m v x))
      go false = sym (all_ones m)

  -- point v's factor, i by i
  column_parts : (v : ℕ) → raise (fold product identity n (λ i. pick (test i) (powered (f i v) (c i)) identity)) (weight pt m v x) ≡ fold product identity n (λ i. part i v)
  unfolding part
  column_parts v =
      fold_hom product identity product identity (λ (z : Element). raise z (weight pt m v x)) (identity_raise _) (λ z w. product_raise z w _) n _
      ∙ fold_cong product identity n (λ i l. go i (test i))
    where
      go : (i : ℕ) (b : Bool) → raise (pick b (powered (f i v) (c i)) identity) (weight pt m v x) ≡ pick b (powered (raise (f i v) (weight pt m v x)) (c i)) identity
      go i true = powered_raise _ _ _
      go i false = identity_raise _

  pub element_at_combined : fold product identity n (λ i. pick (test i) (powered (element_at pt m (f i) x) (c i)) identity)
      ≡ element_at pt m (λ v. fold product identity n (λ i. pick (test i) (powered (f i v) (c i)) identity)) x
  unfolding element_at
  element_at_combined =
      fold_cong product identity n (λ i l. row_parts i) ∙ product_swap n m part part_below ∙ fold_cong product identity m (λ v l. sym (column_parts v))
