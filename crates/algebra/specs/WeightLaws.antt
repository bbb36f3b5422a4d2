-- The Lagrange weights of the points pt 0, .., pt (m - 1), and that interpolation with them is exact. Assumes nothing.
use Rattle.std.specs.Prelude.{◌≡◌, ◌≢◌, List, length}
use Rattle.std.proofs.Math.Path.{sym, ap}
use Rattle.std.proofs.Common.{◌∙◌, arith}
use Rattle.std.proofs.Math.Logic.{ite, if_pos, if_neg}
use Prim.Native.Nat.{ℕ, zero, suc, ◌≤◌, ◌<◌}
use Rattle.std.proofs.Math.Decide.{ℕ_discrete}
use Rattle.algebra.specs.Fold.{fold}
use Rattle.algebra.specs.FoldLaws.{big, fold_absorb, fold_units, fold_one}
use Rattle.algebra.specs.RingLaws.{CommRing, Sum, Prod, one_mul, mul_zero, zero_mul, sub, sub_self}
use Rattle.algebra.specs.PolynomialLaws.{ev, Poly, Apart, poly_cong, poly_le, poly_list, poly_const, poly_mul, poly_linear, poly_sum, poly_unique}

module _ {A : Type 0} (R : CommRing A) (inv : A → A) (pt : ℕ → A) where
  open R use {mul as ◌⊗◌, zero as 𝟘, one as 𝟙, mul_one}

  infixl 70 ◌⊗◌
  -- the factor of point l in weight i
  unfoldable pub factor : ℕ → ℕ → A → A
  factor i l x = ite (ℕ_discrete l i) 𝟙 (sub R x (pt l) ⊗ inv (sub R (pt i) (pt l)))

  -- weight i of the first m points at x: the product over l ≠ i
  unfoldable pub weight : ℕ → ℕ → A → A
  weight m i x = big (Prod R) m (λ l. factor i l x)

  -- 1 where l is i
  pub factor_self : (i l : ℕ) (x : A) → l ≡ i → factor i l x ≡ 𝟙
  unfolding factor
  factor_self i l x e = if_pos (ℕ_discrete l i) e 𝟙 (sub R x (pt l) ⊗ inv (sub R (pt i) (pt l)))

  -- (x - x_l) / (x_i - x_l) where it is not
  pub factor_other : (i l : ℕ) (x : A) → l ≢ i → factor i l x ≡ sub R x (pt l) ⊗ inv (sub R (pt i) (pt l))
  unfolding factor
  factor_other i l x ne = if_neg (ℕ_discrete l i) ne 𝟙 (sub R x (pt l) ⊗ inv (sub R (pt i) (pt l)))

  factor_poly : (i l : ℕ) → l ≢ i → Poly R 2 (factor i l)
  factor_poly i l ne = poly_cong R (λ x. sym (factor_other i l x ne)) (poly_linear R (pt l) (inv (sub R (pt i) (pt l))))

  -- one coefficient more while point i is not yet among the points
  weight_before : (m i : ℕ) → m ≤ i → Poly R (suc m) (weight m i)
  unfolding weight fold
  weight_before zero i h = poly_const R 𝟙
  weight_before (suc m) i h = poly_le R (omega arith) (poly_mul R (weight_before m i (omega arith)) (factor_poly i m (omega arith)))

  -- a polynomial function with at most m coefficients
  pub weight_poly : (m i : ℕ) → i < m → Poly R m (weight m i)
  unfolding weight fold
  weight_poly zero i h = absurd (omega arith)
  weight_poly (suc m) i h = go (ℕ_discrete m i) (λ k. weight_poly m i k)
    where
      go : Dec (m ≡ i) → (i < m → Poly R m (weight m i)) → Poly R (suc m) (weight (suc m) i)
      go (yes e) ih = poly_cong R (λ x. sym (ap (λ t. weight m i x ⊗ t) (factor_self i m x e) ∙ mul_one (weight m i x))) (weight_before m i (omega arith))
      go (no ne) ih = poly_le R (omega arith) (poly_mul R (ih (omega arith)) (factor_poly i m ne))

  -- the values f 0, .., f (m - 1) at x: the sum of weight × value
  unfoldable pub interpolate : ℕ → (ℕ → A) → A → A
  interpolate m f x = big (Sum R) m (λ i. weight m i x ⊗ f i)

  -- again with at most m coefficients
  pub interpolate_poly : (m : ℕ) (f : ℕ → A) → Poly R m (interpolate m f)
  unfolding interpolate
  interpolate_poly m f = poly_sum R m (λ i l. poly_le R (omega arith) (poly_mul R (weight_poly m i l) (poly_const R (f i))))

  module _ (m : ℕ) (apart : Apart R inv m pt) where
    -- 1 at its own point
    pub weight_self : (i : ℕ) → i < m → weight m i (pt i) ≡ 𝟙
    unfolding weight
    weight_self i h = fold_units (Prod R) m (λ l k. go l k (ℕ_discrete l i))
      where
        go : (l : ℕ) → l < m → Dec (l ≡ i) → factor i l (pt i) ≡ 𝟙
        go l k (yes e) = factor_self i l (pt i) e
        go l k (no ne) = factor_other i l (pt i) ne ∙ apart i l h k (omega arith)

    -- 0 at another point
    pub weight_other : (i j : ℕ) → j < m → j ≢ i → weight m i (pt j) ≡ 𝟘
    unfolding weight
    weight_other i j h ne =
        fold_absorb ◌⊗◌ 𝟙 𝟘 (mul_zero R) (zero_mul R) m j (λ l. factor i l (pt j)) h
        (factor_other i j (pt j) ne ∙ ap (λ t. t ⊗ inv (sub R (pt i) (pt j))) (sub_self R (pt j)) ∙ zero_mul R (inv (sub R (pt i) (pt j))))

    -- at a point of its own, the value there
    pub interpolate_at : (f : ℕ → A) (j : ℕ) → j < m → interpolate m f (pt j) ≡ f j
    unfolding interpolate
    interpolate_at f j h =
        fold_one (Sum R) m j h (λ i l ne. ap (λ t. t ⊗ f i) (weight_other i j h (omega arith)) ∙ zero_mul R (f i))
        ∙ ap (λ t. t ⊗ f j) (weight_self j h) ∙ one_mul R (f j)

    -- a polynomial function with at most m coefficients is interpolated to itself
    pub exact : {f : A → A} → Poly R m f → (x : A) → interpolate m (λ i. f (pt i)) x ≡ f x
    exact {f} p x = poly_unique R inv m pt apart (interpolate_poly m (λ i. f (pt i))) p (interpolate_at (λ i. f (pt i))) x

    -- the same of a list of coefficients
    pub exact_list : (p : List A) → length p ≤ m → (x : A) → interpolate m (λ i. ev R p (pt i)) x ≡ ev R p x
    exact_list p l x = exact (poly_list R p l) x
