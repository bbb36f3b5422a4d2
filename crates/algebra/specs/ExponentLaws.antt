-- Interpolation in the exponent: a commutative monoid on which a commutative ring acts by exponents. Assumes nothing.
use Rattle.std.specs.Prelude.{◌≡◌}
use Rattle.std.proofs.Math.Path.{sym, ap}
use Rattle.std.proofs.Common.{ap₂, ◌∙◌, arith}
use Prim.Native.Nat.{ℕ, zero, suc, ◌+◌, ◌-◌, ◌≤◌, ◌<◌}
use Rattle.algebra.specs.Fold.{fold}
use Rattle.algebra.specs.FoldLaws.{CommMonoid, big, fold_cong, fold_hom, fold_units, fold_one, fold_op}
use Rattle.algebra.specs.RingLaws.{CommRing, Sum}
use Rattle.algebra.specs.PolynomialLaws.{Poly, Apart, poly_le, poly_mul}
use Rattle.algebra.specs.WeightLaws.{weight, weight_poly, weight_self, weight_other, interpolate, exact}

-- the elements of R as exponents of those of 𝓛
pub record Exponents {A G : Type 0} (R : CommRing A) (𝓖 : CommMonoid G) : Type 0 where
  pub pow : G → A → G
  pub pow_add : (g : G) (a b : A) → pow g (R.add a b) ≡ 𝓖.op (pow g a) (pow g b)
  pub pow_mul : (g : G) (a b : A) → pow (pow g a) b ≡ pow g (R.mul a b)
  pub op_pow : (g h : G) (a : A) → pow (𝓖.op g h) a ≡ 𝓖.op (pow g a) (pow h a)
  pub pow_one : (g : G) → pow g R.one ≡ g
  pub pow_zero : (g : G) → pow g R.zero ≡ 𝓖.unit
  pub unit_pow : (a : A) → pow 𝓖.unit a ≡ 𝓖.unit

module _ {A G : Type 0} {R : CommRing A} {𝓖 : CommMonoid G} (𝓔 : Exponents R 𝓖) where
  open R use {mul as ◌⊗◌}
  open 𝓖 use {op as ◌∗◌, unit as 𝟙}
  open 𝓔 use {pow as ◌^◌, pow_add, pow_mul, op_pow, pow_one, pow_zero, unit_pow}

  infixl 70 ◌⊗◌ ◌∗◌
  infixr 80 ◌^◌
  -- g to a sum is the product of the powers
  pub pow_sum : (g : G) (n : ℕ) (f : ℕ → A) → g ^ big (Sum R) n f ≡ big 𝓖 n (λ i. g ^ f i)
  pow_sum g = fold_hom R.add R.zero ◌∗◌ 𝟙 (λ a. g ^ a) (pow_zero g) (pow_add g)

  module _ (inv : A → A) (pt : ℕ → A) (m : ℕ) where
    -- the elements g 0, .., g (m - 1) at x: the product of value ^ weight
    unfoldable pub interp : (ℕ → G) → A → G
    interp g x = big 𝓖 m (λ i. g i ^ weight R inv pt m i x)

    pub interp_cong : {g h : ℕ → G} → ((i : ℕ) → i < m → g i ≡ h i) → (x : A) → interp g x ≡ interp h x
    unfolding interp
    interp_cong e x = fold_cong ◌∗◌ 𝟙 m (λ i l. ap (λ t. t ^ weight R inv pt m i x) (e i l))

    pub interp_unit : (x : A) → interp (λ i. 𝟙) x ≡ 𝟙
    unfolding interp
    interp_unit x = fold_units 𝓖 m (λ i l. unit_pow (weight R inv pt m i x))

    pub interp_op : (g h : ℕ → G) (x : A) → interp (λ i. g i ∗ h i) x ≡ interp g x ∗ interp h x
    unfolding interp
    interp_op g h x = fold_cong ◌∗◌ 𝟙 m (λ i l. op_pow (g i) (h i) (weight R inv pt m i x)) ∙ fold_op 𝓖 m _ _

    -- of powers of one element: its power by what the exponents interpolate to
    pub interp_pow : (g : G) (f : ℕ → A) (x : A) → interp (λ i. g ^ f i) x ≡ g ^ interpolate R inv pt m f x
    unfolding interp interpolate
    interp_pow g f x =
        fold_cong ◌∗◌ 𝟙 m (λ i l. pow_mul g (f i) (weight R inv pt m i x) ∙ ap (λ a. g ^ a) (R.mul_comm (f i) (weight R inv pt m i x)))
        ∙ sym (pow_sum g m (λ i. weight R inv pt m i x ⊗ f i))

  -- a product of powers whose exponents are polynomial functions with at most n coefficients
  pub data PolyG (n : ℕ) : (A → G) → Type 0 where
    poly_g_unit : PolyG n (λ x. 𝟙)
    poly_g_base : {f : A → A} (g : G) → Poly R n f → PolyG n (λ x. g ^ f x)
    poly_g_op : {h k : A → G} → PolyG n h → PolyG n k → PolyG n (λ x. h x ∗ k x)
    poly_g_cong : {h k : A → G} → ((x : A) → h x ≡ k x) → PolyG n h → PolyG n k

  pub poly_g_le : {n m : ℕ} {h : A → G} → n ≤ m → PolyG n h → PolyG m h
  poly_g_le l poly_g_unit = poly_g_unit
  poly_g_le l (poly_g_base g p) = poly_g_base g (poly_le R l p)
  poly_g_le l (poly_g_op p q) = poly_g_op (poly_g_le l p) (poly_g_le l q)
  poly_g_le l (poly_g_cong e p) = poly_g_cong e (poly_g_le l p)

  -- a power by a polynomial function with at most k coefficients
  pub poly_g_pow : {n k : ℕ} {h : A → G} {E : A → A} → PolyG n h → Poly R k E → PolyG (n + k - 1) (λ x. h x ^ E x)
  poly_g_pow {E = E} poly_g_unit q = poly_g_cong (λ x. sym (unit_pow (E x))) poly_g_unit
  poly_g_pow {E = E} (poly_g_base {f = f} g p) q = poly_g_cong (λ x. sym (pow_mul g (f x) (E x))) (poly_g_base g (poly_mul R p q))
  poly_g_pow {E = E} (poly_g_op {h = h} {k = k} p r) q = poly_g_cong (λ x. sym (op_pow (h x) (k x) (E x))) (poly_g_op (poly_g_pow p q) (poly_g_pow r q))
  poly_g_pow {E = E} (poly_g_cong e p) q = poly_g_cong (λ x. ap (λ t. t ^ E x) (e x)) (poly_g_pow p q)

  pub poly_g_big : {n : ℕ} (k : ℕ) {H : ℕ → A → G} → ((i : ℕ) → i < k → PolyG n (H i)) → PolyG n (λ x. big 𝓖 k (λ i. H i x))
  unfolding fold
  poly_g_big zero p = poly_g_unit
  poly_g_big (suc k) p = poly_g_op (poly_g_big k (λ i l. p i (omega arith))) (p k (omega arith))

  -- m elements interpolate with at most m coefficients
  pub interp_poly : (inv : A → A) (pt : ℕ → A) (m : ℕ) (g : ℕ → G) → PolyG m (interp inv pt m g)
  unfolding interp
  interp_poly inv pt m g = poly_g_big m (λ i l. poly_g_base (g i) (weight_poly R inv pt m i l))

  module _ (inv : A → A) (pt : ℕ → A) (m : ℕ) (apart : Apart R inv m pt) where
    -- at a point of its own, the element there
    pub interp_at : (g : ℕ → G) (j : ℕ) → j < m → interp inv pt m g (pt j) ≡ g j
    unfolding interp
    interp_at g j l =
        fold_one 𝓖 m j l
        (λ i k ne. ap (λ a. g i ^ a) (weight_other R inv pt m apart i j l (omega arith)) ∙ pow_zero (g i))
        ∙ ap (λ a. g j ^ a) (weight_self R inv pt m apart j l) ∙ pow_one (g j)

    -- what has at most m coefficients is interpolated to itself
    pub exact_g : {h : A → G} → PolyG m h → (x : A) → interp inv pt m (λ j. h (pt j)) x ≡ h x
    exact_g poly_g_unit x = interp_unit inv pt m x
    exact_g (poly_g_base {f = f} g p) x = interp_pow inv pt m g (λ j. f (pt j)) x ∙ ap (λ a. g ^ a) (exact R inv pt m apart p x)
    exact_g (poly_g_op {h = h} {k = k} p q) x = interp_op inv pt m (λ j. h (pt j)) (λ j. k (pt j)) x ∙ ap₂ ◌∗◌ (exact_g p x) (exact_g q x)
    exact_g (poly_g_cong e p) x = interp_cong inv pt m (λ j l. sym (e (pt j))) x ∙ exact_g p x ∙ e x
