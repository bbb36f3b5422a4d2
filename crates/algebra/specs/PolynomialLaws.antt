-- Polynomials over a commutative ring, as lists of coefficients, the constant one first. Assumes nothing.
use Rattle.std.specs.Prelude.{◌≡◌, ◌≢◌, length}
use Rattle.std.proofs.Math.Path.{refl, sym, ap, ap₂}
use Rattle.std.proofs.Common.{◌∙◌}
use mathlib.Core.List.{List, [], ◌∷◌}
use Prim.Native.Nat.{ℕ, zero, suc, ◌+◌, ◌-◌, ◌≤◌, ◌<◌, max}
use native.Mathlib.Omega.{arith}
use Rattle.algebra.specs.Fold.{fold}
use Rattle.algebra.specs.FoldLaws.{big}
use Rattle.algebra.specs.RingLaws.{CommRing, Sum, zero_add, add_left_comm, mul_left_comm, add_mul, mul_zero, zero_mul, add_cancel, sub, eq_of_sub, add_sub, minus_self, unit_cancel}

module _ {A : Type 0} (R : CommRing A) where
  open R use {add as ◌⊕◌, mul as ◌⊗◌, neg, zero as 𝟘, one as 𝟙, add_assoc, add_comm, add_zero, mul_assoc, mul_add}

  infixl 60 ◌⊕◌
  infixl 70 ◌⊗◌
  -- the value at x
  unfoldable pub ev : List A → A → A
  ev [] x = 𝟘
  ev (c ∷ p) x = c ⊕ x ⊗ ev p x

  -- the sum, a multiple and the product
  padd : List A → List A → List A
  padd [] q = q
  padd (a ∷ p) [] = a ∷ p
  padd (a ∷ p) (b ∷ q) = (a ⊕ b) ∷ padd p q

  scale : A → List A → List A
  scale c [] = []
  scale c (a ∷ p) = (c ⊗ a) ∷ scale c p

  pmul : List A → List A → List A
  pmul [] q = []
  pmul (a ∷ []) q = scale a q
  pmul (a ∷ b ∷ p) q = padd (scale a q) (𝟘 ∷ pmul (b ∷ p) q)

  ev_padd : (p q : List A) (x : A) → ev (padd p q) x ≡ ev p x ⊕ ev q x
  unfolding ev padd
  ev_padd [] q x = sym (zero_add R (ev q x))
  ev_padd (a ∷ p) [] x = sym (add_zero (ev (a ∷ p) x))
  ev_padd (a ∷ p) (b ∷ q) x = ap (λ t. a ⊕ b ⊕ x ⊗ t) (ev_padd p q x) ∙ simp (mul_add, add_assoc, add_left_comm R b (x ⊗ ev p x))

  ev_scale : (c : A) (p : List A) (x : A) → ev (scale c p) x ≡ c ⊗ ev p x
  unfolding ev scale
  ev_scale c [] x = sym (mul_zero R c)
  ev_scale c (a ∷ p) x = ap (λ t. c ⊗ a ⊕ x ⊗ t) (ev_scale c p x) ∙ simp (mul_add, mul_left_comm R x c)

  ev_pmul : (p q : List A) (x : A) → ev (pmul p q) x ≡ ev p x ⊗ ev q x
  unfolding ev pmul
  ev_pmul [] q x = sym (zero_mul R (ev q x))
  ev_pmul (a ∷ []) q x = ev_scale a q x ∙ simp (ev, mul_zero, add_zero)
  ev_pmul (a ∷ b ∷ p) q x =
      ev_padd (scale a q) (𝟘 ∷ pmul (b ∷ p) q) x ∙ ap₂ (λ s t. s ⊕ (𝟘 ⊕ x ⊗ t)) (ev_scale a q x) (ev_pmul (b ∷ p) q x)
      ∙ simp (add_mul, mul_assoc, zero_add)

  length_padd : (p q : List A) → length (padd p q) ≡ max (length p) (length q)
  unfolding padd
  length_padd [] q = omega arith
  length_padd (a ∷ p) [] = omega arith
  length_padd (a ∷ p) (b ∷ q) = omega (arith, length_padd p q)

  length_scale : (c : A) (p : List A) → length (scale c p) ≡ length p
  unfolding scale
  length_scale c [] = refl
  length_scale c (a ∷ p) = ap suc (length_scale c p)

  length_pmul : (p q : List A) → length (pmul p q) ≤ length p + length q - 1
  unfolding pmul
  length_pmul [] q = omega arith
  length_pmul (a ∷ []) q = omega (arith, length_scale a q)
  length_pmul (a ∷ b ∷ p) q =
      omega (arith, length_padd (scale a q) (𝟘 ∷ pmul (b ∷ p) q), length_scale a q, length_pmul (b ∷ p) q)

  -- the quotient of c ∷ p by x - a, which does not depend on c
  quo : A → List A → List A
  quo a [] = []
  quo a (c ∷ p) = ev (c ∷ p) a ∷ quo a p

  length_quo : (a : A) (p : List A) → length (quo a p) ≡ length p
  unfolding quo
  length_quo a [] = refl
  length_quo a (c ∷ p) = ap suc (length_quo a p)

  division : (a d c : A) (p : List A) → ev (c ∷ p) (a ⊕ d) ≡ ev (c ∷ p) a ⊕ d ⊗ ev (quo a p) (a ⊕ d)
  unfolding ev quo
  division a d c [] = simp (ev, mul_zero, add_zero)
  division a d c (b ∷ p) =
      ap (λ t. c ⊕ (a ⊕ d) ⊗ t) (division a d b p) ∙ simp (mul_add, add_mul, add_assoc, add_left_comm R (d ⊗ b), mul_left_comm R a d)

  -- a polynomial function with at most n coefficients
  pub record Poly (n : ℕ) (f : A → A) : Type 0 where
    pub coeffs : List A
    pub short : length coeffs ≤ n
    pub agrees : (x : A) → ev coeffs x ≡ f x

  pub poly_cong : {n : ℕ} {f g : A → A} → ((x : A) → f x ≡ g x) → Poly n f → Poly n g
  poly_cong e p = record { coeffs = p.coeffs; short = p.short; agrees = λ x. p.agrees x ∙ e x }

  pub poly_le : {n m : ℕ} {f : A → A} → n ≤ m → Poly n f → Poly m f
  poly_le l p = record { coeffs = p.coeffs; short = omega arith; agrees = p.agrees }

  pub poly_list : {n : ℕ} (p : List A) → length p ≤ n → Poly n (ev p)
  poly_list p l = record { coeffs = p; short = l; agrees = λ x. refl }

  pub poly_zero : (n : ℕ) → Poly n (λ x. 𝟘)
  unfolding ev
  poly_zero n = record { coeffs = []; short = omega arith; agrees = λ x. refl }

  pub poly_const : (c : A) → Poly 1 (λ x. c)
  unfolding ev
  poly_const c = record { coeffs = c ∷ []; short = omega arith; agrees = λ x. simp (ev, mul_zero, add_zero) }

  -- (x - a) b
  pub poly_linear : (a b : A) → Poly 2 (λ x. sub R x a ⊗ b)
  unfolding ev sub
  poly_linear a b = record {
    coeffs = neg a ⊗ b ∷ b ∷ [];
    short = omega arith;
    agrees = λ x. simp (ev, mul_zero, add_zero, add_mul) (add_comm (neg a ⊗ b) (x ⊗ b));
  }

  pub poly_add : {n : ℕ} {f g : A → A} → Poly n f → Poly n g → Poly n (λ x. f x ⊕ g x)
  poly_add p q = record {
    coeffs = padd p.coeffs q.coeffs;
    short = omega (arith, length_padd p.coeffs q.coeffs);
    agrees = λ x. ev_padd p.coeffs q.coeffs x ∙ ap₂ ◌⊕◌ (p.agrees x) (q.agrees x);
  }

  pub poly_scale : {n : ℕ} {f : A → A} (c : A) → Poly n f → Poly n (λ x. c ⊗ f x)
  poly_scale c p = record {
    coeffs = scale c p.coeffs;
    short = omega (arith, length_scale c p.coeffs);
    agrees = λ x. ev_scale c p.coeffs x ∙ ap (λ t. c ⊗ t) (p.agrees x);
  }

  -- the degrees add up
  pub poly_mul : {n m : ℕ} {f g : A → A} → Poly n f → Poly m g → Poly (n + m - 1) (λ x. f x ⊗ g x)
  poly_mul p q = record {
    coeffs = pmul p.coeffs q.coeffs;
    short = omega (arith, length_pmul p.coeffs q.coeffs);
    agrees = λ x. ev_pmul p.coeffs q.coeffs x ∙ ap₂ ◌⊗◌ (p.agrees x) (q.agrees x);
  }

  pub poly_sum : {n : ℕ} (m : ℕ) {F : ℕ → A → A} → ((i : ℕ) → i < m → Poly n (F i)) → Poly n (λ x. big (Sum R) m (λ i. F i x))
  unfolding fold
  poly_sum {n} zero h = poly_zero n
  poly_sum (suc m) h = poly_add (poly_sum m (λ i l. h i (omega arith))) (h m (omega arith))

  -- a root is a factor
  root : (a c : A) (p : List A) → ev (c ∷ p) a ≡ 𝟘 → (x : A) → ev (c ∷ p) x ≡ sub R x a ⊗ ev (quo a p) x
  root a c p h x =
      (rw (add_sub R a x) at (division a (sub R x a) c p)) ∙ ap (λ t. t ⊕ sub R x a ⊗ ev (quo a p) x) h ∙ zero_add R (sub R x a ⊗ ev (quo a p) x)

  module _ (inv : A → A) where
    -- the differences of the first m points are units, with the inverses that `inv` gives
    abbrev pub Apart : ℕ → (ℕ → A) → Type 0
    Apart m pt = (i l : ℕ) → i < m → l < m → i ≢ l → sub R (pt i) (pt l) ⊗ inv (sub R (pt i) (pt l)) ≡ 𝟙

    -- at most m coefficients, and m roots
    pub vanish : (m : ℕ) (pt : ℕ → A) → Apart m pt → (p : List A) → length p ≤ m → ((i : ℕ) → i < m → ev p (pt i) ≡ 𝟘)
        → (x : A) → ev p x ≡ 𝟘
    unfolding ev
    vanish zero pt u [] l r x = refl
    vanish (suc m) pt u [] l r x = refl
    vanish zero pt u (c ∷ p) l r x = absurd (omega arith)
    vanish (suc m) pt u (c ∷ p) l r x =
        split x
        ∙ ap (λ t. sub R x (pt m) ⊗ t)
        (vanish m pt (λ i k hi hk. u i k (omega arith) (omega arith)) (quo (pt m) p) (omega (arith, length_quo (pt m) p)) other x)
        ∙ mul_zero R (sub R x (pt m))
      where
        split : (y : A) → ev (c ∷ p) y ≡ sub R y (pt m) ⊗ ev (quo (pt m) p) y
        split = root (pt m) c p (r m (omega arith))

        other : (i : ℕ) → i < m → ev (quo (pt m) p) (pt i) ≡ 𝟘
        other i h = unit_cancel R (u i m (omega arith) (omega arith) (omega arith)) (sym (split (pt i)) ∙ r i (omega arith))

    -- two polynomial functions that agree at as many points as they have coefficients agree everywhere
    pub poly_unique : (m : ℕ) (pt : ℕ → A) → Apart m pt → {f g : A → A} → Poly m f → Poly m g
        → ((i : ℕ) → i < m → f (pt i) ≡ g (pt i)) → (x : A) → f x ≡ g x
    poly_unique m pt u {f} {g} p q h x =
        let d : Poly m (λ y. f y ⊕ neg 𝟙 ⊗ g y) = poly_add p (poly_scale (neg 𝟙) q) in
        add_cancel R (neg 𝟙 ⊗ g x)
        (sym (d.agrees x)
        ∙ vanish m pt u d.coeffs d.short (λ i l. d.agrees (pt i) ∙ ap (λ t. t ⊕ neg 𝟙 ⊗ g (pt i)) (h i l) ∙ minus_self R (g (pt i))) x
        ∙ sym (minus_self R (g x)))

    -- points that differ are apart where every element but zero has its inverse
    pub apart_of_distinct : ((a : A) → a ≢ 𝟘 → a ⊗ inv a ≡ 𝟙)
        → (m : ℕ) (pt : ℕ → A) → ((i l : ℕ) → i < m → l < m → i ≢ l → pt i ≢ pt l) → Apart m pt
    apart_of_distinct u m pt d i l hi hl ne = u (sub R (pt i) (pt l)) (λ e. d i l hi hl ne (eq_of_sub R e))
