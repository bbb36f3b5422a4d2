-- Polynomial functions of scalars, and that interpolation is exact for them. Assumes nothing.
use mathlib.Core.Path.{◌≡◌, refl, sym, ap, ◌∙◌}
use Rattle.std.specs.Prelude.{List, [], ◌∷◌, map, ℕ, ◌≤◌, length}
use Rattle.std.proofs.Common.{arith}
use Rattle.std.proofs.lemmas.List.{length-map}
use Rattle.algebra.specs.PolynomialLaws.{ev, Poly, poly_const, poly_list}
use Rattle.algebra.specs.WeightLaws as A
use Rattle.field.specs.declared.Scalar.{Scalar}
use Rattle.field.specs.Definitions.{IsScalar, plus, times}
use Rattle.field.proofs.ScalarLaws.{plus_reduced_left, times_reduced_left}
use Rattle.interpolation.specs.Definitions.{scalar_at, evaluate}
use Rattle.interpolation.proofs.StructureLaws.{Residue, residue, Zq, inv}
use Rattle.interpolation.proofs.PointLaws.{DistinctPoints, residues, residue_of, apart, scalar_at_val}

-- f is a polynomial function with at most n coefficients, of degree below n
pub record Polynomial (n : ℕ) (f : Scalar → Scalar) : Type 0 where
  pub lift : Residue → Residue
  pub poly : Poly Zq n lift
  pub agrees : (x : Scalar) → (lift (residue x)).0 ≡ f x

pub polynomial_constant : (c : Scalar) → IsScalar c → Polynomial 1 (λ x. c)
polynomial_constant c h = record { lift = λ x. (c, h); poly = poly_const Zq (c, h); agrees = λ x. refl }

-- m scalars interpolate to one of degree below m
pub polynomial_interpolated : (pt : ℕ → Scalar) (m : ℕ) (f : ℕ → Scalar) → Polynomial m (scalar_at pt m f)
polynomial_interpolated pt m f = record {
  lift = A.interpolate Zq inv (residues pt) m (λ v. residue (f v));
  poly = A.interpolate_poly Zq inv (residues pt) m (λ v. residue (f v));
  agrees = scalar_at_val pt m f;
}

evaluate_val : (p : List Scalar) (x : Scalar) → (ev Zq (map residue p) (residue x)).0 ≡ evaluate p x
unfolding ev evaluate
evaluate_val [] x = refl
evaluate_val (c ∷ p) x =
    plus_reduced_left c _ ∙ ap (plus c) (times_reduced_left x _ ∙ ap (times x) (evaluate_val p x))

-- a list of at most n coefficients
pub polynomial_list : {n : ℕ} (p : List Scalar) → length p ≤ n → Polynomial n (evaluate p)
polynomial_list p l = record {
  lift = ev Zq (map residue p);
  poly = poly_list Zq (map residue p) (omega (arith, length-map p residue));
  agrees = evaluate_val p;
}

-- ---- exactness

-- a polynomial of degree below m is interpolated exactly from its values at m distinct points
pub exact : (pt : ℕ → Scalar) (m : ℕ) → DistinctPoints m pt → {f : Scalar → Scalar} → Polynomial m f → (x : Scalar) → scalar_at pt m (λ i. f (pt i)) x ≡ f x
exact pt m d {f} p x =
    sym (scalar_at_val pt m (λ i. f (pt i)) x)
    ∙ ap (λ (g : ℕ → Residue). (A.interpolate Zq inv (residues pt) m g (residue x)).0) (mathlib.Core.Path.fun_ext (λ i. ap residue (sym (p.agrees (pt i))) ∙ residue_of (p.lift (residue (pt i)))))
    ∙ ap (λ (z : Residue). z.0) (A.exact Zq inv (residues pt) m (apart pt m d) p.poly (residue x))
    ∙ p.agrees x

pub exact_list : (pt : ℕ → Scalar) (m : ℕ) → DistinctPoints m pt → (p : List Scalar) → length p ≤ m → (x : Scalar)
    → scalar_at pt m (λ i. evaluate p (pt i)) x ≡ evaluate p x
exact_list pt m d p l x = exact pt m d (polynomial_list p l) x
