-- Products of powers whose exponents are polynomial functions, and that the interpolation of elements is exact for them. Assumes nothing.
use mathlib.Core.Path.{◌≡◌, refl, sym, ap, ap₂, fun_ext, ◌∙◌}
use Rattle.std.specs.Prelude.{Bool, true, false, ℕ, zero, suc, ◌+◌, ◌-◌, ◌≤◌, ◌<◌}
use Rattle.std.proofs.Common.{arith}
use Rattle.algebra.specs.Fold.{fold}
use Rattle.algebra.specs.ExponentLaws.{interp, interp_poly, PolyG, poly_g_unit, poly_g_op, poly_g_le, poly_g_pow, exact_g}
use Rattle.lists.specs.Tests.{pick}
use Rattle.field.specs.declared.Scalar.{Scalar}
use Rattle.field.specs.declared.Element.{Element}
use Rattle.field.specs.Definitions.{identity, IsElement, reduced, product, raise, powered}
use Rattle.field.proofs.ScalarLaws.{reduced_range}
use Rattle.field.proofs.ElementLaws.{powered_reduced}
use Rattle.interpolation.specs.Definitions.{element_at}
use Rattle.interpolation.proofs.StructureLaws.{Residue, residue, inv, Member, member_path, Group, Powers}
use Rattle.interpolation.proofs.PointLaws.{DistinctPoints, residues, apart, member, member_val, element_at_val}
use Rattle.interpolation.proofs.PolynomialLaws.{Polynomial, polynomial_constant}

-- h is a product of elements raised to polynomial functions with at most n coefficients
pub record Exponential (n : ℕ) (h : Scalar → Element) : Type 0 where
  pub lift : Residue → Member
  pub poly : PolyG Powers n lift
  pub agrees : (x : Scalar) → (lift (residue x)).0 ≡ h x

pub exponential_element : {n : ℕ} {h : Scalar → Element} → Exponential n h → (x : Scalar) → IsElement (h x)
exponential_element p x = mathlib.Core.Path.subst IsElement (p.agrees x) (p.lift (residue x)).1

pub exponential_wider : {n m : ℕ} {h : Scalar → Element} → n ≤ m → Exponential n h → Exponential m h
exponential_wider l p = record { lift = p.lift; poly = poly_g_le Powers l p.poly; agrees = p.agrees }

pub exponential_one : (n : ℕ) → Exponential n (λ x. identity)
exponential_one n = record { lift = λ x. Group.unit; poly = poly_g_unit; agrees = λ x. refl }

-- m elements interpolate to one with at most m coefficients
pub exponential_interpolated : (pt : ℕ → Scalar) (m : ℕ) (g : ℕ → Element) → ((i : ℕ) → i < m → IsElement (g i)) → Exponential m (element_at pt m g)
exponential_interpolated pt m g e = record {
  lift = interp Powers inv (residues pt) m (λ v. member (g v));
  poly = interp_poly Powers inv (residues pt) m (λ v. member (g v));
  agrees = element_at_val pt m g e;
}

pub exponential_product : {n : ℕ} {h k : Scalar → Element} → Exponential n h → Exponential n k → Exponential n (λ x. product (h x) (k x))
exponential_product p r = record {
  lift = λ x. Group.op (p.lift x) (r.lift x);
  poly = poly_g_op p.poly r.poly;
  agrees = λ x. ap₂ product (p.agrees x) (r.agrees x);
}

-- a power by a polynomial function with at most k coefficients
pub exponential_raise : {n k : ℕ} {h : Scalar → Element} {f : Scalar → Scalar} → Exponential n h → Polynomial k f → Exponential (n + k - 1) (λ x. raise (h x) (f x))
exponential_raise p r = record {
  lift = λ x. Powers.pow (p.lift x) (r.lift x);
  poly = poly_g_pow Powers p.poly r.poly;
  agrees = λ x. ap₂ raise (p.agrees x) (r.agrees x);
}

-- a power by a whole number
pub exponential_powered : {n : ℕ} {h : Scalar → Element} → Exponential n h → (e : ℕ) → Exponential n (λ x. powered (h x) e)
exponential_powered {n} {h} p e =
    let scaled = exponential_wider {m = n} (omega arith) (exponential_raise p (polynomial_constant (reduced e) (reduced_range e))) in
    record { lift = scaled.lift; poly = scaled.poly; agrees = λ x. scaled.agrees x ∙ powered_reduced (h x) (exponential_element p x) e }

-- one that is taken or left out
pub exponential_pick : {n : ℕ} {h : Scalar → Element} (b : Bool) → (b ≡ true → Exponential n h) → Exponential n (λ x. pick b (h x) identity)
exponential_pick true p = p refl
exponential_pick {n} false p = exponential_one n

pub exponential_fold : {n : ℕ} (k : ℕ) (h : ℕ → Scalar → Element) → ((i : ℕ) → i < k → Exponential n (h i)) → Exponential n (λ x. fold product identity k (λ i. h i x))
unfolding fold
exponential_fold {n} zero h p = exponential_one n
exponential_fold (suc k) h p = exponential_product (exponential_fold k h (λ i l. p i (omega arith))) (p k (omega arith))

-- ---- exactness

-- what has at most m coefficients is interpolated exactly from its values at m distinct points
pub exact_elements : (pt : ℕ → Scalar) (m : ℕ) → DistinctPoints m pt → {h : Scalar → Element} → Exponential m h → (x : Scalar)
    → element_at pt m (λ i. h (pt i)) x ≡ h x
exact_elements pt m d {h} p x =
    sym (element_at_val pt m (λ i. h (pt i)) (λ i l. exponential_element p (pt i)) x)
    ∙ ap (λ (g : ℕ → Member). (interp Powers inv (residues pt) m g (residue x)).0)
    (fun_ext (λ i. member_path (member_val (h (pt i)) (exponential_element p (pt i)) ∙ sym (p.agrees (pt i)))))
    ∙ ap (λ (z : Member). z.0) (exact_g Powers inv (residues pt) m (apart pt m d) p.poly (residue x))
    ∙ p.agrees x

-- elements at k points, interpolated at m ≥ k distinct points, and from these again
module _ (pt : ℕ → Scalar) (m : ℕ) (d : DistinctPoints m pt) (xs : ℕ → Scalar) (k : ℕ) (g : ℕ → Element) (e : (i : ℕ) → i < k → IsElement (g i)) where
  pub reinterpolate : k ≤ m → (x : Scalar) → element_at pt m (λ j. element_at xs k g (pt j)) x ≡ element_at xs k g x
  reinterpolate l x = exact_elements pt m d (exponential_wider l (exponential_interpolated xs k g e)) x

  -- the same raised to a second polynomial, with at most c coefficients
  pub reinterpolate_raised : {c : ℕ} {f : Scalar → Scalar} → Polynomial c f → k + c - 1 ≤ m → (x : Scalar)
      → element_at pt m (λ j. raise (element_at xs k g (pt j)) (f (pt j))) x ≡ raise (element_at xs k g x) (f x)
  reinterpolate_raised p l x = exact_elements pt m d (exponential_wider l (exponential_raise (exponential_interpolated xs k g e) p)) x
