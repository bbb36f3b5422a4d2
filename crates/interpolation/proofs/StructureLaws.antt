-- The scalars as a commutative ring and the elements as a group with scalars for exponents, from the laws of field alone. Assumes nothing.
use Rattle.std.specs.Prelude.{◌≡◌, ◌≢◌, true}
use Rattle.std.proofs.Common.{sym}
use Rattle.std.proofs.Math.Bool.{Bool-set}
use mathlib.Core.HLevel.{Σ_prop_path}
use Rattle.algebra.specs.FoldLaws.{CommMonoid}
use Rattle.algebra.specs.RingLaws.{CommRing}
use Rattle.algebra.specs.ExponentLaws.{Exponents}
use Rattle.field.specs.declared.Scalar.{Scalar}
use Rattle.field.specs.declared.Element.{Element}
use Rattle.field.specs.Definitions.{scalar, identity, is_scalar, is_element, IsScalar, IsElement, reduced, plus, minus, times, inverse, product, raise}
use Rattle.field.proofs.ScalarLaws.{zero_range, one_range, reduced_range, plus_range, minus_range, times_range, inverse_range, plus_assoc, plus_comm, plus_zero, plus_opposite, times_assoc, times_comm, times_one, times_plus, times_inverse}
use Rattle.field.proofs.ElementLaws.{below, identity_element, product_element, raise_element, product_assoc, product_comm, product_one, product_raise, identity_raise, raise_zero, raise_one, raise_plus, raise_times}

-- ---- the ring

-- a scalar in range
abbrev pub Residue : Type 0
Residue = (x : Scalar) × IsScalar x

-- any number as one
abbrev pub residue : Scalar → Residue
residue x = (reduced x.0, reduced_range x.0)

pub residue_path : {x y : Residue} → x.0 ≡ y.0 → x ≡ y
residue_path {x} {y} p = Σ_prop_path (λ z. Bool-set (is_scalar z.0) true) {u = x} {v = y} p

abbrev pub Zq : CommRing Residue
Zq = record {
  add = λ x y. (plus x.0 y.0, plus_range x.0 y.0);
  mul = λ x y. (times x.0 y.0, times_range x.0 y.0);
  neg = λ x. (minus (scalar 0) x.0, minus_range (scalar 0) x.0);
  zero = (scalar 0, zero_range);
  one = (scalar 1, one_range);
  add_assoc = λ x y z. residue_path (plus_assoc x.0 y.0 z.0);
  add_comm = λ x y. residue_path (plus_comm x.0 y.0);
  add_zero = λ x. residue_path (plus_zero x.0 x.1);
  add_neg = λ x. residue_path (plus_opposite x.0 x.1);
  mul_assoc = λ x y z. residue_path (times_assoc x.0 y.0 z.0);
  mul_comm = λ x y. residue_path (times_comm x.0 y.0);
  mul_one = λ x. residue_path (times_one x.0 x.1);
  mul_add = λ x y z. residue_path (times_plus x.0 y.0 z.0);
}

abbrev pub inv : Residue → Residue
inv x = (inverse x.0, inverse_range x.0)

pub inv_is : (x : Residue) → x ≢ Zq.zero → Zq.mul x (inv x) ≡ Zq.one
inv_is x ne = residue_path (times_inverse x.0 x.1 (λ e. ne (residue_path e)))

-- ---- the group

abbrev pub Member : Type 0
Member = (v : Element) × IsElement v

pub member_path : {v w : Member} → v.0 ≡ w.0 → v ≡ w
member_path {v} {w} p = Σ_prop_path (λ z. Bool-set (is_element z.0) true) {u = v} {v = w} p

abbrev pub Group : CommMonoid Member
Group = record {
  op = λ v w. (product v.0 w.0, product_element v.0 w.0 v.1 w.1);
  unit = (identity, identity_element);
  assoc = λ u v w. member_path (product_assoc u.0 v.0 w.0);
  comm = λ v w. member_path (product_comm v.0 w.0);
  op_unit = λ v. member_path (product_one v.0 (below v.0 v.1));
}

abbrev pub Powers : Exponents Zq Group
Powers = record {
  pow = λ v x. (raise v.0 x.0, raise_element v.0 x.0 v.1);
  pow_add = λ v x y. member_path (raise_plus v.0 v.1 x.0 y.0);
  pow_mul = λ v x y. member_path (sym (raise_times v.0 v.1 x.0 y.0));
  op_pow = λ v w x. member_path (product_raise v.0 w.0 x.0);
  pow_one = λ v. member_path (raise_one v.0 (below v.0 v.1));
  pow_zero = λ v. member_path (raise_zero v.0);
  unit_pow = λ x. member_path (identity_raise x.0);
}
