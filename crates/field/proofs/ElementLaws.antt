-- The laws of elements: a group of order q, with scalars as exponents, in which the generator's powers differ. Assumes nothing.
use Rattle.std.specs.Prelude.{◌≡◌, refl, ◌≢◌, ◌↔◌, Bool, true, false, ◌&&◌, ℕ, ◌+◌, ◌*◌, ◌^◌, ◌%◌, ◌<◌, ltb, eqb}
use Rattle.std.proofs.Common.{sym, ap₂, ◌∙◌, arith, mod-lt, mod-eq_of_lt, mul_comm, pos_of_ne-zero, lt_trans, lit<, lt-ltb, ltb-true, eq-eqb, eqb-true}
use Rattle.std.proofs.Math.Path.{ap}
use Rattle.std.proofs.Math.Bool.{and-eq-true_iff}
use Rattle.std.proofs.Math.Nat.{pow-zero}
use Rattle.std.proofs.Math.Bridge.{le_prop}
use Rattle.std.proofs.Math.Pow as N
use Rattle.field.specs.declared.Scalar.{Scalar}
use Rattle.field.specs.declared.Element.{Element}
use Rattle.field.specs.Definitions.{q, P, scalar, element, identity, generator, same_element, power_to, power_of, reading_of, read_element, some_element, IsScalar, IsElement, is_element, InGroup, Below, reduced, plus, times, power, product, powered, raise}
use Rattle.field.proofs.CongruenceLaws.{mul_mod, strip, same}
use Rattle.field.proofs.PowerLaws as W
use Rattle.field.proofs.OrderLaws as O
use Rattle.field.specs.TrialLaws.{trial}
use Rattle.field.proofs.TrialLaws.{prime_by_trial}
use Rattle.field.proofs.ScalarLaws.{range, zero_range, inverses, power_whole}

-- ---- the modulus

1<P : 1 < P
unfolding P
1<P = lit< tt

-- P has four bytes
P<word : P < 2 ^ 32
unfolding P
P<word = lit< tt

0<P : 0 < P
0<P = omega (arith, 1<P)

-- P is prime
pub prime_P : (x : ℕ) → 1 < x → x < P → 0 < P % x
unfolding P trial
prime_P = prime_by_trial P 31621 (lit< tt) tt

-- it is 2 q + 1
pub P_is : P ≡ 2 * q + 1
unfolding P q
P_is = refl

-- ---- powers modulo P, of any number

power_add : (v a b : ℕ) → power_of P v (a + b) ≡ power_of P v a * power_of P v b % P
power_add v a b = simp W.power_is (ap (λ (x : ℕ). x % P) (N.pow-add v a b) ∙ mul_mod (v ^ a) (v ^ b) P)

power_mul : (v a b : ℕ) → power_of P v (a * b) ≡ power_of P (power_of P v a) b
power_mul v a b = simp W.power_is (ap (λ (x : ℕ). x % P) (W.pow_mul v a b) ∙ sym (W.pow_mod (v ^ a) b P))

mul_power : (v w a : ℕ) → power_of P (v * w % P) a ≡ power_of P v a * power_of P w a % P
mul_power v w a = simp W.power_is (W.pow_mod (v * w) a P ∙ ap (λ (x : ℕ). x % P) (W.mul_pow v w a) ∙ mul_mod (v ^ a) (w ^ a) P)

power_lt : (v a : ℕ) → power_of P v a < P
power_lt v a = rw W.power_is (mod-lt (v ^ a) 0<P)

one_power : (a : ℕ) → power_of P 1 a ≡ 1
one_power a = W.power_is P 1 a ∙ ap (λ (x : ℕ). x % P) (W.one_pow a) ∙ mod-eq_of_lt 1<P

-- ---- elements

-- what makes an element: its range and its order
member : (a b : Bool) → some_element (reading_of a b) ≡ a
unfolding some_element reading_of
member true true = refl
member true false = refl
member false b = refl

element_test : (v : ℕ) → is_element v ≡ (ltb 0 v && (ltb v P && eqb (power_of P v q) 1))
unfolding is_element read_element
element_test v = member _ _

tested : (v : ℕ) → is_element v ≡ true → (ltb 0 v ≡ true) × (ltb v P ≡ true) × (eqb (power_of P v q) 1 ≡ true)
tested v h =
    let p = (and-eq-true_iff (ltb 0 v) _).0 (sym (element_test v) ∙ h) in
    let r = (and-eq-true_iff (ltb v P) _).0 p.1 in
    (p.0, r.0, r.1)

pub below : (v : Element) → IsElement v → Below v
unfolding Below
below v h = ltb-true v.0 P (tested v.0 h).1

order : (v : Element) → IsElement v → power_of P v.0 q ≡ 1
order v h = eqb-true (power_of P v.0 q) 1 (tested v.0 h).2

zero_power : power_of P 0 q ≡ 0
unfolding power_of power_to P q
zero_power = refl

is_element_true : (v : ℕ) → v < P → power_of P v q ≡ 1 → is_element v ≡ true
is_element_true v l e = element_test v ∙ rw (lt-ltb 0 v positive, lt-ltb v P l, eq-eqb (power_of P v q) 1 e)
  where
    positive : 0 < v
    positive = pos_of_ne-zero (λ (z : v ≡ 0). omega (arith, sym zero_power ∙ ap (λ (x : ℕ). power_of P x q) (sym z) ∙ e))

-- that is, it is of the group
pub element_is : (v : ℕ) → (is_element v ≡ true) ↔ InGroup v
unfolding InGroup
element_is v = (
  λ h. let p = tested v h in (ltb-true 0 v p.0, ltb-true v P p.1, sym (W.power_is P v q) ∙ eqb-true (power_of P v q) 1 p.2),
  λ g. is_element_true v g.1 (W.power_is P v q ∙ g.2),
)

pub identity_element : IsElement identity
identity_element = is_element_true 1 1<P (one_power q)

pub generator_element : IsElement generator
unfolding power_of power_to P q
generator_element = is_element_true 4 (lit< tt) refl

pub product_element : (v w : Element) → IsElement v → IsElement w → IsElement (product v w)
unfolding product
product_element v w h k =
    is_element_true _ (mod-lt _ 0<P) (mul_power v.0 w.0 q ∙ ap₂ (λ (x y : ℕ). x * y % P) (order v h) (order w k) ∙ mod-eq_of_lt 1<P)

pub powered_element : (v : Element) (e : ℕ) → IsElement v → IsElement (powered v e)
unfolding powered
powered_element v e h =
    is_element_true _ (power_lt v.0 e)
    (sym (power_mul v.0 e q) ∙ ap (power_of P v.0) (mul_comm e q) ∙ power_mul v.0 q e
    ∙ ap (λ (z : ℕ). power_of P z e) (order v h) ∙ one_power e)

-- a power by a scalar is one by its number
pub raise_powered : (v : Element) (x : Scalar) → raise v x ≡ powered v x.0
unfolding raise
raise_powered v x = refl

pub raise_element : (v : Element) (x : Scalar) → IsElement v → IsElement (raise v x)
unfolding raise
raise_element v x h = powered_element v x.0 h

-- ---- products and powers of any numbers

-- that a number is below P is known in one way alone
pub below_prop : (v : Element) (h k : Below v) → h ≡ k
unfolding Below
below_prop v h k = le_prop h k

pub identity_below : Below identity
unfolding Below
identity_below = 1<P

pub product_below : (v w : Element) → Below (product v w)
unfolding Below product
product_below v w = mod-lt _ 0<P

pub powered_below : (v : Element) (e : ℕ) → Below (powered v e)
unfolding Below powered
powered_below v e = power_lt v.0 e

pub raise_below : (v : Element) (x : Scalar) → Below (raise v x)
unfolding raise
raise_below v x = powered_below v x.0

-- such a number has four bytes
pub below_word : (v : Element) → Below v → v.0 < 2 ^ 32
unfolding Below
below_word v h = lt_trans h P<word

pub product_assoc : (u v w : Element) → product (product u v) w ≡ product u (product v w)
unfolding product
product_assoc u v w = ap element (simp strip (same P (omega arith)))

pub product_comm : (v w : Element) → product v w ≡ product w v
unfolding product
product_comm v w = ap element (same P (omega arith))

pub product_one : (v : Element) → Below v → product v identity ≡ v
unfolding product Below
product_one v l = ap element (same P (omega arith) ∙ mod-eq_of_lt l)

-- ---- powers by whole numbers

pub powered_zero : (v : Element) → powered v 0 ≡ identity
unfolding powered
powered_zero v = ap element (W.power_is P v.0 0 ∙ ap (λ (x : ℕ). x % P) (pow-zero v.0) ∙ mod-eq_of_lt 1<P)

pub powered_one : (v : Element) → Below v → powered v 1 ≡ v
unfolding powered Below
powered_one v l = ap element (W.power_is P v.0 1 ∙ ap (λ (x : ℕ). x % P) (W.pow_one v.0) ∙ mod-eq_of_lt l)

pub identity_powered : (e : ℕ) → powered identity e ≡ identity
unfolding powered
identity_powered e = ap element (one_power e)

-- a factor counts modulo P
pub product_powered_one : (v w : Element) → product v (powered w 1) ≡ product v w
unfolding product powered
product_powered_one v w = ap element (rw (W.power_is P w.0 1, W.pow_one w.0) (simp strip (same P (omega arith))))

-- the power of a product
pub product_powered : (v w : Element) (e : ℕ) → powered (product v w) e ≡ product (powered v e) (powered w e)
unfolding product powered
product_powered v w e = ap element (mul_power v.0 w.0 e)

-- the powers of one number
pub powered_add : (v : Element) (a b : ℕ) → powered v (a + b) ≡ product (powered v a) (powered v b)
unfolding product powered
powered_add v a b = ap element (power_add v.0 a b)

-- a power of a power
pub powered_powered : (v : Element) (a b : ℕ) → powered (powered v a) b ≡ powered v (a * b)
unfolding powered
powered_powered v a b = ap element (sym (power_mul v.0 a b))

-- two powers in either order
pub powered_swap : (v : Element) (a b : ℕ) → powered (powered v a) b ≡ powered (powered v b) a
powered_swap v a b = powered_powered v a b ∙ ap (powered v) (mul_comm a b) ∙ sym (powered_powered v b a)

-- ---- powers by scalars

pub raise_zero : (v : Element) → raise v (scalar 0) ≡ identity
unfolding raise
raise_zero v = powered_zero v

pub raise_one : (v : Element) → Below v → raise v (scalar 1) ≡ v
unfolding raise
raise_one v l = powered_one v l

pub identity_raise : (x : Scalar) → raise identity x ≡ identity
unfolding raise
identity_raise x = identity_powered x.0

pub product_raise : (v w : Element) (x : Scalar) → raise (product v w) x ≡ product (raise v x) (raise w x)
unfolding raise
product_raise v w x = product_powered v w x.0

-- one by a scalar and one by a whole number, in either order
pub powered_raise : (v : Element) (e : ℕ) (x : Scalar) → raise (powered v e) x ≡ powered (raise v x) e
unfolding raise
powered_raise v e x = powered_swap v e x.0

-- ---- equality

pub same_is : (v w : Element) → same_element v w ≡ true → v ≡ w
unfolding same_element
same_is v w e = ap element (eqb-true v.0 w.0 e)

pub is_same : (v w : Element) → v ≡ w → same_element v w ≡ true
unfolding same_element
is_same v w e = eq-eqb v.0 w.0 (ap (λ (z : Element). z.0) e)

-- ---- exponents of elements count modulo q

module _ (v : Element) (h : IsElement v) where
  exponent_mod : (a : ℕ) → power_of P v.0 (a % q) ≡ power_of P v.0 a
  exponent_mod a = simp W.power_is (O.period P q v.0 (sym (W.power_is P v.0 q) ∙ order v h) a)

  -- a whole number as an exponent is that of its scalar
  pub powered_reduced : (e : ℕ) → raise v (reduced e) ≡ powered v e
  unfolding raise powered reduced
  powered_reduced e = ap element (exponent_mod e)

  pub raise_reduced : (x : Scalar) → raise v (reduced x.0) ≡ raise v x
  unfolding raise
  raise_reduced x = powered_reduced x.0

  -- a power of a scalar as an exponent, as a whole number
  pub raise_power : (x e : ℕ) → raise v (power (scalar x) e) ≡ powered v (x ^ e)
  raise_power x e = ap (raise v) (power_whole (scalar x) e) ∙ powered_reduced (x ^ e)

  pub raise_plus : (x y : Scalar) → raise v (plus x y) ≡ product (raise v x) (raise v y)
  unfolding raise powered plus product
  raise_plus x y = ap element (exponent_mod (x.0 + y.0) ∙ power_add v.0 x.0 y.0)

  pub raise_times : (x y : Scalar) → raise v (times x y) ≡ raise (raise v x) y
  unfolding raise powered times
  raise_times x y = ap element (exponent_mod (x.0 * y.0) ∙ power_mul v.0 x.0 y.0)

-- the generator's powers differ: a number below q is known by its power of 4
pub generator_unique : (x y : Scalar) → IsScalar x → IsScalar y → raise generator x ≡ raise generator y → x ≡ y
unfolding raise powered Below
generator_unique x y h k e =
    ap scalar
    (O.unique P q 4 (sym (W.power_is P 4 q) ∙ order generator generator_element) inverses four x.0 y.0 (range x.0 h) (range y.0 k)
    (sym (W.power_is P 4 x.0) ∙ ap (λ (z : Element). z.0) e ∙ W.power_is P 4 y.0))
  where
    four : 4 % P ≢ 1
    four e = omega (arith, sym (mod-eq_of_lt (below generator generator_element)) ∙ e)

-- 4 to a scalar is 1 for 0 alone
pub generator_identity : (x : Scalar) → IsScalar x → raise generator x ≡ identity → x ≡ scalar 0
generator_identity x h e = generator_unique x (scalar 0) h zero_range (e ∙ sym (raise_zero generator))
