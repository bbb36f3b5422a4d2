-- The laws of scalars: a commutative ring in which every scalar but 0 has an inverse. Assumes nothing.
use Rattle.std.specs.Prelude.{◌≡◌, refl, ◌≢◌, true, ℕ, zero, suc, ◌+◌, ◌*◌, ◌-◌, ◌^◌, ◌/◌, ◌%◌, ◌≤◌, ◌<◌}
use Rattle.std.proofs.Common.{sym, ap, ap₂, ◌∙◌, arith, mod-lt, mod-eq_of_lt, le_refl, pos_of_ne-zero, div-le_self, lt_trans, lit<, lt-ltb, ltb-true}
use Rattle.std.proofs.Math.Decide.{ℕ_discrete}
use Rattle.std.proofs.Math.Nat.{mod-mod, mod_self, zero-mod, div-add-mod}
use Rattle.field.specs.declared.Scalar.{Scalar}
use Rattle.field.specs.Definitions.{q, scalar, is_scalar, IsScalar, reduced, plus, minus, times, inverse_to, inverse_of, inverse, power}
use Rattle.field.proofs.CongruenceLaws.{congruent, whole, mod_mul_mod, mul_mod_mod, strip, same}
use Rattle.field.proofs.PowerLaws as W
use Rattle.field.specs.TrialLaws.{trial}
use Rattle.field.proofs.TrialLaws.{prime_by_trial}
use Rattle.field.proofs.OrderLaws.{Inverse}

-- ---- the modulus

1<q : 1 < q
unfolding q
1<q = lit< tt

-- party numbers, points and counts of a committee are far below q
small<q : 100000 < q
unfolding q
small<q = lit< tt

-- q has four bytes
q<word : q < 2 ^ 32
unfolding q
q<word = lit< tt

0<q : 0 < q
0<q = omega (arith, 1<q)

-- q is prime
pub prime_q : (x : ℕ) → 1 < x → x < q → 0 < q % x
unfolding q trial
prime_q = prime_by_trial q 22360 (lit< tt) tt

-- ---- range

pub in_range : {x : ℕ} → x < q → is_scalar x ≡ true
unfolding is_scalar
in_range {x} l = lt-ltb x q l

pub range : (x : ℕ) → is_scalar x ≡ true → x < q
unfolding is_scalar
range x e = ltb-true x q e

-- a scalar has four bytes
pub scalar_word : (x : Scalar) → IsScalar x → x.0 < 2 ^ 32
scalar_word x h = lt_trans (range x.0 h) q<word

pub zero_range : IsScalar (scalar 0)
zero_range = in_range 0<q

pub one_range : IsScalar (scalar 1)
one_range = in_range 1<q

pub reduced_range : (x : ℕ) → IsScalar (reduced x)
unfolding reduced
reduced_range x = in_range (mod-lt x 0<q)

pub plus_range : (x y : Scalar) → IsScalar (plus x y)
unfolding plus
plus_range x y = in_range (mod-lt _ 0<q)

pub minus_range : (x y : Scalar) → IsScalar (minus x y)
unfolding minus
minus_range x y = in_range (mod-lt _ 0<q)

pub times_range : (x y : Scalar) → IsScalar (times x y)
unfolding times
times_range x y = in_range (mod-lt _ 0<q)

-- a scalar in range is its own remainder
pub reduced_same : (x : Scalar) → IsScalar x → reduced x.0 ≡ x
unfolding reduced
reduced_same x h = ap scalar (mod-eq_of_lt (range x.0 h))

-- ---- the ring

pub plus_assoc : (x y z : Scalar) → plus (plus x y) z ≡ plus x (plus y z)
unfolding plus
plus_assoc x y z = ap scalar (simp strip (same q (omega arith)))

pub plus_comm : (x y : Scalar) → plus x y ≡ plus y x
unfolding plus
plus_comm x y = ap scalar (same q (omega arith))

pub plus_zero : (x : Scalar) → IsScalar x → plus x (scalar 0) ≡ x
unfolding plus
plus_zero x h = ap scalar (same q (omega arith) ∙ mod-eq_of_lt (range x.0 h))

pub plus_opposite : (x : Scalar) → IsScalar x → plus x (minus (scalar 0) x) ≡ scalar 0
unfolding plus minus
plus_opposite x h = ap scalar (simp strip (ap (λ (z : ℕ). (x.0 + (0 + (q - z))) % q) (mod-eq_of_lt (range x.0 h)) ∙ same q (omega (arith, range x.0 h)) ∙ mod_self q))

pub minus_plus : (x y : Scalar) → minus x y ≡ plus x (minus (scalar 0) y)
unfolding plus minus
minus_plus x y = ap scalar (simp strip (same q (omega arith)))

pub times_assoc : (x y z : Scalar) → times (times x y) z ≡ times x (times y z)
unfolding times
times_assoc x y z = ap scalar (simp strip (same q (omega arith)))

pub times_comm : (x y : Scalar) → times x y ≡ times y x
unfolding times
times_comm x y = ap scalar (same q (omega arith))

pub times_one : (x : Scalar) → IsScalar x → times x (scalar 1) ≡ x
unfolding times
times_one x h = ap scalar (same q (omega arith) ∙ mod-eq_of_lt (range x.0 h))

pub times_plus : (x y z : Scalar) → times x (plus y z) ≡ plus (times x y) (times x z)
unfolding plus times
times_plus x y z = ap scalar (simp strip (same q (omega arith)))

-- operands count modulo q
pub plus_reduced : (x y : Scalar) → plus (reduced x.0) (reduced y.0) ≡ plus x y
unfolding plus reduced
plus_reduced x y = ap scalar (simp strip)

pub minus_reduced : (x y : Scalar) → minus (reduced x.0) (reduced y.0) ≡ minus x y
unfolding minus reduced
minus_reduced x y = ap scalar (simp strip)

pub times_reduced : (x y : Scalar) → times (reduced x.0) (reduced y.0) ≡ times x y
unfolding times reduced
times_reduced x y = ap scalar (simp strip)

pub plus_reduced_left : (x y : Scalar) → plus (reduced x.0) y ≡ plus x y
unfolding plus reduced
plus_reduced_left x y = ap scalar (simp strip)

pub times_reduced_left : (x y : Scalar) → times (reduced x.0) y ≡ times x y
unfolding times reduced
times_reduced_left x y = ap scalar (simp strip)

-- ---- differences of whole numbers

-- x - y and x' - y' are one where x + y' = x' + y
pub difference_same : (x y x' y' : ℕ) → x + y' ≡ x' + y → minus (reduced x) (reduced y) ≡ minus (reduced x') (reduced y')
unfolding minus reduced
difference_same x y x' y' e =
    ap scalar
    (simp strip
    (congruent q (x + (q - y % q)) (x' + (q - y' % q)) (y' / q) (y / q)
    (omega (arith, e, div-add-mod y q, div-add-mod y' q, mod-lt y 0<q, mod-lt y' 0<q))))

stripped : (x y : ℕ) → (x % q + (q - y % q % q)) % q ≡ (x + (q - y % q)) % q
stripped x y = simp strip

-- and, of numbers that are small, only there
pub difference_unique : (x y x' y' : ℕ) → x + y' ≤ 100000 → x' + y ≤ 100000 → minus (reduced x) (reduced y) ≡ minus (reduced x') (reduced y') → x + y' ≡ x' + y
unfolding minus reduced
difference_unique x y x' y' l k e =
    sym (mod-eq_of_lt (omega (arith, small<q))) ∙ congruent q (x + y') (x' + y) ((x' + (q - y')) / q) ((x + (q - y)) / q) (omega (arith, small<q, whole q (x + (q - y)) (x' + (q - y')) plain)) ∙ mod-eq_of_lt (omega (arith, small<q))
  where
    y_same : y % q ≡ y
    y_same = mod-eq_of_lt (omega (arith, small<q))

    y'_same : y' % q ≡ y'
    y'_same = mod-eq_of_lt (omega (arith, small<q))

    plain : (x + (q - y)) % q ≡ (x' + (q - y')) % q
    plain =
        ap (λ (z : ℕ). (x + (q - z)) % q) (sym y_same) ∙ sym (stripped x y) ∙ ap (λ (z : Scalar). z.0) e ∙ stripped x' y'
        ∙ ap (λ (z : ℕ). (x' + (q - z)) % q) y'_same

pub power_range : (x : Scalar) (e : ℕ) → IsScalar (power x e)
unfolding power
power_range x e = in_range (rw W.power_is (mod-lt _ 0<q))

-- x to the power e, as a whole number
pub power_whole : (x : Scalar) (e : ℕ) → power x e ≡ reduced (x.0 ^ e)
unfolding power reduced
power_whole x e = ap scalar (W.power_is q x.0 e)

-- ---- inverses

-- more steps than x change nothing
steps_same : (f g x : ℕ) → x ≤ f → x ≤ g → inverse_to f x ≡ inverse_to g x
unfolding inverse_to
steps_same zero zero x h k = refl
steps_same zero (suc g) zero h k = refl
steps_same zero (suc g) (suc x) h k = absurd (omega arith)
steps_same (suc f) zero zero h k = refl
steps_same (suc f) zero (suc x) h k = absurd (omega arith)
steps_same (suc f) (suc g) zero h k = refl
steps_same (suc f) (suc g) (suc zero) h k = refl
steps_same (suc f) (suc g) (suc (suc x)) h k =
    let r : q % suc (suc x) < suc (suc x) = mod-lt q (omega arith) in
    ap (λ (z : ℕ). (q - q / suc (suc x)) * z % q) (steps_same f g (q % suc (suc x)) (omega arith) (omega arith))

pub inverse_small : (x : ℕ) → x ≤ 1 → inverse_of x ≡ x
unfolding inverse_of inverse_to
inverse_small zero h = refl
inverse_small (suc zero) h = refl
inverse_small (suc (suc x)) h = absurd (omega arith)

pub inverse_step : (x : ℕ) → 1 < x → inverse_of x ≡ (q - q / x) * inverse_of (q % x) % q
unfolding inverse_of inverse_to
inverse_step zero h = absurd (omega arith)
inverse_step (suc zero) h = absurd (omega arith)
inverse_step (suc (suc x)) h =
    let r : q % suc (suc x) < suc (suc x) = mod-lt q (omega arith) in
    ap (λ (z : ℕ). (q - q / suc (suc x)) * z % q) (steps_same (suc x) (q % suc (suc x)) (q % suc (suc x)) (omega arith) (le_refl _))

pub inverse_lt : (x : ℕ) → x < q → inverse_of x < q
inverse_lt zero h = rw (inverse_small 0 (omega arith)) h
inverse_lt (suc zero) h = rw (inverse_small 1 (omega arith)) h
inverse_lt (suc (suc x)) h = rw (inverse_step (suc (suc x)) (omega arith)) (mod-lt _ 0<q)

-- q = c x + r, so (q - c) x is r modulo q
turn : (x y : ℕ) → 0 < x → (q % x * y) % q ≡ 1 → (x * ((q - q / x) * y % q)) % q ≡ 1
turn x y p e =
    mul_mod_mod x ((q - q / x) * y) q
    ∙ congruent q (x * ((q - q / x) * y)) (q % x * y) y (x * y)
    (omega (arith, ap (λ (z : ℕ). z * y) (div-add-mod q x), ap (λ (z : ℕ). z * (x * y)) (parts (q / x) (div-le_self q x))))
    ∙ e
  where
    parts : (c : ℕ) → c ≤ q → (q - c) + c ≡ q
    parts c l = omega arith

inverse_to_is : (f x : ℕ) → x ≤ f → 0 < x → x < q → x * inverse_of x % q ≡ 1
inverse_to_is zero x b p l = absurd (omega arith)
inverse_to_is (suc f) zero b p l = absurd (omega arith)
inverse_to_is (suc f) (suc zero) b p l = rw (inverse_small 1 (omega arith)) (mod-eq_of_lt 1<q)
inverse_to_is (suc f) (suc (suc x)) b p l =
    let r : q % suc (suc x) < suc (suc x) = mod-lt q (omega arith) in
    rw (inverse_step (suc (suc x)) (omega arith))
    (turn (suc (suc x)) (inverse_of (q % suc (suc x))) (omega arith)
    (inverse_to_is f (q % suc (suc x)) (omega arith) (prime_q (suc (suc x)) (omega arith) l) (omega arith)))

pub inverse_whole : (x : ℕ) → 0 < x → x < q → x * inverse_of x % q ≡ 1
inverse_whole x p l = inverse_to_is x x (le_refl x) p l

pub inverses : (x : ℕ) → 0 < x → x < q → Inverse q x
inverses x p l = (inverse_of x, inverse_whole x p l)

pub inverse_range : (x : Scalar) → IsScalar (inverse x)
unfolding inverse
inverse_range x = in_range (inverse_lt _ (mod-lt x.0 0<q))

-- every scalar but 0 has an inverse
pub times_inverse : (x : Scalar) → IsScalar x → x ≢ scalar 0 → times x (inverse x) ≡ scalar 1
unfolding times inverse
times_inverse x h ne =
    ap scalar (ap (λ (z : ℕ). x.0 * inverse_of z % q) (mod-eq_of_lt (range x.0 h)) ∙ inverse_whole x.0 (pos_of_ne-zero (λ z. ne (ap scalar z))) (range x.0 h))

pub inverse_zero : inverse (scalar 0) ≡ scalar 0
unfolding inverse
inverse_zero = ap scalar (ap inverse_of (zero-mod q) ∙ inverse_small 0 (omega arith))

-- two inverses of one number are one
one_inverse : (x y z : ℕ) → y < q → z < q → x * y % q ≡ 1 → x * z % q ≡ 1 → y ≡ z
one_inverse x y z l k e d =
    sym (mod-eq_of_lt l) ∙ same q (omega arith) ∙ ap (λ (w : ℕ). y * w % q) (sym d) ∙ mul_mod_mod y (x * z) q
    ∙ same q (omega arith) ∙ sym (mod_mul_mod (x * y) z q) ∙ ap (λ (w : ℕ). w * z % q) e ∙ same q (omega arith) ∙ mod-eq_of_lt k

inverse_product : (x y : ℕ) → x < q → y < q → inverse_of (x * y % q) ≡ inverse_of x * inverse_of y % q
inverse_product x y l k = go (ℕ_discrete x 0) (ℕ_discrete y 0)
  where
    none : inverse_of 0 ≡ 0
    none = inverse_small 0 (omega arith)

    zero_side : (u v w : ℕ) → u ≡ 0 → v ≡ 0 → inverse_of (u % q) ≡ v * w % q
    zero_side u v w e d = rw (e, d) (ap inverse_of (zero-mod q) ∙ none ∙ sym (same q (omega arith) ∙ zero-mod q))

    both : 0 < x → 0 < y → (x * y % q) * (inverse_of x * inverse_of y % q) % q ≡ 1
    both p o =
        simp strip (same q (omega arith)) ∙ sym (mod_mul_mod (x * inverse_of x) (y * inverse_of y) q)
        ∙ sym (mul_mod_mod (x * inverse_of x % q) (y * inverse_of y) q)
        ∙ ap₂ (λ (v w : ℕ). v * w % q) (inverse_whole x p l) (inverse_whole y o k) ∙ mod-eq_of_lt 1<q

    not_zero : 0 < x → 0 < y → x * y % q ≢ 0
    not_zero p o e =
        let z : 0 * (inverse_of x * inverse_of y % q) % q ≡ 1 = ap (λ (w : ℕ). w * (inverse_of x * inverse_of y % q) % q) (sym e) ∙ both p o in
        omega (arith, sym z ∙ same q (omega arith) ∙ zero-mod q)

    go : Dec (x ≡ 0) → Dec (y ≡ 0) → inverse_of (x * y % q) ≡ inverse_of x * inverse_of y % q
    go (yes e) d = zero_side (x * y) (inverse_of x) (inverse_of y) (ap (λ (z : ℕ). z * y) e ∙ omega arith) (ap inverse_of e ∙ none)
    go (no ne) (yes e) =
        zero_side (x * y) (inverse_of y) (inverse_of x) (ap (λ (z : ℕ). x * z) e ∙ omega arith) (ap inverse_of e ∙ none) ∙ same q (omega arith)
    go (no ne) (no no') =
        one_inverse (x * y % q) (inverse_of (x * y % q)) (inverse_of x * inverse_of y % q) (inverse_lt _ (mod-lt _ 0<q)) (mod-lt _ 0<q)
        (inverse_whole (x * y % q) (pos_of_ne-zero (not_zero (pos_of_ne-zero ne) (pos_of_ne-zero no'))) (mod-lt _ 0<q))
        (both (pos_of_ne-zero ne) (pos_of_ne-zero no'))

-- the inverse of a product, 0 among its factors or not
pub inverse_times : (x y : Scalar) → inverse (times x y) ≡ times (inverse x) (inverse y)
unfolding inverse times
inverse_times x y =
    ap scalar
    (ap inverse_of (mod-mod (x.0 * y.0) q ∙ sym (mod_mul_mod x.0 y.0 q) ∙ sym (mul_mod_mod (x.0 % q) y.0 q))
    ∙ inverse_product (x.0 % q) (y.0 % q) (mod-lt _ 0<q) (mod-lt _ 0<q))

pub inverse_one : inverse (scalar 1) ≡ scalar 1
unfolding inverse
inverse_one = ap scalar (ap inverse_of (mod-eq_of_lt 1<q) ∙ inverse_small 1 (omega arith))
