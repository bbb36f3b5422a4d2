-- Powers of whole numbers and their remainders modulo m. Assumes nothing.
use Rattle.std.specs.Prelude.{◌≡◌, ◌≢◌, ℕ, zero, suc, ◌+◌, ◌*◌, ◌^◌, ◌%◌, ◌/◌, ◌≤◌}
use Rattle.std.proofs.Common.{sym, ap, ap₂, ◌∙◌, arith, pow-suc, mul-zero, mul-suc, mul-one, one-mul, le_refl, pow-add}
use Rattle.std.proofs.Math.Nat.{pow-zero, mul-mul-mul_comm}
use Rattle.std.proofs.Math.Arith.{half_le}
use Rattle.field.proofs.CongruenceLaws.{mul_mod, mod_mul_mod, mul_mod_mod}
use Rattle.field.specs.Definitions.{power_to, power_of}

-- ---- laws of `^` that the library lacks

pub pow_mul : (v a b : ℕ) → v ^ (a * b) ≡ (v ^ a) ^ b
pow_mul v a zero = simp (mul-zero, pow-zero)
pow_mul v a (suc b) = ap (λ (x : ℕ). v ^ x) (mul-suc a b) ∙ pow-add v (a * b) a ∙ ap (λ (x : ℕ). x * v ^ a) (pow_mul v a b) ∙ sym (pow-suc (v ^ a) b)

pub mul_pow : (v w a : ℕ) → (v * w) ^ a ≡ v ^ a * w ^ a
mul_pow v w zero = simp pow-zero
mul_pow v w (suc a) =
    pow-suc (v * w) a ∙ ap (λ (x : ℕ). x * (v * w)) (mul_pow v w a) ∙ mul-mul-mul_comm (v ^ a) (w ^ a) v w
    ∙ sym (ap₂ ◌*◌ (pow-suc v a) (pow-suc w a))

pub one_pow : (a : ℕ) → 1 ^ a ≡ 1
one_pow zero = pow-zero 1
one_pow (suc a) = pow-suc 1 a ∙ mul-one (1 ^ a) ∙ one_pow a

pub pow_one : (v : ℕ) → v ^ 1 ≡ v
pow_one v = pow-suc v 0 ∙ ap (λ (x : ℕ). x * v) (pow-zero v) ∙ one-mul v

-- ---- modulo m

-- the base counts only modulo m
pub pow_mod : (v a m : ℕ) → (v % m) ^ a % m ≡ v ^ a % m
pow_mod v zero m = simp pow-zero
pow_mod v (suc a) m =
    ap (λ (x : ℕ). x % m) (pow-suc (v % m) a) ∙ mul_mod_mod ((v % m) ^ a) v m ∙ sym (mod_mul_mod ((v % m) ^ a) v m)
    ∙ ap (λ (x : ℕ). x * v % m) (pow_mod v a m) ∙ mod_mul_mod (v ^ a) v m ∙ ap (λ (x : ℕ). x % m) (sym (pow-suc v a))

-- ---- square and multiply, in the definition that computes

square : (m v h e : ℕ) → h ≡ v ^ (e / 2) % m → h * h * v ^ (e % 2) % m ≡ v ^ e % m
square m v h e i =
    sym (mod_mul_mod (h * h) (v ^ (e % 2)) m)
    ∙ ap (λ (x : ℕ). x * v ^ (e % 2) % m) (ap (λ (x : ℕ). x * x % m) i ∙ sym (mul_mod (v ^ (e / 2)) (v ^ (e / 2)) m))
    ∙ mod_mul_mod (v ^ (e / 2) * v ^ (e / 2)) (v ^ (e % 2)) m
    ∙ ap (λ (x : ℕ). x * v ^ (e % 2) % m) (sym (pow-add v (e / 2) (e / 2)))
    ∙ ap (λ (x : ℕ). x % m) (sym (pow-add v (e / 2 + e / 2) (e % 2)))
    ∙ ap (λ (x : ℕ). v ^ x % m) halves
  where
    halves : e / 2 + e / 2 + e % 2 ≡ e
    halves = omega arith

power_to_is : (m v f e : ℕ) → e ≤ f → power_to m v f e ≡ v ^ e % m
unfolding power_to
power_to_is m v zero zero h = simp pow-zero
power_to_is m v zero (suc e) h = absurd (omega arith)
power_to_is m v (suc f) zero h = simp pow-zero
power_to_is m v (suc f) (suc e) h = square m v (power_to m v f (suc e / 2)) (suc e) (power_to_is m v f (suc e / 2) (half_le h))

-- what the definition computes is v ^ e modulo m
pub power_is : (m v e : ℕ) → power_of m v e ≡ v ^ e % m
unfolding power_of
power_is m v e = power_to_is m v e e (le_refl e)

-- ---- square and multiply, in a loop that keeps product × square ^ left

halved : (m p s h : ℕ) → p * (s * s % m) ^ h % m ≡ p * s ^ (h + h) % m
halved m p s h =
    sym (mul_mod_mod p ((s * s % m) ^ h) m)
    ∙ ap (λ (x : ℕ). p * x % m) (pow_mod (s * s) h m ∙ ap (λ (x : ℕ). x % m) (mul_pow s s h ∙ sym (pow-add s h h)))
    ∙ mul_mod_mod p (s ^ (h + h)) m

pub even_turn : (m p s n : ℕ) → n % 2 ≢ 1 → p * (s * s % m) ^ (n / 2) % m ≡ p * s ^ n % m
even_turn m p s n h = halved m p s (n / 2) ∙ ap (λ (k : ℕ). p * s ^ k % m) (omega arith)

pub odd_turn : (m p s n : ℕ) → n % 2 ≡ 1 → (p * s % m) * (s * s % m) ^ (n / 2) % m ≡ p * s ^ n % m
odd_turn m p s n h =
    mod_mul_mod (p * s) ((s * s % m) ^ (n / 2)) m ∙ halved m (p * s) s (n / 2)
    ∙ ap (λ (x : ℕ). x % m) (omega (arith, ap (λ (x : ℕ). p * x) power))
  where
    whole : 1 + (n / 2 + n / 2) ≡ n
    whole = omega arith

    power : s * s ^ (n / 2 + n / 2) ≡ s ^ n
    power = ap (λ (x : ℕ). x * s ^ (n / 2 + n / 2)) (sym (pow_one s)) ∙ sym (pow-add s 1 (n / 2 + n / 2)) ∙ ap (λ (x : ℕ). s ^ x) whole
