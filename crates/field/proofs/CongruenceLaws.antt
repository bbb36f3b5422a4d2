-- Remainders modulo n inside sums and products. Assumes nothing.
use Rattle.std.specs.Prelude.{◌≡◌, ℕ, ◌+◌, ◌*◌, ◌%◌, ◌/◌}
use Rattle.std.proofs.Common.{sym, ap, ◌∙◌, arith}
use Rattle.std.proofs.Math.Nat.{add-mul-mod_self_left, div-add-mod, mod-add-mod, add-mod-mod, mod-mod}

-- from an equation of whole numbers to one of remainders
pub congruent : (n a b c d : ℕ) → a + n * c ≡ b + n * d → a % n ≡ b % n
congruent n a b c d e = sym (add-mul-mod_self_left a n c) ∙ ap (λ (z : ℕ). z % n) e ∙ add-mul-mod_self_left b n d

-- and back
pub whole : (n a b : ℕ) → a % n ≡ b % n → a + n * (b / n) ≡ b + n * (a / n)
whole n a b e = omega (arith, div-add-mod a n, div-add-mod b n)

pub mod_mul_mod : (a b n : ℕ) → (a % n * b) % n ≡ (a * b) % n
mod_mul_mod a b n = congruent n (a % n * b) (a * b) (a / n * b) 0 (omega (arith, ap (λ (z : ℕ). z * b) (div-add-mod a n)))

pub mul_mod_mod : (a b n : ℕ) → (a * (b % n)) % n ≡ (a * b) % n
mul_mod_mod a b n = congruent n (a * (b % n)) (a * b) (a * (b / n)) 0 (omega (arith, ap (λ (z : ℕ). a * z) (div-add-mod b n)))

pub mul_mod : (a b n : ℕ) → (a * b) % n ≡ ((a % n) * (b % n)) % n
mul_mod a b n = sym (mul_mod_mod (a % n) b n ∙ mod_mul_mod a b n)

-- takes a remainder away inside another, so that an equation of sums and products comes to `X % n ≡ Y % n`
pub ruleset strip = (mod-add-mod, add-mod-mod, mod_mul_mod, mul_mod_mod, mod-mod)

-- and `X ≡ Y` is then for omega, which multiplies products out
pub same : (n : ℕ) {a b : ℕ} → a ≡ b → a % n ≡ b % n
same n e = ap (λ (x : ℕ). x % n) e
