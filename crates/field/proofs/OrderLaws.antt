-- The order of a number v modulo m: exponents count modulo it, and where it is prime the powers below it differ. Assumes nothing.
use Rattle.std.specs.Prelude.{◌≡◌, ◌≢◌, ℕ, ◌+◌, ◌*◌, ◌-◌, ◌^◌, ◌%◌, ◌/◌, ◌≤◌, ◌<◌}
use Rattle.std.proofs.Common.{sym, ap, ◌∙◌, one-mul, pow-add}
use native.Mathlib.Omega.{arith, by_contra}
use Rattle.std.proofs.Math.Nat.{mod-mod, div-add-mod}
use Rattle.field.proofs.CongruenceLaws.{mod_mul_mod, mul_mod_mod}
use Rattle.field.proofs.PowerLaws.{pow_mul, pow_mod, one_pow, pow_one}

-- y is x's inverse modulo n
abbrev pub Inverse : ℕ → ℕ → Type 0
Inverse n x = (y : ℕ) × (x * y % n ≡ 1)

-- n steps bring v back to 1
module _ (m n v : ℕ) (ord : v ^ n % m ≡ 1) where
  one_mod : 1 % m ≡ 1
  one_mod = ap (λ (x : ℕ). x % m) (sym ord) ∙ mod-mod (v ^ n) m ∙ ord

  -- a power of a number that is 1 modulo m
  one_power : (w b : ℕ) → w % m ≡ 1 → w ^ b % m ≡ 1
  one_power w b e = sym (pow_mod w b m) ∙ ap (λ (x : ℕ). x ^ b % m) e ∙ ap (λ (x : ℕ). x % m) (one_pow b) ∙ one_mod

  -- a factor that is 1 modulo m
  one_factor : (w x : ℕ) → w % m ≡ 1 → w * x % m ≡ x % m
  one_factor w x e = sym (mod_mul_mod w x m) ∙ ap (λ (z : ℕ). z * x % m) e ∙ ap (λ (z : ℕ). z % m) (one-mul x)

  -- the exponent counts only modulo n
  pub period : (a : ℕ) → v ^ (a % n) % m ≡ v ^ a % m
  period a =
      sym (one_factor (v ^ (n * (a / n))) (v ^ (a % n)) (ap (λ (x : ℕ). x % m) (pow_mul v n (a / n)) ∙ one_power (v ^ n) (a / n) ord))
      ∙ ap (λ (x : ℕ). x % m) (sym (pow-add v (n * (a / n)) (a % n))) ∙ ap (λ (x : ℕ). v ^ x % m) (div-add-mod a n)

  -- where d has an inverse modulo n, v ^ d is 1 only if v is
  order : (d : ℕ) → Inverse n d → v ^ d % m ≡ 1 → v % m ≡ 1
  order d i e =
      sym (ap (λ (x : ℕ). x % m) (pow_one v)) ∙ ap (λ (x : ℕ). v ^ x % m) (sym i.1) ∙ period (d * i.0)
      ∙ ap (λ (x : ℕ). x % m) (pow_mul v d i.0) ∙ one_power (v ^ d) i.0 e

  -- two equal powers: the power of their difference is 1
  cancel : (x d : ℕ) → x ≤ n → v ^ x % m ≡ v ^ (x + d) % m → v ^ d % m ≡ 1
  cancel x d l e =
      sym (one_factor (v ^ n) (v ^ d) ord) ∙ ap (λ (z : ℕ). z % m) (sym (pow-add v n d))
      ∙ ap (λ (z : ℕ). v ^ z % m) shift ∙ ap (λ (z : ℕ). z % m) (pow-add v (n - x) (x + d))
      ∙ sym (mul_mod_mod (v ^ (n - x)) (v ^ (x + d)) m) ∙ ap (λ (z : ℕ). v ^ (n - x) * z % m) (sym e)
      ∙ mul_mod_mod (v ^ (n - x)) (v ^ x) m ∙ ap (λ (z : ℕ). z % m) (sym (pow-add v (n - x) x))
      ∙ ap (λ (z : ℕ). v ^ z % m) back ∙ ord
    where
      shift : n + d ≡ n - x + (x + d)
      shift = omega arith

      back : n - x + x ≡ n
      back = omega arith

  module _ (inverses : (d : ℕ) → 0 < d → d < n → Inverse n d) (not-one : v % m ≢ 1) where
    never : (x y : ℕ) → x < y → y < n → v ^ x % m ≡ v ^ y % m → ⊥
    never x y l h e =
        not-one
        (order (y - x) (inverses (y - x) (omega arith) (omega arith))
        (cancel x (y - x) (omega arith) (e ∙ ap (λ (z : ℕ). v ^ z % m) split)))
      where
        split : y ≡ x + (y - x)
        split = omega arith

    -- powers below the order differ
    pub unique : (x y : ℕ) → x < n → y < n → v ^ x % m ≡ v ^ y % m → x ≡ y
    unique x y h k e =
        omega (arith, by_contra y x (λ (c : x < y). never x y c k e), by_contra x y (λ (c : y < x). never y x c h (sym e)))
