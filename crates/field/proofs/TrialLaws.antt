-- Trial division, computed: a number that nothing up to its root divides is prime. Assumes nothing.
use Rattle.std.specs.Prelude.{◌≡◌, Bool, true, false, ◌&&◌, ℕ, zero, suc, ◌+◌, ◌*◌, ◌%◌, ◌/◌, ◌≤◌, ◌<◌, T, ltb}
use Rattle.std.proofs.Common.{subst, ap, ◌∙◌, ⊎_elim, arith, eq-or-lt_of_le, eq-zero-or-pos, lt_of_not-le, mul-le-mul, mul-le-mul_left, ltb→lt}
use Rattle.std.proofs.Math.Nat.{div-add-mod, mul-mod_left}
use Rattle.std.proofs.Math.Decide.{dec_lt}
use Rattle.field.specs.TrialLaws.{trial}

parts : (a b : Bool) → T (a && b) → T a × T b
parts true b t = (tt, t)
parts false b t = absurd t

trial_at : (n k d : ℕ) → T (trial n k d) → (x : ℕ) → d ≤ x → x < d + k → 0 < n % x
unfolding trial
trial_at n zero d t x l h = omega arith
trial_at n (suc k) d t x l h =
    let both = parts (ltb 0 (n % d)) (trial n k (suc d)) t in
    ⊎_elim
    (λ (e : d ≡ x). subst (λ (z : ℕ). 0 < n % z) e (ltb→lt 0 (n % d) both.0))
    (λ (m : d < x). trial_at n k (suc d) both.1 x m (omega arith))
    (eq-or-lt_of_le l)

-- a divisor above the root has its cofactor below it
pub prime_by_trial : (n k : ℕ) → n < (2 + k) * (2 + k) → T (trial n k 2) → (x : ℕ) → 1 < x → x < n → 0 < n % x
prime_by_trial n k r t x l h = ⊎_elim (λ (z : n % x ≡ 0). absurd (no_zero z)) (λ (p : 0 < n % x). p) (eq-zero-or-pos (n % x))
  where
    no_zero : n % x ≡ 0 → ⊥
    no_zero z = go (dec_lt x (2 + k))
      where
        factors : n ≡ x * (n / x)
        factors = omega (arith, div-add-mod n x)

        cofactor : n % (n / x) ≡ 0
        cofactor = ap (λ (m : ℕ). m % (n / x)) factors ∙ mul-mod_left x (n / x)

        above_one : 1 < n / x
        above_one = lt_of_not-le (λ (b : n / x ≤ 1). omega (arith, factors, mul-le-mul_left x b))

        below_root : 2 + k ≤ x → n / x < 2 + k
        below_root b = lt_of_not-le (λ (c : 2 + k ≤ n / x). omega (arith, factors, mul-le-mul b c))

        go : Dec (x < 2 + k) → ⊥
        go (yes b) = omega (arith, trial_at n k 2 t x l b)
        go (no b) = omega (arith, cofactor, trial_at n k 2 t (n / x) above_one (below_root (omega arith)))
