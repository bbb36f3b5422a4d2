-- The fold of an operation over the numbers below n, as a loop computes it.
use Rattle.std.specs.Prelude.{ℕ, zero, suc}

-- unit, then f 0, .., f (n - 1), from the left
unfoldable pub fold : {A : Type 0} → (A → A → A) → A → ℕ → (ℕ → A) → A
fold op unit zero f = unit
fold op unit (suc n) f = op (fold op unit n f) (f n)
