-- What a range of numbers answers, as tests. Assumes nothing.
use Rattle.std.proofs.Common.{◌≡◌, ℕ, Bool, false, arith, ◌∙◌}
use Rattle.std.specs.Prelude.{Some, ◌&&◌, cond, leb}
use Rattle.std.proofs.lemmas.Grind.{common_steps}
use Rattle.std.specs.Ordering.{nat_cmp, partial_lt, partial_le}

-- `<` and `<=` of numbers, as a range asks them
abbrev below : ℕ → ℕ → Bool
below = partial_lt (λ x y. Some (nat_cmp x y))

abbrev within : ℕ → ℕ → Bool
within = partial_le (λ x y. Some (nat_cmp x y))

within_is : (x y : ℕ) → within x y ≡ leb x y
within_is x y = grind (arith, common_steps)

-- whether x is in a range from a to b that nothing was taken of
pub ranged : {r e : Bool} {s t : ℕ} (a b x : ℕ) → s ≡ a → t ≡ b → e ≡ false → r ≡ (within s x && cond e (below x t) (within x t)) → r ≡ (leb a x && leb x b)
ranged a b x p q z h = h ∙ rw (p, q, z, within_is a x, within_is x b)
