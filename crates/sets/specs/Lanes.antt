-- A word as lanes side by side, and the fold that adds each two neighbours: what counting the bits of a word works on.
use Rattle.std.specs.Prelude.{ℕ, zero, suc, ◌+◌, ◌-◌, ◌*◌, ◌/◌, ◌%◌, ◌^◌}
use Rattle.std.specs.Int.Bits.{bit_and}

-- the sum of the k lowest lanes of w bits of a word
unfoldable pub lane_sum : ℕ → ℕ → ℕ → ℕ
lane_sum w zero m = 0
lane_sum w (suc k) m = m % 2 ^ w + lane_sum w k (m / 2 ^ w)

-- the lower halves of the k lowest lanes of w + w bits
unfoldable pub lower_halves : ℕ → ℕ → ℕ
lower_halves w zero = 0
lower_halves w (suc k) = lower_halves w k * 2 ^ (w + w) + (2 ^ w - 1)

-- the word's lower halves, and its upper ones brought down by w bits, added
unfoldable pub folded : ℕ → ℕ → ℕ → ℕ
folded m w halves = bit_and m halves + bit_and (m / 2 ^ w) halves
