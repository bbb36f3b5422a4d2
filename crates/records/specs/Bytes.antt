-- The numbers of a record. A byte past the end counts as 0.
use Rattle.std.specs.Prelude.{ℕ, zero, suc, ◌+◌, ◌*◌, List, get_or}

unfoldable pub byte_at : List ℕ → ℕ → ℕ
byte_at s at = get_or s at 0

-- the number of w bytes at a place, high byte first
unfoldable pub wide_at : ℕ → List ℕ → ℕ → ℕ
wide_at zero s at = 0
wide_at (suc w) s at = wide_at w s at * 256 + byte_at s (at + w)

-- of four bytes
unfoldable pub number_at : List ℕ → ℕ → ℕ
number_at s at = wide_at 4 s at

-- number i, counted from 0, of those that stand from a place on
unfoldable pub word : List ℕ → ℕ → ℕ → ℕ
word s at i = number_at s (at + 4 * i)

-- the dealer or holder
abbrev pub sender : List ℕ → ℕ
sender s = byte_at s 2
