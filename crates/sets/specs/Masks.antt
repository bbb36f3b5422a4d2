-- Sets of parties as masks, party i being bit i - 1; and the members of a set, rising.
use Rattle.std.specs.Prelude.{ℕ, zero, suc, ◌+◌, ◌-◌, ◌/◌, ◌%◌, ◌^◌, Bool, ◌&&◌, List, [], ◌∷◌, length, eqb, leb}
use Rattle.std.specs.Int.Bits.{bit_and, bit_or}
use Rattle.lists.specs.Tests.{pick}

-- bit i of a mask, bit 0 the lowest
unfoldable pub bit : ℕ → ℕ → Bool
bit m zero = eqb (m % 2) 1
bit m (suc i) = bit (m / 2) i

-- party i is in the set: i is from 1, and bit i - 1 is set
unfoldable pub has : ℕ → ℕ → Bool
has m i = leb 1 i && bit m (i - 1)

-- the bits of a mask, and so the most parties of a set
abbrev pub mask_bits : ℕ
mask_bits = 64

-- the set with party i, for i from 1 to 64
unfoldable pub insert : ℕ → ℕ → ℕ
insert m i = pick (leb 1 i && leb i mask_bits) (bit_or m (2 ^ (i - 1))) m

-- the parties of a that are not in b
unfoldable pub minus : ℕ → ℕ → ℕ
minus a b = a - bit_and a b

-- the set of the parties from 1 to n that pass the test
unfoldable pub mask_of : ℕ → (ℕ → Bool) → ℕ
mask_of zero f = 0
mask_of (suc n) f = mask_of n f + pick (f (suc n)) (2 ^ n) 0

-- of the n numbers from s those that pass the test, rising
unfoldable pub members_from : (ℕ → Bool) → ℕ → ℕ → List ℕ
members_from f s zero = []
members_from f s (suc n) = let l = members_from f (suc s) n in pick (f s) (s ∷ l) l

-- the numbers from 1 to n that pass the test, rising
abbrev pub members : ℕ → (ℕ → Bool) → List ℕ
members n f = members_from f 1 n

-- how many numbers from 1 to n pass the test
abbrev pub count : ℕ → (ℕ → Bool) → ℕ
count n f = length (members n f)
