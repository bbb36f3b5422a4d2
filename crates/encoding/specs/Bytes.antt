-- Numbers as bytes, high byte first.
use Rattle.std.specs.Prelude.{ℕ, zero, suc, ◌*◌, ◌/◌, ◌%◌, ◌^◌, List, [], ◌∷◌, ◌++◌}
use Rattle.field.specs.Definitions.{scalar, generator, raise}

-- a number as w bytes
abbrev pub bytes_of : ℕ → ℕ → List ℕ
bytes_of zero x = []
bytes_of (suc w) x = (x / 2 ^ (8 * w) % 256) ∷ bytes_of w x

-- as four
abbrev pub four : ℕ → List ℕ
four x = bytes_of 4 x

-- f 0, .., f (m - 1), four bytes each
unfoldable pub fours : ℕ → (ℕ → ℕ) → List ℕ
fours zero f = []
fours (suc m) f = fours m f ++ four (f m)

-- 4^x, as the number that is written
abbrev pub power_of_four : ℕ → ℕ
power_of_four x = (raise generator (scalar x)).0
