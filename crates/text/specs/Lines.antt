-- Numbers, lines and the line of a set (document 01, "The printed page"), as bytes.
use Rattle.std.specs.Prelude.{ℕ, zero, suc, ◌+◌, ◌/◌, ◌%◌, List, [], ◌∷◌, ◌++◌, ltb}
use Rattle.lists.specs.Tests.{pick}
use Rattle.sets.specs.Masks.{has, members}

-- in ASCII: a space, a line feed, `-` and the digit 0
abbrev pub space : ℕ
space = 32

abbrev pub feed : ℕ
feed = 10

abbrev pub dash : ℕ
dash = 45

abbrev pub nought : ℕ
nought = 48

-- a number in base ten without leading zeros. f bounds the digits
unfoldable pub decimal_to : ℕ → ℕ → List ℕ
decimal_to zero n = []
decimal_to (suc f) n = pick (ltb n 10) [] (decimal_to f (n / 10)) ++ ((nought + n % 10) ∷ [])

-- of numbers below 2^32
unfoldable pub decimal : ℕ → List ℕ
decimal n = decimal_to 10 n

-- a field: a space and a number
unfoldable pub field : ℕ → List ℕ
field n = space ∷ decimal n

unfoldable pub fields : List ℕ → List ℕ
fields [] = []
fields (n ∷ l) = field n ++ fields l

-- a line: a word, its fields, a line feed
unfoldable pub line : List ℕ → List ℕ → List ℕ
line word numbers = word ++ (fields numbers ++ (feed ∷ []))

-- a set with its members rising, `-` for an empty or unfixed one
unfoldable pub set_text : List ℕ → List ℕ
set_text [] = space ∷ dash ∷ []
set_text (i ∷ l) = fields (i ∷ l)

unfoldable pub set_line : List ℕ → ℕ → ℕ → List ℕ
set_line word n mask = word ++ (set_text (members n (has mask)) ++ (feed ∷ []))
