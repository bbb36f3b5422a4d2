-- A product of powers that is kept by the digits, base 4, of the exponents, and what it comes to.
use Rattle.std.specs.Prelude.{List, ℕ, zero, suc, ◌+◌, get_or}
use Rattle.field.specs.declared.Element.{Element}
use Rattle.field.specs.Definitions.{identity, product, powered}
use Rattle.chains.specs.declared.Chain.{Chain}

-- how many digits of base 4 an exponent has
abbrev pub most_digits : ℕ
most_digits = 16

-- what n places from place d come to: the first times the fourth power of what the others come to
unfoldable pub value_from : List Element → ℕ → ℕ → Element
value_from l d zero = identity
value_from l d (suc n) = product (get_or l d identity) (powered (value_from l (d + 1) n) 4)

-- what a product of powers comes to: the product of place d to the power of 4 ^ d over all d
unfoldable pub chain_value : Chain → Element
chain_value c = value_from c.digits 0 most_digits
