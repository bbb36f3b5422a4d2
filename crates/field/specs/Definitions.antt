-- The two kinds of number, and what is done with them (document 01, "The bench and its two kinds of number").
-- Every operation is total: it says what any two numbers give, in range or not.
use Rattle.std.specs.Prelude.{ℕ, zero, suc, ◌+◌, ◌*◌, ◌-◌, ◌/◌, ◌%◌, ◌^◌, ◌<◌, Bool, true, false, ◌&&◌, ◌≡◌, eqb, ltb}
use Rattle.field.specs.declared.Scalar.{Scalar}
use Rattle.field.specs.declared.Element.{Element}
use Rattle.field.specs.declared.Reading.{Reading}
use Rattle.field.specs.declared.Reading.TheVariants.{NoElement, Identity, Other}

-- the order of the group, a prime
unfoldable pub q : ℕ
q = 500000003

-- the modulus of the group, 2 q + 1
unfoldable pub P : ℕ
P = 1000000007

abbrev pub scalar : ℕ → Scalar
scalar x = record { 0 = x }

abbrev pub element : ℕ → Element
element v = record { 0 = v }

-- v ^ e modulo m, by squaring on the binary digits of e, so that it computes; `power_is` of Powers says that it is v ^ e % m.
-- f bounds the steps.
unfoldable pub power_to : ℕ → ℕ → ℕ → ℕ → ℕ
power_to m v zero e = 1 % m
power_to m v (suc f) zero = 1 % m
power_to m v (suc f) (suc e) = let h = power_to m v f (suc e / 2) in h * h * v ^ (suc e % 2) % m

unfoldable pub power_of : ℕ → ℕ → ℕ → ℕ
power_of m v e = power_to m v e e

-- ---- scalars: 0 to q - 1, arithmetic modulo q

unfoldable pub is_scalar : ℕ → Bool
is_scalar x = ltb x q

-- the scalar that a number comes to
unfoldable pub reduced : ℕ → Scalar
reduced x = scalar (x % q)

unfoldable pub plus : Scalar → Scalar → Scalar
plus x y = scalar ((x.0 + y.0) % q)

unfoldable pub minus : Scalar → Scalar → Scalar
minus x y = scalar ((x.0 + (q - y.0 % q)) % q)

unfoldable pub times : Scalar → Scalar → Scalar
times x y = scalar (x.0 * y.0 % q)

-- 1 / x, by q = (q / x) x + q % x; 0 for 0. f bounds the steps
unfoldable pub inverse_to : ℕ → ℕ → ℕ
inverse_to zero x = x
inverse_to (suc f) zero = 0
inverse_to (suc f) (suc zero) = 1
inverse_to (suc f) (suc (suc x)) = (q - q / suc (suc x)) * inverse_to f (q % suc (suc x)) % q

unfoldable pub inverse_of : ℕ → ℕ
inverse_of x = inverse_to x x

unfoldable pub inverse : Scalar → Scalar
inverse x = scalar (inverse_of (x.0 % q))

-- x to the power of a whole number
unfoldable pub power : Scalar → ℕ → Scalar
power x e = scalar (power_of q x.0 e)

-- ---- group elements: V from 1 to P - 1 with V ^ q = 1 modulo P

-- the reading of a number: first whether it is of the group, second whether it is 1
unfoldable pub reading_of : Bool → Bool → Reading
reading_of false one = NoElement
reading_of true true = Identity
reading_of true false = Other

-- what a number is, read as one of the group (document 02, request 2.3): no element, the identity, or another element
unfoldable pub read_element : ℕ → Reading
read_element v = reading_of (ltb 0 v && (ltb v P && eqb (power_of P v q) 1)) (eqb v 1)

-- the reading is an element, the identity or another
unfoldable pub some_element : Reading → Bool
some_element NoElement = false
some_element Identity = true
some_element Other = true

-- the reading is the identity
unfoldable pub the_identity : Reading → Bool
the_identity NoElement = false
the_identity Identity = true
the_identity Other = false

unfoldable pub is_element : ℕ → Bool
is_element v = some_element (read_element v)

unfoldable pub is_identity : ℕ → Bool
is_identity v = the_identity (read_element v)

-- the identity and the generator
abbrev pub identity : Element
identity = element 1

abbrev pub generator : Element
generator = element 4

-- V and W are one
unfoldable pub same_element : Element → Element → Bool
same_element v w = eqb v.0 w.0

unfoldable pub product : Element → Element → Element
product v w = element (v.0 * w.0 % P)

-- V to the power of a whole number
unfoldable pub powered : Element → ℕ → Element
powered v e = element (power_of P v.0 e)

-- V to the power of a scalar
unfoldable pub raise : Element → Scalar → Element
raise v x = powered v x.0

-- ---- what the laws are about

-- V is of the group
unfoldable pub InGroup : ℕ → Type 0
InGroup v = (0 < v) × (v < P) × (v ^ q % P ≡ 1)

abbrev pub IsScalar : Scalar → Type 0
IsScalar x = is_scalar x.0 ≡ true

abbrev pub IsElement : Element → Type 0
IsElement v = is_element v.0 ≡ true

-- V is below P, an element or not, as every product and power is
unfoldable pub Below : Element → Type 0
Below v = v.0 < P
