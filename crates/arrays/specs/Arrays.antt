-- The public values of a committee as a run keeps them: flat arrays, party i's values from (i - 1) × stride on.
use Rattle.std.specs.Prelude.{ℕ, ◌+◌, ◌*◌, ◌-◌, List, get_or}
use Rattle.lists.specs.Stores.{stored, filled}
use Rattle.sets.specs.Masks.{has, members, count}
use Rattle.field.specs.declared.Scalar.{Scalar}
use Rattle.field.specs.declared.Element.{Element}
use Rattle.field.specs.Definitions.{scalar, identity}
use Rattle.rows.specs.declared.Row.{Row}
use Rattle.interpolation.specs.Definitions.{party}
use Rattle.rows.specs.Definitions.{most_scalars, listed}
use Rattle.parameters.specs.Definitions.{stride}

-- where party i's values begin
unfoldable pub base : ℕ → ℕ
base i = (i - 1) * stride

-- the place of (u,k), u outer
unfoldable pub cell : ℕ → ℕ → ℕ → ℕ
cell a u k = (u - 1) * a + (k - 1)

-- dealer i's committed value number v
abbrev pub commitment_in : List Element → ℕ → ℕ → Element
commitment_in list i v = get_or list (base i + v) identity

-- e(u,k)
abbrev pub challenge_in : ℕ → List Scalar → ℕ → ℕ → Scalar
challenge_in a list u k = get_or list (cell a u k) (scalar 0)

-- a list of m elements, or scalars, at the front of 64 places
unfoldable pub elements : ℕ → (ℕ → Element) → List Element
elements m f = stored (filled most_scalars identity) 0 m f

unfoldable pub scalars : ℕ → (ℕ → Scalar) → List Scalar
scalars m f = stored (filled most_scalars (scalar 0)) 0 m f

-- the points of the members of a set, and their numbers for u, members rising
unfoldable pub member_points : ℕ → ℕ → Row
member_points n set = listed (count n (has set)) (λ i. party (get_or (members n (has set)) i 0))

unfoldable pub member_numbers : ℕ → ℕ → List Scalar → ℕ → List Scalar
member_numbers n set numbers u =
    scalars (count n (has set)) (λ i. get_or numbers (base (get_or (members n (has set)) i 0) + (u - 1)) (scalar 0))
