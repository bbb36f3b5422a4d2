-- The committed values of a set of dealers, combined for every u up to one, in one flat array: those for u from (u - 1) × stride on.
use Rattle.std.specs.Prelude.{ℕ, zero, suc, ◌+◌, ◌*◌, List, get_or}
use Rattle.lists.specs.Stores.{stored, filled}
use Rattle.sets.specs.Masks.{has}
use Rattle.field.specs.declared.Element.{Element}
use Rattle.field.specs.Definitions.{identity}
use Rattle.parameters.specs.Definitions.{stride, places}
use Rattle.arrays.specs.Arrays.{commitment_in, elements}
use Rattle.combination.specs.Combination.{combined_value}

-- the values for u, of the parties of a mask
abbrev pub values_at : ℕ → ℕ → ℕ → List Element → ℕ → List Element
values_at n qual quorum list u = elements quorum (combined_value n (has qual) (commitment_in list) u)

-- those for u from 1 to k
unfoldable pub table_to : ℕ → ℕ → ℕ → List Element → ℕ → List Element
table_to n qual quorum list zero = filled places identity
table_to n qual quorum list (suc k) = stored (table_to n qual quorum list k) (k * stride) stride (λ v. get_or (values_at n qual quorum list (k + 1)) v identity)
