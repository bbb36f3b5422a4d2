-- `raised` meets its contract. The loop has stored the powers passed, those of 1 as they are. Assumes nothing.
use Rattle.std.proofs.Common.{◌≡◌, List, ℕ, ◌+◌, ◌/◌, get_or, take}
use Rattle.lists.specs.Stores.{stored}
use Rattle.field.specs.declared.Element.{Element}
use Rattle.field.specs.Definitions.{identity, powered}
use Rattle.parameters.specs.Definitions.{stride}
use Rattle.combination.proofs.raised.Given as goal

-- the power at a place
abbrev pub power_at : List Element → ℕ → Element
power_at list at = powered (get_or list at identity) (at / stride + 1)

abbrev pub invariant-loop-at : goal.invariant-loop-at
invariant-loop-at l = l.value-items ≡ stored (take l.count l.fn.list) 0 l.at (power_at l.fn.list)
