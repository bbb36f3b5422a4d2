-- The committed values of dealers, combined for u, as flat arrays: party i's values from (i - 1) × stride on.
use Rattle.std.specs.Prelude.{ℕ, zero, suc, ◌+◌, ◌*◌, ◌/◌, Bool, List, get_or}
use Rattle.lists.specs.Stores.{stored}
use Rattle.field.specs.declared.Element.{Element}
use Rattle.field.specs.Definitions.{identity, powered}
use Rattle.parameters.specs.Definitions.{stride}
use Rattle.protocol.specs.Transcript.{exponent, product_over}

-- the committed values combined for u: at v the product over a set of dealers of V_i(v)^(i^(u-1))
unfoldable pub combined_value : ℕ → (ℕ → Bool) → (ℕ → ℕ → Element) → ℕ → ℕ → Element
combined_value n qual commitment u v = product_over n qual (λ i. powered (commitment i v) (exponent i u))

-- the committed values of n dealers, each to the power of its dealer's number
unfoldable pub raised : ℕ → List Element → List Element
raised n list = stored list 0 (n * stride) (λ p. powered (get_or list p identity) (p / stride + 1))

-- the committed values to the power of i^u, by u such steps
unfoldable pub powers_at : ℕ → List Element → ℕ → List Element
powers_at n list zero = list
powers_at n list (suc u) = raised n (powers_at n list u)
