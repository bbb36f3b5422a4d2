-- Runs of stores into a list, and a list filled with one element, at any element type.
use Rattle.std.specs.Prelude.{List, ℕ, zero, suc, ◌+◌, set, replicate}

-- the list with f 0, .., f (k - 1) in place of what stands from base
unfoldable pub stored : {A : Type 0} → List A → ℕ → ℕ → (ℕ → A) → List A
stored l base zero f = l
stored l base (suc k) f = set (stored l base k f) (base + k) (f k)

-- n times x. Shut, so that a long list does not compute
unfoldable pub filled : {A : Type 0} → ℕ → A → List A
filled n x = replicate n x
