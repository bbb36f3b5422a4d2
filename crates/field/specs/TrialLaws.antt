-- Trial division, computed.
use Rattle.std.specs.Prelude.{Bool, true, ◌&&◌, ℕ, zero, suc, ◌%◌, ltb}

-- none of the k numbers from d on divides n
unfoldable pub trial : ℕ → ℕ → ℕ → Bool
trial n zero d = true
trial n (suc k) d = ltb 0 (n % d) && trial n k (suc d)
