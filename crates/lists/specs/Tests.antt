-- Tests that compute: a choice, a test over the numbers below n, a refusal unless a test passes.
use Rattle.std.specs.Prelude.{Bool, true, false, ◌&&◌, ℕ, zero, suc, eqb}

-- the first where the test passes, else the second
abbrev pub pick : {A : Type 0} → Bool → A → A → A
pick true a b = a
pick false a b = b

-- every number below n passes the test
unfoldable pub all_to : ℕ → (ℕ → Bool) → Bool
all_to zero f = true
all_to (suc n) f = all_to n f && f n

-- the refusal k unless the test passes, then the rest
unfoldable pub require : Bool → ℕ → ℕ → ℕ
require true k rest = rest
require false k rest = k

-- the refusal k, or what comes next where there is none
unfoldable pub or_next : ℕ → ℕ → ℕ
or_next k next = pick (eqb k 0) next k
