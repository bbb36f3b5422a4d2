-- The challenges and the shift (document 01, "The run"; document 02, request 2.1): what is kept of a CH or CS.
use Rattle.std.specs.Prelude.{ℕ, ◌*◌, List}
use Rattle.lists.specs.Stores.{stored, filled}
use Rattle.field.specs.declared.Scalar.{Scalar}
use Rattle.field.specs.Definitions.{scalar}
use Rattle.parameters.specs.Definitions.{cells}
use Rattle.records.specs.Bytes.{word}
use Rattle.challenge.specs.declared.Challenges.{Challenges}

-- none yet, and a shift of 0
unfoldable pub no_challenges : Challenges
no_challenges = record { shift = scalar 0; numbers = filled cells (scalar 0) }

-- the challenges of a record, u outer, from a place on
unfoldable pub challenges_from : ℕ → ℕ → Challenges → ℕ → List ℕ → List Scalar
challenges_from a b e from s = stored e.numbers 0 (a * b) (λ x. scalar (word s from x))

-- CH: the challenges behind two reserved bytes, and a shift of 0
unfoldable pub with_challenges : ℕ → ℕ → Challenges → List ℕ → Challenges
with_challenges a b e s = record { shift = scalar 0; numbers = challenges_from a b e 4 s }

-- CS: the shift behind two reserved bytes, then the challenges
unfoldable pub with_shifted : ℕ → ℕ → Challenges → List ℕ → Challenges
with_shifted a b e s = record { shift = scalar (word s 4 0); numbers = challenges_from a b e 8 s }
