-- The accepted response rows (document 01, "The run"; the shift is of document 02, request 2.1): when a row is taken, what is kept of it, and φ.
use Rattle.std.specs.Prelude.{ℕ, ◌+◌, ◌*◌, ◌-◌, ◌/◌, ◌%◌, not, List, length, get_or}
use Rattle.lists.specs.Tests.{require, or_next}
use Rattle.lists.specs.Stores.{stored, filled}
use Rattle.sets.specs.Masks.{has, insert, members}
use Rattle.field.specs.declared.Scalar.{Scalar}
use Rattle.field.specs.Definitions.{scalar, plus}
use Rattle.interpolation.specs.Definitions.{party, slot, scalar_at}
use Rattle.parameters.specs.Definitions.{places}
use Rattle.records.specs.Bytes.{word, sender}
use Rattle.refusals.specs.Refusals.{response_refusal}
use Rattle.arrays.specs.Arrays.{base}
use Rattle.dealing.specs.declared.Setup.{Setup}
use Rattle.dealing.specs.declared.Dealings.{Dealings}
use Rattle.complaint.specs.declared.Complaints.{Complaints}
use Rattle.challenge.specs.declared.Challenges.{Challenges}
use Rattle.verification.specs.Definitions.{row_passes}
use Rattle.response.specs.declared.Responses.{Responses}

-- ---- the response rows

unfoldable pub no_responses : Responses
no_responses = record { count = 0; responders = 0; numbers = filled places (scalar 0) }

-- the refusals of an RE at stage 4 that need no test of its numbers, with those who have sent one and those of HOLD: 12, then 14, after those from the
-- input; then the rest
abbrev pub untested : ℕ → ℕ → ℕ → ℕ → List ℕ → ℕ → ℕ
untested n b sent holders s rest =
    or_next (response_refusal n b s)
    (require (not (has sent (sender s))) 12
    (require (has holders (sender s)) 14 rest))

-- the refusal of an RE at stage 4: at last 15
unfoldable pub response_number : ℕ → Setup → Dealings → Complaints → Challenges → Responses → List ℕ → ℕ
response_number b setup d c e p s = untested setup.n b p.responders c.holders s (require (row_passes b setup d c e s) 15 0)

-- a row's b numbers stand from its sender's place on
unfoldable pub with_response : ℕ → Responses → List ℕ → Responses
with_response b p s =
    record {
      count = p.count + 1;
      responders = insert p.responders (sender s);
      numbers = stored p.numbers (base (sender s)) b (λ x. scalar (word s 4 x));
    }

-- ---- φ

-- the senders of the accepted rows, rising
abbrev pub responders_of : ℕ → Responses → List ℕ
responders_of n p = members n (has p.responders)

-- the accepted response numbers for u, interpolated at packed slot k
unfoldable pub phi_of : ℕ → Responses → ℕ → ℕ → Scalar
phi_of n p u k =
    scalar_at (λ i. party (get_or (responders_of n p) i 0)) (length (responders_of n p))
    (λ i. get_or p.numbers (base (get_or (responders_of n p) i 0) + (u - 1)) (scalar 0)) (slot k)

-- φ(u,k) + δ modulo q: what is kept for φ(u,k)
unfoldable pub shifted_phi_of : ℕ → Scalar → Responses → ℕ → ℕ → Scalar
shifted_phi_of n shift p u k = plus (phi_of n p u k) shift

-- a list with every one, u from 1 to b outer
unfoldable pub signatures_of : ℕ → Setup → Scalar → Responses → List Scalar → List Scalar
signatures_of b setup shift p list =
    stored list 0 (setup.a * b) (λ x. shifted_phi_of setup.n shift p (x / setup.a + 1) (x % setup.a + 1))
