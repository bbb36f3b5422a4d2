-- What is refused from the input alone, by kind of record (document 01, "From the input"): the refusal's number, or 0. Each number is asked of
-- the whole record before the next one. A reserved byte is a spare one of document 01.
use Rattle.std.specs.Prelude.{ℕ, ◌+◌, ◌*◌, ◌^◌, Bool, not, ◌&&◌, List, length, eqb, ltb, leb}
use Rattle.lists.specs.Tests.{all_to, require, or_next}
use Rattle.field.specs.Definitions.{is_scalar, is_element, is_identity}
use Rattle.parameters.specs.Definitions.{in_bounds, quorum, is_party}
use Rattle.records.specs.Bytes.{byte_at, word, sender}
use Rattle.records.specs.Tags.{setup_length, dealing_length, complaint_length, challenges_length, shifted_length, response_length, shares_from, mask_at}

-- SU and SX alike: n, t, a, reserved; S, S_1 to S_t. S is not the identity (document 02, request 2.3); the others may be
unfoldable pub setup_refusal : List ℕ → ℕ
setup_refusal s =
    require (leb 6 (length s) && eqb (length s) (setup_length (byte_at s 3))) 2
    (require (eqb (byte_at s 5) 0) 3
    (require (in_bounds (byte_at s 2) (byte_at s 3) (byte_at s 4)) 4
    (require (all_to (byte_at s 3 + 1) (λ j. is_element (word s 6 j))) 7
    (require (not (is_identity (word s 6 0))) 16 0))))

-- the head of DE, VE and RE alike: the length, the reserved byte, the dealer or holder
unfoldable pub head_refusal : ℕ → ℕ → List ℕ → ℕ
head_refusal n size s =
    require (eqb (length s) size) 2
    (require (eqb (byte_at s 3) 0) 3
    (require (is_party n (sender s)) 5 0))

-- DE: dealer, reserved; the committed values; n shares
unfoldable pub dealing_refusal : ℕ → ℕ → ℕ → List ℕ → ℕ
dealing_refusal n t a s =
    or_next (head_refusal n (dealing_length n t a) s)
    (require (all_to (quorum t a) (λ v. is_element (word s 4 v))) 7
    (require (all_to n (λ j. is_scalar (word s (shares_from t a) j))) 6 0))

-- a mask has no bit above bit n - 1
unfoldable pub mask_fits : ℕ → ℕ → Bool
mask_fits n mask = ltb mask (2 ^ n)

-- VE, a complaint row (verdict): holder, reserved; the mask of the blamed dealers
unfoldable pub complaint_refusal : ℕ → List ℕ → ℕ
complaint_refusal n s =
    or_next (head_refusal n (complaint_length n) s)
    (require (mask_fits n (mask_at n s)) 8 0)

-- CH and CS alike: the length, two reserved, so many scalars
unfoldable pub scalars_refusal : ℕ → ℕ → List ℕ → ℕ
scalars_refusal size count s =
    require (eqb (length s) size) 2
    (require (eqb (byte_at s 2) 0 && eqb (byte_at s 3) 0) 3
    (require (all_to count (λ x. is_scalar (word s 4 x))) 6 0))

-- CH: two reserved; the challenges
unfoldable pub challenges_refusal : ℕ → ℕ → List ℕ → ℕ
challenges_refusal a b s = scalars_refusal (challenges_length a b) (a * b) s

-- CS (document 02, request 2.1): two reserved; the shift; the challenges
unfoldable pub shifted_refusal : ℕ → ℕ → List ℕ → ℕ
shifted_refusal a b s = scalars_refusal (shifted_length a b) (a * b + 1) s

-- RE: holder, reserved; b response numbers
unfoldable pub response_refusal : ℕ → ℕ → List ℕ → ℕ
response_refusal n b s =
    or_next (head_refusal n (response_length b) s)
    (require (all_to b (λ x. is_scalar (word s 4 x))) 6 0)
