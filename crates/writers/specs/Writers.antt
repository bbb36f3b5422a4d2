-- What an honest holder's VE and RE are, and when their writers refuse (document 01, "The writers make ..").
use Rattle.std.specs.Prelude.{◌≡◌, ℕ, ◌+◌, ◌-◌, ◌≤◌, ◌<◌, Bool, true, not, ◌&&◌, ◌||◌, List, ◌∷◌, length, get_or, eqb}
use Rattle.algebra.specs.Fold.{fold}
use Rattle.lists.specs.Tests.{pick, all_to, require}
use Rattle.sets.specs.Masks.{has, mask_of}
use Rattle.field.specs.declared.Scalar.{Scalar}
use Rattle.field.specs.Definitions.{scalar, is_scalar, plus, times}
use Rattle.interpolation.specs.Definitions.{party}
use Rattle.parameters.specs.Definitions.{is_party}
use Rattle.records.specs.Tags.{letter_e, letter_r, letter_v, mask_width, complaint_length, response_length}
use Rattle.encoding.specs.Bytes.{bytes_of, fours}
use Rattle.protocol.specs.Transcript.{Transcript, valid_share, coefficient, challenge_at}
use Rattle.run.specs.declared.Run.{Run}
use Rattle.run.specs.Runs.{stage_of, transcript_of}
use Rattle.dealing.specs.Definitions.{may_blame}

-- ---- VE, from a run and j

unfoldable pub complaint_refused : Run → ℕ → ℕ → ℕ
complaint_refused r j room =
    require (eqb (stage_of r) 2) 11
    (require (is_party r.setup.n j) 5
    (require (eqb room (complaint_length r.setup.n)) 9 0))

-- it blames exactly the accepted dealers whose share for j is not valid
unfoldable pub complaint_bytes : Run → ℕ → List ℕ
complaint_bytes r j = letter_v ∷ letter_e ∷ j ∷ 0 ∷ bytes_of (mask_width r.setup.n) (mask_of r.setup.n (may_blame r.dealings j))

-- ---- RE, from a run, j, F(j) and n shares by dealer number, of which only those of QUAL are read or tested for range

-- what is asked of F(j), the shares and the room
unfoldable pub shares_refused : Run → ℕ → List ℕ → ℕ → ℕ
shares_refused r key shares room =
    require (eqb (length shares) r.setup.n) 10
    (require (is_scalar key && all_to r.setup.n (λ i. not ((transcript_of r).qual (i + 1)) || is_scalar (get_or shares i 0))) 6
    (require (eqb room (response_length r.b)) 9 0))

unfoldable pub response_refused : Run → ℕ → ℕ → List ℕ → ℕ → ℕ
response_refused r j key shares room =
    require (eqb (stage_of r) 4) 11
    (require (is_party r.setup.n j) 5
    (require (has r.complaints.holders j) 14 (shares_refused r key shares room)))

-- H_u(j): the sum over QUAL of i^(u-1) × H_i(j)
unfoldable pub combined_share : ℕ → (ℕ → Bool) → List ℕ → ℕ → Scalar
combined_share n qual shares u =
    fold plus (scalar 0) n (λ i. pick (qual (i + 1)) (times (coefficient (i + 1) u) (scalar (get_or shares i 0))) (scalar 0))

-- H_u(j) + E_u(j) × F(j)
unfoldable pub response_for : Run → ℕ → ℕ → List ℕ → ℕ → Scalar
response_for r j key shares u =
    plus (combined_share r.setup.n (transcript_of r).qual shares u) (times (challenge_at (transcript_of r) u (party j)) (scalar key))

unfoldable pub response_bytes : Run → ℕ → ℕ → List ℕ → List ℕ
response_bytes r j key shares =
    letter_r ∷ letter_e ∷ j ∷ 0 ∷ fours r.b (λ u. (response_for r j key shares (u + 1)).0)

-- the shares of QUAL are valid (document 01: right) for holder j
abbrev pub ValidShares : Transcript → ℕ → List ℕ → Type 0
ValidShares w j shares = (i : ℕ) → 0 < i → i ≤ w.n → w.qual i ≡ true → valid_share w.t w.a (w.commitment i) j (scalar (get_or shares (i - 1) 0)) ≡ true
