-- What a run answers when it is asked for its sets, for R(u,k) and for φ(u,k), both shifted.
use Rattle.std.specs.Prelude.{ℕ, Bool, ◌&&◌, leb, eqb, Option, Some, None, unwrap_or}
use Rattle.lists.specs.Tests.{pick}
use Rattle.field.specs.declared.Scalar.{Scalar}
use Rattle.field.specs.declared.Element.{Element}
use Rattle.protocol.specs.Transcript.{shifted_nonce}
use Rattle.run.specs.declared.Run.{Run}
use Rattle.answers.specs.declared.Sets.{Sets}
use Rattle.complaint.specs.Definitions.{blamed_by, unblamed}
use Rattle.run.specs.Runs.{stage_of, transcript_of, kept}

-- ---- the sets

-- BAD as a mask: the dealers whom any kept mask of HOLD blames
unfoldable pub bad_of : Run → ℕ
bad_of r = blamed_by r.setup.n r.complaints

-- the accepted dealers that no accepted complaint row blames, at any stage; from stage 3 on they are QUAL
unfoldable pub unblamed_of : Run → ℕ
unblamed_of r = unblamed r.setup.n r.complaints r.dealings.dealers

-- HOLD, QUAL and BAD of the kept complaint rows
unfoldable pub kept_sets : Run → Sets
kept_sets r = record { hold = r.complaints.holders; qual = unblamed_of r; bad = bad_of r }

-- they are fixed from stage 3 on
unfoldable pub sets_of : Run → Option Sets
sets_of r = pick (leb 3 (stage_of r)) (Some (kept_sets r)) None

-- no set has a member
unfoldable pub no_sets : Sets
no_sets = record { hold = 0; qual = 0; bad = 0 }

-- as they are shown: empty before they are fixed
unfoldable pub shown_sets : Run → Sets
shown_sets r = unwrap_or (sets_of r) no_sets

-- ---- R and φ

-- u from 1 to b and k from 1 to a
unfoldable pub in_batch : Run → ℕ → ℕ → Bool
in_batch r u k = (leb 1 u && leb u r.b) && (leb 1 k && leb k r.setup.a)

-- R(u,k) × 4^δ, once QUAL is fixed and signatures can come of it: at stages 3, 4 and 5
unfoldable pub nonce_of : Run → ℕ → ℕ → Option Element
nonce_of r u k = pick ((leb 3 (stage_of r) && leb (stage_of r) 5) && in_batch r u k) (Some (shifted_nonce (transcript_of r) u k)) None

-- φ(u,k) + δ, which the run keeps, at stage 5
unfoldable pub phi_answer : Run → ℕ → ℕ → Option Scalar
phi_answer r u k = pick (eqb (stage_of r) 5 && in_batch r u k) (Some (kept r u k)) None
