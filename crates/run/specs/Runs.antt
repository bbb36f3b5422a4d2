-- What a run keeps (document 01, "The run"; b is of document 02, request 2.5), and what it says.
use Rattle.std.specs.Prelude.{ℕ, Bool, ◌&&◌, List, get_or, eqb, leb}
use Rattle.lists.specs.Tests.{pick}
use Rattle.lists.specs.Stores.{filled}
use Rattle.field.specs.declared.Scalar.{Scalar}
use Rattle.field.specs.Definitions.{scalar}
use Rattle.parameters.specs.Definitions.{cells, in_bounds}
use Rattle.protocol.specs.Transcript.{Transcript}
use Rattle.arrays.specs.Arrays.{cell}
use Rattle.stages.specs.Definitions.{batch_fits}
use Rattle.dealing.specs.declared.Setup.{Setup}
use Rattle.dealing.specs.declared.Dealings.{Dealings}
use Rattle.complaint.specs.declared.Complaints.{Complaints}
use Rattle.challenge.specs.declared.Challenges.{Challenges}
use Rattle.response.specs.declared.Responses.{Responses}
use Rattle.dealing.specs.Definitions.{no_setup, no_dealings}
use Rattle.complaint.specs.Definitions.{no_complaints}
use Rattle.verification.specs.Definitions.{transcript}
use Rattle.response.specs.Definitions.{no_responses}
use Rattle.challenge.specs.Definitions.{no_challenges}
use Rattle.run.specs.declared.Run.{Run}

-- ---- a run from its parts, and with the stage and one part replaced. b is the signatures of a packed slot: n-2t in a run begun by SU, and in
-- one begun by SX 0 until GO, then m-t with m dealings; m is their count

abbrev pub assembled : ℕ → ℕ → Setup → Dealings → Complaints → Challenges → Responses → List Scalar → Run
assembled stage b setup dealings complaints challenges responses signatures =
    record {
      stage = stage;
      b = b;
      setup = setup;
      dealings = dealings;
      complaints = complaints;
      challenges = challenges;
      responses = responses;
      signatures = signatures;
    }

abbrev pub set_batch : Run → ℕ → ℕ → Run
set_batch r stage x = assembled stage x r.setup r.dealings r.complaints r.challenges r.responses r.signatures

abbrev pub set_dealings : Run → ℕ → Dealings → Run
set_dealings r stage x = assembled stage r.b r.setup x r.complaints r.challenges r.responses r.signatures

abbrev pub set_complaints : Run → ℕ → Complaints → Run
set_complaints r stage x = assembled stage r.b r.setup r.dealings x r.challenges r.responses r.signatures

abbrev pub set_challenges : Run → ℕ → Challenges → Run
set_challenges r stage x = assembled stage r.b r.setup r.dealings r.complaints x r.responses r.signatures

abbrev pub set_responses : Run → ℕ → Responses → Run
set_responses r stage x = assembled stage r.b r.setup r.dealings r.complaints r.challenges x r.signatures

abbrev pub set_signatures : Run → ℕ → List Scalar → Run
set_signatures r stage x = assembled stage r.b r.setup r.dealings r.complaints r.challenges r.responses x

-- ---- a fresh run: stage 0, every list empty, and a shift of 0

unfoldable pub no_scalars : List Scalar
no_scalars = filled cells (scalar 0)

unfoldable pub begun : ℕ → ℕ → Setup → Run
begun stage b setup = assembled stage b setup no_dealings no_complaints no_challenges no_responses no_scalars

unfoldable pub fresh : Run
fresh = begun 0 0 no_setup

-- ---- its stage

-- what every run past stage 0 has that a list of records makes: a stage up to 6, parameters within the bounds, counts up to n, and its b
unfoldable pub well_formed : Run → Bool
well_formed r =
    leb r.stage 6
    && (in_bounds r.setup.n r.setup.t r.setup.a
    && (leb r.dealings.count r.setup.n && (leb r.complaints.count r.setup.n && (leb r.responses.count r.setup.n
    && batch_fits r.stage r.setup.n r.setup.t r.dealings.count r.b))))

-- a run past stage 0 that is not well formed counts as one at stage 6
unfoldable pub stage_of : Run → ℕ
stage_of r = pick (eqb r.stage 0) 0 (pick (well_formed r) r.stage 6)

-- ---- its public values

unfoldable pub transcript_of : Run → Transcript
transcript_of r = transcript r.setup r.dealings r.complaints r.challenges

-- the number that a run keeps for (u,k)
unfoldable pub kept : Run → ℕ → ℕ → Scalar
kept r u k = get_or r.signatures (cell r.setup.a u k) (scalar 0)
