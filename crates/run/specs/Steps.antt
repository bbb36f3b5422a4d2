-- What a record does to a run (document 01, "The run", "From the input", "From the state"; CS is of document 02, request 2.1,
-- SX and GO of request 2.5).
use Rattle.std.specs.Prelude.{ℕ, ◌+◌, Bool, true, false, List, [], ◌∷◌, eqb, Result, Ok, Err}
use Rattle.lists.specs.Tests.{pick}
use Rattle.parameters.specs.Definitions.{quorum, batch}
use Rattle.records.specs.Tags.{tag_of}
use Rattle.refusals.specs.declared.Refusal.{Refusal}
use Rattle.refusals.specs.Numbers.{number}
use Rattle.refusals.specs.Refusals.{setup_refusal, challenges_refusal, shifted_refusal}
use Rattle.dealing.specs.Definitions.{setup_of, begun_batch, dealing_number, with_dealing}
use Rattle.complaint.specs.Definitions.{complaint_number, with_complaint, complaint_stage}
use Rattle.response.specs.Definitions.{untested, response_number, with_response, signatures_of}
use Rattle.challenge.specs.Definitions.{with_challenges, with_shifted}
use Rattle.stages.specs.Definitions.{handler_at, dealing_stage, go_number}
use Rattle.run.specs.declared.Run.{Run}
use Rattle.stages.specs.declared.Handler.{Handler}
use Rattle.stages.specs.declared.Handler.TheVariants.{TakeSetup, TakeWaiting, TakeDealing, TakeGo, TakeComplaint, TakeChallenges, TakeShifted, TakeResponse, Refuse}
use Rattle.run.specs.Runs.{set_batch, set_dealings, set_complaints, set_challenges, set_responses, set_signatures, begun, fresh, stage_of}

-- ---- SU, at stage 0; and SX, whose run waits

unfoldable pub after_setup : Bool → List ℕ → Run
after_setup waits s = begun 1 (begun_batch waits (setup_of s)) (setup_of s)

-- ---- DE, at stage 1: after n-t accepted, stage 2, unless the run waits

unfoldable pub after_dealing : Run → List ℕ → Run
after_dealing r s =
    set_dealings r (dealing_stage r.setup.n r.setup.t (r.dealings.count + 1) r.b) (with_dealing r.setup r.dealings s)

-- ---- GO, at stage 1 of a run that waits: then 2, and with m dealings b is m-t

unfoldable pub after_go : Run → Run
after_go r = set_batch r 2 (batch r.dealings.count r.setup.t)

-- ---- VE, at stage 2: after n-t accepted, stage 3 or 6

unfoldable pub after_complaint : Run → List ℕ → Run
after_complaint r s =
    let rows = with_complaint r.setup.n r.complaints s in
    set_complaints r (complaint_stage r.setup rows) rows

-- ---- CH, at stage 3: then 4

unfoldable pub after_challenges : Run → List ℕ → Run
after_challenges r s = set_challenges r 4 (with_challenges r.setup.a r.b r.challenges s)

-- ---- CS, at stage 3 like CH: then 4

unfoldable pub after_shifted : Run → List ℕ → Run
after_shifted r s = set_challenges r 4 (with_shifted r.setup.a r.b r.challenges s)

-- ---- RE, at stage 4: after need accepted, stage 5

-- the run with one more row
unfoldable pub with_row : Run → List ℕ → Run
with_row r s = set_responses r 4 (with_response r.b r.responses s)

-- done: every φ is worked out, and shifted
unfoldable pub finished : Run → Run
finished r = set_signatures r 5 (signatures_of r.b r.setup r.challenges.shift r.responses r.signatures)

unfoldable pub after_response : Run → List ℕ → Run
after_response r s =
    let done = finished (with_row r s) in
    pick (eqb (r.responses.count + 1) (quorum r.setup.t r.setup.a)) done (with_row r s)

-- ---- the step

-- what a record gets: the next run and 0, or the run as it was and the refusal's number
pub record Reply : Type 0 where
  pub run : Run
  pub number : ℕ

abbrev pub refused : Run → ℕ → Reply
refused r k = record { run = r; number = k }

-- the reply that an answer of the code is to a record given to a run
abbrev pub reply_of : Run → Result Run Refusal → Reply
reply_of r (Ok next) = record { run = next; number = 0 }
reply_of r (Err k) = refused r (number k)

-- a record at its stage: its refusal, or the next run
abbrev pub answered : Run → ℕ → Run → Reply
answered r k next = pick (eqb k 0) (record { run = next; number = 0 }) (refused r k)

unfoldable pub handled : Handler → Run → List ℕ → Reply
handled TakeSetup r s = answered r (setup_refusal s) (after_setup false s)
handled TakeWaiting r s = answered r (setup_refusal s) (after_setup true s)
handled TakeDealing r s = answered r (dealing_number r.setup r.dealings s) (after_dealing r s)
handled TakeGo r s = answered r (go_number r.setup.n r.setup.t r.dealings.count r.b s) (after_go r)
handled TakeComplaint r s = answered r (complaint_number r.setup r.dealings r.complaints s) (after_complaint r s)
handled TakeChallenges r s = answered r (challenges_refusal r.setup.a r.b s) (after_challenges r s)
handled TakeShifted r s = answered r (shifted_refusal r.setup.a r.b s) (after_shifted r s)
handled TakeResponse r s = answered r (response_number r.b r.setup r.dealings r.complaints r.challenges r.responses s) (after_response r s)
handled (Refuse k) r s = refused r (number k)

-- what a record, any bytes, does to a run
unfoldable pub step_of : Run → List ℕ → Reply
step_of r s = handled (handler_at (tag_of s) (stage_of r)) r s

-- a refusal that needs no response row to be tested, or 0: every number but 15
unfoldable pub untaken_by : Handler → Run → List ℕ → ℕ
untaken_by TakeSetup r s = setup_refusal s
untaken_by TakeWaiting r s = setup_refusal s
untaken_by TakeDealing r s = dealing_number r.setup r.dealings s
untaken_by TakeGo r s = go_number r.setup.n r.setup.t r.dealings.count r.b s
untaken_by TakeComplaint r s = complaint_number r.setup r.dealings r.complaints s
untaken_by TakeChallenges r s = challenges_refusal r.setup.a r.b s
untaken_by TakeShifted r s = shifted_refusal r.setup.a r.b s
untaken_by TakeResponse r s = untested r.setup.n r.b r.responses.responders r.complaints.holders s 0
untaken_by (Refuse k) r s = number k

unfoldable pub untaken : Run → List ℕ → ℕ
untaken r s = untaken_by (handler_at (tag_of s) (stage_of r)) r s

-- the run after a list of records: each is given to the run returned for the one before it, after a refusal too
unfoldable pub after_from : Run → List (List ℕ) → Run
after_from r [] = r
after_from r (s ∷ l) = after_from (step_of r s).run l

unfoldable pub after : List (List ℕ) → Run
after l = after_from fresh l
