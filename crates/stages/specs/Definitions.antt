-- Which stage takes a tag, and what a record meets there (document 01, "The run"; CS is of document 02, request 2.1,
-- SX and GO of request 2.5); when the dealings bring stage 2, when a GO ends the waiting for more, and which b goes with a stage.
use Rattle.std.specs.Prelude.{ℕ, ◌-◌, Bool, ◌&&◌, ◌||◌, List, length, eqb, leb}
use Rattle.lists.specs.Tests.{pick, require}
use Rattle.parameters.specs.Definitions.{batch}
use Rattle.records.specs.Tags.{Tag, SU, SX, DE, GO, VE, CH, CS, RE, unknown, go_length}
use Rattle.refusals.specs.declared.Refusal.TheVariants.{WrongStage, UnknownTag}
use Rattle.stages.specs.declared.Handler.{Handler}
use Rattle.stages.specs.declared.Handler.TheVariants.{TakeSetup, TakeWaiting, TakeDealing, TakeGo, TakeComplaint, TakeChallenges, TakeShifted, TakeResponse, Refuse}

-- the stage that takes a tag; an unknown one is taken at none, and no run is at stage 7
unfoldable pub taken_at : Tag → ℕ
taken_at SU = 0
taken_at SX = 0
taken_at DE = 1
taken_at GO = 1
taken_at VE = 2
taken_at CH = 3
taken_at CS = 3
taken_at RE = 4
taken_at unknown = 7

-- at the stage that takes a tag its handler, at another refusal 11
unfoldable pub at_stage : Tag → ℕ → Handler → Handler
at_stage g stage h = pick (eqb stage (taken_at g)) h (Refuse WrongStage)

-- what a record of a tag meets at a stage: its handler, or refusal 1 or 11
unfoldable pub handler_at : Tag → ℕ → Handler
handler_at SU stage = at_stage SU stage TakeSetup
handler_at SX stage = at_stage SX stage TakeWaiting
handler_at DE stage = at_stage DE stage TakeDealing
handler_at GO stage = at_stage GO stage TakeGo
handler_at VE stage = at_stage VE stage TakeComplaint
handler_at CH stage = at_stage CH stage TakeChallenges
handler_at CS stage = at_stage CS stage TakeShifted
handler_at RE stage = at_stage RE stage TakeResponse
handler_at unknown stage = Refuse UnknownTag

-- ---- waiting, and GO

-- the stage that m dealings bring: 1 in a run that waits, whose b is not fixed yet; else 2 after n-t of them
unfoldable pub dealing_stage : ℕ → ℕ → ℕ → ℕ → ℕ
dealing_stage n t m b = pick (eqb b 0) 1 (pick (eqb m (n - t)) 2 1)

-- the refusal of a GO at stage 1 with m dealings: 11 in a run that does not wait, whose b is fixed; 2; then 17 before n-t dealings
unfoldable pub go_number : ℕ → ℕ → ℕ → ℕ → List ℕ → ℕ
go_number n t m b s =
    require (eqb b 0) 11
    (require (eqb (length s) go_length) 2
    (require (leb (n - t) m) 17 0))

-- b is what the stage and the m dealings say: past stage 1 m-t, with at least n-t of them; before that the b of n-t, or 0 in a run that waits
unfoldable pub batch_fits : ℕ → ℕ → ℕ → ℕ → ℕ → Bool
batch_fits stage n t m b = pick (leb stage 1) (eqb b 0 || eqb b (batch (n - t) t)) (leb (n - t) m && eqb b (batch m t))
