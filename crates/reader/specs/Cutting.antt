-- A log as records end to end (document 01, "A log is .."; SX and GO are of document 02, request 2.5).
use Rattle.std.specs.Prelude.{ℕ, zero, suc, Bool, ◌&&◌, Option, Some, None, List, [], ◌∷◌, length, take, drop, eqb, leb}
use Rattle.lists.specs.Tests.{pick}
use Rattle.records.specs.Bytes.{byte_at}
use Rattle.records.specs.Tags.{Tag, SU, SX, DE, GO, VE, CH, CS, RE, unknown, tag_of, setup_length, dealing_length, complaint_length, challenges_length, shifted_length, response_length, go_length}
use Rattle.run.specs.declared.Run.{Run}
use Rattle.run.specs.Runs.{fresh}
use Rattle.run.specs.Steps.{step_of, after}

-- a length as the code answers it: none for 0
unfoldable pub some_length : ℕ → Option ℕ
some_length k = pick (eqb k 0) None (Some k)

-- the length of an SU or SX by its own t; 0 where it is cut before that
unfoldable pub own_length : List ℕ → ℕ
own_length s = pick (leb 6 (length s)) (setup_length (byte_at s 3)) 0

-- a length that takes b, which is 0 until it is fixed: then there is none
unfoldable pub by_batch : ℕ → ℕ → ℕ
by_batch b size = pick (eqb b 0) 0 size

-- the length of a record by its tag: SU's and SX's from its own t, the others' from the run's parameters and its b; 0 where it has none, since the
-- tag is unknown, SU or SX is cut before its t, the run has no setup yet, or it waits for GO and the length takes b
unfoldable pub length_at : Tag → Run → List ℕ → ℕ
length_at SU r s = own_length s
length_at SX r s = own_length s
length_at GO r s = pick (eqb r.stage 0) 0 go_length
length_at DE r s = pick (eqb r.stage 0) 0 (dealing_length r.setup.n r.setup.t r.setup.a)
length_at VE r s = pick (eqb r.stage 0) 0 (complaint_length r.setup.n)
length_at CH r s = pick (eqb r.stage 0) 0 (by_batch r.b (challenges_length r.setup.a r.b))
length_at CS r s = pick (eqb r.stage 0) 0 (by_batch r.b (shifted_length r.setup.a r.b))
length_at RE r s = pick (eqb r.stage 0) 0 (by_batch r.b (response_length r.b))
length_at unknown r s = 0

unfoldable pub length_of : Run → List ℕ → ℕ
length_of r s = length_at (tag_of s) r s

-- the bytes begin with a whole record
unfoldable pub whole : Run → List ℕ → Bool
whole r s = leb 1 (length_of r s) && leb (length_of r s) (length s)

-- The records of what is left of a log, given to r in turn. A record is passed over by its length, accepted or refused; bytes that do not begin
-- with a whole record are the last. f bounds the records.
unfoldable pub cut_from : ℕ → Run → List ℕ → List (List ℕ)
cut_from zero r s = []
cut_from (suc f) r s =
    pick (eqb (length s) 0) []
    (pick (whole r s)
    (take (length_of r s) s ∷ cut_from f (step_of r (take (length_of r s) s)).run (drop (length_of r s) s))
    (s ∷ []))

unfoldable pub records_of : List ℕ → List (List ℕ)
records_of log = cut_from (length log) fresh log

-- the run after a log is the run after the list of its records
unfoldable pub run_of : List ℕ → Run
run_of log = after (records_of log)
