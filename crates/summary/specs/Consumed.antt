-- The sets alone (document 02, request 2.6): the records that are read for them, and the bytes that these count.
use Rattle.std.specs.Prelude.{ℕ, ◌+◌, Bool, List, [], ◌∷◌, length, eqb, leb}
use Rattle.lists.specs.Tests.{pick}
use Rattle.records.specs.Tags.{GO, code, tag_of, go_length}
use Rattle.run.specs.declared.Run.{Run}
use Rattle.run.specs.Runs.{fresh, stage_of}
use Rattle.run.specs.Steps.{step_of}
use Rattle.reader.specs.Cutting.{length_of, records_of}

-- ---- the records that are read

-- the sets are fixed: stage 3 or 6, or one past 3
unfoldable pub settled : Run → Bool
settled r = leb 3 (stage_of r)

-- of records that are given to r in turn, those up to and with the one that fixes the sets
unfoldable pub up_to : Run → List (List ℕ) → List (List ℕ)
up_to r [] = []
up_to r (s ∷ l) = pick (settled r) [] (s ∷ up_to (step_of r s).run l)

unfoldable pub read_of : List ℕ → List (List ℕ)
read_of log = up_to fresh (records_of log)

-- ---- the bytes that they count

-- the length that a record's tag fixes, from the one by which it is passed over, which is 0 where there is none: that of a GO is 2, before a setup too
unfoldable pub fixed_length : ℕ → List ℕ → ℕ
fixed_length passed s = pick (eqb (code (tag_of s)) (code GO)) go_length passed

-- a complete record counts that length, any other 0
unfoldable pub counted_by : ℕ → List ℕ → ℕ
counted_by passed s = pick (leb (fixed_length passed s) (length s)) (fixed_length passed s) 0

-- given to a run
abbrev pub counted_length : Run → List ℕ → ℕ
counted_length r s = counted_by (length_of r s) s

-- of records that are given to r in turn
unfoldable pub counted_from : Run → List (List ℕ) → ℕ
counted_from r [] = 0
counted_from r (s ∷ l) = counted_length r s + counted_from (step_of r s).run l

unfoldable pub consumed : List ℕ → ℕ
consumed log = counted_from fresh (read_of log)

-- the summed lengths of records
unfoldable pub summed : List (List ℕ) → ℕ
summed [] = 0
summed (s ∷ l) = length s + summed l
