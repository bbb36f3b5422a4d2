-- A log taken turn by turn: each turn gives the run one record and passes over it.
use Rattle.std.specs.Prelude.{◌≡◌, Bool, ◌≢◌, ◌⊎◌, List, ◌++◌, ℕ, ◌≤◌, ◌<◌, length, take, drop, eqb}
use Rattle.lists.specs.Tests.{pick}
use Rattle.records.specs.Tags.{SU, SX, CH, CS, RE, unknown, tag_of}
use Rattle.run.specs.declared.Run.{Run}
use Rattle.run.specs.Runs.{stage_of}
use Rattle.run.specs.Steps.{after_from}
use Rattle.stages.specs.Definitions.{taken_at}
use Rattle.reader.specs.Cutting.{length_of, whole, cut_from}
use Rattle.reader.specs.Report.{refusal_lines}

-- the length of the next record: by its tag where it is whole, else all that is left
unfoldable pub next_length : Run → List ℕ → ℕ
next_length r s = pick (whole r s) (length_of r s) (length s)

abbrev pub next_record : Run → List ℕ → List ℕ
next_record r s = take (next_length r s) s

abbrev pub next_rest : Run → List ℕ → List ℕ
next_rest r s = drop (next_length r s) s

-- the records of what is left
unfoldable pub records_from : Run → List ℕ → List (List ℕ)
records_from r s = cut_from (length s) r s

-- the refusal lines of what is left, and the run after it
unfoldable pub lines_from : ℕ → Run → List ℕ → List ℕ
lines_from position r s = refusal_lines position r (records_from r s)

unfoldable pub run_from : Run → List ℕ → Run
run_from r s = after_from r (records_from r s)

-- a turn: the next records, l of them, are given to the run, and take n bytes
pub record Turn (r : Run) (s : List ℕ) (l : List (List ℕ)) (n : ℕ) : Type 0 where
  pub records_are : records_from r s ≡ l ++ records_from (after_from r l) (drop n s)
  pub within : n ≤ length s
  pub count_max : length l ≤ n
  pub some : 0 < n

-- ---- what is left of a log

-- a whole record
abbrev pub Whole : Run → List ℕ → Type 0
Whole r s = (0 < length_of r s) × (length_of r s ≤ length s)

-- the run's stage is the one that takes the record's tag
abbrev pub takes : Run → List ℕ → Bool
takes r s = eqb (stage_of r) (taken_at (tag_of s))

-- no setup yet, and a known tag other than SU and SX
abbrev pub BeforeSetup : Run → List ℕ → Type 0
BeforeSetup r s = (stage_of r ≡ 0) × (tag_of s ≢ unknown) × (tag_of s ≢ SU) × (tag_of s ≢ SX)

-- the run waits for GO, so that b is not fixed yet, and a tag whose length takes b
abbrev pub BeforeGo : Run → List ℕ → Type 0
BeforeGo r s = (r.stage ≢ 0) × (r.b ≡ 0) × ((tag_of s ≡ CH) ⊎ ((tag_of s ≡ CS) ⊎ (tag_of s ≡ RE)))

-- SU or SX
abbrev pub Begins : List ℕ → Type 0
Begins s = (tag_of s ≡ SU) ⊎ (tag_of s ≡ SX)

-- a cut record: fewer bytes are left than its tag's length, for SU and SX also under 6
abbrev pub Cut : Run → List ℕ → Type 0
Cut r s = (tag_of s ≢ unknown) × ((length s < length_of r s) ⊎ (Begins s × (length s < 6)))
