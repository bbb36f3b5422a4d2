-- Consecutive response rows of a log, which a run at stage 4 is given in one call.
use Rattle.std.specs.Prelude.{◌≡◌, ℕ, zero, suc, ◌+◌, ◌/◌, ◌≤◌, Bool, List, [], ◌∷◌, ◌++◌, length, take, drop, eqb, ltb}
use Rattle.lists.specs.Tests.{pick}
use Rattle.records.specs.Tags.{RE, code, tag_of, response_length}
use Rattle.run.specs.declared.Run.{Run}
use Rattle.run.specs.Runs.{stage_of}
use Rattle.run.specs.Steps.{after_from}
use Rattle.bundle.specs.Bundles.{numbers_from}
use Rattle.reader.specs.Report.{refusal_line}
use Rattle.reader.specs.Turns.{Turn}

-- the most rows of one call, and a position that no log reaches
abbrev pub most_rows : ℕ
most_rows = 256

abbrev pub most_position : ℕ
most_position = 100000

-- an RE, by its tag
abbrev pub is_row : List ℕ → Bool
is_row s = eqb (code (tag_of s)) (code RE)

-- how many rows of a size, each an RE, bytes begin with, at most f; the last may be cut
unfoldable pub stretch_of : ℕ → ℕ → List ℕ → ℕ
stretch_of zero size s = 0
stretch_of (suc f) size s = pick (is_row s) (suc (stretch_of f size (drop size s))) 0

-- those that a run is given in one call: where they are more than half of b
unfoldable pub rows_ahead : Run → List ℕ → ℕ
rows_ahead r s =
    let rows = stretch_of most_rows (response_length r.b) s in
    pick (eqb (stage_of r) 4) (pick (ltb (r.b / 2) rows) rows 0) 0

-- the lines of records with these numbers
unfoldable pub number_lines : ℕ → List ℕ → List ℕ
number_lines position [] = []
number_lines position (k ∷ l) = refusal_line position k ++ number_lines (position + 1) l

-- what a turn of s has given to r: its records, with the run after them and, in the first places of a list, the numbers that they are answered with
pub record Given (r : Run) (s : List ℕ) (run : Run) (numbers : List ℕ) (count size : ℕ) : Type 0 where
  pub records : List (List ℕ)
  pub turn : Turn r s records size
  pub run_is : run ≡ after_from r records
  pub numbers_are : take count numbers ≡ numbers_from r records
  pub count_is : count ≡ length records
  pub fits : count ≤ most_rows
