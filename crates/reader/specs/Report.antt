-- The printed page (document 01, "The printed page"), as bytes.
use Rattle.std.specs.Prelude.{ℕ, ◌+◌, List, [], ◌∷◌, ◌++◌, length, eqb, ltb}
use Rattle.lists.specs.Tests.{pick}
use Rattle.text.specs.Lines.{line}
use Rattle.run.specs.declared.Run.{Run}
use Rattle.run.specs.Runs.{fresh}
use Rattle.run.specs.Steps.{step_of}
use Rattle.closing.specs.Closing.{closing}
use Rattle.reader.specs.Cutting.{records_of, run_of}

-- the words refuse and long
abbrev pub refuse_word : List ℕ
refuse_word = 114 ∷ 101 ∷ 102 ∷ 117 ∷ 115 ∷ 101 ∷ []

abbrev pub long_word : List ℕ
long_word = 108 ∷ 111 ∷ 110 ∷ 103 ∷ []

-- the bytes of the longest log that is read
abbrev pub longest : ℕ
longest = 65536

-- room for a refusal's line, whatever its numbers
abbrev pub most_refusal : ℕ
most_refusal = 32

-- the line of a record, if it is refused: its position (place, in document 01), counted from 1, and its number
unfoldable pub refusal_line : ℕ → ℕ → List ℕ
refusal_line position number = pick (eqb number 0) [] (line refuse_word (position ∷ number ∷ []))

-- of each refused record
unfoldable pub refusal_lines : ℕ → Run → List (List ℕ) → List ℕ
refusal_lines position r [] = []
refusal_lines position r (s ∷ l) =
    refusal_line position (step_of r s).number
    ++ refusal_lines (position + 1) (step_of r s).run l

-- the report (page, in document 01) of a log; `long` alone over 65,536 bytes
unfoldable pub report_of : List ℕ → List ℕ
report_of log = pick (ltb longest (length log)) (line long_word []) (refusal_lines 1 fresh (records_of log) ++ closing (run_of log))
