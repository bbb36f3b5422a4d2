-- The short page: the lines of the sets, and the bytes that were read for them.
use Rattle.std.specs.Prelude.{ℕ, ◌+◌, List, [], ◌∷◌, ◌++◌, length, ltb}
use Rattle.lists.specs.Tests.{pick}
use Rattle.text.specs.Lines.{line}
use Rattle.closing.specs.Closing.{most_sets, set_lines}
use Rattle.reader.specs.Cutting.{run_of}
use Rattle.reader.specs.Report.{long_word, longest}
use Rattle.summary.specs.Consumed.{consumed}

-- the word bytes
abbrev pub bytes_word : List ℕ
bytes_word = 98 ∷ 121 ∷ 116 ∷ 101 ∷ 115 ∷ []

-- the lines hold, qual and bad of the page, and the line bytes
unfoldable pub short_lines : List ℕ → List ℕ
short_lines log = set_lines (run_of log) ++ line bytes_word (consumed log ∷ [])

-- the short page of a log; `long` alone over 65,536 bytes, as on the page
unfoldable pub short_of : List ℕ → List ℕ
short_of log = pick (ltb longest (length log)) (line long_word []) (short_lines log)

-- room for every short page
abbrev pub most_short : ℕ
most_short = most_sets + 17

-- the whole short page into a buffer with that room, else nothing
unfoldable pub short_printed : ℕ → List ℕ → List ℕ
short_printed room log = pick (ltb room most_short) [] (short_of log)
