-- The page as the code hands it over.
use Rattle.std.specs.Prelude.{◌≡◌, ℕ, Option, Some, None, List, [], length, ltb}
use Rattle.std.proofs.lemmas.List.Edits.{sets}
use Rattle.lists.specs.Tests.{pick}
use Rattle.text.specs.Lines.{line}
use Rattle.reader.specs.Report.{long_word, longest, report_of}

-- room for every page (report_fits)
abbrev pub most_report : ℕ
most_report = 625000

-- the whole page into a buffer with that room, else nothing
unfoldable pub printed : ℕ → List ℕ → List ℕ
printed room log = pick (ltb room most_report) [] (report_of log)

-- ---- the page that a rule makes of a log

-- the bytes of the line `long`
abbrev pub long_size : ℕ
long_size = 5

-- that line alone over 65,536 bytes
unfoldable pub page_by : (List ℕ → List ℕ) → List ℕ → List ℕ
page_by rule log = pick (ltb longest (length log)) (line long_word []) (rule log)

-- the whole page in a buffer with so much room, and how many bytes it has; in a smaller one nothing, and no page
pub record Handed (rule : List ℕ → List ℕ) (room : ℕ) (log before : List ℕ) (answer : Option ℕ) (after : List ℕ) : Type 0 where
  pub size : answer ≡ pick (ltb (length before) room) None (Some (length (page_by rule log)))
  pub bytes : after ≡ sets before 0 (pick (ltb (length before) room) [] (page_by rule log))
