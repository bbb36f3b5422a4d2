-- The sets and the bytes of a reading for the sets alone, from the records of the complete reading (document 02, request 2.6). Assumes nothing.
-- ---- one record more
use Rattle.std.specs.Prelude.{◌≡◌, ◌⊎◌, List, [], ◌∷◌, ◌++◌, ℕ, ◌<◌, length, ltb}
use Rattle.std.proofs.Common.{sym, ap, ◌∙◌}
use Rattle.lists.specs.Tests.{pick}
use Rattle.text.specs.Lines.{line}
use Rattle.run.specs.Runs.{fresh, stage_of}
use Rattle.run.specs.Steps.{after}
use Rattle.answers.specs.Answers.{sets_of}
use Rattle.reader.specs.Cutting.{records_of, run_of}
use Rattle.reader.proofs.Endings.{records_start}
use Rattle.reader.specs.Report.{long_word, longest}
use Rattle.summary.specs.Consumed.{read_of, counted_from, consumed, summed}
use Rattle.summary.specs.Short.{bytes_word, short_lines, short_of}
use Rattle.summary.proofs.ReadLaws.{read_enough}
use Rattle.summary.proofs.CountLaws.{counted_brought}
use Rattle.promises.specs.Lists.{accepted}
use Rattle.promises.specs.Claims.{member_lines}
use Rattle.promises.proofs.Pages.{sets_are}
use Rattle.readings.specs.Brought.{Brings, Brought}
use Rattle.readings.proofs.SummaryLaws.{brings_accepted, bringing_or_early, read_to, read_all}

-- Of the records of a log one brings stage 3 or 6, or the stage after all of them is under 3.
pub brought_or_early : (log : List ℕ) → Brought (records_of log) ⊎ (stage_of (run_of log) < 3)
brought_or_early log = bringing_or_early log

-- ---- the records that are read

-- Where a record of the log brings stage 3 or 6, the reading ends with it.
pub read_brought : (log : List ℕ) (l : List (List ℕ)) (s : List ℕ) (m : List (List ℕ)) → records_of log ≡ l ++ (s ∷ m) → Brings l s → read_of log ≡ l ++ (s ∷ [])
read_brought log l s m e b = read_to log l s m e b

-- Where none does, all records are read.
pub read_unbrought : (log : List ℕ) → (Brought (records_of log) → ⊥) → read_of log ≡ records_of log
read_unbrought log none = read_all log none

-- ---- the sets

-- The sets after the records that are read are those after all records of the log, fixed or not.
pub sets_alone : (log : List ℕ) → sets_of (after (read_of log)) ≡ sets_of (after (records_of log))
unfolding run_of
sets_alone log = (read_enough log).sets_same

-- ---- the bytes

-- Where a record of the log brings stage 3 or 6, the bytes are the summed lengths of the records up to and with it, refused ones included.
pub bytes_brought : (log : List ℕ) (l : List (List ℕ)) (s : List ℕ) (m : List (List ℕ)) → records_of log ≡ l ++ (s ∷ m) → Brings l s → consumed log ≡ summed (l ++ (s ∷ []))
unfolding consumed after
bytes_brought log l s m e b =
    ap (counted_from fresh) (read_to log l s m e b) ∙ counted_brought l fresh log s m (sym (records_start log) ∙ e) (brings_accepted l s b)

-- Where none does, they are what all the records of the log count: each complete one with a known tag and a fixed length that length, any other 0.
pub bytes_unbrought : (log : List ℕ) → (Brought (records_of log) → ⊥) → consumed log ≡ counted_from fresh (records_of log)
unfolding consumed
bytes_unbrought log none = ap (counted_from fresh) (read_all log none)

-- ---- the short page

-- The short page of every log is that of its records: the sets of the accepted ones, and the bytes.
pub short_is : (log : List ℕ) → short_of log ≡ pick (ltb longest (length log)) (line long_word []) (member_lines (accepted (records_of log)) ++ line bytes_word (consumed log ∷ []))
unfolding short_of short_lines run_of
short_is log = ap (λ (c : List ℕ). pick (ltb longest (length log)) (line long_word []) (c ++ line bytes_word (consumed log ∷ []))) (sets_are (records_of log))
