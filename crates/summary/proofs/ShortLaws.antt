-- The lines of the short page, from the records that are read, and how long it is at most. Assumes nothing.
use Rattle.std.specs.Prelude.{◌≡◌, List, [], ◌∷◌, ℕ, ◌≤◌, ◌<◌, length, ltb}
use Rattle.std.proofs.Common.{sym, subst, arith, length-append}
use Rattle.lists.specs.TestLaws.{pick_case}
use Rattle.text.specs.Lines.{line}
use Rattle.text.proofs.LineLaws.{line_max, line_some}
use Rattle.run.specs.declared.Run.{Run}
use Rattle.run.specs.Runs.{fresh}
use Rattle.run.specs.Steps.{after}
use Rattle.run.specs.PartyLaws.{Few, few_fresh, few_after}
use Rattle.answers.specs.Answers.{shown_sets}
use Rattle.closing.specs.Closing.{set_lines}
use Rattle.closing.proofs.LengthLaws.{sets_max}
use Rattle.reader.specs.Cutting.{run_of}
use Rattle.reader.specs.Report.{long_word, longest}
use Rattle.reader.proofs.ReportLaws.{run_few}
use Rattle.summary.specs.Consumed.{read_of, consumed}
use Rattle.summary.specs.Short.{bytes_word, most_short, short_lines, short_of}
use Rattle.summary.proofs.ReadLaws.{Enough, read_enough}

-- the run after the records that are read has no more parties than a committee
pub read_few : (log : List ℕ) {r : Run} → r ≡ after (read_of log) → Few r
unfolding after
read_few log {r} e = subst Few (sym e) (few_after fresh few_fresh (read_of log))

lines_same : (r s : Run) → Enough r s → set_lines r ≡ set_lines s
unfolding set_lines shown_sets
lines_same r s h = rw (h.sets_same, h.setup_same)

-- the lines of its sets are those of the log
pub read_lines : (log : List ℕ) → set_lines (after (read_of log)) ≡ set_lines (run_of log)
read_lines log = lines_same (after (read_of log)) (run_of log) (read_enough log)

-- every short page fits
pub short_fits : (log : List ℕ) → length (short_of log) ≤ most_short
unfolding short_of short_lines
short_fits log =
    pick_case (λ (l : List ℕ). length l ≤ most_short) (ltb longest (length log)) (line long_word []) _ (λ e. omega (arith, line_max long_word []))
    (λ e. simp length-append (omega (arith, sets_max (run_of log) (run_few log), line_max bytes_word (consumed log ∷ []))))

-- and none is empty
pub short_some : (log : List ℕ) → 0 < length (short_of log)
unfolding short_of short_lines
short_some log =
    pick_case (λ (l : List ℕ). 0 < length l) (ltb longest (length log)) (line long_word []) _ (λ e. line_some long_word [])
    (λ e. let last = line_some bytes_word (consumed log ∷ []) in simp length-append (omega (arith, last)))
