-- What is promised of every log and its page. Assumes nothing.
use Rattle.std.specs.Prelude.{◌≡◌, ℕ, zero, suc, ◌≤◌, ◌<◌, length, ltb}
use Rattle.std.proofs.Common.{sym, ap, ◌∙◌, ⊎_elim, arith, length-append, length-drop, take-append-drop, ltb-false}
use mathlib.Core.List.{List, [], ◌∷◌, flatten, ◌++◌}
use Rattle.lists.specs.TestLaws.{pick_case}
use Rattle.text.specs.Lines.{line}
use Rattle.text.proofs.LineLaws.{line_max, line_some}
use Rattle.run.specs.declared.Run.{Run}
use Rattle.run.specs.Runs.{fresh, stage_of}
use Rattle.run.specs.Steps.{step_of, after}
use Rattle.run.specs.PartyLaws.{Few, few_fresh, few_after}
use Rattle.closing.specs.Closing.{end_word, closing}
use Rattle.closing.proofs.LengthLaws.{closing_max}
use Rattle.reader.specs.Cutting.{records_of, run_of}
use Rattle.reader.specs.Report.{long_word, longest, report_of}
use Rattle.reader.proofs.LengthLaws.{empty_or, lines_max}
use Rattle.reader.specs.Turns.{next_length, next_record, next_rest, records_from}
use Rattle.reader.proofs.TurnLaws.{next_pos, records_none, records_next, lines_start}
use Rattle.reader.specs.Printed.{most_report}

-- the run after a log has no more parties than a committee
pub run_few : (log : List ℕ) → Few (run_of log)
unfolding run_of after
run_few log = few_after fresh few_fresh (records_of log)

joined_none : (r : Run) (s : List ℕ) → s ≡ [] → flatten (records_from r s) ≡ s
unfolding flatten
joined_none r s e = ap (λ (t : List ℕ). flatten (records_from r t)) e ∙ ap flatten (records_none r) ∙ sym e

joined_from : (f : ℕ) (r : Run) (s : List ℕ) → length s ≤ f → flatten (records_from r s) ≡ s
unfolding flatten
joined_from zero r s l = ⊎_elim (joined_none r s) (λ p. absurd (omega arith)) (empty_or s)
joined_from (suc f) r s l =
    ⊎_elim (joined_none r s)
    (λ p. ap flatten (records_next r s p)
    ∙ ap (λ (t : List ℕ). next_record r s ++ t)
    (joined_from f (step_of r (next_record r s)).run (next_rest r s) (omega (arith, length-drop (next_length r s) s, next_pos r s p)))
    ∙ take-append-drop (next_length r s) s)
    (empty_or s)

-- a log is its records end to end: no byte is left out or read twice
pub records_joined : (log : List ℕ) → flatten (records_of log) ≡ log
unfolding records_of records_from
records_joined log = joined_from (length log) fresh log (omega arith)

-- every page fits: 8 bytes of refusal lines for each byte of the log, and the closing
pub report_fits : (log : List ℕ) → length (report_of log) ≤ most_report
unfolding report_of
report_fits log =
    pick_case (λ (l : List ℕ). length l ≤ most_report) (ltb longest (length log)) (line long_word []) _ (λ e. omega (arith, line_max long_word []))
    (λ e.
    let short = ltb-false longest (length log) e in
    rw (lines_start log) (simp length-append (omega (arith, short, lines_max log short, closing_max (run_of log) (run_few log)))))

-- and no page is empty
pub report_some : (log : List ℕ) → 0 < length (report_of log)
unfolding report_of closing
report_some log =
    pick_case (λ (l : List ℕ). 0 < length l) (ltb longest (length log)) (line long_word []) _ (λ e. line_some long_word [])
    (λ e. let last = line_some end_word (stage_of (run_of log) ∷ []) in simp length-append (omega (arith, last)))
