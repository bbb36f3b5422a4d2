-- What stands while a log is read: the lines of the records passed were added to the page, and the run is theirs. Assumes nothing.
use mathlib.Core.Path.{◌≡◌, refl, sym, ap, ap₂, subst, subst⁻¹, ◌∙◌}
use mathlib.Core.List.{List, [], ◌∷◌, ◌++◌}
use Prim.Native.Nat.{ℕ, ◌+◌, ◌*◌, ◌-◌, ◌≤◌, ◌<◌, min}
use native.Mathlib.Omega.{arith}
use lib.ListN.{length, take, drop, set, length-drop, drop_of_length-le}
use lib.Seq.{drop-drop, length-take-le, take_at, take-suc-set}
use Rattle.records.specs.Tags.{response_length}
use Rattle.text.specs.declared.Page.{Page}
use Rattle.text.specs.Texts.{Room, Added, Ahead}
use Rattle.text.proofs.TextLaws.{ahead_start, ahead_next, ahead_last, ahead_room}
use Rattle.run.specs.declared.Run.{Run}
use Rattle.run.specs.Runs.{fresh}
use Rattle.run.specs.Steps.{step_of, after_from}
use Rattle.run.specs.PartyLaws.{Few, few_fresh, few_after}
use Rattle.reader.specs.Cutting.{run_of, records_of}
use Rattle.reader.specs.Report.{longest, refusal_lines}
use Rattle.reader.proofs.LengthLaws.{lines_max}
use Rattle.reader.specs.Turns.{next_length, next_record, lines_from, run_from, Turn}
use Rattle.reader.proofs.TurnLaws.{lines_none, lines_start, run_none, run_start}
use Rattle.reader.specs.Stretches.{most_rows, stretch_of, rows_ahead, number_lines, Given}
use Rattle.reader.proofs.StretchLaws.{numbers_length, row_bytes, rows_are, rows_some, rows_max, turn_lines, turn_run, turn_record, turn_rows}
use Rattle.bundle.specs.Bundles.{Outcome, bundled, rows_of, numbers_from}
use Rattle.bundle.proofs.BundleLaws.{bundle_given}
use Rattle.bundle.proofs.CutLaws.{left_is}

pub record Reading (log : List ℕ) (before after : Page) (r : Run) (from position : ℕ) : Type 0 where
  pub within : from ≤ length log
  pub counted : position ≤ from + 1
  pub few : Few r
  pub lines : Ahead before after (lines_from 1 fresh log) (lines_from position r (drop from log))
  pub same_run : run_from r (drop from log) ≡ run_from fresh log

-- one record, with its number in the first place
pub record_given : (r : Run) (s list : List ℕ) {run : Run} {number size : ℕ} → 0 < length s → 0 < length list →
    let reply = step_of r (next_record r s) in
    run ≡ reply.run → number ≡ reply.number → size ≡ next_length r s → Given r s run (set list 0 number) 1 size
unfolding after_from numbers_from
record_given r s list {run} {number} {size} p q er en es =
    record {
      records = next_record r s ∷ [];
      turn = subst⁻¹ (Turn r s (next_record r s ∷ [])) es (turn_record r s p);
      run_is = er;
      numbers_are = take-suc-set list 0 number q ∙ ap (λ (k : ℕ). k ∷ []) en;
      count_is = refl;
      fits = omega arith;
    }

-- many rows in one call, with their numbers in front of the places that are left
pub rows_given : (r : Run) (s list : List ℕ) {run : Run} {count size : ℕ} {numbers : List ℕ} → length list ≡ most_rows → 0 < count → count ≡ rows_ahead r s
    → size ≡ min (count * response_length r.b) (length s) → run ≡ (bundled r (take size s) (take count list)).run → numbers ≡ (bundled r (take size s) (take count list)).list
    → Given r s run (numbers ++ drop count list) count size
rows_given r s list {run} {count} {size} {numbers} places some ahead n er en =
    let at = rows_some r s (omega (arith, some, ahead)) in
    let stretch : count ≡ stretch_of most_rows (response_length r.b) s = ahead ∙ at.1 in
    let most : size ≡ row_bytes r s most_rows = n ∙ ap (λ (i : ℕ). min (i * response_length r.b) (length s)) stretch in
    let rows = rows_of r.b (take size s) in
    let many : length rows ≡ count = ap (λ (i : ℕ). length (rows_of r.b (take i s))) most ∙ rows_are r s most_rows ∙ sym stretch in
    let lent : length (take count list) ≡ count = length-take-le count list (omega (arith, ahead, rows_max r s, places)) in
    let given = bundle_given r (take size s) (take count list) at.0 (lent ∙ sym many) in
    let same : numbers ≡ numbers_from r rows = en ∙ ap (λ (o : Outcome). o.list) given in
    record {
      records = rows;
      turn = subst⁻¹ (λ (i : ℕ). Turn r s (rows_of r.b (take i s)) i) most (turn_rows r s most_rows at.0 (omega (arith, some, stretch)));
      run_is = er ∙ ap (λ (o : Outcome). o.run) given;
      numbers_are = take_at numbers (drop count list) count (ap length same ∙ numbers_length r rows ∙ many) ∙ same;
      count_is = sym many;
      fits = omega (arith, ahead, rows_max r s);
    }

pub reading_start : (log : List ℕ) (page : Page) (r : Run) → r ≡ fresh → Reading log page page r 0 1
reading_start log page r e =
    subst⁻¹ (λ (z : Run). Reading log page page z 0 1) e
    (record { within = omega arith; counted = omega arith; few = few_fresh; lines = ahead_start page (lines_from 1 fresh log); same_run = refl })

module _ {log : List ℕ} {before after : Page} {r : Run} {from position : ℕ} (h : Reading log before after r from position) where
  -- with room for the lines of the longest log and more there is room for the more
  pub reading_room : (k : ℕ) → length log ≤ longest → Room before (8 * longest + 16 + k) → Room after k
  reading_room k l room = ahead_room k h.lines (omega (arith, lines_max log l, room))

  -- a turn: the next records of what is left, as it is lent, are given to the run, and the lines of those that are refused added
  pub reading_next : {next : Page} {run : Run} {numbers : List ℕ} {count size : ℕ} → Given r (take (length log - from) (drop from log)) run numbers count size
      → Added after next (number_lines position (take count numbers))
      → Reading log before next run (from + size) (position + count)
  reading_next {next} {run} {numbers} {count} {size} lent w =
      let g = subst (λ (t : List ℕ). Given r t run numbers count size) (left_is log from) lent in
      let t = g.turn in
      let l = g.records in
      let lines = number_lines position (numbers_from r l) in
      subst⁻¹ (λ (z : Run). Reading log before next z (from + size) (position + count)) g.run_is
      (record {
        within = omega (arith, length-drop from log, h.within, t.within);
        counted = omega (arith, h.counted, g.count_is, t.count_max);
        few = few_after r h.few l;
        lines =
            ahead_next lines
            (subst (λ (t : List ℕ). Ahead before after (lines_from 1 fresh log) t)
            (turn_lines t position
            ∙ ap₂ (λ (p : ℕ) (d : List ℕ). lines ++ lines_from (position + p) (after_from r l) d) (sym g.count_is) (drop-drop size from log))
            h.lines)
            (subst (λ (t : List ℕ). Added after next (number_lines position t)) g.numbers_are w);
        same_run = ap (run_from (after_from r l)) (sym (drop-drop size from log)) ∙ sym (turn_run t) ∙ h.same_run;
      })

  -- the end: every line was added, and the run is the log's
  pub reading_lines : length log ≤ from → Added before after (refusal_lines 1 fresh (records_of log))
  reading_lines l =
      subst⁻¹ (λ (t : List ℕ). Added before after t) (lines_start log)
      (ahead_last h.lines (ap (lines_from position r) (drop_of_length-le log l) ∙ lines_none position r))

  pub reading_run : length log ≤ from → r ≡ run_of log
  reading_run l = sym (run_none r) ∙ ap (run_from r) (sym (drop_of_length-le log l)) ∙ h.same_run ∙ sym (run_start log)
