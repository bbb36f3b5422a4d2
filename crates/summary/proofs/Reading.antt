-- What stands while a log is read for its sets: the run and the bytes are those of the records passed. Assumes nothing.
use mathlib.Core.Path.{◌≡◌, sym, ap, subst⁻¹, ◌∙◌}
use mathlib.Core.Bool.{true, false}
use mathlib.Core.List.{List, []}
use Prim.Native.Nat.{ℕ, ◌+◌, ◌-◌, ◌≤◌, ◌<◌}
use native.Mathlib.Omega.{arith}
use lib.ListN.{length, take, drop, length-drop, drop_of_length-le}
use lib.Seq.{drop-drop, length-take-le}
use Rattle.run.specs.declared.Run.{Run}
use Rattle.run.specs.Runs.{fresh}
use Rattle.run.specs.Steps.{step_of, after_from, after}
use Rattle.bundle.proofs.CutLaws.{left_is}
use Rattle.reader.specs.Cutting.{length_of}
use Rattle.reader.specs.Turns.{next_length, next_record}
use Rattle.reader.proofs.TurnLaws.{next_max, next_pos}
use Rattle.summary.specs.Consumed.{settled, read_of, counted_length, counted_from, consumed}
use Rattle.summary.proofs.ReadLaws.{read_from, read_start, read_none, read_settled, read_next}
use Rattle.summary.proofs.CountLaws.{counted_max}

pub record Reading (log : List ℕ) (r : Run) (from bytes : ℕ) : Type 0 where
  pub within : from ≤ length log
  pub less : bytes ≤ from
  pub same_run : after_from r (read_from r (drop from log)) ≡ after (read_of log)
  pub counted : bytes + counted_from r (read_from r (drop from log)) ≡ consumed log

pub reading_start : (log : List ℕ) (r : Run) → r ≡ fresh → Reading log r 0 0
unfolding after consumed
reading_start log r e =
    subst⁻¹ (λ (z : Run). Reading log z 0 0) e
    (record {
      within = omega arith;
      less = omega arith;
      same_run = ap (after_from fresh) (sym (read_start log));
      counted = omega (arith, ap (counted_from fresh) (sym (read_start log)));
    })

module _ {log : List ℕ} {r : Run} {from bytes : ℕ} (h : Reading log r from bytes) where
  -- a turn: the next record counts and is given to the run
  pub reading_next : from < length log → settled r ≡ false →
      let s = drop from log in
      Reading log (step_of r (next_record r s)).run (from + next_length r s) (bytes + counted_length r (next_record r s))
  unfolding after_from counted_from
  reading_next l e =
      let s = drop from log in
      let n = next_length r s in
      let next = (step_of r (next_record r s)).run in
      let left = length-drop from log in
      let some : 0 < length s = omega arith in
      let turn = read_next r s some e in
      record {
        within = omega (arith, left, next_max r s);
        less = omega (arith, h.less, counted_max (length_of r (next_record r s)) (next_record r s), length-take-le n s (next_max r s));
        same_run = ap (λ (d : List ℕ). after_from next (read_from next d)) (sym (drop-drop n from log)) ∙ sym (ap (after_from r) turn) ∙ h.same_run;
        counted =
            omega (
              arith,
              ap (λ (d : List ℕ). counted_from next (read_from next d)) (drop-drop n from log),
              ap (counted_from r) turn,
              h.counted,
            );
      }

  -- the same with what stands in the code's variables, where the rest is lent
  pub reading_turn : {run : Run} {length' counted' : ℕ} → from < length log → settled r ≡ false →
      let s = take (length log - from) (drop from log) in
      run ≡ (step_of r (next_record r s)).run → length' ≡ next_length r s → counted' ≡ counted_length r (next_record r s)
      → (0 < length') × Reading log run (from + length') (bytes + counted')
  reading_turn l e er el ec =
      let s = drop from log in
      let same = left_is log from in
      let size = el ∙ ap (next_length r) same in (
        omega (arith, size, next_pos r s (omega (arith, length-drop from log))),
        rw (er ∙ ap (λ (t : List ℕ). (step_of r (next_record r t)).run) same, size, ec ∙ ap (λ (t : List ℕ). counted_length r (next_record r t)) same) (reading_next l e),
      )

  -- the end: nothing more is read
  reading_end : read_from r (drop from log) ≡ [] → (r ≡ after (read_of log)) × (bytes ≡ consumed log)
  unfolding after_from counted_from
  reading_end e = (ap (after_from r) (sym e) ∙ h.same_run, omega (arith, ap (counted_from r) e, h.counted))

  -- since the sets are fixed
  pub reading_settled : settled r ≡ true → (r ≡ after (read_of log)) × (bytes ≡ consumed log)
  reading_settled e = reading_end (read_settled r (drop from log) e)

  -- or since no byte is left
  pub reading_last : length log ≤ from → (r ≡ after (read_of log)) × (bytes ≡ consumed log)
  reading_last l = reading_end (ap (read_from r) (drop_of_length-le log l) ∙ read_none r)
