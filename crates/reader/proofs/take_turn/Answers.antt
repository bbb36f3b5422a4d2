-- `take_turn` meets its contract: one record or a stretch of rows. Assumes nothing.
use Rattle.std.proofs.Common.{◌≡◌, ◌∙◌, ◌<◌, ℕ, List, sym, ap, arith, take, length-take-le}
use Rattle.run.specs.Steps.{Reply, step_of, untaken}
use Rattle.run.specs.RefusalLaws.{untaken_refused}
use Rattle.reader.specs.Turns.{next_record}
use Rattle.reader.proofs.TurnLaws.{next_max}
use Rattle.reader.proofs.StretchLaws.{rows_max}
use Rattle.reader.proofs.Reading.{record_given, rows_given}
use Rattle.reader.proofs.take_turn.Goals as goal
use Rattle.reader.proofs.take_turn.Goals.{then-open+else-rows-gt1, else-open}

pub slice_bounds-record-end : goal.slice_bounds-record-end
slice_bounds-record-end c =
    let a = c.args in
    sym (length-take-le c.next_length-size.result a.rest.now (omega (arith, c.next_length-size.ensures, next_max a.run.now a.rest.now)))

pub rows_length-bytes-requires : goal.rows_length-bytes-requires
rows_length-bytes-requires c = omega (arith, c.rows_ahead-rows.ensures, rows_max c.args.run.now c.args.rest.now)

pub slice_bounds-give_rows-end-then-rows-gt1 : goal.slice_bounds-give_rows-end-then-rows-gt1
slice_bounds-give_rows-end-then-rows-gt1 c = omega (arith, c.rows_ahead-rows.ensures, rows_max c.args.run.now c.args.rest.now, c.requires.1)

pub slice_bounds-give_rows-end-then-rows-gt1-2 : goal.slice_bounds-give_rows-end-then-rows-gt1-2
slice_bounds-give_rows-end-then-rows-gt1-2 c =
    let a = c.args in
    sym (length-take-le c.rows_ahead-rows.result a.numbers.now (omega (arith, c.rows_ahead-rows.ensures, rows_max a.run.now a.rest.now, c.requires.1)))

pub returns-then-rows-gt1 : goal.returns-then-rows-gt1
returns-then-rows-gt1 c =
    let r = c.args.run.now in
    let some : 0 < c.rows_ahead-rows.result = omega (arith, c.if-rows-gt1.true) in
    rows_given r c.args.rest.now c.args.numbers.now c.requires.1 some c.rows_ahead-rows.ensures c.rows_length-bytes.ensures c.give_rows.ensures.run c.give_rows.ensures.numbers

-- a record by itself is refused by tag and stage, or given
pub returns : goal.returns
returns c =
    let r = c.args.run.now in
    let s = c.args.rest.now in
    let first : take c.next_length-size.result s ≡ next_record r s = ap (λ (n : ℕ). take n s) c.next_length-size.ensures in
    let asked : c.number_of-number.result ≡ untaken r (next_record r s) = c.number_of-number.ensures ∙ c.untaken.ensures ∙ ap (untaken r) first in
    let reply = step_of r (next_record r s) in
    let given : (c.if-open.run ≡ reply.run) × (c.if-open.number ≡ reply.number) = elim c.if-open.branch [
      | then-open+else-rows-gt1 w ↦
          (w.run-is ∙ w.give_record-number.ensures.run ∙ ap (λ (t : List ℕ). (step_of r t).run) first, w.number-is ∙ w.give_record-number.ensures.number ∙ ap (λ (t : List ℕ). (step_of r t).number) first)
      | else-open w ↦
          let refusal = untaken_refused r (next_record r s) (λ e. w.if-open.false (asked ∙ e)) in
          (w.run-is ∙ sym (ap (λ (y : Reply). y.run) refusal), w.number-is ∙ asked ∙ sym (ap (λ (y : Reply). y.number) refusal))
    ] in
    record_given r s c.args.numbers.now c.requires.0 (omega (arith, c.requires.1)) given.0 given.1 c.next_length-size.ensures
