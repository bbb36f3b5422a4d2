-- `put_refusals` meets its contract: a line each turn, if the number is one of a refusal. Assumes nothing.
use borrow.Author.Tests.{eq-eqb, ne_eqb}
use native.Mathlib.Omega.{arith}
use Prim.Native.Nat.{◌+◌}
use lib.ListN.{take, get_or}
use lib.Seq.{length-take-le}
use Rattle.text.specs.Texts.{Added}
use Rattle.text.proofs.TextLaws.{added_none, added_append, room_after}
use Rattle.reader.specs.Report.{most_refusal, refusal_line}
use Rattle.reader.specs.Stretches.{number_lines}
use Rattle.reader.proofs.LengthLaws.{numbers_room}
use Rattle.reader.proofs.StretchLaws.{lines_take}
use Rattle.reader.proofs.put_refusals.Goals as goal
use Rattle.reader.proofs.put_refusals.Goals.{then-number-ne0, else-number-ne0}

pub loop-x-init : goal.loop-x-init
unfolding number_lines
loop-x-init c = added_none _

pub put_refusal-requires : goal.put_refusal-requires
put_refusal-requires c =
    let a = c.args in
    let passed = take c.loop-x.x a.numbers.now in
    room_after most_refusal c.loop-x.invariant (omega (arith, c.requires, numbers_room a.position passed, length-take-le c.loop-x.x a.numbers.now (omega arith)))

pub loop-x-preserved : goal.loop-x-preserved
unfolding refusal_line
loop-x-preserved c =
    let l = c.loop-x in
    let a = c.args in
    let number = get_or a.numbers.now l.x 0 in
    -- the line is added, if there is one
    let line : Added l.page c.if-number-ne0.page (refusal_line (a.position + l.x) number) =
    elim c.if-number-ne0.branch [
      | then-number-ne0 w ↦
          rw (w.page-is, ne_eqb _ 0 w.if-number-ne0.true) w.put_refusal.ensures
      | else-number-ne0 w ↦
          rw (w.page-is, eq-eqb _ 0 w.if-number-ne0.false) (added_none _)
    ] in
    rw (lines_take a.position a.numbers.now l.x (omega arith)) (added_append l.invariant line)
