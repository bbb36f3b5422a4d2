-- `put_page` meets its contract. The loop reads the log turn by turn; the measure is what is left of it. Assumes nothing.
use Rattle.std.proofs.Common.{◌*◌, refl, arith, length, take, length-take-le}
use Rattle.text.proofs.TextLaws.{added_append}
use Rattle.closing.specs.Closing.{most_closing}
use Rattle.reader.specs.Report.{most_refusal}
use Rattle.reader.proofs.Reading.{reading_start, reading_room, reading_next, reading_lines, reading_run}
use Rattle.reader.proofs.put_page.Goals as goal

pub loop-from-init : goal.loop-from-init
loop-from-init c = (refl, reading_start _ _ _ c.fresh-run.ensures)

pub put_refusals-requires : goal.put_refusals-requires
put_refusals-requires c =
    let now = c.loop-from.invariant.1 in
    let turn = c.take_turn-turn.ensures in
    let many = length-take-le c.take_turn-turn.result.records c.take_turn-turn.new.numbers (omega (arith, turn.fits, c.take_turn-turn.auto.numbers, c.loop-from.invariant.0)) in (
      omega (arith, many, turn.fits, now.counted, now.within, c.requires.0),
      reading_room now (most_refusal * length (take c.take_turn-turn.result.records c.take_turn-turn.new.numbers)) c.requires.0 (omega (arith, many, turn.fits, c.requires.1)),
    )

pub loop-from-preserved : goal.loop-from-preserved
loop-from-preserved c =
    (omega (arith, c.take_turn-turn.auto.numbers, c.loop-from.invariant.0), reading_next c.loop-from.invariant.1 c.take_turn-turn.ensures c.put_refusals.ensures)

pub put_closing-requires : goal.put_closing-requires
put_closing-requires c =
    let now = c.loop-from.invariant.1 in
    (now.few, reading_room now most_closing c.requires.0 (omega (arith, c.requires.1)))

pub returns : goal.returns
returns c =
    let now = c.loop-from.invariant.1 in
    let end = c.loop-from-test.false in
    rw (← reading_run now end) (added_append (reading_lines now end) c.put_closing.ensures)
