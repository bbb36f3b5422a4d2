-- `read_on` meets its contract. The loop reads the log record by record; the measure is what is left of it. Assumes nothing.
use Rattle.std.proofs.Common.{◌≡◌, ◌∙◌, sym, arith, false}
use Rattle.summary.specs.Consumed.{settled}
use Rattle.summary.proofs.Reading.{reading_start, reading_turn, reading_settled, reading_last}
use Rattle.summary.proofs.read_on.Goals as goal

pub loop-from-init : goal.loop-from-init
loop-from-init c = reading_start _ _ c.fresh-run.ensures

pub overflow_add-bytes : goal.overflow_add-bytes
overflow_add-bytes c =
    let more : settled c.loop-from.run ≡ false = sym c.settled.ensures ∙ c.if-not-settled.true in
    let turn = reading_turn c.loop-from.invariant c.loop-from-test.true more c.take_record-turn.ensures.run c.take_record-turn.ensures.length c.take_record-turn.ensures.counted in
    omega (arith, turn.1.less, turn.1.within)

pub overflow_add-from : goal.overflow_add-from
overflow_add-from c =
    let more : settled c.loop-from.run ≡ false = sym c.settled.ensures ∙ c.if-not-settled.true in
    let turn = reading_turn c.loop-from.invariant c.loop-from-test.true more c.take_record-turn.ensures.run c.take_record-turn.ensures.length c.take_record-turn.ensures.counted in
    omega (arith, turn.1.within)

pub loop-from-smaller : goal.loop-from-smaller
loop-from-smaller c =
    let more : settled c.loop-from.run ≡ false = sym c.settled.ensures ∙ c.if-not-settled.true in
    let turn = reading_turn c.loop-from.invariant c.loop-from-test.true more c.take_record-turn.ensures.run c.take_record-turn.ensures.length c.take_record-turn.ensures.counted in
    omega (arith, turn.0, turn.1.within)

pub loop-from-preserved : goal.loop-from-preserved
loop-from-preserved c =
    let more : settled c.loop-from.run ≡ false = sym c.settled.ensures ∙ c.if-not-settled.true in
    (reading_turn c.loop-from.invariant c.loop-from-test.true more c.take_record-turn.ensures.run c.take_record-turn.ensures.length c.take_record-turn.ensures.counted).1

-- the sets are fixed
pub returns-else-not-settled-clause-run : goal.returns-else-not-settled-clause-run
returns-else-not-settled-clause-run c = (reading_settled c.loop-from.invariant (sym c.settled.ensures ∙ c.if-not-settled.false)).0

pub returns-else-not-settled-clause-bytes : goal.returns-else-not-settled-clause-bytes
returns-else-not-settled-clause-bytes c = (reading_settled c.loop-from.invariant (sym c.settled.ensures ∙ c.if-not-settled.false)).1

-- or no byte is left
pub returns-after-loop-from-clause-run : goal.returns-after-loop-from-clause-run
returns-after-loop-from-clause-run c = (reading_last c.loop-from.invariant c.loop-from-test.false).0

pub returns-after-loop-from-clause-bytes : goal.returns-after-loop-from-clause-bytes
returns-after-loop-from-clause-bytes c = (reading_last c.loop-from.invariant c.loop-from-test.false).1
