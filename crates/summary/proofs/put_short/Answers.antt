-- `put_short` meets its contract: the lines of the sets, then that of the bytes. Assumes nothing.
use Rattle.std.proofs.Common.{◌≡◌, ◌∙◌, ap, arith}
use Rattle.text.proofs.TextLaws.{added_append, room_after}
use Rattle.closing.specs.Closing.{set_lines}
use Rattle.closing.proofs.LengthLaws.{sets_max}
use Rattle.summary.specs.Short.{short_lines}
use Rattle.summary.proofs.ShortLaws.{read_few, read_lines}
use Rattle.summary.proofs.CountLaws.{consumed_max}
use Rattle.summary.proofs.put_short.Goals as goal

pub put_sets-requires : goal.put_sets-requires
put_sets-requires c = (read_few c.args.log.now c.read_on-read.ensures.run, omega (arith, c.requires.1))

pub overflow_cast-read : goal.overflow_cast-read
overflow_cast-read c = omega (arith, c.read_on-read.ensures.bytes, consumed_max c.args.log.now, c.requires.0)

pub put_line-requires : goal.put_line-requires
put_line-requires c =
    let few = read_few c.args.log.now c.read_on-read.ensures.run in
    room_after 17 c.put_sets.ensures (omega (arith, sets_max c.read_on-read.result.run few, c.requires.1))

pub returns : goal.returns
unfolding short_lines
returns c =
    let lines : set_lines c.read_on-read.result.run ≡ set_lines _ = ap set_lines c.read_on-read.ensures.run ∙ read_lines c.args.log.now in
    rw (← lines, ← c.read_on-read.ensures.bytes) (added_append c.put_sets.ensures c.put_line.ensures)
