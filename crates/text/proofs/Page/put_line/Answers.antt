-- `put_line` meets its contract. The loop has added the fields of the numbers that it passed. Assumes nothing.
use Rattle.std.proofs.Common.{◌≡◌, arith, length}
use lib.Seq.{take-length}
use Rattle.text.specs.Lines.{fields, line}
use Rattle.text.proofs.TextLaws.{added_none, added_append}
use Rattle.text.proofs.LineLaws.{fields_take, fields_room}
use Rattle.text.proofs.Page.put_line.Goals as goal

pub loop-n-init : goal.loop-n-init
unfolding fields
loop-n-init c = added_none _

pub put_field-requires : goal.put_field-requires
put_field-requires c = omega (arith, fields_room c.args.numbers.now c.loop-n.n-index c.put_text.ensures c.loop-n.invariant, c.requires)

pub loop-n-preserved : goal.loop-n-preserved
loop-n-preserved c = rw (fields_take c.args.numbers.now c.loop-n.n-index (omega arith)) (added_append c.loop-n.invariant c.put_field.ensures)

pub put_byte-requires : goal.put_byte-requires
put_byte-requires c = omega (arith, fields_room c.args.numbers.now c.loop-n.n-index c.put_text.ensures c.loop-n.invariant, c.requires)

pub returns : goal.returns
unfolding line
returns c =
    let numbers = c.args.numbers.now in
    let end : c.loop-n.n-index ≡ length numbers = omega arith in
    added_append c.put_text.ensures (added_append (rw (end, take-length) at c.loop-n.invariant) c.put_byte.ensures)
