-- `put_row` meets its contract. The loop has added the lines of the slots that it passed. Assumes nothing.
use Rattle.text.specs.Texts.{Added}
use Rattle.closing.specs.SignatureLaws.{row_lines}
use Rattle.closing.proofs.put_row.Given as goal

abbrev pub invariant-loop-i : goal.invariant-loop-i
invariant-loop-i l = Added l.initial.page l.page (row_lines l.fn.run l.u l.i)
