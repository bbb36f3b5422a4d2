-- `put_line` meets its contract. The loop has added the fields of the numbers that it passed. Assumes nothing.
use lib.ListN.{take}
use Rattle.text.specs.Lines.{fields}
use Rattle.text.specs.Texts.{Added}
use Rattle.text.proofs.Page.put_line.Given as goal

abbrev pub invariant-loop-n : goal.invariant-loop-n
invariant-loop-n l = Added l.initial.self l.self (fields (take l.n-index l.numbers))
