-- `put_refusals` meets its contract: a line each turn, if the number is one of a refusal. Assumes nothing.
use lib.ListN.{take}
use Rattle.text.specs.Texts.{Added}
use Rattle.reader.specs.Stretches.{number_lines}
use Rattle.reader.proofs.put_refusals.Given as goal

abbrev pub invariant-loop-x : goal.invariant-loop-x
invariant-loop-x l = Added l.initial.page l.page (number_lines l.position (take l.x l.numbers))
