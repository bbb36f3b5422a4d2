-- `with_numbers` meets its contract. The loop has stored the numbers passed. Assumes nothing.
use Rattle.records.specs.Bytes.{word}
use Rattle.lists.specs.LoadLaws.{Loading}
use Rattle.arrays.proofs.with_numbers.Given as goal

abbrev pub invariant-loop-v : goal.invariant-loop-v
invariant-loop-v g l = Loading g.row.N l.initial.next l.base l.count (λ k. g.T.Kind.of_number (word l.bytes l.from k)) l.v l.next
