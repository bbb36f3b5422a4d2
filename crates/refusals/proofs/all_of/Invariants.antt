-- `all_of` meets its contract. Every number below i is of the kind. Assumes nothing.
use Rattle.records.specs.Bytes.{word}
use Rattle.lists.specs.CallLaws.{Asked}
use Rattle.refusals.proofs.all_of.Given as goal

abbrev pub invariant-loop-i : goal.invariant-loop-i
invariant-loop-i g l = Asked (λ k. g.K.Admits.is_one (word l.s l.at k)) l.count l.i
