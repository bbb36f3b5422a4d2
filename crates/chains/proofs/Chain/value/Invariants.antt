-- `Chain::value` meets its contract. The loop keeps what the places passed, the highest, come to. Assumes nothing.
use Rattle.chains.proofs.ChainLaws.{Passed}
use Rattle.chains.proofs.Chain.value.Given as goal

abbrev pub invariant-loop-digit : goal.invariant-loop-digit
invariant-loop-digit l = Passed l.fn.self.digits l.digit-iterator.iter.rest.now l.value
