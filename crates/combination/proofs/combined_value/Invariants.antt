-- `combined_value` meets its contract. The loop keeps the product over the dealers passed. Assumes nothing.
use Rattle.sets.specs.Masks.{has}
use Rattle.combination.proofs.Loops.{Passed}
use Rattle.combination.proofs.combined_value.Given as goal

abbrev pub invariant-loop-i : goal.invariant-loop-i
invariant-loop-i l =
    let dealers = l.i-iterator.a in
    let chunks = l.i-iterator.b in
    Passed l.powers (has l.qual) l.n l.v dealers.end dealers.start chunks.size chunks.rest.now l.product
