-- At most 255 sizes are added, each a byte.
use Rattle.std.proofs.Common.{rules, arith, ◌≤◌, ◌^◌, length}
use Rattle.std.proofs.lemmas.Iterator.{YieldsList-from_range}
use Rattle.std.proofs.lemmas.Iterator.Adapters.{fits_from_length, at_most_from_yields_List}
use Rattle.std.proofs.lemmas.List.FromFn.{length-range_with_len}
use Rattle.std.specs.List.{range_with_len}
use Rattle.teller.proofs.sizes.Goals as goal

pub sum-requires-clause-fits : goal.sum-requires-clause-fits
sum-requires-clause-fits c =
    let n = c.args.n in
    let few : length (range_with_len 0 n) ≤ 255 = omega (arith, length-range_with_len 0 n, c.ranges.n) in
    fits_from_length _ _ 255 (2 ^ 32) (at_most_from_yields_List (YieldsList-from_range 0 n n (search rules) (search rules)) few) c.map.ensures.closure (omega arith) (λ x r q k. search rules)
