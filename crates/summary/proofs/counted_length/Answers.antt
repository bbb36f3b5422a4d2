-- `counted_length` meets its contract. Assumes nothing.
use Rattle.std.proofs.Common.{◌∙◌, length, rules}
use Rattle.summary.specs.Consumed.{fixed_length, counted_by}
use Rattle.summary.proofs.CountLaws.{counted_if}
use Rattle.summary.proofs.counted_length.Goals as goal

pub returns : goal.returns
unfolding counted_by
returns c = λ k e.
    let s = c.args.bytes.now in
    c.unwrap_or.ensures ∙ counted_if _ _ (fixed_length k s) (length s) (c.fixed_length.ensures k e) c.filter.ensures (λ n b p. search rules)
