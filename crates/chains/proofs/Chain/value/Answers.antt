-- `Chain::value` meets its contract. The loop keeps what the places passed, the highest, come to. Assumes nothing.
use Rattle.std.proofs.Common.{◌≡◌, rules, length, ◌∙◌}
use Rattle.chains.specs.Definitions.{most_digits, chain_value}
use Rattle.chains.proofs.ChainLaws.{passed_none, passed_next, passed_all}
use Rattle.chains.proofs.Chain.value.Goals as goal

pub loop-digit-init : goal.loop-digit-init
loop-digit-init c = passed_none (rw (c.into_iter-digit-iterator.ensures.into_iter_gives, c.rev-digit-items.ensures.source) c.iter.ensures.rest)

pub loop-digit-preserved : goal.loop-digit-preserved
loop-digit-preserved c = passed_next _ c.loop-digit.invariant c.in-Some.ensures.steps c.mul-square.ensures c.mul.ensures c.mul-value.ensures

pub returns : goal.returns
unfolding chain_value
returns c =
    let full : length c.args.self.digits ≡ most_digits = search rules in
    passed_all c.loop-digit.invariant c.in-None.ensures.steps.0 ∙ rw full
