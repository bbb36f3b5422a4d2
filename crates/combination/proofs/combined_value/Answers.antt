-- `combined_value` meets its contract. The loop keeps the product over the dealers passed. Assumes nothing.
use Rattle.std.proofs.Common.{rules}
use Rattle.std.proofs.Math.Logic.{⊎_elim}
use Rattle.field.specs.Definitions.{element}
use Rattle.combination.proofs.Loops.{combined_none, passed_skip, passed_take, passed_all, passed_whole}
use Rattle.combination.proofs.combined_value.Goals as goal

pub loop-i-init : goal.loop-i-init
loop-i-init c = record {
  last = search rules;
  within = search rules;
  width = search rules;
  rest_is = search rules;
  product_is = search (rules, combined_none);
}

pub loop-i-preserved-then-has : goal.loop-i-preserved-then-has
loop-i-preserved-then-has c =
    let turn = c.in-Some.ensures.steps in
    passed_take c.loop-i.invariant c.in-Some.values.now turn.0 turn.1.0 turn.1.1 c.has.ensures c.if-has.true c.requires (element 0) c.mul-product.ensures

pub loop-i-preserved : goal.loop-i-preserved
loop-i-preserved c =
    let turn = c.in-Some.ensures.steps in
    passed_skip c.loop-i.invariant c.in-Some.values.now turn.0 turn.1.0 turn.1.1 c.has.ensures c.if-has.false

pub returns : goal.returns
returns c =
    let passed = c.loop-i.invariant in
    ⊎_elim (λ e. passed_all passed e.1.1.0) (λ e. passed_whole passed c.ranges.qual.fits c.told-powers e.1.1.0) c.in-None.ensures.steps
