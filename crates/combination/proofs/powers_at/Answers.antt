-- `powers_at` meets its contract: a step each turn. Assumes nothing.
use Rattle.std.proofs.Common.{◌≡◌, ◌∙◌, ap, arith, ◌+◌, ◌-◌}
use Rattle.combination.specs.Combination.{powers_at}
use Rattle.combination.proofs.PowerLaws.{powers_none, powers_next}
use Rattle.combination.proofs.powers_at.Goals as goal

pub loop-init : goal.loop-init
loop-init c = (omega arith, powers_none _ _)

pub loop-preserved : goal.loop-preserved
loop-preserved c =
    let a = c.args in
    let l = c.loop in
    let next : l.counter - 1 + 1 ≡ l.counter + 1 - 1 = omega arith in
    (omega arith, powers_next a.n a.list (l.counter - 1) l.invariant.1 c.raised-next.ensures ∙ ap (powers_at a.n a.list) next)

pub returns : goal.returns
returns c =
    let a = c.args in
    let end : c.loop.counter - 1 ≡ a.u - 1 = omega (arith, c.loop.invariant.0) in
    c.loop.invariant.1 ∙ ap (powers_at a.n a.list) end
