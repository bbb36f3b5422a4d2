-- `load_scalars` meets its contract. The loop has stored the scalars passed. Assumes nothing.
use Rattle.std.proofs.Common.{◌≡◌, sym, arith, length}
use Rattle.lists.specs.StoreLaws.{stored_first, stored_none}
use Rattle.arrays.specs.Arrays.{scalars}
use Rattle.dealer.proofs.load_scalars.Goals as goal

pub loop-i-init : goal.loop-i-init
unfolding scalars
loop-i-init c = stored_none _ _ _

pub loop-i-preserved : goal.loop-i-preserved
unfolding scalars
loop-i-preserved c = rw c.loop-i.invariant (sym (stored_first _ c.loop-i.i _))

pub returns : goal.returns
returns c =
    let end : c.loop-i.i ≡ length c.args.list.now = omega arith in
    rw end at c.loop-i.invariant
