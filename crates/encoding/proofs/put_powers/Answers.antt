-- `put_powers` meets its contract. The loop has put the powers passed. Assumes nothing.
use Rattle.std.proofs.Common.{ap, arith}
use Rattle.field.specs.declared.Element.{Element}
use Rattle.encoding.proofs.StoreLaws.{put_none, put_next, put_all}
use Rattle.encoding.proofs.put_powers.Goals as goal

pub loop-i-init : goal.loop-i-init
loop-i-init c = put_none _ _

pub loop-i-preserved : goal.loop-i-preserved
loop-i-preserved c = put_next _ _ c.loop-i.i c.loop-i.invariant (ap (λ (v : Element). v.0) c.pow-power.ensures) c.put.ensures (omega arith)

pub returns : goal.returns
returns c = put_all _ _ c.loop-i.i _ c.loop-i.invariant c.requires (omega arith)
