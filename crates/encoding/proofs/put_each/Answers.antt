-- `put_each` meets its contract. The loop has put what the rule gave for the numbers passed. Assumes nothing.
use Rattle.std.proofs.Common.{arith}
use Rattle.encoding.proofs.StoreLaws.{put_none, put_next, put_all}
use Rattle.encoding.proofs.put_each.Goals as goal

pub loop-i-init : goal.loop-i-init
loop-i-init g c = λ f h. put_none _ _

pub loop-i-preserved : goal.loop-i-preserved
loop-i-preserved g c = λ f h.
    let l = c.loop-i in
    put_next _ f l.i (l.invariant f h) (h l.i (omega arith) c.rule-number.result c.rule-number.ensures) c.put.ensures (omega arith)

pub returns : goal.returns
returns g c = λ f h. put_all _ f c.loop-i.i _ (c.loop-i.invariant f h) c.requires.long (omega arith)
