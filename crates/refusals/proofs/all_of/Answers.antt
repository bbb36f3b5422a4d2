-- `all_of` meets its contract. Every number below i is of the kind. Assumes nothing.
use mathlib.Core.Path.{ap}
use mathlib.Core.Bool.{not}
use native.Mathlib.Omega.{arith}
use Rattle.lists.specs.CallLaws.{asked_none, asked_more, asked_fails, asked_all}
use Rattle.refusals.proofs.all_of.Goals as goal

pub loop-i-init : goal.loop-i-init
loop-i-init g c = asked_none _ _

pub returns-then-not-admits : goal.returns-then-not-admits
returns-then-not-admits g c = asked_fails _ _ _ (rw c.word.ensures at c.admits.ensures) (ap not c.if-not-admits.true) (omega arith)

pub loop-i-preserved : goal.loop-i-preserved
loop-i-preserved g c = asked_more _ _ _ c.loop-i.invariant (rw c.word.ensures at c.admits.ensures) (ap not c.if-not-admits.false) (omega arith)

pub returns : goal.returns
returns g c = asked_all _ _ _ c.loop-i.invariant (omega arith)
