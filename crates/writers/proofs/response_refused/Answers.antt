-- `response_refused` meets its contract: the code asks what the definition asks, in its order. Assumes nothing.
use Rattle.std.proofs.Common.{◌≡◌, refl, sym, false}
use Rattle.lists.specs.CallLaws.{is, is_not}
use Rattle.lists.specs.TestLaws.{left, test_number}
use Rattle.sets.specs.Masks.{has}
use Rattle.writers.specs.Writers.{response_refused}
use Rattle.writers.proofs.response_refused.Goals as goal

pub returns-then-other : goal.returns-then-other
unfolding response_refused
returns-then-other c = test_number _ _ _ refl (is_not c.stage_of-other.ensures c.if-other.true)

pub returns-then-not-has : goal.returns-then-not-has
unfolding response_refused
returns-then-not-has c =
    let absent : has c.args.run.complaints.holders c.args.j ≡ false = sym c.if-not-has.ensures in
    test_number _ _ _ (left _ _ _ (left _ _ _ refl (is c.stage_of-other.ensures c.if-other.false)) (sym c.if-not-is_party.ensures)) absent
