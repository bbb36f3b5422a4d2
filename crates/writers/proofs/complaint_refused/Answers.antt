-- `complaint_refused` meets its contract: the code asks what the definition asks, in its order. Assumes nothing.
use Rattle.std.proofs.Common.{refl, sym}
use Rattle.lists.specs.CallLaws.{is, is_not, differs}
use Rattle.lists.specs.TestLaws.{left, test_number}
use Rattle.writers.specs.Writers.{complaint_refused}
use Rattle.writers.proofs.complaint_refused.Goals as goal

pub returns-then-other : goal.returns-then-other
unfolding complaint_refused
returns-then-other c = test_number _ _ _ refl (is_not c.stage_of-other.ensures c.if-other.true)

pub returns-then-room-complaint_length : goal.returns-then-room-complaint_length
unfolding complaint_refused
returns-then-room-complaint_length c =
    test_number _ _ _ (left _ _ _ (left _ _ _ refl (is c.stage_of-other.ensures c.if-other.false)) (sym c.if-not-is_party.ensures))
    (differs c.complaint_length.ensures c.if-room-complaint_length.true)
