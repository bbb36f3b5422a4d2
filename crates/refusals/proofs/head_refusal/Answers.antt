-- `head_refusal` meets its contract: the code asks what the definition asks, in its order. Assumes nothing.
use mathlib.Core.Path.{ap}
use mathlib.Core.Bool.{not}
use mathlib.Core.Path.{refl, sym}
use borrow.Author.Tests.{eq-eqb, ne_eqb}
use Rattle.lists.specs.TestLaws.{Left, left, test_number}
use Rattle.refusals.specs.Refusals.{head_refusal}
use Rattle.lists.specs.CallLaws.{holds, fails, is, is_not}
use Rattle.refusals.proofs.head_refusal.Goals as goal
use Rattle.refusals.proofs.head_refusal.Lts as lts
use Rattle.refusals.proofs.head_refusal.Reads as reads
use Rattle.refusals.proofs.head_refusal.Tie as tie

pub returns-then-s-size : goal.returns-then-s-size
unfolding head_refusal
returns-then-s-size c = test_number _ _ _ refl (ne_eqb _ _ c.if-s-size.true)

-- what is left of the refusal once the length is right; the lemma below goes on from it
long : (c : lts.Else1 tie.the-claims reads.Pre reads.Post) → unfold head_refusal in (let a = c.args in Left {r = head_refusal a.n a.size a.s.now} _ _ _ refl)
unfolding head_refusal
long c = left _ _ _ refl (eq-eqb _ _ c.if-s-size.false)

pub returns-then-byte-ne0 : goal.returns-then-byte-ne0
unfolding head_refusal
returns-then-byte-ne0 c = test_number _ _ _ (long c.before.before.before) (is_not c.byte.ensures c.if-byte-ne0.true)

reserved : (c : lts.Else2 tie.the-claims reads.Pre reads.Post) → unfold head_refusal in (Left _ _ _ (long c.before.before))
unfolding head_refusal
reserved c = left _ _ _ (long c.before.before) (is c.byte.ensures c.if-byte-ne0.false)

pub returns-then-not-is_party : goal.returns-then-not-is_party
unfolding head_refusal
returns-then-not-is_party c =
    let here = rw c.byte-2.ensures at c.is_party.ensures in
    test_number _ _ _ (reserved c.before.before.before.before) (fails here (ap not c.if-not-is_party.true))

pub returns : goal.returns
unfolding head_refusal
returns c =
    let here = rw c.byte-2.ensures at c.is_party.ensures in
    sym (left _ _ _ (reserved c.before.before.before.before) (holds here (ap not c.if-not-is_party.false)))
