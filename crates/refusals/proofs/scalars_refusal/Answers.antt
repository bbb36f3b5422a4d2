-- `scalars_refusal` meets its contract: the code asks what the definition asks, in its order. Assumes nothing.
use mathlib.Core.Bool.{not}
use mathlib.Core.Path.{refl, sym, ap, ap₂, ◌∙◌}
use mathlib.Core.Bool.{Bool, ◌&&◌, and-false}
use lib.Dec.{eqb}
use Rattle.records.specs.Bytes.{byte_at}
use borrow.Author.Tests.{eq-eqb, ne_eqb}
use Rattle.lists.specs.TestLaws.{Left, left, test_number}
use Rattle.refusals.specs.Refusals.{scalars_refusal}
use Rattle.lists.specs.CallLaws.{holds, fails, is, is_not}
use Rattle.refusals.proofs.scalars_refusal.Goals as goal
use Rattle.refusals.proofs.scalars_refusal.Lts as lts
use Rattle.refusals.proofs.scalars_refusal.Reads as reads
use Rattle.refusals.proofs.scalars_refusal.Tie as tie

pub returns-then-s-size : goal.returns-then-s-size
unfolding scalars_refusal
returns-then-s-size c = test_number _ _ _ refl (ne_eqb _ _ c.if-s-size.true)

-- what is left of the refusal once the length is right; the lemma below goes on from it
long : (c : lts.Else1 tie.the-claims reads.Pre reads.Post) → unfold scalars_refusal in (let a = c.args in Left {r = scalars_refusal a.size a.count a.s.now} _ _ _ refl)
unfolding scalars_refusal
long c = left _ _ _ refl (eq-eqb _ _ c.if-s-size.false)

pub returns-then-byte-ne0 : goal.returns-then-byte-ne0
unfolding scalars_refusal
returns-then-byte-ne0 c =
    let s = c.args.s.now in
    test_number _ _ _ (long c.before.before.before) (ap (λ (b : Bool). b && eqb (byte_at s 3) 0) (is_not c.byte.ensures c.if-byte-ne0.true))

pub returns-then-byte-ne0-2 : goal.returns-then-byte-ne0-2
unfolding scalars_refusal
returns-then-byte-ne0-2 c =
    let first = eqb (byte_at c.args.s.now 2) 0 in
    test_number _ _ _ (long c.before.before.before.before.before) (ap (λ (b : Bool). first && b) (is_not c.byte-2.ensures c.if-byte-ne0-2.true) ∙ and-false first)

reserved : (c : lts.Else3 tie.the-claims reads.Pre reads.Post) → unfold scalars_refusal in (Left _ _ _ (long c.before.before.before.before))
unfolding scalars_refusal
reserved c =
    let first = c.before.before in
    left _ _ _ (long first.before.before) (ap₂ ◌&&◌ (is first.byte.ensures first.if-byte-ne0.false) (is c.byte-2.ensures c.if-byte-ne0-2.false))

pub returns-then-not-all_of : goal.returns-then-not-all_of
unfolding scalars_refusal
returns-then-not-all_of c = test_number _ _ _ (reserved c.before.before.before) (fails c.all_of.ensures (ap not c.if-not-all_of.true))

pub returns : goal.returns
unfolding scalars_refusal
returns c = sym (left _ _ _ (reserved c.before.before.before) (holds c.all_of.ensures (ap not c.if-not-all_of.false)))
