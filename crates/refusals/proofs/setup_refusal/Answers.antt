-- `setup_refusal` meets its contract: the code asks what the definition asks, in its order. Assumes nothing.
use mathlib.Core.Path.{◌≡◌, refl, sym, ap, ◌∙◌}
use mathlib.Core.Bool.{not, and-false}
use native.Mathlib.Omega.{arith}
use borrow.Author.Tests.{le-leb, lt-leb}
use Rattle.field.specs.declared.Reading.{Reading}
use Rattle.field.specs.Definitions.{read_element}
use Rattle.field.proofs.Readings.{element_none, identity_one, identity_other}
use Rattle.records.specs.Bytes.{word}
use Rattle.lists.specs.TestLaws.{Left, left, test_number, one_fails}
use Rattle.refusals.specs.Refusals.{setup_refusal}
use Rattle.lists.specs.CallLaws.{holds, fails, equals, differs, is, is_not}
use Rattle.refusals.proofs.setup_refusal.Goals as goal
use Rattle.refusals.proofs.setup_refusal.Lts as lts
use Rattle.refusals.proofs.setup_refusal.Reads as reads
use Rattle.refusals.proofs.setup_refusal.Tie as tie

pub returns-then-s-lt6 : goal.returns-then-s-lt6
unfolding setup_refusal
returns-then-s-lt6 c = test_number _ _ _ refl (rw (lt-leb 6 _ c.if-s-lt6.true))

pub returns-then-s-setup_length : goal.returns-then-s-setup_length
unfolding setup_refusal
returns-then-s-setup_length c =
    let here = rw c.byte-t.ensures at c.setup_length.ensures in
    test_number _ _ _ refl (rw (differs here c.if-s-setup_length.true, and-false))

-- what is left of the refusal once the length is right; the lemmas like it below go on from the one before
long : (c : lts.Else2 tie.the-claims reads.Pre reads.Post) → unfold setup_refusal in (Left {r = setup_refusal c.args.s.now} _ _ _ refl)
unfolding setup_refusal
long c =
    let here = rw c.byte-t.ensures at c.setup_length.ensures in
    left _ _ _ refl (rw (le-leb 6 _ c.if-s-lt6.false, equals here c.if-s-setup_length.false))

pub returns-then-byte-ne0 : goal.returns-then-byte-ne0
unfolding setup_refusal
returns-then-byte-ne0 c = test_number _ _ _ (long c.before.before.before) (is_not c.byte.ensures c.if-byte-ne0.true)

reserved : (c : lts.Else3 tie.the-claims reads.Pre reads.Post) → unfold setup_refusal in (Left _ _ _ (long c.before.before))
unfolding setup_refusal
reserved c = left _ _ _ (long c.before.before) (is c.byte.ensures c.if-byte-ne0.false)

pub returns-then-not-in_bounds : goal.returns-then-not-in_bounds
unfolding setup_refusal
returns-then-not-in_bounds c =
    let first = c.before.before.before.before in
    let t = first.byte-t.ensures in
    let here = rw (c.byte-2.ensures, t, c.byte-3.ensures) at c.in_bounds.ensures in
    test_number _ _ _ (reserved first.before) (fails here (ap not c.if-not-in_bounds.true))

bounds : (c : lts.Else4 tie.the-claims reads.Pre reads.Post) → unfold setup_refusal in (Left _ _ _ (reserved c.before.before.before.before))
unfolding setup_refusal
bounds c =
    let first = c.before.before.before.before in
    let t = first.byte-t.ensures in
    let here = rw (c.byte-2.ensures, t, c.byte-3.ensures) at c.in_bounds.ensures in
    left _ _ _ (reserved first) (holds here (ap not c.if-not-in_bounds.false))

pub returns-then-not-all_of : goal.returns-then-not-all_of
unfolding setup_refusal
returns-then-not-all_of c =
    let t = c.byte-t.ensures in
    let here = rw t at c.all_of.ensures in
    test_number _ _ _ (bounds c.before.before.before) (fails here (ap not c.if-not-all_of.true))

elements : (c : lts.Else5 tie.the-claims reads.Pre reads.Post) → unfold setup_refusal in (Left _ _ _ (bounds c.before.before))
unfolding setup_refusal
elements c =
    let t = c.byte-t.ensures in
    let here = rw t at c.all_of.ensures in
    left _ _ _ (bounds c.before.before) (holds here (ap not c.if-not-all_of.false))

-- how S is read
key : (c : lts.After-read tie.the-claims reads.Pre reads.Post) {r : Reading} → c.read-key.result ≡ r → read_element (word c.args.s.now 6 0) ≡ r
key c e = sym (rw c.word.ensures at c.read-key.ensures) ∙ e

pub returns-in-NoElement : goal.returns-in-NoElement
unfolding setup_refusal
returns-in-NoElement c =
    let first = c.before.before.before.before in
    let none = element_none _ (key c.before.before c.in-NoElement.is) in
    test_number _ _ _ (bounds first.before.before) (one_fails _ 0 _ (omega arith) none)

pub returns-in-Identity : goal.returns-in-Identity
unfolding setup_refusal
returns-in-Identity c =
    let one = identity_one _ (key c.before.before c.in-Identity.is) in
    test_number _ _ _ (elements c.before.before.before.before) (ap not one)

pub returns-in-Other : goal.returns-in-Other
unfolding setup_refusal
returns-in-Other c =
    let other = identity_other _ (key c.before.before c.in-Other.is) in
    sym (left _ _ _ (elements c.before.before.before.before) (ap not other))
