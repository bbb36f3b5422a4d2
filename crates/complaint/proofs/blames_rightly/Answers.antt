-- `blames_rightly` meets its contract. No dealer passed is blamed wrongly. Assumes nothing.
use mathlib.Core.Path.{ap}
use borrow.Author.Tests.{not-true, not-false}
use native.Mathlib.Omega.{arith}
use mathlib.Core.Path.{◌≡◌, refl, sym, ◌∙◌}
use mathlib.Core.Bool.{false, not, and-false}
use Prim.Native.Nat.{◌+◌}
use Rattle.lists.specs.Tests.{all_to}
use Rattle.lists.specs.TestLaws.{all_next, fails_stays}
use Rattle.sets.specs.Masks.{has}
use Rattle.dealing.specs.Definitions.{may_blame}
use Rattle.complaint.proofs.blames_rightly.Invariants.{rightly}
use Rattle.complaint.proofs.blames_rightly.Goals as goal
use Rattle.complaint.proofs.blames_rightly.Goals.{then-has+else-not-may_blame, else-has}

pub loop-i-init : goal.loop-i-init
unfolding all_to
loop-i-init c = (omega arith, refl)

pub returns-then-not-may_blame : goal.returns-then-not-may_blame
returns-then-not-may_blame c =
    let blamed = c.before.before in
    let l = blamed.before.before.before in
    let a = l.args in
    let masked : blamed.has.result ≡ has a.mask (l.loop-i.i + 1) = blamed.has.ensures in
    let may : c.may_blame.result ≡ may_blame a.dealings.now a.j (l.loop-i.i + 1) = c.may_blame.ensures in
    let here : all_to (l.loop-i.i + 1) (rightly a.dealings.now a.j a.mask) ≡ false =
    all_next l.loop-i.i _
    ∙ rw (
      ← masked,
      blamed.if-has.true,
      ← may,
      not-true c.may_blame.result (ap not c.if-not-may_blame.true),
      and-false,
    ) in
    sym (fails_stays _ (l.loop-i.i + 1) a.n (omega arith) here)

pub loop-i-preserved : goal.loop-i-preserved
loop-i-preserved c =
    let l = c.loop-i in (
      omega arith,
      all_next l.i _
          ∙ elim c.if-has.branch [
            | then-has+else-not-may_blame w ↦
                rw (l.invariant.1, ← c.has.ensures, w.if-has.true, ← w.may_blame.ensures, not-false w.may_blame.result (ap not w.if-not-may_blame.false))
            | else-has w ↦
                rw (l.invariant.1, ← c.has.ensures, w.if-has.false)
          ],
    )

pub returns : goal.returns
returns c =
    let l = c.loop-i in
    let end : l.i ≡ c.args.n = omega arith in
    sym (rw end at l.invariant.1)
