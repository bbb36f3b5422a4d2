-- `Complaints::blamed` meets its contract. The loop has the union of the kept masks of the parties passed. Assumes nothing.
use native.Mathlib.Omega.{arith}
use mathlib.Core.Path.{◌≡◌, sym, ap, ap₂, ◌∙◌}
use Prim.Native.Nat.{ℕ, ◌+◌}
use lib.Bits.{bit_or}
use Rattle.algebra.specs.Fold.{fold}
use Rattle.algebra.specs.FoldLaws.{fold_zero, fold_next}
use Rattle.complaint.specs.Definitions.{mask_by, blamed_by}
use Rattle.complaint.proofs.Complaints.blamed.Goals as goal

pub loop-i-init : goal.loop-i-init
loop-i-init c = (omega arith, sym (fold_zero bit_or 0 _))

pub overflow_add-i : goal.overflow_add-i
overflow_add-i c = omega arith

pub overflow_step-i : goal.overflow_step-i
overflow_step-i c = omega arith

pub loop-i-smaller : goal.loop-i-smaller
loop-i-smaller c = omega arith

pub loop-i-preserved : goal.loop-i-preserved
loop-i-preserved c =
    let l = c.before.before.before in (
      omega arith,
      c.union-blamed.ensures ∙ ap₂ bit_or l.loop-i.invariant.1 c.mask_of.ensures ∙ sym (fold_next bit_or 0 l.loop-i.i (λ j. mask_by l.args.self (j + 1))),
    )

pub returns : goal.returns
unfolding blamed_by
returns c =
    let l = c.before in
    let end : l.loop-i.i ≡ l.args.n = omega arith in
    l.loop-i.invariant.1 ∙ ap (λ (m : ℕ). fold bit_or 0 m (λ j. mask_by l.args.self (j + 1))) end
