-- `combined_share` meets its contract. The loop keeps the sum over the dealers of QUAL passed. Assumes nothing.
use mathlib.Core.Path.{◌≡◌, sym, ◌∙◌}
use mathlib.Core.Bool.{Bool}
use mathlib.Core.List.{List}
use Prim.Native.Nat.{ℕ, ◌+◌}
use native.Mathlib.Omega.{arith}
use lib.ListN.{get_or}
use Rattle.algebra.specs.FoldLaws.{fold_zero, fold_next, fold_keeps}
use Rattle.lists.specs.Tests.{pick}
use Rattle.lists.specs.TestLaws.{pick_case}
use Rattle.sets.specs.Masks.{has}
use Rattle.field.specs.declared.Scalar.{Scalar}
use Rattle.field.specs.Definitions.{scalar, IsScalar, plus, times}
use Rattle.field.proofs.ScalarLaws.{zero_range, plus_range, plus_zero, times_range}
use Rattle.protocol.specs.Transcript.{coefficient}
use Rattle.writers.specs.Writers.{combined_share}
use Rattle.writers.proofs.combined_share.Goals as goal
use Rattle.writers.proofs.combined_share.Goals.{then-has, else-has}

module _ (qual : ℕ → Bool) (shares : List ℕ) (u : ℕ) where
  -- dealer i's part
  abbrev part : ℕ → Scalar
  part i = pick (qual (i + 1)) (times (coefficient (i + 1) u) (scalar (get_or shares i 0))) (scalar 0)

  none : scalar 0 ≡ combined_share 0 qual shares u
  unfolding combined_share
  none = sym (fold_zero plus (scalar 0) part)

  next : (i : ℕ) → combined_share (i + 1) qual shares u ≡ plus (combined_share i qual shares u) (part i)
  unfolding combined_share
  next i = fold_next plus (scalar 0) i part

  sum_range : (i : ℕ) → IsScalar (combined_share i qual shares u)
  unfolding combined_share
  sum_range i =
      fold_keeps plus (scalar 0) IsScalar zero_range (λ x y h k. plus_range x y) i
      (λ k l. pick_case IsScalar (qual (k + 1)) _ _ (λ e. times_range _ _) (λ e. zero_range))

pub loop-i-init : goal.loop-i-init
loop-i-init c = none _ _ _

pub loop-i-preserved : goal.loop-i-preserved
loop-i-preserved c =
    let l = c.loop-i in
    let a = c.args in
    let member : c.has.result ≡ has a.qual (l.i + 1) = c.has.ensures in
    let more = next (has a.qual) a.shares.now a.u l.i in
    elim c.if-has.branch [
      | then-has w ↦
          w.sum-is ∙ w.add-sum.ensures ∙ rw (l.invariant, w.mul.ensures, w.coefficient.ensures) (sym (rw (sym member ∙ w.if-has.true) at more))
      | else-has w ↦
          w.sum-is ∙ l.invariant ∙ sym ((rw (sym member ∙ w.if-has.false) at more) ∙ plus_zero _ (sum_range (has a.qual) a.shares.now a.u l.i))
    ]

pub returns : goal.returns
returns c =
    let l = c.loop-i in
    let end : l.i ≡ c.args.n = omega (arith, c.requires) in
    rw end at l.invariant
