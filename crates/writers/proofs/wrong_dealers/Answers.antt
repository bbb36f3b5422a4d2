-- `wrong_dealers` meets its contract. The loop's mask is the set of the wrong dealers passed. Assumes nothing.
use Rattle.std.proofs.Common.{◌≡◌, ◌+◌, refl, sym, ◌∙◌, arith}
use Rattle.sets.specs.Masks.{mask_of}
use Rattle.sets.proofs.MaskLaws.{mask_of_insert}
use Rattle.dealing.specs.Definitions.{may_blame}
use Rattle.writers.proofs.wrong_dealers.Goals as goal
use Rattle.writers.proofs.wrong_dealers.Goals.{then-may_blame, else-may_blame}

pub loop-i-init : goal.loop-i-init
unfolding mask_of
loop-i-init c = refl

pub loop-i-preserved : goal.loop-i-preserved
loop-i-preserved c =
    let l = c.loop-i in
    let a = c.args in
    let more = mask_of_insert l.i (may_blame a.run.dealings a.j) (omega (arith, c.requires)) in
    let wrong : c.may_blame.result ≡ may_blame a.run.dealings a.j (l.i + 1) = c.may_blame.ensures in
    elim c.if-may_blame.branch [
      | then-may_blame w ↦
          w.mask-is ∙ w.insert-mask.ensures ∙ rw l.invariant (sym (rw (sym wrong ∙ w.if-may_blame.true) at more))
      | else-may_blame w ↦
          w.mask-is ∙ l.invariant ∙ sym (rw (sym wrong ∙ w.if-may_blame.false) at more)
    ]
