-- `Row::scale` meets its contract. The loop keeps the product of the differences passed. Assumes nothing.
use Rattle.std.proofs.Common.{◌≡◌, ◌∙◌, ap, ap₂, sym, rules, arith, List, ℕ, length, take, get_or, length-take, get_or-take}
use Rattle.field.specs.declared.Scalar.{Scalar}
use Rattle.field.specs.Definitions.{scalar, minus, times}
use Rattle.interpolation.proofs.WeightLaws.{differences_none, differences_skip, differences_take}
use Rattle.rows.specs.Definitions.{size, nth, scale}
use Rattle.rows.proofs.RowLaws.{size_max}
use Rattle.rows.proofs.Row.scale.Goals as goal
use Rattle.rows.proofs.Row.scale.Goals.{then-apart, else-apart}

pub loop-l-init : goal.loop-l-init
loop-l-init c = differences_none _ _ _

pub loop-l-preserved : goal.loop-l-preserved
unfolding nth
loop-l-preserved c =
    let l = c.loop-l in
    let m : ℕ = c.len-m.result in
    let at : List Scalar = c.args.self.at in
    let own : Scalar = c.item-own.result in
    let pt = nth c.args.self in
    let point : get_or (take m at) l.l (scalar 0) ≡ get_or at l.l (scalar 0) = get_or-take m at l.l (scalar 0) (omega (arith, length-take m at)) in
    elim c.if-apart.branch [
      | then-apart w ↦
          w.below-is ∙ w.mul-below.ensures ∙ ap₂ times l.invariant (w.sub.ensures ∙ ap (minus own) point) ∙ sym (differences_take pt c.args.i own l.l w.if-apart.true)
      | else-apart w ↦
          w.below-is ∙ l.invariant ∙ sym (differences_skip pt c.args.i own l.l w.if-apart.false)
    ]

pub returns : goal.returns
unfolding scale
returns c =
    let r = c.args.self in
    let l = c.loop-l in
    let full : length r.at ≡ 64 = search rules in
    let end : l.l ≡ size r = omega (arith, length-take c.len-m.result r.at, size_max r) in
    c.inverse.ensures ∙ rw (l.invariant, c.item-own.ensures, end)
