-- `Row::partial_products` meets its contract. The loop has stored the products passed, and keeps the next. Assumes nothing.
use Rattle.std.proofs.Common.{◌≡◌, ◌∙◌, sym, ap₂, ap, rules, arith, List, ℕ, ◌<◌, length, take, get_or, length-take, get_or-take}
use Rattle.algebra.specs.FoldLaws.{fold_zero, fold_next}
use Rattle.field.specs.declared.Scalar.{Scalar}
use Rattle.field.specs.Definitions.{scalar, minus, times}
use Rattle.rows.specs.Definitions.{size, nth}
use Rattle.rows.specs.BasisLaws.{partial_product, partial_products}
use Rattle.rows.proofs.RowLaws.{size_max, front_none, front_next, front_row}
use Rattle.rows.proofs.Row.partial_products.Goals as goal

pub loop-i-init : goal.loop-i-init
unfolding partial_product
loop-i-init c = (front_none _, sym (fold_zero times (scalar 1) _))

pub loop-i-preserved : goal.loop-i-preserved
unfolding nth partial_product
loop-i-preserved c =
    let a = c.args in
    let l = c.loop-i in
    let m : ℕ = c.len-m.result in
    let at : List Scalar = a.self.at in
    let within : l.i < m = omega (arith, length-take m at) in
    let point : get_or (take m at) l.i (scalar 0) ≡ get_or at l.i (scalar 0) = get_or-take m at l.i (scalar 0) within in (
      rw (l.invariant.1, l.invariant.0) (sym (front_next l.i (partial_product a.self a.x))),
      c.mul-product.ensures ∙ ap₂ times l.invariant.1 (c.sub.ensures ∙ ap (minus a.x) point) ∙ sym (fold_next times (scalar 1) l.i (λ k. minus a.x (nth a.self k))),
    )

pub returns : goal.returns
unfolding partial_products partial_product
returns c =
    let a = c.args in
    let l = c.loop-i in
    let full : length a.self.at ≡ 64 = search rules in
    let end : l.i ≡ size a.self = omega (arith, length-take c.len-m.result a.self.at, size_max a.self) in
    front_row (size a.self) (partial_product a.self a.x) l.invariant.0 (omega (arith, size_max a.self)) (omega (arith, size_max a.self))
