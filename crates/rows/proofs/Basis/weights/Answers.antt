-- `Basis::weights` meets its contract. The loop has stored the weights passed, made from the partial products of both orders. Assumes nothing.
use Rattle.std.proofs.Common.{◌≡◌, ◌∙◌, ap, sym, arith, ℕ, ◌≤◌, length}
use Rattle.lists.specs.LoadLaws.{part_none, part_next, part_long, part_whole}
use Rattle.field.specs.declared.Scalar.{Scalar}
use Rattle.field.specs.Definitions.{scalar, times}
use Rattle.interpolation.proofs.WeightLaws.{differences}
use Rattle.rows.specs.declared.Row.{Row}
use Rattle.rows.specs.Definitions.{size, nth, weights_by}
use Rattle.rows.proofs.RowLaws.{size_max, listed_cong, front_row}
use Rattle.rows.proofs.BasisLaws.{differences_split}
use Rattle.rows.proofs.Basis.weights.Invariants.{made}
use Rattle.rows.proofs.Basis.weights.Goals as goal

pub slice_bounds-weight-items-end : goal.slice_bounds-weight-items-end
slice_bounds-weight-items-end c =
    let m : ℕ = c.len-m.result in
    sym (part_long 64 (scalar 0) m (λ k. scalar 0) 0 (part_none 64 (scalar 0) m (λ k. scalar 0)) (omega (arith, c.len-m.ensures, size_max c.args.self.points)))

pub loop-i-init : goal.loop-i-init
loop-i-init c =
    part_none 64 (scalar 0) c.len-m.result (made c.partial_products-prefix.result c.partial_products-suffix.result c.args.self.scales c.len-m.result)

pub loop-i-preserved : goal.loop-i-preserved
unfolding nth
loop-i-preserved c =
    let m : ℕ = c.len-m.result in
    let scales : Row = c.args.self.scales in
    part_next 64 (scalar 0) m (made c.partial_products-prefix.result c.partial_products-suffix.result scales m) c.loop-i.i c.loop-i.invariant
    (c.mul.ensures ∙ ap (λ (x : Scalar). times x (nth scales c.loop-i.i)) c.mul-others.ensures)

pub returns : goal.returns
unfolding weights_by
returns c =
    let suffix = c.partial_products-suffix in
    let prefix = c.partial_products-prefix in
    let m : ℕ = c.len-m.result in
    let r : Row = c.args.self.points in
    let x : Scalar = c.args.x in
    let scales : Row = c.args.self.scales in
    let l = c.loop-i in
    let f : ℕ → Scalar = made prefix.result suffix.result scales m in
    let fits : m ≤ 64 = omega (arith, c.len-m.ensures, size_max r) in
    let long : length l.weight-items ≡ m = part_long 64 (scalar 0) m f l.i l.invariant fits in
    front_row (size r) f (part_whole 64 (scalar 0) m f l.i l.invariant fits (omega (arith, long))) (omega (arith, long, c.len-m.ensures, fits)) (omega (arith, c.len-m.ensures, fits))
    ∙ listed_cong (size r) f (λ i. times (differences (nth r) (size r) i x) (nth scales i))
    (λ i h. ap (λ (t : Scalar). times t (nth scales i)) (rw (suffix.ensures, c.reversed.ensures, prefix.ensures, c.len-m.ensures) (differences_split r x i h)))
