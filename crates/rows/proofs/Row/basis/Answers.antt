-- `Row::basis` meets its contract. The loop has stored the scales passed. Assumes nothing.
use Rattle.std.proofs.Common.{◌≡◌, ap, sym, arith, ℕ, ◌≤◌, length}
use Rattle.lists.specs.LoadLaws.{part_none, part_next, part_long, part_whole}
use Rattle.field.specs.declared.Scalar.{Scalar}
use Rattle.field.specs.Definitions.{scalar}
use Rattle.rows.specs.declared.Row.{Row}
use Rattle.rows.specs.Definitions.{size, nth, scale, basis_of}
use Rattle.rows.proofs.RowLaws.{size_max, front_row}
use Rattle.rows.proofs.Row.basis.Goals as goal

pub slice_bounds-scale-items-end : goal.slice_bounds-scale-items-end
slice_bounds-scale-items-end c =
    let m : ℕ = c.len-m.result in
    sym (part_long 64 (scalar 0) m (λ k. scalar 0) 0 (part_none 64 (scalar 0) m (λ k. scalar 0)) (omega (arith, c.len-m.ensures, size_max c.args.self)))

pub loop-i-init : goal.loop-i-init
loop-i-init c = part_none 64 (scalar 0) c.len-m.result (scale (nth c.args.self) (size c.args.self))

pub loop-i-preserved : goal.loop-i-preserved
loop-i-preserved c =
    let r = c.args.self in
    part_next 64 (scalar 0) c.len-m.result (scale (nth r) (size r)) c.loop-i.i c.loop-i.invariant c.scale.ensures

pub returns : goal.returns
unfolding basis_of
returns c =
    let r = c.args.self in
    let l = c.loop-i in
    let m : ℕ = c.len-m.result in
    let f : ℕ → Scalar = scale (nth r) (size r) in
    let fits : m ≤ 64 = omega (arith, c.len-m.ensures, size_max r) in
    let long : length l.scale-items ≡ m = part_long 64 (scalar 0) m f l.i l.invariant fits in
    ap (λ (s : Row). record { points = r; scales = s })
    (front_row (size r) f (part_whole 64 (scalar 0) m f l.i l.invariant fits (omega (arith, long))) (omega (arith, long, c.len-m.ensures, size_max r)) (omega (arith, c.len-m.ensures, size_max r)))
