-- `Row::reversed` meets its contract. The loop has stored the points passed. Assumes nothing.
use Rattle.std.proofs.Common.{◌≡◌, ◌∙◌, ap, sym, refl, arith, ℕ, ◌-◌, ◌≤◌, length}
use Rattle.lists.specs.LoadLaws.{part_none, part_next, part_long, part_whole}
use Rattle.field.specs.declared.Scalar.{Scalar}
use Rattle.field.specs.Definitions.{scalar}
use Rattle.rows.specs.Definitions.{nth, listed}
use Rattle.rows.specs.BasisLaws.{reversed}
use Rattle.rows.proofs.RowLaws.{size_max, front_row}
use Rattle.rows.proofs.Row.reversed.Goals as goal

pub slice_bounds-place-items-end : goal.slice_bounds-place-items-end
slice_bounds-place-items-end c =
    let m : ℕ = c.len-m.result in
    sym (part_long 64 (scalar 0) m (λ k. scalar 0) 0 (part_none 64 (scalar 0) m (λ k. scalar 0)) (omega (arith, c.len-m.ensures, size_max c.args.self)))

pub loop-i-init : goal.loop-i-init
loop-i-init c = part_none 64 (scalar 0) c.len-m.result (λ k. nth c.args.self (c.len-m.result - 1 - k))

pub loop-i-preserved : goal.loop-i-preserved
unfolding nth
loop-i-preserved c = part_next 64 (scalar 0) c.len-m.result (λ k. nth c.args.self (c.len-m.result - 1 - k)) c.loop-i.i c.loop-i.invariant refl

pub returns : goal.returns
unfolding reversed
returns c =
    let r = c.args.self in
    let l = c.loop-i in
    let m : ℕ = c.len-m.result in
    let f : ℕ → Scalar = λ k. nth r (m - 1 - k) in
    let fits : m ≤ 64 = omega (arith, c.len-m.ensures, size_max r) in
    let long : length l.place-items ≡ m = part_long 64 (scalar 0) m f l.i l.invariant fits in
    front_row m f (part_whole 64 (scalar 0) m f l.i l.invariant fits (omega (arith, long))) (omega (arith, long, fits)) (omega (arith, fits))
    ∙ ap (λ (n : ℕ). listed n (λ k. nth r (n - 1 - k))) c.len-m.ensures
