-- `mask` meets its contract. The loop has read the bytes passed, whose number has 8 bits for each. Assumes nothing.
use native.Mathlib.Omega.{arith}
use native.Mathlib.Nat.{le_trans}
use mathlib.Core.Path.{◌≡◌, refl, sym, ap, ◌∙◌}
use Prim.Native.Nat.{ℕ, ◌+◌, ◌*◌, ◌^◌, ◌≤◌, ◌<◌}
use lib.Pow.{pow-add, pow_mono}
use Rattle.records.specs.Bytes.{wide_at}
use Rattle.records.specs.Tags.{mask_at}
use Rattle.records.proofs.RecordLaws.{width_max}
use Rattle.records.proofs.MaskLaws.{wide_next}
use Rattle.records.proofs.mask.Goals as goal

pub loop-i-init : goal.loop-i-init
unfolding wide_at
loop-i-init c = (omega arith, rw c.mask_width-width.ensures (width_max _), omega arith, refl)

-- there is room for one byte more
room : (i width number : ℕ) → i < width → width ≤ 8 → number < 2 ^ (8 * i) → number < 2 ^ 56
room i width number h m l = le_trans l (pow_mono {i = 8 * i} {j = 56} (omega arith))

pub overflow_mul-number : goal.overflow_mul-number
overflow_mul-number c = omega (arith, room _ _ _ c.loop-i-test.true c.loop-i.invariant.1 c.loop-i.invariant.2)

pub overflow_add-number : goal.overflow_add-number
overflow_add-number c = omega (arith, room _ _ _ c.loop-i-test.true c.loop-i.invariant.1 c.loop-i.invariant.2)

pub loop-i-preserved : goal.loop-i-preserved
loop-i-preserved c =
    let at = c.before.before in
    let l = at.loop-i in
    let s = at.before.before.before.args.s.now in
    let more : 2 ^ (8 * (l.i + 1)) ≡ 2 ^ (8 * l.i) * 256 = ap (λ (k : ℕ). 2 ^ k) (omega arith) ∙ pow-add 2 (8 * l.i) 8 in
    (omega arith, l.invariant.1, omega (arith, more), rw (l.invariant.3, c.byte.ensures) (sym (wide_next l.i s 4)))

pub returns : goal.returns
unfolding mask_at
returns c =
    let l = c.before.loop-i in
    let known = c.before.before in
    let end : l.i ≡ known.mask_width-width.result = omega arith in
    l.invariant.3 ∙ ap (λ (k : ℕ). wide_at k known.before.before.args.s.now 4) (end ∙ known.mask_width-width.ensures)
