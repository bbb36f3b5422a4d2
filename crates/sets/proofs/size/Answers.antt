-- `size` meets its contract: up to 64 the bits above party n are cut off first, from there on every bit counts. Assumes nothing.
use mathlib.Core.Path.{sym, ap, ◌∙◌}
use Prim.Native.Nat.{ℕ, ◌-◌, ◌%◌, ◌^◌}
use native.Mathlib.Nat.{mod-lt}
use native.Mathlib.Omega.{arith}
use lib.Pow.{pow_pos}
use lib.Bits.{bit_and, and_mask}
use Rattle.sets.specs.Masks.{has, mask_bits, count}
use Rattle.sets.proofs.BitLaws.{one_shifted}
use Rattle.sets.proofs.Sizes.{size_width, size_low}
use Rattle.sets.proofs.size.Goals as goal

pub returns-then-all : goal.returns-then-all
returns-then-all c =
    let b = c.before in
    let a = b.before.args in
    c.bits_set.ensures ∙ sym (size_width a.n mask_bits a.mask b.if-all.true b.before.ranges.mask.fits)

pub overflow_sub-n : goal.overflow_sub-n
overflow_sub-n c = let n = c.before.args.n in omega (arith, one_shifted n (omega arith), pow_pos n)

pub returns : goal.returns
returns c =
    let a = c.before.before.args in
    let n = a.n in
    let mask = a.mask in
    let cut = ap (λ (x : ℕ). bit_and mask (x - 1)) (one_shifted n (omega arith)) ∙ and_mask mask n in
    c.bits_set-2.ensures
    ∙ ap (λ (x : ℕ). count mask_bits (has x)) cut
    ∙ size_width mask_bits n (mask % 2 ^ n) (omega arith) (mod-lt mask (pow_pos n))
    ∙ size_low n mask
