-- `has` meets its contract: 0 and the numbers above 64 are no members, any other is a bit of the mask.
-- Assumes nothing.
use mathlib.Core.Path.{sym, ap, ◌∙◌}
use Prim.Native.Nat.{ℕ, ◌-◌, ◌/◌, ◌^◌}
use native.Mathlib.Omega.{arith}
use lib.Bits.{and_mask}
use lib.Dec.{eqb}
use Rattle.sets.proofs.MaskLaws.{has_none, has_above, has_is}
use Rattle.sets.proofs.has.Goals as goal

pub returns-then-i-eq0 : goal.returns-then-i-eq0
returns-then-i-eq0 c = rw c.if-i-eq0.true (sym (has_none c.before.args.mask))

pub returns-then-i-gt-MASK_BITS : goal.returns-then-i-gt-MASK_BITS
returns-then-i-gt-MASK_BITS c = let a = c.before.before in sym (has_above a.args.mask 64 a.args.i a.ranges.mask.fits c.if-i-gt-MASK_BITS.true)

pub returns : goal.returns
returns c =
    let a = c.before.before.args in
    ap (λ (x : ℕ). eqb x 1) (and_mask (a.mask / 2 ^ (a.i - 1)) 1) ∙ sym (has_is a.mask a.i (omega arith))
