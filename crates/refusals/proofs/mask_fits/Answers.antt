-- `mask_fits` meets its contract: a mask of 64 bits is below 2 ^ n from n = 64 on. Assumes nothing.
use borrow.Author.Tests.{lt-ltb}
use native.Mathlib.Omega.{arith}
use mathlib.Core.Path.{sym, ap}
use Prim.Native.Nat.{◌^◌, ◌<◌}
use lib.Dec.{ltb}
use lib.Pow.{pow_mono}
use Rattle.sets.proofs.BitLaws.{one_shifted}
use Rattle.refusals.specs.Refusals.{mask_fits}
use Rattle.refusals.proofs.mask_fits.Goals as goal

pub returns-then-all : goal.returns-then-all
unfolding mask_fits
returns-then-all c =
    let a = c.args in
    let fits : a.mask < 2 ^ a.n = omega (arith, pow_mono {i = 64} {j = a.n} c.if-all.true) in
    sym (lt-ltb a.mask (2 ^ a.n) fits)

pub returns : goal.returns
unfolding mask_fits
returns c =
    let a = c.args in
    ap (ltb a.mask) (one_shifted a.n (omega arith))
