-- Whom a holder may blame: the cases that the code tells apart. Assumes nothing.
use native.Mathlib.Omega.{arith}
use mathlib.Core.Path.{◌≡◌}
use mathlib.Core.Bool.{false, and-false}
use Prim.Native.Nat.{ℕ, ◌-◌, ◌<◌}
use lib.ListN.{length, get_or-eq_default}
use Rattle.sets.specs.Masks.{has}
use Rattle.sets.proofs.MaskLaws.{has_none, has_zero}
use Rattle.dealing.specs.declared.Dealings.{Dealings}
use Rattle.dealing.specs.Definitions.{may_blame}

module _ (d : Dealings) (j : ℕ) where
  -- no dealer has the number 0
  pub blame_none : may_blame d j 0 ≡ false
  unfolding may_blame
  blame_none = rw (has_none d.dealers)

  -- nor a number past the masks
  pub blame_past : (i : ℕ) → length d.wrong < i → may_blame d j i ≡ false
  unfolding may_blame
  blame_past i l =
      let out = get_or-eq_default d.wrong 0 {n = i - 1} (omega arith) in
      rw (out, has_zero j, and-false (has d.dealers i))
