-- Laws of a number of w bytes, over the width, and of the mask of a complaint row, which has four or eight. Assumes nothing.
use Rattle.std.specs.Prelude.{◌≡◌, List}
use Rattle.std.proofs.Common.{ap, ◌∙◌, add-one}
use Prim.Native.Nat.{ℕ, zero, suc, ◌+◌, ◌*◌, ◌-◌, ◌^◌, ◌<◌}
use native.Mathlib.Omega.{arith}
use Rattle.std.proofs.Math.Pow.{pow-add}
use Rattle.sets.specs.Masks.{bit, has}
use Rattle.sets.proofs.BitLaws.{bit_low, bit_over}
use Rattle.sets.proofs.MaskLaws.{has_bit}
use Rattle.records.specs.Bytes.{byte_at, wide_at}
use Rattle.records.specs.Tags.{mask_width, mask_at}

-- a byte more
pub wide_next : (w : ℕ) (s : List ℕ) (at : ℕ) → wide_at (w + 1) s at ≡ wide_at w s at * 256 + byte_at s (at + w)
unfolding wide_at
wide_next w s at = ap (λ (k : ℕ). wide_at k s at) (add-one w)

-- of records whose bytes are bytes:
module _ (s : List ℕ) (bytes : (i : ℕ) → byte_at s i < 256) where
  -- a number of w bytes has 8w bits
  pub wide_lt : (w at : ℕ) → wide_at w s at < 2 ^ (8 * w)
  unfolding wide_at
  wide_lt zero at = omega arith
  wide_lt (suc w) at =
      let more : 8 * suc w ≡ 8 * w + 8 = omega arith in
      rw (more, pow-add 2 (8 * w) 8) (omega (arith, wide_lt w at, bytes (at + w)))

  -- bit 8k + i is bit i of the byte that is k before the last
  pub wide_bit : (w at k i : ℕ) → k < w → i < 8 → bit (wide_at w s at) (8 * k + i) ≡ bit (byte_at s (at + (w - 1 - k))) i
  unfolding wide_at
  wide_bit zero at k i l m = absurd (omega arith)
  wide_bit (suc w) at zero i l m =
      let last : suc w - 1 - 0 ≡ w = omega arith in
      let first : 8 * 0 + i ≡ i = omega arith in
      rw (last, first) (bit_low 8 (wide_at w s at) (byte_at s (at + w)) i m)
  wide_bit (suc w) at (suc k) i l m =
      let before : suc w - 1 - suc k ≡ w - 1 - k = omega arith in
      let over : 8 * suc k + i ≡ 8 + (8 * k + i) = omega arith in
      rw (before, over) (bit_over 8 (wide_at w s at) (byte_at s (at + w)) (8 * k + i) (bytes (at + w)) ∙ wide_bit w at k i (omega arith) m)

  -- party 8k + i + 1 is blamed by bit i of the byte that is k before the mask's last
  pub mask_bit : (n k i : ℕ) → k < mask_width n → i < 8 → has (mask_at n s) (suc (8 * k + i)) ≡ bit (byte_at s (4 + (mask_width n - 1 - k))) i
  unfolding mask_at
  mask_bit n k i l m = has_bit (wide_at (mask_width n) s 4) (8 * k + i) ∙ wide_bit (mask_width n) 4 k i l m
