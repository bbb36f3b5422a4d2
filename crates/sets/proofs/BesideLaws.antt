-- Masks side by side are counted apart. Assumes nothing.
use Rattle.std.specs.Prelude.{◌≡◌, ℕ, zero, suc, ◌+◌, ◌*◌, ◌/◌, ◌^◌, ◌<◌}
use Rattle.std.proofs.Common.{sym, ap₂, ◌∙◌, arith, zero-add, suc-add, pow-suc}
use Rattle.std.specs.Int.Bits.{block_half, block_odd}
use Rattle.sets.specs.Masks.{has, count}
use Rattle.sets.specs.Lanes.{lane_sum}
use Rattle.sets.proofs.LaneLaws.{count_lanes}

bits_beside : (w v high low : ℕ) → low < 2 ^ w → lane_sum 1 (w + v) (high * 2 ^ w + low) ≡ lane_sum 1 w low + lane_sum 1 v high
unfolding lane_sum
bits_beside zero v high low l =
    let whole : high * 2 ^ 0 + low ≡ high = omega arith in
    ap₂ (lane_sum 1) (zero-add v) whole ∙ sym (zero-add (lane_sum 1 v high))
bits_beside (suc w) v high low l =
    rw (suc-add w v, block_odd high w low, block_half high w low, bits_beside w v high (low / 2) (omega (arith, pow-suc 2 w))) (omega arith)

-- a mask of w + v bits is one of w bits and one of v bits side by side
pub beside : (w v high low : ℕ) → low < 2 ^ w → count (w + v) (has (high * 2 ^ w + low)) ≡ count w (has low) + count v (has high)
beside w v high low l = count_lanes (w + v) (high * 2 ^ w + low) ∙ bits_beside w v high low l ∙ sym (ap₂ ◌+◌ (count_lanes w low) (count_lanes v high))
