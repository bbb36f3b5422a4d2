-- The size of a set, over the width of its mask: two masks side by side are counted apart; a mask of n bits has no member above n, so that the parties
-- to n and those of a whole word are as many; and the size is the number of set bits. Assumes nothing.
use Rattle.std.specs.Prelude.{◌≡◌, ℕ, zero, suc, ◌+◌, ◌-◌, ◌*◌, ◌/◌, ◌%◌, ◌^◌, ◌≤◌, ◌<◌}
use Rattle.std.proofs.Common.{sym, ap, ap₂, ◌∙◌, arith, add-zero, pow-suc, zero-mul, mod-lt, pow_pos}
use Rattle.std.proofs.Math.Pow.{split}
use Rattle.std.specs.Int.Count.{ones, ones_step}
use Rattle.sets.specs.Masks.{has, members_from, count}
use Rattle.sets.proofs.MaskLaws.{has_zero}
use Rattle.sets.proofs.MemberLaws.{no_members}
use Rattle.sets.specs.Lanes.{lane_sum}
use Rattle.sets.proofs.LaneLaws.{count_lanes}
use Rattle.sets.proofs.BesideLaws.{beside}

-- a mask of w + v bits is one of w bits and one of v bits side by side
pub size_beside : (w v high low : ℕ) → low < 2 ^ w → count (w + v) (has (high * 2 ^ w + low)) ≡ count w (has low) + count v (has high)
size_beside w v high low l = beside w v high low l

-- a mask of n bits, counted to n and in a word of w bits
pub size_width : (w n m : ℕ) → n ≤ w → m < 2 ^ n → count w (has m) ≡ count n (has m)
size_width w n m h l =
    let to : w ≡ n + (w - n) = omega arith in
    let alone : m ≡ 0 * 2 ^ n + m = omega (arith, zero-mul (2 ^ n)) in
    ap₂ (λ (k x : ℕ). count k (has x)) to alone ∙ beside n (w - n) 0 m l ∙ ap (λ (k : ℕ). count n (has m) + k) (no_members (has 0) has_zero 1 (w - n)) ∙ add-zero (count n (has m))

-- the parties to n are those of the n lowest bits
pub size_low : (n m : ℕ) → count n (has (m % 2 ^ n)) ≡ count n (has m)
unfolding members_from
size_low n m =
    sym
    (ap₂ (λ (k x : ℕ). count k (has x)) (sym (add-zero n)) (sym (split m n)) ∙ beside n 0 (m / 2 ^ n) (m % 2 ^ n) (mod-lt m (pow_pos n)) ∙ add-zero (count n (has (m % 2 ^ n))))

bits_ones : (w m : ℕ) → m < 2 ^ w → lane_sum 1 w m ≡ ones m
unfolding lane_sum ones
bits_ones zero m l = let none : 0 ≡ m = omega arith in ap ones none
bits_ones (suc w) m l = ap (λ (x : ℕ). m % 2 + x) (bits_ones w (m / 2) (omega (arith, pow-suc 2 w))) ∙ sym (ones_step m)

-- the size of a set is the number of set bits of its mask, as the language's own logic counts them
pub size_ones : (w m : ℕ) → m < 2 ^ w → count w (has m) ≡ ones m
size_ones w m l = count_lanes w m ∙ bits_ones w m l
