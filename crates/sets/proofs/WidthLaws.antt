-- Laws of masks of w bits, over the width: one more party, a union, a difference, and the parties above. The number of members is in MemberLaws
-- (count_bits) and in Sizes, the set of those that pass a test in MaskLaws (mask_of_lt). Assumes nothing.
use Rattle.std.specs.Prelude.{◌≡◌, false, ◌&&◌, ℕ, zero, suc, ◌-◌, ◌^◌, ◌≤◌, ◌<◌, leb}
use Rattle.std.proofs.Common.{sym, ◌∙◌, arith, le_trans, pow_pos, pow_mono, leb-true}
use Rattle.std.proofs.Math.Bool.{and-eq-true_iff}
use Rattle.std.proofs.Math.Decide.{dec_le}
use Rattle.std.proofs.Math.Pow.{pow-lt}
use Rattle.std.specs.Int.Bits.{bit_or}
use Rattle.std.proofs.lemmas.Nat.{or_lt}
use Rattle.lists.specs.TestLaws.{pick_case}
use Rattle.sets.specs.Masks.{has, mask_bits, insert, minus}
use Rattle.sets.proofs.BitLaws.{bit_none}
use Rattle.sets.proofs.MaskLaws.{has_bit}

pub insert_width : (w m i : ℕ) → i ≤ w → m < 2 ^ w → insert m i < 2 ^ w
unfolding insert
insert_width w m i l h =
    pick_case (λ x. x < 2 ^ w) (leb 1 i && leb i mask_bits) (bit_or m (2 ^ (i - 1))) m
    (λ e. let p : 0 < i = leb-true 1 i ((and-eq-true_iff _ _).0 e).0 in or_lt w m (2 ^ (i - 1)) h (pow-lt (omega arith)))
    (λ e. h)

pub union_width : (w a b : ℕ) → a < 2 ^ w → b < 2 ^ w → bit_or a b < 2 ^ w
union_width w a b p q = or_lt w a b p q

pub minus_width : (w a b : ℕ) → a < 2 ^ w → minus a b < 2 ^ w
unfolding minus
minus_width w a b l = omega arith

-- no party above n: the mask has n bits
pub width_of : (w n m : ℕ) → m < 2 ^ w → ((i : ℕ) → n < i → i ≤ w → has m i ≡ false) → m < 2 ^ n
width_of zero n m l h = le_trans l (pow_pos n)
width_of (suc w) n m l h = go (dec_le (suc w) n) (λ k. width_of w n m k (λ i p q. h i p (omega arith)))
  where
    go : Dec (suc w ≤ n) → (m < 2 ^ w → m < 2 ^ n) → m < 2 ^ n
    go (yes k) ih = le_trans l (pow_mono k)
    go (no k) ih = ih (bit_none w m l (sym (has_bit m w) ∙ h (suc w) (omega arith) (omega arith)))
