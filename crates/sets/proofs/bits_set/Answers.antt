-- `bits_set` meets its contract: each fold keeps the sum of the lanes, from 64 lanes of one bit to one lane of 64. Assumes nothing.
use mathlib.Core.Path.{◌≡◌, refl, sym, ap, ◌∙◌}
use Prim.Native.Nat.{ℕ, ◌+◌}
use native.Mathlib.Omega.{arith}
use Rattle.sets.specs.Masks.{has, mask_bits, count}
use Rattle.sets.proofs.MemberLaws.{count_le}
use Rattle.sets.specs.Lanes.{lane_sum, lower_halves, folded}
use Rattle.sets.proofs.LaneLaws.{fold_sum, lane_whole, count_lanes}
use Rattle.sets.proofs.bits_set.Goals as goal

-- a fold by the lower halves of all lanes, as it was answered
answered : (w k m : ℕ) {r halves : ℕ} → halves ≡ lower_halves w k → r ≡ folded m w halves → lane_sum (w + w) k r ≡ lane_sum w (k + k) m
answered w k m p e = ap (lane_sum (w + w) k) (e ∙ ap (folded m w) p) ∙ fold_sum w k m

-- the last sum is the number of members
counted : (c : goal.After-folded) → c.folded.result ≡ count mask_bits (has c.before.before.before.before.before.before.args.mask)
unfolding lower_halves
counted c =
    let eights = c.before.before.before in
    let twos = eights.before.before in
    let mask = twos.before.args.mask in
    sym (lane_whole 64 c.folded.result (omega arith))
    ∙ answered 32 1 c.before.folded-halves.result refl c.folded.ensures
    ∙ answered 16 2 c.before.before.folded-sixteens.result refl c.before.folded-halves.ensures
    ∙ answered 8 4 eights.folded-eights.result refl c.before.before.folded-sixteens.ensures
    ∙ answered 4 8 eights.before.folded-fours.result refl eights.folded-eights.ensures
    ∙ answered 2 16 twos.folded-twos.result refl eights.before.folded-fours.ensures
    ∙ answered 1 32 mask refl twos.folded-twos.ensures
    ∙ sym (count_lanes mask_bits mask)

pub overflow_cast-result : goal.overflow_cast-result
overflow_cast-result c = record { fits = omega (arith, counted c, count_le mask_bits (has c.before.before.before.before.before.before.args.mask)) }

pub returns : goal.returns
returns c = counted c
