-- Laws of lanes: a fold keeps the sum of a word's lanes and makes each two of them one, whatever their width; lanes of one bit sum to the number of
-- members, and one lane is the word. Assumes nothing.
use Rattle.std.specs.Prelude.{◌≡◌, refl, Bool, ℕ, zero, suc, ◌+◌, ◌-◌, ◌*◌, ◌/◌, ◌%◌, ◌^◌, ◌≤◌, ◌<◌, length, eqb}
use Rattle.std.proofs.Common.{sym, ap, ap₂, ◌∙◌, arith, add-zero, add-suc, suc-add, add_comm, add-mul, mod-lt, mod-eq_of_lt, pow_pos, pow_mono, shr-shr}
use Rattle.std.proofs.Math.Pow.{add-lt-pow, split, high, low, mod-mod-pow}
use Rattle.std.specs.Int.Bits.{bit_and}
use Rattle.std.proofs.lemmas.Nat.{and_shr, and_mod, and_mask}
use Rattle.lists.specs.Tests.{pick}
use Rattle.lists.specs.TestLaws.{pick_map}
use Rattle.sets.specs.Masks.{bit, has, members_from, count}
use Rattle.sets.proofs.MaskLaws.{has_bit}
use Rattle.sets.proofs.MemberLaws.{same_members}
use Rattle.sets.specs.Lanes.{lane_sum, lower_halves, folded}

-- ---- one fold

-- the sum of two lanes of w bits has at most w + w
pair_fits : (w a b : ℕ) → a < 2 ^ w → b < 2 ^ w → a + b < 2 ^ (w + w)
pair_fits zero a b p q = omega arith
pair_fits (suc w) a b p q = omega (arith, add-lt-pow (suc w) p q, pow_mono {i = suc (suc w)} {j = suc w + suc w} (omega arith))

-- what the lower halves leave of a word: the lower half of its first lane, and of the other lanes likewise
and_lane : (m w h : ℕ) → bit_and m (h * 2 ^ (w + w) + (2 ^ w - 1)) ≡ bit_and (m / 2 ^ (w + w)) h * 2 ^ (w + w) + m % 2 ^ w
and_lane m w h =
    sym (split (bit_and m e) (w + w))
    ∙ ap₂ (λ (x y : ℕ). x * 2 ^ (w + w) + y)
    (and_shr m e (w + w) ∙ ap (bit_and (m / 2 ^ (w + w))) (high h (w + w) l))
    (and_mod m e (w + w) ∙ ap (bit_and (m % 2 ^ (w + w))) (low h (w + w) l) ∙ and_mask (m % 2 ^ (w + w)) w ∙ mod-mod-pow m w w)
  where
    e : ℕ
    e = h * 2 ^ (w + w) + (2 ^ w - 1)

    l : 2 ^ w - 1 < 2 ^ (w + w)
    l = omega (arith, pow_pos w, pow_mono {i = w} {j = w + w} (omega arith))

-- so a fold adds the two halves of the first lane, and folds the others
fold_lane : (m w h : ℕ) → folded m w (h * 2 ^ (w + w) + (2 ^ w - 1)) ≡ folded (m / 2 ^ (w + w)) w h * 2 ^ (w + w) + (m % 2 ^ w + m / 2 ^ w % 2 ^ w)
unfolding folded
fold_lane m w h =
    let swap : m / 2 ^ w / 2 ^ (w + w) ≡ m / 2 ^ (w + w) / 2 ^ w = shr-shr m w (w + w) ∙ ap (λ (k : ℕ). m / 2 ^ k) (add_comm w (w + w)) ∙ sym (shr-shr m (w + w) w) in
    rw (and_lane m w h, and_lane (m / 2 ^ w) w h, swap, add-mul (bit_and (m / 2 ^ (w + w)) h) (bit_and (m / 2 ^ (w + w) / 2 ^ w) h) (2 ^ (w + w))) (omega arith)

-- a word of k lanes of w + w bits is one of k + k lanes of w bits: folded, its lanes have the same sum
pub fold_sum : (w k m : ℕ) → lane_sum (w + w) k (folded m w (lower_halves w k)) ≡ lane_sum w (k + k) m
unfolding lane_sum lower_halves
fold_sum w zero m = refl
fold_sum w (suc k) m =
    let halves = m % 2 ^ w + m / 2 ^ w % 2 ^ w in
    let rest = folded (m / 2 ^ (w + w)) w (lower_halves w k) in
    let l : halves < 2 ^ (w + w) = pair_fits w (m % 2 ^ w) (m / 2 ^ w % 2 ^ w) (mod-lt m (pow_pos w)) (mod-lt (m / 2 ^ w) (pow_pos w)) in
    ap (lane_sum (w + w) (suc k)) (fold_lane m w (lower_halves w k))
    ∙ ap₂ (λ (x y : ℕ). x + lane_sum (w + w) k y) (low rest (w + w) l) (high rest (w + w) l)
    ∙ ap (λ (x : ℕ). halves + x) (fold_sum w k (m / 2 ^ (w + w)) ∙ ap (lane_sum w (k + k)) (sym (shr-shr m w w)))
    ∙ rw (suc-add k (suc k), add-suc k k) (omega arith)

-- ---- the first lanes and the last

-- one lane that holds the word is the word
pub lane_whole : (w m : ℕ) → m < 2 ^ w → lane_sum w 1 m ≡ m
unfolding lane_sum
lane_whole w m l = rw (mod-eq_of_lt l) (add-zero m)

-- the members among the numbers from s + 1, each called by the number before it
members_back : (f : ℕ → Bool) (s n : ℕ) → length (members_from f (suc s) n) ≡ length (members_from (λ i. f (suc i)) s n)
unfolding members_from
members_back f s zero = refl
members_back f s (suc n) =
    pick_map length (f (suc s)) _ _ ∙ ap (λ (k : ℕ). pick (f (suc s)) (suc k) k) (members_back f (suc s) n) ∙ sym (pick_map length (f (suc s)) _ _)

-- party i + 1 of a mask is party i of the mask without its lowest bit
has_half : (m i : ℕ) → 1 ≤ i → has m (suc i) ≡ has (m / 2) i
unfolding bit
has_half m zero p = absurd (omega arith)
has_half m (suc i) p = has_bit m (suc i) ∙ sym (has_bit (m / 2) i)

-- a lowest bit, counted
bit_counted : (d k : ℕ) → d < 2 → pick (eqb d 1) (suc k) k ≡ d + k
bit_counted zero k l = omega arith
bit_counted (suc zero) k l = omega arith
bit_counted (suc (suc d)) k l = absurd (omega arith)

-- w lanes of one bit sum to the number of members among the first w parties
pub count_lanes : (w m : ℕ) → count w (has m) ≡ lane_sum 1 w m
unfolding members_from lane_sum bit
count_lanes zero m = refl
count_lanes (suc w) m =
    pick_map length (has m 1) _ _
    ∙ ap₂ (λ (b : Bool) (k : ℕ). pick b (suc k) k) (has_bit m 0) (members_back (has m) 1 w ∙ same_members (has (m / 2)) (λ i. has m (suc i)) 1 w (λ i a b. has_half m i a) ∙ count_lanes w (m / 2))
    ∙ bit_counted (m % 2) (lane_sum 1 w (m / 2)) (mod-lt m (omega arith))
