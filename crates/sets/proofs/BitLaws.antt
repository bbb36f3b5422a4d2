-- Laws of the bits of a mask.
-- Assumes nothing.
use Rattle.std.specs.Prelude.{◌≡◌, refl, false, not, ◌&&◌, ◌||◌, ℕ, zero, suc, ◌+◌, ◌*◌, ◌-◌, ◌/◌, ◌%◌, ◌^◌, ◌≤◌, ◌<◌, min, max, ◌≢◌, eqb}
use Rattle.std.proofs.Common.{sym, ap, ap₂, ◌∙◌, arith, zero-add, suc-add, pow-suc, one-mul, mul_comm, div-one, shl_exact}
use Rattle.std.proofs.Math.Nat.{div-div-eq-div-mul}
use Rattle.std.specs.Int.Bits.{bit_and, bit_or, block_half, block_odd, and_step, or_step}
use Rattle.std.proofs.lemmas.Nat.{and_le_l}
use Rattle.std.proofs.lemmas.Bool.{eqb-false}
use Rattle.std.proofs.Math.Dec.{eqb-zero-suc, eqb-suc-zero, eqb-suc-suc}
use Rattle.sets.specs.Masks.{bit, mask_bits, minus}

-- what holds of the four pairs of digit_pairs
digit_pairs : (P : ℕ → ℕ → Type 0) → P 0 0 → P 0 1 → P 1 0 → P 1 1 → (x y : ℕ) → x < 2 → y < 2 → P x y
digit_pairs P oo oi io ii zero zero a b = oo
digit_pairs P oo oi io ii zero (suc zero) a b = oi
digit_pairs P oo oi io ii zero (suc (suc y)) a b = absurd (omega arith)
digit_pairs P oo oi io ii (suc zero) zero a b = io
digit_pairs P oo oi io ii (suc zero) (suc zero) a b = ii
digit_pairs P oo oi io ii (suc zero) (suc (suc y)) a b = absurd (omega arith)
digit_pairs P oo oi io ii (suc (suc x)) y a b = absurd (omega arith)

-- ---- the bits of an operation's result

pub bit_of_or : (a b i : ℕ) → bit (bit_or a b) i ≡ (bit a i || bit b i)
unfolding bit
bit_of_or a b zero =
    let e : bit_or a b % 2 ≡ max (a % 2) (b % 2) = omega (arith, or_step a b) in
    ap (λ (x : ℕ). eqb x 1) e ∙ digit_pairs (λ x y. eqb (max x y) 1 ≡ (eqb x 1 || eqb y 1)) refl refl refl refl (a % 2) (b % 2) (omega arith) (omega arith)
bit_of_or a b (suc i) =
    let e : bit_or a b / 2 ≡ bit_or (a / 2) (b / 2) = omega (arith, or_step a b) in
    ap (λ (m : ℕ). bit m i) e ∙ bit_of_or (a / 2) (b / 2) i

pub bit_minus : (a b i : ℕ) → bit (minus a b) i ≡ (bit a i && not (bit b i))
unfolding bit minus
bit_minus a b zero =
    let e : (a - bit_and a b) % 2 ≡ a % 2 - min (a % 2) (b % 2) = omega (arith, and_step a b, and_le_l (a / 2) (b / 2)) in
    ap (λ (x : ℕ). eqb x 1) e ∙ digit_pairs (λ x y. eqb (x - min x y) 1 ≡ (eqb x 1 && not (eqb y 1))) refl refl refl refl (a % 2) (b % 2) (omega arith) (omega arith)
bit_minus a b (suc i) =
    let e : (a - bit_and a b) / 2 ≡ a / 2 - bit_and (a / 2) (b / 2) = omega (arith, and_step a b, and_le_l (a / 2) (b / 2)) in
    ap (λ (m : ℕ). bit m i) e ∙ bit_minus (a / 2) (b / 2) i

pub bit_zero : (i : ℕ) → bit 0 i ≡ false
unfolding bit
bit_zero zero = refl
bit_zero (suc i) = bit_zero i

pub bit_pow : (k i : ℕ) → bit (2 ^ k) i ≡ eqb i k
unfolding bit
bit_pow zero zero = refl
bit_pow zero (suc i) = bit_zero i ∙ sym (eqb-suc-zero i)
bit_pow (suc k) zero =
    let e : 2 ^ suc k % 2 ≡ 0 = omega (arith, pow-suc 2 k) in
    ap (λ (x : ℕ). eqb x 1) e ∙ sym (eqb-zero-suc k)
bit_pow (suc k) (suc i) =
    let e : 2 ^ suc k / 2 ≡ 2 ^ k = omega (arith, pow-suc 2 k) in
    ap (λ (x : ℕ). bit x i) e ∙ bit_pow k i ∙ sym (eqb-suc-suc i k)

-- a bit as code reads it: shifted down, the lowest
pub bit_is : (m i : ℕ) → bit m i ≡ eqb (m / 2 ^ i % 2) 1
unfolding bit
bit_is m zero = ap (λ (x : ℕ). eqb (x % 2) 1) (sym (div-one m))
bit_is m (suc i) =
    bit_is (m / 2) i
    ∙ ap (λ (x : ℕ). eqb (x % 2) 1) (div-div-eq-div-mul m 2 (2 ^ i) ∙ ap (λ (x : ℕ). m / x) (mul_comm 2 (2 ^ i) ∙ sym (pow-suc 2 i)))

-- one bit as code makes it: shifted up within the word
pub one_shifted : (k : ℕ) → k < mask_bits → 1 * 2 ^ k % 2 ^ mask_bits ≡ 2 ^ k
one_shifted k l = shl_exact {a = 1} 1 k mask_bits (omega arith) (omega arith) ∙ one-mul (2 ^ k)

-- ---- a mask of k bits below another

pub bit_low : (k high low i : ℕ) → i < k → bit (high * 2 ^ k + low) i ≡ bit low i
unfolding bit
bit_low zero high low i l = absurd (omega arith)
bit_low (suc k) high low zero l = ap (λ (x : ℕ). eqb x 1) (block_odd high k low)
bit_low (suc k) high low (suc i) l = ap (λ (x : ℕ). bit x i) (block_half high k low) ∙ bit_low k high (low / 2) i (omega arith)

pub bit_over : (k high low i : ℕ) → low < 2 ^ k → bit (high * 2 ^ k + low) (k + i) ≡ bit high i
unfolding bit
bit_over zero high low i l =
    let whole : high * 2 ^ 0 + low ≡ high = omega arith in
    ap₂ bit whole (zero-add i)
bit_over (suc k) high low i l =
    ap (bit (high * 2 ^ suc k + low)) (suc-add k i)
    ∙ ap (λ (x : ℕ). bit x (k + i)) (block_half high k low)
    ∙ bit_over k high (low / 2) i (omega (arith, pow-suc 2 k))

-- ---- bits and bounds

-- below 2 ^ k no bit from k is set
pub bit_high : (k i m : ℕ) → m < 2 ^ k → k ≤ i → bit m i ≡ false
unfolding bit
bit_high zero zero m l h = let z : m ≡ 0 = omega arith in ap (λ (x : ℕ). eqb (x % 2) 1) z
bit_high zero (suc i) m l h = let z : m / 2 ≡ 0 = omega arith in ap (λ (x : ℕ). bit x i) z ∙ bit_zero i
bit_high (suc k) zero m l h = absurd (omega arith)
bit_high (suc k) (suc i) m l h = bit_high k i (m / 2) (omega (arith, pow-suc 2 k)) (omega arith)

-- a mask of k + 1 bits whose highest is not set has k
pub bit_none : (k m : ℕ) → m < 2 ^ suc k → bit m k ≡ false → m < 2 ^ k
unfolding bit
bit_none zero m l e = let odd : m % 2 ≢ 1 = eqb-false (m % 2) 1 e in omega arith
bit_none (suc k) m l e = let half : m / 2 < 2 ^ k = bit_none k (m / 2) (omega (arith, pow-suc 2 (suc k))) e in omega (arith, pow-suc 2 k)
