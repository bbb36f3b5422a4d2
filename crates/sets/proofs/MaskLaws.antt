-- Laws of sets of parties as masks.
-- Assumes nothing.
use Rattle.std.specs.Prelude.{◌≡◌, refl, Bool, true, false, not, ◌&&◌, ◌||◌, ℕ, zero, suc, ◌+◌, ◌-◌, ◌/◌, ◌%◌, ◌^◌, ◌≤◌, ◌<◌, eqb, leb}
use Rattle.std.proofs.Common.{sym, ap, ap₂, ◌∙◌, arith, pow-suc, one-mul, add-zero, add-one, eq-eqb, ne_eqb, le-leb}
use Rattle.std.proofs.Math.Bool.{and-true, and-false, or-false, and-or_distrib_left}
use Rattle.std.proofs.Math.Decide.{ℕ_discrete, dec_le}
use Rattle.std.specs.Int.Bits.{bit_or, or_shifted_r}
use Rattle.std.proofs.Math.Dec.{eqb-zero-suc, eqb-suc-suc}
use Rattle.std.proofs.lemmas.Bool.{lt-leb}
use Rattle.lists.specs.Tests.{pick}
use Rattle.lists.specs.TestLaws.{pick_case, pick_map, no_both}
use Rattle.sets.specs.Masks.{bit, has, mask_bits, insert, minus, mask_of}
use Rattle.sets.proofs.BitLaws.{bit_of_or, bit_minus, bit_zero, bit_pow, bit_is, bit_high}

-- ---- members

-- no party has the number 0
pub has_none : (m : ℕ) → has m 0 ≡ false
unfolding has
has_none m = refl

pub has_bit : (m i : ℕ) → has m (suc i) ≡ bit m i
unfolding has
has_bit m i =
    let e : suc i - 1 ≡ i = omega arith in
    ap₂ (λ (b : Bool) (k : ℕ). b && bit m k) (le-leb 1 (suc i) (omega arith)) e

-- a member as code reads it
pub has_is : (m i : ℕ) → 0 < i → has m i ≡ eqb (m / 2 ^ (i - 1) % 2) 1
unfolding has
has_is m i p = rw (le-leb 1 i p) (bit_is m (i - 1))

pub has_zero : (i : ℕ) → has 0 i ≡ false
has_zero zero = has_none 0
has_zero (suc i) = has_bit 0 i ∙ bit_zero i

pub has_or : (a b i : ℕ) → has (bit_or a b) i ≡ (has a i || has b i)
unfolding has
has_or a b i = ap (λ (x : Bool). leb 1 i && x) (bit_of_or a b (i - 1)) ∙ and-or_distrib_left (leb 1 i) (bit a (i - 1)) (bit b (i - 1))

pub has_minus : (a b i : ℕ) → has (minus a b) i ≡ (has a i && not (has b i))
has_minus a b zero = has_none (minus a b) ∙ sym (ap (λ (x : Bool). x && not (has b 0)) (has_none a))
has_minus a b (suc i) = rw (has_bit (minus a b) i, has_bit a i, has_bit b i) (bit_minus a b i)

-- ---- one party more

pub insert_at : (m i : ℕ) → 0 < i → i ≤ mask_bits → insert m i ≡ bit_or m (2 ^ (i - 1))
unfolding insert
insert_at m i p l = rw (le-leb 1 i p, le-leb i mask_bits l)

pub insert_zero : (m : ℕ) → insert m 0 ≡ m
unfolding insert
insert_zero m = refl

pub insert_above : (m i : ℕ) → mask_bits < i → insert m i ≡ m
unfolding insert
insert_above m i l = rw (lt-leb i mask_bits l, and-false (leb 1 i))

insert_bit : (m j : ℕ) → j < mask_bits → insert m (suc j) ≡ bit_or m (2 ^ j)
insert_bit m j l =
    let e : suc j - 1 ≡ j = omega arith in
    insert_at m (suc j) (omega arith) l ∙ ap (λ (k : ℕ). bit_or m (2 ^ k)) e

pub has_insert : (m j i : ℕ) → 0 < j → j ≤ mask_bits → has (insert m j) i ≡ (has m i || eqb i j)
has_insert m zero i p l = absurd (omega arith)
has_insert m (suc j) zero p l = has_none (insert m (suc j)) ∙ sym (ap₂ ◌||◌ (has_none m) (eqb-zero-suc j))
has_insert m (suc j) (suc i) p l = rw (insert_bit m j l, has_bit (bit_or m (2 ^ j)) i, has_bit m i, eqb-suc-suc i j, bit_of_or m (2 ^ j) i, bit_pow j i)

-- ---- bounds

-- below 2 ^ n no party above n is a member
pub has_above : (m n i : ℕ) → m < 2 ^ n → n < i → has m i ≡ false
has_above m n zero l h = absurd (omega arith)
has_above m n (suc i) l h = has_bit m i ∙ bit_high n i m l (omega arith)

pub has_le : (m n i : ℕ) → m < 2 ^ n → has m i ≡ true → i ≤ n
has_le m n i l e = go (dec_le i n)
  where
    go : Dec (i ≤ n) → i ≤ n
    go (yes h) = h
    go (no h) = absurd (no_both e (has_above m n i l (omega arith)))

-- ---- the set of those that pass a test

pub mask_of_lt : (n : ℕ) (f : ℕ → Bool) → mask_of n f < 2 ^ n
unfolding mask_of
mask_of_lt zero f = omega arith
mask_of_lt (suc n) f =
    let l : mask_of n f < 2 ^ n = mask_of_lt n f in
    pick_case (λ x. mask_of n f + x < 2 ^ suc n) (f (suc n)) (2 ^ n) 0 (λ e. omega (arith, pow-suc 2 n)) (λ e. omega (arith, pow-suc 2 n))

-- a bit above the others is added
add_or : (n m : ℕ) → m < 2 ^ n → (b : Bool) → m + pick b (2 ^ n) 0 ≡ pick b (bit_or m (2 ^ n)) m
add_or n m l b =
    let e : m + 2 ^ n ≡ bit_or m (2 ^ n) = omega (arith, rw one-mul at (or_shifted_r 1 n m l)) in
    pick_map (λ x. m + x) b (2 ^ n) 0 ∙ ap₂ (pick b) e (add-zero m)

bit_pick : (n m : ℕ) (b : Bool) (i : ℕ) → bit (pick b (bit_or m (2 ^ n)) m) i ≡ (bit m i || (b && eqb i n))
bit_pick n m true i = bit_of_or m (2 ^ n) i ∙ ap (λ (x : Bool). bit m i || x) (bit_pow n i)
bit_pick n m false i = sym (or-false (bit m i))

bit_mask_of : (n : ℕ) (f : ℕ → Bool) (i : ℕ) → i < n → bit (mask_of n f) i ≡ f (suc i)
unfolding mask_of
bit_mask_of zero f i l = absurd (omega arith)
bit_mask_of (suc n) f i l =
    ap (λ (x : ℕ). bit x i) (add_or n (mask_of n f) (mask_of_lt n f) (f (suc n))) ∙ bit_pick n (mask_of n f) (f (suc n)) i ∙ go (ℕ_discrete i n) (bit_mask_of n f i)
  where
    go : Dec (i ≡ n) → (i < n → bit (mask_of n f) i ≡ f (suc i)) → (bit (mask_of n f) i || (f (suc n) && eqb i n)) ≡ f (suc i)
    go (yes d) ih = rw (bit_high n i (mask_of n f) (mask_of_lt n f) (omega arith), eq-eqb i n d, and-true (f (suc n)), d)
    go (no d) ih = rw (ih (omega arith), ne_eqb i n d, and-false (f (suc n)), or-false (f (suc i)))

pub has_mask_of : (n : ℕ) (f : ℕ → Bool) (i : ℕ) → 0 < i → i ≤ n → has (mask_of n f) i ≡ f i
has_mask_of n f zero p l = absurd (omega arith)
has_mask_of n f (suc i) p l = has_bit (mask_of n f) i ∙ bit_mask_of n f i l

pub mask_of_cong : (n : ℕ) (f g : ℕ → Bool) → ((i : ℕ) → 0 < i → i ≤ n → f i ≡ g i) → mask_of n f ≡ mask_of n g
unfolding mask_of
mask_of_cong zero f g h = refl
mask_of_cong (suc n) f g h =
    ap₂ (λ (x : ℕ) (b : Bool). x + pick b (2 ^ n) 0) (mask_of_cong n f g (λ i p l. h i p (omega arith))) (h (suc n) (omega arith) (omega arith))

-- one party more, as a loop counts
pub mask_of_next : (n : ℕ) (f : ℕ → Bool) → mask_of (n + 1) f ≡ mask_of n f + pick (f (n + 1)) (2 ^ n) 0
unfolding mask_of
mask_of_next n f = rw add-one

pub mask_of_insert : (n : ℕ) (f : ℕ → Bool) → n < mask_bits → mask_of (n + 1) f ≡ pick (f (n + 1)) (insert (mask_of n f) (n + 1)) (mask_of n f)
mask_of_insert n f l = mask_of_next n f ∙ add_or n (mask_of n f) (mask_of_lt n f) (f (n + 1)) ∙ rw (add-one, insert_bit (mask_of n f) n l)
