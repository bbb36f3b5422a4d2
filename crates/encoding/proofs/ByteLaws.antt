-- Laws of numbers as bytes: how long they are, and that what is read back is what was written.
-- Assumes nothing.
use Rattle.std.specs.Prelude.{◌≡◌, refl, true, false, List, [], ◌++◌, ℕ, zero, suc, ◌+◌, ◌*◌, ◌-◌, ◌/◌, ◌%◌, ◌^◌, ◌≤◌, ◌<◌, length}
use Rattle.std.proofs.Common.{sym, ap, ◌∙◌, append-nil, append_assoc, arith, add-zero, zero-add, add_assoc, div-one, ne_eqb, shr-shr, length-append, get_or-append-add}
use Rattle.std.proofs.Math.Nat.{div-eq_of_lt}
use Rattle.std.proofs.Math.Decide.{ℕ_discrete}
use Rattle.field.specs.declared.Scalar.{Scalar}
use Rattle.field.specs.Definitions.{scalar, element, generator, is_scalar, is_element, is_identity, raise}
use Rattle.field.proofs.ElementLaws.{generator_element, generator_identity, raise_element, raise_below, below_word}
use Rattle.field.proofs.Readings.{identity_is}
use Rattle.records.specs.Bytes.{byte_at, wide_at, number_at, word}
use Rattle.encoding.specs.Bytes.{bytes_of, four, fours, power_of_four}

pub length_bytes : (w x : ℕ) → length (bytes_of w x) ≡ w
length_bytes zero x = refl
length_bytes (suc w) x = ap suc (length_bytes w _)

pub length_fours : (m : ℕ) (f : ℕ → ℕ) → length (fours m f) ≡ 4 * m
unfolding fours
length_fours zero f = refl
length_fours (suc m) f = length-append (fours m f) (four (f m)) ∙ rw (length_fours m f) (omega arith)

-- ---- reading back

-- past a beginning
wide_after : (w : ℕ) (head rest : List ℕ) (i : ℕ) → wide_at w (head ++ rest) (length head + i) ≡ wide_at w rest i
unfolding wide_at byte_at
wide_after zero head rest i = refl
wide_after (suc w) head rest i = rw (wide_after w head rest i, add_assoc (length head) i w, get_or-append-add head rest (i + w) 0)

number_after : (head rest : List ℕ) (i : ℕ) → number_at (head ++ rest) (length head + i) ≡ number_at rest i
unfolding number_at
number_after head rest i = wide_after 4 head rest i

-- byte i of w
byte_of : (w x : ℕ) (rest : List ℕ) (i : ℕ) → i < w → byte_at (bytes_of w x ++ rest) i ≡ x / 2 ^ (8 * (w - 1 - i)) % 256
unfolding byte_at
byte_of zero x rest i l = absurd (omega arith)
byte_of (suc w) x rest zero l = let e : suc w - 1 - 0 ≡ w = omega arith in rw e
byte_of (suc w) x rest (suc i) l = let e : suc w - 1 - suc i ≡ w - 1 - i = omega arith in rw e (byte_of w x rest i (omega arith))

-- the first k of w bytes, as a number
wide_first : (w x : ℕ) (rest : List ℕ) → x < 2 ^ (8 * w) → (k : ℕ) → k ≤ w → wide_at k (bytes_of w x ++ rest) 0 ≡ x / 2 ^ (8 * (w - k))
unfolding wide_at
wide_first w x rest l zero m = let all : w - 0 ≡ w = omega arith in rw all (sym (div-eq_of_lt l))
wide_first w x rest l (suc k) m =
    let y = x / 2 ^ (8 * (w - 1 - k)) in
    let at : 8 * (w - 1 - k) + 8 ≡ 8 * (w - k) = omega arith in
    let high : x / 2 ^ (8 * (w - k)) ≡ y / 256 = sym (shr-shr x (8 * (w - 1 - k)) 8 ∙ ap (λ (i : ℕ). x / 2 ^ i) at) in
    let place : w - suc k ≡ w - 1 - k = omega arith in
    rw (wide_first w x rest l k (omega arith), high, zero-add k, byte_of w x rest k m, place) (omega arith)

-- what is read of w bytes is what was written
pub wide_at_is : (w : ℕ) (head : List ℕ) (x : ℕ) (rest : List ℕ) → x < 2 ^ (8 * w) → wide_at w (head ++ (bytes_of w x ++ rest)) (length head) ≡ x
wide_at_is w head x rest l =
    let all : 8 * (w - w) ≡ 0 = omega arith in
    ap (wide_at w (head ++ (bytes_of w x ++ rest))) (sym (add-zero (length head)))
    ∙ wide_after w head (bytes_of w x ++ rest) 0
    ∙ wide_first w x rest l w (omega arith)
    ∙ ap (λ (i : ℕ). x / 2 ^ i) all
    ∙ div-one x

number_four : (x : ℕ) (rest : List ℕ) → x < 2 ^ 32 → number_at (four x ++ rest) 0 ≡ x
unfolding number_at
number_four x rest l = wide_at_is 4 [] x rest l

number_fours : (m : ℕ) (f : ℕ → ℕ) (rest : List ℕ) (i : ℕ) → i < m → f i < 2 ^ 32 → number_at (fours m f ++ rest) (4 * i) ≡ f i
unfolding fours
number_fours zero f rest i l b = absurd (omega arith)
number_fours (suc m) f rest i l b =
    ap (λ (s : List ℕ). number_at s (4 * i)) (append_assoc (fours m f) (four (f m)) rest) ∙ go (ℕ_discrete i m) (λ h. number_fours m f (four (f m) ++ rest) i h b)
  where
    go : Dec (i ≡ m) → (i < m → number_at (fours m f ++ (four (f m) ++ rest)) (4 * i) ≡ f i) → number_at (fours m f ++ (four (f m) ++ rest)) (4 * i) ≡ f i
    go (yes e) ih =
        let at : 4 * i ≡ length (fours m f) + 0 = omega (arith, length_fours m f) in
        ap (number_at (fours m f ++ (four (f m) ++ rest))) at
        ∙ number_after (fours m f) (four (f m) ++ rest) 0
        ∙ number_four (f m) rest (rw e at b)
        ∙ ap f (sym e)
    go (no ne) ih = ih (omega arith)

-- of numbers of four bytes after a beginning, number i
pub word_fours : (head : List ℕ) (m : ℕ) (f : ℕ → ℕ) (rest : List ℕ) (i : ℕ) → i < m → f i < 2 ^ 32 → word (head ++ (fours m f ++ rest)) (length head) i ≡ f i
unfolding word
word_fours head m f rest i l b = number_after head (fours m f ++ rest) (4 * i) ∙ number_fours m f rest i l b

-- the same at the end of a record
pub word_last : (head : List ℕ) (m : ℕ) (f : ℕ → ℕ) (i : ℕ) → i < m → f i < 2 ^ 32 → word (head ++ fours m f) (length head) i ≡ f i
word_last head m f i l b = ap (λ (s : List ℕ). word (head ++ s) (length head) i) (sym (append-nil (fours m f))) ∙ word_fours head m f [] i l b

-- the number after a beginning
pub number_at_is : (head : List ℕ) (x : ℕ) (rest : List ℕ) → x < 2 ^ 32 → number_at (head ++ (four x ++ rest)) (length head) ≡ x
unfolding number_at
number_at_is head x rest l = wide_at_is 4 head x rest l

-- ---- the powers written

pub power_lt : (x : ℕ) → power_of_four x < 2 ^ 32
power_lt x = below_word (raise generator (scalar x)) (raise_below generator (scalar x))

pub power_element : (x : ℕ) → is_element (power_of_four x) ≡ true
power_element x = raise_element generator (scalar x) generator_element

-- 4 to another scalar than 0 is not the identity
pub power_other : (x : ℕ) → is_scalar x ≡ true → 0 < x → is_identity (power_of_four x) ≡ false
power_other x h p =
    identity_is _
    ∙ ne_eqb _ 1
    (λ e.
    let zero : x ≡ 0 = ap (λ (z : Scalar). z.0) (generator_identity (scalar x) h (ap element e)) in
    omega arith)
