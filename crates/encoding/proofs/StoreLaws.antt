-- Laws of stores into a slice: the bytes of a number, and numbers one by one.
-- Assumes nothing.
use Rattle.std.specs.Prelude.{◌≡◌, refl, List, ◌∷◌, ◌++◌, ℕ, zero, suc, ◌≤◌, take, drop, ◌+◌, ◌*◌, ◌-◌, ◌/◌, ◌%◌, ◌^◌, length}
use Rattle.std.proofs.Common.{sym, ap, ap₂, ◌∙◌, div-one, suc-add, append-nil, append_assoc, zero-add, add-one, arith, drop_of_length-le}
use Rattle.std.proofs.lemmas.List.{drop-drop}
use Rattle.std.proofs.Math.Seq.{take-length, take-append_seam, drop-append_seam}
use borrow.Rule.Slice.PartMut.{put_mid}
use Rattle.std.specs.Int.{byte_at, bytes_high_first}
use Rattle.field.proofs.PowerLaws.{pow_mul}
use Rattle.encoding.specs.Bytes.{bytes_of, four, fours}
use Rattle.encoding.proofs.ByteLaws.{length_bytes, length_fours}

-- ---- the bytes of a number

-- the lowest k of its bytes, as std has them
high_first : (k x : ℕ) → bytes_high_first k x ≡ bytes_of k x
high_first zero x = refl
high_first (suc k) x = ap₂ ◌∷◌ (byte k) (high_first k x)
  where
    byte : (i : ℕ) → byte_at i x ≡ x / 2 ^ (8 * i) % 256
    byte zero = ap (λ (y : ℕ). y % 256) (sym (div-one x))
    byte (suc i) = ap (λ (y : ℕ). x / y % 256) (sym (pow_mul 2 8 (suc i)))

-- and without the first j of j + k
lowest : (j k x : ℕ) → drop j (bytes_high_first (j + k) x) ≡ bytes_high_first k x
lowest zero k x = rw (zero-add k)
lowest (suc j) k x = rw (suc-add j k) (lowest j k x)

-- the last w of eight, as a slice from there has them
pub last_bytes : (w x : ℕ) {eight : List ℕ} → eight ≡ bytes_high_first 8 x → w ≤ 8 → take (8 - (8 - w)) (drop (8 - w) eight) ≡ bytes_of w x
last_bytes w x {eight} b m =
    let all : 8 ≡ (8 - w) + w = omega arith in
    let long : 8 - (8 - w) ≡ length (bytes_of w x) = omega (arith, length_bytes w x) in
    let last : drop (8 - w) eight ≡ bytes_of w x =
    ap (drop (8 - w)) b ∙ ap (λ (j : ℕ). drop (8 - w) (bytes_high_first j x)) all ∙ lowest (8 - w) w x ∙ high_first w x in
    rw (last, long, take-length)

-- ---- numbers put one by one

-- the slice once f 0, .., f (i - 1) are put: the rest is as it was
unfoldable pub put_first : List ℕ → (ℕ → ℕ) → ℕ → List ℕ
put_first out f i = fours i f ++ drop (4 * i) out

pub put_none : (out : List ℕ) (f : ℕ → ℕ) → out ≡ put_first out f 0
unfolding put_first fours
put_none out f = refl

-- one number more
pub put_next : (out : List ℕ) (f : ℕ → ℕ) (i : ℕ) {before part : List ℕ} {k x : ℕ}
    → before ≡ put_first out f i
    → x ≡ f i
    → part ≡ four x
    → k ≡ 4
    → put_mid (4 * i) k before part ≡ put_first out f (i + 1)
unfolding put_first fours
put_next out f i {before} {part} {k} {x} b v p w =
    let n : 4 * i ≡ length (fours i f) = sym (length_fours i f) in
    let front : take (4 * i) before ≡ fours i f = ap (take (4 * i)) b ∙ ap (λ (j : ℕ). take j (fours i f ++ drop (4 * i) out)) n ∙ take-append_seam (fours i f) _ in
    let rest : drop (4 * i) before ≡ drop (4 * i) out = ap (drop (4 * i)) b ∙ ap (λ (j : ℕ). drop j (fours i f ++ drop (4 * i) out)) n ∙ drop-append_seam (fours i f) _ in
    let behind : drop k (drop (4 * i) before) ≡ drop (4 * suc i) out = ap₂ drop w rest ∙ drop-drop 4 (4 * i) out ∙ ap (λ (j : ℕ). drop j out) (omega arith) in
    ap₂ ◌++◌ front (ap₂ ◌++◌ (p ∙ ap four v) behind)
    ∙ sym (append_assoc (fours i f) (four (f i)) _)
    ∙ ap (λ (j : ℕ). fours j f ++ drop (4 * j) out) (sym (add-one i))

-- all of them
pub put_all : (out : List ℕ) (f : ℕ → ℕ) (i m : ℕ) {after : List ℕ} → after ≡ put_first out f i → length out ≡ 4 * m → i ≡ m → after ≡ fours m f
unfolding put_first
put_all out f i m e l n = e ∙ rw (n, drop_of_length-le out {i = 4 * m} (omega arith), append-nil (fours m f))
