-- Laws of tags and of numbers of bytes. Assumes nothing.
use Rattle.std.specs.Prelude.{◌≡◌, refl, ℕ, ◌*◌, ◌≤◌, ◌<◌, leb}
use Rattle.std.proofs.Common.{arith, mul-le-mul, leb-true, leb-false}
use Rattle.lists.specs.TestLaws.{pick_case}
use Rattle.parameters.specs.Definitions.{most_parties}
use Rattle.records.specs.Tags.{Tag, SU, SX, DE, GO, VE, CH, CS, RE, unknown, code, decoded, most_narrow, mask_width}

-- ---- tags

-- the tag that its code stands for
pub decoded_code : (g : Tag) → decoded (code g) ≡ g
unfolding decoded
decoded_code SU = refl
decoded_code SX = refl
decoded_code DE = refl
decoded_code GO = refl
decoded_code VE = refl
decoded_code CH = refl
decoded_code CS = refl
decoded_code RE = refl
decoded_code unknown = refl

-- ---- the mask of a complaint row

-- it has four bytes or eight
pub width_cases : (P : ℕ → Type 0) (n : ℕ) → (n ≤ most_narrow → P 4) → (most_narrow < n → P 8) → P (mask_width n)
unfolding mask_width
width_cases P n narrow wide = pick_case P (leb n most_narrow) 4 8 (λ e. narrow (leb-true _ _ e)) (λ e. wide (leb-false _ _ e))

pub width_least : (n : ℕ) → 4 ≤ mask_width n
width_least n = width_cases (λ w. 4 ≤ w) n (λ l. omega arith) (λ l. omega arith)

pub width_max : (n : ℕ) → mask_width n ≤ 8
width_max n = width_cases (λ w. w ≤ 8) n (λ l. omega arith) (λ l. omega arith)

-- and so a bit for each party
pub width_enough : {n : ℕ} → n ≤ most_parties → n ≤ 8 * mask_width n
width_enough {n} m = width_cases (λ w. n ≤ 8 * w) n (λ l. omega arith) (λ l. omega arith)

-- ---- numbers of bytes

-- the product of two bytes has 16 bits
pub byte_product : (x y : ℕ) → x < 256 → y < 256 → x * y ≤ 65025
byte_product x y p q = let l : x ≤ 255 = omega arith in let m : y ≤ 255 = omega arith in mul-le-mul l m
