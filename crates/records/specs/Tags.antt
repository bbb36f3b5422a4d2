-- The eight kinds of record and their lengths (document 01, "Records"; its word for a tag is mark. CS is of document 02, request 2.1, the
-- wide mask of request 2.2, SX and GO of request 2.5). b is the signatures of a packed slot.
use Rattle.std.specs.Prelude.{ℕ, ◌+◌, ◌*◌, List, length, eqb, ltb, leb}
use Rattle.lists.specs.Tests.{pick}
use Rattle.parameters.specs.Definitions.{quorum}
use Rattle.records.specs.Bytes.{byte_at, wide_at}

-- SX is a setup whose run waits for more dealings, until GO; VE is a complaint row (verdict, in document 01); CS has a shift before the challenges
-- of a CH
pub data Tag : Type 0 where
  SU : Tag
  SX : Tag
  DE : Tag
  GO : Tag
  VE : Tag
  CH : Tag
  CS : Tag
  RE : Tag
  unknown : Tag

-- the number by which the code knows a tag
abbrev pub code : Tag → ℕ
code SU = 1
code DE = 2
code VE = 3
code CH = 4
code RE = 5
code CS = 6
code SX = 7
code GO = 8
code unknown = 0

-- and back
unfoldable pub decoded : ℕ → Tag
decoded k = pick (eqb k 1) SU (pick (eqb k 2) DE (pick (eqb k 3) VE (pick (eqb k 4) CH (pick (eqb k 5) RE (pick (eqb k 6) CS (pick (eqb k 7) SX (pick (eqb k 8) GO unknown)))))))

-- the letters of the tags, in ASCII
abbrev pub letter_c : ℕ
letter_c = 67

abbrev pub letter_d : ℕ
letter_d = 68

abbrev pub letter_e : ℕ
letter_e = 69

abbrev pub letter_g : ℕ
letter_g = 71

abbrev pub letter_h : ℕ
letter_h = 72

abbrev pub letter_o : ℕ
letter_o = 79

abbrev pub letter_r : ℕ
letter_r = 82

abbrev pub letter_s : ℕ
letter_s = 83

abbrev pub letter_u : ℕ
letter_u = 85

abbrev pub letter_v : ℕ
letter_v = 86

abbrev pub letter_x : ℕ
letter_x = 88

-- two bytes as one number
abbrev pub pair : ℕ → ℕ → ℕ
pair x y = x * 256 + y

-- the tag (mark, in document 01) of a record: its first two bytes
unfoldable pub tag_of : List ℕ → Tag
tag_of s =
    let m = pair (byte_at s 0) (byte_at s 1) in
    pick (ltb (length s) 2) unknown
    (pick (eqb m (pair letter_s letter_u)) SU
    (pick (eqb m (pair letter_d letter_e)) DE
    (pick (eqb m (pair letter_v letter_e)) VE
    (pick (eqb m (pair letter_c letter_h)) CH
    (pick (eqb m (pair letter_r letter_e)) RE
    (pick (eqb m (pair letter_c letter_s)) CS
    (pick (eqb m (pair letter_s letter_x)) SX
    (pick (eqb m (pair letter_g letter_o)) GO unknown))))))))

-- ---- lengths

-- SU and SX alike
unfoldable pub setup_length : ℕ → ℕ
setup_length t = 4 * t + 10

unfoldable pub dealing_length : ℕ → ℕ → ℕ → ℕ
dealing_length n t a = 4 + 4 * quorum t a + 4 * n

-- the most parties whose mask has four bytes
abbrev pub most_narrow : ℕ
most_narrow = 32

-- the bytes of the mask of a complaint row: four for up to 32 parties, eight for more
unfoldable pub mask_width : ℕ → ℕ
mask_width n = pick (leb n most_narrow) 4 8

unfoldable pub complaint_length : ℕ → ℕ
complaint_length n = 4 + mask_width n

unfoldable pub challenges_length : ℕ → ℕ → ℕ
challenges_length a b = 4 + 4 * (a * b)

unfoldable pub shifted_length : ℕ → ℕ → ℕ
shifted_length a b = 8 + 4 * (a * b)

unfoldable pub response_length : ℕ → ℕ
response_length b = 4 + 4 * b

-- the tag alone
abbrev pub go_length : ℕ
go_length = 2

-- where the shares of a dealing begin
unfoldable pub shares_from : ℕ → ℕ → ℕ
shares_from t a = 4 + 4 * quorum t a

-- the mask of a complaint row of a committee of n, high byte first
unfoldable pub mask_at : ℕ → List ℕ → ℕ
mask_at n s = wide_at (mask_width n) s 4
