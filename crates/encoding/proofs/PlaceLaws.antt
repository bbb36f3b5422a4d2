-- Laws of runs of stores at places of a buffer: a whole record, and numbers one by one. Assumes nothing.
use Rattle.std.specs.Prelude.{◌≡◌, refl, List, ◌++◌, ℕ, suc, ◌+◌, ◌*◌, ◌-◌, ◌/◌, ◌%◌, ◌^◌, ◌<◌, length, set}
use Rattle.std.proofs.Common.{sym, ap, ◌∙◌, append-nil, zero-add, add-zero, add-one, arith, drop_of_length-le}
use Rattle.std.proofs.lemmas.List.Edits.{sets, sets-eq}
use Rattle.std.proofs.Math.Seq.{length-sets}
use Rattle.lists.specs.StoreLaws.{sets_append}
use Rattle.encoding.specs.Bytes.{bytes_of, four, fours}
use Rattle.encoding.proofs.ByteLaws.{length_fours}

-- a beginning and the rest fill a buffer of their length
pub sets_whole : (out head rest : List ℕ) → length (head ++ rest) ≡ length out → sets (sets out 0 head) (length head) rest ≡ head ++ rest
sets_whole out head rest e =
    ap (λ (k : ℕ). sets (sets out 0 head) k rest) (sym (zero-add (length head)))
    ∙ sym (sets_append head rest out 0)
    ∙ sets-eq (head ++ rest) out 0 (omega arith)
    ∙ ap (λ (r : List ℕ). (head ++ rest) ++ r) (drop_of_length-le out {i = 0 + length (head ++ rest)} (omega arith))
    ∙ append-nil (head ++ rest)

-- and so do a beginning and two parts
pub sets_parts : (out head x y : List ℕ) → length (head ++ (x ++ y)) ≡ length out
    → sets (sets (sets out 0 head) (length head) x) (length head + length x) y ≡ head ++ (x ++ y)
sets_parts out head x y e = sym (sets_append x y (sets out 0 head) (length head)) ∙ sets_whole out head (x ++ y) e

-- ---- bytes put one by one

-- none of w put yet
pub bytes_first : (w x : ℕ) (out : List ℕ) (at : ℕ) → sets out (at + 0) (bytes_of (w - 0) x) ≡ sets out at (bytes_of w x)
bytes_first w x out at =
    let all : w - 0 ≡ w = omega arith in
    rw (all, add-zero at)

-- byte i of w put, and the bytes behind it still to be put
pub bytes_next : (w x : ℕ) (out : List ℕ) (at i : ℕ) → i < w
    → sets out (at + i) (bytes_of (w - i) x) ≡ sets (set out (at + i) (x / 2 ^ (8 * (w - 1 - i)) % 256)) (at + (i + 1)) (bytes_of (w - (i + 1)) x)
bytes_next w x out at i l =
    let here : w - i ≡ suc (w - 1 - i) = omega arith in
    let rest : w - (i + 1) ≡ w - 1 - i = omega arith in
    let next : at + (i + 1) ≡ suc (at + i) = omega arith in
    rw (here, rest, next)

-- all of them put
pub bytes_last : (w x : ℕ) (out : List ℕ) (at i : ℕ) → i ≡ w → out ≡ sets out (at + i) (bytes_of (w - i) x)
bytes_last w x out at i e =
    let none : w - i ≡ 0 = omega arith in
    rw none

-- ---- numbers put one by one

-- the buffer once f 0, .., f (i - 1) are put from a place; `put_first` is that of a slice
abbrev pub Put : List ℕ → ℕ → (ℕ → ℕ) → ℕ → List ℕ → Type 0
Put out₀ at f i out = (length out ≡ length out₀) × (out ≡ sets out₀ at (fours i f))

pub put_none : (out : List ℕ) (at : ℕ) (f : ℕ → ℕ) → Put out at f 0 out
unfolding fours
put_none out at f = (refl, refl)

-- one number more
pub put_next : (out₀ : List ℕ) (at : ℕ) (f : ℕ → ℕ) (i : ℕ) {out next : List ℕ} {x : ℕ}
    → Put out₀ at f i out
    → x ≡ f i
    → next ≡ sets out (at + 4 * i) (four x)
    → Put out₀ at f (i + 1) next
unfolding fours
put_next out₀ at f i {out} {next} {x} h v e =
    let long : length next ≡ length out₀ = ap length e ∙ length-sets out (at + 4 * i) (four x) ∙ h.0 in
    (long, e ∙ rw (v, h.1, add-one i, ← length_fours i f) (sym (sets_append (fours i f) (four (f i)) out₀ at)))
