-- The signature lines of one u, which a page has one after the other; and R(u,k), shifted, as the code finds it. Assumes nothing.
use Rattle.std.specs.Prelude.{◌≡◌, List, ◌++◌, ℕ, zero, suc, ◌+◌, ◌*◌, ◌-◌, ◌/◌, ◌%◌, ◌≤◌, ◌<◌, length, take, drop, get_or}
use Rattle.std.proofs.Common.{sym, ap, ap₂, ◌∙◌, append-nil, append_assoc, add-zero, add-suc, mul_comm, add-one, arith, length-append}
use Rattle.std.proofs.lemmas.List.{get_or-take, get_or-drop}
use Rattle.std.proofs.Math.Arith.{digits_lt, digits_div, digits_mod}
use Rattle.sets.specs.Masks.{has}
use Rattle.field.specs.declared.Scalar.{Scalar}
use Rattle.field.specs.declared.Element.{Element}
use Rattle.field.specs.Definitions.{scalar, generator, product, raise}
use Rattle.interpolation.specs.Definitions.{slot, committed_point}
use Rattle.rows.specs.Definitions.{listed, weights_of, product_of}
use Rattle.parameters.specs.Definitions.{cells, quorum}
use Rattle.parameters.specs.ParameterLaws.{Bounds, cells_max}
use Rattle.text.proofs.LineLaws.{line_max}
use Rattle.protocol.specs.Transcript.{nonce, shifted_element, shifted_nonce}
use Rattle.arrays.specs.Arrays.{cell, commitment_in, elements}
use Rattle.combination.specs.Combination.{combined_value}
use Rattle.verification.specs.Definitions.{transcript}
use Rattle.verification.specs.VerificationLaws.{combined_is}
use Rattle.run.specs.declared.Run.{Run}
use Rattle.run.specs.Runs.{transcript_of, kept}
use Rattle.answers.specs.Answers.{unblamed_of}
use Rattle.closing.specs.SignatureLaws.{row_lines}
use Rattle.closing.specs.Closing.{sig_word, most_line, sig_line, signature_line, signature_lines}

-- a line from R and φ
pub line_is : (r : Run) (u k : ℕ) {e : Element} {f : Scalar} → e ≡ shifted_nonce (transcript_of r) u k → f ≡ kept r u k → sig_line u k e f ≡ signature_line r u k
unfolding signature_line
line_is r u k p q = ap₂ (sig_line u k) p q

pub row_next : (r : Run) (u k : ℕ) → row_lines r u (k + 1) ≡ row_lines r u k ++ signature_line r u (k + 1)
unfolding row_lines
row_next r u k = ap (row_lines r u) (add-one k)

-- one line more, u outer
signatures_next : (r : Run) (u k : ℕ) → k < r.setup.a → signature_lines r (u * r.setup.a + k) ++ signature_line r (u + 1) (k + 1) ≡ signature_lines r (suc (u * r.setup.a + k))
unfolding signature_lines
signatures_next r u k l =
    ap₂ (λ (v c : ℕ). signature_lines r (u * r.setup.a + k) ++ signature_line r (v + 1) (c + 1)) (sym (digits_div u {m = r.setup.a} {r = k} l)) (sym (digits_mod u {m = r.setup.a} {r = k} l))

-- the first u rows, and k lines of the next
rows_and : (r : Run) (u k : ℕ) → k ≤ r.setup.a → signature_lines r (u * r.setup.a) ++ row_lines r (u + 1) k ≡ signature_lines r (u * r.setup.a + k)
unfolding row_lines
rows_and r u zero l = append-nil _ ∙ ap (signature_lines r) (sym (add-zero (u * r.setup.a)))
rows_and r u (suc k) l =
    let a = r.setup.a in
    sym (append_assoc (signature_lines r (u * a)) (row_lines r (u + 1) k) (signature_line r (u + 1) (k + 1)))
    ∙ ap (λ (t : List ℕ). t ++ signature_line r (u + 1) (k + 1)) (rows_and r u k (omega arith))
    ∙ signatures_next r u k l
    ∙ ap (signature_lines r) (sym (add-suc (u * a) k))

-- one row more
pub rows_next : (r : Run) (u : ℕ) → signature_lines r (u * r.setup.a) ++ row_lines r (u + 1) r.setup.a ≡ signature_lines r ((u + 1) * r.setup.a)
rows_next r u = rows_and r u r.setup.a (omega arith) ∙ ap (signature_lines r) (omega arith)

-- ---- lengths

signature_max : (r : Run) (u k : ℕ) → length (signature_line r u k) ≤ most_line
unfolding signature_line
signature_max r u k = line_max sig_word _

pub signatures_max : (r : Run) (m : ℕ) → length (signature_lines r m) ≤ most_line * m
unfolding signature_lines
signatures_max r zero = omega arith
signatures_max r (suc m) =
    let a = r.setup.a in
    omega (arith, length-append (signature_lines r m) (signature_line r (m / a + 1) (m % a + 1)), signatures_max r m, signature_max r (m / a + 1) (m % a + 1))

pub row_max : (r : Run) (u k : ℕ) → length (row_lines r u k) ≤ most_line * k
unfolding row_lines
row_max r u zero = omega arith
row_max r u (suc k) = omega (arith, length-append (row_lines r u k) (signature_line r u (k + 1)), row_max r u k, signature_max r u (k + 1))

-- ---- R and φ

-- R(u,k) before the shift from the committed values of the dealers that nobody blames, combined for u
pub nonce_is : (r : Run) (u k : ℕ) → Bounds r.setup.n r.setup.t r.setup.a
    → product_of (weights_of (listed (quorum r.setup.t r.setup.a) (committed_point r.setup.a)) (slot k))
    (elements (quorum r.setup.t r.setup.a) (combined_value r.setup.n (has (unblamed_of r)) (commitment_in r.dealings.commitments) u))
    ≡ nonce (transcript_of r) u k
unfolding nonce transcript_of unblamed_of
nonce_is r u k b = combined_is r.setup r.dealings r.complaints r.challenges b (slot k) u

-- and shifted
pub shifted_is : (r : Run) (u k : ℕ) {v d : Element} → v ≡ nonce (transcript_of r) u k → d ≡ raise generator r.challenges.shift → product v d ≡ shifted_nonce (transcript_of r) u k
unfolding shifted_nonce shifted_element transcript_of transcript
shifted_is r u k p q = ap₂ product p q

-- φ(u,k) stands u outer, below the array's end
pub kept_at : (r : Run) (u k : ℕ) → kept r u (k + 1) ≡ get_or r.signatures ((u - 1) * r.setup.a + k) (scalar 0)
unfolding kept cell
kept_at r u k = ap (λ (j : ℕ). get_or r.signatures ((u - 1) * r.setup.a + j) (scalar 0)) (omega arith)

-- and among those of its u at k
pub kept_part : (r : Run) (u k : ℕ) → k < r.setup.a →
    let first = (u - 1) * r.setup.a in
    get_or (take (first + r.setup.a - first) (drop first r.signatures)) k (scalar 0) ≡ kept r u (k + 1)
kept_part r u k l =
    let first = (u - 1) * r.setup.a in
    get_or-take (first + r.setup.a - first) (drop first r.signatures) k (scalar 0) (omega (arith, l)) ∙ get_or-drop first r.signatures k (scalar 0) ∙ sym (kept_at r u k)

pub kept_below : {n t a b : ℕ} → Bounds n t a → b ≤ n → (u k : ℕ) → 0 < u → u ≤ b → k < a → (u - 1) * a + k < cells
kept_below {n} {t} {a} {b} h few u k p l c =
    let m : (u - 1) * a + k < b * a = digits_lt (omega arith) c in
    omega (arith, cells_max h few, mul_comm b a)
