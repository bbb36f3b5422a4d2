-- How long a page is at most, from the bytes of its log. Assumes nothing.
use Rattle.std.specs.Prelude.{◌≡◌, refl, Bool, true, false, ◌⊎◌, List, [], ◌∷◌, ◌++◌, ℕ, zero, suc, ◌+◌, ◌*◌, ◌≤◌, ◌<◌, length, drop, eqb, leb}
use Rattle.std.proofs.Common.{ap, ◌∙◌, inl, inr, ⊎_elim, arith, length-append, length-drop}
use Rattle.std.proofs.Math.Seq.{drop-length}
use Rattle.lists.specs.Tests.{pick}
use Rattle.lists.specs.TestLaws.{pick_case}
use Rattle.records.specs.Bytes.{byte_at}
use Rattle.records.specs.Tags.{Tag, SU, SX, DE, GO, VE, CH, CS, RE, unknown, tag_of, setup_length, dealing_length, complaint_length, challenges_length, shifted_length, response_length, go_length}
use Rattle.text.specs.Lines.{fields, line}
use Rattle.text.proofs.LineLaws.{field_few, line_max}
use Rattle.run.specs.declared.Run.{Run}
use Rattle.run.specs.Steps.{Reply}
use Rattle.run.specs.Runs.{fresh}
use Rattle.run.specs.Steps.{step_of}
use Rattle.run.specs.NumberLaws.{number_max}
use Rattle.reader.specs.Cutting.{own_length, by_batch, length_at, length_of, whole}
use Rattle.reader.specs.Report.{refuse_word, longest, most_refusal, refusal_line}
use Rattle.reader.specs.Stretches.{number_lines}
use Rattle.reader.specs.Turns.{next_length, next_record, next_rest, lines_from}
use Rattle.reader.proofs.TurnLaws.{whole_pos, next_pos, next_max, lines_none, lines_next}

-- ---- a whole record has at least 2 bytes

-- a length that is there
abbrev pub AtLeast : ℕ → Type 0
AtLeast n = 1 ≤ n → 2 ≤ n

unless : (b : Bool) (n : ℕ) → AtLeast n → AtLeast (pick b 0 n)
unless b n l = pick_case AtLeast b 0 n (λ e p. absurd (omega arith)) (λ e. l)

own_least : (s : List ℕ) → AtLeast (own_length s)
unfolding own_length setup_length
own_least s = pick_case AtLeast (leb 6 (length s)) (setup_length (byte_at s 3)) 0 (λ e p. omega arith) (λ e p. absurd (omega arith))

fixed_least : (r : Run) (n : ℕ) → AtLeast n → AtLeast (pick (eqb r.stage 0) 0 (by_batch r.b n))
unfolding by_batch
fixed_least r n l = unless (eqb r.stage 0) (by_batch r.b n) (unless (eqb r.b 0) n l)

pub least_at : (tag : Tag) (r : Run) (s : List ℕ) → AtLeast (length_at tag r s)
unfolding length_at own_length by_batch setup_length dealing_length complaint_length challenges_length shifted_length response_length
least_at SU r s = own_least s
least_at SX r s = own_least s
least_at DE r s = unless (eqb r.stage 0) (dealing_length r.setup.n r.setup.t r.setup.a) (λ p. omega arith)
least_at GO r s = unless (eqb r.stage 0) go_length (λ p. omega arith)
least_at VE r s = unless (eqb r.stage 0) (complaint_length r.setup.n) (λ p. omega arith)
least_at CH r s = fixed_least r (challenges_length r.setup.a r.b) (λ p. omega arith)
least_at CS r s = fixed_least r (shifted_length r.setup.a r.b) (λ p. omega arith)
least_at RE r s = fixed_least r (response_length r.b) (λ p. omega arith)
least_at unknown r s = λ p. absurd (omega arith)

-- what is left begins with a record of at least 2 bytes, or is the last
pub next_least : (r : Run) (s : List ℕ) → (2 ≤ next_length r s) ⊎ (next_rest r s ≡ [])
unfolding next_length length_of
next_least r s = go (whole r s) refl
  where
    go : (b : Bool) → whole r s ≡ b → (2 ≤ pick b (length_of r s) (length s)) ⊎ (drop (pick b (length_of r s) (length s)) s ≡ [])
    go true e = inl (least_at (tag_of s) r s (whole_pos r s e))
    go false e = inr (drop-length s)

-- ---- the refusal lines

-- more positions than a log has
abbrev many_positions : ℕ
many_positions = 100000

-- the line of one has at most 16 bytes: the position five digits, and the number two
line_most : (position number : ℕ) → position < many_positions → number ≤ 17 → length (refusal_line position number) ≤ 16
unfolding refusal_line line fields
line_most position number p l =
    pick_case (λ (l : List ℕ). length l ≤ 16) (eqb number 0) [] (line refuse_word (position ∷ number ∷ [])) (λ e. omega arith)
    (λ e. simp length-append (omega (arith, field_few 4 position (omega arith), field_few 1 number (omega arith))))

-- whatever its numbers, it has room
pub line_room : (position number : ℕ) → length (refusal_line position number) ≤ most_refusal
unfolding refusal_line
line_room position number =
    pick_case (λ (l : List ℕ). length l ≤ most_refusal) (eqb number 0) [] (line refuse_word (position ∷ number ∷ [])) (λ e. omega arith)
    (λ e. omega (arith, line_max refuse_word (position ∷ number ∷ [])))

pub numbers_room : (position : ℕ) (l : List ℕ) → length (number_lines position l) ≤ most_refusal * length l
unfolding number_lines
numbers_room position [] = omega arith
numbers_room position (k ∷ l) = simp length-append (omega (arith, line_room position k, numbers_room (position + 1) l))

pub empty_or : (s : List ℕ) → (s ≡ []) ⊎ (0 < length s)
empty_or [] = inl refl
empty_or (b ∷ s) = inr (omega arith)

no_lines : (position : ℕ) (r : Run) (s : List ℕ) → s ≡ [] → length (lines_from position r s) ≡ 0
no_lines position r s e = ap length (ap (lines_from position r) e ∙ lines_none position r)

-- one record: 8 bytes for each of its bytes, or the line of the last, which may be cut
lines_record : (position : ℕ) (r : Run) (s : List ℕ) → 0 < length s → position < many_positions →
    let reply = step_of r (next_record r s) in
    length (lines_from (position + 1) reply.run (next_rest r s)) ≤ 8 * length (next_rest r s) + 16 → length (lines_from position r s) ≤ 8 * length s + 16
lines_record position r s p m h = rw (lines_next position r s p) (go (next_least r s))
  where
    reply : Reply
    reply = step_of r (next_record r s)

    line_first : length (refusal_line position reply.number) ≤ 16
    line_first = line_most position reply.number m (number_max r (next_record r s))

    go : (2 ≤ next_length r s) ⊎ (next_rest r s ≡ []) → length (refusal_line position reply.number ++ lines_from (position + 1) reply.run (next_rest r s)) ≤ 8 * length s + 16
    go (inl e) = simp length-append (omega (arith, line_first, h, length-drop (next_length r s) s, next_max r s))
    go (inr e) = simp length-append (omega (arith, line_first, no_lines (position + 1) reply.run (next_rest r s) e))

lines_bound : (f position : ℕ) (r : Run) (s : List ℕ) → length s ≤ f → position + length s < many_positions → length (lines_from position r s) ≤ 8 * length s + 16
lines_bound zero position r s l m = ⊎_elim (λ e. omega (arith, no_lines position r s e)) (λ p. absurd (omega arith)) (empty_or s)
lines_bound (suc f) position r s l m =
    let left = length-drop (next_length r s) s in
    ⊎_elim (λ e. omega (arith, no_lines position r s e))
    (λ p. lines_record position r s p (omega arith) (lines_bound f (position + 1) _ (next_rest r s) (omega (arith, left, next_pos r s p)) (omega (arith, left, next_pos r s p))))
    (empty_or s)

-- of a log that is not too long
pub lines_max : (s : List ℕ) → length s ≤ longest → length (lines_from 1 fresh s) ≤ 8 * length s + 16
lines_max s l = lines_bound (length s) 1 fresh s (omega arith) (omega arith)
