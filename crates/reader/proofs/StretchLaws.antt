-- Rows that are given in one call are the log's next records, and their lines those of their numbers. Assumes nothing.
use Rattle.std.specs.Prelude.{◌≡◌, refl, Bool, true, false, ◌≢◌, get_or, eqb, ltb}
use Rattle.std.proofs.Math.Path.{sym, ap, ap₂, subst⁻¹}
use Rattle.std.proofs.Common.{◌∙◌, zero-mul, add-zero, add-one, length-take, take_all, take-take, take-suc, drop-drop, length-take-le}
use mathlib.Core.List.{List, [], ◌∷◌, ◌++◌, append_assoc, append-nil}
use Prim.Native.Nat.{ℕ, zero, suc, ◌+◌, ◌*◌, ◌-◌, ◌/◌, ◌≤◌, ◌<◌, min}
use Rattle.std.proofs.Math.Nat.{suc-mul, le-mul_of_pos_right}
use native.Mathlib.Omega.{arith}
use Rattle.std.proofs.Math.Decide.{dec_le}
use Rattle.std.proofs.Math.ListN.{length, take, drop, length-drop}
use borrow.Author.Tests.{eqb-true, eq-eqb, ne_eqb, le-leb, lt-ltb, le-ltb}
use Rattle.lists.specs.Tests.{pick}
use Rattle.lists.specs.TestLaws.{pick_case, no_both}
use Rattle.parameters.specs.Definitions.{quorum}
use Rattle.records.specs.Tags.{Tag, RE, code, tag_of, response_length}
use Rattle.response.specs.Definitions.{response_number}
use Rattle.stages.specs.Definitions.{handler_at}
use Rattle.stages.specs.declared.Handler.TheVariants.{TakeResponse}
use Rattle.run.specs.declared.Run.{Run}
use Rattle.run.specs.Steps.{Reply}
use Rattle.run.specs.Runs.{stage_of}
use Rattle.run.specs.RunLaws.{stage_live}
use Rattle.run.specs.Steps.{with_row, finished, after_response, handled, step_of, after_from}
use Rattle.run.specs.StepLaws.{step_tag, stage_case, answered_case}
use Rattle.bundle.specs.Bundles.{rows_of, numbers_from}
use Rattle.bundle.proofs.RowLaws.{row_code, stage_batch}
use Rattle.bundle.proofs.CutLaws.{cut, cut_none, cut_next, row_is, row_rest, drop_take}
use Rattle.reader.specs.Cutting.{by_batch, length_at, length_of, whole}
use Rattle.reader.specs.Report.{refusal_line, refusal_lines}
use Rattle.reader.specs.Turns.{next_length, next_record, records_from, lines_from, run_from, Turn}
use Rattle.reader.proofs.TurnLaws.{whole_max, next_pos, next_max, tag_alone, records_next}
use Rattle.reader.specs.Stretches.{most_rows, is_row, stretch_of, rows_ahead, number_lines}

-- ---- lines and runs of the first of two lists of records

pub numbers_length : (r : Run) (l : List (List ℕ)) → length (numbers_from r l) ≡ length l
unfolding numbers_from
numbers_length r [] = refl
numbers_length r (s ∷ l) = ap suc (numbers_length (step_of r s).run l)

after_append : (r : Run) (l m : List (List ℕ)) → after_from r (l ++ m) ≡ after_from (after_from r l) m
unfolding after_from
after_append r [] m = refl
after_append r (s ∷ l) m = after_append (step_of r s).run l m

lines_append : (position : ℕ) (r : Run) (l m : List (List ℕ))
    → refusal_lines position r (l ++ m) ≡ number_lines position (numbers_from r l) ++ refusal_lines (position + length l) (after_from r l) m
unfolding refusal_lines number_lines numbers_from after_from
lines_append position r [] m = ap (λ (p : ℕ). refusal_lines p r m) (sym (add-zero position))
lines_append position r (s ∷ l) m =
    let one = step_of r s in
    let place : position + 1 + length l ≡ position + suc (length l) = omega arith in
    ap (λ (t : List ℕ). refusal_line position one.number ++ t)
    (lines_append (position + 1) one.run l m
    ∙ ap (λ (p : ℕ). number_lines (position + 1) (numbers_from one.run l) ++ refusal_lines p (after_from one.run l) m) place)
    ∙ sym (append_assoc (refusal_line position one.number) (number_lines (position + 1) (numbers_from one.run l)) (refusal_lines (position + suc (length l)) (after_from one.run l) m))

-- one number more
numbers_next : (position : ℕ) (l m : List ℕ) → number_lines position (l ++ m) ≡ number_lines position l ++ number_lines (position + length l) m
unfolding number_lines
numbers_next position [] m = ap (λ (p : ℕ). number_lines p m) (sym (add-zero position))
numbers_next position (k ∷ l) m =
    let place : position + 1 + length l ≡ position + suc (length l) = omega arith in
    ap (λ (t : List ℕ). refusal_line position k ++ t) (numbers_next (position + 1) l m ∙ ap (λ (p : ℕ). number_lines (position + 1) l ++ number_lines p m) place)
    ∙ sym (append_assoc (refusal_line position k) (number_lines (position + 1) l) (number_lines (position + suc (length l)) m))

pub lines_take : (position : ℕ) (l : List ℕ) (x : ℕ) → x < length l
    → number_lines position (take (x + 1) l) ≡ number_lines position (take x l) ++ refusal_line (position + x) (get_or l x 0)
unfolding number_lines
lines_take position l x h =
    ap (λ (n : ℕ). number_lines position (take n l)) (add-one x)
    ∙ ap (number_lines position) (take-suc l x 0 h)
    ∙ numbers_next position (take x l) (get_or l x 0 ∷ [])
    ∙ ap (λ (t : List ℕ). number_lines position (take x l) ++ t) (append-nil (refusal_line (position + length (take x l)) (get_or l x 0)))
    ∙ ap (λ (n : ℕ). number_lines position (take x l) ++ refusal_line (position + n) (get_or l x 0)) (length-take-le x l (omega arith))

-- ---- one row

row_tag : (s : List ℕ) → is_row s ≡ true → tag_of s ≡ RE
row_tag s e = row_code (tag_of s) (eqb-true (code (tag_of s)) 5 e)

-- a row has bytes
row_some : (s : List ℕ) → is_row s ≡ true → 0 < length s
unfolding tag_of
row_some [] e = absurd (omega (arith, eqb-true 0 5 e))
row_some (b ∷ s) e = omega arith

-- a run past stage 0 whose b is fixed, so that a row has a length
abbrev Lasting : Run → ℕ → Type 0
Lasting r b = (r.stage ≢ 0) × (r.b ≡ b) × (b ≢ 0)

-- a row leaves it so
row_lasts : (r : Run) (b : ℕ) (s : List ℕ) → tag_of s ≡ RE → Lasting r b → Lasting (step_of r s).run b
unfolding handler_at handled after_response finished with_row
row_lasts r b s e h =
    subst⁻¹ (λ (y : Reply). Lasting y.run b) (step_tag RE r s e)
    (stage_case (λ (y : Reply). Lasting y.run b) RE TakeResponse r s (λ z. taken) (λ z. h))
  where
    rowed : Lasting (after_response r s) b
    rowed =
        pick_case (λ (z : Run). Lasting z b) (eqb (r.responses.count + 1) (quorum r.setup.t r.setup.a)) (finished (with_row r s)) (with_row r s)
        (λ f. (λ z. omega (arith, z), h.1, h.2))
        (λ f. (λ z. omega (arith, z), h.1, h.2))

    taken : Lasting (handled TakeResponse r s).run b
    taken =
        answered_case (λ (y : Reply). Lasting y.run b) r (response_number r.b r.setup r.dealings r.complaints r.challenges r.responses s) (after_response r s)
        (λ f. rowed) (λ f. h)

-- its length, whole or cut
row_length_is : (r : Run) (b : ℕ) (s : List ℕ) → tag_of s ≡ RE → Lasting r b → next_length r s ≡ min (response_length b) (length s)
unfolding next_length length_of length_at by_batch whole response_length
row_length_is r b s e h =
    pick_case (λ (n : ℕ). n ≡ min (response_length b) (length s)) (whole r s) (length_of r s) (length s)
    (λ w. omega (arith, size, whole_max r s w))
    (λ w. omega (arith, cut_short w))
  where
    size : length_of r s ≡ response_length b
    size =
        ap (λ (g : Tag). length_at g r s) e
        ∙ ap (λ (c : Bool). pick c 0 (by_batch r.b (response_length r.b))) (ne_eqb r.stage 0 h.0)
        ∙ ap (λ (k : ℕ). by_batch k (response_length k)) h.1
        ∙ ap (λ (c : Bool). pick c 0 (response_length b)) (ne_eqb b 0 h.2)

    -- more bytes than a row's would make it whole
    complete : response_length b < length s → whole r s ≡ true
    complete l = rw (size, le-leb 1 (response_length b) (omega arith), le-leb (response_length b) (length s) (omega arith)) refl

    cut_short : whole r s ≡ false → length s ≤ response_length b
    cut_short w = go (dec_le (length s) (response_length b))
      where
        go : Dec (length s ≤ response_length b) → length s ≤ response_length b
        go (yes l) = l
        go (no l) = absurd (no_both (complete (omega arith)) w)

-- ---- a stretch of rows

-- row by row, as a loop counts
pub stretch_next : (f size : ℕ) (s : List ℕ) → 0 < f → is_row s ≡ true → stretch_of f size s ≡ 1 + stretch_of (f - 1) size (drop size s)
unfolding stretch_of
stretch_next zero size s p e = absurd (omega arith)
stretch_next (suc f) size s p e =
    let less : f ≡ suc f - 1 = omega arith in
    ap (λ (c : Bool). pick c (suc (stretch_of f size (drop size s))) 0) e ∙ ap (λ (k : ℕ). suc (stretch_of k size (drop size s))) less ∙ one_more
  where
    one_more : suc (stretch_of (suc f - 1) size (drop size s)) ≡ 1 + stretch_of (suc f - 1) size (drop size s)
    one_more = omega arith

pub stretch_none : (f size : ℕ) (s : List ℕ) → is_row s ≡ false → stretch_of f size s ≡ 0
unfolding stretch_of
stretch_none zero size s e = refl
stretch_none (suc f) size s e = ap (λ (c : Bool). pick c (suc (stretch_of f size (drop size s))) 0) e

-- no bytes are no row
pub empty_none : (s : List ℕ) → length s ≡ 0 → is_row s ≡ false
unfolding tag_of
empty_none [] e = refl
empty_none (b ∷ s) e = absurd (omega arith)

length_some : (b : ℕ) → 0 < response_length b
unfolding response_length
length_some b = omega arith

module _ (b : ℕ) where
  abbrev size : ℕ
  size = response_length b

  -- a row alone has its tag
  row_alone : (s : List ℕ) → tag_of (take size s) ≡ tag_of s
  unfolding response_length
  row_alone s = go (dec_le size (length s))
    where
      go : Dec (size ≤ length s) → tag_of (take size s) ≡ tag_of s
      go (yes l) = tag_alone s size (omega arith) l
      go (no l) = ap tag_of (take_all size s (omega arith))

  -- what is cut of a row and those behind it
  cut_row : (s : List ℕ) (k : ℕ) → 0 < length s → cut size (take (suc k * size) s) ≡ take size s ∷ cut size (take (k * size) (drop size s))
  unfolding response_length
  cut_row s k p =
      let more : suc k * size ≡ size + k * size = omega (arith, suc-mul k size) in
      let t = take (size + k * size) s in
      let some : 0 < length t = rw (length-take (size + k * size) s) (omega arith) in
      ap (λ (n : ℕ). cut size (take n s)) more
      ∙ cut_next size t (omega arith) some
      ∙ ap₂ (λ (a c : List ℕ). a ∷ cut size c) (take-take size (size + k * size) s (omega arith)) (drop_take size (k * size) s)

  drop_row : (s : List ℕ) (k : ℕ) → drop (suc k * size) s ≡ drop (k * size) (drop size s)
  drop_row s k =
      let more : suc k * size ≡ size + k * size = omega (arith, suc-mul k size) in
      ap (λ (n : ℕ). drop n s) more ∙ sym (drop-drop (k * size) size s)

  -- its rows are as many as it says, and no more than its bytes
  stretch_rows : (f : ℕ) (s : List ℕ) → length (cut size (take (stretch_of f size s * size) s)) ≡ stretch_of f size s
  unfolding stretch_of
  stretch_rows zero s = ap (λ (n : ℕ). length (cut size (take n s))) (zero-mul size) ∙ ap length (cut_none size)
  stretch_rows (suc f) s =
      pick_case (λ (k : ℕ). length (cut size (take (k * size) s)) ≡ k) (is_row s) (suc (stretch_of f size (drop size s))) 0
      (λ e. ap length (cut_row s (stretch_of f size (drop size s)) (row_some s e)) ∙ ap suc (stretch_rows f (drop size s)))
      (λ e. ap (λ (n : ℕ). length (cut size (take n s))) (zero-mul size) ∙ ap length (cut_none size))

  stretch_bytes : (f : ℕ) (s : List ℕ) → stretch_of f size s ≤ length s
  unfolding stretch_of response_length
  stretch_bytes zero s = omega arith
  stretch_bytes (suc f) s =
      pick_case (λ (k : ℕ). k ≤ length s) (is_row s) (suc (stretch_of f size (drop size s))) 0
      (λ e. omega (arith, row_some s e, stretch_bytes f (drop size s), length-drop size s))
      (λ e. omega arith)

  stretch_max : (f : ℕ) (s : List ℕ) → stretch_of f size s ≤ f
  unfolding stretch_of
  stretch_max zero s = omega arith
  stretch_max (suc f) s =
      pick_case (λ (k : ℕ). k ≤ suc f) (is_row s) (suc (stretch_of f size (drop size s))) 0 (λ e. omega (arith, stretch_max f (drop size s))) (λ e. omega arith)

  -- they are the next records
  none_ahead : (r : Run) (s : List ℕ) → records_from r s ≡ cut size (take (0 * size) s) ++ records_from (after_from r (cut size (take (0 * size) s))) (drop (0 * size) s)
  unfolding after_from
  none_ahead r s =
      sym
      (ap (λ (n : ℕ). cut size (take n s) ++ records_from (after_from r (cut size (take n s))) (drop n s)) (zero-mul size)
      ∙ ap (λ (l : List (List ℕ)). l ++ records_from (after_from r l) s) (cut_none size))

  stretch_ahead : (f : ℕ) (r : Run) (s : List ℕ) → Lasting r b →
      let n = stretch_of f size s * size in
      records_from r s ≡ cut size (take n s) ++ records_from (after_from r (cut size (take n s))) (drop n s)
  unfolding stretch_of after_from
  stretch_ahead zero r s h = none_ahead r s
  stretch_ahead (suc f) r s h =
      pick_case (λ (k : ℕ). records_from r s ≡ cut size (take (k * size) s) ++ records_from (after_from r (cut size (take (k * size) s))) (drop (k * size) s))
      (is_row s) (suc (stretch_of f size (drop size s))) 0
      (λ e.
      let g = row_tag s e in
      let row = take size s in
      let k = stretch_of f size (drop size s) in
      let n = row_length_is r b s g h in
      let next : records_from r s ≡ row ∷ records_from (step_of r row).run (drop size s) =
      records_next r s (row_some s e)
      ∙ ap₂ (λ (a c : List ℕ). a ∷ records_from (step_of r a).run c) (ap (λ (i : ℕ). take i s) n ∙ row_is size s) (ap (λ (i : ℕ). drop i s) n ∙ row_rest size s) in
      next
      ∙ ap (λ (l : List (List ℕ)). row ∷ l) (stretch_ahead f (step_of r row).run (drop size s) (row_lasts r b row (row_alone s ∙ g) h))
      ∙ sym
      (ap₂ (λ (l : List (List ℕ)) (d : List ℕ). l ++ records_from (after_from r l) d) (cut_row s k (row_some s e)) (drop_row s k)))
      (λ e. none_ahead r s)

-- some are ahead at stage 4 alone
pub rows_some : (r : Run) (s : List ℕ) → 0 < rows_ahead r s → (stage_of r ≡ 4) × (rows_ahead r s ≡ stretch_of most_rows (response_length r.b) s)
unfolding rows_ahead
rows_some r s =
    let rows = stretch_of most_rows (response_length r.b) s in
    pick_case (λ (k : ℕ). 0 < k → (stage_of r ≡ 4) × (k ≡ rows)) (eqb (stage_of r) 4) (pick (ltb (r.b / 2) rows) rows 0) 0
    (λ e.
    pick_case (λ (k : ℕ). 0 < k → (stage_of r ≡ 4) × (k ≡ rows)) (ltb (r.b / 2) rows) rows 0 (λ f p. (eqb-true (stage_of r) 4 e, refl)) (λ f p. absurd (omega arith)))
    (λ e p. absurd (omega arith))

-- case by case
pub rows_elsewhere : (r : Run) (s : List ℕ) → (stage_of r ≡ 4 → ⊥) → rows_ahead r s ≡ 0
unfolding rows_ahead
rows_elsewhere r s n = rw (ne_eqb (stage_of r) 4 n)

module _ (r : Run) (s : List ℕ) (e : stage_of r ≡ 4) where
  pub rows_few : stretch_of most_rows (response_length r.b) s ≤ r.b / 2 → rows_ahead r s ≡ 0
  unfolding rows_ahead
  rows_few l = rw (eq-eqb (stage_of r) 4 e, le-ltb (r.b / 2) (stretch_of most_rows (response_length r.b) s) l)

  pub rows_many : r.b / 2 < stretch_of most_rows (response_length r.b) s → rows_ahead r s ≡ stretch_of most_rows (response_length r.b) s
  unfolding rows_ahead
  rows_many l = rw (eq-eqb (stage_of r) 4 e, lt-ltb (r.b / 2) (stretch_of most_rows (response_length r.b) s) l)

-- and no more than are given in one call
pub rows_max : (r : Run) (s : List ℕ) → rows_ahead r s ≤ most_rows
unfolding rows_ahead
rows_max r s =
    let rows = stretch_of most_rows (response_length r.b) s in
    pick_case (λ (k : ℕ). k ≤ most_rows) (eqb (stage_of r) 4) (pick (ltb (r.b / 2) rows) rows 0) 0
    (λ e. pick_case (λ (k : ℕ). k ≤ most_rows) (ltb (r.b / 2) rows) rows 0 (λ f. stretch_max r.b most_rows s) (λ f. omega arith))
    (λ e. omega arith)

-- ---- a turn of a log

module _ {r : Run} {s : List ℕ} {l : List (List ℕ)} {n : ℕ} (t : Turn r s l n) where
  pub turn_lines : (position : ℕ) → lines_from position r s ≡ number_lines position (numbers_from r l) ++ lines_from (position + length l) (after_from r l) (drop n s)
  unfolding lines_from
  turn_lines position = ap (refusal_lines position r) t.records_are ∙ lines_append position r l (records_from (after_from r l) (drop n s))

  pub turn_run : run_from r s ≡ run_from (after_from r l) (drop n s)
  unfolding run_from
  turn_run = ap (after_from r) t.records_are ∙ after_append r l (records_from (after_from r l) (drop n s))

-- one record
pub turn_record : (r : Run) (s : List ℕ) → 0 < length s → Turn r s (next_record r s ∷ []) (next_length r s)
unfolding after_from
turn_record r s p =
    record {
      records_are = records_next r s p;
      within = next_max r s;
      count_max = omega (arith, next_pos r s p);
      some = next_pos r s p;
    }

-- the rows of a run at stage 4
row_lasting : (r : Run) → stage_of r ≡ 4 → Lasting r r.b
row_lasting r e =
    let live = stage_live r 4 e (omega arith) (omega arith) in
    (λ z. omega (arith, live.0, z), refl, λ z. omega (arith, stage_batch r e, z))

module _ (r : Run) (s : List ℕ) (f : ℕ) where
  abbrev rows : ℕ
  rows = stretch_of f (response_length r.b) s

  -- their bytes
  abbrev pub row_bytes : ℕ
  row_bytes = min (rows * response_length r.b) (length s)

  pub rows_are : length (rows_of r.b (take row_bytes s)) ≡ rows
  unfolding rows_of
  rows_are = ap (λ (t : List ℕ). length (cut (response_length r.b) t)) (row_is (rows * response_length r.b) s) ∙ stretch_rows r.b f s

  pub turn_rows : stage_of r ≡ 4 → 0 < rows → Turn r s (rows_of r.b (take row_bytes s)) row_bytes
  unfolding rows_of
  turn_rows e p =
      let n = rows * response_length r.b in
      let most : rows ≤ row_bytes = omega (arith, stretch_bytes r.b f s, le-mul_of_pos_right rows (length_some r.b)) in
      record {
        records_are =
            stretch_ahead r.b f r s (row_lasting r e)
            ∙ sym (ap₂ (λ (t d : List ℕ). cut (response_length r.b) t ++ records_from (after_from r (cut (response_length r.b) t)) d) (row_is n s) (row_rest n s));
        within = omega arith;
        count_max = omega (arith, rows_are, most);
        some = omega (arith, most);
      }
