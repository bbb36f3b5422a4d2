-- The laws that tie the turns to the records of a log. Assumes nothing.
use Rattle.std.specs.Prelude.{◌≡◌, refl, Bool, true, false, ◌≢◌, List, [], ◌∷◌, ◌++◌, ℕ, zero, suc, ◌+◌, ◌≤◌, ◌<◌, length, take, drop, eqb, leb}
use Rattle.std.proofs.Common.{ap, arith, length-drop, length-take-le, get_or-take, leb-true, eq-eqb, ne_eqb, le-ltb}
use Rattle.std.proofs.Math.Seq.{take-length, drop-length}
use Rattle.lists.specs.Tests.{pick}
use Rattle.lists.specs.TestLaws.{pick_case, and_left, and_right, pick_same}
use Rattle.records.specs.Bytes.{byte_at}
use Rattle.records.specs.Tags.{Tag, SU, SX, DE, GO, VE, CH, CS, RE, unknown, tag_of}
use Rattle.run.specs.declared.Run.{Run}
use Rattle.run.specs.Runs.{fresh}
use Rattle.run.specs.Steps.{step_of, after_from, after}
use Rattle.reader.specs.Cutting.{length_at, length_of, whole, cut_from, records_of, run_of}
use Rattle.reader.specs.Report.{refusal_line, refusal_lines}
use Rattle.reader.specs.Turns.{lines_from, next_length, next_record, next_rest, records_from, run_from}

-- ---- the length of a record

-- before a setup only SU and SX have a length
pub none_yet : (k : Tag) (r : Run) (s : List ℕ) → k ≢ SU → k ≢ SX → r.stage ≡ 0 → length_at k r s ≡ 0
unfolding length_at
none_yet SU r s d x e = absurd (d refl)
none_yet SX r s d x e = absurd (x refl)
none_yet DE r s d x e = rw (eq-eqb _ _ e)
none_yet GO r s d x e = rw (eq-eqb _ _ e)
none_yet VE r s d x e = rw (eq-eqb _ _ e)
none_yet CH r s d x e = rw (eq-eqb _ _ e)
none_yet CS r s d x e = rw (eq-eqb _ _ e)
none_yet RE r s d x e = rw (eq-eqb _ _ e)
none_yet unknown r s d x e = refl

pub whole_pos : (r : Run) (s : List ℕ) → whole r s ≡ true → 1 ≤ length_of r s
unfolding whole
whole_pos r s e = leb-true _ _ (and_left (leb 1 (length_of r s)) _ e)

pub whole_max : (r : Run) (s : List ℕ) → whole r s ≡ true → length_of r s ≤ length s
unfolding whole
whole_max r s e = leb-true _ _ (and_right (leb 1 (length_of r s)) _ e)

pub next_pos : (r : Run) (s : List ℕ) → 0 < length s → 0 < next_length r s
unfolding next_length
next_pos r s p = pick_case (λ (n : ℕ). 0 < n) (whole r s) (length_of r s) (length s) (λ e. whole_pos r s e) (λ e. p)

pub next_max : (r : Run) (s : List ℕ) → next_length r s ≤ length s
unfolding next_length
next_max r s = pick_case (λ (n : ℕ). n ≤ length s) (whole r s) (length_of r s) (length s) (λ e. whole_max r s e) (λ e. omega arith)

-- the next record has from 1 byte to all that is left
pub next_within : (log : List ℕ) (from : ℕ) (r : Run) → from < length log
    → (0 < next_length r (drop from log)) × (from + next_length r (drop from log) ≤ length log)
next_within log from r l =
    let s = drop from log in
    let left = length-drop from log in
    (next_pos r s (omega arith), omega (arith, left, next_max r s))

-- a record alone has the tag that it has in the log
pub tag_alone : (s : List ℕ) (k : ℕ) → 2 ≤ k → k ≤ length s → tag_of (take k s) ≡ tag_of s
unfolding tag_of byte_at
tag_alone s k p l =
    rw (
      length-take-le k s l,
      get_or-take k s 0 0 (omega arith),
      get_or-take k s 1 0 (omega arith),
      le-ltb k 2 p,
      le-ltb (length s) 2 (omega arith),
    )

-- ---- records, turn by turn

-- the bound of the records does not matter where it is large enough
pub cut_more : (f g : ℕ) (r : Run) (s : List ℕ) → length s ≤ f → length s ≤ g → cut_from f r s ≡ cut_from g r s
unfolding cut_from
cut_more zero zero r s p q = refl
cut_more zero (suc g) r s p q = rw (eq-eqb (length s) 0 (omega arith))
cut_more (suc f) zero r s p q = rw (eq-eqb (length s) 0 (omega arith))
cut_more (suc f) (suc g) r s p q =
    let n = length_of r s in
    ap (λ (l : List (List ℕ)). pick (eqb (length s) 0) [] l)
    (pick_same (whole r s) _
    (λ e. ap (λ (l : List (List ℕ)). take n s ∷ l)
    (cut_more f g (step_of r (take n s)).run (drop n s) (omega (arith, length-drop n s, whole_pos r s e)) (omega (arith, length-drop n s, whole_pos r s e)))))

pub records_none : (r : Run) → records_from r [] ≡ []
unfolding records_from cut_from
records_none r = refl

-- a whole record, or all that is left
cut_next : (f : ℕ) (r : Run) (s : List ℕ) (b : Bool) → whole r s ≡ b → length s ≤ suc f →
    let l = length_of r s in
    let n = pick b l (length s) in
    pick b (take l s ∷ cut_from f (step_of r (take l s)).run (drop l s)) (s ∷ []) ≡ take n s ∷ cut_from (length (drop n s)) (step_of r (take n s)).run (drop n s)
unfolding cut_from
cut_next f r s true e h =
    let l = length_of r s in
    ap (λ (x : List (List ℕ)). take l s ∷ x)
    (cut_more f (length (drop l s)) (step_of r (take l s)).run (drop l s) (omega (arith, length-drop l s, whole_pos r s e)) (omega arith))
cut_next f r s false e h = rw (take-length s, drop-length s)

pub records_next : (r : Run) (s : List ℕ) → 0 < length s → records_from r s ≡ next_record r s ∷ records_from (step_of r (next_record r s)).run (next_rest r s)
unfolding records_from cut_from next_length
records_next r s p = go (length s) refl
  where
    go : (m : ℕ) → length s ≡ m → cut_from m r s ≡ next_record r s ∷ cut_from (length (next_rest r s)) (step_of r (next_record r s)).run (next_rest r s)
    go zero e = absurd (omega arith)
    go (suc f) e = rw (ne_eqb (length s) 0 (λ z. omega arith)) (cut_next f r s (whole r s) refl (omega arith))

-- ---- lines and run, turn by turn

pub lines_none : (position : ℕ) (r : Run) → lines_from position r [] ≡ []
unfolding lines_from refusal_lines
lines_none position r = rw (records_none r)

pub lines_next : (position : ℕ) (r : Run) (s : List ℕ) → 0 < length s →
    let reply = step_of r (next_record r s) in
    lines_from position r s ≡ refusal_line position reply.number ++ lines_from (position + 1) reply.run (next_rest r s)
unfolding lines_from refusal_lines
lines_next position r s p = rw (records_next r s p)

pub run_none : (r : Run) → run_from r [] ≡ r
unfolding run_from after_from
run_none r = rw (records_none r)

-- from the start of a log
pub lines_start : (log : List ℕ) → refusal_lines 1 fresh (records_of log) ≡ lines_from 1 fresh log
unfolding lines_from records_from records_of
lines_start log = refl

pub run_start : (log : List ℕ) → run_of log ≡ run_from fresh log
unfolding run_from records_from records_of run_of after
run_start log = refl
