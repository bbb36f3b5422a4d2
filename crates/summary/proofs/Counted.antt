-- What the record counts on which the reading of a log ends (document 02, request 2.6). Endings.antt of the log says which these are: every other
-- record is whole, and counts its length (counted_whole). Assumes nothing.
use Rattle.std.specs.Prelude.{◌≡◌, ◌≢◌, List, ℕ, ◌≤◌, ◌<◌, length, eqb}
use Rattle.std.proofs.Common.{sym, ap, ◌∙◌, inl, inr, arith, ne_eqb}
use Rattle.std.proofs.lemmas.Bool.{lt-leb}
use Rattle.lists.specs.TestLaws.{pick_case}
use Rattle.records.specs.Tags.{Tag, SU, SX, GO, CH, CS, RE, unknown, code, decoded, tag_of, go_length}
use Rattle.records.proofs.RecordLaws.{decoded_code}
use Rattle.run.specs.declared.Run.{Run}
use Rattle.reader.specs.Cutting.{own_length, length_at, length_of}
use Rattle.reader.specs.Turns.{BeforeSetup, BeforeGo, Cut}
use Rattle.reader.proofs.TurnLaws.{none_yet}
use Rattle.reader.proofs.Endings.{stage_first, known_long, waits_length}
use Rattle.summary.specs.Consumed.{fixed_length, counted_by, counted_length}
use Rattle.summary.proofs.CountLaws.{counted_full}

-- a tag other than GO has the length by which it is passed over
fixed_other : (passed : ℕ) (s : List ℕ) → tag_of s ≢ GO → fixed_length passed s ≡ passed
unfolding fixed_length
fixed_other passed s d = rw (ne_eqb (code (tag_of s)) (code GO) (λ e. d (sym (decoded_code (tag_of s)) ∙ ap decoded e ∙ decoded_code GO)))

none : (r : Run) (s : List ℕ) → tag_of s ≢ GO → length_of r s ≡ 0 → counted_length r s ≡ 0
none r s d e = counted_full (length_of r s) s 0 (fixed_other (length_of r s) s d ∙ e) (omega arith)

apart : (g k : Tag) → code g ≢ code k → g ≢ k
apart g k d e = d (ap code e)

other : (s : List ℕ) (g : Tag) → tag_of s ≡ g → code g ≢ code GO → tag_of s ≢ GO
other s g e d z = d (ap code (sym e ∙ z))

-- an unknown tag: 0
pub counted_unknown : (r : Run) (s : List ℕ) → tag_of s ≡ unknown → counted_length r s ≡ 0
unfolding length_of length_at
counted_unknown r s e = none r s (other s unknown e (λ z. absurd (omega arith))) (rw e)

-- a GO: 2, at stage 0 too, whatever bytes stand after it
pub counted_go : (r : Run) (s : List ℕ) → tag_of s ≡ GO → counted_length r s ≡ 2
unfolding fixed_length
counted_go r s e = counted_full (length_of r s) s 2 (rw e) (known_long s (λ z. apart GO unknown (λ y. absurd (omega arith)) (sym e ∙ z)))

-- at stage 0 a known tag other than SU, SX and GO: 0
pub counted_before_setup : (r : Run) (s : List ℕ) → BeforeSetup r s → tag_of s ≢ GO → counted_length r s ≡ 0
unfolding length_of
counted_before_setup r s (e, u, d, x) g = none r s g (none_yet (tag_of s) r s d x (stage_first r e))

-- in a run that waits for GO a CH, CS or RE: 0
pub counted_before_go : (r : Run) (s : List ℕ) → BeforeGo r s → counted_length r s ≡ 0
unfolding length_of length_at
counted_before_go r s (d, z, inl e) = none r s (other s CH e (λ y. absurd (omega arith))) (rw e (waits_length (eqb r.stage 0) r _ z))
counted_before_go r s (d, z, inr (inl e)) = none r s (other s CS e (λ y. absurd (omega arith))) (rw e (waits_length (eqb r.stage 0) r _ z))
counted_before_go r s (d, z, inr (inr e)) = none r s (other s RE e (λ y. absurd (omega arith))) (rw e (waits_length (eqb r.stage 0) r _ z))

-- a cut record: 0
cut_short : (r : Run) (s : List ℕ) → tag_of s ≢ GO → length s < length_of r s → counted_length r s ≡ 0
unfolding counted_by
cut_short r s d l = rw (fixed_other (length_of r s) s d, lt-leb (length_of r s) (length s) l)

pub counted_cut : (r : Run) (s : List ℕ) → Cut r s → counted_length r s ≡ 0
unfolding length_of length_at own_length
counted_cut r s (u, inl l) = cut_short r s not_go l
  where
    -- a GO is not cut: its two bytes are there
    not_go : tag_of s ≢ GO
    not_go e = absurd (omega (arith, known_long s u, l, pick_case (λ (k : ℕ). k ≤ 2) (eqb r.stage 0) 0 go_length (λ d. omega arith) (λ d. omega arith), ap (λ (g : Tag). length_at g r s) e))
counted_cut r s (u, inr (inl e, l)) = none r s (other s SU e (λ y. absurd (omega arith))) (rw (e, lt-leb 6 (length s) l))
counted_cut r s (u, inr (inr e, l)) = none r s (other s SX e (λ y. absurd (omega arith))) (rw (e, lt-leb 6 (length s) l))
