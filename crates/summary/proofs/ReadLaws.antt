-- The records that are read for the sets, turn by turn, and which these are; the sets after them are those of the log. Assumes nothing.
use Rattle.std.specs.Prelude.{◌≡◌, refl, Bool, true, false, List, [], ◌∷◌, ◌++◌, ℕ, ◌<◌, length}
use Rattle.std.proofs.Common.{sym, ap, ◌∙◌}
use Rattle.lists.specs.Tests.{pick}
use Rattle.lists.specs.TestLaws.{no_both}
use Rattle.run.specs.declared.Run.{Run}
use Rattle.run.specs.Runs.{fresh}
use Rattle.run.specs.Steps.{step_of, after_from, after}
use Rattle.answers.specs.Answers.{sets_of}
use Rattle.reader.specs.Cutting.{records_of, run_of}
use Rattle.reader.specs.Turns.{next_record, next_rest, records_from}
use Rattle.reader.proofs.TurnLaws.{records_none, records_next}
use Rattle.reader.proofs.Endings.{records_start}
use Rattle.summary.specs.Consumed.{settled, up_to, read_of}
use Rattle.summary.proofs.StageLaws.{LateAfter, settled_late, late_settled, late_after}

-- the records that are read of what is left of a log
unfoldable pub read_from : Run → List ℕ → List (List ℕ)
read_from r s = up_to r (records_from r s)

pub read_start : (log : List ℕ) → read_of log ≡ read_from fresh log
unfolding read_of read_from
read_start log = ap (up_to fresh) (records_start log)

-- ---- turn by turn

pub read_none : (r : Run) → read_from r [] ≡ []
unfolding read_from up_to
read_none r = rw (records_none r)

-- nothing more once the sets are fixed
up_to_settled : (r : Run) (l : List (List ℕ)) → settled r ≡ true → up_to r l ≡ []
unfolding up_to
up_to_settled r [] e = refl
up_to_settled r (s ∷ l) e = ap (λ (b : Bool). pick b [] (s ∷ up_to (step_of r s).run l)) e

pub read_settled : (r : Run) (s : List ℕ) → settled r ≡ true → read_from r s ≡ []
unfolding read_from
read_settled r s e = up_to_settled r (records_from r s) e

up_to_next : (r : Run) (s : List ℕ) (l : List (List ℕ)) → settled r ≡ false → up_to r (s ∷ l) ≡ s ∷ up_to (step_of r s).run l
unfolding up_to
up_to_next r s l e = ap (λ (b : Bool). pick b [] (s ∷ up_to (step_of r s).run l)) e

pub read_next : (r : Run) (s : List ℕ) → 0 < length s → settled r ≡ false
    → read_from r s ≡ next_record r s ∷ read_from (step_of r (next_record r s)).run (next_rest r s)
unfolding read_from
read_next r s p e = ap (up_to r) (records_next r s p) ∙ up_to_next r (next_record r s) (records_from (step_of r (next_record r s)).run (next_rest r s)) e

-- ---- which records these are

-- sets that are fixed stay so
pub stays_settled : (r : Run) (l : List (List ℕ)) → settled r ≡ true → settled (after_from r l) ≡ true
stays_settled r l e = late_settled (after_from r l) (late_after r (settled_late r e) l).still

-- so they were not fixed before
was_unsettled : (r : Run) (l : List (List ℕ)) → settled (after_from r l) ≡ false → settled r ≡ false
was_unsettled r l e = go (settled r) refl
  where
    go : (b : Bool) → settled r ≡ b → b ≡ false
    go true d = absurd (no_both (stays_settled r l d) e)
    go false d = refl

-- the records up to and with the one that fixes the sets
pub up_to_brought : (r : Run) (l : List (List ℕ)) (s : List ℕ) (m : List (List ℕ)) → settled (after_from r l) ≡ false → settled (step_of (after_from r l) s).run ≡ true
    → up_to r (l ++ (s ∷ m)) ≡ l ++ (s ∷ [])
unfolding after_from
up_to_brought r [] s m before fixes = up_to_next r s m before ∙ ap (λ (l : List (List ℕ)). s ∷ l) (up_to_settled (step_of r s).run m fixes)
up_to_brought r (x ∷ l) s m before fixes =
    up_to_next r x (l ++ (s ∷ m)) (was_unsettled r (x ∷ l) before)
    ∙ ap (λ (k : List (List ℕ)). x ∷ k) (up_to_brought (step_of r x).run l s m before fixes)

-- all of them where none does
pub up_to_all : (r : Run) (l : List (List ℕ)) → settled (after_from r l) ≡ false → up_to r l ≡ l
unfolding after_from up_to
up_to_all r [] e = refl
up_to_all r (s ∷ l) e = up_to_next r s l (was_unsettled r (s ∷ l) e) ∙ ap (λ (k : List (List ℕ)). s ∷ k) (up_to_all (step_of r s).run l e)

-- ---- the sets

-- what is read is enough for sets and setup
pub record Enough (read whole : Run) : Type 0 where
  pub sets_same : sets_of read ≡ sets_of whole
  pub setup_same : read.setup ≡ whole.setup

up_to_enough : (r : Run) (l : List (List ℕ)) → Enough (after_from r (up_to r l)) (after_from r l)
unfolding up_to after_from
up_to_enough r [] = record { sets_same = refl; setup_same = refl }
up_to_enough r (s ∷ l) = go (settled r) refl (up_to_enough (step_of r s).run l)
  where
    go : (b : Bool) → settled r ≡ b → Enough (after_from (step_of r s).run (up_to (step_of r s).run l)) (after_from (step_of r s).run l)
        → Enough (after_from r (up_to r (s ∷ l))) (after_from r (s ∷ l))
    go true e rest = let h : LateAfter r (after_from r (s ∷ l)) = late_after r (settled_late r e) (s ∷ l) in rw e (record { sets_same = sym h.sets_same; setup_same = sym h.setup_same })
    go false e rest = rw e rest

-- The sets after the records that are read are those after all records of the log, unfixed ones included.
pub read_enough : (log : List ℕ) → Enough (after (read_of log)) (run_of log)
unfolding after read_of run_of
read_enough log = up_to_enough fresh (records_of log)
