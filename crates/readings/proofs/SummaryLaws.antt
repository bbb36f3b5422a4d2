-- How the stage after the records of a log goes by the one that brings stage 3 or 6, and which records are read. Assumes nothing.
use Rattle.std.specs.Prelude.{◌≡◌, refl, true, ◌⊎◌, List, [], ◌∷◌, ◌++◌, ℕ, ◌≤◌, ◌<◌}
use Rattle.std.proofs.Common.{sym, ap, subst, ◌∙◌, inl, inr, ⊎_elim, append-nil, append_assoc, arith}
use Rattle.std.proofs.Math.Decide.{ℕ_discrete, dec_lt}
use Rattle.run.specs.declared.Run.{Run}
use Rattle.run.specs.Runs.{fresh, begun, stage_of}
use Rattle.run.specs.Steps.{step_of, after_from, after}
use Rattle.run.specs.RunLaws.{stage_none}
use Rattle.run.specs.RefusalLaws.{refusal_keeps}
use Rattle.reader.specs.Cutting.{records_of, run_of}
use Rattle.summary.specs.Consumed.{settled, up_to, read_of}
use Rattle.summary.proofs.StageLaws.{Late, late_step, early_step, late_settled, early_unsettled}
use Rattle.summary.proofs.ReadLaws.{up_to_brought, up_to_all}
use Rattle.promises.proofs.ListLaws.{snoc}
use Rattle.promises.proofs.MadeLaws.{made_stage}
use Rattle.readings.specs.Brought.{stage_after, Brings, Brought}

from_snoc : (r : Run) (l : List (List ℕ)) (s : List ℕ) → after_from r (snoc l s) ≡ (step_of (after_from r l) s).run
unfolding after_from
from_snoc r [] s = refl
from_snoc r (x ∷ l) s = from_snoc (step_of r x).run l s

after_snoc : (l : List (List ℕ)) (s : List ℕ) → after (snoc l s) ≡ (step_of (after l) s).run
unfolding after
after_snoc l s = from_snoc fresh l s

module _ (l : List (List ℕ)) (s : List ℕ) where
  -- the stage that the run keeps after it is the one that it counts as at
  next_stage : (step_of (after l) s).run.stage ≡ stage_after (snoc l s)
  next_stage = ap (λ (r : Run). r.stage) (sym (after_snoc l s)) ∙ sym (made_stage (snoc l s))

  -- from stage 3 on no record brings stage 3 or 6
  brings_early : Brings l s → stage_after l < 3
  brings_early (g, d) = go (dec_lt (stage_after l) 3)
    where
      go : Dec (stage_after l < 3) → stage_after l < 3
      go (yes m) = m
      go (no n) =
          let h : Late (after l) (step_of (after l) s).run = late_step (after l) s (omega arith) in
          absurd (d (made_stage l ∙ sym (h.not_again (⊎_elim (λ e. inl (next_stage ∙ e)) (λ e. inr (next_stage ∙ e)) g)) ∙ next_stage))

  -- before it the next stage that is 3 or more is 3 or 6
  crosses : stage_after l < 3 → 3 ≤ stage_after (snoc l s) → Brings l s
  crosses m k =
      (⊎_elim (λ e. inl (omega (arith, next_stage))) (λ e. inr (sym next_stage ∙ e)) (early_step (after l) s m (omega (arith, made_stage l))), λ e. absurd (omega arith))

  -- such a record fixes the sets
  brings_settles : Brings l s → settled (step_of (after l) s).run ≡ true
  brings_settles (g, d) =
      subst (λ (r : Run). settled r ≡ true) (after_snoc l s) (late_settled (after (snoc l s)) (⊎_elim (λ e. omega arith) (λ e. omega arith) g))

  -- and is accepted
  pub brings_accepted : Brings l s → (step_of (after l) s).number ≡ 0
  brings_accepted (g, d) = go (ℕ_discrete (step_of (after l) s).number 0)
    where
      go : Dec ((step_of (after l) s).number ≡ 0) → (step_of (after l) s).number ≡ 0
      go (yes e) = e
      go (no n) = absurd (d (ap stage_of (sym (refusal_keeps (after l) s n) ∙ sym (after_snoc l s))))

-- ---- whether a record brings stage 3 or 6

fresh_early : stage_after [] < 3
unfolding after after_from fresh begun
fresh_early = omega (arith, stage_none fresh refl)

-- the first record that brings stage 3 or more
first_brings : (l m : List (List ℕ)) → stage_after l < 3 → 3 ≤ stage_after (l ++ m) → Brought (l ++ m)
first_brings l [] e k = absurd (omega (arith, ap stage_after (append-nil l)))
first_brings l (s ∷ m) e k = go (first_brings (snoc l s) m) (dec_lt (stage_after (snoc l s)) 3)
  where
    regroup : snoc l s ++ m ≡ l ++ (s ∷ m)
    regroup = append_assoc l (s ∷ []) m

    go : (stage_after (snoc l s) < 3 → 3 ≤ stage_after (snoc l s ++ m) → Brought (snoc l s ++ m)) → Dec (stage_after (snoc l s) < 3) → Brought (l ++ (s ∷ m))
    go later (yes n) = subst Brought regroup (later n (omega (arith, ap stage_after regroup)))
    go later (no n) = record { before = l; bringing = s; later = m; split = refl; brings = crosses l s e (omega arith) }

-- of the records of a log one brings stage 3 or 6, or the stage after all of them is under 3
pub bringing_or_early : (log : List ℕ) → Brought (records_of log) ⊎ (stage_of (run_of log) < 3)
unfolding run_of
bringing_or_early log = go (dec_lt (stage_after (records_of log)) 3)
  where
    go : Dec (stage_after (records_of log) < 3) → Brought (records_of log) ⊎ (stage_after (records_of log) < 3)
    go (yes m) = inr m
    go (no n) = inl (first_brings [] (records_of log) fresh_early (omega arith))

-- where a record of the log brings stage 3 or 6, the reading ends with it
pub read_to : (log : List ℕ) (l : List (List ℕ)) (s : List ℕ) (m : List (List ℕ)) → records_of log ≡ l ++ (s ∷ m) → Brings l s → read_of log ≡ l ++ (s ∷ [])
unfolding read_of after
read_to log l s m e b =
    ap (up_to fresh) e ∙ up_to_brought fresh l s m (early_unsettled (after l) (brings_early l s b)) (brings_settles l s b)

-- where none does, all records are read
pub read_all : (log : List ℕ) → (Brought (records_of log) → ⊥) → read_of log ≡ records_of log
unfolding read_of after run_of
read_all log none = go (bringing_or_early log)
  where
    go : Brought (records_of log) ⊎ (stage_of (run_of log) < 3) → up_to fresh (records_of log) ≡ records_of log
    go (inl b) = absurd (none b)
    go (inr m) = up_to_all fresh (records_of log) (early_unsettled (after_from fresh (records_of log)) m)
