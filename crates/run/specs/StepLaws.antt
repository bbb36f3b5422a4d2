-- Laws of the step: by the tag, by the stage, and by the number that the record's handler finds. Assumes nothing.
use Rattle.std.specs.Prelude.{◌≡◌, refl, List, ℕ, eqb}
use Rattle.std.proofs.Common.{sym, ap, ◌∙◌, eqb-true, eq-eqb, ne_eqb}
use Rattle.std.proofs.lemmas.Bool.{eqb-false}
use Rattle.lists.specs.TestLaws.{pick_case}
use Rattle.records.specs.Tags.{Tag, tag_of}
use Rattle.run.specs.declared.Run.{Run}
use Rattle.run.specs.Steps.{Reply}
use Rattle.stages.specs.declared.Handler.{Handler}
use Rattle.refusals.specs.declared.Refusal.TheVariants.{WrongStage}
use Rattle.stages.specs.declared.Handler.TheVariants.{Refuse}
use Rattle.run.specs.Runs.{stage_of}
use Rattle.run.specs.Steps.{refused, answered, handled, step_of}
use Rattle.stages.specs.Definitions.{taken_at, at_stage, handler_at}

-- a record with a tag
pub step_tag : (g : Tag) (r : Run) (s : List ℕ) → tag_of s ≡ g → step_of r s ≡ handled (handler_at g (stage_of r)) r s
unfolding step_of
step_tag g r s e = ap (λ (k : Tag). handled (handler_at k (stage_of r)) r s) e

-- at the stage that takes its tag it meets its handler
pub at_stage_is : (g : Tag) (r : Run) (h : Handler) → stage_of r ≡ taken_at g → at_stage g (stage_of r) h ≡ h
unfolding at_stage
at_stage_is g r h e = rw (eq-eqb (stage_of r) (taken_at g) e)

-- so does the record in its step
pub step_taken : (g : Tag) (r : Run) (s : List ℕ) → tag_of s ≡ g → stage_of r ≡ taken_at g → step_of r s ≡ handled (handler_at g (taken_at g)) r s
step_taken g r s e z = step_tag g r s e ∙ ap (λ (k : ℕ). handled (handler_at g k) r s) z

-- at another it is refused
pub off_stage : (g : Tag) (r : Run) (h : Handler) → (stage_of r ≡ taken_at g → ⊥) → at_stage g (stage_of r) h ≡ Refuse WrongStage
unfolding at_stage
off_stage g r h e = rw (ne_eqb (stage_of r) (taken_at g) e)

-- what holds of the handler's reply at its stage and of refusal 11 at another
pub stage_case : (P : Reply → Type 0) (g : Tag) (h : Handler) (r : Run) (s : List ℕ)
    → (stage_of r ≡ taken_at g → P (handled h r s)) → ((stage_of r ≡ taken_at g → ⊥) → P (refused r 11)) → P (handled (at_stage g (stage_of r) h) r s)
unfolding at_stage handled
stage_case P g h r s at off =
    pick_case (λ (y : Handler). P (handled y r s)) (eqb (stage_of r) (taken_at g)) h (Refuse WrongStage) (λ e. at (eqb-true _ _ e)) (λ e. off (eqb-false _ _ e))

-- what holds of the next run, and of a refusal with the number
pub answered_case : (P : Reply → Type 0) (r : Run) (k : ℕ) (next : Run)
    → (k ≡ 0 → P (record { run = next; number = 0 })) → ((k ≡ 0 → ⊥) → P (refused r k)) → P (answered r k next)
answered_case P r k next taken not =
    pick_case P (eqb k 0) (record { run = next; number = 0 }) (refused r k) (λ e. taken (eqb-true _ _ e)) (λ e. not (eqb-false _ _ e))

pub answered_number : (r : Run) (k : ℕ) (next : Run) → (answered r k next).number ≡ k
answered_number r k next = answered_case (λ (y : Reply). y.number ≡ k) r k next (λ e. sym e) (λ e. refl)
