-- A record by its tag's code and the stage: which handler takes it, and that a run past stage 0 is well formed there. Assumes nothing.
use mathlib.Core.Path.{◌≡◌, refl, ap, ap₂, ◌∙◌}
use mathlib.Core.Bool.{true}
use mathlib.Core.List.{List}
use Prim.Native.Nat.{ℕ, ◌<◌}
use native.Mathlib.Omega.{arith}
use lib.Dec.{eqb}
use borrow.Author.Tests.{eqb-true}
use Rattle.lists.specs.TestLaws.{pick_case}
use Rattle.records.specs.Tags.{Tag, SU, SX, DE, GO, VE, CH, CS, RE, unknown, code, decoded, tag_of}
use Rattle.records.proofs.RecordLaws.{decoded_code}
use Rattle.refusals.specs.declared.Refusal.TheVariants.{WrongStage}
use Rattle.run.specs.declared.Run.{Run}
use Rattle.stages.specs.declared.Handler.{Handler}
use Rattle.stages.specs.declared.Handler.TheVariants.{TakeSetup, TakeWaiting, TakeDealing, TakeGo, TakeComplaint, TakeChallenges, TakeShifted, TakeResponse, Refuse}
use Rattle.run.specs.Runs.{well_formed, stage_of}
use Rattle.run.specs.RunLaws.{stage_live}
use Rattle.run.specs.Steps.{handled, step_of, untaken_by, untaken}
use Rattle.stages.specs.Definitions.{taken_at, at_stage, handler_at}

-- taken past stage 0
abbrev pub Past : Handler → Type 0
Past TakeSetup = ⊥
Past TakeWaiting = ⊥
Past TakeDealing = Unit
Past TakeGo = Unit
Past TakeComplaint = Unit
Past TakeChallenges = Unit
Past TakeShifted = Unit
Past TakeResponse = Unit
Past (Refuse k) = ⊥

past_at : (g : Tag) (stage : ℕ) (h : Handler) → (Past h → (0 < taken_at g) × (taken_at g < 6)) → Past (at_stage g stage h) → (0 < stage) × (stage < 6)
unfolding at_stage
past_at g stage h f =
    pick_case (λ (a : Handler). Past a → (0 < stage) × (stage < 6)) (eqb stage (taken_at g)) h (Refuse WrongStage)
    (λ e p. let at = eqb-true stage (taken_at g) e in let b = f p in (omega arith, omega arith)) (λ e p. absurd p)

past_stage : (g : Tag) (stage : ℕ) → Past (handler_at g stage) → (0 < stage) × (stage < 6)
unfolding handler_at taken_at
past_stage SU stage = past_at SU stage TakeSetup (λ p. absurd p)
past_stage SX stage = past_at SX stage TakeWaiting (λ p. absurd p)
past_stage DE stage = past_at DE stage TakeDealing (λ p. (omega arith, omega arith))
past_stage GO stage = past_at GO stage TakeGo (λ p. (omega arith, omega arith))
past_stage VE stage = past_at VE stage TakeComplaint (λ p. (omega arith, omega arith))
past_stage CH stage = past_at CH stage TakeChallenges (λ p. (omega arith, omega arith))
past_stage CS stage = past_at CS stage TakeShifted (λ p. (omega arith, omega arith))
past_stage RE stage = past_at RE stage TakeResponse (λ p. (omega arith, omega arith))
past_stage unknown stage = λ p. absurd p

-- from what the calls answer
module _ (r : Run) (s : List ℕ) {h : Handler} {c stage : ℕ} (by : h ≡ handler_at (decoded c) stage) (tag : c ≡ code (tag_of s)) (at : stage ≡ stage_of r) where
  pub handler_is : h ≡ handler_at (tag_of s) (stage_of r)
  handler_is = by ∙ ap₂ handler_at (ap decoded tag ∙ decoded_code (tag_of s)) at

  pub step_by : handled h r s ≡ step_of r s
  unfolding step_of
  step_by = ap (λ (a : Handler). handled a r s) handler_is

  pub untaken_by_is : untaken_by h r s ≡ untaken r s
  unfolding untaken
  untaken_by_is = ap (λ (a : Handler). untaken_by a r s) handler_is

  pub formed_by : Past h → well_formed r ≡ true
  formed_by p =
      let live = past_stage (tag_of s) (stage_of r) (rw handler_is at p) in
      (stage_live r (stage_of r) refl live.0 live.1).1
