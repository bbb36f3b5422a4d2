-- With which numbers records are answered: none above 17, and 13 for a complaint row alone. Assumes nothing.
use Rattle.std.specs.Prelude.{◌≡◌, Bool, true, false, not, ◌&&◌, List, ℕ, ◌≤◌, eqb, leb}
use Rattle.std.proofs.Math.Path.{refl}
use Rattle.std.proofs.Common.{ap, arith, leb-true}
use Rattle.lists.specs.Tests.{require}
use Rattle.lists.specs.TestLaws.{and_left, require_case, or_next_case}
use Rattle.records.specs.Tags.{Tag, SU, SX, DE, GO, VE, CH, CS, RE, unknown, tag_of}
use Rattle.refusals.specs.Refusals.{setup_refusal, head_refusal, dealing_refusal, complaint_refusal, scalars_refusal, challenges_refusal, shifted_refusal, response_refusal}
use Rattle.dealing.specs.Definitions.{dealing_number}
use Rattle.complaint.specs.Definitions.{complaint_number}
use Rattle.response.specs.Definitions.{response_number}
use Rattle.stages.specs.Definitions.{at_stage, handler_at, go_number}
use Rattle.stages.specs.declared.Handler.{Handler}
use Rattle.stages.specs.declared.Handler.TheVariants.{TakeSetup, TakeWaiting, TakeDealing, TakeGo, TakeComplaint, TakeChallenges, TakeShifted, TakeResponse}
use Rattle.run.specs.declared.Run.{Run}
use Rattle.run.specs.Steps.{Reply}
use Rattle.run.specs.Runs.{stage_of}
use Rattle.run.specs.Steps.{after_setup, after_dealing, after_go, after_complaint, after_challenges, after_shifted, after_response, answered, handled, step_of}
use Rattle.run.specs.StepLaws.{stage_case, answered_number}

-- a number that any record may be answered with
abbrev pub common : ℕ → Bool
common k = leb k 17 && not (eqb k 13)

-- what holds of every such number holds of each refusal but 13
module _ (P : ℕ → Type 0) (each : (k : ℕ) → common k ≡ true → P k) where
  ask : (b : Bool) (k x : ℕ) → common k ≡ true → P x → P (require b k x)
  ask b k x e p = require_case P b k x (each k e) p

  pub setup_numbers : (s : List ℕ) → P (setup_refusal s)
  unfolding setup_refusal
  setup_numbers s = ask _ 2 _ refl (ask _ 3 _ refl (ask _ 4 _ refl (ask _ 7 _ refl (ask _ 16 0 refl (each 0 refl)))))

  head_numbers : (n size : ℕ) (s : List ℕ) → P (head_refusal n size s)
  unfolding head_refusal
  head_numbers n size s = ask _ 2 _ refl (ask _ 3 _ refl (ask _ 5 0 refl (each 0 refl)))

  pub scalars_numbers : (size count : ℕ) (s : List ℕ) → P (scalars_refusal size count s)
  unfolding scalars_refusal
  scalars_numbers size count s = ask _ 2 _ refl (ask _ 3 _ refl (ask _ 6 0 refl (each 0 refl)))

  pub complaint_refusals : (n : ℕ) (s : List ℕ) → P (complaint_refusal n s)
  unfolding complaint_refusal
  complaint_refusals n s = or_next_case P _ _ (head_numbers _ _ s) (ask _ 8 0 refl (each 0 refl))

  module _ (r : Run) (s : List ℕ) where
    pub dealing_numbers : P (dealing_number r.setup r.dealings s)
    unfolding dealing_number dealing_refusal
    dealing_numbers =
        or_next_case P _ _
        (or_next_case P _ _ (head_numbers _ _ s) (ask _ 7 _ refl (ask _ 6 0 refl (each 0 refl))))
        (ask _ 12 0 refl (each 0 refl))

    pub go_numbers : P (go_number r.setup.n r.setup.t r.dealings.count r.b s)
    unfolding go_number
    go_numbers = ask _ 11 _ refl (ask _ 2 _ refl (ask _ 17 0 refl (each 0 refl)))

    pub response_numbers : P (response_number r.b r.setup r.dealings r.complaints r.challenges r.responses s)
    unfolding response_number response_refusal
    response_numbers =
        or_next_case P _ _
        (or_next_case P _ _ (head_numbers _ _ s) (ask _ 6 0 refl (each 0 refl)))
        (ask _ 12 _ refl (ask _ 14 _ refl (ask _ 15 0 refl (each 0 refl))))

    complaint_numbers : P 13 → P (complaint_number r.setup r.dealings r.complaints s)
    unfolding complaint_number
    complaint_numbers p = or_next_case P _ _ (complaint_refusals r.setup.n s) (ask _ 12 _ refl (require_case P _ 13 0 p (each 0 refl)))

-- Every answer is one of the documents' numbers, the largest of which is 17.
pub number_max : (r : Run) (s : List ℕ) → (step_of r s).number ≤ 17
unfolding step_of handler_at handled challenges_refusal shifted_refusal
number_max r s = go (tag_of s)
  where
    few : (k : ℕ) → common k ≡ true → k ≤ 17
    few k e = leb-true k 17 (and_left (leb k 17) _ e)

    at : (g : Tag) (h : Handler) (k : ℕ) (next : Run) → handled h r s ≡ answered r k next → k ≤ 17 → (handled (at_stage g (stage_of r) h) r s).number ≤ 17
    at g h k next e l =
        stage_case (λ (y : Reply). y.number ≤ 17) g h r s (λ z. omega (arith, ap (λ (y : Reply). y.number) e, answered_number r k next)) (λ z. omega arith)

    go : (g : Tag) → (handled (handler_at g (stage_of r)) r s).number ≤ 17
    go SU = at SU TakeSetup _ (after_setup false s) refl (setup_numbers _ few s)
    go SX = at SX TakeWaiting _ (after_setup true s) refl (setup_numbers _ few s)
    go DE = at DE TakeDealing _ (after_dealing r s) refl (dealing_numbers _ few r s)
    go GO = at GO TakeGo _ (after_go r) refl (go_numbers _ few r s)
    go VE = at VE TakeComplaint _ (after_complaint r s) refl (complaint_numbers _ few r s (omega arith))
    go CH = at CH TakeChallenges _ (after_challenges r s) refl (scalars_numbers _ few _ _ s)
    go CS = at CS TakeShifted _ (after_shifted r s) refl (scalars_numbers _ few _ _ s)
    go RE = at RE TakeResponse _ (after_response r s) refl (response_numbers _ few r s)
    go unknown = omega arith
