-- What every record keeps: the run has no more parties than a committee. Assumes nothing.
use Rattle.std.specs.Prelude.{◌≡◌, Bool, List, [], ◌∷◌, ℕ, ◌+◌, ◌≤◌, eqb}
use Rattle.std.proofs.Math.Bool.{true, false}
use Rattle.std.proofs.Common.{arith}
use Rattle.parameters.specs.Definitions.{most_parties, quorum}
use Rattle.records.specs.Tags.{tag_of}
use Rattle.refusals.specs.Refusals.{setup_refusal, challenges_refusal, shifted_refusal}
use Rattle.refusals.proofs.RefusalLaws.{setup_passed}
use Rattle.dealing.specs.Definitions.{no_setup, setup_of, dealing_number}
use Rattle.complaint.specs.Definitions.{complaint_number}
use Rattle.response.specs.Definitions.{response_number}
use Rattle.stages.specs.Definitions.{handler_at, go_number}
use Rattle.stages.specs.declared.Handler.{Handler}
use Rattle.stages.specs.declared.Handler.TheVariants.{TakeSetup, TakeWaiting, TakeDealing, TakeGo, TakeComplaint, TakeChallenges, TakeShifted, TakeResponse, Refuse}
use Rattle.run.specs.declared.Run.{Run}
use Rattle.run.specs.Steps.{Reply}
use Rattle.run.specs.Runs.{begun, fresh, stage_of}
use Rattle.run.specs.Steps.{after_setup, after_dealing, after_go, after_complaint, after_challenges, after_shifted, with_row, finished, after_response, answered, handled, step_of, after_from}
use Rattle.run.specs.StepLaws.{answered_case}
use Rattle.lists.specs.TestLaws.{pick_case}

abbrev pub Few : Run → Type 0
Few r = r.setup.n ≤ most_parties

pub few_fresh : Few fresh
unfolding fresh begun no_setup
few_fresh = omega arith

-- the setup of a record that is not refused
few_setup : (waits : Bool) (s : List ℕ) → setup_refusal s ≡ 0 → Few (after_setup waits s)
unfolding after_setup begun setup_of
few_setup waits s e = (setup_passed s e).bounds.n_max

module _ (r : Run) (h : Few r) (s : List ℕ) where
  few_answered : (k : ℕ) (next : Run) → (k ≡ 0 → Few next) → Few (answered r k next).run
  few_answered k next f = answered_case (λ (y : Reply). Few y.run) r k next f (λ e. h)

  few_response : Few (after_response r s)
  unfolding after_response finished with_row
  few_response = pick_case Few (eqb (r.responses.count + 1) (quorum r.setup.t r.setup.a)) (finished (with_row r s)) (with_row r s) (λ e. h) (λ e. h)

  few_handled : (a : Handler) → Few (handled a r s).run
  unfolding handled after_dealing after_go after_complaint after_challenges after_shifted
  few_handled TakeSetup = few_answered (setup_refusal s) (after_setup false s) (few_setup false s)
  few_handled TakeWaiting = few_answered (setup_refusal s) (after_setup true s) (few_setup true s)
  few_handled TakeDealing = few_answered (dealing_number r.setup r.dealings s) (after_dealing r s) (λ e. h)
  few_handled TakeGo = few_answered (go_number r.setup.n r.setup.t r.dealings.count r.b s) (after_go r) (λ e. h)
  few_handled TakeComplaint = few_answered (complaint_number r.setup r.dealings r.complaints s) (after_complaint r s) (λ e. h)
  few_handled TakeChallenges = few_answered (challenges_refusal r.setup.a r.b s) (after_challenges r s) (λ e. h)
  few_handled TakeShifted = few_answered (shifted_refusal r.setup.a r.b s) (after_shifted r s) (λ e. h)
  few_handled TakeResponse = few_answered (response_number r.b r.setup r.dealings r.complaints r.challenges r.responses s) (after_response r s) (λ e. few_response)
  few_handled (Refuse k) = h

  pub few_step : Few (step_of r s).run
  unfolding step_of
  few_step = few_handled (handler_at (tag_of s) (stage_of r))

pub few_after : (r : Run) → Few r → (l : List (List ℕ)) → Few (after_from r l)
unfolding after_from
few_after r h [] = h
few_after r h (s ∷ l) = few_after (step_of r s).run (few_step r h s) l
