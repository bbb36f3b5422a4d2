-- What a record does to the stage, before the sets are fixed and after; then it changes nothing that they are read from. Assumes nothing.
use Rattle.std.specs.Prelude.{◌≡◌, ◌⊎◌, List, [], ◌∷◌, ℕ, ◌+◌, ◌-◌, ◌≤◌, ◌<◌, eqb, ltb}
use Rattle.std.proofs.Math.Path.{refl, subst⁻¹}
use Rattle.std.proofs.Common.{◌∙◌, inl, inr, ⊎_elim, arith, leb-true, le-leb}
use Rattle.std.proofs.Math.Bool.{true, false}
use Rattle.std.proofs.lemmas.Bool.{lt-leb}
use Rattle.lists.specs.Tests.{pick}
use Rattle.lists.specs.TestLaws.{pick_case}
use Rattle.sets.specs.Masks.{has, count}
use Rattle.parameters.specs.Definitions.{quorum}
use Rattle.records.specs.Tags.{Tag, SU, SX, DE, GO, VE, CH, CS, RE, unknown, tag_of}
use Rattle.refusals.specs.Refusals.{setup_refusal, challenges_refusal, shifted_refusal}
use Rattle.dealing.specs.Definitions.{dealing_number}
use Rattle.complaint.specs.declared.Complaints.{Complaints}
use Rattle.complaint.specs.Definitions.{blamed_by, complaint_number, with_complaint, complaint_stage}
use Rattle.dealing.specs.declared.Setup.{Setup}
use Rattle.response.specs.Definitions.{response_number}
use Rattle.stages.specs.Definitions.{taken_at, at_stage, handler_at, dealing_stage, go_number}
use Rattle.stages.specs.declared.Handler.{Handler}
use Rattle.stages.specs.declared.Handler.TheVariants.{TakeSetup, TakeWaiting, TakeDealing, TakeGo, TakeComplaint, TakeChallenges, TakeShifted, TakeResponse}
use Rattle.run.specs.declared.Run.{Run}
use Rattle.run.specs.Steps.{Reply}
use Rattle.run.specs.Runs.{begun, stage_of}
use Rattle.run.specs.RunLaws.{stage_least}
use Rattle.run.specs.Steps.{after_setup, after_dealing, after_go, after_complaint, after_challenges, after_shifted, with_row, finished, after_response, answered, handled, step_of, after_from}
use Rattle.run.specs.StepLaws.{stage_case, answered_case}
use Rattle.answers.specs.Answers.{bad_of, unblamed_of, kept_sets, sets_of}
use Rattle.summary.specs.Consumed.{settled}

-- ---- the stage as a test

pub settled_late : (r : Run) → settled r ≡ true → 3 ≤ stage_of r
unfolding settled
settled_late r e = leb-true 3 (stage_of r) e

pub late_settled : (r : Run) → 3 ≤ stage_of r → settled r ≡ true
unfolding settled
late_settled r l = le-leb 3 (stage_of r) l

pub early_unsettled : (r : Run) → stage_of r < 3 → settled r ≡ false
unfolding settled
early_unsettled r l = lt-leb 3 (stage_of r) l

-- ---- once the sets are fixed

-- what a record keeps: what the sets are read from, that they are fixed; and it brings neither stage 3 nor stage 6
pub record Late (r next : Run) : Type 0 where
  pub setup_same : next.setup ≡ r.setup
  pub dealings_same : next.dealings ≡ r.dealings
  pub complaints_same : next.complaints ≡ r.complaints
  pub still : 3 ≤ stage_of next
  pub not_again : (next.stage ≡ 3) ⊎ (next.stage ≡ 6) → next.stage ≡ r.stage

module _ (r : Run) (s : List ℕ) (l : 3 ≤ stage_of r) where
  abbrev LateReply : Reply → Type 0
  LateReply y = Late r y.run

  late_same : Late r r
  late_same = record { setup_same = refl; dealings_same = refl; complaints_same = refl; still = l; not_again = λ e. refl }

  -- at stage 4 or 5, with challenges, responses and signatures of any kind
  late_next : (next : Run) → next.setup ≡ r.setup → next.dealings ≡ r.dealings → next.complaints ≡ r.complaints → 3 < next.stage → next.stage < 6 → Late r next
  late_next next e d c m k =
      record {
        setup_same = e;
        dealings_same = d;
        complaints_same = c;
        still = stage_least 3 next (omega arith) (omega arith) (omega arith);
        not_again = λ z. ⊎_elim (λ x. absurd (omega arith)) (λ x. absurd (omega arith)) z;
      }

  -- no earlier tag is taken
  late_refused : (g : Tag) (h : Handler) → taken_at g < 3 → LateReply (handled (at_stage g (stage_of r) h) r s)
  late_refused g h m = stage_case LateReply g h r s (λ e. absurd (omega arith)) (λ e. late_same)

  late_response : Late r (after_response r s)
  unfolding after_response finished with_row
  late_response =
      pick_case (Late r) (eqb (r.responses.count + 1) (quorum r.setup.t r.setup.a)) (finished (with_row r s)) (with_row r s)
      (λ e. late_next (finished (with_row r s)) refl refl refl (omega arith) (omega arith))
      (λ e. late_next (with_row r s) refl refl refl (omega arith) (omega arith))

  late_tag : (g : Tag) → LateReply (handled (handler_at g (stage_of r)) r s)
  unfolding handler_at taken_at handled after_challenges after_shifted
  late_tag SU = late_refused SU TakeSetup (omega arith)
  late_tag SX = late_refused SX TakeWaiting (omega arith)
  late_tag DE = late_refused DE TakeDealing (omega arith)
  late_tag GO = late_refused GO TakeGo (omega arith)
  late_tag VE = late_refused VE TakeComplaint (omega arith)
  late_tag CH =
      stage_case LateReply CH TakeChallenges r s
      (λ e. answered_case LateReply r (challenges_refusal r.setup.a r.b s) (after_challenges r s) (λ d. late_next (after_challenges r s) refl refl refl (omega arith) (omega arith)) (λ d. late_same))
      (λ e. late_same)
  late_tag CS =
      stage_case LateReply CS TakeShifted r s
      (λ e. answered_case LateReply r (shifted_refusal r.setup.a r.b s) (after_shifted r s) (λ d. late_next (after_shifted r s) refl refl refl (omega arith) (omega arith)) (λ d. late_same))
      (λ e. late_same)
  late_tag RE =
      stage_case LateReply RE TakeResponse r s
      (λ e. answered_case LateReply r (response_number r.b r.setup r.dealings r.complaints r.challenges r.responses s) (after_response r s) (λ d. late_response) (λ d. late_same))
      (λ e. late_same)
  late_tag unknown = late_same

  pub late_step : Late r (step_of r s).run
  unfolding step_of
  late_step = late_tag (tag_of s)

-- the sets are those of setup, dealings and complaint rows
late_sets : (r next : Run) → 3 ≤ stage_of r → Late r next → sets_of next ≡ sets_of r
unfolding sets_of kept_sets unblamed_of bad_of
late_sets r next l h = rw (le-leb 3 (stage_of r) l, le-leb 3 (stage_of next) h.still, h.setup_same, h.dealings_same, h.complaints_same)

-- what a list of records keeps
pub record LateAfter (r next : Run) : Type 0 where
  pub sets_same : sets_of next ≡ sets_of r
  pub setup_same : next.setup ≡ r.setup
  pub still : 3 ≤ stage_of next

pub late_after : (r : Run) → 3 ≤ stage_of r → (l : List (List ℕ)) → LateAfter r (after_from r l)
unfolding after_from
late_after r m [] = record { sets_same = refl; setup_same = refl; still = m }
late_after r m (s ∷ l) =
    let step = late_step r s m in
    let rest = late_after (step_of r s).run step.still l in
    record {
      sets_same = rest.sets_same ∙ late_sets r (step_of r s).run m step;
      setup_same = rest.setup_same ∙ step.setup_same;
      still = rest.still;
    }

-- ---- before the sets are fixed

-- up to stage 3, or stage 6
abbrev Reached : ℕ → Type 0
Reached k = (k ≤ 3) ⊎ (k ≡ 6)

dealing_reached : (n t m b : ℕ) → Reached (dealing_stage n t m b)
unfolding dealing_stage
dealing_reached n t m b =
    pick_case Reached (eqb b 0) 1 (pick (eqb m (n - t)) 2 1) (λ e. inl (omega arith)) (λ e. pick_case Reached (eqb m (n - t)) 2 1 (λ d. inl (omega arith)) (λ d. inl (omega arith)))

complaint_reached : (setup : Setup) (c : Complaints) → Reached (complaint_stage setup c)
unfolding complaint_stage
complaint_reached setup c =
    let many = ltb setup.t (count setup.n (has (blamed_by setup.n c))) in
    pick_case Reached (eqb c.count (setup.n - setup.t)) (pick many 6 3) 2 (λ e. pick_case Reached many 6 3 (λ d. inr refl) (λ d. inl (omega arith))) (λ e. inl (omega arith))

module _ (r : Run) (s : List ℕ) (l : stage_of r < 3) (m : r.stage < 3) where
  abbrev ReachedReply : Reply → Type 0
  ReachedReply y = Reached y.run.stage

  reached_same : Reached r.stage
  reached_same = inl (omega arith)

  -- a record that is taken at its stage
  reached_by : (g : Tag) (h : Handler) (k : ℕ) (next : Run) → handled h r s ≡ answered r k next → Reached next.stage → ReachedReply (handled (at_stage g (stage_of r) h) r s)
  reached_by g h k next e n =
      stage_case ReachedReply g h r s (λ d. subst⁻¹ ReachedReply e (answered_case ReachedReply r k next (λ c. n) (λ c. reached_same))) (λ d. reached_same)

  -- no later tag is taken
  reached_refused : (g : Tag) (h : Handler) → 2 < taken_at g → ReachedReply (handled (at_stage g (stage_of r) h) r s)
  reached_refused g h k = stage_case ReachedReply g h r s (λ e. absurd (omega arith)) (λ e. reached_same)

  reached_tag : (g : Tag) → ReachedReply (handled (handler_at g (stage_of r)) r s)
  unfolding handler_at taken_at handled after_setup begun after_dealing after_go after_complaint
  reached_tag SU = reached_by SU TakeSetup (setup_refusal s) (after_setup false s) refl (inl (omega arith))
  reached_tag SX = reached_by SX TakeWaiting (setup_refusal s) (after_setup true s) refl (inl (omega arith))
  reached_tag DE = reached_by DE TakeDealing (dealing_number r.setup r.dealings s) (after_dealing r s) refl (dealing_reached r.setup.n r.setup.t (r.dealings.count + 1) r.b)
  reached_tag GO = reached_by GO TakeGo (go_number r.setup.n r.setup.t r.dealings.count r.b s) (after_go r) refl (inl (omega arith))
  reached_tag VE = reached_by VE TakeComplaint (complaint_number r.setup r.dealings r.complaints s) (after_complaint r s) refl (complaint_reached r.setup (with_complaint r.setup.n r.complaints s))
  reached_tag CH = reached_refused CH TakeChallenges (omega arith)
  reached_tag CS = reached_refused CS TakeShifted (omega arith)
  reached_tag RE = reached_refused RE TakeResponse (omega arith)
  reached_tag unknown = reached_same

  -- the next stage is at most 3, or 6
  pub early_step : Reached (step_of r s).run.stage
  unfolding step_of
  early_step = reached_tag (tag_of s)
