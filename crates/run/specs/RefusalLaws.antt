-- A refusal leaves the run as it was, and one that is found without a step is the step's. Assumes nothing.
use Rattle.std.specs.Prelude.{◌≡◌, refl, Bool, true, false, List, ℕ, ◌<◌, eqb}
use Rattle.std.proofs.Common.{arith, ne_eqb}
use Rattle.lists.specs.Tests.{pick, require, or_next}
use Rattle.records.specs.Tags.{tag_of}
use Rattle.refusals.specs.Refusals.{setup_refusal, challenges_refusal, shifted_refusal}
use Rattle.dealing.specs.Definitions.{dealing_number}
use Rattle.complaint.specs.Definitions.{complaint_number}
use Rattle.response.specs.Definitions.{response_number}
use Rattle.response.proofs.ResponseLaws.{found_untested}
use Rattle.run.specs.declared.Run.{Run}
use Rattle.stages.specs.declared.Handler.{Handler}
use Rattle.stages.specs.declared.Handler.TheVariants.{TakeSetup, TakeWaiting, TakeDealing, TakeGo, TakeComplaint, TakeChallenges, TakeShifted, TakeResponse, Refuse}
use Rattle.run.specs.Runs.{stage_of}
use Rattle.run.specs.Steps.{after_setup, after_dealing, after_go, after_complaint, after_challenges, after_shifted, after_response, refused, answered, handled, step_of, untaken_by, untaken}
use Rattle.stages.specs.Definitions.{handler_at, go_number}

-- a record at its stage that is refused
answered_refused : (r : Run) (k : ℕ) (next : Run) → ((answered r k next).number ≡ 0 → ⊥) → (answered r k next).run ≡ r
answered_refused r k next = go (eqb k 0)
  where
    go : (b : Bool) → ((pick b (record { run = next; number = 0 }) (refused r k)).number ≡ 0 → ⊥) → (pick b (record { run = next; number = 0 }) (refused r k)).run ≡ r
    go true h = absurd (h refl)
    go false h = refl

pub refusal_keeps : (r : Run) (s : List ℕ) → ((step_of r s).number ≡ 0 → ⊥) → (step_of r s).run ≡ r
unfolding step_of handled
refusal_keeps r s = go (handler_at (tag_of s) (stage_of r))
  where
    go : (h : Handler) → ((handled h r s).number ≡ 0 → ⊥) → (handled h r s).run ≡ r
    go TakeSetup n = answered_refused r (setup_refusal s) (after_setup false s) n
    go TakeWaiting n = answered_refused r (setup_refusal s) (after_setup true s) n
    go TakeDealing n = answered_refused r (dealing_number r.setup r.dealings s) (after_dealing r s) n
    go TakeGo n = answered_refused r (go_number r.setup.n r.setup.t r.dealings.count r.b s) (after_go r) n
    go TakeComplaint n = answered_refused r (complaint_number r.setup r.dealings r.complaints s) (after_complaint r s) n
    go TakeChallenges n = answered_refused r (challenges_refusal r.setup.a r.b s) (after_challenges r s) n
    go TakeShifted n = answered_refused r (shifted_refusal r.setup.a r.b s) (after_shifted r s) n
    go TakeResponse n = answered_refused r (response_number r.b r.setup r.dealings r.complaints r.challenges r.responses s) (after_response r s) n
    go (Refuse k) n = refl

-- a refusal that is found is the one that is answered
answered_number : (r : Run) {k m : ℕ} (next : Run) → (k ≡ 0 → ⊥) → m ≡ k → answered r m next ≡ refused r k
answered_number r {k} next n e = rw (e, ne_eqb k 0 n)

-- two tests asked one after the other, or in a row
pub asked_last : (k : ℕ) (b : Bool) (m x : ℕ) → 0 < m → or_next (or_next k (require b m 0)) x ≡ or_next k (require b m x)
unfolding or_next require
asked_last k b m x p = go (eqb k 0) refl b
  where
    go : (d : Bool) → eqb k 0 ≡ d → (b : Bool) → or_next (pick d (require b m 0) k) x ≡ pick d (require b m x) k
    go true e true = refl
    go true e false = rw (ne_eqb m 0 (λ z. omega arith))
    go false e b = rw e

pub untaken_refused : (r : Run) (s : List ℕ) → (untaken r s ≡ 0 → ⊥) → step_of r s ≡ refused r (untaken r s)
unfolding untaken step_of handled untaken_by dealing_number
untaken_refused r s = go (handler_at (tag_of s) (stage_of r))
  where
    go : (h : Handler) → (untaken_by h r s ≡ 0 → ⊥) → handled h r s ≡ refused r (untaken_by h r s)
    go TakeSetup n = answered_number r _ n refl
    go TakeWaiting n = answered_number r _ n refl
    go TakeDealing n = answered_number r _ n refl
    go TakeGo n = answered_number r _ n refl
    go TakeComplaint n = answered_number r _ n refl
    go TakeChallenges n = answered_number r _ n refl
    go TakeShifted n = answered_number r _ n refl
    go TakeResponse n = answered_number r _ n (found_untested _ _ _ _ _ _ _ n)
    go (Refuse k) n = refl
