-- What a row does to a run at stage 4 or past it: all that rows are tested against is kept, and only the test of its numbers is left where nothing else
-- refuses it. Assumes nothing.
use Rattle.std.specs.Prelude.{◌≡◌, Bool, true, false, List, ℕ, ◌+◌, ◌≤◌, ◌<◌, eqb}
use Rattle.std.proofs.Math.Path.{refl, ap}
use Rattle.std.proofs.Common.{sym, ◌∙◌, arith}
use Rattle.std.proofs.Math.Decide.{ℕ_discrete}
use Rattle.lists.specs.Tests.{require}
use Rattle.lists.specs.TestLaws.{pick_case, require_true, require_false}
use Rattle.parameters.specs.Definitions.{quorum}
use Rattle.parameters.specs.ParameterLaws.{batch_pos}
use Rattle.records.specs.Tags.{Tag, SU, SX, DE, GO, VE, CH, CS, RE, unknown, code, tag_of}
use Rattle.stages.specs.declared.Handler.{Handler}
use Rattle.stages.specs.declared.Handler.TheVariants.{TakeSetup, TakeWaiting, TakeDealing, TakeGo, TakeComplaint, TakeChallenges, TakeShifted, TakeResponse}
use Rattle.stages.specs.Definitions.{taken_at, at_stage, handler_at}
use Rattle.verification.specs.Definitions.{row_passes}
use Rattle.response.proofs.ResponseLaws.{left_tested}
use Rattle.run.specs.declared.Run.{Run}
use Rattle.run.specs.Runs.{well_formed, stage_of}
use Rattle.run.specs.RunLaws.{formed_of, fits_gone, stage_least, stage_live}
use Rattle.run.specs.Steps.{with_row, finished, after_response, refused, answered, handled, step_of, untaken_by, untaken}
use Rattle.run.specs.StepLaws.{off_stage, at_stage_is}

-- the tag of a row, by its code
pub row_code : (g : Tag) → code g ≡ 5 → g ≡ RE
row_code SU f = absurd (omega (arith, f))
row_code SX f = absurd (omega (arith, f))
row_code DE f = absurd (omega (arith, f))
row_code GO f = absurd (omega (arith, f))
row_code VE f = absurd (omega (arith, f))
row_code CH f = absurd (omega (arith, f))
row_code CS f = absurd (omega (arith, f))
row_code RE f = refl
row_code unknown f = absurd (omega (arith, f))

-- a run at stage 4 is well formed
pub formed_four : (r : Run) → stage_of r ≡ 4 → well_formed r ≡ true
formed_four r e = (stage_live r 4 e (omega arith) (omega arith)).1

-- and has signatures
pub stage_batch : (r : Run) → stage_of r ≡ 4 → 0 < r.b
stage_batch r e =
    let live = stage_live r 4 e (omega arith) (omega arith) in
    let formed = formed_of r live.1 in
    let gone = fits_gone _ _ _ _ _ formed.batch_fits_true (omega (arith, live.0)) in
    omega (arith, batch_pos formed.bounds gone.0, gone.1)

-- ---- what is kept

pub record Kept (r next : Run) : Type 0 where
  pub b_same : next.b ≡ r.b
  pub setup_same : next.setup ≡ r.setup
  pub dealings_same : next.dealings ≡ r.dealings
  pub complaints_same : next.complaints ≡ r.complaints
  pub challenges_same : next.challenges ≡ r.challenges
  pub late : 4 ≤ stage_of next

pub kept_start : (r : Run) → stage_of r ≡ 4 → Kept r r
kept_start r e =
    record {
      b_same = refl;
      setup_same = refl;
      dealings_same = refl;
      complaints_same = refl;
      challenges_same = refl;
      late = omega arith;
    }

module _ {r next : Run} (k : Kept r next) (s : List ℕ) where
  -- with one row more, done or not
  pub kept_response : Kept r (after_response next s)
  unfolding after_response finished with_row
  kept_response =
      pick_case (Kept r) (eqb (next.responses.count + 1) (quorum next.setup.t next.setup.a)) (finished (with_row next s)) (with_row next s)
      (λ e. moved (finished (with_row next s)) refl refl refl refl refl (omega arith))
      (λ e. moved (with_row next s) refl refl refl refl refl (omega arith))
    where
      moved : (z : Run) → z.b ≡ next.b → z.setup ≡ next.setup → z.dealings ≡ next.dealings → z.complaints ≡ next.complaints → z.challenges ≡ next.challenges
          → 4 ≤ z.stage → Kept r z
      moved z b e d c h l =
          record {
            b_same = b ∙ k.b_same;
            setup_same = e ∙ k.setup_same;
            dealings_same = d ∙ k.dealings_same;
            complaints_same = c ∙ k.complaints_same;
            challenges_same = h ∙ k.challenges_same;
            late = stage_least 4 z (omega arith) (omega arith) l;
          }

-- ---- what refuses a row without a test of its numbers

module _ (r : Run) (s : List ℕ) where
  -- by its tag
  pub by_unknown : code (tag_of s) ≡ 0 → untaken r s ≡ 1
  unfolding untaken handler_at untaken_by
  by_unknown = go (tag_of s)
    where
      go : (g : Tag) → code g ≡ 0 → untaken_by (handler_at g (stage_of r)) r s ≡ 1
      go SU e = absurd (omega (arith, e))
      go SX e = absurd (omega (arith, e))
      go DE e = absurd (omega (arith, e))
      go GO e = absurd (omega (arith, e))
      go VE e = absurd (omega (arith, e))
      go CH e = absurd (omega (arith, e))
      go CS e = absurd (omega (arith, e))
      go RE e = absurd (omega (arith, e))
      go unknown e = refl

  -- at another stage than the one that takes a tag
  elsewhere : (g : Tag) (h : Handler) → (stage_of r ≡ taken_at g → ⊥) → untaken_by (at_stage g (stage_of r) h) r s ≡ 11
  unfolding untaken_by
  elsewhere g h n = ap (λ (x : Handler). untaken_by x r s) (off_stage g r h n)

  pub by_other : 4 ≤ stage_of r → (code (tag_of s) ≡ 0 → ⊥) → (code (tag_of s) ≡ 5 → ⊥) → untaken r s ≡ 11
  unfolding untaken handler_at taken_at
  by_other l = go (tag_of s)
    where
      go : (g : Tag) → (code g ≡ 0 → ⊥) → (code g ≡ 5 → ⊥) → untaken_by (handler_at g (stage_of r)) r s ≡ 11
      go SU n m = elsewhere SU TakeSetup (λ z. omega arith)
      go SX n m = elsewhere SX TakeWaiting (λ z. omega arith)
      go DE n m = elsewhere DE TakeDealing (λ z. omega arith)
      go GO n m = elsewhere GO TakeGo (λ z. omega arith)
      go VE n m = elsewhere VE TakeComplaint (λ z. omega arith)
      go CH n m = elsewhere CH TakeChallenges (λ z. omega arith)
      go CS n m = elsewhere CS TakeShifted (λ z. omega arith)
      go RE n m = absurd (m refl)
      go unknown n m = absurd (n refl)

  -- an RE by the stage
  row_tag : code (tag_of s) ≡ 5 → tag_of s ≡ RE
  row_tag = row_code (tag_of s)

  pub by_stage : code (tag_of s) ≡ 5 → (stage_of r ≡ 4 → ⊥) → untaken r s ≡ 11
  unfolding untaken handler_at taken_at
  by_stage e n = ap (λ (g : Tag). untaken_by (handler_at g (stage_of r)) r s) (row_tag e) ∙ elsewhere RE TakeResponse n

  -- and at stage 4 by what it holds
  pub by_row : code (tag_of s) ≡ 5 → stage_of r ≡ 4 → untaken r s ≡ untaken_by TakeResponse r s
  unfolding untaken handler_at taken_at
  by_row e z = ap (λ (g : Tag). untaken_by (handler_at g (stage_of r)) r s) (row_tag e) ∙ ap (λ (h : Handler). untaken_by h r s) (at_stage_is RE r TakeResponse z)

-- ---- a row that nothing refuses but its numbers

-- its numbers pass
abbrev pub passes_at : Run → List ℕ → Bool
passes_at r s = row_passes r.b r.setup r.dealings r.complaints r.challenges s

-- after the rows before it a row is tested against what it was
pub same_test : {r next : Run} → Kept r next → (s : List ℕ) → passes_at r s ≡ passes_at next s
same_test k s = rw (k.b_same, k.setup_same, k.dealings_same, k.complaints_same, k.challenges_same) refl

module _ (r : Run) (s : List ℕ) (l : 4 ≤ stage_of r) where
  -- a tag that another stage takes is refused
  eleven : (g : Tag) (h : Handler) → (stage_of r ≡ taken_at g → ⊥) → untaken_by (at_stage g (stage_of r) h) r s ≡ 0 → ⊥
  eleven g h n e = absurd (omega (arith, elsewhere r s g h n, e))

  -- so is every earlier one
  early : (g : Tag) (h : Handler) → taken_at g < 4 → untaken_by (at_stage g (stage_of r) h) r s ≡ 0 → ⊥
  early g h m = eleven g h (λ z. omega arith)

  -- an RE at stage 4 is answered by the test
  row_left : untaken_by TakeResponse r s ≡ 0 → handled TakeResponse r s ≡ answered r (require (passes_at r s) 15 0) (after_response r s)
  unfolding untaken_by handled
  row_left e = ap (λ (k : ℕ). answered r k (after_response r s)) (left_tested r.b r.setup r.dealings r.complaints r.challenges r.responses s e)

  pub only_row : untaken r s ≡ 0 → (stage_of r ≡ 4) × (step_of r s ≡ answered r (require (passes_at r s) 15 0) (after_response r s))
  unfolding untaken step_of handler_at taken_at untaken_by
  only_row = go (tag_of s)
    where
      row : Dec (stage_of r ≡ 4) → untaken_by (at_stage RE (stage_of r) TakeResponse) r s ≡ 0
          → (stage_of r ≡ 4) × (handled (at_stage RE (stage_of r) TakeResponse) r s ≡ answered r (require (passes_at r s) 15 0) (after_response r s))
      row (yes z) e =
          let at = at_stage_is RE r TakeResponse z in
          (z, ap (λ (h : Handler). handled h r s) at ∙ row_left (sym (ap (λ (h : Handler). untaken_by h r s) at) ∙ e))
      row (no z) e = absurd (eleven RE TakeResponse z e)

      go : (g : Tag) → untaken_by (handler_at g (stage_of r)) r s ≡ 0
          → (stage_of r ≡ 4) × (handled (handler_at g (stage_of r)) r s ≡ answered r (require (passes_at r s) 15 0) (after_response r s))
      go SU e = absurd (early SU TakeSetup (omega arith) e)
      go SX e = absurd (early SX TakeWaiting (omega arith) e)
      go DE e = absurd (early DE TakeDealing (omega arith) e)
      go GO e = absurd (early GO TakeGo (omega arith) e)
      go VE e = absurd (early VE TakeComplaint (omega arith) e)
      go CH e = absurd (early CH TakeChallenges (omega arith) e)
      go CS e = absurd (early CS TakeShifted (omega arith) e)
      go RE e = row (ℕ_discrete (stage_of r) 4) e
      go unknown e = absurd (omega (arith, e))

  -- it is taken where its numbers pass, and else refused
  pub row_taken : untaken r s ≡ 0 → passes_at r s ≡ true → step_of r s ≡ record { run = after_response r s; number = 0 }
  row_taken e p = (only_row e).1 ∙ ap (λ (k : ℕ). answered r k (after_response r s)) (require_true (passes_at r s) 15 0 p)

  pub row_refused : untaken r s ≡ 0 → passes_at r s ≡ false → step_of r s ≡ refused r 15
  row_refused e p = (only_row e).1 ∙ ap (λ (k : ℕ). answered r k (after_response r s)) (require_false (passes_at r s) 15 0 p)
