-- What a writer that does not refuse knows.
-- Assumes nothing.
use Rattle.std.specs.Prelude.{◌≡◌, true, List, ℕ, ◌*◌, ◌^◌, ◌≤◌, ◌<◌, length}
use Rattle.std.proofs.Math.Path.{fun_ext}
use Rattle.std.proofs.Common.{arith, le_trans, pow_mono, eqb-true}
use Rattle.lists.specs.TestLaws.{passed}
use Rattle.sets.specs.Masks.{has, mask_of}
use Rattle.sets.proofs.MaskLaws.{has_minus, mask_of_lt}
use Rattle.records.specs.Tags.{mask_width, complaint_length, response_length}
use Rattle.records.proofs.RecordLaws.{width_enough}
use Rattle.parameters.specs.ParameterLaws.{party_of}
use Rattle.dealing.specs.Definitions.{may_blame}
use Rattle.complaint.specs.Definitions.{blamed_by, unblamed}
use Rattle.verification.specs.Definitions.{transcript}
use Rattle.run.specs.declared.Run.{Run}
use Rattle.run.specs.Runs.{well_formed, stage_of, transcript_of}
use Rattle.run.specs.RunLaws.{formed_of, stage_live}
use Rattle.answers.specs.Answers.{unblamed_of}
use Rattle.writers.specs.Writers.{complaint_refused, shares_refused, response_refused}

-- ---- VE

pub record ComplaintFits (r : Run) (j room : ℕ) : Type 0 where
  pub stage : stage_of r ≡ 2
  pub formed : well_formed r ≡ true
  pub party_pos : 0 < j
  pub party_max : j ≤ r.setup.n
  pub exact : room ≡ complaint_length r.setup.n

pub complaint_fits : (r : Run) (j room : ℕ) → complaint_refused r j room ≡ 0 → ComplaintFits r j room
unfolding complaint_refused
complaint_fits r j room e =
    let p = passed _ _ _ e (omega arith) in
    let q = passed _ _ _ p.1 (omega arith) in
    let v = passed _ _ _ q.1 (omega arith) in
    let stage : stage_of r ≡ 2 = eqb-true _ _ p.0 in
    let party = party_of r.setup.n j q.0 in
    record {
      stage = stage;
      formed = (stage_live r 2 stage (omega arith) (omega arith)).1;
      party_pos = party.0;
      party_max = party.1;
      exact = eqb-true _ _ v.0;
    }

-- the mask of the wrong dealers is as wide as a mask of n parties
pub mask_lt : (r : Run) (j : ℕ) → well_formed r ≡ true → mask_of r.setup.n (may_blame r.dealings j) < 2 ^ (8 * mask_width r.setup.n)
mask_lt r j w = le_trans (mask_of_lt r.setup.n (may_blame r.dealings j)) (pow_mono (width_enough (formed_of r w).bounds.n_max))

-- ---- RE

-- QUAL as a mask has the members of QUAL
pub qual_is : (r : Run) → has (unblamed_of r) ≡ (transcript_of r).qual
unfolding unblamed_of unblamed transcript_of transcript
qual_is r = fun_ext (has_minus r.dealings.dealers (blamed_by r.setup.n r.complaints))

pub record ResponseFits (r : Run) (j : ℕ) (shares : List ℕ) (room : ℕ) : Type 0 where
  pub stage : stage_of r ≡ 4
  pub formed : well_formed r ≡ true
  pub party_pos : 0 < j
  pub party_max : j ≤ r.setup.n
  pub holder : has r.complaints.holders j ≡ true
  pub count : length shares ≡ r.setup.n
  pub exact : room ≡ response_length r.b

pub response_fits : (r : Run) (j key : ℕ) (shares : List ℕ) (room : ℕ) → response_refused r j key shares room ≡ 0 → ResponseFits r j shares room
unfolding response_refused shares_refused
response_fits r j key shares room e =
    let p = passed _ _ _ e (omega arith) in
    let q = passed _ _ _ p.1 (omega arith) in
    let h = passed _ _ _ q.1 (omega arith) in
    let v = passed _ _ _ h.1 (omega arith) in
    let w = passed _ _ _ v.1 (omega arith) in
    let x = passed _ _ _ w.1 (omega arith) in
    let stage : stage_of r ≡ 4 = eqb-true _ _ p.0 in
    let party = party_of r.setup.n j q.0 in
    record {
      stage = stage;
      formed = (stage_live r 4 stage (omega arith) (omega arith)).1;
      party_pos = party.0;
      party_max = party.1;
      holder = search;
      count = eqb-true _ _ (search);
      exact = eqb-true _ _ (search);
    }
