-- Complaint rows over lists: which are refused with 13, and whom the writer's row blames. Assumes nothing.
use Rattle.std.specs.Prelude.{◌≡◌, ◌≢◌, ◌↔◌, Bool, ◌||◌, List, get_or}
use Rattle.std.proofs.Math.Path.{refl, sym, ap, ap₂}
use Rattle.std.proofs.Common.{◌∙◌}
use Rattle.std.proofs.Math.Bool.{true, false, not, ◌&&◌}
use Rattle.std.proofs.lemmas.Bool.{false≢true}
use Prim.Native.Nat.{ℕ, zero, suc, ◌+◌, ◌-◌, ◌≤◌, ◌<◌}
use native.Mathlib.Omega.{arith}
use Rattle.std.proofs.Math.Decide.{dec_lt}
use Rattle.std.proofs.Math.Dec.{eqb}
use borrow.Author.Tests.{eqb-true}
use Rattle.lists.specs.Tests.{pick, all_to, require, or_next}
use Rattle.lists.specs.TestLaws.{one_fails, no_both}
use Rattle.sets.specs.Masks.{has, mask_of}
use Rattle.sets.proofs.MaskLaws.{has_none, has_mask_of, has_above, has_le, mask_of_lt}
use Rattle.field.specs.Definitions.{scalar, element}
use Rattle.records.specs.Bytes.{word, sender}
use Rattle.records.specs.Tags.{Tag, SU, SX, DE, GO, VE, CH, CS, RE, unknown, tag_of, shares_from, mask_at}
use Rattle.refusals.specs.Refusals.{setup_refusal, complaint_refusal, challenges_refusal, shifted_refusal}
use Rattle.refusals.proofs.RefusalLaws.{complaint_passed}
use Rattle.protocol.specs.Transcript.{valid_share}
use Rattle.run.specs.declared.Run.{Run}
use Rattle.run.specs.Runs.{stage_of, transcript_of}
use Rattle.dealing.specs.Definitions.{dealing_number, wrong_shares, may_blame}
use Rattle.complaint.specs.Definitions.{complaint_number}
use Rattle.run.specs.Steps.{after_setup, after_dealing, after_go, after_complaint, after_challenges, after_shifted, after_response, handled, step_of, after}
use Rattle.stages.specs.Definitions.{taken_at, at_stage, handler_at, go_number}
use Rattle.run.specs.StepLaws.{step_taken, stage_case, answered_number}
use Rattle.run.specs.NumberLaws.{common, setup_numbers, scalars_numbers, complaint_refusals, dealing_numbers, go_numbers, response_numbers}
use Rattle.run.specs.Steps.{Reply}
use Rattle.stages.specs.declared.Handler.{Handler}
use Rattle.stages.specs.declared.Handler.TheVariants.{TakeSetup, TakeWaiting, TakeDealing, TakeGo, TakeComplaint, TakeChallenges, TakeShifted, TakeResponse}
use Rattle.verification.specs.Definitions.{transcript}
use Rattle.response.specs.Definitions.{response_number}
use Rattle.writers.specs.Writers.{complaint_bytes}
use Rattle.writers.proofs.Accepted.{complaint_mask}
use Rattle.promises.specs.Lists.{accepted, of_tag, sent_by, record_of, dealer, read, stage_by}
use Rattle.promises.proofs.ListLaws.{record_of_all, record_of_sender}
use Rattle.promises.proofs.SenderLaws.{has_pos}
use Rattle.promises.proofs.MadeLaws.{made_live, made_well_formed, made_hold, made_alike}
use Rattle.promises.proofs.Stages.{stage_by_accepted}
use Rattle.promises.proofs.Answers.{answers}
use Rattle.promises.specs.Claims.{FalseComplaint, share_valid, wronged}

-- ---- the kept wrong shares are those of the accepted DE

module _ (l : List (List ℕ)) (p : 0 < (after l).stage) where
  dealer_is : (i : ℕ) → has (after l).dealings.dealers i ≡ dealer (accepted l) i
  unfolding dealer
  dealer_is i = (made_live l p).dealings.senders.mask_is i

  wrong_shares_are : (i j : ℕ) → 0 < i → 0 < j → j ≤ (after l).setup.n → dealer (accepted l) i ≡ true → has (get_or (after l).dealings.wrong (i - 1) 0) j ≡ not (share_valid (accepted l) i j)
  unfolding wrong_shares dealer read transcript_of transcript share_valid
  wrong_shares_are i j q k m e =
      let s = record_of i (of_tag DE (accepted l)) in
      ap (λ (w : ℕ). has w j) ((made_live l p).dealings.wrong_is i q e)
      ∙ has_mask_of (after l).setup.n _ j k m
      ∙ ap₂ (λ (t a : ℕ). not (valid_share t a (λ v. element (word s 4 v)) j (scalar (word s (shares_from t a) (j - 1))))) (made_alike l p).t_same (made_alike l p).a_same

  wronged_is : (j i : ℕ) → 0 < j → j ≤ (after l).setup.n → may_blame (after l).dealings j i ≡ wronged (accepted l) j i
  unfolding may_blame wronged
  wronged_is j i k m = go (dealer (accepted l) i) refl
    where
      go : (b : Bool) → dealer (accepted l) i ≡ b → may_blame (after l).dealings j i ≡ wronged (accepted l) j i
      go true e = ap₂ ◌&&◌ (dealer_is i) (wrong_shares_are i j (has_pos _ i (dealer_is i ∙ e)) k m e)
      go false e =
          ap (λ (b : Bool). b && has (get_or (after l).dealings.wrong (i - 1) 0) j) (dealer_is i ∙ e)
          ∙ sym (ap (λ (b : Bool). b && not (share_valid (accepted l) i j)) e)

  -- no dealer is above n
  dealer_max : (i : ℕ) → has (after l).dealings.dealers i ≡ true → i ≤ (after l).setup.n
  dealer_max i e =
      let sent : sent_by i (of_tag DE (accepted l)) ≡ true = sym ((made_live l p).dealings.senders.mask_is i) ∙ e in
      omega (arith, (record_of_all i _ (of_tag DE (accepted l)) (made_live l p).dealings.senders.parties sent).1, record_of_sender i (of_tag DE (accepted l)) sent)

  -- the mask of those whom j may blame
  mask_is : (j i : ℕ) → has (mask_of (after l).setup.n (may_blame (after l).dealings j)) i ≡ may_blame (after l).dealings j i
  unfolding may_blame
  mask_is j zero = has_none _ ∙ rw has_none
  mask_is j (suc i) = go (dec_lt (after l).setup.n (suc i))
    where
      go : Dec ((after l).setup.n < suc i) → has (mask_of (after l).setup.n (may_blame (after l).dealings j)) (suc i) ≡ may_blame (after l).dealings j (suc i)
      go (yes k) = has_above _ (after l).setup.n (suc i) (mask_of_lt (after l).setup.n (may_blame (after l).dealings j)) k ∙ absent (has (after l).dealings.dealers (suc i)) refl
        where
          absent : (b : Bool) → has (after l).dealings.dealers (suc i) ≡ b → false ≡ (b && has (get_or (after l).dealings.wrong (suc i - 1) 0) j)
          absent true e = absurd (omega (arith, dealer_max (suc i) e))
          absent false e = refl
      go (no k) = has_mask_of (after l).setup.n (may_blame (after l).dealings j) (suc i) (omega arith) (omega arith)

-- ---- what is refused with 13

-- none of the numbers that any record may be answered with
other : (k : ℕ) → common k ≡ true → k ≢ 13
other k e z = false≢true (ap common (sym z) ∙ e)

-- the number of a record at its stage is 13 where its handler says so
at_13 : (g : Tag) (a : Handler) (r : Run) (s : List ℕ) → (handled (at_stage g (stage_of r) a) r s).number ≡ 13 → (stage_of r ≡ taken_at g) × ((handled a r s).number ≡ 13)
at_13 g a r s = stage_case (λ (y : Reply). y.number ≡ 13 → (stage_of r ≡ taken_at g) × ((handled a r s).number ≡ 13)) g a r s (λ e n. (e, n)) (λ e n. absurd (omega arith))

module _ (r : Run) (s : List ℕ) where
  -- every blamed dealer may be blamed
  abbrev blames_rightly : Bool
  blames_rightly = all_to r.setup.n (λ i. not (has (mask_at r.setup.n s) (i + 1)) || may_blame r.dealings (sender s) (i + 1))

  complaint_13 : complaint_number r.setup r.dealings r.complaints s ≡ 13 → (complaint_refusal r.setup.n s ≡ 0) × (has r.complaints.holders (sender s) ≡ false) × (blames_rightly ≡ false)
  unfolding complaint_number or_next require
  complaint_13 e = go (complaint_refusal r.setup.n s) refl (eqb (complaint_refusal r.setup.n s) 0) refl (has r.complaints.holders (sender s)) refl blames_rightly refl e
    where
      go : (k : ℕ) → complaint_refusal r.setup.n s ≡ k → (b : Bool) → eqb k 0 ≡ b → (c : Bool) → has r.complaints.holders (sender s) ≡ c → (d : Bool) → blames_rightly ≡ d
          → pick b (require (not c) 12 (require d 13 0)) k ≡ 13 → (complaint_refusal r.setup.n s ≡ 0) × (has r.complaints.holders (sender s) ≡ false) × (blames_rightly ≡ false)
      go k x true y true z d w e = absurd (omega arith)
      go k x true y false z true w e = absurd (omega arith)
      go k x true y false z false w e = (x ∙ eqb-true k 0 y, z, w)
      go k x false y c z d w e = absurd (complaint_refusals _ other r.setup.n s (x ∙ e))

  complaint_is : complaint_refusal r.setup.n s ≡ 0 → has r.complaints.holders (sender s) ≡ false → blames_rightly ≡ false → complaint_number r.setup r.dealings r.complaints s ≡ 13
  unfolding complaint_number or_next require
  complaint_is x z w = rw (x, z, w)

-- some number fails a test that not all pass
one_of : (n : ℕ) (f : ℕ → Bool) → all_to n f ≡ false → (i : ℕ) × (i < n) × (f i ≡ false)
unfolding all_to
one_of zero f e = absurd (no_both refl e)
one_of (suc n) f e = go (all_to n f) refl (f n) refl e (one_of n f)
  where
    go : (b : Bool) → all_to n f ≡ b → (c : Bool) → f n ≡ c → (b && c) ≡ false → (all_to n f ≡ false → (i : ℕ) × (i < n) × (f i ≡ false)) → (i : ℕ) × (i < suc n) × (f i ≡ false)
    go true x true y e ih = absurd (no_both refl e)
    go true x false y e ih = (n, omega arith, y)
    go false x c y e ih = let w = ih x in (w.0, omega (arith, w.1), w.2)

-- a blame that is not founded
unfounded_of : (b c : Bool) → (not b || c) ≡ false → (b ≡ true) × (c ≡ false)
unfounded_of true c e = (refl, e)
unfounded_of false c e = absurd (no_both refl e)

module _ (l : List (List ℕ)) (s : List ℕ) where
  false_of : tag_of s ≡ VE → stage_of (after l) ≡ 2 → complaint_number (after l).setup (after l).dealings (after l).complaints s ≡ 13 → FalseComplaint l s
  unfolding transcript_of transcript
  false_of tag stage e =
      let at : stage_by (accepted l) ≡ 2 = sym (answers l).stage ∙ stage in
      let p : 0 < (after l).stage = omega (arith, stage_by_accepted l) in
      let c = complaint_13 (after l) s e in
      let passed = complaint_passed _ s c.0 in
      let w = one_of (after l).setup.n _ c.2 in
      let x = unfounded_of _ _ w.2 in
      record {
        tag = tag;
        stage = at;
        formed = rw (← (made_alike l p).n_same) c.0;
        new = sym (made_hold l p (sender s)) ∙ c.1;
        blamed = w.0 + 1;
        blames = rw (← (made_alike l p).n_same) x.0;
        unfounded = sym (wronged_is l p (sender s) (w.0 + 1) passed.sender_pos passed.sender_max) ∙ x.1;
      }

  false_refused : FalseComplaint l s → (step_of (after l) s).number ≡ 13
  unfolding taken_at at_stage handler_at handled transcript_of transcript
  false_refused h =
      let p : 0 < (after l).stage = omega (arith, stage_by_accepted l, h.stage) in
      let formed : complaint_refusal (after l).setup.n s ≡ 0 = rw (made_alike l p).n_same h.formed in
      let passed = complaint_passed _ s formed in
      let i = h.blamed in
      let blames : has (mask_at (after l).setup.n s) i ≡ true = rw (made_alike l p).n_same h.blames in
      let pos : 0 < i = has_pos (mask_at (after l).setup.n s) i blames in
      let back : i - 1 + 1 ≡ i = omega arith in
      let below : i ≤ (after l).setup.n = has_le (mask_at (after l).setup.n s) (after l).setup.n i passed.mask blames in
      let e : complaint_number (after l).setup (after l).dealings (after l).complaints s ≡ 13 = complaint_is (after l) s formed (made_hold l p (sender s) ∙ h.new)
      (one_fails _ (i - 1) (after l).setup.n (omega arith) (rw (back, blames, wronged_is l p (sender s) i passed.sender_pos passed.sender_max, h.unfounded))) in
      ap (λ (y : Reply). y.number) (step_taken VE (after l) s h.tag ((answers l).stage ∙ h.stage)) ∙ answered_number (after l) _ (after_complaint (after l) s) ∙ e

  number_13 : (k : Tag) → tag_of s ≡ k → (handled (handler_at k (stage_of (after l))) (after l) s).number ≡ 13 → FalseComplaint l s
  unfolding handler_at handled taken_at challenges_refusal shifted_refusal
  number_13 SU m e = absurd (setup_numbers _ other s (sym (answered_number (after l) (setup_refusal s) (after_setup false s)) ∙ (at_13 SU TakeSetup (after l) s e).1))
  number_13 SX m e = absurd (setup_numbers _ other s (sym (answered_number (after l) (setup_refusal s) (after_setup true s)) ∙ (at_13 SX TakeWaiting (after l) s e).1))
  number_13 DE m e =
      absurd (dealing_numbers _ other (after l) s (sym (answered_number (after l) (dealing_number (after l).setup (after l).dealings s) (after_dealing (after l) s)) ∙ (at_13 DE TakeDealing (after l) s e).1))
  number_13 GO m e =
      absurd (go_numbers _ other (after l) s (sym (answered_number (after l) (go_number (after l).setup.n (after l).setup.t (after l).dealings.count (after l).b s) (after_go (after l)))
      ∙ (at_13 GO TakeGo (after l) s e).1))
  number_13 VE m e =
      let c = at_13 VE TakeComplaint (after l) s e in
      false_of m c.0 (sym (answered_number (after l) (complaint_number (after l).setup (after l).dealings (after l).complaints s) (after_complaint (after l) s)) ∙ c.1)
  number_13 CH m e =
      absurd (scalars_numbers _ other _ _ s (sym (answered_number (after l) (challenges_refusal (after l).setup.a (after l).b s) (after_challenges (after l) s))
      ∙ (at_13 CH TakeChallenges (after l) s e).1))
  number_13 CS m e =
      absurd (scalars_numbers _ other _ _ s (sym (answered_number (after l) (shifted_refusal (after l).setup.a (after l).b s) (after_shifted (after l) s))
      ∙ (at_13 CS TakeShifted (after l) s e).1))
  number_13 RE m e =
      absurd (response_numbers _ other (after l) s (sym (answered_number (after l) (response_number (after l).b (after l).setup (after l).dealings (after l).complaints (after l).challenges (after l).responses s) (after_response (after l) s))
      ∙ (at_13 RE TakeResponse (after l) s e).1))
  number_13 unknown m e = absurd (omega arith)

-- After every list, a record is refused with 13 exactly where it is a false complaint.
pub refused_13 : (l : List (List ℕ)) (s : List ℕ) → ((step_of (after l) s).number ≡ 13) ↔ FalseComplaint l s
unfolding step_of
refused_13 l s = (number_13 l s (tag_of s) refl, false_refused l s)

-- ---- the writer's complaint row

-- At stage 2, the complaint row that the writer makes for j blames exactly the accepted dealers whose share for j is not valid.
pub written_blames : (l : List (List ℕ)) → stage_by (accepted l) ≡ 2 → (j : ℕ) → 0 < j → j ≤ (read (accepted l)).n
    → (i : ℕ) → has (mask_at (read (accepted l)).n (complaint_bytes (after l) j)) i ≡ wronged (accepted l) j i
unfolding transcript_of transcript
written_blames l e j q m i =
    let p : 0 < (after l).stage = omega (arith, stage_by_accepted l) in
    let k : j ≤ (after l).setup.n = omega (arith, (made_alike l p).n_same) in
    ap (λ (z : ℕ). has z i) (ap (λ (n : ℕ). mask_at n (complaint_bytes (after l) j)) (sym (made_alike l p).n_same) ∙ complaint_mask (after l) j (made_well_formed l p)) ∙ mask_is l p j i ∙ wronged_is l p j i q k
