-- The parts of the invariant with no record, and with one more: what an accepted DE, VE and RE tells, and what it adds. Assumes nothing.
use Rattle.std.specs.Prelude.{◌≡◌, Bool, true, not, ◌||◌, List, [], ℕ, ◌+◌, ◌-◌, ◌^◌, ◌≤◌, ◌<◌}
use Rattle.std.proofs.Common.{sym, ap, ◌∙◌, arith, pow_pos}
use Rattle.std.proofs.Math.Decide.{ℕ_discrete, dec_lt}
use Rattle.std.proofs.Math.ListN.{length-set}
use Rattle.lists.specs.Tests.{all_to}
use Rattle.lists.specs.TestLaws.{all_at, no_both, not_yes, and_left, passed, or_next_zero}
use Rattle.lists.specs.MemberLaws.{all_map, all_snoc}
use Rattle.lists.specs.StoreLaws.{length_stored, length_filled}
use Rattle.sets.specs.Masks.{has, insert}
use Rattle.sets.proofs.MaskLaws.{has_insert, has_above}
use Rattle.field.specs.Definitions.{scalar, element, identity}
use Rattle.parameters.specs.Definitions.{most_parties, places, quorum, batch}
use Rattle.records.specs.Bytes.{sender}
use Rattle.records.specs.Tags.{mask_at}
use Rattle.refusals.specs.Refusals.{dealing_refusal}
use Rattle.parameters.specs.ParameterLaws.{Bounds, quorum_max}
use Rattle.refusals.proofs.RefusalLaws.{dealing_passed, complaint_passed, response_passed}
use Rattle.dealing.specs.declared.Setup.{Setup}
use Rattle.dealing.specs.declared.Dealings.{Dealings}
use Rattle.complaint.specs.declared.Complaints.{Complaints}
use Rattle.response.specs.declared.Responses.{Responses}
use Rattle.run.specs.declared.Run.{Run}
use Rattle.dealing.specs.Definitions.{no_dealings, dealing_number, wrong_shares, with_dealing, may_blame}
use Rattle.complaint.specs.Definitions.{no_complaints, complaint_number, with_complaint, blamed_by, mask_by}
use Rattle.verification.specs.Definitions.{transcript}
use Rattle.response.specs.Definitions.{no_responses, response_number, with_response}
use Rattle.run.specs.Runs.{transcript_of}
use Rattle.complaint.specs.ComplaintLaws.{blamed_none, blamed_more, mask_none, mask_zero, mask_own, mask_other}
use Rattle.promises.specs.Lists.{some}
use Rattle.promises.proofs.ListLaws.{snoc, some_snoc}
use Rattle.promises.proofs.SenderLaws.{New, has_pos, senders_none, slots_none, marks_none, senders_more, slots_more, marks_more}
use Rattle.promises.proofs.InvariantLaws.{DealingsOf, ComplaintsOf, ResponsesOf, PassingRow}

-- ---- no record

pub no_dealings_of : (setup : Setup) → DealingsOf setup no_dealings []
unfolding no_dealings some
no_dealings_of setup =
    record {
      commitments_size = length_filled places identity;
      wrong_size = length_filled {A = ℕ} most_parties 0;
      senders = senders_none setup.n;
      slots = slots_none element identity (quorum setup.t setup.a) no_dealings.commitments;
      wrong_is = marks_none (wrong_shares setup) no_dealings.wrong;
      admitted = tt;
    }

pub no_complaints_of : (setup : Setup) (dealers : ℕ) → ComplaintsOf setup dealers no_complaints []
unfolding no_complaints some
no_complaints_of setup dealers =
    record {
      senders = senders_none setup.n;
      masks_size = length_filled {A = ℕ} most_parties 0;
      masks_are = marks_none (mask_at setup.n) no_complaints.masks;
      masks_width = λ j. rw (mask_none j) (pow_pos setup.n);
      blamed_is = blamed_none setup.n;
      founded = tt;
    }

pub no_responses_of : (b : ℕ) (setup : Setup) → ResponsesOf b setup no_responses []
unfolding no_responses
no_responses_of b setup =
    record {
      numbers_size = length_filled places (scalar 0);
      senders = senders_none setup.n;
      slots = slots_none scalar (scalar 0) b no_responses.numbers;
    }

-- ---- DE

pub dealing_new : (r : Run) (s : List ℕ) → dealing_number r.setup r.dealings s ≡ 0
    → (dealing_refusal r.setup.n r.setup.t r.setup.a s ≡ 0) × New r.setup.n r.dealings.dealers s
unfolding dealing_number
dealing_new r s e =
    let c = or_next_zero _ _ e in
    let p = dealing_passed _ _ _ s c.0 in
    (c.0, record { sender_pos = p.sender_pos; sender_max = p.sender_max; unsent = not_yes _ (passed _ 12 0 c.1 (omega arith)).0 })

module _ (setup : Setup) (d : Dealings) (s : List ℕ) (l : List (List ℕ)) (b : Bounds setup.n setup.t setup.a) (c : New setup.n d.dealers s) (h : DealingsOf setup d l) where
  pub dealings_more : dealing_refusal setup.n setup.t setup.a s ≡ 0 → DealingsOf setup (with_dealing setup d s) (snoc l s)
  unfolding with_dealing
  dealings_more e =
      record {
        commitments_size = length_stored d.commitments _ _ _ ∙ h.commitments_size;
        wrong_size = length-set d.wrong _ _ ∙ h.wrong_size;
        senders = senders_more s b.n_max c h.senders;
        slots = slots_more s b.n_max c h.senders element identity _ d.commitments (omega (arith, quorum_max b)) h.commitments_size h.slots;
        wrong_is = marks_more s b.n_max c h.senders (wrong_shares setup) d.wrong h.wrong_size h.wrong_is;
        admitted = all_snoc _ l s h.admitted e;
      }

-- ---- VE

-- one more dealer
pub complaints_kept : (setup : Setup) (dealers : ℕ) (c : Complaints) (s : List ℕ) (l : List (List ℕ)) → setup.n ≤ most_parties → New setup.n dealers s
    → ComplaintsOf setup dealers c l → ComplaintsOf setup (insert dealers (sender s)) c l
complaints_kept setup dealers c s l b new h =
    record {
      senders = h.senders;
      masks_size = h.masks_size;
      masks_are = h.masks_are;
      masks_width = h.masks_width;
      blamed_is = h.blamed_is;
      founded = all_map _ _ (λ x f i e. rw (has_insert dealers (sender s) i new.sender_pos (omega arith), f i e)) l h.founded;
    }

-- a mask that passes blames accepted dealers alone
blames_dealers : (n j mask : ℕ) (d : Dealings) → mask < 2 ^ n → all_to n (λ i. not (has mask (i + 1)) || may_blame d j (i + 1)) ≡ true
    → (i : ℕ) → has mask i ≡ true → has d.dealers i ≡ true
unfolding may_blame
blames_dealers n j mask d l e i h = and_left (has d.dealers i) _ (go (dec_lt n i))
  where
    pos : 0 < i
    pos = has_pos mask i h

    back : i - 1 + 1 ≡ i
    back = omega (arith, pos)

    go : Dec (n < i) → may_blame d j i ≡ true
    go (yes k) = absurd (no_both h (has_above mask n i l k))
    go (no k) = rw (back, h) at (all_at n _ e (i - 1) (omega (arith, pos)))

pub complaint_new : (r : Run) (s : List ℕ) → complaint_number r.setup r.dealings r.complaints s ≡ 0
    → New r.setup.n r.complaints.holders s × ((i : ℕ) → has (mask_at r.setup.n s) i ≡ true → has r.dealings.dealers i ≡ true) × (mask_at r.setup.n s < 2 ^ r.setup.n)
unfolding complaint_number
complaint_new r s e =
    let c = or_next_zero _ _ e in
    let p = complaint_passed _ s c.0 in
    let p₁ = passed _ 12 _ c.1 (omega arith) in
    let p₂ = passed _ 13 0 p₁.1 (omega arith) in
    (record { sender_pos = p.sender_pos; sender_max = p.sender_max; unsent = not_yes _ p₁.0 }, blames_dealers r.setup.n (sender s) (mask_at r.setup.n s) r.dealings p.mask p₂.0, p.mask)

pub complaints_more : (setup : Setup) (dealers : ℕ) (c : Complaints) (s : List ℕ) (l : List (List ℕ)) → setup.n ≤ most_parties → New setup.n c.holders s
    → ((i : ℕ) → has (mask_at setup.n s) i ≡ true → has dealers i ≡ true) → mask_at setup.n s < 2 ^ setup.n
    → ComplaintsOf setup dealers c l → ComplaintsOf setup dealers (with_complaint setup.n c s) (snoc l s)
unfolding with_complaint
complaints_more setup dealers c s l b new blames fits h =
    record {
      senders = senders_more s b new h.senders;
      masks_size = length-set c.masks _ _ ∙ h.masks_size;
      masks_are = marks_more s b new h.senders (mask_at setup.n) c.masks h.masks_size h.masks_are;
      masks_width = λ j. narrow j (ℕ_discrete j (sender s)) (dec_lt 0 j);
      blamed_is = λ i. more i ∙ ap (λ (z : Bool). z || has (mask_at setup.n s) i) (h.blamed_is i) ∙ sym (some_snoc (λ x. has (mask_at setup.n x) i) l s);
      founded = all_snoc _ l s h.founded blames;
    }
  where
    more : (i : ℕ) → has (blamed_by setup.n (with_complaint setup.n c s)) i ≡ (has (blamed_by setup.n c) i || has (mask_at setup.n s) i)
    more = blamed_more setup.n c s h.masks_size b new.sender_pos new.sender_max new.unsent

    few : sender s ≤ most_parties
    few = omega (arith, new.sender_max)

    narrow : (j : ℕ) → Dec (j ≡ sender s) → Dec (0 < j) → mask_by (with_complaint setup.n c s) j < 2 ^ setup.n
    narrow j (yes e) p = rw (e, mask_own setup.n c s h.masks_size new.sender_pos few new.unsent) fits
    narrow j (no e) (yes p) = rw (mask_other setup.n c s h.masks_size new.sender_pos few j p e) (h.masks_width j)
    narrow j (no e) (no p) = let none : j ≡ 0 = omega arith in rw (none, mask_zero (with_complaint setup.n c s)) (pow_pos setup.n)

-- ---- RE

pub response_new : (r : Run) (s : List ℕ) → r.b ≡ batch r.dealings.count r.setup.t → response_number r.b r.setup r.dealings r.complaints r.challenges r.responses s ≡ 0
    → New r.setup.n r.responses.responders s × PassingRow (transcript_of r) r.complaints.holders s
unfolding response_number transcript_of transcript
response_new r s fixed e =
    let c = or_next_zero _ _ e in
    let p = response_passed _ _ s c.0 in
    let p₁ = passed _ 12 _ c.1 (omega arith) in
    let p₂ = passed _ 14 _ p₁.1 (omega arith) in
    let p₃ = passed _ 15 0 p₂.1 (omega arith) in
    (record { sender_pos = p.sender_pos; sender_max = p.sender_max; unsent = not_yes _ p₁.0 }, record { held = p₂.0; passing = λ x l. all_at _ _ p₃.0 x (omega (arith, fixed)) })

pub responses_more : (b : ℕ) (setup : Setup) (p : Responses) (s : List ℕ) (l : List (List ℕ)) → setup.n ≤ most_parties → b ≤ setup.n → New setup.n p.responders s
    → ResponsesOf b setup p l → ResponsesOf b setup (with_response b p s) (snoc l s)
unfolding with_response
responses_more b setup p s l n_max few c h =
    record {
      numbers_size = length_stored p.numbers _ _ _ ∙ h.numbers_size;
      senders = senders_more s n_max c h.senders;
      slots = slots_more s n_max c h.senders scalar (scalar 0) b p.numbers (omega arith) h.numbers_size h.slots;
    }
