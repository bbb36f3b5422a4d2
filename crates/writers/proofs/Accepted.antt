-- Every record that the writers make is accepted (document 01, "Acceptance is certain thus"). Assumes nothing.
use Rattle.std.specs.Prelude.{◌≡◌, refl, true, false, not, List, [], ◌∷◌, ℕ, ◌+◌, ◌<◌, length}
use Rattle.std.proofs.Common.{sym, ap, ◌∙◌, append-nil, arith, le-ltb}
use Rattle.std.proofs.Math.Bool.{not-or_self}
use Rattle.lists.specs.TestLaws.{all_make, require_pass, next_pass}
use Rattle.sets.specs.Masks.{has, mask_of}
use Rattle.sets.proofs.MaskLaws.{mask_of_lt, has_mask_of}
use Rattle.field.specs.Definitions.{scalar, generator, IsScalar, raise}
use Rattle.field.proofs.ScalarLaws.{scalar_word, plus_range}
use Rattle.interpolation.specs.Definitions.{party}
use Rattle.records.specs.Bytes.{byte_at, wide_at, word}
use Rattle.records.specs.Tags.{letter_d, letter_e, letter_r, letter_s, letter_u, letter_v, tag_of, mask_width, complaint_length, response_length, mask_at}
use Rattle.refusals.proofs.RefusalLaws.{complaint_passes, response_passes}
use Rattle.encoding.specs.Bytes.{bytes_of}
use Rattle.encoding.proofs.ByteLaws.{length_bytes, length_fours, word_last, wide_at_is}
use Rattle.protocol.specs.Transcript.{key_at}
use Rattle.dealer.specs.Dealt.{setup_refused, setup_bytes, dealing_refused, dealing_bytes}
use Rattle.dealer.proofs.DealtLaws.{setup_unrefused, dealing_unrefused}
use Rattle.dealing.specs.Definitions.{key_in, dealing_number, may_blame}
use Rattle.complaint.specs.Definitions.{complaint_number}
use Rattle.verification.specs.Definitions.{transcript}
use Rattle.response.specs.Definitions.{response_number}
use Rattle.run.specs.declared.Run.{Run}
use Rattle.run.specs.Steps.{Reply}
use Rattle.run.specs.Runs.{fresh, begun, well_formed, stage_of, transcript_of}
use Rattle.run.specs.Steps.{handled, step_of}
use Rattle.stages.specs.Definitions.{taken_at, at_stage, handler_at}
use Rattle.run.specs.StepLaws.{step_taken, answered_number}
use Rattle.writers.specs.Writers.{ValidShares, complaint_refused, complaint_bytes, response_refused, response_for, response_bytes}
use Rattle.writers.proofs.WriterLaws.{complaint_fits, mask_lt, response_fits}
use Rattle.writers.proofs.HonestLaws.{number_passes}

-- the tag is the first two bytes
tag_first : (x y : ℕ) (rest : List ℕ) → tag_of (x ∷ y ∷ rest) ≡ tag_of (x ∷ y ∷ [])
unfolding tag_of byte_at
tag_first x y rest = rw (le-ltb (length (x ∷ y ∷ rest)) 2 (omega arith))

-- a record that begins with a tag, at the stage that takes it
step_first : (x y : ℕ) (rest : List ℕ) (r : Run) → let g = tag_of (x ∷ y ∷ []) in
    stage_of r ≡ taken_at g → step_of r (x ∷ y ∷ rest) ≡ handled (handler_at g (taken_at g)) r (x ∷ y ∷ rest)
step_first x y rest r e = step_taken _ r _ (tag_first x y rest) e

-- ---- SU: by a fresh run

fresh_stage : stage_of fresh ≡ 0
unfolding stage_of fresh begun
fresh_stage = refl

pub setup_accepted : (n t a s : ℕ) (shares : List ℕ) (room : ℕ) → setup_refused n t a s shares room ≡ 0 → (step_of fresh (setup_bytes n t a s shares)).number ≡ 0
unfolding setup_bytes taken_at handler_at at_stage handled tag_of byte_at
setup_accepted n t a s shares room e =
    ap (λ (p : Reply). p.number) (step_first letter_s letter_u _ fresh fresh_stage)
    ∙ answered_number fresh _ _
    ∙ setup_unrefused n t a s shares room e

-- ---- DE: at stage 1 of a run with the same n, t, a in which i has no dealing

pub dealing_accepted : (r : Run) (i : ℕ) (values : List ℕ) (room : ℕ)
    → stage_of r ≡ 1
    → dealing_refused r.setup.n r.setup.t r.setup.a i values room ≡ 0
    → has r.dealings.dealers i ≡ false
    → (step_of r (dealing_bytes r.setup.n r.setup.t r.setup.a i values)).number ≡ 0
unfolding taken_at handler_at at_stage handled tag_of byte_at dealing_bytes dealing_number
dealing_accepted r i values room stage e new =
    let n = r.setup.n in
    let t = r.setup.t in
    let a = r.setup.a in
    ap (λ (p : Reply). p.number) (step_first letter_d letter_e _ r stage)
    ∙ answered_number r _ _
    ∙ next_pass _ _
    (dealing_unrefused n t a i values room e)
    (require_pass _ _ _ (ap not new) refl)

-- ---- VE: by the run it was made from, if j has no verdict there

pub complaint_mask : (r : Run) (j : ℕ) → well_formed r ≡ true → mask_at r.setup.n (complaint_bytes r j) ≡ mask_of r.setup.n (may_blame r.dealings j)
unfolding complaint_bytes mask_at
complaint_mask r j w =
    let width = mask_width r.setup.n in
    let mask = mask_of r.setup.n (may_blame r.dealings j) in
    ap (λ (s : List ℕ). wide_at width (letter_v ∷ letter_e ∷ j ∷ 0 ∷ s) 4) (sym (append-nil (bytes_of width mask)))
    ∙ wide_at_is width (letter_v ∷ letter_e ∷ j ∷ 0 ∷ []) mask [] (mask_lt r j w)

pub complaint_accepted : (r : Run) (j room : ℕ) → complaint_refused r j room ≡ 0 → has r.complaints.holders j ≡ false → (step_of r (complaint_bytes r j)).number ≡ 0
unfolding taken_at handler_at at_stage handled tag_of byte_at complaint_bytes complaint_number complaint_length
complaint_accepted r j room e new =
    let n = r.setup.n in
    let fits = complaint_fits r j room e in
    let mask = complaint_mask r j fits.formed in
    ap (λ (p : Reply). p.number) (step_first letter_v letter_e _ r fits.stage)
    ∙ answered_number r _ _
    ∙ next_pass _ _
    (complaint_passes n (complaint_bytes r j)
    (record {
      sender_pos = fits.party_pos;
      sender_max = fits.party_max;
      mask = rw mask (mask_of_lt n (may_blame r.dealings j));
      long = omega (arith, length_bytes (mask_width n) (mask_of n (may_blame r.dealings j)));
      reserved = refl;
    }))
    (require_pass _ _ _ (ap not new)
    (require_pass _ _ _
    (all_make n _ (λ i l. rw (mask, has_mask_of n (may_blame r.dealings j) (i + 1) (omega arith) (omega arith)) (not-or_self (may_blame r.dealings j (i + 1)))))
    refl))

-- ---- RE: by the run it was made from, if 4^F(j) = S_j, the shares of QUAL are right and j has no accepted response

module _ (r : Run) (j key : ℕ) (shares : List ℕ) where
  number_range : (u : ℕ) → IsScalar (response_for r j key shares u)
  unfolding response_for
  number_range u = plus_range _ _

  response_word : (x : ℕ) → x < r.b → word (response_bytes r j key shares) 4 x ≡ (response_for r j key shares (x + 1)).0
  unfolding response_bytes
  response_word x l =
      word_last (letter_r ∷ letter_e ∷ j ∷ 0 ∷ []) r.b (λ u. (response_for r j key shares (u + 1)).0) x l (scalar_word _ (number_range (x + 1)))

  response_length_is : length (response_bytes r j key shares) ≡ response_length r.b
  unfolding response_bytes response_length
  response_length_is = omega (arith, length_fours r.b (λ u. (response_for r j key shares (u + 1)).0))

pub response_accepted : (r : Run) (j key : ℕ) (shares : List ℕ) (room : ℕ)
    → response_refused r j key shares room ≡ 0
    → has r.responses.responders j ≡ false
    → raise generator (scalar key) ≡ key_at r.setup.t r.setup.a (key_in r.setup) (party j)
    → ValidShares (transcript_of r) j shares
    → (step_of r (response_bytes r j key shares)).number ≡ 0
unfolding taken_at handler_at at_stage handled tag_of byte_at transcript_of transcript response_for response_bytes response_number
response_accepted r j key shares room e new own right =
    let fits = response_fits r j key shares room e in
    ap (λ (p : Reply). p.number) (step_first letter_r letter_e _ r fits.stage)
    ∙ answered_number r _ _
    ∙ next_pass _ _
    (response_passes r.setup.n r.b (response_bytes r j key shares)
    (record {
      sender_pos = fits.party_pos;
      sender_max = fits.party_max;
      scalars = λ x l. rw (response_word r j key shares x l) (number_range r j key shares (x + 1));
      long = response_length_is r j key shares;
      reserved = refl;
    }))
    (require_pass _ _ _ (ap not new)
    (require_pass _ _ _ fits.holder
    (require_pass _ _ _
    (all_make r.b _ (λ x l. rw (response_word r j key shares x l) (number_passes (transcript_of r) j shares right key own (x + 1))))
    refl)))
