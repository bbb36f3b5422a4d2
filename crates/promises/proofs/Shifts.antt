-- What the shift is of a list (document 02, request 2.1): none before stage 4 and none with a CH, where R(u,k) and φ(u,k) are those of document 01; and
-- a CS whose shift is 0 is alike to a CH with the same challenges. Response rows are taken and written alike whatever the shift. Assumes nothing.
use Rattle.std.specs.Prelude.{◌≡◌, refl, Bool, true, false, List, [], ◌∷◌, ℕ, ◌<◌, zero, suc, eqb}
use Rattle.std.proofs.Common.{sym, ap, ◌∙◌, arith}
use Rattle.lists.specs.Tests.{pick}
use Rattle.field.specs.declared.Scalar.{Scalar}
use Rattle.field.specs.Definitions.{plus}
use Rattle.field.proofs.ScalarLaws.{plus_zero}
use Rattle.interpolation.proofs.PointLaws.{scalar_at_range}
use Rattle.records.specs.Bytes.{word}
use Rattle.records.specs.Tags.{SU, SX, DE, VE, CH, CS, RE, tag_of}
use Rattle.protocol.specs.Transcript.{nonce, shifted_nonce, dealer_factor, combined_at, challenge_at, response_at, passes}
use Rattle.protocol.proofs.ShiftLaws.{shift_none}
use Rattle.protocol.specs.Alike.{Alike}
use Rattle.verification.specs.Definitions.{transcript}
use Rattle.response.specs.Definitions.{response_number}
use Rattle.run.specs.declared.Run.{Run}
use Rattle.run.specs.Steps.{Reply}
use Rattle.refusals.specs.declared.Refusal.TheVariants.{WrongStage}
use Rattle.stages.specs.declared.Handler.TheVariants.{TakeResponse, Refuse}
use Rattle.run.specs.Runs.{well_formed, stage_of, transcript_of}
use Rattle.run.specs.Steps.{handled, after_response, step_of, after}
use Rattle.stages.specs.Definitions.{taken_at, at_stage, handler_at}
use Rattle.run.specs.StepLaws.{step_tag, answered_number}
use Rattle.writers.specs.Writers.{shares_refused, response_refused, response_for, response_bytes}
use Rattle.promises.specs.Lists.{accepted, of_tag, first, dealer, bad, qualified, read, phi, shifted_phi, challenge_by, shift_by}
use Rattle.promises.specs.Claims.{reshifted}
use Rattle.promises.proofs.InvariantStepLaws.{invariant_after}

-- no CS is accepted before stage 4
pub shift_late : (l : List (List ℕ)) → (after l).stage < 4 → of_tag CS (accepted l) ≡ []
unfolding of_tag
shift_late l m = go (after l).stage refl
  where
    go : (g : ℕ) → (after l).stage ≡ g → of_tag CS (accepted l) ≡ []
    go zero e = ap (of_tag CS) ((invariant_after l).start e)
    go (suc g) e = (((invariant_after l).live (omega arith)).stage.early m).1

-- where a list of accepted records has no CS, the pair is that of document 01
pub unshifted : (l : List (List ℕ)) → of_tag CS l ≡ [] → (u k : ℕ) → (shifted_nonce (read l) u k ≡ nonce (read l) u k) × (shifted_phi l u k ≡ phi l u k)
unfolding read shift_by shifted_phi phi
unshifted l e u k = (shift_none (read l) u k (ap shift_by e), ap (λ m. plus (phi l u k) (shift_by m)) e ∙ plus_zero (phi l u k) (scalar_at_range _ _ _ _))

-- Two lists of accepted records with the same SU or SX, DE and VE, one with the CH s and the other with the CS z, whose shift is 0 and whose challenges are
-- those of s.
pub alike_unshifted : (l m : List (List ℕ)) → of_tag SU l ≡ of_tag SU m → of_tag SX l ≡ of_tag SX m → of_tag DE l ≡ of_tag DE m → of_tag VE l ≡ of_tag VE m
    → (s z : List ℕ) → of_tag CH l ≡ s ∷ [] → of_tag CS l ≡ [] → of_tag CS m ≡ z ∷ [] → word z 4 0 ≡ 0 → ((x : ℕ) → word z 8 x ≡ word s 4 x) → Alike (read l) (read m)
unfolding read qualified dealer bad challenge_by shift_by first
alike_unshifted l m su sx de ve s z ch none cs zero-shift same =
    record {
      n_same = rw (su, sx);
      t_same = rw (su, sx);
      a_same = rw (su, sx);
      m_same = rw de;
      key_same = λ j p. rw (su, sx);
      qual_same = λ i p q. rw (su, sx, de, ve);
      commitment_same = λ i v p q e c. rw de;
      challenge_same = λ u k p q c d. rw (su, sx, ch, none, cs, same);
      shift_same = rw (none, cs, zero-shift);
    }

-- ---- response rows

row_number : (r : Run) (shift : Scalar) (s : List ℕ) →
    let z = reshifted shift r in
    response_number z.b z.setup z.dealings z.complaints z.challenges z.responses s ≡ response_number r.b r.setup r.dealings r.complaints r.challenges r.responses s
unfolding reshifted response_number transcript passes response_at combined_at dealer_factor challenge_at
row_number r shift s = refl

-- a run with another shift answers an RE with the same number
pub row_any_shift : (r : Run) (shift : Scalar) (s : List ℕ) → tag_of s ≡ RE → (step_of (reshifted shift r) s).number ≡ (step_of r s).number
unfolding reshifted handler_at at_stage handled stage_of well_formed
row_any_shift r shift s e =
    ap (λ (y : Reply). y.number) (step_tag RE z s e)
    ∙ go (eqb (stage_of r) (taken_at RE))
    ∙ sym (ap (λ (y : Reply). y.number) (step_tag RE r s e))
  where
    z : Run
    z = reshifted shift r

    go : (b : Bool) → (handled (pick b TakeResponse (Refuse WrongStage)) z s).number ≡ (handled (pick b TakeResponse (Refuse WrongStage)) r s).number
    go true =
        answered_number z (response_number z.b z.setup z.dealings z.complaints z.challenges z.responses s) (after_response z s)
        ∙ row_number r shift s
        ∙ sym (answered_number r (response_number r.b r.setup r.dealings r.complaints r.challenges r.responses s) (after_response r s))
    go false = refl

-- and from a run with another shift the writer refuses and makes the same
pub written_any_shift : (r : Run) (shift : Scalar) (j key : ℕ) (shares : List ℕ) (room : ℕ)
    → (response_refused (reshifted shift r) j key shares room ≡ response_refused r j key shares room) × (response_bytes (reshifted shift r) j key shares ≡ response_bytes r j key shares)
unfolding reshifted response_refused shares_refused stage_of well_formed response_bytes response_for challenge_at transcript_of transcript
written_any_shift r shift j key shares room = (refl, refl)
