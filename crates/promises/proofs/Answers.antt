-- What the run that a list makes answers: its stage, HOLD, QUAL and BAD, R(u,k) and φ(u,k), for every list of records. Assumes nothing.
use Rattle.std.specs.Prelude.{◌≡◌, refl, Bool, false, ◌&&◌, ℕ, ◌≤◌, ◌<◌, Option, Some, None}
use Rattle.std.proofs.Math.Path.{ap}
use Rattle.std.proofs.Common.{◌∙◌}
use Rattle.std.proofs.Math.Bool.{true}
use mathlib.Core.List.{List}
use native.Mathlib.Omega.{arith}
use Rattle.std.proofs.Math.Dec.{eqb, leb}
use borrow.Author.Tests.{eqb-true, leb-true, le-leb, lt-leb}
use Rattle.lists.specs.Tests.{pick}
use Rattle.lists.specs.TestLaws.{and_left}
use Rattle.sets.proofs.MaskLaws.{has_minus}
use Rattle.field.specs.declared.Scalar.{Scalar}
use Rattle.field.specs.declared.Element.{Element}
use Rattle.protocol.specs.Transcript.{shifted_nonce}
use Rattle.protocol.proofs.AlikeLaws.{shifted_same}
use Rattle.verification.specs.Definitions.{transcript}
use Rattle.run.specs.Runs.{stage_of, transcript_of, kept}
use Rattle.answers.specs.Answers.{bad_of, unblamed_of, kept_sets, sets_of, in_batch, nonce_of, phi_answer}
use Rattle.run.specs.Steps.{after}
use Rattle.promises.specs.Lists.{accepted, read, stage_by}
use Rattle.promises.specs.Places.{is_place}
use Rattle.promises.proofs.PlaceLaws.{place_of}
use Rattle.complaint.specs.Definitions.{blamed_by, unblamed}
use Rattle.promises.proofs.MadeLaws.{made_stage, made_hold, made_bad, made_qual, made_alike, made_batch}
use Rattle.promises.proofs.Stages.{stage_by_accepted}
use Rattle.promises.proofs.FinishedLaws.{kept_is}
use Rattle.promises.specs.Claims.{Answers, Fixed, Unfixed, nonce_by, phi_by}

-- a choice by two tests, of which the second, and what is chosen, may be put otherwise where the first passes
choice_same : {A : Type 0} (b c d : Bool) (x y z : A) → (b ≡ true → c ≡ d) → (b ≡ true → d ≡ true → x ≡ y) → pick (b && c) x z ≡ pick (b && d) y z
choice_same true c true x y z e f = ap (λ (c : Bool). pick c x z) (e refl) ∙ f refl refl
choice_same true c false x y z e f = ap (λ (c : Bool). pick c x z) (e refl)
choice_same false c d x y z e f = refl

module _ (l : List (List ℕ)) where
  stage_is : stage_of (after l) ≡ stage_by (accepted l)
  stage_is = made_stage l ∙ stage_by_accepted l

  -- ---- the sets

  sets_are : 3 ≤ stage_by (accepted l) → sets_of (after l) ≡ Some (kept_sets (after l))
  unfolding sets_of
  sets_are m = rw (stage_is, le-leb 3 (stage_by (accepted l)) m)

  sets_fixed : 3 ≤ stage_by (accepted l) → Fixed l
  unfolding kept_sets bad_of unblamed_of unblamed
  sets_fixed m =
      let p : 0 < (after l).stage = omega (arith, stage_by_accepted l) in
      record {
        sets = kept_sets (after l);
        fixed = sets_are m;
        hold_is = λ i. made_hold l p i;
        qual_is = λ i. has_minus (after l).dealings.dealers (blamed_by (after l).setup.n (after l).complaints) i ∙ made_qual l p i;
        bad_is = λ i. made_bad l p i;
      }

  sets_unfixed : stage_by (accepted l) < 3 → Unfixed l
  unfolding sets_of
  sets_unfixed m = rw (stage_is, lt-leb 3 (stage_by (accepted l)) m)

  -- ---- R and φ

  place_same : 1 < (after l).stage → (u k : ℕ) → in_batch (after l) u k ≡ is_place (read (accepted l)) u k
  unfolding in_batch is_place transcript_of transcript
  place_same m u k = let p : 0 < (after l).stage = omega arith in rw (made_batch l p m, (made_alike l p).a_same)

  nonce_is : (u k : ℕ) → nonce_of (after l) u k ≡ nonce_by (accepted l) u k
  unfolding nonce_of nonce_by
  nonce_is u k =
      let g = stage_by (accepted l) in
      ap (λ (g : ℕ). pick ((leb 3 g && leb g 5) && in_batch (after l) u k) (Some (shifted_nonce (transcript_of (after l)) u k)) None) stage_is
      ∙ choice_same (leb 3 g && leb g 5) _ _ _ _ None (λ e. place_same (live e) u k)
      (λ e d. ap {B = Option Element} Some (shifted_same (transcript_of (after l)) (read (accepted l)) (made_alike l (omega (arith, live e))) u k))
    where
      live : (leb 3 (stage_by (accepted l)) && leb (stage_by (accepted l)) 5) ≡ true → 1 < (after l).stage
      live e = omega (arith, stage_by_accepted l, leb-true 3 (stage_by (accepted l)) (and_left _ _ e))

  phi_is : (u k : ℕ) → phi_answer (after l) u k ≡ phi_by (accepted l) u k
  unfolding phi_answer phi_by
  phi_is u k =
      ap (λ (g : ℕ). pick (eqb g 5 && in_batch (after l) u k) (Some (kept (after l) u k)) None) stage_is
      ∙ choice_same (eqb (stage_by (accepted l)) 5) _ _ _ _ None (λ e. place_same (omega (arith, done e)) u k)
      (λ e d. ap {B = Option Scalar} Some (kept_is l (done e) u k (place_of (read (accepted l)) u k d)))
    where
      done : eqb (stage_by (accepted l)) 5 ≡ true → (after l).stage ≡ 5
      done e = stage_by_accepted l ∙ eqb-true (stage_by (accepted l)) 5 e

-- what the run of every list answers is what its accepted records say
pub answers : (l : List (List ℕ)) → Answers l
answers l = record { stage = stage_is l; sets = sets_fixed l; no_sets_before = sets_unfixed l; nonces = nonce_is l; phis = phi_is l }
