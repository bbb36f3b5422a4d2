-- The stage of the run that a list makes is the one that its accepted records bring. Assumes nothing.
use Rattle.std.specs.Prelude.{◌≡◌, List, eqb, ltb}
use Rattle.std.proofs.Math.Path.{refl, ap, ap₂}
use Rattle.std.proofs.Common.{inl, inr}
use Rattle.std.proofs.Math.Bool.{true, false}
use Prim.Native.Nat.{ℕ, zero, suc, ◌+◌, ◌-◌, ◌<◌}
use native.Mathlib.Omega.{arith}
use Rattle.std.proofs.Math.ListN.{length}
use borrow.Author.Tests.{lt-ltb, le-ltb, eq-eqb, ne_eqb}
use Rattle.parameters.specs.Definitions.{quorum}
use Rattle.records.specs.Tags.{Tag, SU, SX, DE, GO, VE, CH, CS, RE}
use Rattle.verification.specs.Definitions.{transcript}
use Rattle.run.specs.Runs.{transcript_of}
use Rattle.run.specs.Steps.{after}
use Rattle.promises.specs.Lists.{accepted, of_tag, read, unset, dealing, complaining, stopped, unchallenged, responding, stage_by}
use Rattle.lists.specs.Tests.{pick}
use Rattle.promises.proofs.InvariantLaws.{Begun, begun_one}
use Rattle.promises.proofs.InvariantStepLaws.{invariant_after}
use Rattle.promises.proofs.MadeLaws.{made_live, made_alike, made_dealings_least, made_complaints, made_few_bad, made_many_bad, read_count}

module _ (l : List (List ℕ)) where
  abbrev n : ℕ
  n = (read (accepted l)).n

  abbrev t : ℕ
  t = (read (accepted l)).t

  -- the number of accepted records of a tag
  abbrev number : Tag → ℕ
  number g = length (of_tag g (accepted l))

  abbrev need : ℕ
  need = quorum t (read (accepted l)).a

  module _ (p : 0 < (after l).stage) where
    setup_seen : unset (accepted l) ≡ false
    unfolding unset
    setup_seen = ne_eqb (number SU + number SX) 0 (λ e. omega (arith, begun_one (made_live l p).stage.begun))

    -- with an SU too few DE, with an SX no GO
    few_dealings : (after l).stage ≡ 1 → dealing (accepted l) ≡ true
    unfolding dealing
    few_dealings e = go (made_live l p).stage.begun
      where
        go : Begun (after l).stage (after l).b (after l).setup (after l).dealings.count (of_tag SU (accepted l)) (of_tag SX (accepted l)) (of_tag GO (accepted l))
            → pick (eqb (number SX) 0) (ltb (number DE) (n - t)) (eqb (number GO) 0) ≡ true
        go (inl h) = rw h.none (lt-ltb (number DE) (n - t) (omega (arith, (made_live l p).dealings.senders.number_is, h.dealing e, read_count l p)))
        go (inr h) = rw (h.one, (h.waiting e).0) refl

    all_dealings : 1 < (after l).stage → dealing (accepted l) ≡ false
    unfolding dealing
    all_dealings m = go (made_live l p).stage.begun
      where
        go : Begun (after l).stage (after l).b (after l).setup (after l).dealings.count (of_tag SU (accepted l)) (of_tag SX (accepted l)) (of_tag GO (accepted l))
            → pick (eqb (number SX) 0) (ltb (number DE) (n - t)) (eqb (number GO) 0) ≡ false
        go (inl h) = rw h.none (le-ltb (number DE) (n - t) (omega (arith, made_dealings_least l p m)))
        go (inr h) = rw (h.one, (h.gone m).0) refl

    few_complaints : (after l).stage ≡ 2 → complaining (accepted l) ≡ true
    unfolding complaining
    few_complaints e = lt-ltb (number VE) (n - t) (omega (arith, (made_live l p).complaints.senders.number_is, (made_live l p).stage.counts.complaining (omega arith), read_count l p))

    all_complaints : 2 < (after l).stage → complaining (accepted l) ≡ false
    unfolding complaining
    all_complaints m = le-ltb (number VE) (n - t) (omega (arith, made_complaints l p m))

    many_bad : (after l).stage ≡ 6 → stopped (accepted l) ≡ true
    unfolding stopped
    many_bad e = lt-ltb _ _ (made_many_bad l p e)

    few_bad : 2 < (after l).stage → (after l).stage < 6 → stopped (accepted l) ≡ false
    unfolding stopped
    few_bad m k = le-ltb _ _ (made_few_bad l p m k)

    no_challenges_yet : (after l).stage ≡ 3 → unchallenged (accepted l) ≡ true
    unfolding unchallenged
    no_challenges_yet e =
        let early = (made_live l p).stage.early (omega arith) in
        eq-eqb (number CH + number CS) 0 (omega (arith, ap length early.0, ap length early.1))

    challenged : 3 < (after l).stage → (after l).stage < 6 → unchallenged (accepted l) ≡ false
    unfolding unchallenged
    challenged m k = ne_eqb (number CH + number CS) 0 (λ e. omega (arith, (made_live l p).stage.challenged m k))

    needed : quorum (after l).setup.t (after l).setup.a ≡ need
    unfolding transcript_of transcript
    needed = ap₂ quorum (made_alike l p).t_same (made_alike l p).a_same

    few_responses : (after l).stage ≡ 4 → responding (accepted l) ≡ true
    unfolding responding
    few_responses e = lt-ltb (number RE) need (omega (arith, (made_live l p).responses.senders.number_is, (invariant_after l).responding e, needed))

    all_responses : (after l).stage ≡ 5 → responding (accepted l) ≡ false
    unfolding responding
    all_responses e = le-ltb (number RE) need (omega (arith, (made_live l p).responses.senders.number_is, ((made_live l p).stage.done e).full, needed))

  pub stage_by_accepted : (after l).stage ≡ stage_by (accepted l)
  unfolding stage_by unset of_tag
  stage_by_accepted = go (after l).stage refl
    where
      go : (g : ℕ) → (after l).stage ≡ g → g ≡ stage_by (accepted l)
      go zero e = rw ((invariant_after l).start e)
      go (suc zero) e = let p : 0 < (after l).stage = omega arith in rw (setup_seen p, few_dealings p e)
      go (suc (suc zero)) e = let p : 0 < (after l).stage = omega arith in rw (setup_seen p, all_dealings p (omega arith), few_complaints p e)
      go (suc (suc (suc zero))) e =
          let p : 0 < (after l).stage = omega arith in
          rw (setup_seen p, all_dealings p (omega arith), all_complaints p (omega arith), few_bad p (omega arith) (omega arith), no_challenges_yet p e)
      go (suc (suc (suc (suc zero)))) e =
          let p : 0 < (after l).stage = omega arith in
          rw (setup_seen p, all_dealings p (omega arith), all_complaints p (omega arith), few_bad p (omega arith) (omega arith), challenged p (omega arith) (omega arith), few_responses p e)
      go (suc (suc (suc (suc (suc zero))))) e =
          let p : 0 < (after l).stage = omega arith in
          rw (setup_seen p, all_dealings p (omega arith), all_complaints p (omega arith), few_bad p (omega arith) (omega arith), challenged p (omega arith) (omega arith), all_responses p e)
      go (suc (suc (suc (suc (suc (suc zero)))))) e =
          let p : 0 < (after l).stage = omega arith in
          rw (setup_seen p, all_dealings p (omega arith), all_complaints p (omega arith), many_bad p e)
      go (suc (suc (suc (suc (suc (suc (suc g))))))) e = let p : 0 < (after l).stage = omega arith in absurd (omega (arith, (made_live l p).stage.stage_max))
