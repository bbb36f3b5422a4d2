-- A run that a list of records makes keeps what the list has: its public values and its sets. Assumes nothing.
use Rattle.std.specs.Prelude.{◌≡◌, refl, Bool, true, false, List, [], ℕ, ◌*◌, ◌-◌, ◌≤◌, ◌<◌, length}
use Rattle.std.proofs.Math.Path.{sym, ap, ap₂}
use Rattle.std.proofs.Common.{◌∙◌, arith}
use Rattle.std.proofs.Math.Bool.{not, ◌&&◌, and-false}
use Rattle.std.proofs.Math.Decide.{dec_lt}
use Rattle.std.proofs.Math.ListN.{get_or}
use Rattle.lists.specs.TestLaws.{and_left, pick_same}
use Rattle.lists.specs.Members.{Distinct}
use Rattle.sets.specs.Masks.{has, count}
use Rattle.sets.proofs.MemberLaws.{same_members}
use Rattle.lists.specs.StoreLaws.{get_or_filled}
use Rattle.field.specs.Definitions.{scalar}
use Rattle.parameters.specs.Definitions.{cells, batch}
use Rattle.records.specs.Bytes.{byte_at, wide_at, number_at, word, sender}
use Rattle.records.specs.Tags.{DE, VE, CH, CS, SX, mask_at}
use Rattle.protocol.specs.Alike.{Alike}
use Rattle.protocol.proofs.Signature.{Sound}
use Rattle.dealing.specs.declared.Setup.{Setup}
use Rattle.arrays.specs.Arrays.{cell}
use Rattle.challenge.specs.Definitions.{no_challenges}
use Rattle.verification.specs.Definitions.{transcript}
use Rattle.run.specs.Runs.{well_formed, stage_of, transcript_of}
use Rattle.dealing.specs.Definitions.{setup_of, key_in}
use Rattle.run.specs.Steps.{after}
use Rattle.promises.proofs.SenderLaws.{has_pos, senders_max}
use Rattle.promises.specs.Lists.{accepted, of_tag, first, some, setup_record, parties, dealer, hold, bad, qualified, read, mask_from, challenge_by}
use Rattle.promises.proofs.ListLaws.{some_all}
use Rattle.promises.proofs.PlaceLaws.{cell_lt}
use Rattle.complaint.specs.Definitions.{blamed_by, mask_by}
use Rattle.promises.proofs.InvariantLaws.{Live, begun_gone, begun_exact, key_is, key_element, commitment_element, live_bounds, live_well_formed, stage_of_is}
use Rattle.promises.proofs.InvariantStepLaws.{invariant_after}

-- what only members have
within : (b d : Bool) → (b ≡ true → d ≡ true) → b ≡ (d && b)
within true true h = refl
within true false h = sym (h refl)
within false d h = sym (and-false d)

pub made_stage : (l : List (List ℕ)) → stage_of (after l) ≡ (after l).stage
made_stage l = stage_of_is (after l) (accepted l) (invariant_after l)

module _ (l : List (List ℕ)) (p : 0 < (after l).stage) where
  pub made_live : Live (after l) (λ g. of_tag g (accepted l))
  made_live = (invariant_after l).live p

  pub made_well_formed : well_formed (after l) ≡ true
  made_well_formed = live_well_formed (after l) _ made_live

  -- the parameters are within the bounds, the key and the commitments of QUAL elements
  pub made_sound : Sound (transcript_of (after l))
  unfolding transcript_of transcript key_in
  made_sound =
      record {
        bounds = live_bounds (after l) _ made_live;
        keys = key_element (after l).setup _ made_live.setup;
        commitments = λ i v p k e. commitment_element (after l).setup (after l).dealings _ made_live.dealings i v p (and_left (has (after l).dealings.dealers i) _ e);
      }

  setup_same : {A : Type 0} (f : Setup → A) → f (after l).setup ≡ f (setup_of (setup_record (accepted l)))
  setup_same f = ap f made_live.setup.setup_is

  -- ---- the sets

  made_parties : (after l).setup.n ≡ parties (accepted l)
  unfolding setup_of
  made_parties = setup_same (λ z. z.n)

  pub made_hold : (j : ℕ) → has (after l).complaints.holders j ≡ hold (accepted l) j
  unfolding hold
  made_hold j = made_live.complaints.senders.mask_is j

  -- the run keeps the mask of each holder's accepted VE, read from its bytes
  pub made_masks : (j : ℕ) → mask_by (after l).complaints j ≡ mask_from (accepted l) j
  unfolding mask_by mask_from
  made_masks j = rw (made_hold j, ← made_parties) (pick_same (hold (accepted l) j) 0 (λ e. made_live.complaints.masks_are j (has_pos _ j (made_hold j ∙ e)) (sym (made_live.complaints.senders.mask_is j) ∙ made_hold j ∙ e)))

  pub made_bad : (i : ℕ) → has (blamed_by (after l).setup.n (after l).complaints) i ≡ bad (accepted l) i
  unfolding bad dealer
  made_bad i =
      let blamed = made_live.complaints.blamed_is i in
      within (has (blamed_by (after l).setup.n (after l).complaints) i) (has (after l).dealings.dealers i)
      (λ e. let w = some_all _ _ _ made_live.complaints.founded (sym blamed ∙ e) in w.2 i w.1)
      ∙ ap₂ ◌&&◌ (made_live.dealings.senders.mask_is i) (blamed ∙ ap (λ (n : ℕ). some (λ s. has (mask_at n s) i) (of_tag VE (accepted l))) made_parties)

  pub made_qual : (i : ℕ) → (has (after l).dealings.dealers i && not (has (blamed_by (after l).setup.n (after l).complaints) i)) ≡ qualified (accepted l) i
  unfolding qualified dealer
  made_qual i = ap₂ (λ (d b : Bool). d && not b) (made_live.dealings.senders.mask_is i) (made_bad i)

  -- ---- the public values

  -- the challenges, before they come too
  made_challenge : (x : ℕ) → x < (after l).setup.a * batch (after l).dealings.count (after l).setup.t
      → get_or (after l).challenges.numbers x (scalar 0) ≡ challenge_by (of_tag CH (accepted l)) (of_tag CS (accepted l)) x
  unfolding challenge_by first word number_at wide_at byte_at no_challenges
  made_challenge x m = go (dec_lt (after l).stage 4)
    where
      go : Dec ((after l).stage < 4) → get_or (after l).challenges.numbers x (scalar 0) ≡ challenge_by (of_tag CH (accepted l)) (of_tag CS (accepted l)) x
      go (yes e) = let none = made_live.stage.early e in rw (none.0, none.1, none.3) (get_or_filled cells (scalar 0) x)
      go (no e) = made_live.challenges.challenge_is x (rw (begun_gone made_live.stage.begun (omega arith)).1 m)

  pub made_alike : Alike (transcript_of (after l)) (read (accepted l))
  unfolding transcript_of transcript key_in read setup_of
  made_alike =
      record {
        n_same = setup_same (λ z. z.n);
        t_same = setup_same (λ z. z.t);
        a_same = setup_same (λ z. z.a);
        m_same = made_live.dealings.senders.number_is;
        key_same = key_is (after l).setup _ made_live.setup;
        qual_same = λ i p k. made_qual i;
        commitment_same = λ i v p k e m.
            made_live.dealings.slots i v p m (sym (made_live.dealings.senders.mask_is i) ∙ and_left (has (after l).dealings.dealers i) _ e);
        challenge_same = λ u k p m c d.
            made_challenge (cell (after l).setup.a u k) (cell_lt (after l).setup.a (batch (after l).dealings.count (after l).setup.t) u k p m c d)
            ∙ ap (λ (x : ℕ). challenge_by (of_tag CH (accepted l)) (of_tag CS (accepted l)) (cell x u k)) (setup_same (λ z. z.a));
        shift_same = made_live.challenges.shift_is;
      }

  -- ---- the numbers of records, by stage

  pub read_count : (read (accepted l)).n - (read (accepted l)).t ≡ (after l).setup.n - (after l).setup.t
  unfolding transcript_of transcript
  read_count = sym (ap₂ (λ (n t : ℕ). n - t) made_alike.n_same made_alike.t_same)

  -- with an SU n-t DE, with an SX as many or more, from different dealers
  pub made_dealings : 1 < (after l).stage → of_tag SX (accepted l) ≡ [] → length (of_tag DE (accepted l)) ≡ (read (accepted l)).n - (read (accepted l)).t
  made_dealings m e = sym made_live.dealings.senders.number_is ∙ begun_exact made_live.stage.begun m e ∙ sym read_count

  pub made_dealings_least : 1 < (after l).stage → (read (accepted l)).n - (read (accepted l)).t ≤ length (of_tag DE (accepted l))
  made_dealings_least m = omega (arith, read_count, made_live.dealings.senders.number_is, (begun_gone made_live.stage.begun m).0)

  pub made_dealings_most : length (of_tag DE (accepted l)) ≤ (read (accepted l)).n
  unfolding transcript_of transcript
  made_dealings_most = omega (arith, made_alike.n_same, made_live.dealings.senders.number_is, senders_max made_live.dealings.senders)

  -- b by the run is that by the list, past stage 1
  pub made_batch : 1 < (after l).stage → (after l).b ≡ batch (read (accepted l)).m (read (accepted l)).t
  unfolding transcript_of transcript
  made_batch m = (begun_gone made_live.stage.begun m).1 ∙ ap₂ batch made_alike.m_same made_alike.t_same

  pub made_dealers_differ : Distinct sender (of_tag DE (accepted l))
  made_dealers_differ = made_live.dealings.senders.differ

  -- n-t VE from different holders
  pub made_complaints : 2 < (after l).stage → length (of_tag VE (accepted l)) ≡ (read (accepted l)).n - (read (accepted l)).t
  made_complaints m = sym made_live.complaints.senders.number_is ∙ made_live.stage.counts.complained m ∙ sym read_count

  pub made_holders_differ : Distinct sender (of_tag VE (accepted l))
  made_holders_differ = made_live.complaints.senders.differ

  bad_count : count (read (accepted l)).n (bad (accepted l)) ≡ count (after l).setup.n (has (blamed_by (after l).setup.n (after l).complaints))
  unfolding transcript_of transcript
  bad_count =
      ap (λ (n : ℕ). count n (bad (accepted l))) (sym made_alike.n_same)
      ∙ same_members (has (blamed_by (after l).setup.n (after l).complaints)) (bad (accepted l)) 1 (after l).setup.n (λ i p m. sym (made_bad i))

  -- at most t dealers in BAD, but at stage 6
  pub made_few_bad : 2 < (after l).stage → (after l).stage < 6 → count (read (accepted l)).n (bad (accepted l)) ≤ (read (accepted l)).t
  unfolding transcript_of transcript
  made_few_bad m k = omega (arith, bad_count, made_alike.t_same, made_live.stage.counts.few_bad m k)

  pub made_many_bad : (after l).stage ≡ 6 → (read (accepted l)).t < count (read (accepted l)).n (bad (accepted l))
  unfolding transcript_of transcript
  made_many_bad m = omega (arith, bad_count, made_alike.t_same, made_live.stage.counts.many_bad m)
