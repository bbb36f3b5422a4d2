-- Every record keeps the invariant, accepted or refused; so every list has it. Assumes nothing.
use Rattle.std.specs.Prelude.{◌≡◌, refl, Bool, true, false, ◌&&◌, ◌||◌, List, [], ◌∷◌, ◌++◌, ℕ, suc, ◌+◌, ◌*◌, ◌-◌, ◌≤◌, ◌<◌, length, get_or, eqb, ltb, leb}
use Rattle.std.proofs.Common.{sym, ap, subst, ◌∙◌, inl, inr, append_assoc, append-nil, arith, eqb-true, eq-eqb, ne_eqb, leb-true, ltb-true, ltb-false}
use Rattle.std.proofs.Math.Path.{fun_ext}
use Rattle.std.proofs.lemmas.Bool.{eqb-false}
use Rattle.lists.specs.Tests.{pick}
use Rattle.lists.specs.TestLaws.{pick_case, and_left, and_right, passed}
use Rattle.lists.specs.MemberLaws.{all_snoc}
use Rattle.lists.specs.StoreLaws.{length_stored, stored_from, length_filled, get_or_filled}
use Rattle.sets.specs.Masks.{has, count}
use Rattle.field.specs.Definitions.{scalar}
use Rattle.parameters.specs.Definitions.{cells, quorum, batch}
use Rattle.records.specs.Bytes.{byte_at, wide_at, number_at, word}
use Rattle.records.specs.Tags.{Tag, SU, SX, DE, GO, VE, CH, CS, RE, unknown, tag_of}
use Rattle.refusals.specs.Refusals.{setup_refusal, challenges_refusal, shifted_refusal}
use Rattle.refusals.proofs.RefusalLaws.{setup_passed}
use Rattle.parameters.specs.ParameterLaws.{Bounds, cells_max, batch_pos, quorum_pos}
use Rattle.dealing.specs.declared.Setup.{Setup}
use Rattle.complaint.specs.declared.Complaints.{Complaints}
use Rattle.run.specs.declared.Run.{Run}
use Rattle.dealing.specs.Definitions.{no_dealings, setup_of, begun_batch, dealing_number, with_dealing}
use Rattle.complaint.specs.Definitions.{no_complaints, complaint_number, with_complaint, complaint_stage, blamed_by}
use Rattle.challenge.specs.declared.Challenges.{Challenges}
use Rattle.verification.specs.Definitions.{transcript}
use Rattle.response.specs.Definitions.{response_number, with_response, signatures_of}
use Rattle.challenge.specs.Definitions.{no_challenges, challenges_from, with_challenges, with_shifted}
use Rattle.run.specs.Runs.{set_challenges, no_scalars, begun, fresh, stage_of, transcript_of}
use Rattle.run.specs.Steps.{after_setup, after_dealing, after_go, after_complaint, after_challenges, after_shifted, with_row, finished, after_response, refused, answered, handled, step_of, after_from, after}
use Rattle.stages.specs.Definitions.{taken_at, at_stage, handler_at, dealing_stage, go_number}
use Rattle.run.specs.RunLaws.{formed_of, formed_batch}
use Rattle.run.specs.StepLaws.{stage_case, answered_case}
use Rattle.run.specs.Steps.{Reply}
use Rattle.stages.specs.declared.Handler.{Handler}
use Rattle.stages.specs.declared.Handler.TheVariants.{TakeSetup, TakeWaiting, TakeDealing, TakeGo, TakeComplaint, TakeChallenges, TakeShifted, TakeResponse}
use Rattle.promises.specs.Lists.{accepted_from, accepted, of_tag, first, challenge_by, shift_by}
use Rattle.promises.proofs.ListLaws.{snoc, more, of_tag_snoc}
use Rattle.promises.proofs.SenderLaws.{slots_none}
use Rattle.promises.proofs.InvariantLaws.{ChallengesOf, BySetup, Begun, Counts, AtStage, Live, Responding, Invariant, begun_gone, begun_past, live_bounds, live_well_formed, stage_of_is}
use Rattle.promises.proofs.InvariantPartLaws.{no_dealings_of, no_complaints_of, no_responses_of, dealing_new, dealings_more, complaint_new, complaints_more, complaints_kept, response_new, responses_more}

-- a stage that no CH or CS leads to: 1, 2, 3 or 6
waits : (g : ℕ) → (leb 1 g && (leb g 3 || eqb g 6)) ≡ true → (0 < g) × (g ≤ 6) × (3 < g → g ≡ 6)
waits g e = go (leb g 3) refl (and_right (leb 1 g) _ e)
  where
    pos : 0 < g
    pos = leb-true 1 g (and_left (leb 1 g) _ e)

    go : (b : Bool) → leb g 3 ≡ b → (b || eqb g 6) ≡ true → (0 < g) × (g ≤ 6) × (3 < g → g ≡ 6)
    go true d x = let l : g ≤ 3 = leb-true g 3 d in (pos, omega arith, λ m. omega arith)
    go false d x = let six : g ≡ 6 = eqb-true g 6 x in (pos, omega arith, λ m. six)

waiting : (r : Run) (f : Tag → List (List ℕ)) → (f CH ≡ []) × (f CS ≡ []) × (f RE ≡ []) × (r.challenges ≡ no_challenges) → (stage : ℕ) → (leb 1 stage && (leb stage 3 || eqb stage 6)) ≡ true
    → Begun stage r.b r.setup r.dealings.count (f SU) (f SX) (f GO) → Counts stage r.setup r.complaints → AtStage stage r f
waiting r f none stage e begun counts =
    let w = waits stage e in
    record {
      stage_pos = w.0;
      stage_max = w.1;
      begun = begun;
      counts = counts;
      early = λ l. none;
      challenged = λ l m. absurd (omega (arith, w.2 l));
      done = λ d. absurd (omega (arith, w.2 (omega arith)));
    }

-- stage 4
at_four : (r : Run) (f : Tag → List (List ℕ)) → Begun 4 r.b r.setup r.dealings.count (f SU) (f SX) (f GO) → length (f CH) + length (f CS) ≡ 1
    → Counts 4 r.setup r.complaints → AtStage 4 r f
at_four r f begun sent counts =
    record {
      stage_pos = omega arith;
      stage_max = omega arith;
      begun = begun;
      counts = counts;
      early = λ l. absurd (omega arith);
      challenged = λ l m. sent;
      done = λ d. absurd (omega arith);
    }

-- no CH and no CS was accepted: the stage is not 4
quiet : (r : Run) (f : Tag → List (List ℕ)) → Live r f → f CH ≡ [] → f CS ≡ [] → Responding r
quiet r f h none unshifted e = absurd (omega (arith, h.stage.challenged (omega arith) (omega arith), ap length none, ap length unshifted))

-- before any complaint row
unblamed_yet : (setup : Setup) (c : Complaints) (stage : ℕ) → stage ≤ 2 → c.count < setup.n - setup.t → Counts stage setup c
unblamed_yet setup c stage l few =
    record { complaining = λ z. few; complained = λ z. omega arith; few_bad = λ z y. omega arith; many_bad = λ z. omega arith }

-- ---- SU, and SX, whose run waits

-- l is the list of the accepted setup
setup_live : (waits : Bool) (s : List ℕ) (f : Tag → List (List ℕ)) → setup_refusal s ≡ 0 → first (f SU ++ f SX) ≡ s → f DE ≡ [] → f VE ≡ [] → f CH ≡ [] → f CS ≡ [] → f RE ≡ []
    → Begun 1 (begun_batch waits (setup_of s)) (setup_of s) 0 (f SU) (f SX) (f GO) → Live (after_setup waits s) f
unfolding after_setup setup_of begun no_dealings no_complaints no_challenges no_scalars first challenge_by shift_by word number_at wide_at byte_at
setup_live waits s f e su de ve ch cs re begun =
    let b = (setup_passed s e).bounds in
    record {
      setup = rw su (record { setup_is = refl; admitted = e });
      dealings = rw de (no_dealings_of _);
      complaints = rw ve (no_complaints_of _ _);
      challenges = rw (ch, cs) (record { size = length_filled cells (scalar 0); challenge_is = λ x l. get_or_filled cells (scalar 0) x; shift_is = refl });
      responses = rw re (no_responses_of _ _);
      rows = rw re tt;
      signatures_size = length_filled cells (scalar 0);
      stage = waiting _ f (ch, cs, re, refl) 1 refl begun (unblamed_yet _ _ 1 (omega arith) (omega arith));
    }

-- with SU just n-t dealings are awaited; with SX a GO is
begun_setup : (s : List ℕ) → setup_refusal s ≡ 0 → Begun 1 (begun_batch false (setup_of s)) (setup_of s) 0 (s ∷ []) [] []
unfolding begun_batch setup_of
begun_setup s e =
    let b = (setup_passed s e).bounds in
    inl (record { one = refl; none = refl; no_go = refl; fixed = refl; dealing = λ z. omega arith; dealt = λ z. absurd (omega arith) })

begun_waiting : (s : List ℕ) → Begun 1 (begun_batch true (setup_of s)) (setup_of s) 0 [] (s ∷ []) []
unfolding begun_batch
begun_waiting s = inr (record { one = refl; none = refl; waiting = λ z. (refl, refl); gone = λ z. absurd (omega arith) })

-- ---- DE

-- m dealings and one more: the stage that they bring, with SU and with SX
dealt_more : {b : ℕ} {setup : Setup} {m : ℕ} {su sx go : List (List ℕ)} (P : ℕ → Type 0) → Bounds setup.n setup.t setup.a
    → ((g : ℕ) → 0 < g → g ≤ 2 → (leb 1 g && (leb g 3 || eqb g 6)) ≡ true → Begun g b setup (m + 1) su sx go → P g)
    → Begun 1 b setup m su sx go → P (dealing_stage setup.n setup.t (m + 1) b)
unfolding dealing_stage
dealt_more {b} {setup} {m} {su} {sx} {go} P bounds at (inl h) =
    rw (ne_eqb b 0 (λ e. omega (arith, h.fixed, batch_pos {m = setup.n - setup.t} bounds (omega arith))))
    (pick_case P (eqb (m + 1) (setup.n - setup.t)) 2 1 (λ e. at 2 (omega arith) (omega arith) refl (inl (more (λ z. absurd (omega arith)) (λ z. eqb-true _ _ e))))
    (λ e. at 1 (omega arith) (omega arith) refl (inl (more (λ z. omega (arith, h.dealing refl, eqb-false (m + 1) (setup.n - setup.t) e)) (λ z. absurd (omega arith))))))
  where
    more : {g : ℕ} → (g ≡ 1 → m + 1 < setup.n - setup.t) → (1 < g → m + 1 ≡ setup.n - setup.t) → BySetup g b setup (m + 1) su sx go
    more x y = record { one = h.one; none = h.none; no_go = h.no_go; fixed = h.fixed; dealing = x; dealt = y }
dealt_more {b} P bounds at (inr h) =
    rw (eq-eqb b 0 (h.waiting refl).1)
    (at 1 (omega arith) (omega arith) refl (inr (record { one = h.one; none = h.none; waiting = h.waiting; gone = λ z. absurd (omega arith) })))

dealing_live : (r : Run) (s : List ℕ) (f : Tag → List (List ℕ)) → r.stage ≡ 1 → dealing_number r.setup r.dealings s ≡ 0 → Live r f → Live (after_dealing r s) (more DE s f)
unfolding after_dealing with_dealing transcript_of transcript
dealing_live r s f g e h =
    let c = dealing_new r s e in
    let b = live_bounds r f h in
    let none = h.stage.early (omega arith) in
    record {
      setup = h.setup;
      dealings = dealings_more r.setup r.dealings s (f DE) b c.1 h.dealings c.0;
      complaints = complaints_kept r.setup r.dealings.dealers r.complaints s (f VE) b.n_max c.1 h.complaints;
      challenges = h.challenges;
      responses = h.responses;
      rows = rw none.2 tt;
      signatures_size = h.signatures_size;
      stage = dealt_more (λ z. AtStage z (after_dealing r s) (more DE s f)) b
          (λ z p l w begun. waiting (after_dealing r s) (more DE s f) none z w begun (unblamed_yet r.setup r.complaints z l (h.stage.counts.complaining (omega arith))))
          (rw g at h.stage.begun);
    }

-- ---- GO

-- the run waits, and n-t have dealt
go_passed : (n t m b : ℕ) (s : List ℕ) → go_number n t m b s ≡ 0 → (b ≡ 0) × (n - t ≤ m)
unfolding go_number
go_passed n t m b s e =
    let p = passed _ _ _ e (omega arith) in
    let q = passed _ _ _ p.1 (omega arith) in
    let w = passed _ _ _ q.1 (omega arith) in
    (eqb-true _ _ p.0, leb-true _ _ w.0)

gone : {b : ℕ} {setup : Setup} {m : ℕ} {su sx go : List (List ℕ)} (s : List ℕ) → Bounds setup.n setup.t setup.a → b ≡ 0 → setup.n - setup.t ≤ m
    → Begun 1 b setup m su sx go → Begun 2 (batch m setup.t) setup m su sx (snoc go s)
gone {b} {setup} s bounds z l (inl h) = absurd (omega (arith, h.fixed, batch_pos {m = setup.n - setup.t} bounds (omega arith)))
gone s bounds z l (inr h) =
    inr (record { one = h.one; none = h.none; waiting = λ e. absurd (omega arith); gone = λ e. (rw (h.waiting refl).0 refl, (l, refl)) })

go_live : (r : Run) (s : List ℕ) (f : Tag → List (List ℕ)) → r.stage ≡ 1 → go_number r.setup.n r.setup.t r.dealings.count r.b s ≡ 0 → Live r f → Live (after_go r) (more GO s f)
unfolding after_go transcript_of transcript no_challenges challenge_by shift_by first word number_at wide_at byte_at
go_live r s f g e h =
    let c = go_passed r.setup.n r.setup.t r.dealings.count r.b s e in
    let none = h.stage.early (omega arith) in
    record {
      setup = h.setup;
      dealings = h.dealings;
      complaints = h.complaints;
      challenges = rw (none.0, none.1, none.3) (record { size = length_filled cells (scalar 0); challenge_is = λ x l. get_or_filled cells (scalar 0) x; shift_is = refl });
      responses = record {
        numbers_size = h.responses.numbers_size;
        senders = h.responses.senders;
        slots = rw none.2 (slots_none scalar (scalar 0) _ r.responses.numbers);
      };
      rows = rw none.2 tt;
      signatures_size = h.signatures_size;
      stage = waiting (after_go r) (more GO s f) none 2 refl (gone s (live_bounds r f h) c.0 c.1 (rw g at h.stage.begun))
          (unblamed_yet r.setup r.complaints 2 (omega arith) (h.stage.counts.complaining (omega arith)));
    }

-- ---- VE

complaint_live : (r : Run) (s : List ℕ) (f : Tag → List (List ℕ)) → r.stage ≡ 2 → complaint_number r.setup r.dealings r.complaints s ≡ 0 → Live r f → Live (after_complaint r s) (more VE s f)
unfolding after_complaint complaint_stage with_complaint transcript_of transcript
complaint_live r s f g e h =
    let c = complaint_new r s e in
    let none = h.stage.early (omega arith) in
    record {
      setup = h.setup;
      dealings = h.dealings;
      complaints = complaints_more r.setup r.dealings.dealers r.complaints s (f VE) (live_bounds r f h).n_max c.0 c.1 c.2 h.complaints;
      challenges = h.challenges;
      responses = h.responses;
      rows = rw none.2 tt;
      signatures_size = h.signatures_size;
      stage = pick_case (λ z. AtStage z (after_complaint r s) (more VE s f)) (eqb (r.complaints.count + 1) (r.setup.n - r.setup.t)) _ 2
          (λ d. pick_case (λ z. AtStage z (after_complaint r s) (more VE s f)) (ltb r.setup.t _) 6 3
          (λ b. at 6 refl (omega arith) (counts 6 (omega arith) (λ z. omega arith) (λ z. eqb-true _ _ d) (λ z y. omega arith) (λ z. ltb-true _ _ b)))
          (λ b. at 3 refl (omega arith) (counts 3 (omega arith) (λ z. omega arith) (λ z. eqb-true _ _ d) (λ z y. ltb-false _ _ b) (λ z. omega arith))))
          (λ d. at 2 refl (omega arith) (counts 2 (omega arith) (λ z. omega (arith, few, eqb-false (r.complaints.count + 1) (r.setup.n - r.setup.t) d)) (λ z. omega arith) (λ z y. omega arith) (λ z. omega arith)));
    }
  where
    c' : Complaints
    c' = with_complaint r.setup.n r.complaints s

    at : (z : ℕ) → (leb 1 z && (leb z 3 || eqb z 6)) ≡ true → 1 < z → Counts z r.setup c' → AtStage z (after_complaint r s) (more VE s f)
    at z w l = waiting (after_complaint r s) (more VE s f) (h.stage.early (omega arith)) z w (begun_past {next = z} (omega arith) l h.stage.begun)

    few : r.complaints.count < r.setup.n - r.setup.t
    few = h.stage.counts.complaining (omega arith)

    counts : (stage : ℕ) → 1 < stage → (stage ≤ 2 → c'.count < r.setup.n - r.setup.t) → (2 < stage → c'.count ≡ r.setup.n - r.setup.t)
        → (2 < stage → stage < 6 → count r.setup.n (has (blamed_by r.setup.n c')) ≤ r.setup.t) → (stage ≡ 6 → r.setup.t < count r.setup.n (has (blamed_by r.setup.n c')))
        → Counts stage r.setup c'
    counts stage l x y p q = record { complaining = x; complained = y; few_bad = p; many_bad = q }

-- b is no more than n
live_batch : (r : Run) (f : Tag → List (List ℕ)) → Live r f → r.b ≤ r.setup.n
live_batch r f h = formed_batch (formed_of r (live_well_formed r f h))

-- ---- CH

-- past stage 2 the counts stand
counts_past : (setup : Setup) (c : Complaints) (stage next : ℕ) → 2 < stage → stage < next → next < 6 → Counts stage setup c → Counts next setup c
counts_past setup c stage next l m k h =
    record {
      complaining = λ z. omega arith;
      complained = λ z. h.complained (omega arith);
      few_bad = λ z y. h.few_bad l (omega arith);
      many_bad = λ z. omega arith;
    }

-- at stage 3, with the challenges x of one more record k that is a CH or a CS
challenged_live : (r : Run) (x : Challenges) (f k : Tag → List (List ℕ)) → r.stage ≡ 3 → Live r f → k SU ≡ f SU → k SX ≡ f SX → k GO ≡ f GO → k DE ≡ f DE → k VE ≡ f VE → k RE ≡ f RE
    → ChallengesOf r.b r.setup x (k CH) (k CS) → length (k CH) + length (k CS) ≡ 1 → Live (set_challenges r 4 x) k
unfolding transcript_of transcript
challenged_live r x f k g h su sx go de ve re challenges one =
    record {
      setup = rw (su, sx) h.setup;
      dealings = rw de h.dealings;
      complaints = rw ve h.complaints;
      challenges = challenges;
      responses = rw re h.responses;
      rows = rw (re, (h.stage.early (omega arith)).2) tt;
      signatures_size = h.signatures_size;
      stage = at_four _ _ (rw (su, sx, go) (begun_past (omega arith) (omega arith) h.stage.begun)) one
          (counts_past r.setup r.complaints 3 4 (omega arith) (omega arith) (omega arith) (rw g at h.stage.counts));
    }

-- the challenges of a record, from a place on
module _ (r : Run) (s : List ℕ) (f : Tag → List (List ℕ)) (from : ℕ) (h : Live r f) where
  loaded_size : length (challenges_from r.setup.a r.b r.challenges from s) ≡ cells
  unfolding challenges_from
  loaded_size = length_stored r.challenges.numbers 0 _ _ ∙ h.challenges.size

  loaded_at : (x : ℕ) → x < r.setup.a * r.b → get_or (challenges_from r.setup.a r.b r.challenges from s) x (scalar 0) ≡ scalar (word s from x)
  unfolding challenges_from
  loaded_at = stored_from r.challenges.numbers _ _ (scalar 0) (omega (arith, h.challenges.size, cells_max (live_bounds r f h) (live_batch r f h)))

challenges_live : (r : Run) (s : List ℕ) (f : Tag → List (List ℕ)) → r.stage ≡ 3 → Live r f → Live (after_challenges r s) (more CH s f)
unfolding after_challenges with_challenges challenge_by shift_by first
challenges_live r s f g h =
    let none = h.stage.early (omega arith) in
    challenged_live r (with_challenges r.setup.a r.b r.challenges s) f (more CH s f) g h refl refl refl refl refl refl
    (record { size = loaded_size r s f 4 h; challenge_is = λ x l. rw (none.0, none.1) (loaded_at r s f 4 h x l); shift_is = rw none.1 refl })
    (rw (none.0, none.1) refl)

-- ---- CS

shifted_live : (r : Run) (s : List ℕ) (f : Tag → List (List ℕ)) → r.stage ≡ 3 → Live r f → Live (after_shifted r s) (more CS s f)
unfolding after_shifted with_shifted challenge_by shift_by
shifted_live r s f g h =
    let none = h.stage.early (omega arith) in
    challenged_live r (with_shifted r.setup.a r.b r.challenges s) f (more CS s f) g h refl refl refl refl refl refl
    (record { size = loaded_size r s f 8 h; challenge_is = λ x l. rw (none.0, none.1) (loaded_at r s f 8 h x l); shift_is = rw none.1 refl })
    (rw (none.0, none.1) refl)

challenges_few : (r : Run) (x : Challenges) (f : Tag → List (List ℕ)) → r.stage ≡ 3 → Live r f → Responding (set_challenges r 4 x)
challenges_few r x f g h e = omega (arith, h.responses.senders.number_is, ap length (h.stage.early (omega arith)).2, quorum_pos (live_bounds r f h))

-- ---- RE

row_live : (r : Run) (s : List ℕ) (f : Tag → List (List ℕ)) → r.stage ≡ 4 → response_number r.b r.setup r.dealings r.complaints r.challenges r.responses s ≡ 0 → Live r f → Live (with_row r s) (more RE s f)
unfolding with_row with_response transcript_of transcript
row_live r s f g e h =
    let c = response_new r s (begun_gone h.stage.begun (omega arith)).1 e in
    record {
      setup = h.setup;
      dealings = h.dealings;
      complaints = h.complaints;
      challenges = h.challenges;
      responses = responses_more r.b r.setup r.responses s (f RE) (live_bounds r f h).n_max (live_batch r f h) c.0 h.responses;
      rows = all_snoc _ (f RE) s h.rows c.1;
      signatures_size = h.signatures_size;
      stage = at_four _ _ (rw g at h.stage.begun) (h.stage.challenged (omega arith) (omega arith)) (rw g at h.stage.counts);
    }

finished_live : (r : Run) (f : Tag → List (List ℕ)) → r.stage ≡ 4 → r.responses.count ≡ quorum r.setup.t r.setup.a → Live r f → Live (finished r) f
unfolding finished transcript_of transcript signatures_of
finished_live r f g e h =
    record {
      setup = h.setup;
      dealings = h.dealings;
      complaints = h.complaints;
      challenges = h.challenges;
      responses = h.responses;
      rows = h.rows;
      signatures_size = length_stored r.signatures 0 _ _ ∙ h.signatures_size;
      stage = record {
        stage_pos = omega arith;
        stage_max = omega arith;
        begun = begun_past (omega arith) (omega arith) h.stage.begun;
        counts = counts_past r.setup r.complaints 4 5 (omega arith) (omega arith) (omega arith) (rw g at h.stage.counts);
        early = λ l. absurd (omega arith);
        challenged = λ l m. h.stage.challenged (omega arith) (omega arith);
        done = λ d. record {
          full = e;
          signatures = stored_from r.signatures _ _ (scalar 0) (omega (arith, h.signatures_size, cells_max (live_bounds r f h) (live_batch r f h)));
        };
      };
    }

response_live : (r : Run) (s : List ℕ) (f : Tag → List (List ℕ)) → r.stage ≡ 4 → response_number r.b r.setup r.dealings r.complaints r.challenges r.responses s ≡ 0 → Live r f → Live (after_response r s) (more RE s f)
unfolding after_response with_row with_response
response_live r s f g e h =
    let row = row_live r s f g e h in
    pick_case (λ z. Live z (more RE s f)) (eqb (r.responses.count + 1) (quorum r.setup.t r.setup.a)) (finished (with_row r s)) (with_row r s)
    (λ d. finished_live (with_row r s) (more RE s f) refl (eqb-true _ _ d) row) (λ d. row)

response_few : (r : Run) (s : List ℕ) → r.stage ≡ 4 → Responding r → Responding (after_response r s)
unfolding after_response finished with_row with_response
response_few r s g few =
    pick_case Responding (eqb (r.responses.count + 1) (quorum r.setup.t r.setup.a)) (finished (with_row r s)) (with_row r s)
    (λ d e. omega arith) (λ d e. omega (arith, few g, eqb-false (r.responses.count + 1) (quorum r.setup.t r.setup.a) d))

-- ---- the step, and the list

-- what a reply does to the accepted records
abbrev Kept : List (List ℕ) → List ℕ → Reply → Type 0
Kept l s y = Invariant y.run (pick (eqb y.number 0) (snoc l s) l)

module _ (r : Run) (s : List ℕ) (l : List (List ℕ)) (h : Invariant r l) where
  -- a refusal
  refused_keeps : (k : ℕ) → (k ≡ 0 → ⊥) → Kept l s (refused r k)
  refused_keeps k n = rw (ne_eqb k 0 n) h

  -- a record at its stage: refused, or taken
  answered_keeps : (k : ℕ) (next : Run) → (k ≡ 0 → Live next (more (tag_of s) s (λ g. of_tag g l)) × Responding next) → Kept l s (answered r k next)
  answered_keeps k next f = answered_case (Kept l s) r k next (λ e. accepts (f e)) (refused_keeps k)
    where
      accepts : Live next (more (tag_of s) s (λ g. of_tag g l)) × Responding next → Invariant next (snoc l s)
      accepts (live, few) =
          record {
            start = λ e. absurd (omega (arith, live.stage.stage_pos));
            live = λ p. subst (Live next) (sym (fun_ext (of_tag_snoc l s))) live;
            responding = few;
          }

  -- at the stage that takes its tag, or at another
  stage_keeps : (g : Tag) (a : Handler) → (r.stage ≡ taken_at g → Kept l s (handled a r s)) → Kept l s (handled (at_stage g (stage_of r) a) r s)
  stage_keeps g a f = stage_case (Kept l s) g a r s (λ e. f (sym (stage_of_is r l h) ∙ e)) (λ n. refused_keeps 11 (λ e. absurd (omega arith)))

step_keeps : (r : Run) (s : List ℕ) (l : List (List ℕ)) → Invariant r l → Kept l s (step_of r s)
unfolding step_of handler_at handled taken_at of_tag first after_challenges after_shifted
step_keeps r s l h = go (tag_of s) refl
  where
    f : Tag → List (List ℕ)
    f g = of_tag g l

    live : (g : ℕ) → r.stage ≡ suc g → Live r f
    live g e = h.live (omega arith)

    none : (g : ℕ) → r.stage ≡ suc g → suc g < 4 → (f CH ≡ []) × (f CS ≡ [])
    none g e p = let early = (live g e).stage.early (omega arith) in (early.0, early.1)

    both : (k : Tag) (next : Run) → Live next (more k s f) → (more k s f CH ≡ []) × (more k s f CS ≡ []) → Live next (more k s f) × Responding next
    both k next h none = (h, quiet next (more k s f) h none.0 none.1)

    go : (k : Tag) → tag_of s ≡ k → Kept l s (handled (handler_at k (stage_of r)) r s)
    go SU m =
        stage_keeps r s l h SU TakeSetup (λ g. answered_keeps r s l h (setup_refusal s) (after_setup false s)
        (λ e. let live = setup_live false s (more SU s (λ k. [])) e refl refl refl refl refl refl (begun_setup s e) in rw (m, h.start g) (live, quiet _ _ live refl refl)))
    go SX m =
        stage_keeps r s l h SX TakeWaiting (λ g. answered_keeps r s l h (setup_refusal s) (after_setup true s)
        (λ e. let live = setup_live true s (more SX s (λ k. [])) e refl refl refl refl refl refl (begun_waiting s) in rw (m, h.start g) (live, quiet _ _ live refl refl)))
    go DE m =
        stage_keeps r s l h DE TakeDealing (λ g. answered_keeps r s l h (dealing_number r.setup r.dealings s) (after_dealing r s)
        (λ e. rw m (both DE _ (dealing_live r s f g e (live 0 g)) (none 0 g (omega arith)))))
    go GO m =
        stage_keeps r s l h GO TakeGo (λ g. answered_keeps r s l h (go_number r.setup.n r.setup.t r.dealings.count r.b s) (after_go r)
        (λ e. rw m (both GO _ (go_live r s f g e (live 0 g)) (none 0 g (omega arith)))))
    go VE m =
        stage_keeps r s l h VE TakeComplaint (λ g. answered_keeps r s l h (complaint_number r.setup r.dealings r.complaints s) (after_complaint r s)
        (λ e. rw m (both VE _ (complaint_live r s f g e (live 1 g)) (none 1 g (omega arith)))))
    go CH m =
        stage_keeps r s l h CH TakeChallenges (λ g. answered_keeps r s l h (challenges_refusal r.setup.a r.b s) (after_challenges r s)
        (λ e. rw m (challenges_live r s f g (live 2 g), challenges_few r (with_challenges r.setup.a r.b r.challenges s) f g (live 2 g))))
    go CS m =
        stage_keeps r s l h CS TakeShifted (λ g. answered_keeps r s l h (shifted_refusal r.setup.a r.b s) (after_shifted r s)
        (λ e. rw m (shifted_live r s f g (live 2 g), challenges_few r (with_shifted r.setup.a r.b r.challenges s) f g (live 2 g))))
    go RE m =
        stage_keeps r s l h RE TakeResponse (λ g. answered_keeps r s l h (response_number r.b r.setup r.dealings r.complaints r.challenges r.responses s) (after_response r s)
        (λ e. rw m (response_live r s f g e (live 3 g), response_few r s g h.responding)))
    go unknown m = refused_keeps r s l h 1 (λ e. absurd (omega arith))

fresh_invariant : Invariant fresh []
unfolding fresh begun
fresh_invariant = record { start = λ e. refl; live = λ l. absurd (omega arith); responding = λ e. absurd (omega arith) }

regroup : (b : Bool) (k l : List (List ℕ)) (s : List ℕ) → pick b (snoc k s) k ++ l ≡ k ++ pick b (s ∷ l) l
regroup true k l s = append_assoc k (s ∷ []) l
regroup false k l s = refl

-- the records l given to a run that has accepted k
invariant_from : (r : Run) (k l : List (List ℕ)) → Invariant r k → Invariant (after_from r l) (k ++ accepted_from r l)
unfolding after_from accepted_from
invariant_from r k [] h = rw append-nil h
invariant_from r k (s ∷ l) h =
    rw regroup at (invariant_from (step_of r s).run (pick (eqb (step_of r s).number 0) (snoc k s) k) l (step_keeps r s k h))

pub invariant_after : (l : List (List ℕ)) → Invariant (after l) (accepted l)
unfolding after accepted
invariant_after l = invariant_from fresh [] l fresh_invariant
