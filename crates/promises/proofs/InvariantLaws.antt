-- What a run keeps is what its accepted records say: the invariant of a list, part by part, and what follows at once. Assumes nothing.
use Rattle.std.specs.Prelude.{◌≡◌, true, false, List, [], ◌++◌, ◌⊎◌, ℕ, ◌+◌, ◌*◌, ◌-◌, ◌/◌, ◌%◌, ◌^◌, ◌≤◌, ◌<◌, length, eqb}
use Rattle.std.proofs.Common.{sym, ◌∙◌, inl, inr, arith, eqb-true}
use Rattle.std.proofs.Math.Path.{ap, subst}
use Rattle.std.proofs.Math.Decide.{dec_lt}
use Rattle.std.proofs.Math.ListN.{get_or}
use Rattle.std.proofs.lemmas.Bool.{eqb-false}
use Rattle.lists.specs.Tests.{pick}
use Rattle.lists.specs.TestLaws.{pick_case}
use Rattle.lists.specs.Members.{All}
use Rattle.lists.specs.StoreLaws.{stored_from, length_filled}
use Rattle.sets.specs.Masks.{has, count}
use Rattle.field.specs.Definitions.{scalar, element, IsElement, is_identity, identity}
use Rattle.protocol.specs.Transcript.{Transcript, passes}
use Rattle.parameters.specs.Definitions.{most_parties, places, cells, quorum, batch}
use Rattle.records.specs.Bytes.{byte_at, word, sender}
use Rattle.records.specs.Tags.{Tag, SU, SX, DE, GO, VE, CH, CS, RE, mask_at}
use Rattle.refusals.specs.Refusals.{setup_refusal, dealing_refusal}
use Rattle.parameters.specs.ParameterLaws.{Bounds, key_max}
use Rattle.refusals.proofs.RefusalLaws.{setup_passed, dealing_passed}
use Rattle.stages.specs.Definitions.{batch_fits}
use Rattle.dealing.specs.declared.Setup.{Setup}
use Rattle.dealing.specs.declared.Dealings.{Dealings}
use Rattle.complaint.specs.declared.Complaints.{Complaints}
use Rattle.challenge.specs.declared.Challenges.{Challenges}
use Rattle.response.specs.declared.Responses.{Responses}
use Rattle.run.specs.declared.Run.{Run}
use Rattle.arrays.specs.Arrays.{base}
use Rattle.dealing.specs.Definitions.{no_setup, setup_of, wrong_shares}
use Rattle.challenge.specs.Definitions.{no_challenges}
use Rattle.run.specs.Runs.{well_formed, stage_of, transcript_of}
use Rattle.response.specs.Definitions.{shifted_phi_of}
use Rattle.complaint.specs.Definitions.{blamed_by, mask_by}
use Rattle.run.specs.RunLaws.{Gone, begun_fits, gone_fits, formed_test}
use Rattle.promises.specs.Lists.{of_tag, first, some, sent_by, record_of, challenge_by, shift_by}
use Rattle.promises.proofs.ListLaws.{record_of_all}
use Rattle.promises.proofs.SenderLaws.{Senders, Slots, Marks, senders_max}

-- ---- the parts

-- s is the accepted SU or SX
pub record SetupOf (setup : Setup) (s : List ℕ) : Type 0 where
  pub setup_is : setup ≡ setup_of s
  pub admitted : setup_refusal s ≡ 0

-- l holds the accepted DE
pub record DealingsOf (setup : Setup) (d : Dealings) (l : List (List ℕ)) : Type 0 where
  pub commitments_size : length d.commitments ≡ places
  pub wrong_size : length d.wrong ≡ most_parties
  pub senders : Senders setup.n d.count d.dealers l
  pub slots : Slots element identity (quorum setup.t setup.a) d.commitments l
  pub wrong_is : Marks (wrong_shares setup) d.wrong l
  pub admitted : All (λ s. dealing_refusal setup.n setup.t setup.a s ≡ 0) l

-- l holds the accepted VE, whose masks are kept; only accepted dealers are blamed
pub record ComplaintsOf (setup : Setup) (dealers : ℕ) (c : Complaints) (l : List (List ℕ)) : Type 0 where
  pub senders : Senders setup.n c.count c.holders l
  pub masks_size : length c.masks ≡ most_parties
  pub masks_are : Marks (mask_at setup.n) c.masks l
  pub masks_width : (j : ℕ) → mask_by c j < 2 ^ setup.n
  pub blamed_is : (i : ℕ) → has (blamed_by setup.n c) i ≡ some (λ s. has (mask_at setup.n s) i) l
  pub founded : All (λ s. (i : ℕ) → has (mask_at setup.n s) i ≡ true → has dealers i ≡ true) l

-- l holds the accepted CH, m the accepted CS; before there is one of either every number is 0, and so is the shift
pub record ChallengesOf (b : ℕ) (setup : Setup) (e : Challenges) (l m : List (List ℕ)) : Type 0 where
  pub size : length e.numbers ≡ cells
  pub challenge_is : (x : ℕ) → x < setup.a * b → get_or e.numbers x (scalar 0) ≡ challenge_by l m x
  pub shift_is : e.shift ≡ shift_by m

-- l holds the accepted RE
pub record ResponsesOf (b : ℕ) (setup : Setup) (p : Responses) (l : List (List ℕ)) : Type 0 where
  pub numbers_size : length p.numbers ≡ places
  pub senders : Senders setup.n p.count p.responders l
  pub slots : Slots scalar (scalar 0) b p.numbers l

-- a response row of a member of HOLD, whose numbers pass
pub record PassingRow (w : Transcript) (holders : ℕ) (s : List ℕ) : Type 0 where
  pub held : has holders (sender s) ≡ true
  pub passing : (x : ℕ) → x < batch w.m w.t → passes w (x + 1) (sender s) (scalar (word s 4 x)) ≡ true

-- need rows are there, and every φ, shifted
pub record Done (r : Run) : Type 0 where
  pub full : r.responses.count ≡ quorum r.setup.t r.setup.a
  pub signatures : (x : ℕ) → x < r.setup.a * r.b → get_or r.signatures x (scalar 0) ≡ shifted_phi_of r.setup.n r.challenges.shift r.responses (x / r.setup.a + 1) (x % r.setup.a + 1)

-- a list begun by SU: n-t dealings end stage 1, and b is theirs from the start. su, sx and go hold the accepted records of these tags, m counts the DE
pub record BySetup (stage b : ℕ) (setup : Setup) (m : ℕ) (su sx go : List (List ℕ)) : Type 0 where
  pub one : length su ≡ 1
  pub none : sx ≡ []
  pub no_go : go ≡ []
  pub fixed : b ≡ batch (setup.n - setup.t) setup.t
  pub dealing : stage ≡ 1 → m < setup.n - setup.t
  pub dealt : 1 < stage → m ≡ setup.n - setup.t

-- a list begun by SX: a GO ends stage 1, with n-t dealings or more, and fixes b
pub record ByWaiting (stage b : ℕ) (setup : Setup) (m : ℕ) (su sx go : List (List ℕ)) : Type 0 where
  pub one : length sx ≡ 1
  pub none : su ≡ []
  pub waiting : stage ≡ 1 → (go ≡ []) × (b ≡ 0)
  pub gone : 1 < stage → (length go ≡ 1) × Gone setup.n setup.t m b

abbrev pub Begun : ℕ → ℕ → Setup → ℕ → List (List ℕ) → List (List ℕ) → List (List ℕ) → Type 0
Begun stage b setup m su sx go = BySetup stage b setup m su sx go ⊎ ByWaiting stage b setup m su sx go

-- n-t complaint rows end stage 2; and more than t dealers are in BAD at stage 6 alone
pub record Counts (stage : ℕ) (setup : Setup) (c : Complaints) : Type 0 where
  pub complaining : stage ≤ 2 → c.count < setup.n - setup.t
  pub complained : 2 < stage → c.count ≡ setup.n - setup.t
  pub few_bad : 2 < stage → stage < 6 → count setup.n (has (blamed_by setup.n c)) ≤ setup.t
  pub many_bad : stage ≡ 6 → setup.t < count setup.n (has (blamed_by setup.n c))

-- what the stage says; f holds the accepted records of each tag
pub record AtStage (stage : ℕ) (r : Run) (f : Tag → List (List ℕ)) : Type 0 where
  pub stage_pos : 0 < stage
  pub stage_max : stage ≤ 6
  pub begun : Begun stage r.b r.setup r.dealings.count (f SU) (f SX) (f GO)
  pub counts : Counts stage r.setup r.complaints
  pub early : stage < 4 → (f CH ≡ []) × (f CS ≡ []) × (f RE ≡ []) × (r.challenges ≡ no_challenges)
  pub challenged : 3 < stage → stage < 6 → length (f CH) + length (f CS) ≡ 1
  pub done : stage ≡ 5 → Done r

-- ---- the invariant

-- of a run past stage 0
pub record Live (r : Run) (f : Tag → List (List ℕ)) : Type 0 where
  pub setup : SetupOf r.setup (first (f SU ++ f SX))
  pub dealings : DealingsOf r.setup r.dealings (f DE)
  pub complaints : ComplaintsOf r.setup r.dealings.dealers r.complaints (f VE)
  pub challenges : ChallengesOf r.b r.setup r.challenges (f CH) (f CS)
  pub responses : ResponsesOf r.b r.setup r.responses (f RE)
  pub rows : All (PassingRow (transcript_of r) r.complaints.holders) (f RE)
  pub signatures_size : length r.signatures ≡ cells
  pub stage : AtStage r.stage r f

-- need response rows end stage 4
abbrev pub Responding : Run → Type 0
Responding r = r.stage ≡ 4 → r.responses.count < quorum r.setup.t r.setup.a

-- of a run and the accepted records of its list
pub record Invariant (r : Run) (l : List (List ℕ)) : Type 0 where
  pub start : r.stage ≡ 0 → l ≡ []
  pub live : 0 < r.stage → Live r (λ g. of_tag g l)
  pub responding : Responding r

-- ---- what follows

module _ {stage b : ℕ} {setup : Setup} {m : ℕ} {su sx go : List (List ℕ)} where
  -- one SU or SX
  pub begun_one : Begun stage b setup m su sx go → length su + length sx ≡ 1
  begun_one (inl h) = omega (arith, h.one, ap length h.none)
  begun_one (inr h) = omega (arith, h.one, ap length h.none)

  -- a GO with an SX alone
  pub begun_go : Begun stage b setup m su sx go → 1 < stage → length go ≡ length sx
  begun_go (inl h) l = omega (arith, ap length h.none, ap length h.no_go)
  begun_go (inr h) l = omega (arith, h.one, (h.gone l).0)

  -- past stage 1 b is m-t, with n-t dealings or more
  pub begun_gone : Begun stage b setup m su sx go → 1 < stage → Gone setup.n setup.t m b
  begun_gone (inl h) l = (omega (arith, h.dealt l), h.fixed ∙ ap (λ (k : ℕ). batch k setup.t) (sym (h.dealt l)))
  begun_gone (inr h) l = (h.gone l).1

  -- with an SU just n-t
  pub begun_exact : Begun stage b setup m su sx go → 1 < stage → sx ≡ [] → m ≡ setup.n - setup.t
  begun_exact (inl h) l e = h.dealt l
  begun_exact (inr h) l e = absurd (omega (arith, h.one, ap length e))

  -- so b fits the stage
  begun_test : Begun stage b setup m su sx go → 0 < stage → batch_fits stage setup.n setup.t m b ≡ true
  begun_test h p = by (dec_lt 1 stage) h
    where
      by : Dec (1 < stage) → Begun stage b setup m su sx go → batch_fits stage setup.n setup.t m b ≡ true
      by (yes l) h = gone_fits _ _ _ _ _ l (begun_gone h l)
      by (no l) (inl h) = begun_fits _ _ _ _ _ (omega arith) (inr h.fixed)
      by (no l) (inr h) = begun_fits _ _ _ _ _ (omega arith) (inl (h.waiting (omega arith)).1)

  -- past stage 1 nothing of it changes
  pub begun_past : {next : ℕ} → 1 < stage → 1 < next → Begun stage b setup m su sx go → Begun next b setup m su sx go
  begun_past l k (inl h) = inl (record { one = h.one; none = h.none; no_go = h.no_go; fixed = h.fixed; dealing = λ e. absurd (omega arith); dealt = λ e. h.dealt l })
  begun_past l k (inr h) = inr (record { one = h.one; none = h.none; waiting = λ e. absurd (omega arith); gone = λ e. h.gone l })

module _ (setup : Setup) (s : List ℕ) (h : SetupOf setup s) where
  pub setup_bounds : Bounds setup.n setup.t setup.a
  unfolding setup_of
  setup_bounds = subst (λ (z : Setup). Bounds z.n z.t z.a) (sym h.setup_is) (setup_passed s h.admitted).bounds

  -- S is key 0, and S_j key j
  pub key_is : (j : ℕ) → j ≤ setup.t → get_or setup.key j identity ≡ element (word s 6 j)
  unfolding setup_of no_setup
  key_is j l =
      ap (λ (z : Setup). get_or z.key j identity) h.setup_is
      ∙ stored_from _ (byte_at s 3 + 1) _ identity (omega (arith, length_filled most_parties identity, key_max setup_bounds, ap (λ (z : Setup). z.t) h.setup_is)) j
      (omega (arith, ap (λ (z : Setup). z.t) h.setup_is))

  pub key_element : (j : ℕ) → j ≤ setup.t → IsElement (get_or setup.key j identity)
  unfolding setup_of
  key_element j l = rw (key_is j l) ((setup_passed s h.admitted).elements j (omega (arith, ap (λ (z : Setup). z.t) h.setup_is)))

  -- S is not the identity
  pub key_apart : is_identity (get_or setup.key 0 identity).0 ≡ false
  key_apart = rw (key_is 0 (omega arith)) (setup_passed s h.admitted).key

pub commitment_element : (setup : Setup) (d : Dealings) (l : List (List ℕ)) → DealingsOf setup d l
    → (i v : ℕ) → 0 < i → has d.dealers i ≡ true → v < quorum setup.t setup.a → IsElement (get_or d.commitments (base i + v) identity)
commitment_element setup d l h i v p e k =
    let sent : sent_by i l ≡ true = sym (h.senders.mask_is i) ∙ e in
    rw (h.slots i v p k sent) ((dealing_passed setup.n setup.t setup.a (record_of i l) (record_of_all i _ l h.admitted sent)).elements v k)

module _ (r : Run) (f : Tag → List (List ℕ)) (h : Live r f) where
  pub live_bounds : Bounds r.setup.n r.setup.t r.setup.a
  live_bounds = setup_bounds r.setup (first (f SU ++ f SX)) h.setup

  pub live_well_formed : well_formed r ≡ true
  live_well_formed =
      formed_test (record {
        stage_max = h.stage.stage_max;
        bounds = live_bounds;
        dealings_max = senders_max h.dealings.senders;
        complaints_max = senders_max h.complaints.senders;
        responses_max = senders_max h.responses.senders;
        batch_fits_true = begun_test h.stage.begun h.stage.stage_pos;
      })

-- its stage counts as it stands
pub stage_of_is : (r : Run) (l : List (List ℕ)) → Invariant r l → stage_of r ≡ r.stage
unfolding stage_of
stage_of_is r l h =
    pick_case (λ z. z ≡ r.stage) (eqb r.stage 0) 0 (pick (well_formed r) r.stage 6) (λ e. sym (eqb-true r.stage 0 e))
    (λ e. rw (live_well_formed r _ (h.live (omega (arith, eqb-false r.stage 0 e)))))
