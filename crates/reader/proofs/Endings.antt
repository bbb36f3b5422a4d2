-- How the reading of a log goes on and where it ends (document 01, "A log is .."). What is left of a log, s, is given to a run r. Where no byte is
-- left there is no record (records_none). Else s begins with a whole record, which is passed over, or it is the last record: its tag is unknown, or
-- r has no setup and the tag is neither SU nor SX, or r waits for GO and the tag's length takes b, or it is cut. Assumes nothing.
use Rattle.std.specs.Prelude.{◌≡◌, refl, Bool, true, false, ◌&&◌, ◌⊎◌, ◌≢◌, List, [], ◌∷◌, ℕ, ◌≤◌, ◌<◌, length, take, drop, eqb, leb}
use Rattle.std.proofs.Common.{sym, ap, ◌∙◌, inl, inr, arith, eqb-true, le-leb, lt-ltb, ne_eqb}
use Rattle.std.proofs.Math.Decide.{ℕ_discrete, dec_lt}
use Rattle.std.proofs.Math.Seq.{take-length, drop-length}
use Rattle.std.proofs.lemmas.Bool.{eqb-false, lt-leb}
use Rattle.lists.specs.Tests.{pick, or_next}
use Rattle.lists.specs.TestLaws.{pick_case, require_false}
use Rattle.records.specs.Bytes.{byte_at}
use Rattle.records.specs.Tags.{Tag, SU, SX, DE, GO, VE, CH, CS, RE, unknown, code, tag_of, setup_length, dealing_length, complaint_length, challenges_length, shifted_length, response_length, go_length}
use Rattle.refusals.specs.Refusals.{setup_refusal, head_refusal, dealing_refusal, complaint_refusal, scalars_refusal, challenges_refusal, shifted_refusal, response_refusal}
use Rattle.dealing.specs.Definitions.{dealing_number}
use Rattle.complaint.specs.Definitions.{complaint_number}
use Rattle.response.specs.Definitions.{response_number}
use Rattle.run.specs.declared.Run.{Run}
use Rattle.stages.specs.declared.Handler.{Handler}
use Rattle.refusals.specs.declared.Refusal.TheVariants.{WrongStage}
use Rattle.stages.specs.declared.Handler.TheVariants.{TakeSetup, TakeWaiting, TakeDealing, TakeGo, TakeComplaint, TakeChallenges, TakeShifted, TakeResponse, Refuse}
use Rattle.run.specs.Runs.{fresh, well_formed, stage_of}
use Rattle.parameters.specs.ParameterLaws.{batch_pos}
use Rattle.run.specs.RunLaws.{formed_of, fits_gone, stage_none, stage_past, stage_live}
use Rattle.run.specs.Steps.{refused, answered, handled, step_of}
use Rattle.stages.specs.Definitions.{taken_at, at_stage, handler_at}
use Rattle.run.specs.StepLaws.{step_tag, at_stage_is, off_stage}
use Rattle.run.specs.RefusalLaws.{refusal_keeps}
use Rattle.reader.specs.Cutting.{own_length, by_batch, length_at, length_of, whole, records_of}
use Rattle.reader.specs.Turns.{next_length, records_from, Whole, takes, BeforeSetup, BeforeGo, Begins, Cut}
use Rattle.reader.proofs.TurnLaws.{none_yet, records_none, records_next}

-- a whole log is given to a fresh run
pub records_start : (log : List ℕ) → records_of log ≡ records_from fresh log
unfolding records_of records_from
records_start log = refl

-- ---- a whole record

whole_length : (r : Run) (s : List ℕ) → Whole r s → next_length r s ≡ length_of r s
unfolding next_length whole
whole_length r s w = rw (le-leb 1 _ w.0, le-leb _ _ w.1)

-- it is the first record, accepted or refused, and is passed over by its length
pub whole_first : (r : Run) (s : List ℕ) → Whole r s →
    let first = take (length_of r s) s in
    records_from r s ≡ first ∷ records_from (step_of r first).run (drop (length_of r s) s)
whole_first r s w =
    records_next r s (omega arith)
    ∙ ap (λ (n : ℕ). take n s ∷ records_from (step_of r (take n s)).run (drop n s)) (whole_length r s w)

-- a refused one leaves the run to the rest
pub whole_refused : (r : Run) (s : List ℕ) → Whole r s →
    let first = take (length_of r s) s in
    (step_of r first).number ≢ 0 → records_from r s ≡ first ∷ records_from r (drop (length_of r s) s)
whole_refused r s w d =
    let first = take (length_of r s) s in
    whole_first r s w ∙ ap (λ (z : Run). first ∷ records_from z (drop (length_of r s) s)) (refusal_keeps r first d)

-- ---- the last record

rest_length : (r : Run) (s : List ℕ) → whole r s ≡ false → next_length r s ≡ length s
unfolding next_length
rest_length r s e = rw e

-- bytes that do not begin with a whole record are one
rest_last : (r : Run) (s : List ℕ) → 0 < length s → whole r s ≡ false → records_from r s ≡ s ∷ []
rest_last r s p e =
    records_next r s p
    ∙ ap (λ (n : ℕ). take n s ∷ records_from (step_of r (take n s)).run (drop n s)) (rest_length r s e)
    ∙ rw (take-length s, drop-length s, records_none) refl

no_length : (r : Run) (s : List ℕ) → length_of r s ≡ 0 → whole r s ≡ false
unfolding whole
no_length r s e = rw e

too_short : (r : Run) (s : List ℕ) → length s < length_of r s → whole r s ≡ false
unfolding whole
too_short r s l = rw (le-leb 1 (length_of r s) (omega arith), lt-leb (length_of r s) (length s) l)

-- ---- refusal 1: fewer than two bytes, or an unknown tag

pub short_unknown : (s : List ℕ) → length s < 2 → tag_of s ≡ unknown
unfolding tag_of
short_unknown s l = rw (lt-ltb (length s) 2 l)

pub known_long : (s : List ℕ) → tag_of s ≢ unknown → 2 ≤ length s
known_long s d = go (dec_lt (length s) 2)
  where
    go : Dec (length s < 2) → 2 ≤ length s
    go (yes l) = absurd (d (short_unknown s l))
    go (no n) = omega arith

unknown_refused : (r : Run) (s : List ℕ) → tag_of s ≡ unknown → step_of r s ≡ refused r 1
unfolding handler_at handled
unknown_refused r s e = step_tag unknown r s e

pub unknown_last : (r : Run) (s : List ℕ) → 0 < length s → tag_of s ≡ unknown → (records_from r s ≡ s ∷ []) × (step_of r s ≡ refused r 1)
unfolding length_of length_at
unknown_last r s p e = (rest_last r s p (no_length r s (rw e)), unknown_refused r s e)

-- ---- 11: the stage does not take the tag

other_stage : (k : Tag) (r : Run) → k ≢ unknown → stage_of r ≢ taken_at k → handler_at k (stage_of r) ≡ Refuse WrongStage
unfolding handler_at
other_stage SU r d e = off_stage SU r TakeSetup e
other_stage SX r d e = off_stage SX r TakeWaiting e
other_stage DE r d e = off_stage DE r TakeDealing e
other_stage GO r d e = off_stage GO r TakeGo e
other_stage VE r d e = off_stage VE r TakeComplaint e
other_stage CH r d e = off_stage CH r TakeChallenges e
other_stage CS r d e = off_stage CS r TakeShifted e
other_stage RE r d e = off_stage RE r TakeResponse e
other_stage unknown r d e = absurd (d refl)

stage_refused : (r : Run) (s : List ℕ) → tag_of s ≢ unknown → stage_of r ≢ taken_at (tag_of s) → step_of r s ≡ refused r 11
unfolding handled
stage_refused r s d e = step_tag (tag_of s) r s refl ∙ ap (λ (h : Handler). handled h r s) (other_stage (tag_of s) r d e)

-- ---- no setup yet, and a known tag other than SU and SX

pub stage_first : (r : Run) → stage_of r ≡ 0 → r.stage ≡ 0
stage_first r e = go (ℕ_discrete r.stage 0)
  where
    go : Dec (r.stage ≡ 0) → r.stage ≡ 0
    go (yes z) = z
    go (no ne) = absurd (pick_case (λ (n : ℕ). n ≢ 0) (well_formed r) r.stage 6 (λ w. ne) (λ w z. absurd (omega arith)) (sym (stage_past r ne) ∙ e))

-- no other tag is taken at stage 0
later_stage : (k : Tag) → k ≢ SU → k ≢ SX → taken_at k ≢ 0
unfolding taken_at
later_stage SU d x e = d refl
later_stage SX d x e = x refl
later_stage DE d x e = absurd (omega arith)
later_stage GO d x e = absurd (omega arith)
later_stage VE d x e = absurd (omega arith)
later_stage CH d x e = absurd (omega arith)
later_stage CS d x e = absurd (omega arith)
later_stage RE d x e = absurd (omega arith)
later_stage unknown d x e = absurd (omega arith)

pub before_setup_last : (r : Run) (s : List ℕ) → BeforeSetup r s → (records_from r s ≡ s ∷ []) × (step_of r s ≡ refused r 11)
unfolding length_of
before_setup_last r s (e, u, d, x) = (
  rest_last r s (omega (arith, known_long s u)) (no_length r s (none_yet (tag_of s) r s d x (stage_first r e))),
  stage_refused r s u (λ z. later_stage (tag_of s) d x (sym z ∙ e)),
)

-- ---- the run waits for GO, and the tag's length takes b

-- past stage 1 b is fixed, in a run that counts as one at that stage
gone_fixed : (r : Run) (g : ℕ) → stage_of r ≡ g → 1 < g → g < 6 → r.b ≢ 0
gone_fixed r g e p l z =
    let live = stage_live r g e (omega arith) l in
    let formed = formed_of r live.1 in
    let gone = fits_gone _ _ _ _ _ formed.batch_fits_true (omega (arith, live.0)) in
    absurd (omega (arith, gone.1, batch_pos formed.bounds gone.0))

-- so no stage takes such a tag
waits_refused : (k : Tag) (r : Run) (s : List ℕ) → tag_of s ≡ k → 1 < taken_at k → taken_at k < 6 → k ≢ unknown → r.b ≡ 0 → step_of r s ≡ refused r 11
waits_refused k r s e p l u z = stage_refused r s (λ y. u (sym e ∙ y)) (λ y. gone_fixed r (taken_at k) (y ∙ ap taken_at e) p l z)

no_batch : (b size : ℕ) → b ≡ 0 → by_batch b size ≡ 0
unfolding by_batch
no_batch b size z = rw z

pub waits_length : (b : Bool) (r : Run) (size : ℕ) → r.b ≡ 0 → pick b 0 (by_batch r.b size) ≡ 0
waits_length b r size z = pick_case (λ (n : ℕ). n ≡ 0) b 0 (by_batch r.b size) (λ e. refl) (λ e. no_batch r.b size z)

pub before_go_last : (r : Run) (s : List ℕ) → BeforeGo r s → (records_from r s ≡ s ∷ []) × (step_of r s ≡ refused r 11)
unfolding length_of length_at taken_at
before_go_last r s (d, z, k) = go k
  where
    last : (k : Tag) → tag_of s ≡ k → k ≢ unknown → length_at k r s ≡ 0 → records_from r s ≡ s ∷ []
    last k e u n = rest_last r s (omega (arith, known_long s (λ y. u (sym e ∙ y)))) (no_length r s (ap (λ (g : Tag). length_at g r s) e ∙ n))

    none : (k : Tag) → code k ≢ 0 → k ≢ unknown
    none k p y = p (ap code y)

    go : (tag_of s ≡ CH) ⊎ ((tag_of s ≡ CS) ⊎ (tag_of s ≡ RE)) → (records_from r s ≡ s ∷ []) × (step_of r s ≡ refused r 11)
    go (inl e) = (last CH e (none CH (λ y. omega arith)) (waits_length (eqb r.stage 0) r _ z), waits_refused CH r s e (omega arith) (omega arith) (none CH (λ y. omega arith)) z)
    go (inr (inl e)) = (last CS e (none CS (λ y. omega arith)) (waits_length (eqb r.stage 0) r _ z), waits_refused CS r s e (omega arith) (omega arith) (none CS (λ y. omega arith)) z)
    go (inr (inr e)) = (last RE e (none RE (λ y. omega arith)) (waits_length (eqb r.stage 0) r _ z), waits_refused RE r s e (omega arith) (omega arith) (none RE (λ y. omega arith)) z)

-- ---- a cut record: fewer bytes are left than its tag's length, for SU and SX also under 6

-- a record whose stage takes its tag, and whose handler finds 2
found_short : (g : Tag) (h : Handler) (r : Run) (s : List ℕ) (k : ℕ) (next : Run) → stage_of r ≡ taken_at g → handled h r s ≡ answered r k next → k ≡ 2
    → handled (at_stage g (stage_of r) h) r s ≡ refused r 2
found_short g h r s k next e a z = ap (λ (y : Handler). handled y r s) (at_stage_is g r h e) ∙ a ∙ rw z

or_short : (k next : ℕ) → k ≡ 2 → or_next k next ≡ 2
unfolding or_next
or_short k next z = rw z

scalars_short : (size count : ℕ) (s : List ℕ) → length s ≢ size → scalars_refusal size count s ≡ 2
unfolding scalars_refusal
scalars_short size count s d = require_false _ 2 _ (ne_eqb _ _ d)

head_short : (n size : ℕ) (s : List ℕ) → length s ≢ size → head_refusal n size s ≡ 2
unfolding head_refusal
head_short n size s d = require_false _ 2 _ (ne_eqb _ _ d)

past_none : (b : Bool) {m n : ℕ} → m < pick b 0 n → m ≢ n
past_none true l e = absurd (omega arith)
past_none false l e = absurd (omega arith)

-- and where the length takes b
past_go : (b : Bool) (k : ℕ) {m n : ℕ} → m < pick b 0 (by_batch k n) → m ≢ n
unfolding by_batch
past_go true k l e = absurd (omega arith)
past_go false k l e = past_none (eqb k 0) l e

setup_short : (s : List ℕ) → length s < 6 → setup_refusal s ≡ 2
unfolding setup_refusal
setup_short s l = require_false _ 2 _ (rw (lt-leb 6 (length s) l))

setup_cut : (s : List ℕ) → length s < own_length s → setup_refusal s ≡ 2
unfolding setup_refusal own_length
setup_cut s l = require_false _ 2 _ (go (leb 6 (length s)) l)
  where
    go : (b : Bool) → length s < pick b (setup_length (byte_at s 3)) 0 → (b && eqb (length s) (setup_length (byte_at s 3))) ≡ false
    go true l =
        let below : length s < setup_length (byte_at s 3) = l in
        ne_eqb (length s) (setup_length (byte_at s 3)) (λ z. absurd (omega arith))
    go false l = refl

-- a known tag has two bytes, which are a whole GO
past_two : (b : Bool) {m : ℕ} → m < pick b 0 go_length → 2 ≤ m → ⊥
past_two true l p = omega arith
past_two false l p = omega arith

cut_number : (k : Tag) (r : Run) (s : List ℕ) → 2 ≤ length s → length s < length_at k r s → stage_of r ≡ taken_at k → handled (handler_at k (stage_of r)) r s ≡ refused r 2
unfolding handler_at handled length_at dealing_number dealing_refusal complaint_number complaint_refusal challenges_refusal shifted_refusal response_number response_refusal
cut_number SU r s two l e = found_short SU TakeSetup r s _ _ e refl (setup_cut s l)
cut_number SX r s two l e = found_short SX TakeWaiting r s _ _ e refl (setup_cut s l)
cut_number DE r s two l e = found_short DE TakeDealing r s _ _ e refl (or_short _ _ (or_short _ _ (head_short _ _ s (past_none (eqb r.stage 0) l))))
cut_number GO r s two l e = absurd (past_two (eqb r.stage 0) l two)
cut_number VE r s two l e = found_short VE TakeComplaint r s _ _ e refl (or_short _ _ (or_short _ _ (head_short _ _ s (past_none (eqb r.stage 0) l))))
cut_number CH r s two l e = found_short CH TakeChallenges r s _ _ e refl (scalars_short _ _ s (past_go (eqb r.stage 0) r.b l))
cut_number CS r s two l e = found_short CS TakeShifted r s _ _ e refl (scalars_short _ _ s (past_go (eqb r.stage 0) r.b l))
cut_number RE r s two l e = found_short RE TakeResponse r s _ _ e refl (or_short _ _ (or_short _ _ (head_short _ _ s (past_go (eqb r.stage 0) r.b l))))
cut_number unknown r s two l e = absurd (omega arith)

-- the rest is one record: 11 where the stage does not take its tag, else 2
pub cut_last : (r : Run) (s : List ℕ) → Cut r s → (records_from r s ≡ s ∷ []) × (step_of r s ≡ refused r (pick (takes r s) 2 11))
unfolding length_of length_at own_length handler_at handled
cut_last r s (u, c) = (rest_last r s (omega (arith, known_long s u)) (short c), go (takes r s) refl)
  where
    short : (length s < length_of r s) ⊎ (Begins s × (length s < 6)) → whole r s ≡ false
    short (inl l) = too_short r s l
    short (inr (inl e, l)) = no_length r s (rw (e, lt-leb 6 (length s) l))
    short (inr (inr e, l)) = no_length r s (rw (e, lt-leb 6 (length s) l))

    number : (length s < length_of r s) ⊎ (Begins s × (length s < 6)) → stage_of r ≡ taken_at (tag_of s) → step_of r s ≡ refused r 2
    number (inl l) e = step_tag (tag_of s) r s refl ∙ cut_number (tag_of s) r s (known_long s u) l e
    number (inr (inl z, l)) e = step_tag SU r s z ∙ found_short SU TakeSetup r s _ _ (e ∙ ap taken_at z) refl (setup_short s l)
    number (inr (inr z, l)) e = step_tag SX r s z ∙ found_short SX TakeWaiting r s _ _ (e ∙ ap taken_at z) refl (setup_short s l)

    go : (b : Bool) → takes r s ≡ b → step_of r s ≡ refused r (pick b 2 11)
    go true e = number c (eqb-true _ _ e)
    go false e = stage_refused r s u (eqb-false _ _ e)

-- ---- what is left of a log is one of these

measured : (r : Run) (s : List ℕ) → tag_of s ≢ unknown → 0 < length_of r s → Cut r s ⊎ Whole r s
measured r s u p = go (dec_lt (length s) (length_of r s))
  where
    go : Dec (length s < length_of r s) → Cut r s ⊎ Whole r s
    go (yes l) = inl (u, inl l)
    go (no n) = inr (p, omega arith)

-- past a setup the lengths that take no b
later_length : (k : Tag) (r : Run) (s : List ℕ) → r.stage ≢ 0 → (k ≡ DE) ⊎ ((k ≡ GO) ⊎ (k ≡ VE)) → 0 < length_at k r s
unfolding length_at dealing_length complaint_length
later_length k r s d (inl e) = rw (e, ne_eqb _ _ d) (omega arith)
later_length k r s d (inr (inl e)) = rw (e, ne_eqb _ _ d) (omega arith)
later_length k r s d (inr (inr e)) = rw (e, ne_eqb _ _ d) (omega arith)

-- and those that take it, once it is fixed
fixed_length_positive : (k : Tag) (r : Run) (s : List ℕ) → r.stage ≢ 0 → r.b ≢ 0 → (k ≡ CH) ⊎ ((k ≡ CS) ⊎ (k ≡ RE)) → 0 < length_at k r s
unfolding length_at by_batch challenges_length shifted_length response_length
fixed_length_positive k r s d f (inl e) = rw (e, ne_eqb _ _ d, ne_eqb _ _ f) (omega arith)
fixed_length_positive k r s d f (inr (inl e)) = rw (e, ne_eqb _ _ d, ne_eqb _ _ f) (omega arith)
fixed_length_positive k r s d f (inr (inr e)) = rw (e, ne_eqb _ _ d, ne_eqb _ _ f) (omega arith)

-- no other rest of a log is the last record, and none is passed over otherwise
pub reading : (r : Run) (s : List ℕ) → (tag_of s ≡ unknown) ⊎ (BeforeSetup r s ⊎ (BeforeGo r s ⊎ (Cut r s ⊎ Whole r s)))
unfolding length_of length_at own_length setup_length
reading r s = go (tag_of s) refl
  where
    not_code : {k : Tag} (l : Tag) → tag_of s ≡ k → code l ≢ code k → tag_of s ≢ l
    not_code l e p z = p (ap code (sym z ∙ e))

    setup : (k : Tag) → tag_of s ≡ k → code unknown ≢ code k → Begins s → 0 < own_length s ⊎ (length s < 6) → length_at k r s ≡ own_length s → Cut r s ⊎ Whole r s
    setup k e p b (inl l) m = measured r s (not_code unknown e p) (rw (e, m) l)
    setup k e p b (inr l) m = inl (not_code unknown e p, inr (b, l))

    own : Dec (length s < 6) → 0 < own_length s ⊎ (length s < 6)
    own (yes l) = inr l
    own (no n) = inl (rw (le-leb 6 (length s) (omega arith)) (omega arith))

    before : (k : Tag) → tag_of s ≡ k → code unknown ≢ code k → code SU ≢ code k → code SX ≢ code k → r.stage ≡ 0 → BeforeSetup r s
    before k e p q x z = (stage_none r z, not_code unknown e p, not_code SU e q, not_code SX e x)

    later : (k : Tag) → tag_of s ≡ k → code unknown ≢ code k → code SU ≢ code k → code SX ≢ code k → (k ≡ DE) ⊎ ((k ≡ GO) ⊎ (k ≡ VE)) → Dec (r.stage ≡ 0)
        → BeforeSetup r s ⊎ (BeforeGo r s ⊎ (Cut r s ⊎ Whole r s))
    later k e p q x m (yes z) = inl (before k e p q x z)
    later k e p q x m (no d) = inr (inr (measured r s (not_code unknown e p) (rw e (later_length k r s d m))))

    fixed : (k : Tag) → tag_of s ≡ k → code unknown ≢ code k → code SU ≢ code k → code SX ≢ code k → (k ≡ CH) ⊎ ((k ≡ CS) ⊎ (k ≡ RE))
        → (tag_of s ≡ CH) ⊎ ((tag_of s ≡ CS) ⊎ (tag_of s ≡ RE)) → Dec (r.stage ≡ 0) → Dec (r.b ≡ 0) → BeforeSetup r s ⊎ (BeforeGo r s ⊎ (Cut r s ⊎ Whole r s))
    fixed k e p q x m n (yes z) b = inl (before k e p q x z)
    fixed k e p q x m n (no d) (yes y) = inr (inl (d, y, n))
    fixed k e p q x m n (no d) (no f) = inr (inr (measured r s (not_code unknown e p) (rw e (fixed_length_positive k r s d f m))))

    first : Dec (r.stage ≡ 0)
    first = ℕ_discrete r.stage 0

    unfixed : Dec (r.b ≡ 0)
    unfixed = ℕ_discrete r.b 0

    go : (k : Tag) → tag_of s ≡ k → (tag_of s ≡ unknown) ⊎ (BeforeSetup r s ⊎ (BeforeGo r s ⊎ (Cut r s ⊎ Whole r s)))
    go SU e = inr (inr (inr (setup SU e (λ y. omega arith) (inl e) (own (dec_lt (length s) 6)) refl)))
    go SX e = inr (inr (inr (setup SX e (λ y. omega arith) (inr e) (own (dec_lt (length s) 6)) refl)))
    go DE e = inr (later DE e (λ y. omega arith) (λ y. omega arith) (λ y. omega arith) (inl refl) first)
    go GO e = inr (later GO e (λ y. omega arith) (λ y. omega arith) (λ y. omega arith) (inr (inl refl)) first)
    go VE e = inr (later VE e (λ y. omega arith) (λ y. omega arith) (λ y. omega arith) (inr (inr refl)) first)
    go CH e = inr (fixed CH e (λ y. omega arith) (λ y. omega arith) (λ y. omega arith) (inl refl) (inl e) first unfixed)
    go CS e = inr (fixed CS e (λ y. omega arith) (λ y. omega arith) (λ y. omega arith) (inr (inl refl)) (inr (inl e)) first unfixed)
    go RE e = inr (fixed RE e (λ y. omega arith) (λ y. omega arith) (λ y. omega arith) (inr (inr refl)) (inr (inr e)) first unfixed)
    go unknown e = inl e
