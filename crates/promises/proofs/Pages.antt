-- The page of every log is that of its list of records: the closing lines say what the accepted records have, and each signature that is printed
-- satisfies the equation with the accepted challenge. Assumes nothing.
use Rattle.std.specs.Prelude.{◌≡◌, Bool, length, ltb, Option, unwrap_or}
use Rattle.std.proofs.Math.Path.{refl, ap, ap₂}
use Rattle.std.proofs.Common.{sym, ◌∙◌}
use Rattle.std.proofs.Math.Bool.{true, false}
use mathlib.Core.List.{List, [], ◌∷◌, ◌++◌}
use Prim.Native.Nat.{ℕ, zero, suc, ◌+◌, ◌*◌, ◌/◌, ◌%◌, ◌≤◌, ◌<◌}
use native.Mathlib.Omega.{arith}
use Rattle.std.proofs.Math.Dec.{eqb, leb}
use borrow.Author.Tests.{eqb-true, leb-true, leb-false}
use Rattle.lists.specs.Tests.{pick}
use Rattle.sets.specs.Masks.{has, members_from, members}
use Rattle.sets.proofs.MaskLaws.{has_zero}
use Rattle.sets.proofs.MemberLaws.{members_cong}
use Rattle.field.specs.declared.Element.{Element}
use Rattle.field.specs.Definitions.{generator, product, raise}
use Rattle.parameters.specs.Definitions.{batch}
use Rattle.protocol.specs.Transcript.{shifted_nonce}
use Rattle.protocol.proofs.AlikeLaws.{shifted_same}
use Rattle.verification.specs.Definitions.{transcript}
use Rattle.run.specs.Runs.{fresh, stage_of, transcript_of, kept}
use Rattle.run.specs.Steps.{after}
use Rattle.answers.specs.declared.Sets.{Sets}
use Rattle.answers.specs.Answers.{no_sets, shown_sets}
use Rattle.reader.specs.Cutting.{records_of, run_of}
use Rattle.text.specs.Lines.{feed, line, set_text, set_line}
use Rattle.closing.specs.Closing.{hold_word, qual_word, bad_word, end_word, sig_line, signature_line, signature_lines, set_lines, closing}
use Rattle.reader.specs.Report.{long_word, longest, refusal_lines, report_of}
use Rattle.promises.specs.Lists.{accepted, hold, bad, qualified, read, stage_by}
use Rattle.promises.proofs.PlaceLaws.{place_at}
use Rattle.promises.proofs.MadeLaws.{made_live, made_alike, made_batch}
use Rattle.promises.proofs.Stages.{stage_by_accepted}
use Rattle.promises.proofs.InvariantLaws.{live_bounds}
use Rattle.promises.proofs.FinishedLaws.{kept_is}
use Rattle.promises.proofs.Demand3.{demand_3}
use Rattle.promises.specs.Claims.{Place, Fixed, member_lines, closing_of, members_line, signed_lines}
use Rattle.promises.proofs.Answers.{answers}

-- an empty set has no members
members_none : (s n : ℕ) → members_from (has 0) s n ≡ []
unfolding members_from
members_none s zero = refl
members_none s (suc n) = rw has_zero (members_none (suc s) n)

module _ (l : List (List ℕ)) where
  -- a set's members, fixed or not
  members_are : (mask : ℕ) (set : ℕ → Bool) → (3 ≤ stage_by (accepted l) → (i : ℕ) → has mask i ≡ set i) → (stage_by (accepted l) < 3 → mask ≡ 0)
      → members (after l).setup.n (has mask) ≡ pick (leb 3 (stage_by (accepted l))) (members (read (accepted l)).n set) []
  unfolding transcript_of transcript
  members_are mask set fixed none = go (leb 3 (stage_by (accepted l))) refl
    where
      go : (b : Bool) → leb 3 (stage_by (accepted l)) ≡ b → members (after l).setup.n (has mask) ≡ pick b (members (read (accepted l)).n set) []
      go true e =
          let m : 3 ≤ stage_by (accepted l) = leb-true 3 (stage_by (accepted l)) e in
          members_cong set (has mask) 1 (after l).setup.n (λ i p k. fixed m i)
          ∙ ap (λ (n : ℕ). members n set) (made_alike l (omega (arith, stage_by_accepted l))).n_same
      go false e = rw (none (leb-false 3 (stage_by (accepted l)) e)) (members_none 1 (after l).setup.n)

  line_is : (word : List ℕ) (mask : ℕ) (set : ℕ → Bool) → (3 ≤ stage_by (accepted l) → (i : ℕ) → has mask i ≡ set i) → (stage_by (accepted l) < 3 → mask ≡ 0)
      → set_line word (after l).setup.n mask ≡ members_line (accepted l) word set
  unfolding set_line members_line
  line_is word mask set fixed none = ap (λ (m : List ℕ). word ++ (set_text m ++ (feed ∷ []))) (members_are mask set fixed none)

  -- at stage 5, R(u,k) and φ(u,k) of the list
  signed_lines_are : (after l).stage ≡ 5 → (m : ℕ) → m ≤ (read (accepted l)).a * batch (read (accepted l)).m (read (accepted l)).t → signature_lines (after l) m ≡ signed_lines (accepted l) m
  unfolding signature_lines signature_line signed_lines transcript_of transcript
  signed_lines_are e zero b = refl
  signed_lines_are e (suc x) b =
      let p : 0 < (after l).stage = omega arith in
      let h = made_alike l p in
      let a = (read (accepted l)).a in
      let u = x / a + 1 in
      let k = x % a + 1 in
      let place = place_at (read (accepted l)) x (omega (arith, (live_bounds (after l) _ (made_live l p)).a_pos, h.a_same)) (omega arith) in
      ap₂ ◌++◌ (signed_lines_are e x (omega arith))
      (ap (λ (a : ℕ). sig_line (x / a + 1) (x % a + 1) (shifted_nonce (transcript_of (after l)) (x / a + 1) (x % a + 1)) (kept (after l) (x / a + 1) (x % a + 1))) h.a_same
      ∙ ap₂ (sig_line u k) (shifted_same (transcript_of (after l)) (read (accepted l)) h u k) (kept_is l e u k place))

  signatures_are : pick (eqb (stage_of (after l)) 5) (signature_lines (after l) ((after l).setup.a * (after l).b)) []
      ≡ pick (eqb (stage_by (accepted l)) 5) (signed_lines (accepted l) ((read (accepted l)).a * batch (read (accepted l)).m (read (accepted l)).t)) []
  unfolding transcript_of transcript
  signatures_are =
      ap (λ (g : ℕ). pick (eqb g 5) (signature_lines (after l) ((after l).setup.a * (after l).b)) []) (answers l).stage
      ∙ go (eqb (stage_by (accepted l)) 5) refl
    where
      go : (b : Bool) → eqb (stage_by (accepted l)) 5 ≡ b → pick b (signature_lines (after l) ((after l).setup.a * (after l).b)) []
          ≡ pick b (signed_lines (accepted l) ((read (accepted l)).a * batch (read (accepted l)).m (read (accepted l)).t)) []
      go true d =
          let e : (after l).stage ≡ 5 = stage_by_accepted l ∙ eqb-true (stage_by (accepted l)) 5 d in
          let h = made_alike l (omega arith) in
          ap (signature_lines (after l)) (ap₂ ◌*◌ h.a_same (made_batch l (omega arith) (omega arith)))
          ∙ signed_lines_are e _ (omega arith)
      go false d = refl

  -- the line of one of the sets
  set_line_is : (word : List ℕ) (mask : Sets → ℕ) (set : ℕ → Bool) → ((m : Fixed l) (i : ℕ) → has (mask m.sets) i ≡ set i) → mask no_sets ≡ 0
      → set_line word (after l).setup.n (mask (shown_sets (after l))) ≡ members_line (accepted l) word set
  unfolding shown_sets
  set_line_is word mask set fixed none =
      let shown = λ (o : Option Sets). mask (unwrap_or o no_sets) in
      line_is word (mask (shown_sets (after l))) set
      (λ m i. let z = (answers l).sets m in ap (λ (o : Option Sets). has (shown o) i) z.fixed ∙ fixed z i)
      (λ m. ap shown ((answers l).no_sets_before m) ∙ none)

  pub sets_are : set_lines (after l) ≡ member_lines (accepted l)
  unfolding set_lines member_lines no_sets
  sets_are =
      ap₂ ◌++◌ (set_line_is hold_word (λ z. z.hold) (hold (accepted l)) (λ m. m.hold_is) refl)
      (ap₂ ◌++◌ (set_line_is qual_word (λ z. z.qual) (qualified (accepted l)) (λ m. m.qual_is) refl)
      (set_line_is bad_word (λ z. z.bad) (bad (accepted l)) (λ m. m.bad_is) refl))

  closing_is : closing (after l) ≡ closing_of (accepted l)
  unfolding closing closing_of
  closing_is = ap₂ ◌++◌ sets_are (ap₂ ◌++◌ signatures_are (ap (λ (g : ℕ). line end_word (g ∷ [])) (answers l).stage))

-- The page of every log is that of its records: `long` alone over 65,536 bytes, else the refusals and the closing lines of the accepted ones.
pub page_is : (log : List ℕ) → report_of log ≡ pick (ltb longest (length log)) (line long_word []) (refusal_lines 1 fresh (records_of log) ++ closing_of (accepted (records_of log)))
unfolding report_of run_of
page_is log = ap (λ (c : List ℕ). pick (ltb longest (length log)) (line long_word []) (refusal_lines 1 fresh (records_of log) ++ c)) (closing_is (records_of log))

-- a line `sig u k R φ` prints `shifted_nonce (transcript_of (run_of log)) u k` and `kept (run_of log) u k`: 4^φ = R × S^e(u,k)
pub printed_signed : (log : List ℕ) → (run_of log).stage ≡ 5 → (u k : ℕ) → Place (records_of log) u k
    → raise generator (kept (run_of log) u k)
    ≡ product (shifted_nonce (transcript_of (run_of log)) u k) (raise ((read (accepted (records_of log))).key 0) ((read (accepted (records_of log))).challenge u k))
unfolding run_of
printed_signed log e u k p =
    let l = records_of log in
    let s = (demand_3 l e).1 u k p in
    ap (raise generator) s.keeps ∙ s.verifies
    ∙ ap (λ (v : Element). product v (raise ((read (accepted l)).key 0) ((read (accepted l)).challenge u k)))
    (sym (shifted_same (transcript_of (after l)) (read (accepted l)) (made_alike l (omega arith)) u k))
