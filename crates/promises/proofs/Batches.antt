-- b and m of a list (document 02, request 2.5): what a run keeps of them, that b is no more than the members of QUAL, and that a list begun by SU and
-- one begun by SX are alike where nothing but the tag and the GO differs. Assumes nothing.
use Rattle.std.specs.Prelude.{◌≡◌, refl, List, [], ◌∷◌, ℕ, zero, suc, ◌+◌, ◌*◌, ◌-◌, ◌≤◌, ◌<◌, length}
use Rattle.std.proofs.Common.{sym, ap, ap₂, ◌∙◌, inl, inr, arith}
use Rattle.sets.specs.Masks.{has, count}
use Rattle.sets.proofs.MemberLaws.{same_members, members_without}
use Rattle.field.specs.Definitions.{element}
use Rattle.parameters.specs.Definitions.{batch}
use Rattle.parameters.specs.ParameterLaws.{batch_least}
use Rattle.records.specs.Bytes.{byte_at, wide_at, number_at, word}
use Rattle.records.specs.Tags.{SU, SX, DE, GO, VE, CH, CS}
use Rattle.protocol.specs.Alike.{Alike}
use Rattle.verification.specs.Definitions.{transcript}
use Rattle.run.specs.Runs.{stage_of, transcript_of}
use Rattle.run.specs.Steps.{after}
use Rattle.promises.specs.Lists.{accepted, of_tag, first, setup_record, dealer, bad, qualified, read}
use Rattle.promises.proofs.InvariantLaws.{Begun}
use Rattle.promises.proofs.MadeLaws.{made_stage, made_live, made_alike, made_batch, made_few_bad}

-- ---- what a run keeps

-- Past stage 1 the run keeps the m and the b of its list.
pub batch_kept : (l : List (List ℕ)) → 1 < stage_of (after l)
    → ((after l).dealings.count ≡ (read (accepted l)).m) × ((after l).b ≡ batch (read (accepted l)).m (read (accepted l)).t)
unfolding transcript_of transcript
batch_kept l m =
    let live : 0 < (after l).stage = omega (arith, made_stage l) in
    ((made_alike l live).m_same, made_batch l live (omega (arith, made_stage l)))

-- At stage 1 b is n-2t in a run begun by SU, and 0 in one begun by SX, which waits for GO.
pub batch_begun : (l : List (List ℕ)) → stage_of (after l) ≡ 1
    → (of_tag SX (accepted l) ≡ [] → (after l).b ≡ (read (accepted l)).n - 2 * (read (accepted l)).t) × (of_tag SU (accepted l) ≡ [] → (after l).b ≡ 0)
unfolding transcript_of transcript
batch_begun l e = go (made_live l live).stage.begun
  where
    live : 0 < (after l).stage
    live = omega (arith, made_stage l)

    go : Begun (after l).stage (after l).b (after l).setup (after l).dealings.count (of_tag SU (accepted l)) (of_tag SX (accepted l)) (of_tag GO (accepted l))
        → (of_tag SX (accepted l) ≡ [] → (after l).b ≡ (read (accepted l)).n - 2 * (read (accepted l)).t) × (of_tag SU (accepted l) ≡ [] → (after l).b ≡ 0)
    go (inl h) = (
      λ none. h.fixed ∙ batch_least (after l).setup.n (after l).setup.t ∙ ap₂ (λ (n t : ℕ). n - 2 * t) (made_alike l live).n_same (made_alike l live).t_same,
      λ none. absurd (omega (arith, h.one, ap length none)),
    )
    go (inr h) = (λ none. absurd (omega (arith, h.one, ap length none)), λ none. (h.waiting (sym (made_stage l) ∙ e)).1)

-- ---- b and QUAL

-- the dealers are m
dealers_are : (l : List (List ℕ)) → 0 < (after l).stage → count (read (accepted l)).n (dealer (accepted l)) ≡ (read (accepted l)).m
unfolding dealer transcript_of transcript
dealers_are l live =
    let senders = (made_live l live).dealings.senders in
    ap (λ (n : ℕ). count n (dealer (accepted l))) (sym (made_alike l live).n_same)
    ∙ same_members (has (after l).dealings.dealers) (dealer (accepted l)) 1 (after l).setup.n (λ i p q. sym (senders.mask_is i))
    ∙ sym senders.members_are
    ∙ (made_alike l live).m_same

-- Where signatures can come of a list, at stages 3 to 5, b is no more than the members of QUAL.
pub batch_qual : (l : List (List ℕ)) → 2 < stage_of (after l) → stage_of (after l) < 6 → batch (read (accepted l)).m (read (accepted l)).t ≤ count (read (accepted l)).n (qualified (accepted l))
unfolding batch qualified
batch_qual l m k =
    let live : 0 < (after l).stage = omega (arith, made_stage l) in
    let n = (read (accepted l)).n in
    omega (
      arith,
      dealers_are l live,
      members_without (dealer (accepted l)) (bad (accepted l)) 1 n,
      made_few_bad l live (omega (arith, made_stage l)) (omega (arith, made_stage l)),
    )

-- ---- SU and SX

-- numbers of bytes that are the same
wide_same : (s z : List ℕ) → ((i : ℕ) → 1 < i → byte_at z i ≡ byte_at s i) → (w from : ℕ) → 1 < from → wide_at w z from ≡ wide_at w s from
unfolding wide_at
wide_same s z same zero from l = refl
wide_same s z same (suc w) from l = ap₂ (λ (x y : ℕ). x * 256 + y) (wide_same s z same w from l) (same (from + w) (omega arith))

-- the setup of a list that an SU begins, and of one that an SX does
by_setup : (l : List (List ℕ)) (s : List ℕ) → of_tag SU l ≡ s ∷ [] → setup_record l ≡ s
unfolding first
by_setup l s e = rw e refl

by_waiting : (l : List (List ℕ)) (s : List ℕ) → of_tag SU l ≡ [] → of_tag SX l ≡ s ∷ [] → setup_record l ≡ s
unfolding first
by_waiting l s none e = rw (none, e) refl

-- Two lists of accepted records with the same DE, VE, CH and CS, one begun by the SU s and the other by the SX z, which is s behind its tag: with the
-- same m they are alike, whenever the GO came.
pub alike_waited : (l m : List (List ℕ)) (s z : List ℕ) → of_tag SU l ≡ s ∷ [] → of_tag SU m ≡ [] → of_tag SX m ≡ z ∷ []
    → ((i : ℕ) → 1 < i → byte_at z i ≡ byte_at s i) → of_tag DE l ≡ of_tag DE m → of_tag VE l ≡ of_tag VE m → of_tag CH l ≡ of_tag CH m → of_tag CS l ≡ of_tag CS m → Alike (read l) (read m)
unfolding read qualified dealer bad word number_at
alike_waited l m s z su no-su sx same de ve ch cs =
    let begun = by_setup l s su in
    let waits = by_waiting m z no-su sx in
    record {
      n_same = rw (begun, waits) (sym (same 2 (omega arith)));
      t_same = rw (begun, waits) (sym (same 3 (omega arith)));
      a_same = rw (begun, waits) (sym (same 4 (omega arith)));
      m_same = rw de;
      key_same = λ j p. rw (begun, waits) (ap element (sym (wide_same s z same 4 (6 + 4 * j) (omega arith))));
      qual_same = λ i p q. rw (begun, waits, same 2 (omega arith), de, ve);
      commitment_same = λ i v p q e c. rw de;
      challenge_same = λ u k p q c d. rw (begun, waits, same 4 (omega arith), ch, cs);
      shift_same = rw cs;
    }
