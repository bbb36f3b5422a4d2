-- What the theorems claim of every list of records.
use Rattle.std.specs.Prelude.{◌≡◌, true, Bool, false, ◌&&◌, not, List, [], ◌∷◌, ◌++◌, ℕ, ◌-◌, ◌≤◌, ◌<◌, zero, suc, ◌+◌, ◌*◌, ◌/◌, ◌%◌, length, eqb, leb, Option, Some, None}
use Rattle.lists.specs.Members.{All, Distinct}
use Rattle.lists.specs.Tests.{pick}
use Rattle.sets.specs.Masks.{count, has, members}
use Rattle.field.specs.Definitions.{generator, IsScalar, product, raise, scalar}
use Rattle.field.specs.declared.Scalar.{Scalar}
use Rattle.field.specs.declared.Element.{Element}
use Rattle.parameters.specs.Definitions.{quorum, batch}
use Rattle.records.specs.Bytes.{sender, word}
use Rattle.records.specs.Tags.{SU, SX, DE, GO, VE, CH, CS, RE, tag_of, shares_from, mask_at}
use Rattle.refusals.specs.Refusals.{complaint_refusal}
use Rattle.text.specs.Lines.{feed, line, set_text}
use Rattle.protocol.specs.Transcript.{shifted_nonce, valid_share}
use Rattle.run.specs.declared.Run.{Run}
use Rattle.run.specs.Runs.{set_challenges, kept, stage_of}
use Rattle.run.specs.Steps.{after}
use Rattle.answers.specs.declared.Sets.{Sets}
use Rattle.answers.specs.Answers.{sets_of, nonce_of, phi_answer}
use Rattle.closing.specs.Closing.{hold_word, qual_word, bad_word, end_word, sig_line}
use Rattle.promises.specs.Lists.{accepted, of_tag, hold, bad, read, shifted_phi, qualified, stage_by, record_of, dealer}
use Rattle.promises.specs.Places.{Within, is_place}

-- ---- demand 3

-- (u,k) is a place of the list: u from 1 to b, k from 1 to a, with t and a of its accepted SU or SX and b = m-t, m being the number of its accepted DE
abbrev pub Place : List (List ℕ) → ℕ → ℕ → Type 0
Place l u k = Within (read (accepted l)) u k

-- the run keeps φ(u,k) of the accepted RE, shifted; it is a scalar; and 4^φ(u,k) = R(u,k) × S^e(u,k), both shifted
pub record Signed (l : List (List ℕ)) (u k : ℕ) : Type 0 where
  pub keeps : kept (after l) u k ≡ shifted_phi (accepted l) u k
  pub below : IsScalar (shifted_phi (accepted l) u k)
  pub verifies : raise generator (shifted_phi (accepted l) u k) ≡ product (shifted_nonce (read (accepted l)) u k) (raise ((read (accepted l)).key 0) ((read (accepted l)).challenge u k))

-- what has been accepted: one SU or SX; from n-t to n DE from different dealers, and just n-t with an SU; a GO with an SX alone; n-t VE from different
-- holders, with at most t dealers in BAD; one CH or CS; and need RE from different members of HOLD
pub record Rows (l : List (List ℕ)) : Type 0 where
  pub setups : length (of_tag SU (accepted l)) + length (of_tag SX (accepted l)) ≡ 1
  pub gone : length (of_tag GO (accepted l)) ≡ length (of_tag SX (accepted l))
  pub dealings : of_tag SX (accepted l) ≡ [] → length (of_tag DE (accepted l)) ≡ (read (accepted l)).n - (read (accepted l)).t
  pub dealings_least : (read (accepted l)).n - (read (accepted l)).t ≤ length (of_tag DE (accepted l))
  pub dealings_most : length (of_tag DE (accepted l)) ≤ (read (accepted l)).n
  pub dealers_differ : Distinct sender (of_tag DE (accepted l))
  pub complaints : length (of_tag VE (accepted l)) ≡ (read (accepted l)).n - (read (accepted l)).t
  pub holders_differ : Distinct sender (of_tag VE (accepted l))
  pub few_bad : count (read (accepted l)).n (bad (accepted l)) ≤ (read (accepted l)).t
  pub challenges : length (of_tag CH (accepted l)) + length (of_tag CS (accepted l)) ≡ 1
  pub responses : length (of_tag RE (accepted l)) ≡ quorum (read (accepted l)).t (read (accepted l)).a
  pub responders_differ : Distinct sender (of_tag RE (accepted l))
  pub responders_held : All (λ s. hold (accepted l) (sender s) ≡ true) (of_tag RE (accepted l))

-- ---- the shift

-- a run with another shift
unfoldable pub reshifted : Scalar → Run → Run
reshifted shift r = set_challenges r r.stage (record { shift = shift; numbers = r.challenges.numbers })

-- ---- what a run answers

-- of a list of accepted records:
module _ (l : List (List ℕ)) where
  -- R(u,k), shifted, at stages 3 to 5, at the places of the list
  unfoldable pub nonce_by : ℕ → ℕ → Option Element
  nonce_by u k = pick ((leb 3 (stage_by l) && leb (stage_by l) 5) && is_place (read l) u k) (Some (shifted_nonce (read l) u k)) None

  -- φ(u,k), shifted, at stage 5, at the places of the list
  unfoldable pub phi_by : ℕ → ℕ → Option Scalar
  phi_by u k = pick (eqb (stage_by l) 5 && is_place (read l) u k) (Some (shifted_phi l u k)) None

-- HOLD, QUAL and BAD are fixed, and have the members that the accepted records give them
pub record Fixed (l : List (List ℕ)) : Type 0 where
  pub sets : Sets
  pub fixed : sets_of (after l) ≡ Some sets
  pub hold_is : (i : ℕ) → has sets.hold i ≡ hold (accepted l) i
  pub qual_is : (i : ℕ) → has sets.qual i ≡ qualified (accepted l) i
  pub bad_is : (i : ℕ) → has sets.bad i ≡ bad (accepted l) i

-- they are not fixed
abbrev pub Unfixed : List (List ℕ) → Type 0
Unfixed l = sets_of (after l) ≡ None

-- the stage is the one that the accepted records bring; the sets are fixed from stage 3 on; and R(u,k) and φ(u,k) are answered where they are
-- due, and nothing elsewhere
pub record Answers (l : List (List ℕ)) : Type 0 where
  pub stage : stage_of (after l) ≡ stage_by (accepted l)
  pub sets : 3 ≤ stage_by (accepted l) → Fixed l
  pub no_sets_before : stage_by (accepted l) < 3 → Unfixed l
  pub nonces : (u k : ℕ) → nonce_of (after l) u k ≡ nonce_by (accepted l) u k
  pub phis : (u k : ℕ) → phi_answer (after l) u k ≡ phi_by (accepted l) u k

-- ---- complaint rows

-- of a list of accepted records:
module _ (l : List (List ℕ)) where
  -- the share for j in dealer i's DE is valid
  unfoldable pub share_valid : ℕ → ℕ → Bool
  share_valid i j =
      valid_share (read l).t (read l).a ((read l).commitment i) j (scalar (word (record_of i (of_tag DE l)) (shares_from (read l).t (read l).a) (j - 1)))

  -- dealer i has a DE, whose share for j is not valid
  unfoldable pub wronged : ℕ → ℕ → Bool
  wronged j i = dealer l i && not (share_valid i j)

-- s is a VE at stage 2 that no other number refuses, and blames a dealer with no accepted DE, or one whose share for its sender is valid
pub record FalseComplaint (l : List (List ℕ)) (s : List ℕ) : Type 0 where
  pub tag : tag_of s ≡ VE
  pub stage : stage_by (accepted l) ≡ 2
  pub formed : complaint_refusal (read (accepted l)).n s ≡ 0
  pub new : hold (accepted l) (sender s) ≡ false
  pub blamed : ℕ
  pub blames : has (mask_at (read (accepted l)).n s) blamed ≡ true
  pub unfounded : wronged (accepted l) (sender s) blamed ≡ false

-- ---- the page

-- of a list of accepted records:
module _ (l : List (List ℕ)) where
  -- the members of a set, rising; none before the sets are fixed
  unfoldable pub members_line : List ℕ → (ℕ → Bool) → List ℕ
  members_line word set = word ++ (set_text (pick (leb 3 (stage_by l)) (members (read l).n set) []) ++ (feed ∷ []))

  -- the lines `sig u k R φ` numbered below m, u outer, R and φ shifted
  unfoldable pub signed_lines : ℕ → List ℕ
  signed_lines zero = []
  signed_lines (suc x) =
      let u = x / (read l).a + 1 in
      let k = x % (read l).a + 1 in
      signed_lines x ++ sig_line u k (shifted_nonce (read l) u k) (shifted_phi l u k)

  -- HOLD, QUAL and BAD
  unfoldable pub member_lines : List ℕ
  member_lines =
      members_line hold_word (hold l)
      ++ (members_line qual_word (qualified l)
      ++ members_line bad_word (bad l))

  -- the sets, at stage 5 every signature, and the stage
  unfoldable pub closing_of : List ℕ
  closing_of =
      member_lines
      ++ (pick (eqb (stage_by l) 5) (signed_lines ((read l).a * batch (read l).m (read l).t)) []
      ++ line end_word (stage_by l ∷ []))
