-- What a list of records has, read from the bytes of its accepted records alone (document 01, "The run"; the shift is of document 02,
-- request 2.1, SX and GO of request 2.5).
use Rattle.std.specs.Prelude.{ℕ, ◌+◌, ◌-◌, Bool, false, not, ◌&&◌, ◌||◌, List, [], ◌∷◌, ◌++◌, length, get_or, eqb, ltb}
use Rattle.lists.specs.Tests.{pick}
use Rattle.sets.specs.Masks.{has, count}
use Rattle.field.specs.declared.Scalar.{Scalar}
use Rattle.field.specs.Definitions.{scalar, element, plus}
use Rattle.interpolation.specs.Definitions.{party, slot, scalar_at}
use Rattle.parameters.specs.Definitions.{quorum}
use Rattle.records.specs.Bytes.{byte_at, word, sender}
use Rattle.records.specs.Tags.{Tag, SU, SX, DE, GO, VE, CH, CS, RE, code, tag_of, mask_at}
use Rattle.run.specs.declared.Run.{Run}
use Rattle.protocol.specs.Transcript.{Transcript}
use Rattle.arrays.specs.Arrays.{cell}
use Rattle.run.specs.Runs.{fresh}
use Rattle.run.specs.Steps.{step_of}

-- the accepted records of a list that is given to r: those that are answered with 0, reading on after refusals
unfoldable pub accepted_from : Run → List (List ℕ) → List (List ℕ)
accepted_from r [] = []
accepted_from r (s ∷ l) =
    pick (eqb (step_of r s).number 0) (s ∷ accepted_from (step_of r s).run l) (accepted_from (step_of r s).run l)

unfoldable pub accepted : List (List ℕ) → List (List ℕ)
accepted l = accepted_from fresh l

-- those of one tag
unfoldable pub of_tag : Tag → List (List ℕ) → List (List ℕ)
of_tag g [] = []
of_tag g (s ∷ l) = pick (eqb (code (tag_of s)) (code g)) (s ∷ of_tag g l) (of_tag g l)

-- the first record
unfoldable pub first : List (List ℕ) → List ℕ
first [] = []
first (s ∷ l) = s

-- some record passes a test
unfoldable pub some : (List ℕ → Bool) → List (List ℕ) → Bool
some p [] = false
some p (s ∷ l) = p s || some p l

abbrev pub sent_by : ℕ → List (List ℕ) → Bool
sent_by i l = some (λ s. eqb (sender s) i) l

-- the first record of a sender
unfoldable pub record_of : ℕ → List (List ℕ) → List ℕ
record_of i [] = []
record_of i (s ∷ l) = pick (eqb (sender s) i) s (record_of i l)

-- of the accepted CH and CS, of which there is at most one: challenge x, u outer; those of a CS stand behind its shift
unfoldable pub challenge_by : List (List ℕ) → List (List ℕ) → ℕ → Scalar
challenge_by l (s ∷ m) x = scalar (word s 8 x)
challenge_by l [] x = scalar (word (first l) 4 x)

-- of the accepted CS: δ, which is 0 where there is none
unfoldable pub shift_by : List (List ℕ) → Scalar
shift_by [] = scalar 0
shift_by (s ∷ m) = scalar (word s 4 0)

-- of a list of accepted records:
module _ (l : List (List ℕ)) where
  -- the accepted SU or SX, of which there is at most one
  abbrev pub setup_record : List ℕ
  setup_record = first (of_tag SU l ++ of_tag SX l)

  -- its n
  abbrev pub parties : ℕ
  parties = byte_at setup_record 2

  -- the accepted dealers
  unfoldable pub dealer : ℕ → Bool
  dealer i = sent_by i (of_tag DE l)

  -- HOLD: the senders of the accepted complaint rows
  unfoldable pub hold : ℕ → Bool
  hold j = sent_by j (of_tag VE l)

  -- the mask of holder j: that of its accepted VE, and an empty one for a party that has none
  unfoldable pub mask_from : ℕ → ℕ
  mask_from j = pick (hold j) (mask_at parties (record_of j (of_tag VE l))) 0

  -- BAD: the dealers whom any of them blames
  unfoldable pub bad : ℕ → Bool
  bad i = dealer i && some (λ s. has (mask_at parties s) i) (of_tag VE l)

  -- QUAL: the other accepted dealers
  unfoldable pub qualified : ℕ → Bool
  qualified i = dealer i && not (bad i)

  -- the setup of the accepted SU or SX, m, which is the number of the accepted DE, QUAL, the commitments of the accepted DE, the challenges of the
  -- accepted CH or CS, and the shift
  unfoldable pub read : Transcript
  read =
      record {
        n = parties;
        t = byte_at setup_record 3;
        a = byte_at setup_record 4;
        m = length (of_tag DE l);
        key = λ j. element (word setup_record 6 j);
        qual = qualified;
        commitment = λ i v. element (word (record_of i (of_tag DE l)) 4 v);
        challenge = λ u k. challenge_by (of_tag CH l) (of_tag CS l) (cell (byte_at setup_record 4) u k);
        shift = shift_by (of_tag CS l);
      }

  -- φ(u,k) before the shift: the numbers for u of the accepted RE, interpolated at 1-k
  unfoldable pub phi : ℕ → ℕ → Scalar
  phi u k =
      scalar_at (λ i. party (sender (get_or (of_tag RE l) i []))) (length (of_tag RE l)) (λ i. scalar (word (get_or (of_tag RE l) i []) 4 (u - 1))) (slot k)

  -- φ(u,k) + δ modulo q: what is kept and printed for φ(u,k)
  unfoldable pub shifted_phi : ℕ → ℕ → Scalar
  shifted_phi u k = plus (phi u k) read.shift

  -- no SU and no SX yet
  unfoldable pub unset : Bool
  unset = eqb (length (of_tag SU l) + length (of_tag SX l)) 0

  -- with no SX, fewer than n-t DE; with an SX, no GO yet
  unfoldable pub dealing : Bool
  dealing = pick (eqb (length (of_tag SX l)) 0) (ltb (length (of_tag DE l)) (read.n - read.t)) (eqb (length (of_tag GO l)) 0)

  -- fewer than n-t VE
  unfoldable pub complaining : Bool
  complaining = ltb (length (of_tag VE l)) (read.n - read.t)

  -- more than t dealers in BAD
  unfoldable pub stopped : Bool
  stopped = ltb read.t (count read.n bad)

  -- no CH and no CS yet
  unfoldable pub unchallenged : Bool
  unchallenged = eqb (length (of_tag CH l) + length (of_tag CS l)) 0

  -- fewer than need RE
  unfoldable pub responding : Bool
  responding = ltb (length (of_tag RE l)) (quorum read.t read.a)

  -- the stage that they bring
  unfoldable pub stage_by : ℕ
  stage_by = pick unset 0 (pick dealing 1 (pick complaining 2 (pick stopped 6 (pick unchallenged 3 (pick responding 4 5)))))
