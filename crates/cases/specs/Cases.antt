-- The worked log of document 01 and its cases A to L, and those of document 02 (the shift, 64 parties, the identity as key, waiting for more dealers), one list with the expected answers, and one fact over it.
-- Assumes nothing.
use Rattle.std.specs.Prelude.{ℕ, zero, suc, ◌+◌, ◌/◌, ◌%◌, ◌≡◌, refl, Bool}
use mathlib.Core.List.{List, [], ◌∷◌, ◌++◌, map, flatten}
use Rattle.lists.specs.Tests.{pick}
use Rattle.sets.specs.Masks.{has, members}
use Rattle.field.specs.Definitions.{scalar, is_element, inverse}
use Rattle.interpolation.specs.Definitions.{weight}
use Rattle.records.specs.Tags.{letter_c, letter_d, letter_e, letter_g, letter_h, letter_o, letter_r, letter_s, letter_u, letter_v, letter_x}
use Rattle.protocol.specs.Transcript.{shifted_nonce}
use Rattle.run.specs.declared.Run.{Run}
use Rattle.run.specs.Runs.{transcript_of, kept}
use Rattle.run.specs.Steps.{step_of, after}
use Rattle.answers.specs.Answers.{shown_sets}
use Rattle.dealer.specs.Dealt.{setup_refused}
use Rattle.reader.specs.Report.{report_of}
use Rattle.cases.specs.Opened.{opened}

-- ---- records

four : ℕ → List ℕ
four x = x / 16777216 ∷ x / 65536 % 256 ∷ x / 256 % 256 ∷ x % 256 ∷ []

fours : List ℕ → List ℕ
fours [] = []
fours (x ∷ l) = four x ++ fours l

setup : ℕ → ℕ → ℕ → List ℕ → List ℕ
setup n t a l = letter_s ∷ letter_u ∷ n ∷ t ∷ a ∷ 0 ∷ fours l

-- one whose run waits, and what ends the waiting
waiting : ℕ → ℕ → ℕ → List ℕ → List ℕ
waiting n t a l = letter_s ∷ letter_x ∷ n ∷ t ∷ a ∷ 0 ∷ fours l

go : List ℕ
go = letter_g ∷ letter_o ∷ []

dealing : ℕ → List ℕ → List ℕ
dealing i l = letter_d ∷ letter_e ∷ i ∷ 0 ∷ fours l

complaint : ℕ → ℕ → List ℕ
complaint j m = letter_v ∷ letter_e ∷ j ∷ 0 ∷ four m

-- with a mask of eight bytes, as two words
wide : ℕ → ℕ → ℕ → List ℕ
wide j high low = letter_v ∷ letter_e ∷ j ∷ 0 ∷ (four high ++ four low)

challenges : List ℕ → List ℕ
challenges l = letter_c ∷ letter_h ∷ 0 ∷ 0 ∷ fours l

-- a shift before the challenges
shifted : ℕ → List ℕ → List ℕ
shifted d l = letter_c ∷ letter_s ∷ 0 ∷ 0 ∷ fours (d ∷ l)

response : ℕ → List ℕ → List ℕ
response j l = letter_r ∷ letter_e ∷ j ∷ 0 ∷ fours l

-- ---- logs

su : List ℕ
su = setup 4 1 1 (4 ∷ 16 ∷ [])

-- the dealings, with x and y for the shares for 2 of dealers 2 and 3
dealings : ℕ → ℕ → List (List ℕ)
dealings x y = dealing 1 (1 ∷ 4 ∷ 1 ∷ 2 ∷ 3 ∷ 4 ∷ []) ∷ dealing 2 (4 ∷ 4 ∷ 1 ∷ x ∷ 1 ∷ 1 ∷ []) ∷ dealing 3 (16 ∷ 64 ∷ 3 ∷ y ∷ 5 ∷ 6 ∷ []) ∷ []

-- up to them
dealt : ℕ → ℕ → List (List ℕ)
dealt x y = su ∷ dealings x y

-- up to the complaint rows, with mask m from holder 2
held : ℕ → ℕ → ℕ → List (List ℕ)
held x y m = dealt x y ++ (complaint 2 m ∷ complaint 3 0 ∷ complaint 4 0 ∷ [])

challenged : ℕ → ℕ → ℕ → List (List ℕ)
challenged x y m = held x y m ++ (challenges (1 ∷ 2 ∷ []) ∷ [])

-- the first log up to the complaint rows, then s, and the response rows
signed_by : List ℕ → List (List ℕ)
signed_by s = held 1 4 0 ++ (s ∷ response 2 (10 ∷ 22 ∷ []) ∷ response 3 (13 ∷ 28 ∷ []) ∷ [])

worked : List (List ℕ)
worked = signed_by (challenges (1 ∷ 2 ∷ []))

sx : List ℕ
sx = waiting 4 1 1 (4 ∷ 16 ∷ [])

-- a further dealing, of 1 + 2x
fourth : List ℕ
fourth = dealing 4 (4 ∷ 64 ∷ 3 ∷ 5 ∷ 7 ∷ 9 ∷ [])

-- the complaint rows, challenges and response rows of the first log
verdicts : List (List ℕ)
verdicts = complaint 2 0 ∷ complaint 3 0 ∷ complaint 4 0 ∷ []

rows_of_two : List (List ℕ)
rows_of_two = challenges (1 ∷ 2 ∷ []) ∷ response 2 (10 ∷ 22 ∷ []) ∷ response 3 (13 ∷ 28 ∷ []) ∷ []

-- the first log begun by SX: with its three dealings, and with the fourth, where b is 3
waited_three : List (List ℕ)
waited_three = sx ∷ (dealings 1 4 ++ (go ∷ (verdicts ++ rows_of_two)))

waited_four : List (List ℕ)
waited_four = sx ∷ (dealings 1 4 ++ (fourth ∷ go ∷ (verdicts ++ (challenges (1 ∷ 2 ∷ 3 ∷ []) ∷ response 2 (15 ∷ 42 ∷ 131 ∷ []) ∷ response 3 (20 ∷ 56 ∷ 176 ∷ []) ∷ []))))

noughts : ℕ → List ℕ
noughts zero = []
noughts (suc m) = 0 ∷ noughts m

-- dealings of 0 for 33 parties, from m dealers i and on
dealt_from : ℕ → ℕ → List (List ℕ)
dealt_from i zero = []
dealt_from i (suc m) = dealing i (1 ∷ 1 ∷ noughts 33) ∷ dealt_from (suc i) m

-- 33 parties, up to the dealings: all but dealer 1 deal, and the share of dealer 33 for 1 is sent as 1
dealt_by33 : List (List ℕ)
dealt_by33 = setup 33 1 1 (4 ∷ 16 ∷ []) ∷ (dealt_from 2 31 ++ (dealing 33 (1 ∷ 1 ∷ 1 ∷ noughts 32) ∷ []))

-- ---- what is said of them

-- HOLD, QUAL, BAD; R and φ of (1,1) and (2,1); the stage
said : Run → List (List ℕ)
said r =
    members 4 (has (shown_sets r).hold) ∷ members 4 (has (shown_sets r).qual) ∷ members 4 (has (shown_sets r).bad)
    ∷ ((shifted_nonce (transcript_of r) 1 1).0 ∷ (kept r 1 1).0 ∷ []) ∷ ((shifted_nonce (transcript_of r) 2 1).0 ∷ (kept r 2 1).0 ∷ []) ∷ (r.stage ∷ []) ∷ []

-- the answer to a record after a list
answer : List (List ℕ) → List ℕ → List ℕ
answer l s = (step_of (after l) s).number ∷ []

test : Bool → List ℕ
test b = pick b (1 ∷ []) (0 ∷ [])

-- the answer of the SU writer for 4,1,1 and one share
written : ℕ → ℕ → ℕ → List ℕ
written s share room = setup_refused 4 1 1 s (share ∷ []) room ∷ []

-- the page of a list of records, end to end
page : List (List ℕ) → List (List ℕ)
page l = report_of (flatten l) ∷ []

-- document 01's page, line by line
worked_page : List ℕ
worked_page =
    104 ∷ 111 ∷ 108 ∷ 100 ∷ 32 ∷ 50 ∷ 32 ∷ 51 ∷ 32 ∷ 52 ∷ 10
    ∷ 113 ∷ 117 ∷ 97 ∷ 108 ∷ 32 ∷ 49 ∷ 32 ∷ 50 ∷ 32 ∷ 51 ∷ 10
    ∷ 98 ∷ 97 ∷ 100 ∷ 32 ∷ 45 ∷ 10
    ∷ 115 ∷ 105 ∷ 103 ∷ 32 ∷ 49 ∷ 32 ∷ 49 ∷ 32 ∷ 54 ∷ 52 ∷ 32 ∷ 52 ∷ 10
    ∷ 115 ∷ 105 ∷ 103 ∷ 32 ∷ 50 ∷ 32 ∷ 49 ∷ 32 ∷ 54 ∷ 53 ∷ 53 ∷ 51 ∷ 54 ∷ 32 ∷ 49 ∷ 48 ∷ 10
    ∷ 101 ∷ 110 ∷ 100 ∷ 32 ∷ 53 ∷ 10 ∷ []

-- the page of the first log with a shift of 5: R × 4^5 and φ + 5
shifted_page : List ℕ
shifted_page =
    104 ∷ 111 ∷ 108 ∷ 100 ∷ 32 ∷ 50 ∷ 32 ∷ 51 ∷ 32 ∷ 52 ∷ 10
    ∷ 113 ∷ 117 ∷ 97 ∷ 108 ∷ 32 ∷ 49 ∷ 32 ∷ 50 ∷ 32 ∷ 51 ∷ 10
    ∷ 98 ∷ 97 ∷ 100 ∷ 32 ∷ 45 ∷ 10
    ∷ 115 ∷ 105 ∷ 103 ∷ 32 ∷ 49 ∷ 32 ∷ 49 ∷ 32 ∷ 54 ∷ 53 ∷ 53 ∷ 51 ∷ 54 ∷ 32 ∷ 57 ∷ 10
    ∷ 115 ∷ 105 ∷ 103 ∷ 32 ∷ 50 ∷ 32 ∷ 49 ∷ 32 ∷ 54 ∷ 55 ∷ 49 ∷ 48 ∷ 56 ∷ 56 ∷ 54 ∷ 52 ∷ 32 ∷ 49 ∷ 53 ∷ 10
    ∷ 101 ∷ 110 ∷ 100 ∷ 32 ∷ 53 ∷ 10 ∷ []

-- the page of the first log begun by SX, with the fourth dealing
waited_page : List ℕ
waited_page =
    104 ∷ 111 ∷ 108 ∷ 100 ∷ 32 ∷ 50 ∷ 32 ∷ 51 ∷ 32 ∷ 52 ∷ 10
    ∷ 113 ∷ 117 ∷ 97 ∷ 108 ∷ 32 ∷ 49 ∷ 32 ∷ 50 ∷ 32 ∷ 51 ∷ 32 ∷ 52 ∷ 10
    ∷ 98 ∷ 97 ∷ 100 ∷ 32 ∷ 45 ∷ 10
    ∷ 115 ∷ 105 ∷ 103 ∷ 32 ∷ 49 ∷ 32 ∷ 49 ∷ 32 ∷ 50 ∷ 53 ∷ 54 ∷ 32 ∷ 53 ∷ 10
    ∷ 115 ∷ 105 ∷ 103 ∷ 32 ∷ 50 ∷ 32 ∷ 49 ∷ 32 ∷ 49 ∷ 54 ∷ 55 ∷ 55 ∷ 55 ∷ 50 ∷ 49 ∷ 54 ∷ 32 ∷ 49 ∷ 52 ∷ 10
    ∷ 115 ∷ 105 ∷ 103 ∷ 32 ∷ 51 ∷ 32 ∷ 49 ∷ 32 ∷ 50 ∷ 56 ∷ 49 ∷ 48 ∷ 52 ∷ 48 ∷ 48 ∷ 55 ∷ 51 ∷ 32 ∷ 52 ∷ 49 ∷ 10
    ∷ 101 ∷ 110 ∷ 100 ∷ 32 ∷ 53 ∷ 10 ∷ []

-- challenges before GO end the reading, at one position
early_page : List ℕ
early_page =
    114 ∷ 101 ∷ 102 ∷ 117 ∷ 115 ∷ 101 ∷ 32 ∷ 53 ∷ 32 ∷ 49 ∷ 49 ∷ 10
    ∷ 104 ∷ 111 ∷ 108 ∷ 100 ∷ 32 ∷ 45 ∷ 10
    ∷ 113 ∷ 117 ∷ 97 ∷ 108 ∷ 32 ∷ 45 ∷ 10
    ∷ 98 ∷ 97 ∷ 100 ∷ 32 ∷ 45 ∷ 10
    ∷ 101 ∷ 110 ∷ 100 ∷ 32 ∷ 49 ∷ 10 ∷ []

-- ---- the cases: what is computed, and what document 01 says

cases : List (List (List ℕ) × List (List ℕ))
cases =
    -- (A) the worked page, and what the run says
    (page worked, worked_page ∷ [])
    ∷ (said (after worked), (2 ∷ 3 ∷ 4 ∷ []) ∷ (1 ∷ 2 ∷ 3 ∷ []) ∷ [] ∷ (64 ∷ 4 ∷ []) ∷ (65536 ∷ 10 ∷ []) ∷ (5 ∷ []) ∷ [])
    -- (B) right after CH, RE 1 with 0,0 refused 14; (C) RE 2 with 11,22 refused 15
    ∷ (
      answer (challenged 1 4 0) (response 1 (0 ∷ 0 ∷ [])) ∷ answer (challenged 1 4 0) (response 2 (11 ∷ 22 ∷ [])) ∷ [],
      (14 ∷ []) ∷ (15 ∷ []) ∷ [],
    )
    -- (D) the share of dealer 3 for 2 sent as 5, mask 4 from holder 2
    ∷ (
      said (after (challenged 1 5 4 ++ (response 2 (6 ∷ 10 ∷ []) ∷ response 3 (8 ∷ 13 ∷ []) ∷ []))),
      (2 ∷ 3 ∷ 4 ∷ []) ∷ (1 ∷ 2 ∷ []) ∷ (3 ∷ []) ∷ (4 ∷ 2 ∷ []) ∷ (16 ∷ 4 ∷ []) ∷ (5 ∷ []) ∷ [],
    )
    -- (E) mask 4 from holder 2 in the first log refused 13
    ∷ (answer (dealt 1 4) (complaint 2 4) ∷ [], (13 ∷ []) ∷ [])
    -- (F) 4,1,1 and 32,1,15 accepted, (G) 3,1,1 and 32,1,16 refused 4
    ∷ (
      answer [] su ∷ answer [] (setup 32 1 15 (4 ∷ 16 ∷ [])) ∷ answer [] (setup 3 1 1 (4 ∷ 16 ∷ [])) ∷ answer [] (setup 32 1 16 (4 ∷ 16 ∷ [])) ∷ [],
      (0 ∷ []) ∷ (0 ∷ []) ∷ (4 ∷ []) ∷ (4 ∷ []) ∷ [],
    )
    -- (H) scalar 500,000,002 taken, 500,000,003 refused 6
    ∷ (
      answer (su ∷ []) (dealing 1 (1 ∷ 4 ∷ 500000002 ∷ 2 ∷ 3 ∷ 4 ∷ [])) ∷ answer (su ∷ []) (dealing 1 (1 ∷ 4 ∷ 500000003 ∷ 2 ∷ 3 ∷ 4 ∷ [])) ∷ [],
      (0 ∷ []) ∷ (6 ∷ []) ∷ [],
    )
    -- (I) 4 an element, 1,000,000,006 not; (J) the inverse of 2; (K) the weights of points 2, 3 at 0
    ∷ (
      test (is_element 4) ∷ test (is_element 1000000006) ∷ ((inverse (scalar 2)).0 ∷ [])
          ∷ ((weight (λ i. scalar (i + 2)) 2 0 (scalar 0)).0 ∷ (weight (λ i. scalar (i + 2)) 2 1 (scalar 0)).0 ∷ []) ∷ [],
      (1 ∷ []) ∷ (0 ∷ []) ∷ (250000002 ∷ []) ∷ (3 ∷ 500000001 ∷ []) ∷ [],
    )
    -- (L) the shares for 2 sent as 2 by dealer 2 and as 5 by dealer 3, mask 6 from holder 2
    ∷ (
      said (after (held 2 5 6)),
      (2 ∷ 3 ∷ 4 ∷ []) ∷ (1 ∷ []) ∷ (2 ∷ 3 ∷ []) ∷ (1 ∷ 0 ∷ []) ∷ (1 ∷ 0 ∷ []) ∷ (6 ∷ []) ∷ [],
    )
    -- document 02, request 2.1: the first log with CS in place of CH. A shift of 5; a shift of 0, which prints the first page; a shift of q-1, with
    -- R / 4 and φ - 1
    ∷ (page (signed_by (shifted 5 (1 ∷ 2 ∷ []))) ++ page (signed_by (shifted 0 (1 ∷ 2 ∷ []))), shifted_page ∷ worked_page ∷ [])
    ∷ (
      said (after (signed_by (shifted 500000002 (1 ∷ 2 ∷ [])))),
      (2 ∷ 3 ∷ 4 ∷ []) ∷ (1 ∷ 2 ∷ 3 ∷ []) ∷ [] ∷ (16 ∷ 3 ∷ []) ∷ (16384 ∷ 9 ∷ []) ∷ (5 ∷ []) ∷ [],
    )
    -- its refusals in their order: CT is no tag (1); a CS of two bytes before the challenges are due, after a CH, and a CH after a CS (11); a CS as long as
    -- a CH with a reserved byte not 0 (2); such a byte beside a shift of q (3); a shift of q, and a last challenge of q (6)
    ∷ (
      answer (held 1 4 0) (letter_c ∷ 84 ∷ 0 ∷ 0 ∷ fours (5 ∷ 1 ∷ 2 ∷ []))
          ∷ answer (dealt 1 4) (letter_c ∷ letter_s ∷ [])
          ∷ answer (challenged 1 4 0) (shifted 5 (1 ∷ 2 ∷ []))
          ∷ answer (held 1 4 0 ++ (shifted 5 (1 ∷ 2 ∷ []) ∷ [])) (challenges (1 ∷ 2 ∷ []))
          ∷ answer (held 1 4 0) (letter_c ∷ letter_s ∷ 1 ∷ 0 ∷ fours (5 ∷ 1 ∷ []))
          ∷ answer (held 1 4 0) (letter_c ∷ letter_s ∷ 0 ∷ 1 ∷ fours (500000003 ∷ 1 ∷ 2 ∷ []))
          ∷ answer (held 1 4 0) (shifted 500000003 (1 ∷ 2 ∷ []))
          ∷ answer (held 1 4 0) (shifted 5 (1 ∷ 500000003 ∷ [])) ∷ [],
      (1 ∷ []) ∷ (11 ∷ []) ∷ (11 ∷ []) ∷ (11 ∷ []) ∷ (2 ∷ []) ∷ (3 ∷ []) ∷ (6 ∷ []) ∷ (6 ∷ []) ∷ [],
    )
    -- document 02, request 2.2: 33,1,15 and 64,1,31 accepted, 65,1,1 and 64,1,32 refused 4
    ∷ (
      answer [] (setup 33 1 15 (4 ∷ 16 ∷ [])) ∷ answer [] (setup 64 1 31 (4 ∷ 16 ∷ []))
          ∷ answer [] (setup 65 1 1 (4 ∷ 16 ∷ [])) ∷ answer [] (setup 64 1 32 (4 ∷ 16 ∷ [])) ∷ [],
      (0 ∷ []) ∷ (0 ∷ []) ∷ (4 ∷ []) ∷ (4 ∷ []) ∷ [],
    )
    -- at 33 parties a row of twelve bytes that blames dealer 33 is accepted, bit 33 refused 8, a blame of dealer 1, which has not dealt, 13, and a row of
    -- eight bytes 2; at 4 parties a row of twelve bytes 2
    ∷ (
      answer dealt_by33 (wide 1 1 0) ∷ answer dealt_by33 (wide 1 2 0) ∷ answer dealt_by33 (wide 1 0 1) ∷ answer dealt_by33 (complaint 1 0)
          ∷ answer (dealt 1 4) (wide 2 0 0) ∷ [],
      (0 ∷ []) ∷ (8 ∷ []) ∷ (13 ∷ []) ∷ (2 ∷ []) ∷ (2 ∷ []) ∷ [],
    )
    -- document 02, request 2.3: S = 1 refused 16; with an S_1 of 0 or P-1 beside it 7; outside the bounds 4; in a run that has a setup 11. S = P-1 is no
    -- element (7), and S = P+1 neither. S = 4 with S_1 = 1 accepted, and then a dealing that commits to 1 alone
    ∷ (
      answer [] (setup 4 1 1 (1 ∷ 16 ∷ []))
          ∷ answer [] (setup 4 1 1 (1 ∷ 0 ∷ [])) ∷ answer [] (setup 4 1 1 (1 ∷ 1000000006 ∷ []))
          ∷ answer [] (setup 3 1 1 (1 ∷ 16 ∷ [])) ∷ answer (su ∷ []) (setup 4 1 1 (1 ∷ 16 ∷ []))
          ∷ answer [] (setup 4 1 1 (1000000006 ∷ 16 ∷ [])) ∷ answer [] (setup 4 1 1 (1000000008 ∷ 16 ∷ []))
          ∷ answer [] (setup 4 1 1 (4 ∷ 1 ∷ [])) ∷ answer (setup 4 1 1 (4 ∷ 1 ∷ []) ∷ []) (dealing 1 (1 ∷ 1 ∷ noughts 4)) ∷ [],
      (16 ∷ []) ∷ (7 ∷ []) ∷ (7 ∷ []) ∷ (4 ∷ []) ∷ (11 ∷ []) ∷ (7 ∷ []) ∷ (7 ∷ []) ∷ (0 ∷ []) ∷ (0 ∷ []) ∷ [],
    )
    -- the SU writer: s = 0 refused 16, in a buffer of another length too; beside a share of q, and s = q, 6; with two shares 10; s = 1 in a buffer of
    -- another length 9, in its own accepted, with a share of 0 too
    ∷ (
      written 0 5 14 ∷ written 0 5 15 ∷ written 0 500000003 14 ∷ written 500000003 5 14 ∷ (setup_refused 4 1 1 0 (5 ∷ 5 ∷ []) 14 ∷ [])
          ∷ written 1 5 15 ∷ written 1 5 14 ∷ written 1 0 14 ∷ [],
      (16 ∷ []) ∷ (16 ∷ []) ∷ (6 ∷ []) ∷ (6 ∷ []) ∷ (10 ∷ []) ∷ (9 ∷ []) ∷ (0 ∷ []) ∷ (0 ∷ []) ∷ [],
    )
    -- document 02, request 2.5: begun by SX, the first log with its three dealings has its page; with a fourth b is 3; and challenges before GO end the
    -- reading
    ∷ (page waited_three ++ (page waited_four ++ page (sx ∷ (dealings 1 4 ++ rows_of_two))), worked_page ∷ waited_page ∷ early_page ∷ [])
    -- GO in its order: GP is no tag, nor G alone (1); in a fresh run, in a run begun by SU, with a byte behind it too, and after a GO (11); with a byte
    -- behind it before any dealing and at three (2); before any and at two (17); at three and at four (0)
    ∷ (
      answer (sx ∷ dealings 1 4) (letter_g ∷ 80 ∷ []) ∷ answer (sx ∷ dealings 1 4) (letter_g ∷ [])
          ∷ answer [] go ∷ answer (su ∷ []) go ∷ answer (su ∷ []) (letter_g ∷ letter_o ∷ 0 ∷ []) ∷ answer (dealt 1 4) go ∷ answer (sx ∷ (dealings 1 4 ++ (go ∷ []))) go
          ∷ answer (sx ∷ []) (letter_g ∷ letter_o ∷ 0 ∷ []) ∷ answer (sx ∷ dealings 1 4) (letter_g ∷ letter_o ∷ 0 ∷ [])
          ∷ answer (sx ∷ []) go ∷ answer (sx ∷ dealing 1 (1 ∷ 4 ∷ 1 ∷ 2 ∷ 3 ∷ 4 ∷ []) ∷ fourth ∷ []) go
          ∷ answer (sx ∷ dealings 1 4) go ∷ answer (sx ∷ (dealings 1 4 ++ (fourth ∷ []))) go ∷ [],
      (1 ∷ []) ∷ (1 ∷ []) ∷ (11 ∷ []) ∷ (11 ∷ []) ∷ (11 ∷ []) ∷ (11 ∷ []) ∷ (11 ∷ []) ∷ (2 ∷ []) ∷ (2 ∷ []) ∷ (17 ∷ []) ∷ (17 ∷ []) ∷ (0 ∷ []) ∷ (0 ∷ []) ∷ [],
    )
    -- SX as SU: outside the bounds 4, S_1 = 0 beside S = 1 7, S = 1 16, in a run that has a setup 11. A fourth dealing after three 0, a fifth 12, one
    -- after GO 11; after three a complaint row 11; after the fourth and GO challenges of two numbers 2, and of three 0
    ∷ (
      answer [] (waiting 3 1 1 (1 ∷ 16 ∷ [])) ∷ answer [] (waiting 4 1 1 (1 ∷ 0 ∷ [])) ∷ answer [] (waiting 4 1 1 (1 ∷ 16 ∷ [])) ∷ answer (su ∷ []) sx ∷ answer (sx ∷ []) su
          ∷ answer (sx ∷ dealings 1 4) fourth ∷ answer (sx ∷ (dealings 1 4 ++ (fourth ∷ []))) fourth ∷ answer (sx ∷ (dealings 1 4 ++ (go ∷ []))) fourth
          ∷ answer (sx ∷ dealings 1 4) (complaint 2 0)
          ∷ answer (sx ∷ (dealings 1 4 ++ (fourth ∷ go ∷ verdicts))) (challenges (1 ∷ 2 ∷ []))
          ∷ answer (sx ∷ (dealings 1 4 ++ (fourth ∷ go ∷ verdicts))) (challenges (1 ∷ 2 ∷ 3 ∷ [])) ∷ [],
      (4 ∷ []) ∷ (7 ∷ []) ∷ (16 ∷ []) ∷ (11 ∷ []) ∷ (11 ∷ []) ∷ (0 ∷ []) ∷ (12 ∷ []) ∷ (11 ∷ []) ∷ (11 ∷ []) ∷ (2 ∷ []) ∷ (0 ∷ []) ∷ [],
    )
    ∷ []

-- every case comes out as the documents say
computed : map (λ c. c.0) cases ≡ map (λ c. c.1) cases
unfolding opened four fours setup waiting go dealing dealings complaint wide noughts dealt_from dealt_by33 challenges shifted response su dealt held challenged signed_by said answer written test cases worked sx fourth verdicts rows_of_two waited_three waited_four page worked_page shifted_page waited_page early_page
computed = refl
