-- What a page says of the run after its log (document 01, "The printed page"), as bytes.
use Rattle.std.specs.Prelude.{ℕ, zero, suc, ◌+◌, ◌*◌, ◌/◌, ◌%◌, List, [], ◌∷◌, ◌++◌, eqb}
use Rattle.lists.specs.Tests.{pick}
use Rattle.field.specs.declared.Scalar.{Scalar}
use Rattle.field.specs.declared.Element.{Element}
use Rattle.parameters.specs.Definitions.{most_parties, cells}
use Rattle.text.specs.Lines.{line, set_line}
use Rattle.protocol.specs.Transcript.{shifted_nonce}
use Rattle.run.specs.declared.Run.{Run}
use Rattle.run.specs.Runs.{stage_of, transcript_of, kept}
use Rattle.answers.specs.Answers.{shown_sets}

-- the words hold, qual, bad, sig, end
abbrev pub hold_word : List ℕ
hold_word = 104 ∷ 111 ∷ 108 ∷ 100 ∷ []

abbrev pub qual_word : List ℕ
qual_word = 113 ∷ 117 ∷ 97 ∷ 108 ∷ []

abbrev pub bad_word : List ℕ
bad_word = 98 ∷ 97 ∷ 100 ∷ []

abbrev pub sig_word : List ℕ
sig_word = 115 ∷ 105 ∷ 103 ∷ []

abbrev pub end_word : List ℕ
end_word = 101 ∷ 110 ∷ 100 ∷ []

-- the most bytes of a set's line, of the lines of all three, of a line `sig u k R φ`, of all such lines, of the last line, and of all that a page
-- says of its run
abbrev pub most_set : ℕ
most_set = 11 * most_parties + 7

abbrev pub most_sets : ℕ
most_sets = 3 * most_set

abbrev pub most_line : ℕ
most_line = 48

abbrev pub most_lines : ℕ
most_lines = most_line * cells

abbrev pub most_end : ℕ
most_end = 15

abbrev pub most_closing : ℕ
most_closing = most_sets + most_lines + most_end

-- the line `sig u k R φ`
abbrev pub sig_line : ℕ → ℕ → Element → Scalar → List ℕ
sig_line u k v x = line sig_word (u ∷ k ∷ v.0 ∷ x.0 ∷ [])

-- with R(u,k) and φ(u,k) of a run, both shifted
unfoldable pub signature_line : Run → ℕ → ℕ → List ℕ
signature_line r u k = sig_line u k (shifted_nonce (transcript_of r) u k) (kept r u k)

-- the signatures numbered below m, u outer
unfoldable pub signature_lines : Run → ℕ → List ℕ
signature_lines r zero = []
signature_lines r (suc x) = signature_lines r x ++ signature_line r (x / r.setup.a + 1) (x % r.setup.a + 1)

-- HOLD, QUAL and BAD, empty before they are fixed
unfoldable pub set_lines : Run → List ℕ
set_lines r =
    set_line hold_word r.setup.n (shown_sets r).hold
    ++ (set_line qual_word r.setup.n (shown_sets r).qual
    ++ set_line bad_word r.setup.n (shown_sets r).bad)

-- the sets, at stage 5 every signature, and the stage
unfoldable pub closing : Run → List ℕ
closing r =
    set_lines r
    ++ (pick (eqb (stage_of r) 5) (signature_lines r (r.setup.a * r.b)) []
    ++ line end_word (stage_of r ∷ []))
