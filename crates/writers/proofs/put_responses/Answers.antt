-- `put_responses` meets its contract: each number is the response for its u. Assumes nothing.
use Rattle.std.proofs.Common.{◌≡◌, List, ℕ, Bool, true, ◌+◌, ap, ap₂, ◌∙◌, arith, rules}
use Rattle.sets.specs.Masks.{has}
use Rattle.field.specs.declared.Scalar.{Scalar}
use Rattle.field.specs.Definitions.{scalar, plus, times}
use Rattle.rows.specs.declared.Row.{Row}
use Rattle.interpolation.specs.Definitions.{point, party, slot}
use Rattle.interpolation.proofs.PointLaws.{party_is}
use Rattle.rows.specs.Definitions.{listed, weights_of, sum_of}
use Rattle.protocol.specs.Transcript.{challenge_at}
use Rattle.arrays.specs.Arrays.{challenge_in, scalars}
use Rattle.arrays.specs.ArrayLaws.{scalars_interpolated}
use Rattle.verification.specs.Definitions.{transcript}
use Rattle.run.specs.declared.Run.{Run}
use Rattle.run.specs.Runs.{well_formed, transcript_of}
use Rattle.run.specs.RunLaws.{formed_of}
use Rattle.answers.specs.Answers.{unblamed_of}
use Rattle.writers.specs.Writers.{combined_share, response_for}
use Rattle.writers.proofs.WriterLaws.{qual_is}
use Rattle.writers.proofs.put_responses.Goals as goal

-- the response number for u, as the code works it out
abbrev number : ℕ → ℕ → ℕ → List Scalar → Row → ℕ → List ℕ → ℕ → Scalar
number n a qual challenges weights key shares u =
    plus (combined_share n (has qual) shares u) (times (sum_of weights (scalars a (λ v. challenge_in a challenges u (v + 1)))) (scalar key))

number_is : (r : Run) (j key : ℕ) (shares : List ℕ) {qual : ℕ} {points weights : Row} {x : Scalar}
    → well_formed r ≡ true → qual ≡ unblamed_of r → points ≡ listed r.setup.a (λ v. slot (v + 1)) → x ≡ point j 0 → weights ≡ weights_of points x
    → (u : ℕ) → number r.setup.n r.setup.a qual r.challenges.numbers weights key shares u ≡ response_for r j key shares u
unfolding response_for challenge_at transcript_of transcript
number_is r j key shares f q p x w u =
    ap₂ (λ (h : ℕ → Bool) (e : Scalar). plus (combined_share r.setup.n h shares u) (times e (scalar key))) (ap has q ∙ qual_is r)
    (rw (w, p, x, ← party_is j) (scalars_interpolated r.setup.a (λ v. slot (v + 1)) (λ v. challenge_in r.setup.a r.challenges.numbers u (v + 1)) (party j) (omega (arith, (formed_of r f).bounds))))

pub returns : goal.returns
returns c =
    let a = c.args in
    let r = a.run in
    c.put_each.ensures (λ u. (response_for r a.j a.key a.shares.now (u + 1)).0)
    (λ v l x e.
    let given : x ≡ (number r.setup.n r.setup.a c.unblamed-qual.result r.challenges.numbers c.weights-weights.result a.key a.shares.now (v + 1)).0 = search rules in
    given ∙ ap (λ (y : Scalar). y.0) (number_is r a.j a.key a.shares.now c.requires.0 c.unblamed-qual.ensures c.slot_points.ensures c.point.ensures c.weights-weights.ensures (v + 1)))
