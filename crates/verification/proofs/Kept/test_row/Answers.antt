-- `Kept::test_row` meets its contract. The inner loop keeps the product of value^weight over the committed points passed; the outer one has met no number
-- that fails. Assumes nothing.
use Rattle.std.specs.Prelude.{◌≡◌, refl, ℕ, ◌+◌, ◌-◌, ◌*◌, ◌≤◌, ◌<◌, get_or}
use Rattle.std.proofs.Common.{sym, ap, ap₂, ◌∙◌, arith}
use Rattle.lists.specs.StoreLaws.{get_d_default}
use Rattle.lists.specs.TestLaws.{all_more, one_fails}
use Rattle.field.specs.declared.Element.{Element}
use Rattle.field.specs.Definitions.{scalar, identity, generator, product, raise, same_element}
use Rattle.rows.specs.Definitions.{most_scalars, size, sum_of, product_of}
use Rattle.rows.proofs.RowLaws.{size_max}
use Rattle.rows.proofs.TurnLaws.{first, product_none, product_next, product_all}
use Rattle.parameters.specs.Definitions.{most_parties, stride}
use Rattle.parameters.specs.ParameterLaws.{bounds_of}
use Rattle.records.specs.Bytes.{word, sender}
use Rattle.protocol.specs.Transcript.{passes}
use Rattle.arrays.specs.Arrays.{base, commitment_in, elements}
use Rattle.arrays.specs.ArrayLaws.{elements_length, elements_at}
use Rattle.dealing.specs.declared.Dealings.{Dealings}
use Rattle.complaint.specs.declared.Complaints.{Complaints}
use Rattle.challenge.specs.declared.Challenges.{Challenges}
use Rattle.verification.specs.Definitions.{transcript}
use Rattle.verification.specs.Tests.{qual_values}
use Rattle.verification.proofs.RowTests.{wanted_is}
use Rattle.verification.proofs.Kept.test_row.Goals as goal
use Rattle.verification.proofs.Kept.test_row.Goals.{After-same}

pub row-init : goal.row-init
row-init c = (c.requires.0, refl, λ d cs e numbers values known. known)

-- ---- the product over the committed points

pub loop-v-init : goal.loop-v-init
loop-v-init c = c.none-chain.ensures ∙ sym (product_none c.args.holder.now.points _)

pub bounds-values-u : goal.bounds-values-u
bounds-values-u c =
    let bounds = bounds_of _ _ _ c.args.self.now.within in
    omega (arith, c.row-test.true, c.requires.1, bounds.n_max, c.loop-v-test.true, c.len-m.ensures, size_max c.args.holder.now.points)

pub bounds-holder-v : goal.bounds-holder-v
bounds-holder-v c = omega (arith, c.loop-v-test.true, c.len-m.ensures, size_max c.args.holder.now.points)

pub loop-v-preserved : goal.loop-v-preserved
unfolding base
loop-v-preserved c =
    let points = c.args.holder.now.points in
    let m = c.len-m.result in
    let u = c.row.u in
    let v = c.loop-v.v in
    let f = commitment_in c.args.values.now (u + 1) in
    let bounds = bounds_of _ _ _ c.args.self.now.within in
    let place : u < most_parties = omega (arith, c.row-test.true, c.requires.1, bounds.n_max) in
    let few : m ≤ most_scalars = omega (arith, c.len-m.ensures, size_max points) in
    let within : v < most_scalars = omega (arith, few, c.loop-v-test.true) in
    let same : u ≡ u + 1 - 1 = omega arith in
    let value =
    get_d_default c.args.values.now (u * stride + v) _ identity (omega (arith, place, c.told-values, within))
    ∙ ap (λ (x : ℕ). get_or c.args.values.now (x * stride + v) identity) same
    ∙ sym (elements_at m f v c.loop-v-test.true few) in
    c.with-chain.ensures
    ∙ ap₂ product c.loop-v.invariant (ap (λ (x : Element). raise x (get_or points.at v (scalar 0))) value)
    ∙ sym (product_next points (elements m f) v identity within (omega (arith, within, elements_length m f)))

-- ---- the numbers

-- a turn's test is that of the definition
tested : (c : After-same) (d : Dealings) (cs : Complaints) (e : Challenges) →
    let setup = c.args.self.now.setup.now in
    let s = c.args.bytes.now in
    c.args.self.now.challenges.now.numbers ≡ e.numbers → c.args.values.now ≡ qual_values setup d cs c.args.count
    → c.same.result ≡ passes (transcript setup d cs e) (c.row.u + 1) (sender s) (scalar (word s 4 c.row.u))
unfolding passes
tested c d cs e numbers values =
    let setup = c.args.self.now.setup.now in
    let holder = c.args.holder.now in
    let points = holder.points in
    let f = commitment_in c.args.values.now (c.row.u + 1) in
    let end : c.loop-v.v ≡ c.len-m.result = omega arith in
    let image =
    c.value.ensures ∙ c.loop-v.invariant
    ∙ ap (λ (v : ℕ). product_of (first v points) (elements c.len-m.result f)) end
    ∙ ap (λ (m : ℕ). product_of (first m points) (elements m f)) c.len-m.ensures
    ∙ product_all points (elements (size points) f) in
    let sent = c.pow-sent.ensures ∙ ap (λ (x : ℕ). raise generator (scalar x)) c.word.ensures in
    let power = c.pow-power.ensures ∙ ap (raise holder.key) (c.sum.ensures ∙ ap (sum_of holder.slots) c.challenge_values-challenges.ensures) in
    c.same.ensures
    ∙ ap₂ same_element sent
    (c.mul-wanted.ensures ∙ ap₂ product image power
    ∙ wanted_is setup d cs e (bounds_of _ _ _ c.args.self.now.within) c.row.u (sender c.args.bytes.now) c.requires.2 values numbers c.row-test.true c.requires.1)

pub returns-then-not-same : goal.returns-then-not-same
returns-then-not-same c d cs e numbers values known =
    sym (one_fails _ c.row.u c.args.count c.row-test.true (sym (tested (goal.at.returns-then-not-same c).After-same d cs e numbers values) ∙ c.if-not-same.true))

pub row-preserved : goal.row-preserved
row-preserved c = (
  omega (arith, c.row-test.true),
  c.row.invariant.1,
  λ d cs e numbers values known.
      all_more _ c.row.u (c.row.invariant.2 d cs e numbers values known) (sym (tested (goal.at.row-preserved c).After-same d cs e numbers values) ∙ c.if-not-same.false),
)
