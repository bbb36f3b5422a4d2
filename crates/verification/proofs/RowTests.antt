-- What the numbers of a response row are tested against. Assumes nothing.
use Rattle.std.specs.Prelude.{◌≡◌, List, ℕ, ◌+◌, ◌-◌, ◌*◌, ◌≤◌, ◌<◌, get_or}
use Rattle.std.proofs.Common.{ap, ap₂, ◌∙◌, arith}
use Rattle.lists.specs.Stores.{filled}
use Rattle.lists.specs.StoreLaws.{stored_cong}
use Rattle.field.specs.declared.Scalar.{Scalar}
use Rattle.field.specs.declared.Element.{Element}
use Rattle.field.specs.Definitions.{identity, product, raise}
use Rattle.interpolation.specs.Definitions.{party, slot, committed_point}
use Rattle.rows.specs.declared.Row.{Row}
use Rattle.rows.specs.Definitions.{most_scalars, size, listed, weights_of, sum_of, product_of}
use Rattle.rows.proofs.RowLaws.{size_listed, weights_listed}
use Rattle.parameters.specs.Definitions.{most_parties, stride, quorum}
use Rattle.parameters.specs.ParameterLaws.{Bounds, quorum_max, key_max}
use Rattle.protocol.specs.Transcript.{key_at, challenge_at, response_at}
use Rattle.arrays.specs.Arrays.{base, commitment_in, challenge_in, elements, scalars}
use Rattle.arrays.specs.ArrayLaws.{elements_at, challenges_interpolated}
use Rattle.combination.specs.Tables.{values_at, table_to}
use Rattle.combination.proofs.TableLaws.{value_at}
use Rattle.dealing.specs.declared.Setup.{Setup}
use Rattle.dealing.specs.declared.Dealings.{Dealings}
use Rattle.dealing.specs.Definitions.{key_in}
use Rattle.complaint.specs.declared.Complaints.{Complaints}
use Rattle.complaint.specs.Definitions.{unblamed}
use Rattle.challenge.specs.declared.Challenges.{Challenges}
use Rattle.verification.specs.declared.Holder.{Holder}
use Rattle.verification.specs.Definitions.{transcript}
use Rattle.verification.specs.Tests.{holder_of, qual_values}
use Rattle.verification.specs.VerificationLaws.{combined_is}

-- the values for u + 1 as they stand in the table
values_in : (n qual quorum : ℕ) (list : List Element) (k : ℕ) {values : List Element} → values ≡ table_to n qual quorum list k
    → (u : ℕ) → u < k → k ≤ most_parties → quorum ≤ most_parties
    → elements quorum (commitment_in values (u + 1)) ≡ values_at n qual quorum list (u + 1)
unfolding elements base
values_in n qual quorum list k {values} e u l m few =
    stored_cong (filled most_scalars identity) 0 quorum _ _
    (λ v h.
    let same : u + 1 - 1 ≡ u = omega arith in
    ap (λ (x : ℕ). get_or values (x * stride + v) identity) same ∙ value_at n qual quorum list k e u v identity (omega arith) l (omega arith) ∙ elements_at quorum _ v h few)

-- the weights are as many as the points
size_weights : (m : ℕ) (pt : ℕ → Scalar) (x : Scalar) → m ≤ most_scalars → size (weights_of (listed m pt) x) ≡ m
size_weights m pt x h = ap size (weights_listed m pt x h) ∙ size_listed m _ h

-- C_u(x) × S_x^E_u(x) for the sender of a row: by S_j, and by the weights of the slots and of the committed points at it
pub wanted_is : (setup : Setup) (d : Dealings) (c : Complaints) (e : Challenges) → Bounds setup.n setup.t setup.a
    → {holder : Holder} {values : List Element} {numbers : List Scalar} {k : ℕ} (u j : ℕ)
    → holder ≡ holder_of setup j → values ≡ qual_values setup d c k → numbers ≡ e.numbers → u < k → k ≤ setup.n
    → product (product_of holder.points (elements (size holder.points) (commitment_in values (u + 1))))
    (raise holder.key (sum_of holder.slots (scalars setup.a (λ v. challenge_in setup.a numbers (u + 1) (v + 1)))))
    ≡ response_at (transcript setup d c e) (u + 1) (party j)
unfolding holder_of response_at challenge_at transcript
wanted_is setup d c e bounds {holder} {values} {numbers} {k} u j h v m l w =
    let x = party j in
    let need = quorum setup.t setup.a in
    let few : need ≤ most_parties = omega (arith, quorum_max bounds) in
    let points : Row = weights_of (listed need (committed_point setup.a)) x in
    let key : Element = key_at setup.t setup.a (key_in setup) x in
    let slots : Row = weights_of (listed setup.a (λ v. slot (v + 1))) x in
    let combined =
    ap (λ (i : ℕ). product_of points (elements i (commitment_in values (u + 1)))) (size_weights need (committed_point setup.a) x few)
    ∙ ap (product_of points) (values_in setup.n (unblamed setup.n c d.dealers) need d.commitments k v u l (omega (arith, bounds.n_max)) few)
    ∙ combined_is setup d c e bounds x (u + 1) in
    let challenge =
    ap (λ (list : List Scalar). sum_of slots (scalars setup.a (λ v. challenge_in setup.a list (u + 1) (v + 1)))) m
    ∙ challenges_interpolated setup.a e.numbers (u + 1) x (omega (arith, key_max bounds)) in
    ap (λ (a : Holder). product (product_of a.points (elements (size a.points) (commitment_in values (u + 1))))
    (raise a.key (sum_of a.slots (scalars setup.a (λ v. challenge_in setup.a numbers (u + 1) (v + 1)))))) h
    ∙ ap₂ product combined (ap (raise key) challenge)
