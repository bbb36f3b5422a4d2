-- C_u(x) as the code finds it, from the committed values of the dealers that nobody blames. Assumes nothing.
use Rattle.std.specs.Prelude.{◌≡◌, refl, ℕ}
use Rattle.std.proofs.Common.{sym, ◌∙◌, arith}
use Rattle.sets.specs.Masks.{has}
use Rattle.sets.proofs.MaskLaws.{has_minus}
use Rattle.field.specs.declared.Scalar.{Scalar}
use Rattle.interpolation.specs.Definitions.{committed_point}
use Rattle.rows.specs.Definitions.{listed, weights_of, product_of}
use Rattle.interpolation.proofs.WeightLaws.{element_at_cong}
use Rattle.parameters.specs.Definitions.{quorum}
use Rattle.parameters.specs.ParameterLaws.{Bounds, quorum_max}
use Rattle.protocol.specs.Transcript.{combined_at}
use Rattle.arrays.specs.Arrays.{commitment_in, elements}
use Rattle.combination.specs.Combination.{combined_value}
use Rattle.arrays.specs.ArrayLaws.{values_interpolated}
use Rattle.combination.proofs.CombinedLaws.{combined_values, combined_value_same}
use Rattle.dealing.specs.declared.Setup.{Setup}
use Rattle.dealing.specs.declared.Dealings.{Dealings}
use Rattle.complaint.specs.declared.Complaints.{Complaints}
use Rattle.complaint.specs.Definitions.{blamed_by, unblamed}
use Rattle.challenge.specs.declared.Challenges.{Challenges}
use Rattle.verification.specs.Definitions.{transcript}

-- their values are combined for u, and interpolated at x
pub combined_is : (setup : Setup) (d : Dealings) (c : Complaints) (e : Challenges) → Bounds setup.n setup.t setup.a → (x : Scalar) (u : ℕ)
    → product_of (weights_of (listed (quorum setup.t setup.a) (committed_point setup.a)) x)
    (elements (quorum setup.t setup.a) (combined_value setup.n (has (unblamed setup.n c d.dealers)) (commitment_in d.commitments) u))
    ≡ combined_at (transcript setup d c e) u x
unfolding transcript unblamed
combined_is setup d c e bounds x u =
    values_interpolated (quorum setup.t setup.a) setup.a _ x (omega (arith, quorum_max bounds))
    ∙ element_at_cong (committed_point setup.a) (committed_point setup.a) (quorum setup.t setup.a) _ _ x (λ v l. refl)
    (λ v l. combined_value_same setup.n _ _ _ u v (λ i. has_minus d.dealers (blamed_by setup.n c) i))
    ∙ sym (combined_values (transcript setup d c e) u x)
