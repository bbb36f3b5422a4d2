-- `Kept::combined_at` meets its contract: the values combined for u, interpolated at x. Assumes nothing.
use Rattle.std.proofs.Common.{refl, ap, ap₂, ◌∙◌, ℕ}
use Rattle.sets.specs.Masks.{has}
use Rattle.rows.specs.declared.Row.{Row}
use Rattle.interpolation.specs.Definitions.{committed_point}
use Rattle.rows.specs.Definitions.{listed, weights_of, product_of}
use Rattle.parameters.specs.ParameterLaws.{bounds_of}
use Rattle.arrays.specs.Arrays.{commitment_in, elements}
use Rattle.combination.specs.Combination.{combined_value}
use Rattle.combination.proofs.PowerLaws.{combined_powers}
use Rattle.verification.specs.VerificationLaws.{combined_is}
use Rattle.verification.proofs.Kept.combined_at.Goals as goal

pub returns : goal.returns
returns c challenges =
    let kept = c.args.self.now in
    let setup = kept.setup.now in
    let list = kept.dealings.now.commitments in
    let need = c.quorum-quorum.ensures in
    c.product.ensures
    ∙ ap₂ product_of
    (c.weights.ensures ∙ ap (λ (p : Row). weights_of p c.args.x) (c.committed_points.ensures ∙ ap (λ (k : ℕ). listed k (committed_point setup.a)) need.0))
    (combined_powers setup.n _ list c.args.u _ need.1 refl c.powers_at-powers.ensures c.combined_values-values.ensures
    ∙ ap₂ (λ (s k : ℕ). elements k (combined_value setup.n (has s) (commitment_in list) c.args.u)) c.qual-qual.ensures need.0)
    ∙ combined_is setup kept.dealings.now kept.complaints.now challenges (bounds_of _ _ _ kept.within) c.args.x c.args.u
