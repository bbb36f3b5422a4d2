-- C_u(x) from the committed values combined for u. Assumes nothing.
use Rattle.std.specs.Prelude.{◌≡◌, refl, Bool, ℕ, ◌+◌}
use Rattle.field.specs.declared.Scalar.{Scalar}
use Rattle.field.specs.declared.Element.{Element}
use Rattle.interpolation.specs.Definitions.{committed_point, element_at}
use Rattle.interpolation.proofs.ProductLaws.{element_at_combined}
use Rattle.parameters.specs.Definitions.{quorum}
use Rattle.protocol.specs.Transcript.{Transcript, dealing_at, exponent, product_over, combined_at, dealer_factor}
use Rattle.combination.specs.Combination.{combined_value}
use Rattle.protocol.proofs.ProductLaws.{product_over_cong}

pub combined_values : (w : Transcript) (u : ℕ) (x : Scalar)
    → combined_at w u x ≡ element_at (committed_point w.a) (quorum w.t w.a) (combined_value w.n w.qual w.commitment u) x
unfolding combined_at dealer_factor dealing_at combined_value product_over
combined_values w u x =
    element_at_combined (committed_point w.a) (quorum w.t w.a) w.n (λ i. w.qual (i + 1)) (λ i. w.commitment (i + 1)) (λ i. exponent (i + 1) u) x

-- one test of the dealers for another
pub combined_value_same : (n : ℕ) (f g : ℕ → Bool) (commitment : ℕ → ℕ → Element) (u v : ℕ)
    → ((i : ℕ) → f i ≡ g i)
    → combined_value n f commitment u v ≡ combined_value n g commitment u v
unfolding combined_value
combined_value_same n f g commitment u v h = product_over_cong n f g _ _ (λ i p l. h i) (λ i p l e. refl)
