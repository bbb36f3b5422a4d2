-- What a run's flat arrays hold, and what weights make of them. Assumes nothing.
use Rattle.std.specs.Prelude.{◌≡◌, refl, List, ℕ, ◌+◌, ◌-◌, ◌^◌, ◌≤◌, ◌<◌, length, get_or}
use Rattle.std.proofs.Common.{◌∙◌, arith}
use Rattle.lists.specs.Stores.{filled}
use Rattle.lists.specs.StoreLaws.{length_filled, length_stored, stored_from}
use Rattle.sets.specs.Masks.{has, members, count}
use Rattle.sets.proofs.MemberLaws.{count_bits}
use Rattle.field.specs.declared.Scalar.{Scalar}
use Rattle.field.specs.declared.Element.{Element}
use Rattle.field.specs.Definitions.{scalar, identity}
use Rattle.interpolation.specs.Definitions.{party, slot, committed_point, scalar_at, element_at}
use Rattle.rows.specs.Definitions.{most_scalars, listed, weights_of, sum_of, product_of}
use Rattle.interpolation.proofs.WeightLaws.{scalar_at_cong, element_at_cong}
use Rattle.rows.proofs.RowLaws.{sum_weights, product_weights}
use Rattle.arrays.specs.Arrays.{base, challenge_in, member_points, member_numbers, elements, scalars}

-- sixty-four places
pub elements_length : (m : ℕ) (f : ℕ → Element) → length (elements m f) ≡ most_scalars
unfolding elements
elements_length m f = length_stored (filled most_scalars identity) 0 m f ∙ length_filled most_scalars identity

-- what was stored is read there
pub elements_at : (m : ℕ) (f : ℕ → Element) (i : ℕ) → i < m → m ≤ most_scalars → get_or (elements m f) i identity ≡ f i
unfolding elements
elements_at m f i l h = stored_from (filled most_scalars identity) m f identity (omega (arith, length_filled most_scalars identity)) i l

pub scalars_at : (m : ℕ) (f : ℕ → Scalar) (i : ℕ) → i < m → m ≤ most_scalars → get_or (scalars m f) i (scalar 0) ≡ f i
unfolding scalars
scalars_at m f i l h = stored_from (filled most_scalars (scalar 0)) m f (scalar 0) (omega (arith, length_filled most_scalars (scalar 0))) i l

-- scalars at any points, by their weights at x
pub scalars_interpolated : (m : ℕ) (pt f : ℕ → Scalar) (x : Scalar) → m ≤ most_scalars → sum_of (weights_of (listed m pt) x) (scalars m f) ≡ scalar_at pt m f x
scalars_interpolated m pt f x h =
    sum_weights m pt x (scalars m f) h ∙ scalar_at_cong pt pt m (λ i. get_or (scalars m f) i (scalar 0)) f x (λ i l. refl) (λ i l. scalars_at m f i l h)

-- committed values, and the key's, by the weights of the committed points
pub values_interpolated : (m a : ℕ) (f : ℕ → Element) (x : Scalar)
    → m ≤ most_scalars
    → product_of (weights_of (listed m (committed_point a)) x) (elements m f) ≡ element_at (committed_point a) m f x
values_interpolated m a f x h =
    product_weights m (committed_point a) x (elements m f) h
    ∙ element_at_cong (committed_point a) (committed_point a) m (λ i. get_or (elements m f) i identity) f x (λ i l. refl) (λ i l. elements_at m f i l h)

-- E_u(x) from the challenges
pub challenges_interpolated : (a : ℕ) (list : List Scalar) (u : ℕ) (x : Scalar)
    → a ≤ most_scalars
    → sum_of (weights_of (listed a (λ v. slot (v + 1))) x) (scalars a (λ v. challenge_in a list u (v + 1)))
    ≡ scalar_at (λ v. slot (v + 1)) a (λ v. challenge_in a list u (v + 1)) x
challenges_interpolated a list u x h = scalars_interpolated a (λ v. slot (v + 1)) (λ v. challenge_in a list u (v + 1)) x h

-- the numbers of a set's members, by the weights of their points
pub members_interpolated : (n set : ℕ) (numbers : List Scalar) (u : ℕ) (x : Scalar)
    → set < 2 ^ 64
    → sum_of (weights_of (member_points n set) x) (member_numbers n set numbers u)
    ≡ scalar_at (λ i. party (get_or (members n (has set)) i 0)) (length (members n (has set)))
    (λ i. get_or numbers (base (get_or (members n (has set)) i 0) + (u - 1)) (scalar 0)) x
unfolding member_points member_numbers
members_interpolated n set numbers u x h =
    scalars_interpolated (count n (has set)) (λ i. party (get_or (members n (has set)) i 0))
    (λ i. get_or numbers (base (get_or (members n (has set)) i 0) + (u - 1)) (scalar 0)) x (count_bits 64 n set h)
