-- What an honest SU and DE are, and when their writers refuse (document 01, "The writers make ..").
use Rattle.std.specs.Prelude.{ℕ, ◌+◌, ◌&&◌, List, ◌∷◌, ◌++◌, length, get_or, eqb, ltb}
use Rattle.lists.specs.Tests.{all_to, require}
use Rattle.field.specs.declared.Scalar.{Scalar}
use Rattle.field.specs.Definitions.{scalar, is_scalar}
use Rattle.interpolation.specs.Definitions.{party, committed_point, scalar_at}
use Rattle.parameters.specs.Definitions.{in_bounds, quorum, is_party}
use Rattle.records.specs.Tags.{letter_d, letter_e, letter_s, letter_u, setup_length, dealing_length}
use Rattle.encoding.specs.Bytes.{four, fours, power_of_four}

-- ---- SU, from n, t, a, s and F(1) to F(t); s is not 0 (document 02, request 2.3)

unfoldable pub setup_refused : ℕ → ℕ → ℕ → ℕ → List ℕ → ℕ → ℕ
setup_refused n t a s shares room =
    require (in_bounds n t a) 4
    (require (eqb (length shares) t) 10
    (require (is_scalar s && all_to t (λ j. is_scalar (get_or shares j 0))) 6
    (require (ltb 0 s) 16
    (require (eqb room (setup_length t)) 9 0))))

unfoldable pub setup_bytes : ℕ → ℕ → ℕ → ℕ → List ℕ → List ℕ
setup_bytes n t a s shares =
    letter_s ∷ letter_u ∷ n ∷ t ∷ a ∷ 0 ∷ (four (power_of_four s) ++ fours t (λ j. power_of_four (get_or shares j 0)))

-- ---- DE, from n, t, a, i and the values of H_i at its committed points

unfoldable pub dealing_refused : ℕ → ℕ → ℕ → ℕ → List ℕ → ℕ → ℕ
dealing_refused n t a i values room =
    require (in_bounds n t a) 4
    (require (is_party n i) 5
    (require (eqb (length values) (quorum t a)) 10
    (require (all_to (quorum t a) (λ v. is_scalar (get_or values v 0))) 6
    (require (eqb room (dealing_length n t a)) 9 0))))

-- H_i(j), from its values at the committed points
unfoldable pub share_for : ℕ → ℕ → List ℕ → ℕ → Scalar
share_for t a values j = scalar_at (committed_point a) (quorum t a) (λ v. scalar (get_or values v 0)) (party j)

unfoldable pub dealing_bytes : ℕ → ℕ → ℕ → ℕ → List ℕ → List ℕ
dealing_bytes n t a i values =
    letter_d ∷ letter_e ∷ i ∷ 0
    ∷ (fours (quorum t a) (λ v. power_of_four (get_or values v 0)) ++ fours n (λ j. (share_for t a values (j + 1)).0))
