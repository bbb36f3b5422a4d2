-- The shares of a dealing, tested one by one. Assumes nothing.
use mathlib.Core.Path.{◌≡◌, ap, ◌∙◌}
use mathlib.Core.Bool.{Bool, true, not}
use mathlib.Core.List.{List}
use Prim.Native.Nat.{ℕ, ◌+◌, ◌-◌, ◌<◌}
use native.Mathlib.Omega.{arith}
use Rattle.lists.specs.Tests.{pick}
use Rattle.sets.specs.Masks.{mask_of, insert}
use Rattle.sets.proofs.MaskLaws.{mask_of_insert, mask_of_cong}
use Rattle.field.specs.declared.Element.{Element}
use Rattle.field.specs.Definitions.{scalar, element, generator, raise, same_element}
use Rattle.rows.specs.declared.Row.{Row}
use Rattle.rows.specs.declared.Basis.{Basis}
use Rattle.interpolation.specs.Definitions.{party, committed_point}
use Rattle.rows.specs.Definitions.{listed, product_of, basis_of, weights_by}
use Rattle.rows.proofs.BasisLaws.{weights_by_is}
use Rattle.parameters.specs.Definitions.{in_bounds, quorum}
use Rattle.records.specs.Bytes.{word}
use Rattle.records.specs.Tags.{shares_from}
use Rattle.parameters.specs.ParameterLaws.{bounds_of, quorum_max}
use Rattle.protocol.specs.Transcript.{dealing_at, valid_share}
use Rattle.arrays.specs.Arrays.{elements}
use Rattle.arrays.specs.ArrayLaws.{values_interpolated}
use Rattle.dealing.specs.declared.Setup.{Setup}
use Rattle.dealing.specs.Definitions.{wrong_shares}

-- the share for j does not fit, as the code tests it
unfoldable pub unfit : Basis → List Element → List ℕ → ℕ → ℕ → Bool
unfit basis values s from j = not (same_element (raise generator (scalar (word s from (j - 1)))) (product_of (weights_by basis (party j)) values))

-- one share more: tested with the weights at its holder
pub share_next : (basis : Basis) (values : List Element) (s : List ℕ) (from i : ℕ) {x : ℕ} {weights : Row} {fits : Bool}
    → x ≡ word s from i
    → weights ≡ weights_by basis (party (i + 1))
    → fits ≡ same_element (raise generator (scalar x)) (product_of weights values)
    → i < 64
    → mask_of (i + 1) (unfit basis values s from) ≡ pick (not fits) (insert (mask_of i (unfit basis values s from)) (i + 1)) (mask_of i (unfit basis values s from))
unfolding unfit
share_next basis values s from i e f g l =
    let at : i + 1 - 1 ≡ i = omega arith in
    mask_of_insert i (unfit basis values s from) l ∙ rw (g, e, f, at)

-- those among the committed values of a dealing are its wrong shares
pub wrong_shares_are : (setup : Setup) (s : List ℕ)
    → in_bounds setup.n setup.t setup.a ≡ true
    → mask_of setup.n (unfit (basis_of (listed (quorum setup.t setup.a) (committed_point setup.a))) (elements (quorum setup.t setup.a) (λ v. element (word s 4 v))) s (shares_from setup.t setup.a))
    ≡ wrong_shares setup s
unfolding wrong_shares unfit valid_share dealing_at
wrong_shares_are setup s h =
    mask_of_cong setup.n _ _ (λ j p l.
    ap (λ (e : Element). not (same_element (raise generator (scalar (word s (shares_from setup.t setup.a) (j - 1)))) e))
    (ap (λ (w : Row). product_of w (elements (quorum setup.t setup.a) (λ v. element (word s 4 v)))) (weights_by_is (listed (quorum setup.t setup.a) (committed_point setup.a)) (party j))
    ∙ values_interpolated (quorum setup.t setup.a) setup.a (λ v. element (word s 4 v)) (party j)
    (omega (arith, quorum_max (bounds_of setup.n setup.t setup.a h)))))
