-- `put_shares` meets its contract: each share is what the dealing comes to at its holder. Assumes nothing.
use Rattle.std.proofs.Common.{◌≡◌, List, ℕ, ◌+◌, ◌≤◌, ◌∙◌, ap, arith, rules, length, get_or}
use Rattle.field.specs.declared.Scalar.{Scalar}
use Rattle.field.specs.Definitions.{scalar}
use Rattle.rows.specs.declared.Row.{Row}
use Rattle.interpolation.specs.Definitions.{point, party, committed_point}
use Rattle.interpolation.proofs.PointLaws.{party_is}
use Rattle.rows.specs.Definitions.{listed, weights_of, sum_of}
use Rattle.parameters.specs.Definitions.{quorum}
use Rattle.parameters.specs.ParameterLaws.{bounds_of, quorum_max}
use Rattle.arrays.specs.Arrays.{scalars}
use Rattle.arrays.specs.ArrayLaws.{scalars_interpolated}
use Rattle.dealer.specs.Dealt.{share_for}
use Rattle.dealer.proofs.put_shares.Goals as goal

-- the share for j, as the code works it out
share_is : (t a : ℕ) (values : List ℕ) (j : ℕ) {m : ℕ} {list : List Scalar} {points : Row}
    → m ≡ quorum t a → length values ≡ quorum t a → quorum t a ≤ 64
    → list ≡ scalars (length values) (λ i. scalar (get_or values i 0))
    → points ≡ listed m (committed_point a)
    → sum_of (weights_of points (point j 0)) list ≡ share_for t a values j
unfolding share_for
share_is t a values j m k l e p =
    rw (p, ← party_is j, e, m, k) (scalars_interpolated (quorum t a) (committed_point a) (λ v. scalar (get_or values v 0)) (party j) l)

pub load_scalars-list-requires : goal.load_scalars-list-requires
load_scalars-list-requires c = omega (arith, c.requires.1, quorum_max (bounds_of _ _ _ c.requires.0))

pub overflow_cast-quorum : goal.overflow_cast-quorum
overflow_cast-quorum c = omega (arith, c.quorum.ensures, quorum_max (bounds_of _ _ _ c.requires.0))

pub returns : goal.returns
returns c =
    let a = c.args in
    let most : quorum a.t a.a ≤ 64 = omega (arith, quorum_max (bounds_of _ _ _ c.requires.0)) in
    c.put_each.ensures (λ j. (share_for a.t a.a a.values.now (j + 1)).0)
    (λ v l x e.
    let given : x ≡ (sum_of (weights_of c.committed_points-points.result (point (v + 1) 0)) c.load_scalars-list.result).0 = search rules in
    given ∙ ap (λ (y : Scalar). y.0) (share_is a.t a.a a.values.now (v + 1) c.quorum.ensures c.requires.1 most c.load_scalars-list.ensures c.committed_points-points.ensures))
