-- `wrong_shares` meets its contract. The mask has the holders passed whose share does not fit. Assumes nothing.
use mathlib.Core.Bool.{not}
use native.Mathlib.Omega.{arith}
use mathlib.Core.Path.{◌≡◌, refl, ap, sym, ◌∙◌}
use Prim.Native.Nat.{ℕ, ◌+◌}
use Rattle.sets.specs.Masks.{mask_of, insert}
use Rattle.rows.specs.Definitions.{weights_by}
use Rattle.interpolation.proofs.PointLaws.{party_is}
use Rattle.parameters.specs.ParameterLaws.{bounds_of, quorum_max}
use Rattle.dealing.proofs.Shares.{share_next, wrong_shares_are}
use Rattle.dealing.proofs.wrong_shares.Goals as goal
use Rattle.dealing.proofs.wrong_shares.Goals.{then-not-share_fits, else-not-share_fits}

pub overflow_cast-quorum : goal.overflow_cast-quorum
overflow_cast-quorum c =
    let s = c.before.before.before in
    omega (arith, quorum_max (bounds_of s.args.setup.n s.args.setup.t s.args.setup.a s.requires))

pub loop-i-init : goal.loop-i-init
unfolding mask_of
loop-i-init c =
    let s = c.before.before.before.before.before.before in
    (omega arith, (bounds_of s.args.setup.n s.args.setup.t s.args.setup.a s.requires).n_max, refl)

pub loop-i-preserved : goal.loop-i-preserved
loop-i-preserved c =
    let weights = c.before.before.before in
    let l = weights.loop-i in
    let s = weights.before.before.before.before in
    let next =
    share_next s.basis-basis.result s.load_values-values.result s.args.bytes.now s.shares_from-from.result l.i
    c.word.ensures (weights.weights-weights.ensures ∙ ap (weights_by s.basis-basis.result) (weights.point.ensures ∙ sym (party_is (l.i + 1)))) c.share_fits.ensures (omega arith) in (
      omega arith,
      l.invariant.1,
      elim c.if-not-share_fits.branch [
        | then-not-share_fits w ↦
            w.wrong-is ∙ w.insert-wrong.ensures ∙ ap (λ (m : ℕ). insert m (l.i + 1)) l.invariant.2 ∙ sym (rw (ap not w.if-not-share_fits.true) at next)
        | else-not-share_fits w ↦
            w.wrong-is ∙ l.invariant.2 ∙ sym (rw (ap not w.if-not-share_fits.false) at next)
      ],
    )

pub returns : goal.returns
returns c =
    let s = c.before.before in
    let p = s.before.before in
    let a = p.args in
    let end : c.loop-i.i ≡ a.setup.n = omega arith in
    c.loop-i.invariant.2
    ∙ rw (end, s.basis-basis.ensures, p.committed_points.ensures, p.load_values-values.ensures, s.shares_from-from.ensures, p.quorum-quorum.ensures)
    (wrong_shares_are a.setup a.bytes.now p.requires)
