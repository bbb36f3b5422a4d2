-- `put_row` meets its contract. The loop has added the lines of the slots that it passed. Assumes nothing.
use mathlib.Core.Path.{◌≡◌, refl, ◌∙◌}
use Prim.Native.Nat.{◌+◌, ◌-◌}
use native.Mathlib.Omega.{arith}
use Rattle.interpolation.proofs.PointLaws.{slot_is}
use Rattle.rows.proofs.BasisLaws.{weights_by_is}
use Rattle.parameters.specs.ParameterLaws.{quorum_max}
use Rattle.text.proofs.TextLaws.{added_none, added_append, added_length}
use Rattle.protocol.specs.Transcript.{nonce, shifted_nonce}
use Rattle.combination.proofs.PowerLaws.{combined_powers}
use Rattle.run.specs.Runs.{transcript_of}
use Rattle.run.specs.RunLaws.{formed_of, formed_batch}
use Rattle.closing.specs.SignatureLaws.{row_lines}
use Rattle.closing.proofs.SignatureLaws.{line_is, row_next, row_max, nonce_is, shifted_is, kept_part, kept_below}
use Rattle.closing.proofs.put_row.Goals as goal

pub overflow_cast-quorum : goal.overflow_cast-quorum
overflow_cast-quorum c = omega (arith, c.quorum-quorum.ensures, quorum_max (formed_of c.args.run c.requires.0).bounds)

pub slice_bounds-phis-end : goal.slice_bounds-phis-end
slice_bounds-phis-end c =
    let known = formed_of c.args.run c.requires.0 in
    let a_pos = known.bounds.a_pos in
    omega (arith, a_pos, kept_below known.bounds (formed_batch known) c.args.u (c.args.run.setup.a - 1) c.requires.1 c.requires.2 (omega (arith, a_pos)))

pub loop-i-init : goal.loop-i-init
unfolding row_lines
loop-i-init c = added_none _

pub put_signature-requires : goal.put_signature-requires
put_signature-requires c =
    omega (arith, added_length c.loop-i.invariant, c.loop-i.invariant.wrote.place, row_max c.args.run c.args.u c.loop-i.i, c.loop-i-test.true, c.requires.4)

pub loop-i-preserved : goal.loop-i-preserved
loop-i-preserved c =
    let r = c.args.run in
    let u = c.args.u in
    let k = c.loop-i.i in
    let bounds = (formed_of r c.requires.0).bounds in
    let values = combined_powers r.setup.n _ r.dealings.commitments u _ (omega (arith, quorum_max bounds, c.quorum-quorum.ensures)) refl c.requires.3 c.combined_values-values.ensures in
    let found : c.product.result ≡ nonce (transcript_of r) u (k + 1) =
    c.product.ensures
    ∙ rw (c.weights.ensures, c.point.ensures, c.basis-basis.ensures, weights_by_is, c.committed_points.ensures, values, c.unblamed.ensures, c.quorum-quorum.ensures, ← slot_is)
    (nonce_is r u (k + 1) bounds) in
    let moved : c.mul-nonce.result ≡ shifted_nonce (transcript_of r) u (k + 1) =
    c.mul-nonce.ensures ∙ shifted_is r u (k + 1) found c.pow-moved.ensures in
    rw (row_next r u k, ← line_is r u (k + 1) moved (kept_part r u k (omega (arith, c.loop-i-test.true)))) (added_append c.loop-i.invariant c.put_signature.ensures)
