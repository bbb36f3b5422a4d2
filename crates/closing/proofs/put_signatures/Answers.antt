-- `put_signatures` meets its contract. The loop has added the rows that it passed, and raised the powers to those of the next. Assumes nothing.
use mathlib.Core.Path.{ap, ◌∙◌}
use Prim.Native.Nat.{◌+◌, ◌*◌, ◌≤◌}
use native.Mathlib.Nat.{zero-mul, mul-le-mul, mul_comm, le_refl}
use native.Mathlib.Omega.{arith}
use Rattle.parameters.specs.ParameterLaws.{cells_max}
use Rattle.text.proofs.TextLaws.{added_none, added_append, added_length}
use Rattle.combination.specs.Combination.{powers_at}
use Rattle.combination.proofs.PowerLaws.{powers_none, powers_next}
use Rattle.run.specs.RunLaws.{formed_of, formed_batch}
use Rattle.closing.specs.Closing.{signature_lines}
use Rattle.closing.proofs.SignatureLaws.{rows_next, signatures_max}
use Rattle.closing.proofs.put_signatures.Goals as goal

pub loop-u-init : goal.loop-u-init
unfolding signature_lines
loop-u-init c = (omega arith, powers_none _ _, rw zero-mul (added_none _))

pub put_row-requires : goal.put_row-requires
put_row-requires c =
    let r = c.args.run in
    let known = formed_of r c.requires.0 in
    let few : c.loop-u.u + 1 ≤ r.b = omega (arith, c.loop-u-test.true) in (
      c.requires.0,
      omega arith,
      few,
      c.loop-u.invariant.1 ∙ ap (powers_at r.setup.n r.dealings.commitments) (omega arith),
      omega (
        arith,
        added_length c.loop-u.invariant.2,
        c.loop-u.invariant.2.wrote.place,
        signatures_max r (c.loop-u.u * r.setup.a),
        c.requires.1,
        mul-le-mul few (le_refl r.setup.a),
        mul_comm r.b r.setup.a,
        cells_max known.bounds (formed_batch known),
      ),
    )

pub loop-u-preserved : goal.loop-u-preserved
loop-u-preserved c =
    let r = c.args.run in (
      omega (arith, c.loop-u-test.true),
      powers_next r.setup.n r.dealings.commitments c.loop-u.u c.loop-u.invariant.1 c.raised-raised.ensures,
      rw (← rows_next r c.loop-u.u) (added_append c.loop-u.invariant.2 c.put_row.ensures),
    )
