-- `put_closing` meets its contract: one part of the definition after the other. Assumes nothing.
use mathlib.Core.Path.{sym, ◌∙◌}
use mathlib.Core.List.{[]}
use Prim.Native.Nat.{◌*◌}
use native.Mathlib.Omega.{arith}
use borrow.Author.Tests.{eq-eqb, ne_eqb}
use lib.Dec.{eqb}
use Rattle.lists.specs.Tests.{pick}
use Rattle.text.specs.Texts.{Added}
use Rattle.text.proofs.TextLaws.{added_none, added_append, added_length}
use Rattle.run.specs.Runs.{stage_of}
use Rattle.run.specs.RunLaws.{stage_live}
use Rattle.closing.specs.Closing.{signature_lines, closing}
use Rattle.closing.proofs.LengthLaws.{signed_max, sets_max}
use Rattle.closing.proofs.put_closing.Goals as goal
use Rattle.closing.proofs.put_closing.Goals.{then-done, else-done}

pub put_signatures-requires : goal.put_signatures-requires
put_signatures-requires c =
    let r = c.args.run in (
      (stage_live r 5 (sym c.stage_of-stage.ensures ∙ c.if-done.true) (omega arith) (omega arith)).1,
      omega (arith, added_length c.put_sets.ensures, c.put_sets.ensures.wrote.place, sets_max r c.requires.0, c.requires.1),
    )

pub put_line-requires : goal.put_line-requires
put_line-requires c =
    let r = c.args.run in
    let signed : Added c.put_sets.new.page c.if-done.page (pick (eqb (stage_of r) 5) (signature_lines r (r.setup.a * r.b)) []) =
    elim c.if-done.branch [
      | then-done w ↦ rw (w.page-is, ← c.stage_of-stage.ensures, eq-eqb _ _ w.if-done.true) w.put_signatures.ensures
      | else-done w ↦ rw (w.page-is, ← c.stage_of-stage.ensures, ne_eqb _ _ w.if-done.false) (added_none _)
    ] in
    omega (
      arith,
      added_length c.put_sets.ensures,
      c.put_sets.ensures.wrote.place,
      sets_max r c.requires.0,
      added_length signed,
      signed.wrote.place,
      signed_max r,
      c.requires.1,
    )

pub returns : goal.returns
unfolding closing
returns c =
    let r = c.args.run in
    let signed : Added c.put_sets.new.page c.if-done.page (pick (eqb c.stage_of-stage.result 5) (signature_lines r (r.setup.a * r.b)) []) =
    elim c.if-done.branch [
      | then-done w ↦ rw (w.page-is, eq-eqb _ _ w.if-done.true) w.put_signatures.ensures
      | else-done w ↦ rw (w.page-is, ne_eqb _ _ w.if-done.false) (added_none _)
    ] in
    rw (← c.stage_of-stage.ensures) (added_append c.put_sets.ensures (added_append signed c.put_line.ensures))
