-- `put_sets` meets its contract: one set after the other. Assumes nothing.
use native.Mathlib.Omega.{arith}
use Rattle.text.proofs.TextLaws.{added_append, added_length}
use Rattle.text.proofs.LineLaws.{set_place}
use Rattle.closing.specs.Closing.{set_lines}
use Rattle.closing.proofs.put_sets.Goals as goal

pub put_set-requires-2 : goal.put_set-requires-2
put_set-requires-2 c = omega (arith, added_length c.put_set.ensures, set_place _ _ _ c.put_set.ensures, c.requires)

pub put_set-requires-3 : goal.put_set-requires-3
put_set-requires-3 c =
    omega (arith, added_length c.put_set.ensures, set_place _ _ _ c.put_set.ensures, added_length c.put_set-2.ensures, set_place _ _ _ c.put_set-2.ensures, c.requires)

pub returns : goal.returns
unfolding set_lines
returns c = rw c.shown_sets-sets.ensures at (added_append c.put_set.ensures (added_append c.put_set-2.ensures c.put_set-3.ensures))
