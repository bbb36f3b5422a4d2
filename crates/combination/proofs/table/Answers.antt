-- `table` meets its contract: the loop has stored the values of each u passed, and raised the powers to the last of them. Assumes nothing.
use native.Mathlib.Omega.{arith}
use mathlib.Core.Logic.{inl, inr}
use mathlib.Core.Path.{◌≡◌, ap, ◌∙◌}
use Prim.Native.Nat.{◌+◌, ◌-◌}
use Rattle.combination.specs.Combination.{powers_at}
use Rattle.combination.proofs.PowerLaws.{powers_none, powers_for}
use Rattle.combination.specs.Tables.{table_to}
use Rattle.combination.proofs.TableLaws.{table_none, table_more}
use Rattle.combination.proofs.table.Goals as goal
use Rattle.combination.proofs.table.Goals.{then-later, else-later}
use Rattle.combination.proofs.table.Lts as lts
use Rattle.combination.proofs.table.Reads as reads
use Rattle.combination.proofs.table.Tie as tie

-- the powers for u + 1
raised_to : (j : lts.Joined1 tie.the-claims reads.Pre reads.Post goal.the-invariant-loop-u goal.the-decreases-loop-u) →
    let l = j.before.before in
    j.if-later.powers ≡ powers_at l.args.n l.args.list l.loop-u.u
raised_to j =
    let l = j.before.before in
    let a = l.args in
    powers_for a.n a.list l.loop-u.u l.loop-u.invariant.3 (elim j.if-later.branch [
      | then-later w ↦
          inl (w.if-later.true, w.powers-is ∙ w.raised-more.ensures)
      | else-later w ↦
          inr (w.if-later.false, w.powers-is)
    ])

pub loop-u-init : goal.loop-u-init
loop-u-init c = (omega arith, c.requires.0, c.requires.1, powers_none _ _, table_none _ _ _ _)

pub with_values-next-requires : goal.with_values-next-requires
with_values-next-requires c = let l = c.before.before in omega (arith, c.loop-u-test.true, l.loop-u.invariant.1)

pub loop-u-preserved : goal.loop-u-preserved
loop-u-preserved c =
    let j = c.before in
    let l = j.before.before in
    let a = l.args in
    let u = l.loop-u.u in
    let same : u ≡ u + 1 - 1 = omega arith in (
      omega (arith, j.loop-u-test.true),
      l.loop-u.invariant.1,
      l.loop-u.invariant.2,
      raised_to j ∙ ap (powers_at a.n a.list) same,
      c.with_values-next.ensures ∙ table_more a.n a.qual a.quorum a.list u l.loop-u.invariant.2 l.loop-u.invariant.4 (raised_to j),
    )

pub returns : goal.returns
returns c =
    let l = c.before in
    let a = l.args in
    let end : l.loop-u.u ≡ a.count = omega (arith, c.loop-u-test.false) in
    l.loop-u.invariant.4 ∙ ap (table_to a.n a.qual a.quorum a.list) end
