-- `batch_fits` meets its contract: each test settles one factor of the definition. Assumes nothing.
use borrow.Author.Tests.{le-leb, lt-leb, eq-eqb, ne_eqb}
use native.Mathlib.Omega.{arith}
use mathlib.Core.Path.{ap}
use lib.Dec.{eqb}
use Prim.Native.Nat.{◌-◌}
use Rattle.stages.specs.Definitions.{batch_fits}
use Rattle.stages.proofs.batch_fits.Goals as goal

pub returns-then-few : goal.returns-then-few
unfolding batch_fits
returns-then-few c =
    let a = c.before.before.args in
    rw (lt-leb _ 1 c.before.if-stage-gt1.true, lt-leb (a.n - a.t) a.m (omega arith))

pub returns-then-stage-gt1 : goal.returns-then-stage-gt1
unfolding batch_fits
returns-then-stage-gt1 c =
    let a = c.before.before.before.args in
    rw (lt-leb _ 1 c.before.before.if-stage-gt1.true, le-leb (a.n - a.t) a.m c.before.if-few.false) (ap (eqb a.b) c.batch.ensures)

pub returns-then-b-eq0 : goal.returns-then-b-eq0
unfolding batch_fits
returns-then-b-eq0 c = rw (le-leb _ 1 c.before.if-stage-gt1.false, eq-eqb _ _ c.if-b-eq0.true)

pub returns : goal.returns
unfolding batch_fits
returns c =
    let a = c.before.before.before.args in
    rw (le-leb _ 1 c.before.before.if-stage-gt1.false, ne_eqb a.b 0 c.before.if-b-eq0.false) (ap (eqb a.b) c.batch-2.ensures)
