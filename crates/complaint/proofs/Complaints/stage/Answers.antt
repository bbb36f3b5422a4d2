-- `Complaints::stage` meets its contract: the rows are counted, then BAD. Assumes nothing.
use borrow.Author.Tests.{eq-eqb, ne_eqb, lt-ltb, le-ltb}
use mathlib.Core.Path.{◌≡◌, ap, ◌∙◌}
use mathlib.Core.Bool.{true, false}
use Prim.Native.Nat.{ℕ, ◌-◌}
use lib.Dec.{eqb, ltb}
use Rattle.sets.specs.Masks.{has, count}
use Rattle.complaint.specs.Definitions.{blamed_by, complaint_stage}
use Rattle.complaint.proofs.Complaints.stage.Goals as goal
use Rattle.complaint.proofs.Complaints.stage.Lts as lts
use Rattle.complaint.proofs.Complaints.stage.Reads as reads
use Rattle.complaint.proofs.Complaints.stage.Tie as tie

pub returns-then-self-setup : goal.returns-then-self-setup
unfolding complaint_stage
returns-then-self-setup c =
    let a = c.args in
    let few : eqb a.self.count (a.setup.n - a.setup.t) ≡ false = ne_eqb _ _ c.if-self-setup.true in
    rw few

-- the rows are enough
enough : (c : lts.Else1 tie.the-claims reads.Pre reads.Post) → let a = c.args in eqb a.self.count (a.setup.n - a.setup.t) ≡ true
enough c = eq-eqb _ _ c.if-self-setup.false

-- the size of BAD
sized : (c : lts.After-size tie.the-claims reads.Pre reads.Post) → let a = c.args in c.size.result ≡ count a.setup.n (has (blamed_by a.setup.n a.self))
sized c =
    let a = c.args in
    c.size.ensures ∙ ap (λ (m : ℕ). count a.setup.n (has m)) c.blamed.ensures

pub returns-then-setup-size : goal.returns-then-setup-size
unfolding complaint_stage
returns-then-setup-size c =
    let s = c.before.before in
    let a = s.args in
    let many : ltb a.setup.t s.size.result ≡ true = lt-ltb _ _ c.if-setup-size.true in
    rw (enough s.before.before, ← sized s, many)

pub returns : goal.returns
unfolding complaint_stage
returns c =
    let s = c.before.before in
    let a = s.args in
    let few : ltb a.setup.t s.size.result ≡ false = le-ltb _ _ c.if-setup-size.false in
    rw (enough s.before.before, ← sized s, few)
