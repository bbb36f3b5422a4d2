-- `signature_at` meets its contract: the number that is kept at the place of (u,k), which is among the kept ones. Assumes nothing.
use borrow.Author.Tests.{leb-true}
use native.Mathlib.Omega.{arith}
use native.Mathlib.Nat.{mul_comm}
use Prim.Native.Nat.{ℕ, ◌+◌, ◌*◌, ◌-◌, ◌≤◌, ◌<◌}
use mathlib.Core.Path.{◌≡◌, sym, ◌∙◌}
use mathlib.Core.Bool.{true, and-eq-true_iff}
use lib.Arith.{digits_lt}
use Rattle.parameters.specs.Definitions.{cells}
use Rattle.parameters.specs.ParameterLaws.{cells_max}
use Rattle.run.specs.declared.Run.{Run}
use Rattle.run.specs.Runs.{stage_of}
use Rattle.run.specs.RunLaws.{formed_of, formed_batch, stage_live}
use Rattle.answers.specs.Answers.{in_batch}
use Rattle.answers.proofs.signature_at.Goals as goal

-- (u,k) of the batch of a run at stage 5: both are at least 1, and their place is among the kept ones
placed : (r : Run) (u k : ℕ) → stage_of r ≡ 5 → in_batch r u k ≡ true → (1 ≤ u) × (1 ≤ k) × ((u - 1) * r.setup.a + (k - 1) < cells)
unfolding in_batch
placed r u k e h =
    let p = (and-eq-true_iff _ _).0 h in
    let pu = (and-eq-true_iff _ _).0 p.0 in
    let pk = (and-eq-true_iff _ _).0 p.1 in
    let u_pos : 1 ≤ u = leb-true 1 u pu.0 in
    let u_max : u ≤ r.b = leb-true u _ pu.1 in
    let k_pos : 1 ≤ k = leb-true 1 k pk.0 in
    let k_max : k ≤ r.setup.a = leb-true k _ pk.1 in
    let formed = formed_of r (stage_live r 5 e (omega arith) (omega arith)).1 in
    let in-batch : u - 1 < r.b = omega arith in
    let in-slots : k - 1 < r.setup.a = omega arith in
    (u_pos, k_pos, omega (arith, digits_lt in-batch in-slots, cells_max formed.bounds (formed_batch formed), mul_comm r.setup.a r.b))

-- past the test the run is at stage 5, and (u,k) in its batch
here : (c : goal.Else-not-in_batch) → let a = c.args in
    (1 ≤ a.u) × (1 ≤ a.k) × ((a.u - 1) * a.run.setup.a + (a.k - 1) < cells)
here c = placed _ _ _ (sym c.stage_of-early.ensures ∙ c.if-early.false) (sym c.in_batch.ensures ∙ c.if-not-in_batch.false)

pub overflow_sub-at : goal.overflow_sub-at
overflow_sub-at c = (here c).0

pub overflow_sub-at-2 : goal.overflow_sub-at-2
overflow_sub-at-2 c = (here c).1

pub bounds-run-at : goal.bounds-run-at
bounds-run-at c = omega (arith, (here c).2)
