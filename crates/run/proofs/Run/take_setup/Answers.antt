-- `Run::take_setup` meets its contract. Assumes nothing.
use Rattle.std.specs.Prelude.{◌≡◌, true}
use Rattle.std.proofs.Common.{sym, ap, ◌∙◌, arith}
use Rattle.refusals.specs.Refusals.{setup_refusal}
use Rattle.refusals.proofs.RefusalLaws.{setup_passed}
use Rattle.dealing.specs.Definitions.{setup_of, begun_batch}
use Rattle.run.specs.Runs.{begun}
use Rattle.run.specs.Steps.{after_setup}
use Rattle.run.proofs.Numbers.{accepted_by}
use Rattle.run.proofs.Run.take_setup.Goals as goal

-- the run of an SX waits
pub returns-then-waits : goal.returns-then-waits
unfolding after_setup begun_batch
returns-then-waits c =
    let waits : c.args.waits ≡ true = c.if-waits.true in
    let passed : 0 ≡ setup_refusal c.args.bytes.now = c.in_ok-setup_refusal.ensures in
    rw waits (accepted_by c.args.self passed (c.begun.ensures ∙ ap (begun 1 0) c.read-setup.ensures))

-- n is at least t
pub overflow_sub-setup : goal.overflow_sub-setup
unfolding setup_of
overflow_sub-setup c =
    let bounds = (setup_passed c.args.bytes.now (sym c.in_ok-setup_refusal.ensures)).bounds in
    rw c.read-setup.ensures (omega (arith, bounds.enough))
