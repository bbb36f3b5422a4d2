-- `give_rows` meets its contract. The loop gives the rows to the run one by one, each tested against the values that were combined for those before it.
-- Assumes nothing.
use Rattle.std.specs.Prelude.{◌≡◌, ◌≤◌}
use Rattle.verification.specs.Tests.{qual_values}
use Rattle.bundle.proofs.Taking.{Taking}
use Rattle.bundle.proofs.give_rows.Given as goal

abbrev pub invariant-loop-x : goal.invariant-loop-x
invariant-loop-x l =
    let r = l.initial.next in
    Taking r l.bytes l.length l.count l.numbers l.next l.from l.x × (l.ready ≤ r.b) × (l.values ≡ qual_values r.setup r.dealings r.complaints l.ready)
