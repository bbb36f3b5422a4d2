-- `powers_at` meets its contract: a step each turn. Assumes nothing.
use Rattle.std.proofs.Common.{◌≡◌, ◌-◌, ◌≤◌}
use Rattle.combination.specs.Combination.{powers_at}
use Rattle.combination.proofs.powers_at.Given as goal

abbrev pub invariant-loop : goal.invariant-loop
invariant-loop l = (l.counter - 1 ≤ l.u - 1) × (l.powers ≡ powers_at l.n l.initial.powers (l.counter - 1))
