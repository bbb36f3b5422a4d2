-- `Kept::row_passes` meets its contract: the loop has combined the values for each u passed, and met no number that fails. Assumes nothing.
use Rattle.std.specs.Prelude.{◌≡◌, true, ◌-◌}
use Rattle.combination.specs.Combination.{powers_at}
use Rattle.verification.specs.Definitions.{row_passes}
use Rattle.verification.specs.Tests.{qual_values}
use Rattle.verification.proofs.Kept.row_passes.Given as goal

abbrev pub invariant-loop-u : goal.invariant-loop-u
invariant-loop-u l =
    let setup = l.self.setup.now in
    let d = l.self.dealings.now in
    let c = l.self.complaints.now in
    (l.powers ≡ powers_at setup.n d.commitments (l.u - 1)) × (l.values ≡ qual_values setup d c l.u)
    × (row_passes l.u setup d c l.self.challenges.now l.bytes ≡ true)
