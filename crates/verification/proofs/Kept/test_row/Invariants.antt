-- `Kept::test_row` meets its contract. The inner loop keeps the product of value^weight over the committed points passed; the outer one has met no number
-- that fails. Assumes nothing.
use Rattle.std.specs.Prelude.{◌≡◌, true, ◌+◌, ◌≤◌}
use Rattle.chains.specs.Definitions.{chain_value}
use Rattle.rows.specs.Definitions.{product_of}
use Rattle.rows.proofs.TurnLaws.{first}
use Rattle.arrays.specs.Arrays.{commitment_in, elements}
use Rattle.dealing.specs.declared.Dealings.{Dealings}
use Rattle.complaint.specs.declared.Complaints.{Complaints}
use Rattle.challenge.specs.declared.Challenges.{Challenges}
use Rattle.verification.specs.Definitions.{row_passes}
use Rattle.verification.specs.Tests.{qual_values}
use Rattle.verification.proofs.Kept.test_row.Given as goal

abbrev pub invariant-loop-v : goal.invariant-loop-v
invariant-loop-v l = chain_value l.chain ≡ product_of (first l.v l.holder.points) (elements l.m (commitment_in l.values (l.u + 1)))

abbrev pub invariant-row : goal.invariant-row
invariant-row l = (l.u ≤ l.count) × (l.passed ≡ true)
    × ((d : Dealings) (c : Complaints) (e : Challenges) → l.self.challenges.now.numbers ≡ e.numbers → l.values ≡ qual_values l.self.setup.now d c l.count
    → row_passes l.known l.self.setup.now d c e l.bytes ≡ true → row_passes l.u l.self.setup.now d c e l.bytes ≡ true)
