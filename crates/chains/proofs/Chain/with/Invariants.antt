-- `Chain::with` meets its contract. The loop has multiplied the places passed, and keeps what is left of the exponent above them. Assumes nothing.
use Rattle.std.proofs.Common.{◌≡◌, ◌/◌, ◌^◌}
use Rattle.chains.proofs.ChainLaws.{multiplied}
use Rattle.chains.proofs.Chain.with.Given as goal

abbrev pub invariant-loop-place : goal.invariant-loop-place
invariant-loop-place l = (l.left ≡ l.initial.left / 4 ^ l.place-index) × (l.place-items ≡ multiplied l.powers l.initial.place-items l.initial.left l.place-index)
