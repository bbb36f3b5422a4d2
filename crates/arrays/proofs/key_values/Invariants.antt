-- `key_values` meets its contract. The loop has stored the values passed. Assumes nothing.
use Rattle.std.proofs.Common.{◌≡◌, ◌+◌, ◌-◌, get_or}
use Rattle.lists.specs.LoadLaws.{part}
use Rattle.field.specs.Definitions.{identity}
use Rattle.arrays.proofs.key_values.Given as goal

abbrev pub invariant-loop-v : goal.invariant-loop-v
invariant-loop-v l = l.value-items ≡ part 64 identity l.m (λ k. get_or l.key (k + 1 - l.a) identity) l.v
