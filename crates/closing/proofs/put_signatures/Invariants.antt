-- `put_signatures` meets its contract. The loop has stored the rows that it passed, and raised the powers to those of the next. Assumes nothing.
use mathlib.Core.Path.{◌≡◌}
use Prim.Native.Nat.{◌*◌, ◌-◌, ◌≤◌}
use Rattle.text.specs.Texts.{Added}
use Rattle.combination.specs.Combination.{powers_at}
use Rattle.closing.specs.Closing.{signature_lines}
use Rattle.closing.proofs.put_signatures.Given as goal

abbrev pub invariant-loop-u : goal.invariant-loop-u
invariant-loop-u l = (l.u ≤ l.count) × (l.powers ≡ powers_at l.run.setup.n l.initial.powers l.u) × Added l.initial.page l.page (signature_lines l.run (l.u * l.run.setup.a))

abbrev pub decreases-loop-u : goal.decreases-loop-u
decreases-loop-u l = l.count - l.u
