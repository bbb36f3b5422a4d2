-- `Responses::signatures` meets its contract. The loop has stored every φ passed. Assumes nothing.
use Rattle.std.proofs.Common.{◌≡◌, ℕ, ◌+◌, ◌/◌, ◌%◌}
use Rattle.lists.specs.Stores.{stored}
use Rattle.field.specs.declared.Scalar.{Scalar}
use Rattle.dealing.specs.declared.Setup.{Setup}
use Rattle.response.specs.declared.Responses.{Responses}
use Rattle.response.specs.Definitions.{shifted_phi_of}
use Rattle.response.proofs.Responses.signatures.Given as goal

-- φ(u,k) + δ at its place, u outer
abbrev pub cell : Setup → Scalar → Responses → ℕ → Scalar
cell setup shift p x = shifted_phi_of setup.n shift p (x / setup.a + 1) (x % setup.a + 1)

abbrev pub invariant-loop-x : goal.invariant-loop-x
invariant-loop-x l = l.signature-items ≡ stored l.initial.signature-items 0 l.x (cell l.kept.setup.now l.shift l.self)
