-- `Row::product` meets its contract. The loop keeps a chain that comes to the product of value^weight over the places passed. Assumes nothing.
use Rattle.std.proofs.Common.{◌≡◌, length}
use Rattle.chains.specs.Definitions.{chain_value}
use Rattle.rows.specs.Definitions.{product_of}
use Rattle.rows.proofs.TurnLaws.{first}
use Rattle.rows.proofs.Row.product.Given as goal

abbrev pub invariant-loop-w : goal.invariant-loop-w
invariant-loop-w l = chain_value l.chain ≡ product_of (first (length l.yielded) l.fn.self) l.fn.values
