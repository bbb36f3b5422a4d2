-- `Row::partial_products` meets its contract. The loop has stored the products passed, and keeps the next. Assumes nothing.
use Rattle.std.proofs.Common.{◌≡◌}
use Rattle.rows.specs.BasisLaws.{partial_product}
use Rattle.rows.proofs.RowLaws.{front}
use Rattle.rows.proofs.Row.partial_products.Given as goal

abbrev pub invariant-loop-i : goal.invariant-loop-i
invariant-loop-i l = (l.products ≡ front l.i (partial_product l.fn.self l.fn.x)) × (l.product ≡ partial_product l.fn.self l.fn.x l.i)
