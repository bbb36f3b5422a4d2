-- `own_length` meets its contract. Assumes nothing.
use Rattle.std.proofs.Common.{◌≡◌, ◌<◌, ℕ, ◌∙◌, ap, length, leb, arith}
use Rattle.std.specs.Bool.{then_some}
use Rattle.records.specs.Bytes.{byte_at}
use Rattle.records.specs.Tags.{setup_length}
use Rattle.reader.specs.Cutting.{own_length}
use Rattle.reader.proofs.TagLaws.{some_if}
use Rattle.reader.proofs.own_length.Goals as goal

pub returns : goal.returns
unfolding own_length setup_length
returns c =
    let s = c.args.rest.now in
    let size : c.setup_length.result ≡ setup_length (byte_at s 3) = c.setup_length.ensures ∙ ap setup_length c.byte.ensures in
    let some : 0 < setup_length (byte_at s 3) = omega arith in
    let long = leb 6 (length s) in
    c.then_some.ensures ∙ ap (λ (n : ℕ). then_some long n) size ∙ some_if long some
