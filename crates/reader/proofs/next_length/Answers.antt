-- `next_length` meets its contract. Assumes nothing.
use Rattle.std.proofs.Common.{◌≡◌, ◌∙◌, ap, ℕ, Option, min, unwrap_or, length}
use Rattle.reader.specs.Cutting.{some_length, length_of, whole}
use Rattle.reader.specs.Turns.{next_length}
use Rattle.reader.proofs.TagLaws.{some_min}
use Rattle.reader.proofs.next_length.Goals as goal

pub returns : goal.returns
unfolding next_length whole
returns c =
    let a = c.args in
    let left = length a.rest.now in
    let first : c.unwrap_or.result ≡ unwrap_or (some_length (length_of a.run.now a.rest.now)) left = c.unwrap_or.ensures ∙ ap (λ (o : Option ℕ). unwrap_or o left) c.record_length.ensures in
    c.min.ensures ∙ ap (λ (n : ℕ). min n left) first ∙ some_min (length_of a.run.now a.rest.now) left
