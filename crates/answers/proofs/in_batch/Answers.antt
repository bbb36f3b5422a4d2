-- `in_batch` meets its contract: each range settles one factor of the definition. Assumes nothing.
use Rattle.std.specs.Prelude.{Bool, ◌&&◌, leb}
use Rattle.std.proofs.Common.{sym, ap, ◌∙◌}
use Rattle.answers.specs.Answers.{in_batch}
use Rattle.answers.proofs.RangeLaws.{ranged}
use Rattle.answers.proofs.in_batch.Goals as goal

pub returns-then-contains : goal.returns-then-contains
unfolding in_batch
returns-then-contains c =
    let a = c.args in
    let u = ranged 1 a.run.b a.u c.new.ensures.start c.new.ensures.end c.new.ensures.exhausted c.contains.ensures.value in
    let range = c.new-then-contains.ensures in
    let k = ranged 1 a.run.setup.a a.k range.start range.end range.exhausted c.contains-then-contains.ensures.value in
    k ∙ ap (λ (x : Bool). x && (leb 1 a.k && leb a.k a.run.setup.a)) (sym c.if-contains.true ∙ u)
