-- `sets_of` meets its contract. Assumes nothing.
use Rattle.std.specs.Prelude.{◌≡◌, Bool, false, leb, Some, None}
use Rattle.std.proofs.Common.{sym, ap}
use Rattle.std.proofs.lemmas.Bool.{lt-leb}
use Rattle.lists.specs.Tests.{pick}
use Rattle.run.specs.Runs.{stage_of}
use Rattle.answers.specs.Answers.{kept_sets, sets_of}
use Rattle.answers.proofs.sets_of.Goals as goal

pub returns-then-stage_of-lt3 : goal.returns-then-stage_of-lt3
unfolding sets_of
returns-then-stage_of-lt3 c =
    let r = c.args.run in
    let early : leb 3 (stage_of r) ≡ false = rw (← c.stage_of.ensures) (lt-leb 3 _ c.if-stage_of-lt3.true) in
    sym (ap (λ (b : Bool). pick b (Some (kept_sets r)) None) early)
