-- `Run::well_formed` meets its contract: each test settles one factor of the definition. Assumes nothing.
use Rattle.std.specs.Prelude.{◌≡◌, false, leb}
use Rattle.std.proofs.lemmas.Bool.{lt-leb}
use Rattle.std.proofs.Common.{sym, ◌∙◌, arith}
use Rattle.parameters.specs.ParameterLaws.{bounds_of}
use Rattle.run.specs.Runs.{well_formed}
use Rattle.run.proofs.Run.well_formed.Goals as goal

pub returns-then-self-gt6 : goal.returns-then-self-gt6
unfolding well_formed
returns-then-self-gt6 c =
    let high : leb c.args.self.now.stage 6 ≡ false = lt-leb _ _ c.if-self-gt6.true in
    rw high

-- t is at most n
pub batch_fits-requires : goal.batch_fits-requires
batch_fits-requires c = omega (arith, (bounds_of _ _ _ (sym c.in_bounds.ensures ∙ c.if-not-in_bounds.false)).enough)
