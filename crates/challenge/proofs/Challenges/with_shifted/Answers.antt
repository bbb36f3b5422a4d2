-- `Challenges::with_shifted` meets its contract. Assumes nothing.
use Rattle.challenge.specs.Definitions.{with_shifted}
use Rattle.challenge.proofs.Challenges.with_shifted.Goals as goal

pub returns : goal.returns
unfolding with_shifted
returns c = rw (c.loaded.ensures, c.word.ensures)
