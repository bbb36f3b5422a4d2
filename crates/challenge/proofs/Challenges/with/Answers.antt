-- `Challenges::with` meets its contract. Assumes nothing.
use Rattle.challenge.specs.Definitions.{with_challenges}
use Rattle.challenge.proofs.Challenges.with.Goals as goal

pub returns : goal.returns
unfolding with_challenges
returns c = rw c.loaded.ensures
