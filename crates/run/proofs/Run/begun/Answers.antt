-- `Run::begun` meets its contract: the arrays that the code writes out are the filled ones. Assumes nothing.
use mathlib.Core.Path.{refl}
use Rattle.lists.specs.Stores.{filled}
use Rattle.dealing.specs.Definitions.{no_dealings}
use Rattle.complaint.specs.Definitions.{no_complaints}
use Rattle.response.specs.Definitions.{no_responses}
use Rattle.challenge.specs.Definitions.{no_challenges}
use Rattle.run.specs.Runs.{no_scalars, begun}
use Rattle.run.proofs.Run.begun.Goals as goal

pub returns : goal.returns
unfolding begun no_dealings no_complaints no_challenges no_responses no_scalars filled
returns c = refl
