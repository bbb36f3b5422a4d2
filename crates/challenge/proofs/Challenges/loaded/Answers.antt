-- `Challenges::loaded` meets its contract. Assumes nothing.
use native.Mathlib.Omega.{arith}
use Rattle.records.proofs.RecordLaws.{byte_product}
use Rattle.challenge.specs.Definitions.{challenges_from}
use Rattle.challenge.proofs.Challenges.loaded.Goals as goal

pub overflow_mul-count : goal.overflow_mul-count
overflow_mul-count c = omega (arith, byte_product c.args.a c.args.b (omega arith) (omega arith))

pub returns : goal.returns
unfolding challenges_from
returns c = c.load_challenges.ensures
