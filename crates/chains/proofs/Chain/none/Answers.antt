-- `Chain::none` meets its contract. Assumes nothing.
use Rattle.lists.specs.Stores.{filled}
use Rattle.chains.specs.Definitions.{most_digits, chain_value}
use Rattle.chains.proofs.ChainLaws.{value_none}
use Rattle.chains.proofs.Chain.none.Goals as goal

pub returns : goal.returns
unfolding chain_value filled
returns c = value_none most_digits 0 most_digits
