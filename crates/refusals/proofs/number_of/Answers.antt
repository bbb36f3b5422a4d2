-- `number_of` meets its contract: the number of an answer that is not refused is 0. Assumes nothing.
use Rattle.std.proofs.Common.{refl}
use Rattle.refusals.proofs.number_of.Goals as goal

pub returns-in-Ok : goal.returns-in-Ok
returns-in-Ok c o = rw o.in-Ok.is refl
