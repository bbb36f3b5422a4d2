-- `put_bytes` meets its contract. Assumes nothing.
use Rattle.std.proofs.Common.{◌∙◌}
use Rattle.encoding.proofs.StoreLaws.{last_bytes}
use Rattle.encoding.proofs.put_bytes.Goals as goal

pub returns : goal.returns
returns c = c.copy_from_slice.ensures.after ∙ last_bytes _ c.args.x c.to_be_bytes-bytes.ensures c.requires
