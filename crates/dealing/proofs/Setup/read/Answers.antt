-- `Setup::read` meets its contract. Assumes nothing.
use Rattle.dealing.specs.Definitions.{no_setup, setup_of}
use Rattle.dealing.proofs.Setup.read.Goals as goal

pub returns : goal.returns
unfolding setup_of no_setup
returns c =
    let key = c.before.before in
    rw (c.byte-2.ensures, c.byte.ensures, key.load_key-key.ensures, key.byte-t.ensures)
