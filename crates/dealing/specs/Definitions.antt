-- The accepted setup and the accepted dealings (document 01, "The run"; waiting is of document 02, request 2.5): what is kept of them, and what one
-- more dealing does.
use Rattle.std.specs.Prelude.{ℕ, ◌+◌, ◌-◌, Bool, not, ◌&&◌, List, get_or, set}
use Rattle.lists.specs.Tests.{pick, require, or_next}
use Rattle.lists.specs.Stores.{stored, filled}
use Rattle.sets.specs.Masks.{has, insert, mask_of}
use Rattle.field.specs.declared.Element.{Element}
use Rattle.field.specs.Definitions.{scalar, element, identity}
use Rattle.parameters.specs.Definitions.{most_parties, places, quorum, batch}
use Rattle.records.specs.Bytes.{byte_at, word, sender}
use Rattle.records.specs.Tags.{shares_from}
use Rattle.refusals.specs.Refusals.{dealing_refusal}
use Rattle.protocol.specs.Transcript.{valid_share}
use Rattle.arrays.specs.Arrays.{base}
use Rattle.dealing.specs.declared.Setup.{Setup}
use Rattle.dealing.specs.declared.Dealings.{Dealings}

-- ---- the setup

unfoldable pub no_setup : Setup
no_setup = record { n = 0; t = 0; a = 0; key = filled most_parties identity }

-- the setup of an accepted SU or SX
unfoldable pub setup_of : List ℕ → Setup
setup_of s =
    record {
      n = byte_at s 2;
      t = byte_at s 3;
      a = byte_at s 4;
      key = stored no_setup.key 0 (byte_at s 3 + 1) (λ j. element (word s 6 j));
    }

-- S, S_1 to S_t by their number
unfoldable pub key_in : Setup → ℕ → Element
key_in setup j = get_or setup.key j identity

-- b of a run that is begun: under SU that of n-t dealings; under SX it waits to be fixed, which is written 0
unfoldable pub begun_batch : Bool → Setup → ℕ
begun_batch waits setup = pick waits 0 (batch (setup.n - setup.t) setup.t)

-- ---- the dealings

unfoldable pub no_dealings : Dealings
no_dealings = record { count = 0; dealers = 0; commitments = filled places identity; wrong = filled most_parties 0 }

-- the refusal of a DE at stage 1: 12, after those from the input
unfoldable pub dealing_number : Setup → Dealings → List ℕ → ℕ
dealing_number setup d s =
    or_next (dealing_refusal setup.n setup.t setup.a s)
    (require (not (has d.dealers (sender s))) 12 0)

-- the holders for whom the share of a dealing is not valid
unfoldable pub wrong_shares : Setup → List ℕ → ℕ
wrong_shares setup s =
    mask_of setup.n
    (λ j. not (valid_share setup.t setup.a (λ v. element (word s 4 v)) j (scalar (word s (shares_from setup.t setup.a) (j - 1)))))

unfoldable pub with_dealing : Setup → Dealings → List ℕ → Dealings
with_dealing setup d s =
    record {
      count = d.count + 1;
      dealers = insert d.dealers (sender s);
      commitments = stored d.commitments (base (sender s)) (quorum setup.t setup.a) (λ v. element (word s 4 v));
      wrong = set d.wrong (sender s - 1) (wrong_shares setup s);
    }

-- holder j may blame dealer i: i has a dealing, whose share for j is not valid
unfoldable pub may_blame : Dealings → ℕ → ℕ → Bool
may_blame d j i = has d.dealers i && has (get_or d.wrong (i - 1) 0) j
