-- The test of a row against QUAL's committed values, which are combined beforehand for the numbers that are tested.
use Rattle.std.specs.Prelude.{◌≡◌, Bool, true, List, ℕ, ◌+◌}
use Rattle.field.specs.declared.Scalar.{Scalar}
use Rattle.field.specs.declared.Element.{Element}
use Rattle.interpolation.specs.Definitions.{party, slot, committed_point}
use Rattle.rows.specs.Definitions.{listed, weights_of}
use Rattle.parameters.specs.Definitions.{quorum}
use Rattle.protocol.specs.Transcript.{key_at}
use Rattle.combination.specs.Tables.{table_to}
use Rattle.dealing.specs.declared.Setup.{Setup}
use Rattle.dealing.specs.declared.Dealings.{Dealings}
use Rattle.dealing.specs.Definitions.{key_in}
use Rattle.complaint.specs.declared.Complaints.{Complaints}
use Rattle.complaint.specs.Definitions.{unblamed}
use Rattle.challenge.specs.declared.Challenges.{Challenges}
use Rattle.verification.specs.declared.Holder.{Holder}
use Rattle.verification.specs.Definitions.{row_passes}

-- what depends on the holder alone: S_j, and the weights at j of the slots and of the committed points
unfoldable pub holder_of : Setup → ℕ → Holder
holder_of setup j =
    record {
      key = key_at setup.t setup.a (key_in setup) (party j);
      slots = weights_of (listed setup.a (λ v. slot (v + 1))) (party j);
      points = weights_of (listed (quorum setup.t setup.a) (committed_point setup.a)) (party j);
    }

-- the values of QUAL, combined for u from 1 to k
abbrev pub qual_values : Setup → Dealings → Complaints → ℕ → List Element
qual_values setup d c k = table_to setup.n (unblamed setup.n c d.dealers) (quorum setup.t setup.a) d.commitments k

-- with them, and with the run's challenges, the first k numbers pass by the definition, where those pass that are known to
abbrev pub TestedRow : ℕ → ℕ → Setup → List Scalar → List Element → List ℕ → Bool → Type 0
TestedRow known k setup numbers values s r =
    (d : Dealings) (c : Complaints) (e : Challenges) → numbers ≡ e.numbers → values ≡ qual_values setup d c k → row_passes known setup d c e s ≡ true
    → r ≡ row_passes k setup d c e s
