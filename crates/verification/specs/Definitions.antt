-- Response numbers against what is kept (document 01, "Points and weights"): the public values of a committee, and when a row passes.
use Rattle.std.specs.Prelude.{ℕ, ◌+◌, Bool, not, ◌&&◌, List}
use Rattle.lists.specs.Tests.{all_to}
use Rattle.sets.specs.Masks.{has}
use Rattle.field.specs.Definitions.{scalar}
use Rattle.records.specs.Bytes.{word, sender}
use Rattle.protocol.specs.Transcript.{Transcript, passes}
use Rattle.arrays.specs.Arrays.{commitment_in, challenge_in}
use Rattle.dealing.specs.declared.Setup.{Setup}
use Rattle.dealing.specs.declared.Dealings.{Dealings}
use Rattle.dealing.specs.Definitions.{key_in}
use Rattle.complaint.specs.declared.Complaints.{Complaints}
use Rattle.complaint.specs.Definitions.{blamed_by}
use Rattle.challenge.specs.declared.Challenges.{Challenges}

-- the public values of a committee, from what is kept
unfoldable pub transcript : Setup → Dealings → Complaints → Challenges → Transcript
transcript setup d c e =
    record {
      n = setup.n;
      t = setup.t;
      a = setup.a;
      m = d.count;
      key = key_in setup;
      qual = λ i. has d.dealers i && not (has (blamed_by setup.n c) i);
      commitment = commitment_in d.commitments;
      challenge = challenge_in setup.a e.numbers;
      shift = e.shift;
    }

-- each of the b response numbers of a row passes
abbrev pub row_passes : ℕ → Setup → Dealings → Complaints → Challenges → List ℕ → Bool
row_passes b setup d c e s =
    all_to b (λ x. passes (transcript setup d c e) (x + 1) (sender s) (scalar (word s 4 x)))
