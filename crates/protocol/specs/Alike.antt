-- Transcripts that are alike in setup, number of dealings, QUAL, the commitments of QUAL's dealers, the challenges and the shift.
use Rattle.std.specs.Prelude.{◌≡◌, true, ℕ, ◌≤◌, ◌<◌}
use Rattle.parameters.specs.Definitions.{quorum, batch}
use Rattle.protocol.specs.Transcript.{Transcript}

pub record Alike (w z : Transcript) : Type 0 where
  pub n_same : w.n ≡ z.n
  pub t_same : w.t ≡ z.t
  pub a_same : w.a ≡ z.a
  pub m_same : w.m ≡ z.m
  pub key_same : (j : ℕ) → j ≤ w.t → w.key j ≡ z.key j
  pub qual_same : (i : ℕ) → 0 < i → i ≤ w.n → w.qual i ≡ z.qual i
  pub commitment_same : (i v : ℕ) → 0 < i → i ≤ w.n → w.qual i ≡ true → v < quorum w.t w.a → w.commitment i v ≡ z.commitment i v
  pub challenge_same : (u k : ℕ) → 0 < u → u ≤ batch w.m w.t → 0 < k → k ≤ w.a → w.challenge u k ≡ z.challenge u k
  pub shift_same : w.shift ≡ z.shift
