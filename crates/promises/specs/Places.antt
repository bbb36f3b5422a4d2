-- The places (u,k) of a transcript: b is m-t.
use Rattle.std.specs.Prelude.{Bool, ◌&&◌, ℕ, ◌≤◌, ◌<◌, leb}
use Rattle.parameters.specs.Definitions.{batch}
use Rattle.protocol.specs.Transcript.{Transcript}

-- u is from 1 to b, and k from 1 to a
pub record Within (w : Transcript) (u k : ℕ) : Type 0 where
  pub u_pos : 0 < u
  pub u_max : u ≤ batch w.m w.t
  pub k_pos : 0 < k
  pub k_max : k ≤ w.a

-- the same as a test
unfoldable pub is_place : Transcript → ℕ → ℕ → Bool
is_place w u k = (leb 1 u && leb u (batch w.m w.t)) && (leb 1 k && leb k w.a)
