-- Past stage 0 the key S of a run is an element other than the identity, whatever the records. Assumes nothing.
use Rattle.std.specs.Prelude.{◌≡◌, ◌≢◌, List, ℕ, ◌<◌}
use Rattle.std.proofs.Common.{ap}
use Rattle.field.specs.declared.Element.{Element}
use Rattle.field.specs.declared.Reading.TheVariants.{Other}
use Rattle.field.specs.Definitions.{identity, read_element}
use Rattle.field.proofs.Readings.{read_other}
use Rattle.run.specs.Runs.{stage_of, transcript_of}
use Rattle.run.specs.Steps.{after}
use Rattle.promises.proofs.KeyLaws.{key_away}

-- After every list of records.
pub key_other : (l : List (List ℕ)) → 0 < stage_of (after l) → read_element ((transcript_of (after l)).key 0).0 ≡ Other
key_other l p = key_away l p

-- That is, S is not 1.
pub key_not_one : (l : List (List ℕ)) → 0 < stage_of (after l) → (transcript_of (after l)).key 0 ≢ identity
key_not_one l p e = ((read_other _).0 (key_away l p)).1 (ap (λ (z : Element). z.0) e)
