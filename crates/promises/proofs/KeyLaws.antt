-- What the key of a run is past stage 0. Assumes nothing.
use Rattle.std.specs.Prelude.{◌≡◌, List, ℕ, ◌<◌}
use Rattle.std.proofs.Common.{arith}
use Rattle.field.specs.declared.Reading.TheVariants.{Other}
use Rattle.field.specs.Definitions.{read_element}
use Rattle.field.proofs.Readings.{other_by}
use Rattle.dealing.specs.Definitions.{key_in}
use Rattle.verification.specs.Definitions.{transcript}
use Rattle.run.specs.Runs.{stage_of, transcript_of}
use Rattle.run.specs.Steps.{after}
use Rattle.promises.proofs.InvariantLaws.{key_element, key_apart}
use Rattle.promises.proofs.MadeLaws.{made_stage, made_live}

-- after every list of records
pub key_away : (l : List (List ℕ)) → 0 < stage_of (after l) → read_element ((transcript_of (after l)).key 0).0 ≡ Other
unfolding transcript_of transcript key_in
key_away l p =
    let live = made_live l (omega (arith, p, made_stage l)) in
    other_by _ (key_element (after l).setup _ live.setup 0 (omega arith)) (key_apart (after l).setup _ live.setup)
