-- `nonce_at` meets its contract: each test settles one factor of the definition. Assumes nothing.
use Rattle.std.specs.Prelude.{◌≡◌, true, ◌&&◌, ℕ, ◌≤◌, leb, Option, Some}
use Rattle.std.proofs.Common.{refl, sym, ap, ap₂, ◌∙◌, arith, leb-true}
use Rattle.lists.specs.TestLaws.{and_left, and_right}
use Rattle.interpolation.proofs.PointLaws.{slot_is}
use Rattle.field.specs.declared.Element.{Element}
use Rattle.field.specs.Definitions.{product}
use Rattle.protocol.specs.Transcript.{nonce, shifted_element, shifted_nonce, combined_at}
use Rattle.verification.specs.Definitions.{transcript}
use Rattle.run.specs.declared.Run.{Run}
use Rattle.run.specs.Runs.{well_formed, stage_of, transcript_of}
use Rattle.run.specs.RunLaws.{stage_live}
use Rattle.answers.specs.Answers.{nonce_of}
use Rattle.answers.proofs.RangeLaws.{ranged}
use Rattle.answers.proofs.nonce_at.Goals as goal
use Rattle.answers.proofs.nonce_at.Goals.{After-contains}

-- whether the run is at stages 3 to 5
staged : (c : After-contains) → let g = stage_of c.args.run in c.contains.result ≡ (leb 3 g && leb g 5)
staged c =
    let range = c.new.ensures in
    ranged 3 5 c.stage_of-stage.result range.start range.end range.exhausted c.contains.ensures.value
    ∙ ap (λ (g : ℕ). leb 3 g && leb g 5) c.stage_of-stage.ensures

-- a run at these stages is well formed
formed : (r : Run) → (leb 3 (stage_of r) && leb (stage_of r) 5) ≡ true → well_formed r ≡ true
formed r e =
    let low : 3 ≤ stage_of r = leb-true 3 (stage_of r) (and_left _ _ e) in
    let high : stage_of r ≤ 5 = leb-true (stage_of r) 5 (and_right (leb 3 (stage_of r)) _ e) in
    (stage_live r (stage_of r) refl (omega arith) (omega arith)).1

pub kept-requires : goal.kept-requires
kept-requires c = formed c.args.run (sym (staged (goal.at.kept-requires c).After-contains) ∙ c.if-not-contains.false)

pub returns : goal.returns
unfolding nonce_of nonce shifted_nonce shifted_element transcript_of transcript
returns c =
    let a = c.args in
    let kept = c.kept.ensures in
    let found =
    c.combined_at-nonce.ensures a.run.challenges
    ∙ rw (kept.setup, kept.dealings, kept.complaints) (ap (combined_at (transcript_of a.run) a.u) (c.point-x.ensures ∙ sym (slot_is a.k))) in
    rw (← staged (goal.at.returns c).After-contains, c.if-not-contains.false, ← c.in_batch.ensures, c.if-not-in_batch.false)
    (ap {B = Option Element} Some (c.mul.ensures ∙ ap₂ product found c.pow.ensures))
