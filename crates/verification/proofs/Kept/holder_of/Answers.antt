-- `Kept::holder_of` meets its contract. Assumes nothing.
use Rattle.std.proofs.Common.{◌≡◌, refl, sym, ap, ◌∙◌}
use Rattle.interpolation.specs.Definitions.{party}
use Rattle.interpolation.proofs.PointLaws.{party_is}
use Rattle.records.specs.Bytes.{sender}
use Rattle.verification.specs.Tests.{holder_of}
use Rattle.verification.proofs.Kept.holder_of.Goals as goal

pub returns : goal.returns
unfolding holder_of
returns c =
    let x : c.point-x.result ≡ party (sender c.args.bytes.now) = c.point-x.ensures ∙ sym (party_is _) ∙ ap party c.byte.ensures in
    rw (c.key_at-key.ensures, c.weights-slots.ensures, c.weights-points.ensures, c.slot_points.ensures, c.committed_points.ensures, c.quorum.ensures.0, x) refl
