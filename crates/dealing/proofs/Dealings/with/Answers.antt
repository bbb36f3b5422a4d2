-- `Dealings::with` meets its contract. Assumes nothing.
use native.Mathlib.Omega.{arith}
use mathlib.Core.Path.{◌≡◌, ap, ap₂, ◌∙◌}
use Prim.Native.Nat.{ℕ, ◌*◌, ◌-◌}
use lib.ListN.{set}
use Rattle.lists.specs.Stores.{stored}
use Rattle.sets.specs.Masks.{insert}
use Rattle.field.specs.Definitions.{element}
use Rattle.parameters.specs.Definitions.{stride, quorum}
use Rattle.records.specs.Bytes.{word, sender}
use Rattle.parameters.specs.ParameterLaws.{bounds_of}
use Rattle.arrays.specs.Arrays.{base}
use Rattle.dealing.specs.Definitions.{with_dealing, wrong_shares}
use Rattle.dealing.proofs.Dealings.with.Goals as goal
use Rattle.dealing.proofs.Dealings.with.Goals.{then-at-lt-PARTIES, else-at-lt-PARTIES}

pub returns : goal.returns
unfolding with_dealing base
returns c =
    let kept = c.before in
    let loads = kept.before.before in
    let place = loads.before.before.before in
    let start = place.before.before.before.before in
    let a = start.args in
    let s = a.bytes.now in
    let party = place.byte-i.ensures in
    let at : place.predecessor-before.result ≡ sender s - 1 = place.predecessor-before.ensures ∙ ap (λ (i : ℕ). i - 1) party in
    let small = (bounds_of a.setup.n a.setup.t a.setup.a start.requires.0).n_max in
    let dealers = c.insert.ensures ∙ ap (insert a.self.dealers) party in
    let commitments : loads.with_numbers-commitments.result ≡ stored a.self.commitments ((sender s - 1) * stride) (quorum a.setup.t a.setup.a) (λ v. element (word s 4 v)) =
    loads.with_numbers-commitments.ensures ∙ rw (at, loads.quorum.ensures) in
    let wrong : kept.if-at-lt-PARTIES.wrong ≡ set a.self.wrong (sender s - 1) (wrong_shares a.setup s) =
    elim kept.if-at-lt-PARTIES.branch [
      | then-at-lt-PARTIES w ↦
          w.wrong-is ∙ ap₂ (set a.self.wrong) at w.wrong_shares.ensures
      | else-at-lt-PARTIES w ↦
          absurd (omega arith)
    ] in
    rw (dealers, commitments, wrong)
