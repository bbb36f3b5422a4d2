-- `with_values` meets its contract. Assumes nothing.
use Rattle.std.proofs.Common.{rules, ◌≡◌, ◌∙◌, ap, ap₂, arith, List, ℕ, ◌+◌, ◌*◌, ◌-◌, ◌≤◌, length, get_or}
use Rattle.lists.specs.Stores.{stored}
use Rattle.lists.specs.CopyLaws.{copied_stored}
use Rattle.field.specs.declared.Element.{Element}
use Rattle.field.specs.Definitions.{identity}
use Rattle.parameters.specs.Definitions.{stride}
use Rattle.arrays.specs.ArrayLaws.{elements_length}
use Rattle.combination.proofs.with_values.Goals as goal

pub returns : goal.returns
returns c =
    let row : List Element = c.combined_values-row.result in
    let full : length row ≡ stride = ap length c.combined_values-row.ensures ∙ elements_length _ _ in
    let places : length c.args.values ≡ 4096 = search rules in
    let room : c.args.u * 64 + (c.args.u * 64 + 64 - c.args.u * 64) ≤ length c.args.values = omega arith in
    copied_stored c.args.values row (c.args.u * 64) _ identity c.copy_from_slice.ensures.after (omega arith) room
    ∙ ap₂ (λ (k : ℕ) (r : List Element). stored c.args.values (c.args.u * stride) k (λ v. get_or r v identity)) (omega arith) c.combined_values-row.ensures
