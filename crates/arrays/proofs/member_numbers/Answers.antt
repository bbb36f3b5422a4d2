-- `member_numbers` meets its contract. Assumes nothing.
use Rattle.std.proofs.Common.{rules, ◌≡◌, ◌∙◌, ap, ℕ, ◌+◌, ◌-◌, ◌*◌, get_or}
use Rattle.sets.specs.Masks.{has, count}
use Rattle.sets.proofs.MemberLaws.{count_bits}
use Rattle.field.specs.declared.Scalar.{Scalar}
use Rattle.field.specs.Definitions.{scalar}
use Rattle.rows.specs.declared.Row.{Row}
use Rattle.rows.proofs.RowLaws.{listed_is}
use Rattle.parameters.specs.Definitions.{stride}
use Rattle.arrays.specs.Arrays.{base, member_numbers, scalars}
use Rattle.arrays.proofs.member_numbers.Goals as goal

pub returns : goal.returns
unfolding member_numbers scalars base
returns c =
    let a = c.args in
    let number : ℕ → Scalar = λ j. get_or a.numbers (base j + (a.u - 1)) (scalar 0) in
    let all =
    c.of_members-row.ensures number
    (λ j l x e.
    let given : x ≡ get_or a.numbers ((j - 1) * stride + c.predecessor.result) (scalar 0) = search rules in
    given ∙ ap (λ (k : ℕ). get_or a.numbers ((j - 1) * stride + k) (scalar 0)) c.predecessor.ensures) in
    ap (λ (r : Row). r.at) (all ∙ listed_is (count a.n (has a.set)) _ (count_bits 64 a.n a.set c.ranges.set.fits))
