-- `all_scalars` meets its contract. Assumes nothing.
use Rattle.std.proofs.Common.{◌≡◌, rules, true, false}
use borrow.Author.Tests.{tests}
use Rattle.std.proofs.lemmas.Iterator.{cases_from_all, YieldsList-from_slice}
use Rattle.lists.specs.AllLaws.{all_of}
use Rattle.field.specs.Definitions.{is_scalar}
use Rattle.dealer.proofs.all_scalars.Goals as goal

pub returns : goal.returns
returns c =
    all_of is_scalar 0 c.args.list.now c.all.result
    (cases_from_all _ _ c.all.result (λ x. is_scalar x ≡ true) (λ x. is_scalar x ≡ false) c.all.ensures.ran (YieldsList-from_slice c.args.list.now (cc)) (λ x q k. search (rules, tests)) (λ x q k. search (rules, tests)))
