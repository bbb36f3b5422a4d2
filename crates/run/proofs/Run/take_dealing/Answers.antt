-- `Run::take_dealing` meets its contract. Assumes nothing.
use Rattle.std.proofs.Common.{sym, arith}
use Rattle.lists.specs.TestLaws.{or_next_zero}
use Rattle.parameters.specs.ParameterLaws.{bounds_test}
use Rattle.refusals.proofs.RefusalLaws.{dealing_passed}
use Rattle.dealing.specs.Definitions.{dealing_number}
use Rattle.run.specs.RunLaws.{formed_of}
use Rattle.run.proofs.Run.take_dealing.Goals as goal

pub with-dealings-requires : goal.with-dealings-requires
unfolding dealing_number
with-dealings-requires c =
    let r = c.args.self in
    let formed = formed_of r c.requires in
    let none = (or_next_zero _ _ (sym c.in_ok-refusal.ensures)).0 in (
      bounds_test formed.bounds,
      omega (arith, formed.dealings_max, formed.bounds.n_max),
      (dealing_passed r.setup.n r.setup.t r.setup.a c.args.bytes.now none).sender_max,
    )

pub dealing_stage-requires : goal.dealing_stage-requires
dealing_stage-requires c = omega (arith, (formed_of _ c.requires).bounds.enough)
