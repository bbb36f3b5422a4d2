-- `Run::with_response` meets its contract. Assumes nothing.
use Rattle.std.specs.Prelude.{◌≡◌, true, ◌+◌, eqb}
use Rattle.std.proofs.Common.{refl, ◌∙◌, arith, eq-eqb}
use Rattle.parameters.specs.Definitions.{quorum}
use Rattle.run.specs.RunLaws.{formed_of}
use Rattle.run.specs.Steps.{with_row, after_response}
use Rattle.run.proofs.Run.with_response.Goals as goal

pub with-responses-requires : goal.with-responses-requires
with-responses-requires c =
    let formed = formed_of _ c.requires in
    omega (arith, formed.responses_max, formed.bounds.n_max)

pub returns-then-rows-quorum : goal.returns-then-rows-quorum
unfolding after_response with_row
returns-then-rows-quorum c =
    let r = c.args.self in
    let done : eqb (r.responses.count + 1) (quorum r.setup.t r.setup.a) ≡ true = eq-eqb _ _ (c.if-rows-quorum.true ∙ c.quorum.ensures) in
    c.finish.ensures ∙ rw (done, c.with-responses.ensures) refl
