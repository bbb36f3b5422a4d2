-- `take_record` meets its contract. Assumes nothing.
use Rattle.std.proofs.Common.{◌≡◌, ◌∙◌, ℕ, sym, ap, arith, take, length-take-le}
use Rattle.refusals.specs.Numbers.{number_of}
use Rattle.refusals.proofs.NumberLaws.{refused_number}
use Rattle.run.specs.Steps.{Reply, untaken}
use Rattle.run.specs.RefusalLaws.{untaken_refused}
use Rattle.reader.specs.Turns.{next_record}
use Rattle.reader.proofs.TurnLaws.{next_max}
use Rattle.summary.proofs.take_record.Goals as goal

pub slice_bounds-record-end : goal.slice_bounds-record-end
slice_bounds-record-end c =
    let a = c.args in
    sym (length-take-le c.next_length-length.result a.rest.now (omega (arith, c.next_length-length.ensures, next_max a.run.now a.rest.now)))

-- refused by tag and stage
pub returns-else-taken-clause-run : goal.returns-else-taken-clause-run
returns-else-taken-clause-run c =
    let r = c.args.run.now in
    let s = c.args.rest.now in
    let asked : number_of c.untaken.result ≡ untaken r (next_record r s) = c.untaken.ensures ∙ ap (λ (n : ℕ). untaken r (take n s)) c.next_length-length.ensures in
    let refuses = refused_number c.untaken.result (sym c.is_ok-taken.ensures.value ∙ c.if-taken.false) in
    sym (ap (λ (y : Reply). y.run) (untaken_refused r (next_record r s) (λ e. refuses (asked ∙ e))))
