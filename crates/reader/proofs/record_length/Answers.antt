-- `record_length` meets its contract: each arm is one tag of the definition. Assumes nothing.
use Rattle.std.proofs.Common.{◌≡◌, ◌⊎◌, ⊎_elim, refl, ◌∙◌, sym, ap, arith, rules}
use Rattle.records.specs.Tags.{SU, SX, DE, GO, VE, CH, CS, RE, dealing_length, complaint_length}
use Rattle.reader.specs.Cutting.{some_length, by_batch, length_at}
use Rattle.reader.proofs.TagLaws.{some_there, some_none, by_tag, past_setup, before_setup, no_tag}
use Rattle.reader.proofs.record_length.Goals as goal

pub returns-in-1 : goal.returns-in-1
unfolding length_at
returns-in-1 c =
    let a = c.args in
    let begins : (c.tag.result ≡ 1) ⊎ (c.tag.result ≡ 7) = search rules in
    c.own_length.ensures ∙ sym (ap some_length (⊎_elim (by_tag a.run.now a.rest.now c.tag.ensures SU) (by_tag a.run.now a.rest.now c.tag.ensures SX) begins))

pub returns-in_default : goal.returns-in_default
returns-in_default c =
    let a = c.args in
    let none : a.run.now.stage ≡ 0 = c.if-fresh.true in
    some_none (before_setup a.run.now a.rest.now c.tag.ensures (search rules) (search rules) none)

pub returns-in-2 : goal.returns-in-2
unfolding length_at dealing_length
returns-in-2 c =
    let a = c.args in
    some_there (past_setup a.run.now a.rest.now c.tag.ensures DE c.dealing_length.ensures c.if-fresh.false c.in-2.is refl) (omega arith)

pub returns-in-3 : goal.returns-in-3
unfolding length_at complaint_length
returns-in-3 c =
    let a = c.args in
    some_there (past_setup a.run.now a.rest.now c.tag.ensures VE c.complaint_length.ensures c.if-fresh.false c.in-3.is refl) (omega arith)

pub returns-in-4 : goal.returns-in-4
unfolding length_at
returns-in-4 c =
    let a = c.args in
    c.by_batch.ensures ∙ ap some_length (past_setup a.run.now a.rest.now c.tag.ensures CH (ap (by_batch a.run.now.b) c.challenges_length.ensures) c.if-fresh.false c.in-4.is refl)

pub returns-in-5 : goal.returns-in-5
unfolding length_at
returns-in-5 c =
    let a = c.args in
    c.by_batch-in-5.ensures ∙ ap some_length (past_setup a.run.now a.rest.now c.tag.ensures RE (ap (by_batch a.run.now.b) c.response_length.ensures) c.if-fresh.false c.in-5.is refl)

pub returns-in-6 : goal.returns-in-6
unfolding length_at
returns-in-6 c =
    let a = c.args in
    c.by_batch-in-6.ensures ∙ ap some_length (past_setup a.run.now a.rest.now c.tag.ensures CS (ap (by_batch a.run.now.b) c.shifted_length.ensures) c.if-fresh.false c.in-6.is refl)

pub returns-in-8 : goal.returns-in-8
unfolding length_at
returns-in-8 c =
    let a = c.args in
    some_there (past_setup a.run.now a.rest.now c.tag.ensures GO refl c.if-fresh.false c.in-8.is refl) (omega arith)

pub returns-in_default-2 : goal.returns-in_default-2
returns-in_default-2 c =
    let a = c.args in
    some_none (no_tag a.run.now a.rest.now c.tag.ensures (search rules) (search rules) (search rules) (search rules) (search rules) (search rules) (search rules) (search rules))
