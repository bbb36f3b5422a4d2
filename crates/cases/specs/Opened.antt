-- What the computed logs open: every definition that a page rests on. Assumes nothing.
use Rattle.std.specs.Prelude.{Bool, true}
use mathlib.Core.List.{flatten}
use Rattle.algebra.specs.Fold.{fold}
use Rattle.lists.specs.Tests.{all_to, require, or_next}
use Rattle.lists.specs.Stores.{stored, filled}
use Rattle.sets.specs.Masks.{bit, has, insert, minus, mask_of, members_from}
use Rattle.field.specs.Definitions.{q, P, power_to, power_of, is_scalar, reading_of, read_element, some_element, the_identity, is_element, is_identity, reduced, plus, times, inverse_to, inverse_of, inverse, power, product, raise, same_element, powered}
use Rattle.field.specs.Definitions as F
use Rattle.interpolation.specs.Definitions.{point, factor, weight, scalar_at, element_at, party, slot, committed_point}
use Rattle.parameters.specs.Definitions.{in_bounds, quorum, batch}
use Rattle.records.specs.Bytes.{byte_at, wide_at, number_at, word}
use Rattle.records.specs.Tags.{tag_of, setup_length, dealing_length, mask_width, complaint_length, challenges_length, shifted_length, response_length, shares_from, mask_at}
use Rattle.refusals.specs.Refusals.{setup_refusal, head_refusal, dealing_refusal, mask_fits, complaint_refusal, scalars_refusal, challenges_refusal, shifted_refusal, response_refusal}
use Rattle.protocol.specs.Transcript.{dealing_at, valid_share, coefficient, key_at, combined_at, nonce, shifted_element, shifted_nonce, challenge_at, response_at, passes, exponent, product_over, dealer_factor}
use Rattle.arrays.specs.Arrays.{base, cell}
use Rattle.dealing.specs.Definitions.{no_setup, no_dealings, setup_of, begun_batch, dealing_number, wrong_shares, with_dealing, may_blame, key_in}
use Rattle.complaint.specs.Definitions.{no_complaints, complaint_number, with_complaint, complaint_stage, mask_by, blamed_by, unblamed}
use Rattle.verification.specs.Definitions.{transcript}
use Rattle.response.specs.Definitions.{no_responses, phi_of, shifted_phi_of, response_number, with_response, signatures_of}
use Rattle.challenge.specs.Definitions.{no_challenges, challenges_from, with_challenges, with_shifted}
use Rattle.run.specs.Runs.{no_scalars, begun, fresh, well_formed, stage_of, transcript_of, kept}
use Rattle.answers.specs.Answers.{sets_of, unblamed_of, bad_of, no_sets, kept_sets, shown_sets}
use Rattle.reader.specs.Cutting.{own_length, by_batch, length_at, length_of, whole, cut_from, records_of, run_of}
use Rattle.text.specs.Lines.{decimal_to, decimal, field, fields, line, set_text, set_line}
use Rattle.closing.specs.Closing.{signature_line, signature_lines, set_lines, closing}
use Rattle.reader.specs.Report.{refusal_line, refusal_lines, report_of}
use Rattle.run.specs.Steps.{after_setup, after_dealing, after_go, after_complaint, after_challenges, after_shifted, with_row, finished, after_response, handled, step_of, after_from, after}
use Rattle.stages.specs.Definitions.{taken_at, at_stage, handler_at, dealing_stage, go_number, batch_fits}
use Rattle.dealer.specs.Dealt.{setup_refused}

-- `unfolding opened` opens what this line names
unfoldable pub opened : Bool
unfolding flatten
    fold
    all_to require or_next
    stored filled
    bit has insert minus mask_of members_from
    q P power_to power_of is_scalar reading_of read_element some_element the_identity is_element is_identity reduced plus times inverse_to inverse_of inverse power product raise same_element powered F.minus
    point factor weight scalar_at element_at party slot committed_point
    in_bounds quorum batch
    byte_at wide_at number_at word
    tag_of setup_length dealing_length mask_width complaint_length challenges_length shifted_length response_length shares_from mask_at
    setup_refusal head_refusal dealing_refusal mask_fits complaint_refusal scalars_refusal challenges_refusal shifted_refusal response_refusal
    dealing_at valid_share coefficient key_at combined_at nonce shifted_element shifted_nonce challenge_at response_at passes exponent product_over dealer_factor
    base cell
    no_setup no_dealings setup_of begun_batch dealing_number wrong_shares with_dealing may_blame key_in dealing_stage go_number
    no_complaints complaint_number with_complaint complaint_stage mask_by blamed_by unblamed
    no_challenges challenges_from with_challenges with_shifted no_responses phi_of shifted_phi_of response_number with_response transcript signatures_of
    no_scalars begun fresh batch_fits well_formed stage_of transcript_of kept
    sets_of unblamed_of bad_of no_sets kept_sets shown_sets
    own_length by_batch length_at length_of whole cut_from records_of run_of
    decimal_to decimal field fields line set_text set_line
    signature_line signature_lines set_lines closing
    refusal_line refusal_lines report_of
    after_setup after_dealing after_go after_complaint after_challenges after_shifted with_row finished after_response taken_at at_stage handler_at handled step_of after_from after
    setup_refused
opened = true
