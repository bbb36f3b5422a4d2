-- HOLD, QUAL and BAD have no bit above bit n - 1, whatever the records: so a mask of 64 bits holds them. Assumes nothing.
use Rattle.std.specs.Prelude.{List, ℕ, ◌+◌, ◌^◌, ◌<◌, leb, Option, Some, None, unwrap_or}
use Rattle.std.proofs.Common.{arith, pow_pos, leb-true}
use Rattle.std.specs.Int.Bits.{bit_or}
use Rattle.algebra.specs.FoldLaws.{fold_keeps}
use Rattle.lists.specs.TestLaws.{pick_case}
use Rattle.sets.proofs.WidthLaws.{union_width, minus_width}
use Rattle.complaint.specs.declared.Complaints.{Complaints}
use Rattle.complaint.specs.Definitions.{mask_by, blamed_by, unblamed}
use Rattle.verification.specs.Definitions.{transcript}
use Rattle.run.specs.Runs.{stage_of, transcript_of}
use Rattle.run.specs.Steps.{after}
use Rattle.answers.specs.declared.Sets.{Sets}
use Rattle.answers.specs.Answers.{bad_of, unblamed_of, no_sets, kept_sets, sets_of, shown_sets}
use Rattle.promises.specs.Lists.{accepted, read}
use Rattle.promises.proofs.MadeLaws.{made_stage, made_live, made_alike}

-- a union of masks of w bits
blamed_width : (n w : ℕ) (c : Complaints) → ((j : ℕ) → mask_by c j < 2 ^ w) → blamed_by n c < 2 ^ w
unfolding blamed_by
blamed_width n w c h = fold_keeps bit_or 0 (λ x. x < 2 ^ w) (pow_pos w) (union_width w) n (λ j l. h (j + 1))

-- After every list of records, and before the sets are fixed too, when they are shown as empty.
pub sets_width : (l : List (List ℕ)) → let z = shown_sets (after l) in
    let n = (read (accepted l)).n in
    (z.hold < 2 ^ n) × (z.qual < 2 ^ n) × (z.bad < 2 ^ n)
unfolding shown_sets sets_of kept_sets no_sets unblamed_of unblamed bad_of transcript_of transcript
sets_width l =
    let r = after l in
    let n = (read (accepted l)).n in
    pick_case (λ (o : Option Sets). let z = unwrap_or o no_sets in (z.hold < 2 ^ n) × (z.qual < 2 ^ n) × (z.bad < 2 ^ n)) (leb 3 (stage_of r)) (Some (kept_sets r)) None
    (λ e.
    let p : 0 < r.stage = omega (arith, leb-true 3 (stage_of r) e, made_stage l) in
    let live = made_live l p in
    rw (← (made_alike l p).n_same)
    (live.complaints.senders.width, minus_width r.setup.n _ _ live.dealings.senders.width, blamed_width r.setup.n r.setup.n r.complaints live.complaints.masks_width))
    (λ e. (pow_pos n, pow_pos n, pow_pos n))
