-- `write_complaint` meets its contract: where nothing is refused the parts of the buffer are those of the record. Assumes nothing.
use Rattle.std.proofs.Common.{◌≡◌, ℕ, ◌+◌, length, sym, arith}
use Rattle.records.specs.Tags.{mask_width, complaint_length}
use Rattle.records.proofs.RecordLaws.{width_max}
use Rattle.run.specs.RunLaws.{formed_of}
use Rattle.run.specs.declared.Run.{Run}
use Rattle.writers.specs.Writers.{complaint_refused, complaint_bytes}
use Rattle.writers.proofs.WriterLaws.{ComplaintFits, complaint_fits}
use Rattle.writers.proofs.write_complaint.Goals as goal

-- what is known where nothing is refused
known : (r : Run) (j size : ℕ) → 0 ≡ complaint_refused r j size → ComplaintFits r j size
known r j size e = complaint_fits r j size (sym e)

room : (r : Run) (j size : ℕ) → 0 ≡ complaint_refused r j size → size ≡ 4 + mask_width r.setup.n
unfolding complaint_length
room r j size e = (known r j size e).exact

pub wrong_dealers-mask-requires : goal.wrong_dealers-mask-requires
wrong_dealers-mask-requires c = (formed_of _ (known _ _ _ c.in_ok-complaint_refused.ensures).formed).bounds.n_max

pub split_at_mut-head-requires : goal.split_at_mut-head-requires
split_at_mut-head-requires c = omega (arith, room _ _ _ c.in_ok-complaint_refused.ensures)

pub put_bytes-requires : goal.put_bytes-requires
put_bytes-requires c = omega (arith, room _ _ _ c.in_ok-complaint_refused.ensures, c.split_at_mut-head.ensures.back_len, width_max c.args.run.setup.n)

pub returns-clause-number : goal.returns-clause-number
returns-clause-number c = c.in_ok-complaint_refused.ensures

pub returns-clause-bytes : goal.returns-clause-bytes
unfolding complaint_bytes
returns-clause-bytes c =
    let width : length c.split_at_mut-head.result.1.now ≡ mask_width c.args.run.setup.n =
    omega (arith, room _ _ _ c.in_ok-complaint_refused.ensures, c.split_at_mut-head.ensures.back_len) in
    rw (c.copy_from_slice.ensures.after, c.put_bytes.ensures, width, c.wrong_dealers-mask.ensures)
