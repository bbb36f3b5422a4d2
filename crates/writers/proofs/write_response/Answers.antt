-- `write_response` meets its contract: where nothing is refused the parts of the buffer are those of the record. Assumes nothing.
use Rattle.std.proofs.Common.{◌≡◌, List, ℕ, ◌+◌, ◌*◌, sym, arith}
use Rattle.records.specs.Tags.{response_length}
use Rattle.run.specs.declared.Run.{Run}
use Rattle.writers.specs.Writers.{response_refused, response_bytes}
use Rattle.writers.proofs.WriterLaws.{ResponseFits, response_fits}
use Rattle.writers.proofs.write_response.Goals as goal

-- what is known where nothing is refused
known : (r : Run) (j key : ℕ) (l : List ℕ) (size : ℕ) → 0 ≡ response_refused r j key l size → ResponseFits r j l size
known r j key l size e = response_fits r j key l size (sym e)

room : (r : Run) (j key : ℕ) (l : List ℕ) (size : ℕ) → 0 ≡ response_refused r j key l size → size ≡ 4 + 4 * r.b
unfolding response_length
room r j key l size e = (known r j key l size e).exact

pub split_at_mut-head-requires : goal.split_at_mut-head-requires
split_at_mut-head-requires c = omega (arith, room _ _ _ _ _ c.in_ok-response_refused.ensures)

pub put_responses-requires : goal.put_responses-requires
put_responses-requires c =
    let passed = c.in_ok-response_refused.ensures in
    let fits = known _ _ _ _ _ passed in
    (fits.formed, fits.count, omega (arith, room _ _ _ _ _ passed, c.split_at_mut-head.ensures.back_len))

pub returns-clause-bytes : goal.returns-clause-bytes
unfolding response_bytes
returns-clause-bytes c = rw (c.copy_from_slice.ensures.after, c.put_responses.ensures)
