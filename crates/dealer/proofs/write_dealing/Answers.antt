-- `write_dealing` meets its contract: where nothing is refused the parts of the buffer are those of the record. Assumes nothing.
use Rattle.std.proofs.Common.{◌≡◌, List, ℕ, ◌+◌, ◌*◌, sym, arith}
use Rattle.parameters.specs.Definitions.{quorum}
use Rattle.parameters.specs.ParameterLaws.{bounds_test}
use Rattle.records.specs.Tags.{dealing_length}
use Rattle.dealer.specs.Dealt.{dealing_refused, dealing_bytes}
use Rattle.dealer.proofs.FitLaws.{DealingFits, dealing_fits}
use Rattle.dealer.proofs.write_dealing.Goals as goal

-- what is known where nothing is refused
known : (n t a i : ℕ) (l : List ℕ) (size : ℕ) → 0 ≡ dealing_refused n t a i l size → DealingFits n t a i l size
known n t a i l size e = dealing_fits n t a i l size (sym e)

room : (n t a i : ℕ) (l : List ℕ) (size : ℕ) → 0 ≡ dealing_refused n t a i l size → size ≡ 4 + 4 * quorum t a + 4 * n
unfolding dealing_length
room n t a i l size e = (known n t a i l size e).exact

pub split_at_mut-head-requires : goal.split_at_mut-head-requires
split_at_mut-head-requires c = omega (arith, room _ _ _ _ _ _ c.in_ok-dealing_refused.ensures)

pub split_at_mut-committed-requires : goal.split_at_mut-committed-requires
split_at_mut-committed-requires c =
    let passed = c.in_ok-dealing_refused.ensures in
    omega (arith, room _ _ _ _ _ _ passed, (known _ _ _ _ _ _ passed).count, c.split_at_mut-head.ensures.back_len)

pub put_shares-requires : goal.put_shares-requires
put_shares-requires c =
    let passed = c.in_ok-dealing_refused.ensures in
    let fits = known _ _ _ _ _ _ passed in
    (bounds_test fits.bounds, fits.count, omega (arith, room _ _ _ _ _ _ passed, fits.count, c.split_at_mut-head.ensures.back_len, c.split_at_mut-committed.ensures.back_len))

pub returns-clause-bytes : goal.returns-clause-bytes
unfolding dealing_bytes
returns-clause-bytes c =
    rw (c.copy_from_slice.ensures.after, c.put_powers.ensures, c.put_shares.ensures, (known _ _ _ _ _ _ c.in_ok-dealing_refused.ensures).count)
