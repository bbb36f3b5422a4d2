-- `write_setup` meets its contract: where nothing is refused the parts of the buffer are those of the record. Assumes nothing.
use Rattle.std.proofs.Common.{◌≡◌, List, ℕ, ◌+◌, ◌*◌, sym, arith}
use Rattle.records.specs.Tags.{setup_length}
use Rattle.dealer.specs.Dealt.{setup_refused, setup_bytes}
use Rattle.dealer.proofs.FitLaws.{SetupFits, setup_fits}
use Rattle.dealer.proofs.write_setup.Goals as goal

-- what is known where nothing is refused
known : (n t a s : ℕ) (l : List ℕ) (size : ℕ) → 0 ≡ setup_refused n t a s l size → SetupFits n t a s l size
known n t a s l size e = setup_fits n t a s l size (sym e)

room : (n t a s : ℕ) (l : List ℕ) (size : ℕ) → 0 ≡ setup_refused n t a s l size → size ≡ 4 * t + 10
unfolding setup_length
room n t a s l size e = (known n t a s l size e).exact

pub split_at_mut-head-requires : goal.split_at_mut-head-requires
split_at_mut-head-requires c = omega (arith, room _ _ _ _ _ _ c.in_ok-setup_refused.ensures)

pub split_at_mut-first-requires : goal.split_at_mut-first-requires
split_at_mut-first-requires c = omega (arith, room _ _ _ _ _ _ c.in_ok-setup_refused.ensures, c.split_at_mut-head.ensures.back_len)

pub put_powers-requires : goal.put_powers-requires
put_powers-requires c =
    let passed = c.in_ok-setup_refused.ensures in
    omega (arith, room _ _ _ _ _ _ passed, (known _ _ _ _ _ _ passed).count, c.split_at_mut-head.ensures.back_len, c.split_at_mut-first.ensures.back_len)

pub returns-clause-bytes : goal.returns-clause-bytes
unfolding setup_bytes
returns-clause-bytes c =
    rw (c.copy_from_slice.ensures.after, c.put.ensures, c.put_powers.ensures, c.pow-key.ensures, (known _ _ _ _ _ _ c.in_ok-setup_refused.ensures).count)
