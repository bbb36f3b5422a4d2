-- The accepted complaint rows (document 01's verdicts, "The run"): what is kept of them, what one more does, and the sets that follow.
use Rattle.std.specs.Prelude.{ℕ, ◌+◌, ◌-◌, not, ◌||◌, List, get_or, set, eqb, ltb}
use Rattle.std.specs.Int.Bits.{bit_or}
use Rattle.algebra.specs.Fold.{fold}
use Rattle.lists.specs.Tests.{pick, all_to, require, or_next}
use Rattle.lists.specs.Stores.{filled}
use Rattle.sets.specs.Masks.{has, insert, minus, count}
use Rattle.parameters.specs.Definitions.{most_parties}
use Rattle.records.specs.Bytes.{sender}
use Rattle.records.specs.Tags.{mask_at}
use Rattle.refusals.specs.Refusals.{complaint_refusal}
use Rattle.dealing.specs.declared.Setup.{Setup}
use Rattle.dealing.specs.declared.Dealings.{Dealings}
use Rattle.dealing.specs.Definitions.{may_blame}
use Rattle.complaint.specs.declared.Complaints.{Complaints}

unfoldable pub no_complaints : Complaints
no_complaints = record { count = 0; holders = 0; masks = filled most_parties 0 }

-- the refusal of a VE at stage 2: 12, then 13, after those from the input
unfoldable pub complaint_number : Setup → Dealings → Complaints → List ℕ → ℕ
complaint_number setup d c s =
    or_next (complaint_refusal setup.n s)
    (require (not (has c.holders (sender s))) 12
    (require (all_to setup.n (λ i. not (has (mask_at setup.n s) (i + 1)) || may_blame d (sender s) (i + 1))) 13 0))

-- the row's mask stands at its sender's number
unfoldable pub with_complaint : ℕ → Complaints → List ℕ → Complaints
with_complaint n c s =
    record { count = c.count + 1; holders = insert c.holders (sender s); masks = set c.masks (sender s - 1) (mask_at n s) }

-- ---- the sets: HOLD is the rows' senders

-- the kept mask of holder j, and an empty one for a party that has none
unfoldable pub mask_by : Complaints → ℕ → ℕ
mask_by c j = pick (has c.holders j) (get_or c.masks (j - 1) 0) 0

-- BAD, as a mask: the dealers whom any kept mask of HOLD blames
unfoldable pub blamed_by : ℕ → Complaints → ℕ
blamed_by n c = fold bit_or 0 n (λ j. mask_by c (j + 1))

-- of a set of dealers those whom none of them blames: QUAL, of all the accepted dealers
unfoldable pub unblamed : ℕ → Complaints → ℕ → ℕ
unblamed n c dealers = minus dealers (blamed_by n c)

-- after n-t accepted the sets are fixed: more than t in BAD, stage 6; otherwise 3
unfoldable pub complaint_stage : Setup → Complaints → ℕ
complaint_stage setup c =
    pick (eqb c.count (setup.n - setup.t)) (pick (ltb setup.t (count setup.n (has (blamed_by setup.n c)))) 6 3) 2
