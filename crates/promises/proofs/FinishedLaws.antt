-- At stage 5 a run keeps the φ of its list, shifted, which satisfies the signature equation. Assumes nothing.
-- Before the shift: the numbers that the run keeps and the rows of the list are in another order; both interpolate to a number that satisfies one equation, so it is
-- one number.
use Rattle.std.specs.Prelude.{◌≡◌, ℕ, ◌+◌, ◌-◌, ◌≤◌, ◌<◌}
use Rattle.std.proofs.Math.Path.{sym, ap, ap₂}
use Rattle.std.proofs.Common.{◌∙◌, arith}
use Rattle.std.proofs.Math.Bool.{true}
use mathlib.Core.List.{List, []}
use Rattle.std.proofs.Math.ListN.{length, get_or}
use Rattle.lists.specs.Members.{All, Distinct}
use Rattle.lists.specs.MemberLaws.{all_get_d, all_map, distinct_get_or}
use Rattle.sets.specs.Masks.{has}
use Rattle.sets.proofs.MemberLaws.{Member, members_all, members_distinct}
use Rattle.field.specs.declared.Element.{Element}
use Rattle.field.specs.declared.Scalar.{Scalar}
use Rattle.field.specs.Definitions.{scalar, generator, IsScalar, plus, product, raise}
use Rattle.field.proofs.ScalarLaws.{plus_range}
use Rattle.field.proofs.ElementLaws.{generator_unique, same_is}
use Rattle.interpolation.specs.Definitions.{party}
use Rattle.interpolation.proofs.PointLaws.{scalar_at_range}
use Rattle.parameters.specs.Definitions.{most_parties, quorum, batch}
use Rattle.records.specs.Bytes.{word, sender}
use Rattle.records.specs.Tags.{RE}
use Rattle.protocol.specs.Transcript.{Transcript, passes, nonce, shifted_nonce, response_at}
use Rattle.protocol.specs.Alike.{Alike}
use Rattle.protocol.proofs.AlikeLaws.{batch_same, shifted_same}
use Rattle.protocol.proofs.Signature.{signature}
use Rattle.protocol.proofs.ShiftLaws.{shift_verifies}
use Rattle.run.specs.declared.Run.{Run}
use Rattle.arrays.specs.Arrays.{base, cell}
use Rattle.verification.specs.Definitions.{transcript}
use Rattle.response.specs.Definitions.{responders_of, phi_of, shifted_phi_of}
use Rattle.run.specs.Runs.{transcript_of, kept}
use Rattle.run.specs.Steps.{after}
use Rattle.promises.specs.Lists.{accepted, of_tag, sent_by, record_of, hold, read, phi, shifted_phi}
use Rattle.promises.proofs.ListLaws.{record_of_all, record_of_sender}
use Rattle.promises.proofs.InvariantLaws.{PassingRow, Live, begun_gone, live_bounds}
use Rattle.promises.specs.Places.{Within}
use Rattle.promises.proofs.PlaceLaws.{within_same, cell_lt, cell_u, cell_k}
use Rattle.promises.proofs.MadeLaws.{made_live, made_sound, made_hold, made_alike}

-- ---- the signature equation

-- its right side before the shift, R(u,k) × S^e(u,k), and with R(u,k) shifted
abbrev right_side : Transcript → ℕ → ℕ → Element
right_side w u k = product (nonce w u k) (raise (w.key 0) (w.challenge u k))

abbrev shifted_side : Transcript → ℕ → ℕ → Element
shifted_side w u k = product (shifted_nonce w u k) (raise (w.key 0) (w.challenge u k))

-- what is alike has one equation
pub equation_same : (w z : Transcript) → Alike w z → (u k : ℕ) → Within w u k → shifted_side w u k ≡ shifted_side z u k
equation_same w z h u k c = ap₂ product (shifted_same w z h u k) (ap₂ raise (h.key_same 0 (omega arith)) (h.challenge_same u k c.u_pos c.u_max c.k_pos c.k_max))

-- the number of a row for u
row_passes_each : (w : Transcript) (holders : ℕ) (s : List ℕ) → PassingRow w holders s → (u : ℕ) → 0 < u → u ≤ batch w.m w.t
    → raise generator (scalar (word s 4 (u - 1))) ≡ response_at w u (party (sender s))
unfolding passes
row_passes_each w holders s h u p l =
    let back : u - 1 + 1 ≡ u = omega arith in
    same_is _ _ (h.passing (u - 1) (omega arith)) ∙ ap (λ (x : ℕ). response_at w x (party (sender s))) back

module _ (l : List (List ℕ)) (e : (after l).stage ≡ 5) where
  abbrev r : Run
  r = after l

  abbrev w : Transcript
  w = transcript_of (after l)

  abbrev rows : List (List ℕ)
  rows = of_tag RE (accepted l)

  live : Live r (λ g. of_tag g (accepted l))
  live = made_live l (omega arith)

  alike : Alike w (read (accepted l))
  alike = made_alike l (omega arith)

  party_max : r.setup.n ≤ most_parties
  party_max = (live_bounds r _ live).n_max

  -- need rows were accepted, of different members of HOLD
  pub rows_number : length rows ≡ quorum (read (accepted l)).t (read (accepted l)).a
  unfolding transcript_of transcript
  rows_number = sym live.responses.senders.number_is ∙ (live.stage.done e).full ∙ ap₂ quorum alike.t_same alike.a_same

  pub rows_differ : Distinct sender rows
  rows_differ = live.responses.senders.differ

  pub rows_held : All (λ s. hold (accepted l) (sender s) ≡ true) rows
  rows_held = all_map (PassingRow w r.complaints.holders) _ (λ s c. sym (made_hold l (omega arith) (sender s)) ∙ c.held) rows live.rows

  module _ (u k : ℕ) (place : Within (read (accepted l)) u k) where
    within : Within w u k
    within = within_same (read (accepted l)) w (sym (batch_same w (read (accepted l)) alike)) (sym alike.a_same) u k place

    -- u is no more than the b that the run keeps
    kept_batch : u ≤ r.b
    unfolding transcript_of transcript
    kept_batch = omega (arith, within.u_max, (begun_gone live.stage.begun (omega arith)).1)

    -- the rows of the list
    list_verifies : raise generator (phi (accepted l) u k) ≡ right_side w u k
    unfolding phi transcript_of transcript
    list_verifies =
        signature w u (made_sound l (omega arith)) (length rows) (sym live.responses.senders.number_is ∙ (live.stage.done e).full)
        (λ i. sender (get_or rows i [])) (λ i. scalar (word (get_or rows i []) 4 (u - 1)))
        (λ i c. omega (arith, (all_get_d _ rows live.responses.senders.parties [] i c).1, party_max)) (distinct_get_or sender rows rows_differ [])
        (λ i c. row_passes_each w _ _ (all_get_d _ rows live.rows [] i c) u within.u_pos within.u_max) k within.k_pos within.k_max

    -- the kept number of a responder j
    kept_passes : (j : ℕ) → 0 < j → has r.responses.responders j ≡ true → raise generator (get_or r.responses.numbers (base j + (u - 1)) (scalar 0)) ≡ response_at w u (party j)
    unfolding transcript_of transcript
    kept_passes j p c =
        let sent : sent_by j rows ≡ true = sym (live.responses.senders.mask_is j) ∙ c in
        ap (raise generator) (live.responses.slots j (u - 1) p (omega (arith, within.u_pos, kept_batch)) sent)
        ∙ row_passes_each w _ (record_of j rows) (record_of_all j _ rows live.rows sent) u within.u_pos within.u_max
        ∙ ap (λ (x : ℕ). response_at w u (party x)) (record_of_sender j rows sent)

    run_verifies : raise generator (phi_of r.setup.n r.responses u k) ≡ right_side w u k
    unfolding phi_of transcript_of transcript
    run_verifies =
        signature w u (made_sound l (omega arith)) (length (responders_of r.setup.n r.responses)) (sym live.responses.senders.members_are ∙ (live.stage.done e).full)
        (λ i. get_or (responders_of r.setup.n r.responses) i 0) (λ i. get_or r.responses.numbers (base (get_or (responders_of r.setup.n r.responses) i 0) + (u - 1)) (scalar 0))
        (λ i c. omega (arith, responder i c, party_max)) (distinct_get_or (λ (i : ℕ). i) (responders_of r.setup.n r.responses) (members_distinct (has r.responses.responders) 1 r.setup.n) 0)
        (λ i c. kept_passes (get_or (responders_of r.setup.n r.responses) i 0) (responder i c).0 (responder i c).2) k within.k_pos within.k_max
      where
        responder : (i : ℕ) → i < length (responders_of r.setup.n r.responses) → Member (has r.responses.responders) 1 r.setup.n (get_or (responders_of r.setup.n r.responses) i 0)
        responder = all_get_d _ (responders_of r.setup.n r.responses) (members_all (has r.responses.responders) 1 r.setup.n) 0

    list_range : IsScalar (phi (accepted l) u k)
    unfolding phi
    list_range = scalar_at_range _ _ _ _

    run_range : IsScalar (phi_of r.setup.n r.responses u k)
    unfolding phi_of
    run_range = scalar_at_range _ _ _ _

    -- before the shift both are one number
    phi_same : phi_of r.setup.n r.responses u k ≡ phi (accepted l) u k
    phi_same = generator_unique (phi_of r.setup.n r.responses u k) (phi (accepted l) u k) run_range list_range (run_verifies ∙ sym list_verifies)

    -- the run keeps the number of the list
    pub kept_is : kept r u k ≡ shifted_phi (accepted l) u k
    unfolding kept transcript_of transcript shifted_phi shifted_phi_of
    kept_is =
        (live.stage.done e).signatures (cell r.setup.a u k) (cell_lt r.setup.a r.b u k within.u_pos kept_batch within.k_pos within.k_max)
        ∙ ap₂ (shifted_phi_of r.setup.n r.challenges.shift r.responses) (cell_u r.setup.a u k within.u_pos within.k_pos within.k_max) (cell_k r.setup.a u k within.k_pos within.k_max)
        ∙ ap₂ plus phi_same alike.shift_same

    pub phi_range : IsScalar (shifted_phi (accepted l) u k)
    unfolding shifted_phi
    phi_range = plus_range (phi (accepted l) u k) (read (accepted l)).shift

    -- the equation, in what the list has
    pub phi_verifies : raise generator (shifted_phi (accepted l) u k) ≡ shifted_side (read (accepted l)) u k
    unfolding shifted_phi
    phi_verifies =
        ap (λ (d : Scalar). raise generator (plus (phi (accepted l) u k) d)) (sym alike.shift_same)
        ∙ shift_verifies w u k (phi (accepted l) u k) _ list_verifies
        ∙ equation_same w (read (accepted l)) alike u k within
