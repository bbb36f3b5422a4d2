-- A written SU and DE have no refusal from the input, and the shares of a written DE are valid. Assumes nothing.
use Rattle.std.specs.Prelude.{◌≡◌, refl, true, List, [], ◌∷◌, ℕ, zero, suc, ◌+◌, ◌*◌, ◌-◌, ◌≤◌, ◌<◌, get_or}
use Rattle.std.proofs.Math.Path.{ap}
use Rattle.std.proofs.Common.{◌∙◌, arith}
use Rattle.std.proofs.Math.ListN.{length, length-append}
use Rattle.field.specs.Definitions.{scalar, element, generator, same_element, is_element, IsScalar, raise}
use Rattle.field.proofs.ScalarLaws.{scalar_word}
use Rattle.field.proofs.ElementLaws.{generator_element, is_same}
use Rattle.interpolation.specs.Definitions.{party, committed_point}
use Rattle.interpolation.proofs.WeightLaws.{element_at_cong}
use Rattle.interpolation.proofs.PointLaws.{scalar_at_range, raise_scalar_at}
use Rattle.parameters.specs.Definitions.{quorum}
use Rattle.records.specs.Bytes.{byte_at, number_at, word}
use Rattle.records.specs.Tags.{letter_d, letter_e, letter_s, letter_u, setup_length, dealing_length, shares_from}
use Rattle.refusals.specs.Refusals.{setup_refusal, dealing_refusal}
use Rattle.refusals.proofs.RefusalLaws.{setup_passes, dealing_passes}
use Rattle.encoding.specs.Bytes.{four, fours, power_of_four}
use Rattle.encoding.proofs.ByteLaws.{power_lt, power_element, power_other, length_fours, word_fours, word_last, number_at_is}
use Rattle.protocol.specs.Transcript.{dealing_at, valid_share}
use Rattle.dealer.specs.Dealt.{setup_refused, setup_bytes, dealing_refused, share_for, dealing_bytes}
use Rattle.dealer.proofs.FitLaws.{setup_fits, dealing_fits}

-- ---- SU

module _ (n t a s : ℕ) (shares : List ℕ) where
  setup_first : word (setup_bytes n t a s shares) 6 0 ≡ power_of_four s
  unfolding setup_bytes word
  setup_first = number_at_is (letter_s ∷ letter_u ∷ n ∷ t ∷ a ∷ 0 ∷ []) (power_of_four s) (fours t (λ j. power_of_four (get_or shares j 0))) (power_lt s)

  setup_next : (j : ℕ) → j < t → word (setup_bytes n t a s shares) 6 (suc j) ≡ power_of_four (get_or shares j 0)
  unfolding setup_bytes word
  setup_next j l =
      ap (number_at (setup_bytes n t a s shares)) (omega arith)
      ∙ word_last (letter_s ∷ letter_u ∷ n ∷ t ∷ a ∷ 0 ∷ four (power_of_four s)) t (λ k. power_of_four (get_or shares k 0)) j l (power_lt (get_or shares j 0))

  setup_element : (j : ℕ) → j ≤ t → is_element (word (setup_bytes n t a s shares) 6 j) ≡ true
  setup_element zero l = rw setup_first (power_element s)
  setup_element (suc j) l = rw (setup_next j l) (power_element (get_or shares j 0))

-- a written SU has no refusal from the input
pub setup_unrefused : (n t a s : ℕ) (shares : List ℕ) (room : ℕ) → setup_refused n t a s shares room ≡ 0 → setup_refusal (setup_bytes n t a s shares) ≡ 0
unfolding setup_bytes byte_at setup_length
setup_unrefused n t a s shares room e =
    let fits = setup_fits n t a s shares room e in
    setup_passes (setup_bytes n t a s shares)
    (record {
      bounds = fits.bounds;
      elements = setup_element n t a s shares;
      key = rw (setup_first n t a s shares) (power_other s fits.key fits.key_pos);
      long = omega (arith, length_fours t (λ j. power_of_four (get_or shares j 0)));
      reserved = refl;
    })

-- ---- DE

-- 4^(share for j) is what the committed values come to at j
share_is_valid : (t a : ℕ) (values : List ℕ) (j : ℕ) → valid_share t a (λ v. raise generator (scalar (get_or values v 0))) j (share_for t a values j) ≡ true
unfolding valid_share dealing_at share_for
share_is_valid t a values j =
    is_same _ _ (raise_scalar_at generator generator_element (committed_point a) (quorum t a) (λ v. scalar (get_or values v 0)) (party j))

share_range : (t a : ℕ) (values : List ℕ) (j : ℕ) → IsScalar (share_for t a values j)
unfolding share_for
share_range t a values j = scalar_at_range _ _ _ _

module _ (n t a i : ℕ) (values : List ℕ) where
  dealing_commitment : (v : ℕ) → v < quorum t a → word (dealing_bytes n t a i values) 4 v ≡ power_of_four (get_or values v 0)
  unfolding dealing_bytes
  dealing_commitment v l =
      word_fours (letter_d ∷ letter_e ∷ i ∷ 0 ∷ []) (quorum t a) (λ k. power_of_four (get_or values k 0)) (fours n (λ j. (share_for t a values (j + 1)).0)) v l (power_lt (get_or values v 0))

  dealing_share : (j : ℕ) → j < n → word (dealing_bytes n t a i values) (shares_from t a) j ≡ (share_for t a values (j + 1)).0
  unfolding dealing_bytes shares_from
  dealing_share j l =
      let committed = fours (quorum t a) (λ k. power_of_four (get_or values k 0)) in
      let at : 4 + 4 * quorum t a ≡ length (letter_d ∷ letter_e ∷ i ∷ 0 ∷ committed) = omega (arith, length_fours (quorum t a) (λ k. power_of_four (get_or values k 0))) in
      ap (λ (p : ℕ). word (dealing_bytes n t a i values) p j) at
      ∙ word_last (letter_d ∷ letter_e ∷ i ∷ 0 ∷ committed) n (λ k. (share_for t a values (k + 1)).0) j l (scalar_word _ (share_range t a values (j + 1)))

  dealing_length_is : length (dealing_bytes n t a i values) ≡ dealing_length n t a
  unfolding dealing_bytes dealing_length
  dealing_length_is = simp length-append (omega (arith, length_fours (quorum t a) (λ v. power_of_four (get_or values v 0)), length_fours n (λ j. (share_for t a values (j + 1)).0)))

-- the shares of a dealing that the writer made are valid
pub dealing_valid : (n t a i : ℕ) (values : List ℕ) (j : ℕ) → 0 < j → j ≤ n
    → valid_share t a (λ v. element (word (dealing_bytes n t a i values) 4 v)) j (scalar (word (dealing_bytes n t a i values) (shares_from t a) (j - 1))) ≡ true
unfolding valid_share dealing_at
dealing_valid n t a i values j p l =
    let place : j - 1 + 1 ≡ j = omega arith in
    rw (dealing_share n t a i values (j - 1) (omega arith), place)
    (ap (same_element (raise generator (share_for t a values j)))
    (element_at_cong (committed_point a) (committed_point a) (quorum t a) (λ v. element (word (dealing_bytes n t a i values) 4 v)) (λ v. raise generator (scalar (get_or values v 0))) (party j)
    (λ v h. refl) (λ v h. ap element (dealing_commitment n t a i values v h)))
    ∙ share_is_valid t a values j)

-- and a written DE has none
pub dealing_unrefused : (n t a i : ℕ) (values : List ℕ) (room : ℕ) → dealing_refused n t a i values room ≡ 0 → dealing_refusal n t a (dealing_bytes n t a i values) ≡ 0
unfolding dealing_bytes byte_at
dealing_unrefused n t a i values room e =
    let fits = dealing_fits n t a i values room e in
    dealing_passes n t a (dealing_bytes n t a i values)
    (record {
      sender_pos = fits.party_pos;
      sender_max = fits.party_max;
      elements = λ v l. rw (dealing_commitment n t a i values v l) (power_element (get_or values v 0));
      scalars = λ j l. rw (dealing_share n t a i values j l) (share_range t a values (j + 1));
      long = dealing_length_is n t a i values;
      reserved = refl;
    })
