-- The parameters of a committee: n parties, threshold t, packing a (document 01, "Points and weights").
use Rattle.std.specs.Prelude.{ℕ, ◌+◌, ◌*◌, ◌-◌, ◌/◌, Bool, ◌&&◌, leb}

-- the most parties that a committee has
abbrev pub most_parties : ℕ
most_parties = 64

-- the places of one party's values in a flat array, and of all parties' values
abbrev pub stride : ℕ
stride = most_parties

abbrev pub places : ℕ
places = most_parties * stride

-- the places of the challenges, and of the numbers φ(u,k): a is at most half of n
abbrev pub cells : ℕ
cells = places / 2

-- t and a at least 1, n at most 64 (document 02, request 2.2), n at least 3t + 2a - 1
unfoldable pub in_bounds : ℕ → ℕ → ℕ → Bool
in_bounds n t a = leb 1 t && (leb 1 a && (leb n most_parties && leb (3 * t + 2 * a) (n + 1)))

-- the quorum (need, in document 01), d' + 1 with d' = t + 2a - 2: the committed values of a dealing, and the responses that a signature takes
unfoldable pub quorum : ℕ → ℕ → ℕ
quorum t a = t + 2 * a - 1

-- b = m - t with m dealings (document 02, request 2.5): the signatures of a packed slot. With n-t dealings it is n - 2t (document 01)
unfoldable pub batch : ℕ → ℕ → ℕ
batch m t = m - t

-- a party's number
abbrev pub is_party : ℕ → ℕ → Bool
is_party n i = leb 1 i && leb i n
