-- The product that is combined from a constant factor's doublings by the bits of a symbol.
--
--   combined r s         the sum of those entries of r at which s has a bit
--   combined_by, added_by, carried_by    what stands at a place combined; what stands there, and the combined symbol of another list,
--                        or the one behind it combined
--   four_combined         four entries so, and what the higher bits gave
--   Short d r            in a field of at most sixteen symbols r has nothing from the fifth entry on
use Rattle.std.specs.Prelude.{◌≡◌, ℕ, zero, suc, ◌+◌, ◌*◌, ◌/◌, ◌%◌, ◌≤◌, List, get_or}
use Rattle.field.specs.Symbols.{plus}

-- the n low bits of s, for the entries of r from i on
unfoldable pub combined_from : List ℕ → ℕ → ℕ → ℕ → ℕ
combined_from r i zero s = 0
combined_from r i (suc n) s = plus (s % 2 * get_or r i 0) (combined_from r (suc i) n (s / 2))

abbrev pub combined : List ℕ → ℕ → ℕ
combined r s = combined_from r 0 8 s

-- what the loops over a part of l write at its place k
abbrev pub combined_by : List ℕ → List ℕ → ℕ → ℕ → ℕ
combined_by r l at k = combined r (get_or l (at + k) 0)

abbrev pub added_by : List ℕ → List ℕ → List ℕ → ℕ → ℕ → ℕ
added_by r w l at k = plus (get_or l (at + k) 0) (combined r (get_or w k 0))

abbrev pub carried_by : List ℕ → List ℕ → ℕ → ℕ → ℕ
carried_by r l at k = plus (get_or l (at + k) 0) (combined r (get_or l (at + (k + 1)) 0))

-- the sum of those of four entries at which s has a bit, and what the higher bits gave
abbrev pub four_combined : ℕ → ℕ → ℕ → ℕ → ℕ → ℕ → ℕ
four_combined r0 r1 r2 r3 s higher =
    plus (s % 2 * r0) (plus (s / 2 % 2 * r1) (plus (s / 2 / 2 % 2 * r2) (plus (s / 2 / 2 / 2 % 2 * r3) higher)))

abbrev pub Short : ℕ → List ℕ → Type 0
Short d r = d ≤ 4 → (k : ℕ) → get_or r (4 + k) 0 ≡ 0
