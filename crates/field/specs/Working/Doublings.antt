-- A constant factor's doublings.
--
--   doublings d c    c, x·c, …, x^7·c; 0 where x^i is no symbol
use Rattle.std.specs.Prelude.{ℕ, zero, suc, ◌^◌, List, [], ◌∷◌}
use Rattle.field.specs.Symbols.{times}

-- n doublings from x^i·c on
unfoldable pub doublings_from : ℕ → ℕ → ℕ → ℕ → List ℕ
doublings_from d c i zero = []
doublings_from d c i (suc n) = times d (2 ^ i) c ∷ doublings_from d c (suc i) n

abbrev pub doublings : ℕ → ℕ → List ℕ
doublings d c = doublings_from d c 0 8
