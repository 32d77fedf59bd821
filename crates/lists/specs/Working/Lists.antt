-- What the inner loops write at the place k of their part, and what they ask for.
--
--   summed w l at k             what stands at place k of the part of l from at on, and the k-th of w
--   scaled d c l at k           c times what stands at place k of the part of l from at on
--   added d c w l at k          what stands there, and c times the k-th of w
--   carried d c l at k          what stands there, and c times what stands behind it
--   multiplied d w a l at b k   (w_k + a) times (what stands there + b)
--   summed_at, scaled_at, added_at, carried_at, multiplied_at    l when all of the part is written
--   SymbolsAt d l at n          the part of l from at on has n symbols
--   Multiplying                 what the loop that multiplies asks for
use Rattle.std.specs.Prelude.{ℕ, ◌+◌, ◌^◌, ◌≤◌, ◌<◌, List, length, get_or}
use Rattle.patch.specs.Patch.{patch}
use Rattle.field.specs.Symbols.{plus, times}

unfoldable pub summed : List ℕ → List ℕ → ℕ → ℕ → ℕ
summed w l at k = plus (get_or l (at + k) 0) (get_or w k 0)

unfoldable pub scaled : ℕ → ℕ → List ℕ → ℕ → ℕ → ℕ
scaled d c l at k = times d (get_or l (at + k) 0) c

unfoldable pub added : ℕ → ℕ → List ℕ → List ℕ → ℕ → ℕ → ℕ
added d c w l at k = plus (get_or l (at + k) 0) (times d (get_or w k 0) c)

unfoldable pub carried : ℕ → ℕ → List ℕ → ℕ → ℕ → ℕ
carried d c l at k = plus (get_or l (at + k) 0) (times d (get_or l (at + (k + 1)) 0) c)

unfoldable pub multiplied : ℕ → List ℕ → ℕ → List ℕ → ℕ → ℕ → ℕ → ℕ
multiplied d w a l at b k = times d (plus (get_or w k 0) a) (plus (get_or l (at + k) 0) b)

abbrev pub summed_at : List ℕ → List ℕ → ℕ → List ℕ
summed_at w l at = patch at (length w) (summed w l at) l

abbrev pub scaled_at : ℕ → ℕ → List ℕ → ℕ → ℕ → List ℕ
scaled_at d c l at n = patch at n (scaled d c l at) l

abbrev pub added_at : ℕ → ℕ → List ℕ → List ℕ → ℕ → List ℕ
added_at d c w l at = patch at (length w) (added d c w l at) l

abbrev pub carried_at : ℕ → ℕ → List ℕ → ℕ → ℕ → List ℕ
carried_at d c l at n = patch at n (carried d c l at) l

abbrev pub multiplied_at : ℕ → List ℕ → ℕ → List ℕ → ℕ → ℕ → List ℕ
multiplied_at d w a l at b = patch at (length w) (multiplied d w a l at b) l

abbrev pub SymbolsAt : ℕ → List ℕ → ℕ → ℕ → Type 0
SymbolsAt d l at n = (k : ℕ) → k < n → get_or l (at + k) 0 < 2 ^ d

pub record Multiplying (d : ℕ) (w : List ℕ) (a : ℕ) (l : List ℕ) (at b : ℕ) : Type 0 where
  pub left : a < 2 ^ d
  pub right : b < 2 ^ d
  pub room : at + length w ≤ length l
  pub factors : SymbolsAt d w 0 (length w)
  pub symbols : SymbolsAt d l at (length w)
