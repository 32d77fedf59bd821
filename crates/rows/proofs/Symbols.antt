-- Lists of symbols, place by place.
--
--   symbol_at, symbols_by    what stands at a place of a list of symbols is a symbol; and the other way round
--   symbols_whole            a list of symbols as a part
--   symbols_part             a part that has symbols is a list of them
--   symbol-patch             a patch of symbols leaves symbols at every place
--   symbols_over             a row of symbols laid over symbols
--   symbols_zeros, symbols_held    zeros are symbols; a row of symbols that is held in an array of zeros
-- Assumes nothing.
use mathlib.Core.Path.{◌≡◌}
use mathlib.Core.List.{List, [], ◌∷◌}
use Prim.Native.Nat.{ℕ, zero, suc, ◌+◌, ◌-◌, ◌^◌, ◌≤◌, ◌<◌}
use native.Mathlib.Nat.{zero-add}
use native.Mathlib.Decide.{dec_lt}
use native.Mathlib.Omega.{arith}
use lib.ListN.{length, get_or, replicate, length-replicate}
use lib.Pow.{pow_pos}
use Rattle.patch.specs.Patch.{patch}
use Rattle.patch.specs.Parts.{part, lay}
use Rattle.patch.proofs.Laws.{get_or-patch, get_or-patch_below, get_or-patch_above}
use Rattle.patch.proofs.Parts.{length_part, get_d_part}
use Rattle.field.specs.Symbols.{IsSymbol}
use Rattle.lists.specs.Working.Lists.{SymbolsAt}
use Rattle.poly.specs.Poly.{All}

module _ (d : ℕ) where
  pub symbol_at : (l : List ℕ) (i : ℕ) → All (IsSymbol d) l → i < length l → get_or l i 0 < 2 ^ d
  symbol_at [] i s h = absurd (omega arith)
  symbol_at (a ∷ l) zero s h = s.0
  symbol_at (a ∷ l) (suc i) s h = symbol_at l i s.1 (omega arith)

  pub symbols_by : (l : List ℕ) → ((i : ℕ) → i < length l → get_or l i 0 < 2 ^ d) → All (IsSymbol d) l
  symbols_by [] h = tt
  symbols_by (a ∷ l) h = (h 0 (omega arith), symbols_by l (λ i k. h (suc i) (omega arith)))

  pub symbols_whole : (l : List ℕ) → All (IsSymbol d) l → SymbolsAt d l 0 (length l)
  symbols_whole l s i h = rw zero-add (symbol_at l i s h)

  pub symbols_part : (at n : ℕ) (l : List ℕ) → at + n ≤ length l → SymbolsAt d l at n → All (IsSymbol d) (part at n l)
  symbols_part at n l fits s =
      let size : length (part at n l) ≡ n = length_part at n l fits in
      symbols_by (part at n l) (λ i h. rw (get_d_part at n l i (omega arith)) (s i (omega arith)))

  pub symbol-patch : (at n : ℕ) (f : ℕ → ℕ) (l : List ℕ) {s : List ℕ} → s ≡ patch at n f l → at + n ≤ length l
      → ((k : ℕ) → k < n → f k < 2 ^ d) → (i : ℕ) → get_or l i 0 < 2 ^ d → get_or s i 0 < 2 ^ d
  symbol-patch at n f l {s} is fits each i here = rw is (by (dec_lt i at) (dec_lt i (at + n)))
    where
      by : Dec (i < at) → Dec (i < at + n) → get_or (patch at n f l) i 0 < 2 ^ d
      by (yes h) g = rw (get_or-patch_below at f l n i 0 h) here
      by (no h) (yes g) =
          let e : at + (i - at) ≡ i = omega arith in
          rw (← e, get_or-patch at f l n (i - at) 0 (omega arith) fits) (each (i - at) (omega arith))
      by (no h) (no g) = rw (get_or-patch_above at f l n i 0 (omega arith)) here

  pub symbols_zeros : (n : ℕ) → All (IsSymbol d) (replicate n 0)
  symbols_zeros zero = tt
  symbols_zeros (suc n) = (pow_pos d, symbols_zeros n)

  pub symbols_over : (v l : List ℕ) {m : ℕ} {s : List ℕ} → s ≡ lay 0 v l → length v ≤ length l → m ≤ length l → All (IsSymbol d) v
      → All (IsSymbol d) l → SymbolsAt d s 0 m
  unfolding lay
  symbols_over v l is fits most a b k h =
      symbol-patch 0 (length v) (λ i. get_or v i 0) l is (omega arith) (λ i g. symbol_at v i a g) (0 + k)
      (symbol_at l (0 + k) b (omega arith))

  pub symbols_held : (v : List ℕ) (n : ℕ) {m : ℕ} {s : List ℕ} → s ≡ lay 0 v (replicate n 0) → length v ≤ n → m ≤ n → All (IsSymbol d) v
      → SymbolsAt d s 0 m
  symbols_held v n is fits most a =
      let zeros : List ℕ = replicate n 0 in
      let size : length zeros ≡ n = length-replicate n 0 in
      symbols_over v zeros is (omega arith) (omega arith) a (symbols_zeros n)
