-- A run, as a loop takes it: the steps that are left decide.
--
--   Left … i leads space    whichever lines the memory held at first, it holds lines now from which the steps from i on lead to
--                           the same end; left_all, left_turn, left_none, at the first step, over a step, behind the last
-- Assumes nothing.
use mathlib.Core.Path.{◌≡◌, refl}
use mathlib.Core.List.{List, []}
use Prim.Native.Nat.{ℕ, ◌+◌, ◌<◌}
use native.Mathlib.Numerals.{add-one}
use native.Mathlib.Decide.{ℕ_discrete}
use native.Mathlib.Omega.{arith}
use lib.ListN.{length, drop, drop_of_length-le}
use lib.Seq.{drop-cons}
use Rattle.field.specs.Arithmetic.{gf}
use Rattle.basis.proofs.Lines.{Line, run}
use Rattle.solver.specs.Working.Held.{HoldsLines}
use Rattle.solver.specs.Working.Solver.{Steps, Runs}

module _ (d : ℕ) (xs : List ℕ) (s : ℕ) (leads₀ space₀ : List ℕ) where
  abbrev pub Left : ℕ → List ℕ → List ℕ → Type 0
  Left i leads space =
      (es : List (Line ℕ)) → HoldsLines d (length xs) s 0 leads₀ space₀ es
      → (fs : List (Line ℕ)) × HoldsLines d (length xs) s i leads space fs
      × (run (gf d) ℕ_discrete s (drop i xs) fs ≡ run (gf d) ℕ_discrete s xs es)

  pub left_all : Left 0 leads₀ space₀
  left_all es h = (es, h, refl)

  pub left_turn : (i : ℕ) (leads space leads' space' : List ℕ) → i < length xs → Left i leads space
      → Steps d xs s i leads space leads' space' → Left (i + 1) leads' space'
  unfolding run
  left_turn i leads space leads' space' lt left steps es h =
      let (fs, held, same) = left es h in
      (_, steps fs held, rw (drop-cons xs i 0 lt, ← (add-one i)) at same)

  pub left_none : (i : ℕ) (leads space : List ℕ) → i ≡ length xs → Left i leads space → Runs d xs s leads₀ space₀ leads space
  unfolding run
  left_none i leads space e left es h =
      let (fs, held, same) = left es h in
      let done : drop i xs ≡ [] = drop_of_length-le xs {i = i} (omega arith) in
      let whole : fs ≡ run (gf d) ℕ_discrete s xs es = rw done at same in
      rw (← whole) (at-end fs held)
    where
      at-end : (fs : List (Line ℕ)) → HoldsLines d (length xs) s i leads space fs → HoldsLines d (length xs) s (length xs) leads space fs
      at-end fs held = rw e at held
