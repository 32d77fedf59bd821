-- The laws of a constant factor's doublings.
--
--   doublings_at       what stands at a place
--   doublings_short    doublings end with the degree
--   first_doubling, next_doubling    the symbol itself; x times the one before
--   eight_doublings    eight numbers that are the doublings
-- Assumes nothing.
use mathlib.Core.Path.{◌≡◌, refl, sym, ap, ◌∙◌}
use mathlib.Core.List.{[], ◌∷◌}
use Prim.Native.Nat.{ℕ, zero, suc, ◌+◌, ◌^◌, ◌≤◌, ◌<◌}
use native.Mathlib.Nat.{add-zero, add-suc, suc-add}
use native.Mathlib.Decide.{dec_lt}
use native.Mathlib.Omega.{arith}
use lib.ListN.{length, get_or, get_or-eq_default}
use lib.Pow.{pow-lt}
use Rattle.field.specs.Symbols.{times_x, times}
use Rattle.field.specs.Working.Tables.{power}
use Rattle.field.specs.Working.Doublings.{doublings_from}
use Rattle.field.proofs.Products.{Tested, times_assoc, times_below, one_times, x_times, times_high}
use Rattle.field.proofs.Powers.{Generated, power_small}

pub doublings_at : (d c i n k : ℕ) → k < n → get_or (doublings_from d c i n) k 0 ≡ times d (2 ^ (i + k)) c
unfolding doublings_from
doublings_at d c i zero k h = absurd (let z : k < 0 = h in omega arith)
doublings_at d c i (suc n) zero h = ap (λ (x : ℕ). times d (2 ^ x) c) (sym (add-zero i))
doublings_at d c i (suc n) (suc k) h =
    doublings_at d c (suc i) n k (omega arith) ∙ ap (λ (x : ℕ). times d (2 ^ x) c) (suc-add i k ∙ sym (add-suc i k))

length-doublings : (d c i n : ℕ) → length (doublings_from d c i n) ≡ n
unfolding doublings_from
length-doublings d c i zero = refl
length-doublings d c i (suc n) = ap suc (length-doublings d c (suc i) n)

module _ (d : ℕ) (𝓖 : Generated d) (c : ℕ) where
  pub first_doubling : c < 2 ^ d → c ≡ times d (2 ^ 0) c
  first_doubling h = sym (one_times d 𝓖.tested c h)

  pub next_doubling : (i : ℕ) → suc i < d → {v : ℕ} → v ≡ times d (2 ^ i) c → times_x d v ≡ times d (2 ^ suc i) c
  unfolding power
  next_doubling i h e =
      let 𝓣 = 𝓖.tested in
      let small : 2 ^ i < 2 ^ d = pow-lt (let h' : i < d = omega arith in h') in
      let up : times d 2 (2 ^ i) ≡ 2 ^ suc i =
      sym (x_times d 𝓣 (2 ^ i) small) ∙ ap (times_x d) (sym (power_small d 𝓖 i (omega arith))) ∙ power_small d 𝓖 (suc i) h in
      ap (times_x d) e ∙ x_times d 𝓣 (times d (2 ^ i) c) (times_below d 𝓣 (2 ^ i) c) ∙ sym (times_assoc d 𝓣 2 (2 ^ i) c)
      ∙ ap (λ (x : ℕ). times d x c) up

pub eight_doublings : (d c : ℕ) {v0 v1 v2 v3 v4 v5 v6 v7 : ℕ} → v0 ≡ times d (2 ^ 0) c → v1 ≡ times d (2 ^ 1) c
    → v2 ≡ times d (2 ^ 2) c → v3 ≡ times d (2 ^ 3) c → v4 ≡ times d (2 ^ 4) c → v5 ≡ times d (2 ^ 5) c → v6 ≡ times d (2 ^ 6) c
    → v7 ≡ times d (2 ^ 7) c → (v0 ∷ v1 ∷ v2 ∷ v3 ∷ v4 ∷ v5 ∷ v6 ∷ v7 ∷ []) ≡ doublings_from d c 0 8
unfolding doublings_from
eight_doublings d c e0 e1 e2 e3 e4 e5 e6 e7 = rw (e0, e1, e2, e3, e4, e5, e6, e7)

pub doublings_short : (d : ℕ) → Tested d → (c : ℕ) → d ≤ 4 → (k : ℕ) → get_or (doublings_from d c 0 8) (4 + k) 0 ≡ 0
doublings_short d 𝓣 c h k = by (dec_lt k 4)
  where
    by : Dec (k < 4) → get_or (doublings_from d c 0 8) (4 + k) 0 ≡ 0
    by (yes lt) = doublings_at d c 0 8 (4 + k) (omega arith) ∙ times_high d 𝓣 (0 + (4 + k)) c (omega arith)
    by (no ge) = get_or-eq_default (doublings_from d c 0 8) 0 (omega (arith, length-doublings d c 0 8))
