-- What a test that fails shows.
--
--   degrees       a degree that is not bad is 2, 4 or 8
--   up_to_eight, positive    so it is at most 8, and not 0
--   field_size    and the field has at most 256 symbols
--   within, each_within    a number that is not outside lo to hi is lo to hi; each number of a list
--   inside, each_inside    a symbol that is not outside the field is below 2 ^ d; each symbol of a list
-- Assumes nothing.
use mathlib.Core.Path.{◌≡◌, refl}
use mathlib.Core.Logic.{◌⊎◌, inl, inr, ⊎_elim}
use mathlib.Core.Bool.{Bool, true, false, ◌||◌}
use mathlib.Core.List.{List, [], ◌∷◌}
use Prim.Native.Nat.{ℕ, zero, suc, ◌^◌, ◌≤◌, ◌<◌}
use native.Mathlib.Decide.{ℕ_discrete}
use native.Mathlib.Omega.{arith}
use lib.ListN.{length, get_or}
use lib.Pow.{pow_mono}
use borrow.Author.Tests.{ne_eqb, leb-false, ltb-false}
use Rattle.refusal.specs.Refusal.{bad_degree, outside, some_outside, outside_field, some_outside_field}

no_other : (d : ℕ) → bad_degree d ≡ false → (d ≡ 2 → ⊥) → (d ≡ 4 → ⊥) → (d ≡ 8 → ⊥) → ⊥
unfolding bad_degree
no_other d h a b c =
    let e : true ≡ false = simp (ne_eqb d 2 a, ne_eqb d 4 b, ne_eqb d 8 c) at h in
    let z : ◌≡◌ {A = ℕ} 0 1 = cc in
    omega arith

pub degrees : (d : ℕ) → bad_degree d ≡ false → (d ≡ 2) ⊎ ((d ≡ 4) ⊎ (d ≡ 8))
degrees d h = go (ℕ_discrete d 2) (ℕ_discrete d 4) (ℕ_discrete d 8)
  where
    go : Dec (d ≡ 2) → Dec (d ≡ 4) → Dec (d ≡ 8) → (d ≡ 2) ⊎ ((d ≡ 4) ⊎ (d ≡ 8))
    go (yes a) b c = inl a
    go (no a) (yes b) c = inr (inl b)
    go (no a) (no b) (yes c) = inr (inr c)
    go (no a) (no b) (no c) = absurd (no_other d h a b c)

pub up_to_eight : (d : ℕ) → bad_degree d ≡ false → d ≤ 8
up_to_eight d h = ⊎_elim (λ e. omega arith) (⊎_elim (λ e. omega arith) (λ e. omega arith)) (degrees d h)

pub positive : (d : ℕ) → bad_degree d ≡ false → 0 < d
positive d h = ⊎_elim (λ e. omega arith) (⊎_elim (λ e. omega arith) (λ e. omega arith)) (degrees d h)

pub field_size : (d : ℕ) → bad_degree d ≡ false → 2 ^ d ≤ 256
field_size d h = pow_mono (up_to_eight d h)

pub neither : (a b : Bool) → a || b ≡ false → (a ≡ false) × (b ≡ false)
neither true b h = let z : ◌≡◌ {A = ℕ} 0 1 = cc in absurd (omega arith)
neither false b h = (refl, h)

pub within : (lo hi n : ℕ) → outside lo hi n ≡ false → (lo ≤ n) × (n ≤ hi)
unfolding outside
within lo hi n h = let both = neither _ _ h in (ltb-false n lo both.0, ltb-false hi n both.1)

pub each_within : (lo hi : ℕ) (ks : List ℕ) → some_outside lo hi ks ≡ false
    → (i : ℕ) → i < length ks → (lo ≤ get_or ks i 0) × (get_or ks i 0 ≤ hi)
unfolding some_outside
each_within lo hi [] h i l = absurd (omega arith)
each_within lo hi (k ∷ ks) h zero l = within lo hi k (neither _ (some_outside lo hi ks) h).0
each_within lo hi (k ∷ ks) h (suc i) l = each_within lo hi ks (neither (outside lo hi k) (some_outside lo hi ks) h).1 i (omega arith)

pub inside : (d a : ℕ) → outside_field d a ≡ false → a < 2 ^ d
unfolding outside_field
inside d a h = leb-false (2 ^ d) a h

pub each_inside : (d : ℕ) (l : List ℕ) → some_outside_field d l ≡ false → (i : ℕ) → i < length l → get_or l i 0 < 2 ^ d
unfolding some_outside_field
each_inside d [] h i b = absurd (omega arith)
each_inside d (a ∷ l) h zero b = inside d a (neither _ (some_outside_field d l) h).0
each_inside d (a ∷ l) h (suc i) b = each_inside d l (neither (outside_field d a) (some_outside_field d l) h).1 i (omega arith)
