-- What the checks 1, 3, 4 and 6 leave true of a code.
--
--   Proper c           its symbols form a field, its points are distinct symbols, its lengths are from 1 to n
--   symbols_test       a list passes check 7 exactly when all of it are symbols
--   lengths_test       lengths pass check 4 exactly when all of them are from 1 to n
--   points_test        points pass check 6 exactly when they are distinct symbols
--   neither            a test of two fails exactly when both fail
--   proper             a code that passes is proper
--   array, message     a list of the right length that passes check 7 is an array, or a message
-- Assumes nothing.
use mathlib.Core.Path.{◌≡◌, refl}
use mathlib.Core.Logic.Iff
use mathlib.Core.Logic.{◌↔◌, ◌⊎◌, inl, inr, ⊎_elim}
use mathlib.Core.Bool.{Bool, true, false, ◌||◌, true≢false}
use mathlib.Core.List.{List, [], ◌∷◌}
use Prim.Native.Nat.{ℕ, ◌*◌, ◌≤◌}
use lib.Dec.{eqb}
use lib.ListN.{length}
use borrow.Author.Tests.{ltb-false, le-ltb, lt-leb, eqb-false, ne_eqb}
use Rattle.field.specs.Symbols.{IsSymbol}
use Rattle.field.specs.Arithmetic.{gf}
use Rattle.field.proofs.Laws.{Field}
use Rattle.poly.specs.Poly.{All}
use Rattle.poly.proofs.Roots.{Mem, Distinct}
use Rattle.refusal.specs.Refusal.{outside, some_outside, outside_field, some_outside_field, is_in, repeated, bad_points}
use Rattle.refusal.proofs.Laws.{inside}
use Rattle.codes.specs.Code.{Code, columns, rows, total, IsMessage, IsArray}

-- 'every k from 1 to n'
abbrev pub Within : ℕ → ℕ → List ℕ → Type 0
Within lo hi ks = All (λ (k : ℕ). (lo ≤ k) × (k ≤ hi)) ks

pub record Proper (c : Code) : Type 0 where
  pub field : Field (gf c.degree)
  pub symbols : All (IsSymbol c.degree) c.points
  pub distinct : Distinct c.points
  pub lengths : Within 1 (columns c) c.lengths

pub neither : (a b : Bool) → ((a || b) ≡ false) ↔ ((a ≡ false) × (b ≡ false))
neither true b = (λ e. absurd (true≢false e), λ h. h.0)
neither false b = (λ e. (refl, e), λ h. h.1)

symbol_test : (d a : ℕ) → (outside_field d a ≡ false) ↔ IsSymbol d a
unfolding outside_field
symbol_test d a = (inside d a, lt-leb _ a)

pub symbols_test : (d : ℕ) (l : List ℕ) → (some_outside_field d l ≡ false) ↔ All (IsSymbol d) l
unfolding some_outside_field
symbols_test d [] = (λ e. tt, λ h. refl)
symbols_test d (a ∷ l) =
    Iff.trans (neither (outside_field d a) (some_outside_field d l)) (Iff.and (symbol_test d a) (symbols_test d l))

length_test : (lo hi k : ℕ) → (outside lo hi k ≡ false) ↔ ((lo ≤ k) × (k ≤ hi))
unfolding outside
length_test lo hi k = Iff.trans (neither _ _) (Iff.and (ltb-false k lo, le-ltb k lo) (ltb-false hi k, le-ltb hi k))

pub lengths_test : (lo hi : ℕ) (ks : List ℕ) → (some_outside lo hi ks ≡ false) ↔ Within lo hi ks
unfolding some_outside
lengths_test lo hi [] = (λ e. tt, λ h. refl)
lengths_test lo hi (k ∷ ks) =
    Iff.trans (neither (outside lo hi k) (some_outside lo hi ks)) (Iff.and (length_test lo hi k) (lengths_test lo hi ks))

not_either : {P Q : Type 0} → (¬ P × ¬ Q) ↔ (¬ (P ⊎ Q))
not_either = (λ h. ⊎_elim h.0 h.1, λ h. (λ p. h (inl p), λ q. h (inr q)))

pub absent_test : (x : ℕ) (xs : List ℕ) → (is_in x xs ≡ false) ↔ (¬ Mem x xs)
unfolding is_in
absent_test x [] = (λ e m. m, λ h. refl)
absent_test x (y ∷ xs) = Iff.trans
    (neither (eqb x y) (is_in x xs))
    (Iff.trans (Iff.and (eqb-false x y, ne_eqb x y) (absent_test x xs)) not_either)

pub distinct_test : (xs : List ℕ) → (repeated xs ≡ false) ↔ Distinct xs
unfolding repeated
distinct_test [] = (λ e. tt, λ h. refl)
distinct_test (x ∷ xs) = Iff.trans (neither (is_in x xs) (repeated xs)) (Iff.and (absent_test x xs) (distinct_test xs))

pub points_test : (d : ℕ) (xs : List ℕ) → (bad_points d xs ≡ false) ↔ (All (IsSymbol d) xs × Distinct xs)
unfolding bad_points
points_test d xs = Iff.trans (neither (some_outside_field d xs) (repeated xs)) (Iff.and (symbols_test d xs) (distinct_test xs))

pub proper : (c : Code) → Field (gf c.degree) → some_outside 1 (columns c) c.lengths ≡ false
    → bad_points c.degree c.points ≡ false → Proper c
proper c 𝓕 k p = record {
  field = 𝓕;
  symbols = ((points_test c.degree c.points).0 p).0;
  distinct = ((points_test c.degree c.points).0 p).1;
  lengths = (lengths_test 1 (columns c) c.lengths).0 k;
}

pub array : (c : Code) (a : List ℕ) → length a ≡ rows c * columns c → some_outside_field c.degree a ≡ false → IsArray c a
array c a l h = record { count = l; symbols = (symbols_test c.degree a).0 h }

pub message : (c : Code) (m : List ℕ) → length m ≡ total c.lengths → some_outside_field c.degree m ≡ false → IsMessage c m
message c m l h = record { count = l; symbols = (symbols_test c.degree m).0 h }
