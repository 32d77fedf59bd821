-- The powers of a row, written one after the other.
--
--   Raised d s z l₀ l p at i    of s powers of the row z, i are at the front of l, and p begins with the next
--   raised-first, raised_next, raised_all    before the first; one more; all of them
--   power_symbols                p begins with symbols
-- Assumes nothing.
use mathlib.Core.Path.{◌≡◌, refl, sym, ap, ap₂, ◌∙◌}
use mathlib.Core.List.{List, ◌++◌, flat_map}
use mathlib.Core.Bool.{false}
use Prim.Native.Nat.{ℕ, suc, ◌+◌, ◌-◌, ◌*◌, ◌≤◌, ◌<◌}
use native.Mathlib.Nat.{suc-mul, zero-add}
use native.Mathlib.Numerals.{add-one}
use native.Mathlib.Omega.{arith}
use lib.ListN.{length, get_or, take}
use lib.Seq.{ext_get_or, get_or-take, length-take-le}
use Rattle.patch.specs.Parts.{lay}
use Rattle.patch.proofs.Laws.{length-patch, get_or-patch_front}
use Rattle.patch.proofs.Parts.{length-lay, lay_none, lay_behind, take-lay}
use Rattle.refusal.specs.Refusal.{bad_degree}
use Rattle.field.specs.Symbols.{IsSymbol, times, raised}
use Rattle.field.specs.Arithmetic.{gf}
use Rattle.field.proofs.Laws.{Field}
use Rattle.field.proofs.Instance.{field}
use Rattle.field.proofs.Sums.{plus-zero}
use Rattle.lists.specs.Working.Lists.{SymbolsAt, multiplied, multiplied_at}
use Rattle.codes.proofs.Parts.{all-at}
use Rattle.codes.specs.Code.{up_from}
use Rattle.power_checks.specs.Powers.{power_row, power_rows}
use Rattle.powers.specs.Working.{power_rows_from, Raising}
use Rattle.powers.proofs.Rows.{length_row, get_or_row, row_in, row_one, length-rows}

pub record Raised (d s : ℕ) (z l₀ l p : List ℕ) (at i : ℕ) : Type 0 where
  pub within : i ≤ s
  pub place : at + (s - i) * length z ≡ s * length z
  pub same : length l ≡ length l₀
  pub long : length p ≡ 96
  pub power : take (length z) p ≡ power_row d (suc i) z
  pub so_far_lem : lay at (power_rows_from d (suc i) (s - i) z) l ≡ lay 0 (power_rows d s z) l₀

-- the first of the powers, and the others
one_more : (d i m : ℕ) (z : List ℕ) {j : ℕ} → i ≡ j → power_row d i z ++ power_rows_from d (suc j) m z ≡ power_rows_from d i (suc m) z
unfolding up_from flat_map
one_more d i m z e = ap (λ (j : ℕ). power_row d i z ++ power_rows_from d (suc j) m z) (sym e)

module _ {d s : ℕ} (good : bad_degree d ≡ false) {z l₀ : List ℕ} (g : Raising d s z l₀) where
  abbrev n : ℕ
  n = length z

  𝓕 : Field (gf d)
  𝓕 = field d good

  pub raised-first : (p₀ : List ℕ) {p : List ℕ} → length p₀ ≡ 96 → p ≡ lay 0 z p₀ → Raised d s z l₀ l₀ p 0 0
  raised-first p₀ {p} long is =
      let all : s - 0 ≡ s = omega arith in
      record {
        within = omega arith;
        place = rw all (omega arith);
        same = refl;
        long = ap length is ∙ length-lay 0 z p₀ ∙ long;
        power = take-lay z p₀ is refl (omega (arith, g.most)) ∙ sym (row_one d 𝓕 z g.symbols);
        so_far_lem = rw all refl;
      }

  pub power_symbols : {l p : List ℕ} {at i : ℕ} → Raised d s z l₀ l p at i → SymbolsAt d p 0 n
  power_symbols {p = p} {i = i} h j q = rw (zero-add j, ← get_or-take n p j 0 q, h.power)
      (all-at (IsSymbol d) (power_row d (suc i) z) j 0 (omega (arith, length_row d (suc i) z)) (row_in d 𝓕 (suc i) z))

  module _ {l p : List ℕ} {at i : ℕ} (h : Raised d s z l₀ l p at i) (more : i < s) where
    left : s - i ≡ suc (s - (i + 1))
    left = omega arith

    next_power : {p' : List ℕ} → p' ≡ multiplied_at d z 0 p 0 0 → take n p' ≡ power_row d (suc (i + 1)) z
    unfolding multiplied raised
    next_power {p'} is =
        let size : length p' ≡ 96 = ap length is ∙ length-patch 0 (multiplied d z 0 p 0 0) p n ∙ h.long in
        let front : length (take n p') ≡ n = length-take-le n p' (omega (arith, g.most)) in
        ext_get_or 0 (take n p') (power_row d (suc (i + 1)) z) (front ∙ sym (length_row d (suc (i + 1)) z)) (λ j q.
        let q' : j < n = omega arith in
        get_or-patch_front n (multiplied d z 0 p 0 0) p is (omega (arith, h.long, g.most)) j 0 q'
        ∙ ap₂ (times d) (plus-zero (get_or z j 0)) (plus-zero (get_or p (0 + j) 0) ∙ ap (λ (m : ℕ). get_or p m 0) (zero-add j)
        ∙ sym (get_or-take n p j 0 q') ∙ ap (λ (r : List ℕ). get_or r j 0) h.power ∙ get_or_row d (suc i) z j q')
        ∙ ap (λ (m : ℕ). times d (get_or z j 0) (raised d (get_or z j 0) m)) (sym (add-one i))
        ∙ sym (get_or_row d (suc (i + 1)) z j q'))

    pub raised_next : {l' p' : List ℕ} → l' ≡ lay at (take n p) l → p' ≡ multiplied_at d z 0 p 0 0 → Raised d s z l₀ l' p' (at + n) (i + 1)
    raised_next {l'} {p'} is next = record {
      within = omega arith;
      place = omega (arith, h.place, ap (λ (m : ℕ). m * n) left, suc-mul (s - (i + 1)) n);
      same = ap length is ∙ length-lay at (take n p) l ∙ h.same;
      long = ap length next ∙ length-patch 0 (multiplied d z 0 p 0 0) p n ∙ h.long;
      power = next_power next;
      so_far_lem = behind ∙ h.so_far_lem;
    }
      where
        rest : List ℕ
        rest = power_rows_from d (suc (i + 1)) (s - (i + 1)) z

        rows : power_row d (suc i) z ++ rest ≡ power_rows_from d (suc i) (s - i) z
        rows = one_more d (suc i) (s - (i + 1)) z (sym (add-one i)) ∙ ap (λ (m : ℕ). power_rows_from d (suc i) m z) (sym left)

        behind : lay (at + n) rest l' ≡ lay at (power_rows_from d (suc i) (s - i) z) l
        behind = lay_behind at (power_row d (suc i) z) rest l (length_row d (suc i) z) (is ∙ ap (λ (r : List ℕ). lay at r l) h.power)
            (omega (arith, ap length rows, length-rows d (suc i) (s - i) z, h.place, h.same, g.room))
            ∙ ap (λ (r : List ℕ). lay at r l) rows

pub raised_all : {d s : ℕ} {z l₀ l p : List ℕ} {at i : ℕ} → Raised d s z l₀ l p at i → ¬ (i < s) → l ≡ lay 0 (power_rows d s z) l₀
unfolding up_from flat_map
raised_all {d} {s} {z} {l = l} {at = at} {i = i} h done =
    let none : s - i ≡ 0 = omega (arith, h.within) in
    sym (lay_none at l) ∙ ap (λ (m : ℕ). lay at (power_rows_from d (suc i) m z) l) (sym none) ∙ h.so_far_lem
