-- The ring of an array from its last row to its first, by Horner's rule in y at all points at once.
--
--   above q ys a j i     at the point of place i, the value of what row j and the rows behind it give
--   Raised q ys a s j    s has these values times y
--   raised_none          before the first row they are zero
--   Added q ys a s j, added    s has the values themselves: so it is when row j is added
--   added_in, ordinates_in    these are symbols, and so are the y
--   raised               multiplied by y they are raised again
--   added_whole          from row 0 on they are the ring
-- Assumes nothing.
use mathlib.Core.Path.{◌≡◌, refl, sym, ap, ap₂, ◌∙◌}
use mathlib.Core.List.{List, [], ◌∷◌}
use Prim.Native.Nat.{ℕ, zero, suc, ◌+◌, ◌*◌, ◌/◌, ◌%◌, ◌<◌}
use native.Mathlib.Nat.{zero-add, mod-lt, div-add-mod', div-lt_iff_lt-mul}
use native.Mathlib.Omega.{arith}
use lib.ListN.{length, get_or, drop, replicate}
use lib.Seq.{drop-cons, ext_get_or}
use Rattle.std.proofs.lemmas.List.{length-replicate, get_or-replicate}
use Rattle.patch.specs.Patch.{patch}
use Rattle.patch.specs.Parts.{part}
use Rattle.patch.proofs.Laws.{length-patch, get_or-patch}
use Rattle.patch.proofs.Parts.{get_d_part}
use Rattle.field.specs.Symbols.{IsSymbol, plus, times}
use Rattle.field.specs.Arithmetic.{gf}
use Rattle.field.proofs.Laws.{Field}
use Rattle.lists.specs.Working.Lists.{multiplied, multiplied_at, SymbolsAt}
use Rattle.poly.specs.Poly.{value, values_at}
use Rattle.poly.proofs.Ring.{plus-zero, plus_comm, times_zero}
use Rattle.poly.proofs.Values.{value_in}
use Rattle.rows.proofs.Symbols.{symbols_whole}
use Rattle.codes.proofs.Parts.{all_drop}
use Rattle.hermitian.specs.Ring.{sector, column, ring_of}
use Rattle.ring.specs.Working.{SectorsGiven, column_added, row_added}
use Rattle.ring_checks.proofs.Ordinates.{all_y}
use Rattle.hermitian.proofs.Numbers.{all_flat, map_at, length-column, column_at, part_flat}
use Rattle.hermitian.proofs.Sizes.{sides, sectors}
use Rattle.hermitian.proofs.Rings.{ring_field, symbols_column, sector_ring, is_ring}

unfoldable pub above : ℕ → List ℕ → List ℕ → ℕ → ℕ → ℕ
above q ys a j i = value (gf q) (drop j (column q (q * q) a (i / q))) (get_or ys i 0)

pub record Raised (q : ℕ) (ys a s : List ℕ) (j : ℕ) : Type 0 where
  pub long : length s ≡ q * q * q
  pub holds : (i : ℕ) → i < q * q * q → get_or s i 0 ≡ times q (get_or ys i 0) (above q ys a j i)

pub record Added (q : ℕ) (ys a s : List ℕ) (j : ℕ) : Type 0 where
  pub long : length s ≡ q * q * q
  pub holds : (i : ℕ) → i < q * q * q → get_or s i 0 ≡ above q ys a j i

-- what stands in a list that was written from end to end
written : (f : ℕ → ℕ) (l : List ℕ) {n : ℕ} {s : List ℕ} → s ≡ patch 0 n f l → length l ≡ n → (i : ℕ) → i < n → get_or s i 0 ≡ f i
written f l {n} {s} is e i h =
    ap (λ (k : ℕ). get_or s k 0) (sym (zero-add i)) ∙ rw is (get_or-patch 0 f l n i 0 h (omega arith))

drop_all : (n : ℕ) (l : List ℕ) → length l ≡ n → drop n l ≡ []
drop_all zero [] e = refl
drop_all zero (x ∷ l) e = absurd (omega arith)
drop_all (suc n) [] e = refl
drop_all (suc n) (x ∷ l) e = drop_all n l (omega arith)

-- what stands at a place, from the part that it lies in
in-part : (r i : ℕ) (l : List ℕ) {v : List ℕ} → 0 < r → part (i / r * r) r l ≡ v → get_or l i 0 ≡ get_or v (i % r) 0
in-part r i l some is =
    ap (λ (k : ℕ). get_or l k 0) (sym (div-add-mod' i r)) ∙ sym (get_d_part (i / r * r) r l (i % r) (mod-lt i some))
    ∙ ap (λ (u : List ℕ). get_or u (i % r) 0) is

module _ (q : ℕ) (ys a : List ℕ) where
  above_end : (i : ℕ) → above q ys a q i ≡ 0
  unfolding above value
  above_end i = rw (drop_all q (column q (q * q) a (i / q)) (length-column q (q * q) a (i / q))) refl

  above_cons : (j i : ℕ) → j < q
      → above q ys a j i ≡ plus (get_or a (j * (q * q) + i / q) 0) (times q (get_or ys i 0) (above q ys a (suc j) i))
  unfolding above value
  above_cons j i h =
      rw (drop-cons (column q (q * q) a (i / q)) j 0 (omega (arith, length-column q (q * q) a (i / q))), column_at q (q * q) a (i / q) j h)
      refl

module _ {q : ℕ} {ys a l : List ℕ} (g : SectorsGiven q ys a l) where
  𝓕 : Field (gf q)
  𝓕 = ring_field q g.size

  count : length ys ≡ q * q * q
  count = all_y q g.size g.ordinates

  pub raised_none : {s : List ℕ} → length l ≡ q * q * q → s ≡ replicate (length l) 0 → Raised q ys a s q
  raised_none e is = record {
    long = ap length is ∙ length-replicate (length l) 0 ∙ e;
    holds = λ i h. ap (λ (k : List ℕ). get_or k i 0) is ∙ get_or-replicate (length l) i 0 0 (omega arith)
        ∙ sym (rw (above_end q ys a i) (times_zero (gf q) 𝓕 (get_or ys i 0)));
  }

  pub added : (j : ℕ) {at : ℕ} {s t : List ℕ} → j < q → at ≡ j * (q * q) → Raised q ys a s (suc j) → t ≡ row_added q a at s
      → Added q ys a t j
  unfolding column_added
  added j {at} {s} h e r is = record {
    long = ap length is ∙ length-patch 0 (column_added q a at s) s (length s) ∙ r.long;
    holds = λ i k. written (column_added q a at s) s is refl i (omega (arith, r.long))
        ∙ rw (r.holds i k, e) (plus_comm (gf q) 𝓕 _ _) ∙ sym (above_cons q ys a j i h);
  }

  pub added_in : {j : ℕ} {s : List ℕ} → Added q ys a s j → SymbolsAt q s 0 (length ys)
  unfolding above
  added_in {j} r i k = rw (zero-add i, r.holds i (omega (arith, count)))
      (value_in (gf q) 𝓕 _ _ (all_drop (IsSymbol q) j _ (symbols_column q q (q * q) a (i / q) g.ring.symbols)))

  pub ordinates_in : SymbolsAt q ys 0 (length ys)
  ordinates_in = symbols_whole q ys (rw g.ordinates
      (all_flat (IsSymbol q) (sector q) (q * q) (λ x h. (sectors q g.size x h).points.symbols)))

  pub raised : {j : ℕ} {s t : List ℕ} → Added q ys a s j → t ≡ multiplied_at q ys 0 s 0 0 → Raised q ys a t j
  unfolding multiplied
  raised {j} {s} r is = record {
    long = ap length is ∙ length-patch 0 (multiplied q ys 0 s 0 0) s (length ys) ∙ r.long;
    holds = λ i k. written (multiplied q ys 0 s 0 0) s is (omega (arith, r.long, count)) i (omega (arith, count))
        ∙ rw (zero-add i, r.holds i k) (ap₂ (times q) (plus-zero (gf q) 𝓕 _) (plus-zero (gf q) 𝓕 _));
  }

  pub added_whole : {s : List ℕ} → Added q ys a s 0 → s ≡ ring_of q a
  unfolding above values_at
  added_whole {s} r =
      ext_get_or 0 s (ring_of q a) (r.long ∙ sym (is_ring q g.size g.ring).count) (λ i k. go i (omega (arith, r.long)))
    where
      go : (i : ℕ) → i < q * q * q → get_or s i 0 ≡ get_or (ring_of q a) i 0
      go i k =
          let some : 0 < q = (sides q q g.size refl).some in
          let below : i / q < q * q = (div-lt_iff_lt-mul some).1 k in
          let size : length (sector q (i / q)) ≡ q = (sectors q g.size (i / q) below).size in
          let y : get_or ys i 0 ≡ get_or (sector q (i / q)) (i % q) 0 = in-part q i ys some (ap (part (i / q * q) q) g.ordinates
          ∙ part_flat q (sector q) (q * q) (i / q) (λ x h. (sectors q g.size x h).size) below) in
          r.holds i k ∙ ap (value (gf q) (column q (q * q) a (i / q))) y
          ∙ sym (in-part q i (ring_of q a) some (sector_ring q g.size g.ring (i / q) below)
          ∙ map_at (value (gf q) (column q (q * q) a (i / q))) (sector q (i / q)) (i % q) 0 (omega (arith, mod-lt i some)))
