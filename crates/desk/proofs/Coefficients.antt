-- The coefficients of a row's interpolating polynomial from a place on.
--
--   Nodes d n xs      xs are n distinct points of the field
--   tail_low, tail_high    what stands in k zeros and a polynomial's coefficients from k on
--   one_above         a row has one such list
--   fits_exactly      a row is values of a polynomial with k coefficients exactly when its list is zero
--   zero_above        that of a row of zeros is zeros
--   unit_basis        the polynomial that is 1 at one point and else 0, from the row that is so; basis_polynomial, basis_unit
--   raised_above      a row changed in one column: a multiple of that column's polynomial is added
-- Assumes nothing.
use mathlib.Core.Path.{◌≡◌, refl, sym, ap, ap₂, ◌∙◌, subst}
use mathlib.Core.Logic.{◌↔◌}
use mathlib.Core.List.{List, [], ◌∷◌, ◌++◌}
use Prim.Native.Nat.{ℕ, zero, suc, ◌+◌, ◌-◌, ◌≤◌, ◌<◌}
use native.Mathlib.Decide.{ℕ_discrete, dec_lt}
use native.Mathlib.Omega.{arith}
use lib.ListN.{length, get_or, set, take, drop, replicate, length-append, length-replicate, length-drop, take-append-drop}
use lib.ListN.{length-set, get_or-replicate, get_or-append}
use lib.Seq.{ext_get_or, length-take-le, take-set-lt, drop_at, get_or-append-add, get_or-drop, get_or-set_same, get_or-set_other}
use Rattle.patch.specs.Parts.{lay}
use Rattle.patch.proofs.Parts.{take-lay}
use Rattle.field.specs.Symbols.{IsSymbol, plus, times}
use Rattle.field.specs.Arithmetic.{gf}
use Rattle.field.proofs.Laws.{Field}
use Rattle.poly.specs.Poly.{All, Zero, Poly, value, values_at, add, scale}
use Rattle.poly.proofs.Ring.{plus-zero, times_comm, times_zero, times_one}
use Rattle.poly.proofs.Sums.{poly_add-scale}
use Rattle.poly.proofs.Values.{get_or_values, value-zero, value-append, value-add-scale, length-values}
use Rattle.poly.proofs.Roots.{Distinct, interpolation}
use Rattle.poly.proofs.Forms.{reduce, from_newton}
use Rattle.poly.proofs.Differences.{length_reduce, symbols_reduce}
use Rattle.poly.proofs.Newton.{poly_newton, newton_all}
use Rattle.rows.specs.Working.Rows.{Points}
use Rattle.rows.proofs.Symbols.{symbols_zeros}
use Rattle.codes.proofs.Parts.{take-replicate, all_take, all_drop, all_append, poly_take}
use Rattle.desk.specs.Desk.{Above}
use Rattle.desk.specs.Verdict.{IsRow}
use Rattle.desk.specs.Working.{Basis}
use Rattle.desk.proofs.Columns.{all_set}

all_zeros : (n : ℕ) → All (λ (a : ℕ). a ≡ 0) (replicate n 0)
all_zeros zero = tt
all_zeros (suc n) = (refl, all_zeros n)

-- a list behind k zeros, from its place k on
module _ (k : ℕ) (f : List ℕ) where
  abbrev tail : List ℕ
  tail = replicate k 0 ++ drop k f

  tail_low : (j : ℕ) → j < k → get_or tail j 0 ≡ 0
  tail_low j h = get_or-append (replicate k 0) (drop k f) 0 j (omega (arith, length-replicate {A = ℕ} k 0)) ∙ get_or-replicate k j 0 0 h

  tail_high : (j : ℕ) → k ≤ j → get_or tail j 0 ≡ get_or f j 0
  tail_high j h =
      let e : length {A = ℕ} (replicate k 0) + (j - k) ≡ j = omega (arith, length-replicate {A = ℕ} k 0) in
      let there : k + (j - k) ≡ j = omega arith in
      ap (λ (i : ℕ). get_or tail i 0) (sym e) ∙ get_or-append-add (replicate k 0) (drop k f) (j - k) 0
      ∙ get_or-drop k f (j - k) 0 ∙ ap (λ (i : ℕ). get_or f i 0) there

  length-tail : k ≤ length f → length tail ≡ length f
  length-tail h = omega (arith, length-append (replicate k 0) (drop k f), length-replicate {A = ℕ} k 0, length-drop k f)

-- n distinct points
pub record Nodes (d n : ℕ) (xs : List ℕ) : Type 0 where
  pub field : Field (gf d)
  pub count : length xs ≡ n
  pub distinct : Distinct xs
  pub symbols : All (IsSymbol d) xs

module _ (d : ℕ) (𝓕 : Field (gf d)) where
  values_append : (xs p z : List ℕ) → Zero (gf d) z → values_at (gf d) xs (p ++ z) ≡ values_at (gf d) xs p
  unfolding values_at
  values_append [] p z h = refl
  values_append (x ∷ xs) p z h = ap₂ ◌∷◌ (value-append (gf d) 𝓕 p z x h) (values_append xs p z h)

  get_or-add-scale : (c : ℕ) (f b : List ℕ) → length b ≡ length f → (j : ℕ) → j < length f
      → get_or (add (gf d) f (scale (gf d) c b)) j 0 ≡ plus (get_or f j 0) (times d c (get_or b j 0))
  unfolding add scale
  get_or-add-scale c [] b e j h = absurd (omega arith)
  get_or-add-scale c (a ∷ f) [] e j h = absurd (omega arith)
  get_or-add-scale c (a ∷ f) (x ∷ b) e zero h = refl
  get_or-add-scale c (a ∷ f) (x ∷ b) e (suc j) h = get_or-add-scale c f b (omega arith) j (omega arith)

module _ {d n : ℕ} {xs : List ℕ} (nodes : Nodes d n xs) where
  𝓕 : Field (gf d)
  𝓕 = nodes.field

  same_polynomial : {f g : List ℕ} → Poly (gf d) n f → Poly (gf d) n g → values_at (gf d) xs f ≡ values_at (gf d) xs g → f ≡ g
  same_polynomial p q e = interpolation (gf d) 𝓕 xs nodes.distinct nodes.symbols (omega (arith, nodes.count)) p q e

  pub one_above : (k : ℕ) (ys t t' : List ℕ) → Above d n xs k ys t → Above d n xs k ys t' → t ≡ t'
  one_above k ys t t' (f, p, v, e) (g, q, w, e') = e ∙ ap (tail k) (same_polynomial p q (v ∙ sym w)) ∙ sym e'

  -- k zeros more change no value, and nothing but zeros is lost behind the first k
  pub fits_exactly : (k : ℕ) (ys t : List ℕ) → k ≤ n → Above d n xs k ys t → IsRow d xs k ys ↔ Zero (gf d) t
  fits_exactly k ys t most (f, p, v, e) = (to, from)
    where
      to : IsRow d xs k ys → Zero (gf d) t
      to (g, q, w) =
          let more : List ℕ = replicate (n - k) 0 in
          let padded : Poly (gf d) n (g ++ more) = record {
            count = omega (arith, length-append g more, length-replicate {A = ℕ} (n - k) 0, q.count);
            symbols = all_append (IsSymbol d) g more q.symbols (symbols_zeros d (n - k));
          } in
          let same : f ≡ g ++ more = same_polynomial p padded (v ∙ sym w ∙ sym (values_append d 𝓕 xs g more (all_zeros (n - k)))) in
          subst (Zero (gf d)) (sym (e ∙ ap (tail k) same))
          (all_append (λ (a : ℕ). a ≡ 0) (replicate k 0) (drop k (g ++ more)) (all_zeros k)
          (rw (drop_at g more k q.count) (all_zeros (n - k))))

      from : Zero (gf d) t → IsRow d xs k ys
      from z =
          let zeros : Zero (gf d) (drop k f) =
          rw (drop_at (replicate k 0) (drop k f) k (length-replicate {A = ℕ} k 0)) at
          (all_drop (λ (a : ℕ). a ≡ 0) k (tail k f) (subst (Zero (gf d)) e z)) in (
            take k f,
            poly_take (gf d) k f (omega (arith, p.count)) p.symbols,
            sym (values_append d 𝓕 xs (take k f) (drop k f) zeros) ∙ ap (values_at (gf d) xs) (take-append-drop k f) ∙ v,
          )

  -- a list of n symbols, place by place
  by_place : (a b : List ℕ) → length a ≡ n → length b ≡ n → ((j : ℕ) → j < n → get_or a j 0 ≡ get_or b j 0) → a ≡ b
  by_place a b l m h = ext_get_or 0 a b (l ∙ sym m) (λ j q. h j (omega arith))

  pub zero_above : (k : ℕ) (ys t : List ℕ) → k ≤ n → length ys ≡ n → length t ≡ n → ((j : ℕ) → j < n → get_or ys j 0 ≡ 0)
      → ((j : ℕ) → j < n → get_or t j 0 ≡ 0) → Above d n xs k ys t
  zero_above k ys t most l m y z =
      let f : List ℕ = replicate n 0 in
      let long : length f ≡ n = length-replicate {A = ℕ} n 0 in
      let none : Zero (gf d) f = all_zeros n in (
        f,
        record { count = long; symbols = symbols_zeros d n },
        by_place (values_at (gf d) xs f) ys (length-values (gf d) 𝓕 xs f ∙ nodes.count) l
            (λ j q. get_or_values (gf d) xs f j 0 (omega (arith, nodes.count)) ∙ value-zero (gf d) 𝓕 f (get_or xs j 0) none ∙ sym (y j q)),
        by_place t (tail k f) m (length-tail k f (omega arith) ∙ long) (λ j q. z j q ∙ sym (zero_tail j q (dec_lt j k))),
      )
    where
      zero_tail : (j : ℕ) → j < n → Dec (j < k) → get_or (tail k (replicate n 0)) j 0 ≡ 0
      zero_tail j q (yes h) = tail_low k (replicate n 0) j h
      zero_tail j q (no h) = tail_high k (replicate n 0) j (omega arith) ∙ get_or-replicate n j 0 0 q

  module _ (k : ℕ) (ys t ys' t' b : List ℕ) (i δ : ℕ) (most : k ≤ n) (here : i < n) (own : Above d n xs k ys t)
      (basis : Poly (gf d) n b) (unit : values_at (gf d) xs b ≡ set (replicate n 0) i 1) (change : IsSymbol d δ)
      (count : length ys' ≡ n) (put : get_or ys' i 0 ≡ plus (get_or ys i 0) δ)
      (kept : (j : ℕ) → j < n → (j ≡ i → ⊥) → get_or ys' j 0 ≡ get_or ys j 0) (long : length t' ≡ n)
      (low : (j : ℕ) → j < k → get_or t' j 0 ≡ get_or t j 0)
      (high : (j : ℕ) → k ≤ j → j < n → get_or t' j 0 ≡ plus (get_or t j 0) (times d (get_or b j 0) δ)) where
    pub raised_above : Above d n xs k ys' t'
    raised_above =
        let (f, p, v, e) = own in
        let g : List ℕ = add (gf d) f (scale (gf d) δ b) in
        let q : Poly (gf d) n g = poly_add-scale (gf d) 𝓕 δ b p (omega (arith, basis.count)) in (
          g,
          q,
          by_place (values_at (gf d) xs g) ys' (length-values (gf d) 𝓕 xs g ∙ nodes.count) count
              (λ j h. get_or_values (gf d) xs g j 0 (omega (arith, nodes.count)) ∙ value-add-scale (gf d) 𝓕 f δ b (get_or xs j 0)
              ∙ ap₂ (λ (x y : ℕ). plus x (times d δ y)) (at_point f v j h) (at_point b unit j h) ∙ column j h (ℕ_discrete j i)),
          by_place t' (tail k g) long (length-tail k g (omega (arith, q.count)) ∙ q.count)
              (λ j h. coefficient f p e j h (dec_lt j k)),
        )
      where
        at_point : (f : List ℕ) {ys : List ℕ} → values_at (gf d) xs f ≡ ys → (j : ℕ) → j < n → value (gf d) f (get_or xs j 0) ≡ get_or ys j 0
        at_point f v j h = sym (get_or_values (gf d) xs f j 0 (omega (arith, nodes.count))) ∙ ap (λ (l : List ℕ). get_or l j 0) v

        column : (j : ℕ) → j < n → Dec (j ≡ i) → plus (get_or ys j 0) (times d δ (get_or (set (replicate n 0) i 1) j 0)) ≡ get_or ys' j 0
        column j h (yes e) =
            let zeros : List ℕ = replicate n 0 in
            rw (e, get_or-set_same zeros i 1 0 (omega (arith, length-replicate {A = ℕ} n 0)), times_one (gf d) 𝓕 change) (sym put)
        column j h (no e) =
            let zeros : List ℕ = replicate n 0 in
            let none : get_or zeros j 0 ≡ 0 = get_or-replicate n j 0 0 h in
            rw (get_or-set_other zeros i j 1 0 e, none, times_zero (gf d) 𝓕 δ, plus-zero (gf d) 𝓕 (get_or ys j 0))
            (sym (kept j h e))

        coefficient : (f : List ℕ) → Poly (gf d) n f → t ≡ tail k f → (j : ℕ) → j < n → Dec (j < k)
            → get_or t' j 0 ≡ get_or (tail k (add (gf d) f (scale (gf d) δ b))) j 0
        coefficient f p e j h (yes q) =
            low j q ∙ rw e (tail_low k f j q) ∙ sym (tail_low k (add (gf d) f (scale (gf d) δ b)) j q)
        coefficient f p e j h (no q) =
            high j (omega arith) h
            ∙ ap₂ plus (rw e (tail_high k f j (omega arith))) (times_comm (gf d) 𝓕 (get_or b j 0) δ)
            ∙ sym (get_or-add-scale d 𝓕 δ f b (basis.count ∙ sym p.count) j (omega (arith, p.count)))
            ∙ sym (tail_high k (add (gf d) f (scale (gf d) δ b)) j (omega arith))

-- the polynomial of the row that is 1 in one column and else 0, as it is read
pub unit_basis : {d : ℕ} {xs own : List ℕ} {i : ℕ} → Field (gf d) → Points d xs → length xs ≤ 16 → i < length xs
    → own ≡ (let n = length xs in let unit = set (replicate 16 0) i 1 in
    lay 0 (from_newton (gf d) n xs (reduce (gf d) n xs (take n unit))) (replicate 16 0))
    → Basis d xs i own
unit_basis {d} {xs} {own} {i} laws points few column is =
    let n : ℕ = length xs in
    let zeros : List ℕ = replicate 16 0 in
    let sixteen : length zeros ≡ 16 = length-replicate {A = ℕ} 16 0 in
    let ys : List ℕ = take n (set zeros i 1) in
    let count : length ys ≡ n = length-take-le n (set zeros i 1) (omega (arith, length-set zeros i 1)) in
    let symbols : All (IsSymbol d) ys = all_take (IsSymbol d) n (set zeros i 1)
    (all_set (IsSymbol d) zeros i 1 laws.one_in (symbols_zeros d 16)) in
    let us : List ℕ = reduce (gf d) n xs ys in
    let p : Poly (gf d) n (from_newton (gf d) n xs us) = poly_newton (gf d) laws n xs us (omega arith)
    (omega (arith, length_reduce (gf d) laws n xs ys count)) (symbols_reduce (gf d) laws n xs ys symbols) in
    let front : take n own ≡ from_newton (gf d) n xs us = take-lay (from_newton (gf d) n xs us) zeros is p.count (omega arith) in
    record {
      polynomial = subst (Poly (gf d) n) (sym front) p;
      unit = ap (values_at (gf d) xs) front ∙ newton_all (gf d) laws xs ys points.distinct points.symbols symbols count
          ∙ take-set-lt n zeros i 1 column ∙ ap (λ (l : List ℕ). set l i 1) (take-replicate n 16 0 few);
    }

-- counted by the number of columns
module _ {d n : ℕ} {xs : List ℕ} {i : ℕ} {b : List ℕ} (count : length xs ≡ n) (h : Basis d xs i b) where
  pub basis_polynomial : Poly (gf d) n (take n b)
  basis_polynomial = rw count at h.polynomial

  pub basis_unit : values_at (gf d) xs (take n b) ≡ set (replicate n 0) i 1
  basis_unit = rw count at h.unit
