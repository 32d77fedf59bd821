-- Rows of n numbers, one after another in a list: row k begins at k·n.
--
--   row_within      of m rows each lies in the list
--   row_laid        what was laid over a row is there
--   other_rows      and the other rows are as they were
--   same_rows       two lists of m rows that agree in each are equal
--   lent_row        the part from a place to so many behind it, as the code lends it
--   row_back        a row that was lent and is given back
-- Assumes nothing.
use mathlib.Core.Path.{◌≡◌, sym, ap, ◌∙◌}
use mathlib.Core.List.{List, ◌++◌}
use Prim.Native.Nat.{ℕ, zero, suc, ◌+◌, ◌-◌, ◌*◌, ◌≤◌, ◌<◌}
use native.Mathlib.Nat.{zero-mul, suc-mul, mul-le-mul_right}
use native.Mathlib.Decide.{dec_lt}
use native.Mathlib.Omega.{arith}
use lib.ListN.{length, get_or, take, drop, length-append, length-drop, get_or-append}
use lib.Seq.{ext_get_or, get_or-take, get_or-drop, get_or-append-add, length-take-le}
use Rattle.patch.specs.Parts.{part, lay}
use Rattle.patch.proofs.Parts.{length_part, get_d_part, length-lay, get_or-lay_below, get_or-lay_above, part-lay, is_lay}

module _ (n : ℕ) where
  -- a row that begins earlier ends before
  earlier : (j k : ℕ) → j < k → j * n + n ≤ k * n
  earlier j k h = omega (arith, suc-mul j n, mul-le-mul_right {m = suc j} {n = k} n (omega arith))

  pub row_within : (m k : ℕ) (l : List ℕ) → k < m → length l ≡ m * n → k * n + n ≤ length l
  row_within m k l h e = omega (arith, earlier k m h)

  module _ (k : ℕ) (v l : List ℕ) (size : length v ≡ n) where
    pub row_laid : k * n + n ≤ length l → part (k * n) n (lay (k * n) v l) ≡ v
    row_laid h = ap (λ (x : ℕ). part (k * n) x (lay (k * n) v l)) (sym size) ∙ part-lay (k * n) v l (omega arith)

    pub other_rows : (j : ℕ) → ¬ (j ≡ k) → j * n + n ≤ length l → part (j * n) n (lay (k * n) v l) ≡ part (j * n) n l
    other_rows j d h = ext_get_or 0 _ _ (long ∙ sym short)
        (λ i q. get_d_part (j * n) n (lay (k * n) v l) i (omega (arith, long)) ∙ go i (omega (arith, long)) (dec_lt j k)
        ∙ sym (get_d_part (j * n) n l i (omega (arith, long))))
      where
        long : length (part (j * n) n (lay (k * n) v l)) ≡ n
        long = length_part (j * n) n (lay (k * n) v l) (omega (arith, length-lay (k * n) v l))

        short : length (part (j * n) n l) ≡ n
        short = length_part (j * n) n l h

        go : (i : ℕ) → i < n → Dec (j < k) → get_or (lay (k * n) v l) (j * n + i) 0 ≡ get_or l (j * n + i) 0
        go i q (yes p) = get_or-lay_below (k * n) v l (j * n + i) (omega (arith, earlier j k p))
        go i q (no p) = get_or-lay_above (k * n) v l (j * n + i) (omega (arith, earlier k j (omega arith)))

  -- where a number of the list stands in its row
  place : (m i : ℕ) → i < m * n → (k : ℕ) × (j : ℕ) × (k < m) × (j < n) × (i ≡ k * n + j)
  place zero i h = absurd (omega (arith, zero-mul n))
  place (suc m) i h = go (place m i) (dec_lt i (m * n))
    where
      go : (i < m * n → (k : ℕ) × (j : ℕ) × (k < m) × (j < n) × (i ≡ k * n + j)) → Dec (i < m * n)
          → (k : ℕ) × (j : ℕ) × (k < suc m) × (j < n) × (i ≡ k * n + j)
      go before (yes p) = let (k, j, a, b, e) = before p in (k, j, omega arith, b, e)
      go before (no p) = (m, i - m * n, omega arith, omega (arith, suc-mul m n), omega arith)

  pub same_rows : (m : ℕ) (a b : List ℕ) → length a ≡ m * n → length b ≡ m * n
      → ((k : ℕ) → k < m → part (k * n) n a ≡ part (k * n) n b) → a ≡ b
  same_rows m a b la lb h = ext_get_or 0 a b (la ∙ sym lb) (λ i q.
      let (k, j, p, r, e) = place m i (omega (arith, la)) in
      ap (λ (x : ℕ). get_or a x 0) e
      ∙ sym (get_d_part (k * n) n a j r) ∙ ap (λ (l : List ℕ). get_or l j 0) (h k p) ∙ get_d_part (k * n) n b j r
      ∙ ap (λ (x : ℕ). get_or b x 0) (sym e))

pub lent_row : (at n : ℕ) (l : List ℕ) → take (at + n - at) (drop at l) ≡ part at n l
unfolding part
lent_row at n l = let e : at + n - at ≡ n = omega arith in ap (λ (k : ℕ). take k (drop at l)) e

pub row_back : (at n : ℕ) (v l : List ℕ) → length v ≡ n → at + n ≤ length l → take at l ++ (v ++ drop (at + n - at) (drop at l))
    ≡ lay at v l
row_back at n v l size fits = is_lay at v l (take at l ++ (v ++ rest)) (omega arith) whole below inside above
  where
    rest : List ℕ
    rest = drop (at + n - at) (drop at l)

    front : length (take at l) ≡ at
    front = length-take-le at l (omega arith)

    whole : length (take at l ++ (v ++ rest)) ≡ length l
    whole = omega (
      arith,
      length-append (take at l) (v ++ rest),
      length-append v rest,
      front,
      length-drop (at + n - at)
          (drop at l),
      length-drop at l,
    )

    below : (i : ℕ) → i < at → get_or (take at l ++ (v ++ rest)) i 0 ≡ get_or l i 0
    below i h = get_or-append (take at l) (v ++ rest) 0 i (omega (arith, front)) ∙ get_or-take at l i 0 h

    behind : (k : ℕ) → get_or (take at l ++ (v ++ rest)) (at + k) 0 ≡ get_or (v ++ rest) k 0
    behind k = ap (λ (j : ℕ). get_or (take at l ++ (v ++ rest)) (j + k) 0) (sym front) ∙ get_or-append-add (take at l) (v ++ rest) k 0

    inside : (k : ℕ) → k < length v → get_or (take at l ++ (v ++ rest)) (at + k) 0 ≡ get_or v k 0
    inside k h = behind k ∙ get_or-append v rest 0 k h

    above : (i : ℕ) → at + length v ≤ i → get_or (take at l ++ (v ++ rest)) i 0 ≡ get_or l i 0
    above i h =
        let e : at + (i - at) ≡ i = omega arith in
        let e₁ : length v + (i - at - length v) ≡ i - at = omega arith in
        let e₂ : at + (at + n - at + (i - at - length v)) ≡ i = omega arith in
        ap (λ (j : ℕ). get_or (take at l ++ (v ++ rest)) j 0) (sym e) ∙ behind (i - at)
        ∙ ap (λ (j : ℕ). get_or (v ++ rest) j 0) (sym e₁) ∙ get_or-append-add v rest (i - at - length v) 0
        ∙ get_or-drop (at + n - at) (drop at l) (i - at - length v) 0 ∙ get_or-drop at l (at + n - at + (i - at - length v)) 0
        ∙ ap (λ (j : ℕ). get_or l j 0) e₂
