-- What all marks share, written into the working space: a row at its front, zeros behind it, and over these another row.
--
--   zeros-part            the part that was written 0
--   front_is, behind_is   the rows are there
--   rest-is, long_is      what stands behind them is as it was, and the list is as long
-- Assumes nothing.
use mathlib.Core.Path.{◌≡◌, sym, ap, ◌∙◌}
use mathlib.Core.List.{List}
use Prim.Native.Nat.{ℕ, ◌+◌, ◌≤◌}
use native.Mathlib.Omega.{arith}
use lib.ListN.{length, get_or, drop, replicate, length-replicate, get_or-replicate, length-drop}
use lib.Seq.{ext_get_or, get_or-drop}
use Rattle.patch.specs.Patch.{patch}
use Rattle.patch.specs.Parts.{part, lay}
use Rattle.patch.proofs.Laws.{length-patch, get_or-patch, get_or-patch_below, get_or-patch_above}
use Rattle.patch.proofs.Parts.{length_part, get_d_part, length-lay, get_or-lay, get_or-lay_below, get_or-lay_above, part-lay}

module _ (n m : ℕ) (t l l₁ l₂ : List ℕ) (is-l₁ : l₁ ≡ lay 0 t l) (is-l₂ : l₂ ≡ patch n m (λ k. 0) l₁) (size : length t ≡ n)
    (fits : n + m ≤ length l) where
  long₁ : length l₁ ≡ length l
  long₁ = ap length is-l₁ ∙ length-lay 0 t l

  long₂ : length l₂ ≡ length l
  long₂ = ap length is-l₂ ∙ length-patch n (λ k. 0) l₁ m ∙ long₁

  pub zeros-part : part n m l₂ ≡ replicate m 0
  zeros-part =
      let long = length_part n m l₂ (omega (arith, long₂)) in
      ext_get_or 0 _ _ (long ∙ sym (length-replicate m 0)) (λ i h.
      get_d_part n m l₂ i (omega (arith, long)) ∙ ap (λ (s : List ℕ). get_or s (n + i) 0) is-l₂
      ∙ get_or-patch n (λ k. 0) l₁ m i 0 (omega (arith, long)) (omega (arith, long₁))
      ∙ sym (get_or-replicate m i 0 0 (omega (arith, long))))

  module _ (v : List ℕ) (sized : length v ≡ m) where
    pub long_is : length (lay n v l₂) ≡ length l
    long_is = length-lay n v l₂ ∙ long₂

    pub front_is : part 0 n (lay n v l₂) ≡ t
    front_is =
        let long = length_part 0 n (lay n v l₂) (omega (arith, long_is)) in
        ext_get_or 0 _ _ (long ∙ sym size) (λ i h.
        get_d_part 0 n (lay n v l₂) i (omega (arith, long)) ∙ get_or-lay_below n v l₂ (0 + i) (omega (arith, long))
        ∙ ap (λ (s : List ℕ). get_or s (0 + i) 0) is-l₂ ∙ get_or-patch_below n (λ k. 0) l₁ m (0 + i) 0 (omega (arith, long))
        ∙ ap (λ (s : List ℕ). get_or s (0 + i) 0) is-l₁ ∙ get_or-lay 0 t l i (omega (arith, long, size)) (omega (arith, size)))

    pub behind_is : part n m (lay n v l₂) ≡ v
    behind_is = ap (λ (k : ℕ). part n k (lay n v l₂)) (sym sized) ∙ part-lay n v l₂ (omega (arith, long₂, sized))

    pub rest-is : (k : ℕ) → n + m ≤ k → drop k (lay n v l₂) ≡ drop k l
    rest-is k h = ext_get_or 0 _ _ (omega (arith, length-drop k (lay n v l₂), length-drop k l, long_is)) (λ i q.
        get_or-drop k (lay n v l₂) i 0 ∙ get_or-lay_above n v l₂ (k + i) (omega (arith, sized))
        ∙ ap (λ (s : List ℕ). get_or s (k + i) 0) is-l₂ ∙ get_or-patch_above n (λ j. 0) l₁ m (k + i) 0 (omega arith)
        ∙ ap (λ (s : List ℕ). get_or s (k + i) 0) is-l₁ ∙ get_or-lay_above 0 t l (k + i) (omega (arith, size)) ∙ sym (get_or-drop k l i 0))
