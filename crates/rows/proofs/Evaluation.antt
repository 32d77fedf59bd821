-- Values from Newton's form, from the last coefficient to the first, at many points at once.
--
--   rest d xs us j x     the value at x of the Newton form from coefficient j on
--   inner d xs us j x    the same times x less the node before: what the loop has when it comes to coefficient j − 1
--   values_start, values_step, values_end    the row before the first turn, a turn, and the row that comes out
--   values_fit, values_in    on the way it has room for them, and symbols
--   zeros                zeros are zeros
--   plain_values         where all nodes are zero the Newton coefficients are the coefficients
-- Assumes nothing.
use mathlib.Core.Path.{◌≡◌, refl, sym, ap, ap₂, ◌∙◌}
use mathlib.Core.Bool.{false}
use mathlib.Core.List.{List, [], ◌∷◌, map}
use Prim.Native.Nat.{ℕ, zero, suc, ◌+◌, ◌-◌, ◌^◌, ◌≤◌, ◌<◌}
use native.Mathlib.Nat.{sub_self, sub-zero}
use native.Mathlib.Omega.{arith}
use lib.ListN.{length, get_or, drop, replicate, length-map}
use lib.Seq.{drop-cons}
use Rattle.patch.specs.Patch.{patch}
use Rattle.patch.specs.Parts.{lay}
use Rattle.patch.proofs.Laws.{length-patch}
use Rattle.patch.proofs.Parts.{length-lay, get_or-lay, lay-again, patch_is_lay}
use Rattle.refusal.specs.Refusal.{bad_degree}
use Rattle.field.specs.Symbols.{plus, times}
use Rattle.lists.specs.Working.Lists.{multiplied, multiplied_at, SymbolsAt}
use Rattle.field.specs.Arithmetic.{Arithmetic, gf}
use Rattle.field.proofs.Laws.{Field}
use Rattle.field.proofs.Instance.{field}
use Rattle.poly.specs.Poly.{Zero, value, values_at}
use Rattle.poly.proofs.Forms.{newton_value_lem}
use Rattle.rows.specs.Working.Rows.{constant_added, newton_values, Evaluating}
use Rattle.poly.proofs.Ring.{plus-zero, plus_comm, times_zero}

-- ---- values at points, laid in a list

get_d_map : (f : ℕ → ℕ) (xs : List ℕ) (i : ℕ) → i < length xs → get_or (map f xs) i 0 ≡ f (get_or xs i 0)
get_d_map f [] i h = absurd (omega arith)
get_d_map f (x ∷ xs) zero h = refl
get_d_map f (x ∷ xs) (suc i) h = get_d_map f xs i (omega arith)

module _ (at : ℕ) (xs l : List ℕ) (fits : at + length xs ≤ length l) where
  get_or-lay-map : (f : ℕ → ℕ) {s : List ℕ} → s ≡ lay at (map f xs) l → (i : ℕ) → i < length xs → get_or s (at + i) 0 ≡ f (get_or xs i 0)
  get_or-lay-map f is i h =
      let size : length (map f xs) ≡ length xs = length-map xs f in
      rw is (get_or-lay at (map f xs) l i (omega arith) (omega arith)) ∙ get_d_map f xs i h

  patch-map : (g f : ℕ → ℕ) {s : List ℕ} → s ≡ patch at (length xs) g l → ((i : ℕ) → i < length xs → g i ≡ f (get_or xs i 0))
      → s ≡ lay at (map f xs) l
  patch-map g f is h = is ∙ patch_is_lay at (length xs) g (map f xs) l (length-map xs f) (λ i k. h i k ∙ sym (get_d_map f xs i k))

  lay_again_map : (g f : ℕ → ℕ) {s : List ℕ} → s ≡ lay at (map g xs) l → lay at (map f xs) s ≡ lay at (map f xs) l
  lay_again_map g f is =
      let e : length (map g xs) ≡ length xs = length-map xs g in
      let e' : length (map f xs) ≡ length xs = length-map xs f in
      rw is (lay-again at (map g xs) (map f xs) l (omega arith) (omega arith))

-- ---- Newton's form from a coefficient on

unfoldable pub rest : ℕ → List ℕ → List ℕ → ℕ → ℕ → ℕ
rest d nodes us j x = newton_value_lem (gf d) (length us - j) (drop j nodes) (drop j us) x

unfoldable pub inner : ℕ → List ℕ → List ℕ → ℕ → ℕ → ℕ
inner d nodes us j x = times d (plus x (get_or nodes (j - 1) 0)) (rest d nodes us j x)

module _ (d : ℕ) (good : bad_degree d ≡ false) (nodes us : List ℕ) (enough : length us ≤ length nodes) where
  rest_cons : (j x : ℕ) → j < length us
      → rest d nodes us j x ≡ plus (get_or us j 0) (times d (plus x (get_or nodes j 0)) (rest d nodes us (suc j) x))
  unfolding rest newton_value_lem
  rest_cons j x h =
      let e : length us - j ≡ suc (length us - suc j) = omega arith in
      rw (e, drop-cons us j 0 h, drop-cons nodes j 0 (omega arith))

  inner_start : (x : ℕ) → inner d nodes us (length us) x ≡ 0
  unfolding inner rest newton_value_lem
  inner_start x = rw (sub_self (length us)) (times_zero (gf d) (field d good) _)

  inner_in : (j x : ℕ) → inner d nodes us j x < 2 ^ d
  unfolding inner
  inner_in j x = (field d good).times_in _ _

  rest_less : (j x : ℕ) → 0 < j → j ≤ length us → plus (inner d nodes us j x) (get_or us (j - 1) 0) ≡ rest d nodes us (j - 1) x
  unfolding inner
  rest_less zero x h k = absurd (omega arith)
  rest_less (suc j) x h k =
      let e : suc j - 1 ≡ j = omega arith in
      rw e (plus_comm (gf d) (field d good) _ _ ∙ sym (rest_cons j x (omega arith)))

  rest_whole : (x : ℕ) → rest d nodes us 0 x ≡ newton_value_lem (gf d) (length us) nodes us x
  unfolding rest
  rest_whole x = rw (sub-zero (length us))

  inner_less : (j x y : ℕ) → 1 < j → j ≤ length us → y ≡ inner d nodes us j x
      → times d (plus x (get_or nodes (j - 1 - 1) 0)) (plus y (get_or us (j - 1) 0)) ≡ inner d nodes us (j - 1) x
  unfolding inner
  inner_less j x y h k e = ap (times d (plus x (get_or nodes (j - 1 - 1) 0))) (rw e (rest_less j x (omega arith) k))

module _ {d : ℕ} (good : bad_degree d ≡ false) {xs nodes us e : List ℕ} {at : ℕ} (g : Evaluating d xs nodes us e at) where
  pub values_start : {s : List ℕ} → s ≡ patch at (length xs) (λ i. 0) e → s ≡ lay at (map (inner d nodes us (length us)) xs) s
  values_start {s} is =
      let f = inner d nodes us (length us) in
      let first : s ≡ lay at (map f xs) e =
      patch-map at xs e g.room (λ i. 0) f is (λ i h. sym (inner_start d good nodes us g.enough (get_or xs i 0))) in
      first ∙ sym (lay_again_map at xs e g.room f f first)

  -- l being the cleared list
  module _ {l : List ℕ} (cleared : l ≡ patch at (length xs) (λ i. 0) e) where
    fits : at + length xs ≤ length l
    fits = omega (arith, g.room, ap length cleared ∙ length-patch at (λ i. 0) e (length xs))

    pub values_fit : (j : ℕ) {s : List ℕ} → s ≡ lay at (map (inner d nodes us j) xs) l → at + length xs ≤ length s
    values_fit j is = rw (is, length-lay) fits

    pub values_in : (j : ℕ) {s : List ℕ} → s ≡ lay at (map (inner d nodes us j) xs) l → SymbolsAt d s at (length xs)
    values_in j is i h =
        rw (get_or-lay-map at xs l fits (inner d nodes us j) is i h) (inner_in d good nodes us g.enough j (get_or xs i 0))

    pub values_step : (j : ℕ) {s t : List ℕ} → 1 < j → j ≤ length us → s ≡ lay at (map (inner d nodes us j) xs) l
        → t ≡ multiplied_at d xs (get_or nodes (j - 1 - 1) 0) s at (get_or us (j - 1) 0) → t ≡ lay at (map (inner d nodes us (j - 1)) xs) l
    unfolding multiplied
    values_step j {s} h k is then =
        let f = inner d nodes us j in
        patch-map at xs s (values_fit j is) _ _ then
        (λ i m. inner_less d good nodes us g.enough j _ (get_or s (at + i) 0) h k (get_or-lay-map at xs l fits f is i m))
        ∙ lay_again_map at xs l fits f _ is

    pub values_end : {j : ℕ} {s t : List ℕ} → j ≡ 1 → s ≡ lay at (map (inner d nodes us j) xs) l
        → t ≡ constant_added (get_or us 0 0) s at (length xs) → t ≡ lay at (newton_values d nodes us xs) e
    values_end {j} {s} {t} one was then =
        let f = inner d nodes us 1 in
        let v = newton_value_lem (gf d) (length us) nodes us in
        let z : ℕ → ℕ = λ x. 0 in
        let is : s ≡ lay at (map f xs) l = was ∙ ap (λ (i : ℕ). lay at (map (inner d nodes us i) xs) l) one in
        let less : (x : ℕ) → plus (f x) (get_or us 0 0) ≡ v x =
        λ x. rest_less d good nodes us g.enough 1 x (omega arith) g.some
        ∙ rest_whole d good nodes us g.enough x in
        patch-map at xs s (values_fit 1 is) _ v then (λ i m. rw (get_or-lay-map at xs l fits f is i m) (less (get_or xs i 0)))
        ∙ (lay_again_map at xs l fits f v is ∙ lay_again_map at xs e g.room z v (patch-map at xs e g.room _ z cleared (λ i m. refl)))

module _ {K : Type 0} (A : Arithmetic K) (𝓕 : Field A) where
  pub zeros : (n : ℕ) → Zero A (replicate n A.zero)
  zeros zero = tt
  zeros (suc n) = (refl, zeros n)

  newton_zeros : (zs p : List K) (x : K) → Zero A zs → length p ≤ length zs → newton_value_lem A (length p) zs p x ≡ value A p x
  unfolding newton_value_lem value
  newton_zeros zs [] x z h = refl
  newton_zeros [] (c ∷ p) x z h = absurd (omega arith)
  newton_zeros (a ∷ zs) (c ∷ p) x z h =
      ap (λ (y : K). A.plus c (A.times y (newton_value_lem A (length p) zs p x))) (rw z.0 (plus-zero A 𝓕 x))
      ∙ ap (λ (v : K). A.plus c (A.times x v)) (newton_zeros zs p x z.1 (omega arith))

  pub plain_values : (zs p xs : List K) → Zero A zs → length p ≤ length zs → map (newton_value_lem A (length p) zs p) xs ≡ values_at A xs p
  unfolding values_at
  plain_values zs p [] z h = refl
  plain_values zs p (x ∷ xs) z h = ap₂ ◌∷◌ (newton_zeros zs p x z h) (plain_values zs p xs z h)
