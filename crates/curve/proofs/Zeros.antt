-- A function of pole order a has at most a zeros on the ring.
--
--   times_ys A q n v      y^n times v; multiple A q i j v, x^i·y^j times v: its lead is the order of x^i·y^j higher, and it is zero
--                        wherever v is
--   rising_from          entries whose leads are picked from rising numbers rise
--   raises q a p         place p is a plus the order of some x^i·y^j, and of low lead (Top)
--   leads q a            all such places; Counted q, there are q³ − a of them or more, which antt computes for both sizes
--   point q i            the i-th point of the ring; ring_point, it is on the curve
--   nonzero_many         where a function of lead a is zero at all points but those flagged, at least q³ − a are flagged
--   zero_function        a function with no place above M that is zero at all points but those flagged, fewer than q³ − M, is zero
--   val_at q i v          the value of v there; val_in, it is a symbol; val-zero, that of zero is zero
--   zero_at q v i         v is zero at the i-th point; zeros-flagged, at most a points are zeros of a function of lead a
--   same_function        two functions with no place above M whose values are the same but at the points flagged, fewer than q³ − M,
--                        have the same values
-- Assumes nothing.
use mathlib.Core.Path.{◌≡◌, refl, sym, ◌∙◌, ap, subst}
use mathlib.Core.Logic.{◌⊎◌, inl, inr}
use mathlib.Core.Bool.{Bool, true, false, not, cond, ◌&&◌, ◌||◌, true≢false}
use mathlib.Core.List.{List, [], ◌∷◌, map}
use Prim.Native.Nat.{ℕ, zero, suc, ◌+◌, ◌-◌, ◌*◌, ◌/◌, ◌%◌, ◌≤◌, ◌<◌}
use native.Mathlib.Nat.{le_of_suc-le-suc, suc-mul, add-mul, zero-mul, zero-add, mul-suc}
use native.Mathlib.Decide.{dec_lt}
use native.Mathlib.Omega.{arith}
use lib.Dec.{T, eqb, leb, ltb, leb→le, le→leb, ltb→lt, eqb→eq}
use lib.ListN.{length, get_or, length-map}
use Rattle.field.specs.Arithmetic.{Arithmetic, gf}
use Rattle.field.specs.Symbols.{IsSymbol, plus}
use Rattle.field.proofs.Laws.{Field}
use Rattle.field.proofs.Products.{all_below, below, both}
use Rattle.poly.specs.Poly.{All, Zero}
use Rattle.poly.proofs.Ring.{times_zero, one_times, plus_self, plus_cancel}
use Rattle.codes.specs.Code.{up_from, total, flag, flags_from}
use Rattle.codes.proofs.Parts.{all-at}
use Rattle.codes.proofs.Flags.{points_where, count_where, where_exactly, all_where}
use Rattle.basis.proofs.Vector.{mix, Below, Lead, up, at_zero, below_mix, lead_up, lead_or_zero, lead_below}
use Rattle.basis.proofs.Scan.{all_map, all_of_map, all_both}
use Rattle.basis.proofs.Basis.{Space, Form, Entry, Lawful, Led, kernels, to_kernels, up_within, of_up}
use Rattle.basis.proofs.Survive.{Rising}
use Rattle.basis.proofs.Placed.{dot_from_lem, dot_in, dot_mix, dot_at}
use Rattle.basis.proofs.Spread.{few_zeros}
use Rattle.hermitian.specs.Ring.{those, ring_points}
use Rattle.hermitian.specs.Checks.{bad_size}
use Rattle.hermitian.proofs.Sizes.{each, tested}
use Rattle.hermitian.proofs.Rings.{ring_field}
use Rattle.curve.proofs.Orders.{Free, order, order-of, val, point_form, point_lawful, functions, lead_free}
use Rattle.curve.proofs.TimesY.{Point, times_y, times_y_within, times_y_lead, val_times_y}
use Rattle.curve.proofs.Alive.{Top, ring_side, ring_functions, ring_points_lem, alive, those_pass}

-- ---- Multiples of a function.

module _ {K : Type 0} (A : Arithmetic K) (q : ℕ) where
  unfoldable pub times_ys : ℕ → List K → List K
  times_ys zero v = v
  times_ys (suc n) v = times_y A q (times_ys n v)

  unfoldable pub multiple : ℕ → ℕ → List K → List K
  multiple i j v = up A q i (times_ys j v)

module _ {K : Type 0} (A : Arithmetic K) (𝓕 : Field A) (q : ℕ) (two : 1 < q) where
  abbrev 𝓢 : Space A q
  𝓢 = functions A 𝓕 q two

  times_ys_within : (n : ℕ) (v : List K) → 𝓢.has v → 𝓢.has (times_ys A q n v)
  unfolding times_ys
  times_ys_within zero v h = h
  times_ys_within (suc n) v h = times_y_within A 𝓕 q two (times_ys A q n v) (times_ys_within n v h)

  times_ys_lead : (n : ℕ) (v : List K) (a : ℕ) → 𝓢.has v → Lead A v a → Lead A (times_ys A q n v) (n * suc q + a)
  unfolding times_ys
  times_ys_lead zero v a h l = rw (zero-mul, zero-add) l
  times_ys_lead (suc n) v a h l =
      let e : suc q + (n * suc q + a) ≡ suc n * suc q + a = omega (arith, suc-mul n (suc q)) in
      rw e at (times_y_lead A 𝓕 q two (times_ys A q n v) (n * suc q + a) (times_ys_within n v h).0 (times_ys_lead n v a h l))

  times_ys_zero : (x y : K) → Point A q x y → (n : ℕ) (v : List K) → 𝓢.has v → val A q x y v ≡ A.zero
      → val A q x y (times_ys A q n v) ≡ A.zero
  unfolding times_ys
  times_ys_zero x y on zero v h z = z
  times_ys_zero x y on (suc n) v h z =
      val_times_y A 𝓕 q two x y on (times_ys A q n v) (times_ys_within n v h)
      ∙ ap (A.times y) (times_ys_zero x y on n v h z) ∙ times_zero A 𝓕 y

  pub multiple_within : (i j : ℕ) (v : List K) → 𝓢.has v → 𝓢.has (multiple A q i j v)
  unfolding multiple
  multiple_within i j v h = up_within A 𝓢 i (times_ys A q j v) (times_ys_within j v h)

  pub multiple_lead : (i j : ℕ) (v : List K) (a : ℕ) → 𝓢.has v → Lead A v a → Lead A (multiple A q i j v) (order q i j + a)
  unfolding multiple
  multiple_lead i j v a h l =
      let e : i * q + (j * suc q + a) ≡ order q i j + a = omega (arith, add-mul i j q, mul-suc j q) in
      rw e at (lead_up A 𝓕 q i (times_ys_lead j v a h l))

  pub multiple_zero : (x y : K) → Point A q x y → (i j : ℕ) (v : List K) → 𝓢.has v → val A q x y v ≡ A.zero
      → val A q x y (multiple A q i j v) ≡ A.zero
  unfolding multiple
  multiple_zero x y on i j v h z =
      of_up A 𝓕 𝓢 (point_form A q x y) (point_lawful A 𝓕 q two x y) i (times_ys A q j v) (times_ys_within j v h) (times_ys_zero x y on j v h z)

-- ---- How many multiples have a low lead.

abbrev pub raises : ℕ → ℕ → ℕ → Bool
raises q a p = leb a p && (leb ((p - a) % q) ((p - a) / q) && ltb (p / q - p % q) (q * q))

unfoldable pub leads : ℕ → ℕ → List ℕ
leads q a = those (raises q a) (up_from 0 (q * q * q + q * q))

abbrev enough : ℕ → Bool
enough q = all_below (q * q * q) (λ a. not (leb (a % q) (a / q)) || leb (q * q * q) (a + length (leads q a)))

pub record Counted (q : ℕ) : Type 0 where
  pub enough : T (enough q)

counted_2 : Counted 2
unfolding leads those up_from
counted_2 = record { enough = tt }

counted_4 : Counted 4
unfolding leads those up_from
counted_4 = record { enough = tt }

pub counted : (q : ℕ) → bad_size q ≡ false → Counted q
counted q size = each Counted q size counted_2 counted_4

-- ---- Their leads rise.

above_from : (f : ℕ → Bool) (b i n : ℕ) → b ≤ i → All (λ (p : ℕ). b ≤ p) (those f (up_from i n))
unfolding those up_from
above_from f b i zero le = tt
above_from f b i (suc n) le = go (f i) (above_from f b (suc i) n (omega arith))
  where
    go : (t : Bool) → All (λ (p : ℕ). b ≤ p) (those f (up_from (suc i) n))
        → All (λ (p : ℕ). b ≤ p) (cond t (i ∷ those f (up_from (suc i) n)) (those f (up_from (suc i) n)))
    go true h = (le, h)
    go false h = h

module _ {K : Type 0} (entry : ℕ → Entry K) (leads-at : (p : ℕ) → (entry p).lead ≡ p) where
  pub rising_from : (f : ℕ → Bool) (i n : ℕ) → Rising (map entry (those f (up_from i n)))
  unfolding those up_from
  rising_from f i zero = tt
  rising_from f i (suc n) = go (f i) (rising_from f (suc i) n)
    where
      rest : List ℕ
      rest = those f (up_from (suc i) n)

      go : (t : Bool) → Rising (map entry rest) → Rising (map entry (cond t (i ∷ rest) rest))
      go true h = (
        all_map _ _ entry (λ p le. omega (arith, leads-at i, leads-at p)) rest (above_from f (suc i) (suc i) n (omega arith)),
        h,
      )
      go false h = h

-- ---- The zeros of a function on the ring.

-- what can have no lead is zero
no_lead : {K : Type 0} (A : Arithmetic K) (𝓕 : Field A) (v : List K) (M : ℕ) → Below A v (suc M)
    → ((m : ℕ) → m ≤ M → Lead A v m → ⊥) → Zero A v
no_lead A 𝓕 v M b h = go (lead_or_zero A 𝓕 v)
  where
    go : Zero A v ⊎ ((m : ℕ) × Lead A v m) → Zero A v
    go (inl z) = z
    go (inr (m, l)) = absurd (h m (le_of_suc-le-suc (lead_below A 𝓕 v m (suc M) l b)) l)

abbrev pub point : ℕ → ℕ → ℕ × ℕ
point q i = get_or (ring_points q) i (0, 0)

-- the value there
abbrev pub val_at : ℕ → ℕ → List ℕ → ℕ
val_at q i v = val (gf q) q (point q i).0 (point q i).1 v

-- whether it is zero
abbrev pub zero_at : ℕ → List ℕ → ℕ → Bool
zero_at q v i = eqb (val_at q i v) 0

all_index : {L : Type 0} (P : L → Type 0) (l : List L) (d : L) → ((i : ℕ) → i < length l → P (get_or l i d)) → All P l
all_index P [] d h = tt
all_index P (x ∷ l) d h = (h 0 (omega arith), all_index P l d (λ i k. h (suc i) (omega arith)))

-- what holds where a test passes, and where it fails, holds of all
all_joined : {L : Type 0} (P : L → Type 0) (f : ℕ → Bool) (l : List L) (d : L) → All P (points_where (λ i. not (f i)) l)
    → All P (points_where f l) → All P l
all_joined P f l d no-f yes-f = all_index P l d (λ i k. go i (f i) refl ((where_exactly P f l d).0 yes-f i k)
    ((where_exactly P (λ i. not (f i)) l d).0 no-f i k))
  where
    go : (i : ℕ) (b : Bool) → f i ≡ b → P (get_or l i d) ⊎ (f i ≡ false) → P (get_or l i d) ⊎ (not (f i) ≡ false) → P (get_or l i d)
    go i true e (inl p) h = p
    go i true e (inr h) g = absurd (true≢false (sym e ∙ h))
    go i false e h (inl p) = p
    go i false e h (inr g) = absurd (true≢false (ap not (sym e) ∙ g))

-- a test's flags and those of its opposite are one each
flags_both : (f : ℕ → Bool) (i n : ℕ) → total (flags_from f i n) + total (flags_from (λ i. not (f i)) i n) ≡ n
unfolding total flags_from
flags_both f i zero = refl
flags_both f i (suc n) = go (f i) (flags_both f (suc i) n)
  where
    go : (b : Bool) → total (flags_from f (suc i) n) + total (flags_from (λ i. not (f i)) (suc i) n) ≡ n
        → flag b + total (flags_from f (suc i) n) + (flag (not b) + total (flags_from (λ i. not (f i)) (suc i) n)) ≡ suc n
    go true e = omega arith
    go false e = omega arith

module _ (q : ℕ) (size : bad_size q ≡ false) where
  abbrev 𝓕 : Field (gf q)
  𝓕 = ring_field q size

  pub ring_point : (i : ℕ) → i < q * q * q → Point (gf q) q (point q i).0 (point q i).1
  ring_point i k = all-at _ (ring_points q) i (0, 0) (omega (arith, (tested q size).count)) (ring_points_lem q size)

  abbrev pub form_at : ℕ × ℕ → Form ℕ
  form_at P = point_form (gf q) q P.0 P.1

  pub forms_lawful : (Ps : List (ℕ × ℕ)) → All (Lawful (ring_functions q size)) (map form_at Ps)
  forms_lawful [] = tt
  forms_lawful (P ∷ Ps) = (point_lawful (gf q) 𝓕 q (ring_side q size) P.0 P.1, forms_lawful Ps)

  many_leads : (a : ℕ) → Free q a → a < q * q * q → q * q * q ≤ a + length (leads q a)
  many_leads a free lt =
      leb→le _ _ (either (leb (a % q) (a / q)) _ (below (q * q * q) _ (counted q size).enough a lt) (le→leb (a % q) (a / q) free))
    where
      either : (b c : Bool) → T (not b || c) → T b → T c
      either true c t u = t
      either false c t u = absurd u

  module _ (v : List ℕ) (a : ℕ) (h : (ring_functions q size).has v) (lead : Lead (gf q) v a) where
    abbrev entry : ℕ → Entry ℕ
    entry p = record { vec = multiple (gf q) q ((p - a) / q - (p - a) % q) ((p - a) % q) v; lead = p }

    raised_lead : (p : ℕ) → raises q a p ≡ true → Lead (gf q) (entry p).vec p × Top q p
    raised_lead p t =
        let (above, t') = both (leb a p) _ (subst T (sym t) tt) in
        let (free, top) = both (leb ((p - a) % q) ((p - a) / q)) (ltb (p / q - p % q) (q * q)) t' in
        let le : a ≤ p = leb→le a p above in
        let e : order q ((p - a) / q - (p - a) % q) ((p - a) % q) ≡ p - a = order-of q (ring_side q size) (p - a) (leb→le _ _ free) in
        (lead_at ((p - a) / q - (p - a) % q) ((p - a) % q) (omega arith), ltb→lt _ _ top)
      where
        lead_at : (i j : ℕ) → order q i j + a ≡ p → Lead (gf q) (multiple (gf q) q i j v) p
        lead_at i j sum = rw sum at (multiple_lead (gf q) 𝓕 q (ring_side q size) i j v a h lead)

    module _ (f : ℕ → Bool) (zeros : (i : ℕ) → i < q * q * q → f i ≡ false → val_at q i v ≡ 0) where
      abbrev zero_points : List (ℕ × ℕ)
      zero_points = points_where (λ i. not (f i)) (ring_points q)

      abbrev other_points : List (ℕ × ℕ)
      other_points = points_where f (ring_points q)

      zero_there : All (λ (P : ℕ × ℕ). Point (gf q) q P.0 P.1 × (val (gf q) q P.0 P.1 v ≡ 0)) zero_points
      zero_there = all_both _ _ zero_points (all_where _ (λ i. not (f i)) (ring_points q) (ring_points_lem q size))
          ((where_exactly _ (λ i. not (f i)) (ring_points q) (0, 0)).1 (λ i k. go i (omega (arith, (tested q size).count)) (f i) refl))
        where
          go : (i : ℕ) → i < q * q * q → (b : Bool) → f i ≡ b
              → (val_at q i v ≡ 0) ⊎ (not (f i) ≡ false)
          go i k true e = inr (ap not e)
          go i k false e = inl (zeros i k e)

      multiple_led : (p : ℕ) → raises q a p ≡ true
          → Led (kernels (gf q) 𝓕 (ring_functions q size) (map form_at zero_points) (forms_lawful zero_points)) (entry p)
      multiple_led p t = record {
        within = to_kernels (gf q) 𝓕 (ring_functions q size) (map form_at zero_points) (forms_lawful zero_points) (entry p).vec
            (multiple_within (gf q) 𝓕 q (ring_side q size) _ _ v h)
            (all_map _ _ form_at (λ P (on, z). multiple_zero (gf q) 𝓕 q (ring_side q size) P.0 P.1 on _ _ v h z) zero_points
            zero_there);
        leads = (raised_lead p t).0;
      }

      few : length (map entry (leads q a)) ≤ length (map form_at other_points)
      unfolding leads
      few =
          few_zeros (gf q) 𝓕 (ring_functions q size) (map form_at zero_points) (map form_at other_points) (forms_lawful zero_points)
          (forms_lawful other_points) (Top q) (map entry (leads q a))
          (all_map _ _ entry multiple_led (leads q a) passed)
          (rising_from entry (λ p. refl) (raises q a) 0 (q * q * q + q * q))
          (all_map _ _ entry (λ p t. (raised_lead p t).1) (leads q a) passed)
          (λ w m hw lw top zz zq. alive q size w m hw lw top
          (all_joined _ f (ring_points q) (0, 0) (all_of_map _ form_at zero_points zz) (all_of_map _ form_at other_points zq)))
        where
          passed : All (λ (p : ℕ). raises q a p ≡ true) (leads q a)
          passed = those_pass (raises q a) (up_from 0 (q * q * q + q * q))

      pub nonzero_many : q * q * q ≤ a + total (flags_from f 0 (q * q * q))
      nonzero_many = go (dec_lt a (q * q * q))
        where
          counts : length other_points ≡ total (flags_from f 0 (q * q * q))
          counts = count_where f (ring_points q) ∙ ap (λ (n : ℕ). total (flags_from f 0 n)) (tested q size).count

          go : Dec (a < q * q * q) → q * q * q ≤ a + total (flags_from f 0 (q * q * q))
          go (no ge) = omega arith
          go (yes lt) =
              let many = many_leads a (lead_free (gf q) 𝓕 q (ring_side q size) v a h lead) lt in
              omega (arith, few, counts, length-map (leads q a) entry, length-map other_points form_at)

  pub zero_function : (v : List ℕ) (M : ℕ) → (ring_functions q size).has v → Below (gf q) v (suc M) → (f : ℕ → Bool)
      → ((i : ℕ) → i < q * q * q → f i ≡ false → val_at q i v ≡ 0)
      → M + total (flags_from f 0 (q * q * q)) < q * q * q → Zero (gf q) v
  zero_function v M h b f zeros lt = no_lead (gf q) 𝓕 v M b (λ m le l. omega (arith, nonzero_many v m h l f zeros))

  pub zeros-flagged : (v : List ℕ) (a : ℕ) → (ring_functions q size).has v → Lead (gf q) v a
      → total (flags_from (zero_at q v) 0 (q * q * q)) ≤ a
  zeros-flagged v a h l = omega (
    arith,
    nonzero_many v a h l (λ i. not (zero_at q v i)) (λ i k e. eqb→eq _ 0 (passes (zero_at q v i) e)),
    flags_both (zero_at q v) 0 (q * q * q),
  )
    where
      passes : (b : Bool) → not b ≡ false → T b
      passes true e = tt
      passes false e = absurd (true≢false e)

  -- functions by their values

  pub val_in : (v : List ℕ) (i : ℕ) → IsSymbol q (val_at q i v)
  val_in v i = dot_in (gf q) 𝓕 _ 0 v

  pub val-zero : (v : List ℕ) (i : ℕ) → Zero (gf q) v → val_at q i v ≡ 0
  unfolding dot_from_lem
  val-zero v i z = dot_at (gf q) 𝓕 _ 0 v [] (at_zero (gf q) 𝓕 v z)

  val_sum : (v w : List ℕ) (i : ℕ) → val_at q i (mix (gf q) 1 v w) ≡ plus (val_at q i v) (val_at q i w)
  val_sum v w i = dot_mix (gf q) 𝓕 _ 0 1 v w ∙ ap (plus (val_at q i v)) (one_times (gf q) 𝓕 (val_in w i))

  pub same_function : (v w : List ℕ) (M : ℕ) → (ring_functions q size).has v → (ring_functions q size).has w
      → Below (gf q) v (suc M) → Below (gf q) w (suc M) → (f : ℕ → Bool)
      → ((i : ℕ) → i < q * q * q → f i ≡ false → val_at q i v ≡ val_at q i w)
      → M + total (flags_from f 0 (q * q * q)) < q * q * q → (i : ℕ) → val_at q i v ≡ val_at q i w
  same_function v w M hv hw bv bw f same less i =
      plus_cancel (gf q) 𝓕 (sym (val_sum v w i) ∙ val-zero sum i
      (zero_function sum M ((ring_functions q size).mixed 1 v w hv hw) (below_mix (gf q) 𝓕 1 v w (suc M) bv bw) f zeros less))
    where
      sum : List ℕ
      sum = mix (gf q) 1 v w

      zeros : (k : ℕ) → k < q * q * q → f k ≡ false → val_at q k sum ≡ 0
      zeros k lt e =
          val_sum v w k ∙ ap (λ (a : ℕ). plus a (val_at q k w)) (same k lt e) ∙ plus_self (gf q) 𝓕 (val_at q k w)
