-- A function of low lead that is zero at given points: there are more free places than conditions. The genus is the number of places
-- that are not free.
--
--   places_to q t     the free places up to t
--   Roomy q          those up to τ + genus q are more than τ, for τ below q³, which antt computes for both sizes
--   vanishing        a function of lead up to τ + genus q that is zero at the points flagged, where these are τ or fewer
-- Assumes nothing.
use mathlib.Core.Path.{◌≡◌, refl, sym, ◌∙◌, ap, subst}
use mathlib.Core.Logic.{◌⊎◌, inl, inr}
use mathlib.Core.Bool.{Bool, true, false, ◌&&◌, true≢false}
use mathlib.Core.List.{List, map}
use Prim.Native.Nat.{ℕ, suc, ◌+◌, ◌*◌, ◌/◌, ◌%◌, ◌≤◌, ◌<◌}
use native.Mathlib.Omega.{arith}
use lib.Dec.{T, leb, ltb, leb→le, ltb→lt}
use lib.ListN.{length, length-map}
use Rattle.field.specs.Arithmetic.{gf}
use Rattle.field.proofs.Laws.{Field}
use Rattle.field.proofs.Products.{all_below, below, both}
use Rattle.poly.specs.Poly.{All}
use Rattle.codes.specs.Code.{total, flags_from, up_from}
use Rattle.codes.proofs.Flags.{points_where, count_where, where_exactly}
use Rattle.basis.proofs.Vector.{Lead}
use Rattle.basis.proofs.Scan.{all_map, all_of_map, all_weaken}
use Rattle.basis.proofs.Basis.{Form, Lawful, of_kernels}
use Rattle.basis.proofs.Survive.{survive}
use Rattle.hermitian.specs.Ring.{those, ring_points}
use Rattle.hermitian.specs.Checks.{bad_size}
use Rattle.hermitian.specs.Pits.{genus}
use Rattle.hermitian.proofs.Sizes.{each, tested}
use Rattle.hermitian.proofs.Rings.{ring_field}
use Rattle.curve.proofs.Orders.{Free, start, unit_led}
use Rattle.curve.proofs.Alive.{ring_side, ring_functions, those_pass}
use Rattle.curve.proofs.Zeros.{rising_from, form_at, forms_lawful, val_at}

abbrev free_to : ℕ → ℕ → ℕ → Bool
free_to q t p = leb p t && leb (p % q) (p / q)

unfoldable pub places_to : ℕ → ℕ → List ℕ
places_to q t = those (free_to q t) (up_from 0 (suc t))

abbrev more : ℕ → Bool
more q = all_below (q * q * q) (λ τ. ltb τ (length (places_to q (τ + genus q))))

pub record Roomy (q : ℕ) : Type 0 where
  pub more : T (more q)

roomy_2 : Roomy 2
unfolding places_to those up_from
roomy_2 = record { more = tt }

roomy_4 : Roomy 4
unfolding places_to those up_from
roomy_4 = record { more = tt }

pub roomy : (q : ℕ) → bad_size q ≡ false → Roomy q
roomy q size = each Roomy q size roomy_2 roomy_4

module _ (q : ℕ) (size : bad_size q ≡ false) (τ : ℕ) (small : τ < q * q * q) (f : ℕ → Bool)
    (few : total (flags_from f 0 (q * q * q)) ≤ τ)
  where
    abbrev 𝓕 : Field (gf q)
    𝓕 = ring_field q size

    abbrev bound : ℕ
    bound = τ + genus q

    abbrev flagged : List (ℕ × ℕ)
    flagged = points_where f (ring_points q)

    abbrev Cs : List (Form ℕ)
    Cs = map (form_at q size) flagged

    lawful : All (Lawful (ring_functions q size)) Cs
    lawful = forms_lawful q size flagged

    passed : All (λ (p : ℕ). (p ≤ bound) × Free q p) (places_to q bound)
    unfolding places_to
    passed = all_weaken (λ (p : ℕ). free_to q bound p ≡ true) _ (λ p t.
        let (low, free) = both (leb p bound) _ (subst T (sym t) tt) in
        (leb→le p bound low, leb→le _ _ free)) (places_to q bound) (those_pass (free_to q bound) (up_from 0 (suc bound)))

    many : τ < length (places_to q bound)
    many = ltb→lt _ _ (below (q * q * q) (λ τ. ltb τ (length (places_to q (τ + genus q)))) (roomy q size).more τ small)

    fewer : length Cs < length (map (start (gf q)) (places_to q bound))
    fewer = omega (
      arith,
      many,
      length-map flagged (form_at q size),
      length-map (places_to q bound) (start (gf q)),
      count_where f (ring_points q) ∙ ap (λ (n : ℕ). total (flags_from f 0 n)) (tested q size).count,
    )

    zero_there : (v : List ℕ) → All (λ (C : Form ℕ). C.of v ≡ 0) Cs → (i : ℕ) → i < q * q * q → f i ≡ true → val_at q i v ≡ 0
    zero_there v zeros i k e =
        go ((where_exactly _ f (ring_points q) (0, 0)).0 (all_of_map _ (form_at q size) flagged zeros) i
        (omega (arith, (tested q size).count)))
      where
        go : (val_at q i v ≡ 0) ⊎ (f i ≡ false) → val_at q i v ≡ 0
        go (inl z) = z
        go (inr off) = absurd (true≢false (sym e ∙ off))

    pub vanishing : (v : List ℕ) × (t : ℕ) × (ring_functions q size).has v × Lead (gf q) v t × (t ≤ bound)
        × ((i : ℕ) → i < q * q * q → f i ≡ true → val_at q i v ≡ 0)
    unfolding places_to
    vanishing =
        let (v, t, met, lead, le) = survive (gf q) 𝓕 (λ (p : ℕ). p ≤ bound) (ring_functions q size) Cs lawful
        (map (start (gf q)) (places_to q bound))
        (all_map _ _ (start (gf q)) (λ p h. unit_led (gf q) 𝓕 q (ring_side q size) p h.1) (places_to q bound) passed)
        (rising_from (start (gf q)) (λ p. refl) (free_to q bound) 0 (suc bound))
        (all_map _ _ (start (gf q)) (λ p h. h.0) (places_to q bound) passed) fewer in
        let (within, zeros) = of_kernels (gf q) 𝓕 (ring_functions q size) Cs lawful v met in
        (v, t, within, lead, le, zero_there v zeros)
