-- Multiples by a field constant, and their roots.
--
--   constant_nonzero    the constant of a multiple that is not zero is not zero
--   multiple_back       if F is a multiple of E and not zero, E is a multiple of F
--   multiple_both       a multiple of E is a multiple of any other that is not zero
--   multiple_vanishes   a multiple of E vanishes where E does
--   vanishes_multiple   and E where a multiple that is not zero does
-- Assumes nothing.
use mathlib.Core.Path.{◌≡◌, sym, ap, ◌∙◌}
use mathlib.Core.List.{List}
use Prim.Native.Nat.{ℕ}
use Rattle.field.specs.Symbols.{IsSymbol}
use Rattle.field.specs.Arithmetic.{Arithmetic, gf}
use Rattle.poly.specs.Poly.{All, Zero, value, scale}
use Rattle.poly.proofs.Ring.{times_zero}
use Rattle.poly.proofs.Sums.{zero-scale, scale-scale, scale_one}
use Rattle.poly.proofs.Values.{value-scale}
use Rattle.poly.proofs.Roots.{Vanishes}
use Rattle.codes.specs.Code.{Code}
use Rattle.codes.proofs.Parts.{all_map}
use Rattle.codes.proofs.Proper.{Proper}
use Rattle.ending.specs.Locators.{Multiple}

module _ {c : Code} (p : Proper c) where
  abbrev A : Arithmetic ℕ
  A = gf c.degree

  pub constant_nonzero : (E F : List ℕ) (a : ℕ) → ¬ Zero A F → F ≡ scale A a E → ¬ (a ≡ 0)
  constant_nonzero E F a z e h = z (rw (e, h) (zero-scale A p.field E))

  pub multiple_back : (E F : List ℕ) → All (IsSymbol c.degree) E → ¬ Zero A F → Multiple c E F → Multiple c F E
  multiple_back E F s z (a, i, e) = (
    A.over 1 a,
    p.field.over_in 1 a,
    sym (ap (scale A (A.over 1 a)) e
        ∙ scale-scale A p.field (A.over 1 a) a E
        ∙ rw (p.field.over_times 1 a p.field.one_in i (constant_nonzero E F a z e)) (scale_one A p.field E s)),
  )

  pub multiple_both : (E F G : List ℕ) → All (IsSymbol c.degree) E → ¬ Zero A F → Multiple c E F → Multiple c E G
      → Multiple c F G
  multiple_both E F G s z h (b, j, g) =
      let (a, i, e) = multiple_back E F s z h in
      (A.times b a, p.field.times_in b a, g ∙ ap (scale A b) e ∙ scale-scale A p.field b a F)

  pub multiple_vanishes : (E F W : List ℕ) → Multiple c E F → Vanishes A E W → Vanishes A F W
  multiple_vanishes E F W (a, i, e) v = all_map (λ (x : ℕ). value A E x ≡ 0) (λ (x : ℕ). value A F x ≡ 0) W
      (λ x r. ap (λ (q : List ℕ). value A q x) e ∙ value-scale A p.field a E x ∙ rw r (times_zero A p.field a))
      v

  pub vanishes_multiple : (E F W : List ℕ) → All (IsSymbol c.degree) E → ¬ Zero A F → Multiple c E F
      → Vanishes A F W → Vanishes A E W
  vanishes_multiple E F W s z h v = multiple_vanishes F E W (multiple_back E F s z h) v
