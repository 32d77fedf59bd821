-- The endings exclude each other.
--
--   least_same     there is one smallest size
--   only_divides   of two locators that all others are multiples of, if one divides, so does the other
--   only_apart     beside such a locator no two are apart
--   exclusive      two endings of one decoding have the same code
-- Assumes nothing.
use mathlib.Core.Path.{◌≡◌, refl, subst}
use mathlib.Core.List.{List}
use Prim.Native.Nat.{ℕ, ◌≤◌, ◌<◌}
use native.Mathlib.Decide.{dec_lt}
use native.Mathlib.Omega.{arith}
use Rattle.refusal.specs.Meaning.{number_of}
use Rattle.codes.specs.Code.{Code, IsMessage, IsArray, encoded}
use Rattle.codes.proofs.Proper.{Proper}
use Rattle.codes.proofs.Columns.{wrong_points}
use Rattle.ending.specs.Locators.{Locator, Least, OnlyOne, Divides}
use Rattle.ending.specs.Endings.{meaning, Buffers, Corrects, TwoApart, DividesNot, Ends}
use Rattle.ending.specs.declared.Ending.{Ending}
use Rattle.ending.specs.declared.Ending.TheVariants.{Refused, Corrected, Nothing, Several, Hollow}
use Rattle.ending.proofs.Division.{divides_exactly}
use Rattle.ending.proofs.Multiples.{multiple_both, multiple_vanishes}

pub least_same : {c : Code} {y : List ℕ} {τ τ' t t' : ℕ} → Least c y τ t → Least c y τ' t' → t ≡ t'
least_same {c} {y} {τ} {τ'} {t} {t'} h g = go (dec_lt t t') (dec_lt t' t)
  where
    go : Dec (t < t') → Dec (t' < t) → t ≡ t'
    go (yes q) d = absurd (g.none_below t h.exists.0 q h.exists.1)
    go (no q) (yes r) = absurd (h.none_below t' g.exists.0 r g.exists.1)
    go (no q) (no r) = omega arith

module _ {c : Code} (p : Proper c) {y : List ℕ} where
  pub only_apart : {t : ℕ} {E : List ℕ} → OnlyOne c y t E → ¬ TwoApart c y t
  only_apart {t} {E} o a = a.apart (multiple_both p E a.E a.F
      o.one.size.symbols
      a.first.nonzero
      (o.multiples a.E a.first)
      (o.multiples a.F a.second))

  module _ (received : IsArray c y) where
    pub only_divides : {t : ℕ} {E F m : List ℕ} → OnlyOne c y t E → Locator c y t F → IsMessage c m → Divides c y t E m
        → Divides c y t F m
    only_divides {t} {E} {F} {m} o f i d = (divides_exactly p received f.size i).1 (multiple_vanishes p E F
        (wrong_points c y (encoded c m))
        (o.multiples F f)
        ((divides_exactly p received o.one.size i).0 d))

    module _ (τ : ℕ) where
      not_none : {t : ℕ} → Least c y τ t → ¬ ((u : ℕ) (E : List ℕ) → u ≤ τ → ¬ Locator c y u E)
      not_none {t} l h = h t l.exists.0 l.within l.exists.1

      not_several : {w t : ℕ} {left : Buffers} → Corrects c y τ w left → Least c y τ t → ¬ TwoApart c y t
      not_several h l a = only_apart h.only (subst (TwoApart c y) (least_same l h.least) a)

      not_hollow : {w t : ℕ} {left : Buffers} → Corrects c y τ w left → Least c y τ t → ¬ DividesNot c y t
      not_hollow h l a =
          let b : DividesNot c y h.t = subst (DividesNot c y) (least_same l h.least) a in
          b.not h.m h.message (only_divides h.only b.only.one h.message h.divides)

      not_both : {t u : ℕ} → Least c y τ t → TwoApart c y t → Least c y τ u → ¬ DividesNot c y u
      not_both l a l' b = only_apart b.only (subst (TwoApart c y) (least_same l l') a)

      pub exclusive : (e e' : Ending) (lent lent' left left' : Buffers) → Ends c y τ lent e left → Ends c y τ lent' e' left'
          → number_of (meaning e) ≡ number_of (meaning e')
      exclusive (Refused r) e' i j l l' h g = absurd h
      exclusive (Corrected w) (Refused r) i j l l' h g = absurd g
      exclusive (Corrected w) (Corrected w') i j l l' h g = refl
      exclusive (Corrected w) Nothing i j l l' h g = absurd (not_none h.least g.0)
      exclusive (Corrected w) (Several t) i j l l' h g = absurd (not_several h g.0 g.1)
      exclusive (Corrected w) (Hollow t) i j l l' h g = absurd (not_hollow h g.0 g.1)
      exclusive Nothing (Refused r) i j l l' h g = absurd g
      exclusive Nothing (Corrected w) i j l l' h g = absurd (not_none g.least h.0)
      exclusive Nothing Nothing i j l l' h g = refl
      exclusive Nothing (Several t) i j l l' h g = absurd (not_none g.0 h.0)
      exclusive Nothing (Hollow t) i j l l' h g = absurd (not_none g.0 h.0)
      exclusive (Several t) (Refused r) i j l l' h g = absurd g
      exclusive (Several t) (Corrected w) i j l l' h g = absurd (not_several g h.0 h.1)
      exclusive (Several t) Nothing i j l l' h g = absurd (not_none h.0 g.0)
      exclusive (Several t) (Several t') i j l l' h g = refl
      exclusive (Several t) (Hollow t') i j l l' h g = absurd (not_both h.0 h.1 g.0 g.1)
      exclusive (Hollow t) (Refused r) i j l l' h g = absurd g
      exclusive (Hollow t) (Corrected w) i j l l' h g = absurd (not_hollow g h.0 h.1)
      exclusive (Hollow t) Nothing i j l l' h g = absurd (not_none h.0 g.0)
      exclusive (Hollow t) (Several t') i j l l' h g = absurd (not_both g.0 g.1 h.0 h.1)
      exclusive (Hollow t) (Hollow t') i j l l' h g = refl
