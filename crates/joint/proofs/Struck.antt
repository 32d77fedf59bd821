-- What was struck with factors: the quotient's decoding, with its answer multiplied back. E is the table of the quotient's endings.
--
--   kept_else           unless the ending is 'corrected', the buffers are the quotient's
--   struck_never, struck_others, struck_unique    what holds of the table holds of what was struck
--   struck_on           a table that follows from another: so does what was struck
--   ones_struck         factors of one change nothing, where the answer is an array; each_one_struck, factors of which each is one
-- Assumes nothing.
use mathlib.Core.Path.{◌≡◌, refl, sym, ap, ap₂, ◌∙◌, subst}
use mathlib.Core.Logic.{◌↔◌}
use mathlib.Core.List.{List}
use Prim.Native.Nat.{ℕ}
use Rattle.refusal.specs.declared.Refusal.{Refusal}
use Rattle.poly.specs.Poly.{All}
use Rattle.codes.specs.Code.{Code, IsArray, columns}
use Rattle.codes.specs.Factors.{Description, multiplied, divided, ones, plain}
use Rattle.codes.proofs.Proper.{Proper}
use Rattle.codes.proofs.Factors.{Factors, as_ones, multiplied-ones, divided-ones}
use Rattle.ending.specs.Endings.{Buffers}
use Rattle.ending.specs.declared.Ending.{Ending}
use Rattle.ending.specs.declared.Ending.TheVariants.{Refused, Corrected, Nothing, Several, Hollow}
use Rattle.joint.specs.Promises.{on_corrected, Struck}

pub kept_else : (f : List ℕ → List ℕ) (e : Ending) (b : Buffers) → ((w : ℕ) → ¬ (e ≡ Corrected w)) → on_corrected f e b ≡ b
kept_else f (Refused r) b n = refl
kept_else f (Corrected w) b n = absurd (n w refl)
kept_else f Nothing b n = refl
kept_else f (Several t) b n = refl
kept_else f (Hollow t) b n = refl

-- where f leaves the array of 'corrected' alone
same_array : (f : List ℕ → List ℕ) (e : Ending) (b : Buffers) → ((w : ℕ) → e ≡ Corrected w → f b.array ≡ b.array)
    → on_corrected f e b ≡ b
same_array f (Refused r) b h = refl
same_array f (Corrected w) b h = λ i. record { array = h w refl i; flags = b.flags }
same_array f Nothing b h = refl
same_array f (Several t) b h = refl
same_array f (Hollow t) b h = refl

module _ (D : Description) (y : List ℕ) (E : List ℕ → Ending → Buffers → Type 0) where
  pub struck_never : ((r : Refusal) (b : Buffers) → ¬ E (divided D y) (Refused r) b) → (r : Refusal) (b : Buffers)
      → ¬ Struck D y E (Refused r) b
  struck_never never r b h = never r h.answer h.ends

  pub struck_others : (lent : Buffers)
      → ((e : Ending) (b : Buffers) → E (divided D y) e b → ((w : ℕ) → ¬ (e ≡ Corrected w)) → b ≡ lent)
      → (e : Ending) (b : Buffers) → Struck D y E e b → ((w : ℕ) → ¬ (e ≡ Corrected w)) → b ≡ lent
  struck_others lent others e b h n = h.back ∙ kept_else (multiplied D) e h.answer n ∙ others e h.answer h.ends n

  pub struck_unique : ((e e' : Ending) (b b' : Buffers) → E (divided D y) e b → E (divided D y) e' b' → (e ≡ e') × (b ≡ b'))
      → (e e' : Ending) (b b' : Buffers) → Struck D y E e b → Struck D y E e' b' → (e ≡ e') × (b ≡ b')
  struck_unique unique e e' b b' h h' =
      let same = unique e e' h.answer h'.answer h.ends h'.ends in
      (same.0, h.back ∙ ap₂ (on_corrected (multiplied D)) same.0 same.1 ∙ sym h'.back)

  pub struck_on : (F : List ℕ → Ending → Buffers → Type 0) (z : List ℕ)
      → ((e : Ending) (b : Buffers) → E (divided D y) e b → F (divided D z) e b)
      → (e : Ending) (b : Buffers) → Struck D y E e b → Struck D z F e b
  struck_on F z on e b h = record { answer = h.answer; ends = on e h.answer h.ends; back = h.back }

-- 'All ones gives today's answers'
module _ (c : Code) (p : Proper c) {y : List ℕ} (i : IsArray c y) (E : List ℕ → Ending → Buffers → Type 0)
    (answers : (w : ℕ) (b : Buffers) → E y (Corrected w) b → IsArray c b.array) where
  back_same : (e : Ending) (b : Buffers) → E y e b → on_corrected (multiplied (plain c)) e b ≡ b
  back_same e b h = same_array (multiplied (plain c)) e b
      (λ w is. multiplied-ones c p (answers w b (subst (λ (e : Ending). E y e b) is h)))

  pub ones_struck : (e : Ending) (b : Buffers) → Struck (plain c) y E e b ↔ E y e b
  ones_struck e b = (
    λ h.
        let ends = subst (λ (z : List ℕ). E z e h.answer) (divided-ones c p i) h.ends in
        subst (E y e) (sym (h.back ∙ back_same e h.answer ends)) ends,
    λ h. record { answer = b; ends = subst (λ (z : List ℕ). E z e b) (sym (divided-ones c p i)) h; back = sym (back_same e b h) },
  )

-- factors of which each is one
pub each_one_struck : (D : Description) (p : Proper D.code) → Factors D → All (λ (f : ℕ). f ≡ 1) D.factors
    → {y : List ℕ} → IsArray D.code y → (E : List ℕ → Ending → Buffers → Type 0)
    → ((w : ℕ) (b : Buffers) → E y (Corrected w) b → IsArray D.code b.array)
    → (e : Ending) (b : Buffers) → E y e b → Struck D y E e b
each_one_struck D p h one {y} i E answers e b d = subst (λ (X : Description). Struck X y E e b) is_plain
    ((ones_struck D.code p i E answers e b).1 d)
  where
    ones_are : D.factors ≡ ones (columns D.code)
    ones_are = as_ones D.factors one ∙ ap ones h.count

    is_plain : plain D.code ≡ D
    is_plain = λ j. record { code = D.code; factors = sym ones_are j }
