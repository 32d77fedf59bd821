-- The laws of sums, products and quotients, as lemmas that `simp` can be handed.
--
--   ring            closes every identity of sums and products in characteristic 2
--   plus_cancel     a sum is zero only of equals
--   no_divisors     a product of symbols is zero only if a factor is
--   times_cancel    a factor other than zero can be taken away
--   over_unique     the quotient is the one symbol that times the divisor gives the dividend
-- Assumes nothing.
use mathlib.Core.Path.{◌≡◌, sym, ap, ◌∙◌}
use Rattle.field.specs.Arithmetic.{Arithmetic}
use Rattle.field.proofs.Laws.{Field}

module _ {K : Type 0} (A : Arithmetic K) (𝓕 : Field A) where
  infixl 65 ◌⊕◌
  infixl 70 ◌⊗◌ ◌⊘◌
  open A use {In, zero as 𝟎, one as 𝟏, plus as ◌⊕◌, times as ◌⊗◌, over as ◌⊘◌}

  pub plus_comm : (a b : K) → a ⊕ b ≡ b ⊕ a
  plus_comm = 𝓕.plus_comm

  pub plus_assoc : (a b c : K) → a ⊕ b ⊕ c ≡ a ⊕ (b ⊕ c)
  plus_assoc = 𝓕.plus_assoc

  pub plus-left_comm : (a b c : K) → a ⊕ (b ⊕ c) ≡ b ⊕ (a ⊕ c)
  plus-left_comm a b c = sym (plus_assoc a b c) ∙ ap (λ (t : K). t ⊕ c) (plus_comm a b) ∙ plus_assoc b a c

  pub zero_plus : (a : K) → 𝟎 ⊕ a ≡ a
  zero_plus = 𝓕.zero_plus

  pub plus-zero : (a : K) → a ⊕ 𝟎 ≡ a
  plus-zero a = plus_comm a 𝟎 ∙ zero_plus a

  pub plus_self : (a : K) → a ⊕ a ≡ 𝟎
  plus_self = 𝓕.plus_self

  pub plus-plus : (a b : K) → a ⊕ (a ⊕ b) ≡ b
  plus-plus a b = sym (plus_assoc a a b) ∙ ap (λ (t : K). t ⊕ b) (plus_self a) ∙ zero_plus b

  pub times_comm : (a b : K) → a ⊗ b ≡ b ⊗ a
  times_comm = 𝓕.times_comm

  pub times_assoc : (a b c : K) → a ⊗ b ⊗ c ≡ a ⊗ (b ⊗ c)
  times_assoc = 𝓕.times_assoc

  pub times-left_comm : (a b c : K) → a ⊗ (b ⊗ c) ≡ b ⊗ (a ⊗ c)
  times-left_comm a b c = sym (times_assoc a b c) ∙ ap (λ (t : K). t ⊗ c) (times_comm a b) ∙ times_assoc b a c

  pub times_plus : (a b c : K) → a ⊗ (b ⊕ c) ≡ a ⊗ b ⊕ a ⊗ c
  times_plus = 𝓕.times_plus

  pub plus_times : (a b c : K) → (a ⊕ b) ⊗ c ≡ a ⊗ c ⊕ b ⊗ c
  plus_times a b c = times_comm (a ⊕ b) c ∙ times_plus c a b ∙ rw (times_comm c a, times_comm c b)

  pub times_zero : (a : K) → a ⊗ 𝟎 ≡ 𝟎
  times_zero a = ap (λ (t : K). a ⊗ t) (sym (plus_self 𝟎)) ∙ times_plus a 𝟎 𝟎 ∙ plus_self (a ⊗ 𝟎)

  pub zero-times : (a : K) → 𝟎 ⊗ a ≡ 𝟎
  zero-times a = times_comm 𝟎 a ∙ times_zero a

  pub ruleset ring = (
    plus_comm,
    plus_assoc,
    plus-left_comm,
    zero_plus,
    plus-zero,
    plus_self,
    plus-plus,
    times_comm,
    times_assoc,
    times-left_comm,
    times_plus,
    plus_times,
    times_zero,
    zero-times,
  )

  pub plus_twice : (a b : K) → a ⊕ b ⊕ b ≡ a
  plus_twice a b = simp ring

  pub plus_cancel : {a b : K} → a ⊕ b ≡ 𝟎 → a ≡ b
  plus_cancel {a} {b} h = sym (plus-plus b a) ∙ rw (plus_comm b a, h, plus-zero)

  pub plus_apart : {a b : K} → ¬ (a ≡ b) → ¬ (a ⊕ b ≡ 𝟎)
  plus_apart h e = h (plus_cancel e)

  pub one_times : {a : K} → In a → 𝟏 ⊗ a ≡ a
  one_times {a} h = 𝓕.one_times a h

  pub times_one : {a : K} → In a → a ⊗ 𝟏 ≡ a
  times_one {a} h = times_comm a 𝟏 ∙ one_times h

  undo : {a b : K} → In a → In b → ¬ (a ≡ 𝟎) → (𝟏 ⊘ a) ⊗ (a ⊗ b) ≡ b
  undo {a} {b} p q h = sym (times_assoc (𝟏 ⊘ a) a b) ∙ rw (𝓕.over_times 𝟏 a 𝓕.one_in p h) (one_times q)

  pub times_cancel : {a b c : K} → In a → In b → In c → ¬ (a ≡ 𝟎) → a ⊗ b ≡ a ⊗ c → b ≡ c
  times_cancel {a} p q r h e = sym (undo p q h) ∙ ap (λ (t : K). (𝟏 ⊘ a) ⊗ t) e ∙ undo p r h

  pub no_divisors : {a b : K} → In a → In b → ¬ (a ≡ 𝟎) → a ⊗ b ≡ 𝟎 → b ≡ 𝟎
  no_divisors {a} p q h e = times_cancel p q 𝓕.zero_in h (e ∙ sym (times_zero a))

  pub over_times : {a b : K} → In a → In b → ¬ (b ≡ 𝟎) → b ⊗ (a ⊘ b) ≡ a
  over_times {a} {b} p q h = times_comm b (a ⊘ b) ∙ 𝓕.over_times a b p q h

  pub over_unique : {a b c : K} → In a → In b → In c → ¬ (b ≡ 𝟎) → b ⊗ c ≡ a → a ⊘ b ≡ c
  over_unique {a} {b} p q r h e = times_cancel q (𝓕.over_in a b) r h (over_times p q h ∙ sym e)

  pub times-over : {a b : K} (c : K) → In a → In b → ¬ (b ≡ 𝟎) → b ⊗ (a ⊘ b ⊗ c) ≡ a ⊗ c
  times-over {a} {b} c p q h = sym (times_assoc b (a ⊘ b) c) ∙ ap (λ (t : K). t ⊗ c) (over_times p q h)
