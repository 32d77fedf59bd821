-- What the functions inside ask. No promise cites these.
--
--   Answerable q m τ y w f    a received ring, room for its answer and its flags, and a limit that 19 lets pass
--   Judged q m τ n a e        the ring a, wrong in n symbols, ends as e: 'corrected' if it is a word and n is within τ
use Rattle.std.specs.Prelude.{◌≡◌, ◌⊎◌, List, ℕ, ◌+◌, ◌*◌, ◌≤◌, ◌<◌, length}
use Rattle.ending.specs.declared.Ending.{Ending}
use Rattle.ending.specs.declared.Ending.TheVariants.{Corrected, Nothing}
use Rattle.hermitian.specs.Ring.{IsRing, RingWord}
use Rattle.hermitian.specs.Pits.{genus}
use Rattle.hermitian.proofs.Passed.{Passed}

pub record Answerable (q m τ : ℕ) (y w f : List ℕ) : Type 0 where
  pub ring : Passed q m
  pub received : IsRing q y
  pub answer : length w ≡ q * q * q
  pub flags : length f ≡ q * q * q
  pub room : ¬ (q * q * q < m + 1 + genus q + 2 * τ)

abbrev pub Judged : (q m τ n : ℕ) (a : List ℕ) → Ending → Type 0
Judged q m τ n a e =
    ((n ≤ τ) × RingWord q m a × (e ≡ Corrected n)) ⊎ (((τ < n) ⊎ (¬ RingWord q m a)) × (e ≡ Nothing))
