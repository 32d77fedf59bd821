-- Where a line lies: the memory is cut into lines of 768 slots.
--
--   line_slots        the slots of a line
--   slots j l        the slots of line j
--   Only j f l l'    of l, the slots of line j alone were changed, by f, and l' is what came of it
--   Each n f l l'    the slots of each line j below n were changed, by f j
use Rattle.std.specs.Prelude.{◌≡◌, List, ℕ, ◌*◌, ◌<◌, length}
use Rattle.patch.specs.Parts.{part}

abbrev pub line_slots : ℕ
line_slots = 768

unfoldable pub slots : ℕ → List ℕ → List ℕ
slots j l = part (line_slots * j) line_slots l

pub record Only (j : ℕ) (f : List ℕ → List ℕ) (l l' : List ℕ) : Type 0 where
  pub long : length l' ≡ length l
  pub changed : slots j l' ≡ f (slots j l)
  pub others : (k : ℕ) → (k ≡ j → ⊥) → slots k l' ≡ slots k l

pub record Each (n : ℕ) (f : ℕ → List ℕ → List ℕ) (l l' : List ℕ) : Type 0 where
  pub long : length l' ≡ length l
  pub changed : (j : ℕ) → j < n → slots j l' ≡ f j (slots j l)
