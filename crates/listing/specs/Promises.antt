-- What listing promises: 02, 2026-10, 'Lent no flags or working space, it returns the total and writes the first ones that fit the lent
-- room, the rest of that room unchanged.'

--   Answer               what a listing answers: the total, or the reason for which it is refused; of_total t, what the total t means
--   meaning              the number and values of an answer
--   Left                 what a listing leaves: what its answer means, and the room; left, that of these; refused, that of a refusal
--   written c l room     the room with the first of the arrays l that fit it
--   Lists D τ y room     the listing of y
use Rattle.std.specs.Prelude.{◌≡◌, ℕ, Result, Ok, Err, ◌*◌, ◌/◌, length, take}
use mathlib.Core.List.{List, [], ◌∷◌, flatten}
use Rattle.patch.specs.Parts.{lay}
use Rattle.refusal.specs.Keeping.{Keeps}
use Rattle.refusal.specs.Meaning.{Meaning, refusal}
use Rattle.refusal.specs.Numbers.{number}
use Rattle.refusal.specs.declared.Refusal.{Refusal}
use Rattle.codes.specs.Code.{Code, columns, rows}
use Rattle.codes.specs.Factors.{Description}
use Rattle.fitting.specs.Fitting.{Fitting}
use Rattle.listing.specs.Checks.{list_checks}

-- 'it returns the total', or 'refused' with its number; for the C caller the one is 256 + total, and the other that number
abbrev pub of_total : ℕ → Meaning
of_total t = (1, t ∷ [])

abbrev pub Answer : Type 0
Answer = Result ℕ Refusal

abbrev pub meaning : Answer → Meaning
meaning (Ok t) = of_total t
meaning (Err r) = refusal (number r)

pub record Left : Type 0 where
  pub answer : Meaning
  pub room : List ℕ

abbrev pub left : Answer → List ℕ → Left
left a room = record { answer = meaning a; room = room }

-- refused with the number k, the room as lent
abbrev pub refused : List ℕ → ℕ → Left
refused room k = record { answer = refusal k; room = room }

-- 'writes the first ones that fit the lent room, the rest of that room unchanged'
abbrev pub written : Code → List (List ℕ) → List ℕ → List ℕ
written c l room = lay 0 (flatten (take (length room / (rows c * columns c)) l)) room

-- l are the arrays that fit, in their turn
abbrev pub Lists : (D : Description) (limit : ℕ) (received room : List ℕ) → Left → Type 0
Lists D τ y room = Keeps (list_checks D τ y room) (refused room)
    (λ x. (l : List (List ℕ)) × Fitting D τ y l × (x ≡ left (Ok (length l)) (written D.code l room)))
