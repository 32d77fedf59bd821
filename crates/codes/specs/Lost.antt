-- Lost columns: 02, 2026-03, 'Lost sectors'. L is the list of lost columns.

--   lost_flags n L       of n flags, 1 at the lost columns and 0 elsewhere
--   right fs l          the entries of l whose flag is 0, in their order; right_rows fs n r y, those of each of r rows of n symbols
--   core c L            the code of the remaining columns; core_of c L y, the array made of them
--   wrong_among n L fs   of n columns or sectors, how many of the remaining ones the flags fs name
--   flags_lost n L fs    the flags fs, with 2 at the lost ones
use Rattle.std.specs.Prelude.{List, [], ◌∷◌, ◌++◌, ℕ, zero, suc, take, drop}
use Rattle.refusal.specs.Refusal.{is_in}
use Rattle.codes.specs.Code.{Code, code_of, columns, rows, total, flags_from}

-- 'a list of lost columns'
abbrev pub lost_flags : ℕ → List ℕ → List ℕ
lost_flags n L = flags_from (λ i. is_in i L) 0 n

unfoldable pub right : {K : Type 0} → List ℕ → List K → List K
right [] l = []
right (f ∷ fs) [] = []
right (zero ∷ fs) (a ∷ l) = a ∷ right fs l
right (suc f ∷ fs) (a ∷ l) = right fs l

unfoldable pub right_rows : {K : Type 0} → List ℕ → ℕ → ℕ → List K → List K
right_rows fs n zero y = []
right_rows fs n (suc r) y = right fs (take n y) ++ right_rows fs n r (drop n y)

-- 'the array made of the remaining columns, in their order, with their points'
abbrev pub core : Code → List ℕ → Code
core c L = code_of c.degree (right (lost_flags (columns c) L) c.points) c.lengths

abbrev pub core_of : Code → List ℕ → List ℕ → List ℕ
core_of c L y = right_rows (lost_flags (columns c) L) (columns c) (rows c) y

-- 'wrong columns among the rest'
abbrev pub wrong_among : (n : ℕ) (lost flags : List ℕ) → ℕ
wrong_among n L fs = total (right (lost_flags n L) fs)

-- 'the lost columns are filled from the rows found, their flags are 2'
unfoldable pub twos_at : List ℕ → List ℕ → List ℕ
twos_at [] fs = []
twos_at (l ∷ ls) [] = []
twos_at (zero ∷ ls) (f ∷ fs) = f ∷ twos_at ls fs
twos_at (suc l ∷ ls) (f ∷ fs) = 2 ∷ twos_at ls fs

abbrev pub flags_lost : (n : ℕ) (lost flags : List ℕ) → List ℕ
flags_lost n L fs = twos_at (lost_flags n L) fs
