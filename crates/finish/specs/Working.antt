-- What filling in computes. No promise cites these.
--
--   flag_of m                 the flag of a column with the mark m: 1 where that is 0; zeros_in ms, the flags of all
--   put ms vs ys             ys with the next of vs wherever ms has 0
--   refilled d gs ws fs ms ys  a row ys with its wrong columns, where ms is 0, filled in at their points ws; of the right
--                            columns, where fs is 0, the first have the points gs
--   Marked c fs ms           the columns with the mark 0 are wrong, their flags are fs, and every row has its columns beside them
--   Filling c gs ws fs ms y l  what filling in the wrong columns of y, in l, asks for; gs are the points of the right columns, and
--                            ws those of the wrong ones
--   filled_at c y fs l        l when the filled array stands in it
--   fronts c a f             an array and flags at the front of longer ones
--   released e own lent      what a decoding leaves of the buffers lent, where it worked in buffers of its own
use Rattle.std.specs.Prelude.{◌≡◌, List, [], ◌∷◌, map, ℕ, zero, suc, ◌*◌, length, take}
use Rattle.patch.specs.Parts.{lay}
use Rattle.field.specs.Arithmetic.{gf}
use Rattle.poly.proofs.Forms.{reduce, newton_value_lem}
use Rattle.codes.specs.Code.{Code, rows, columns, total}
use Rattle.codes.specs.Lost.{right}
use Rattle.codes.proofs.Limits.{Room}
use Rattle.ending.specs.Working.{Ready, most_cells}
use Rattle.ending.specs.Endings.{Buffers}
use Rattle.ending.proofs.Model.{filled}
use Rattle.ending.specs.declared.Ending.{Ending}
use Rattle.ending.specs.declared.Ending.TheVariants.{Refused, Corrected, Nothing, Several, Hollow}

abbrev pub flag_of : ℕ → ℕ
flag_of zero = 1
flag_of (suc m) = 0

unfoldable pub zeros_in : List ℕ → List ℕ
zeros_in ms = map flag_of ms

unfoldable pub put : List ℕ → List ℕ → List ℕ → List ℕ
put [] vs ys = ys
put (m ∷ ms) vs [] = []
put (zero ∷ ms) [] (y ∷ ys) = y ∷ ys
put (zero ∷ ms) (v ∷ vs) (y ∷ ys) = v ∷ put ms vs ys
put (suc m ∷ ms) vs (y ∷ ys) = y ∷ put ms vs ys

unfoldable pub refilled : ℕ → (gs ws fs ms ys : List ℕ) → List ℕ
refilled d gs ws fs ms ys =
    let k : ℕ = length gs in
    put ms (map (newton_value_lem (gf d) k gs (reduce (gf d) k gs (take k (right fs ys)))) ws) ys

pub record Marked (c : Code) (fs ms : List ℕ) : Type 0 where
  pub flags : fs ≡ zeros_in ms
  pub count : length ms ≡ columns c
  pub room : Room (columns c) (total fs) c.lengths

pub record Filling (c : Code) (gs ws fs ms y l : List ℕ) : Type 0 where
  pub ready : Ready c y
  pub long : length l ≡ most_cells
  pub marked : Marked c fs ms
  pub good : gs ≡ right fs c.points
  pub wrong : ws ≡ right ms c.points

abbrev pub filled_at : Code → List ℕ → List ℕ → List ℕ → List ℕ
filled_at c y fs l = lay 0 (filled c y fs) l

abbrev pub fronts : Code → List ℕ → List ℕ → Buffers
fronts c a f = record { array = take (rows c * columns c) a; flags = take (columns c) f }

-- 'its array is written'; 'Every other ending leaves array and flags untouched.'
abbrev pub released : Ending → Buffers → Buffers → Buffers
released (Refused r) own lent = lent
released (Corrected w) own lent = own
released Nothing own lent = lent
released (Several t) own lent = lent
released (Hollow t) own lent = lent
