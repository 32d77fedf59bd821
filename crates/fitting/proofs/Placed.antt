-- Arrays laid in the room one behind the other, as far as it reaches.
--
--   kept_in, kept_out    an array for which there is room, and one for which there is none
--   placed_none, placed_one, placed-append    no array, one, and arrays and then others
--   placed-laid          in a room for q arrays the first q are laid
--   turned-append        sets tried, and then others; turned_few, no more arrays are found than sets tried
-- Assumes nothing.
use mathlib.Core.Path.{◌≡◌, refl, sym, ap, ap₂, ◌∙◌}
use mathlib.Core.List.{List, [], ◌∷◌, ◌++◌, flatten}
use Prim.Native.Nat.{ℕ, zero, suc, ◌+◌, ◌*◌, ◌≤◌, ◌<◌}
use native.Mathlib.Nat.{suc-mul, add-zero, zero-mul}
use native.Mathlib.Omega.{arith}
use lib.ListN.{length, take, length-append}
use borrow.Author.Tests.{le-leb, lt-leb}
use Rattle.patch.specs.Parts.{lay}
use Rattle.patch.proofs.Parts.{length-lay, lay_none, lay-append}
use Rattle.poly.specs.Poly.{All}
use Rattle.codes.specs.Factors.{Description}
use Rattle.fitting.specs.Fitting.{InTurn}
use Rattle.fitting.specs.Working.{kept, placed, Turned}
use Rattle.fitting.proofs.Listed.{turns_append}

pub kept_in : (count : ℕ) (a room : List ℕ) → count * length a + length a ≤ length room → kept count a room ≡ lay (count * length a) a room
unfolding kept
kept_in count a room h = rw (le-leb _ _ h)

pub kept_out : (count : ℕ) (a room : List ℕ) → ¬ (count * length a + length a ≤ length room) → kept count a room ≡ room
unfolding kept
kept_out count a room h = let g : length room < count * length a + length a = omega arith in rw (lt-leb _ _ g)

pub placed_none : (count : ℕ) (room : List ℕ) → placed count [] room ≡ room
unfolding placed
placed_none count room = refl

pub placed_one : (count : ℕ) (a room : List ℕ) → placed count (a ∷ []) room ≡ kept count a room
unfolding placed
placed_one count a room = refl

pub placed-append : (count : ℕ) (l k : List (List ℕ)) (room : List ℕ)
    → placed count (l ++ k) room ≡ placed (count + length l) k (placed count l room)
unfolding placed
placed-append count [] k room = rw add-zero
placed-append count (a ∷ l) k room = placed-append (suc count) l k (kept count a room)
    ∙ ap (λ (n : ℕ). placed n k (placed (suc count) l (kept count a room))) (omega arith)

module _ (cells : ℕ) where
  abbrev Sized : List (List ℕ) → Type 0
  Sized l = All (λ (a : List ℕ). length a ≡ cells) l

  -- the first q arrays are at most q times as long
  fits : (q : ℕ) (l : List (List ℕ)) → Sized l → length (flatten (take q l)) ≤ q * cells
  unfolding flatten
  fits zero l h = omega arith
  fits (suc q) [] h = omega arith
  fits (suc q) (a ∷ l) h = omega (arith, length-append a (flatten (take q l)), h.0, fits q l h.1, suc-mul q cells)

  -- without room for another array nothing changes
  full : (count : ℕ) (l : List (List ℕ)) (room : List ℕ) → Sized l → length room < count * cells + cells → placed count l room ≡ room
  unfolding placed
  full count [] room h r = refl
  full count (a ∷ l) room h r =
      let out : kept count a room ≡ room = kept_out count a room (λ q. full_not q) in
      ap (placed (suc count) l) out ∙ full (suc count) l room h.1 (omega (arith, suc-mul count cells))
    where
      full_not : ¬ (count * length a + length a ≤ length room)
      full_not = rw h.0 (λ q. omega arith)

  placed_from : 1 ≤ cells → (q count : ℕ) (l : List (List ℕ)) (room : List ℕ) → Sized l → length room ≡ count * cells + q * cells
      → placed count l room ≡ lay (count * cells) (flatten (take q l)) room
  unfolding placed flatten
  placed_from some zero count l room h e = full count l room h (omega arith) ∙ sym (lay_none (count * cells) room)
  placed_from some (suc q) count [] room h e = sym (lay_none (count * cells) room)
  placed_from some (suc q) count (a ∷ l) room h e =
      let rest : List ℕ = flatten (take q l) in
      let size : length room ≡ count * cells + (q * cells + cells) = omega (arith, suc-mul q cells) in
      let here : kept count a room ≡ lay (count * cells) a room =
      kept_in count a room (rw h.0 (omega arith)) ∙ ap (λ (n : ℕ). lay (count * n) a room) h.0 in
      let long : length (lay (count * cells) a room) ≡ length room = length-lay (count * cells) a room in
      let next : suc count * cells ≡ count * cells + length a = omega (arith, suc-mul count cells, h.0) in
      ap (placed (suc count) l) here
      ∙ placed_from some q (suc count) l (lay (count * cells) a room) h.1 (omega (arith, suc-mul count cells))
      ∙ ap (λ (n : ℕ). lay n rest (lay (count * cells) a room)) next
      ∙ lay-append (count * cells) a rest room (omega (arith, length-append a rest, h.0, fits q l h.1))

  -- 'writes the first ones that fit the lent room, the rest of that room unchanged'
  pub placed-laid : 1 ≤ cells → (q : ℕ) (l : List (List ℕ)) (room : List ℕ) → Sized l → length room ≡ q * cells
      → placed 0 l room ≡ lay 0 (flatten (take q l)) room
  placed-laid some q l room h e = placed_from some q 0 l room h (omega (arith, zero-mul cells))
      ∙ ap (λ (n : ℕ). lay n (flatten (take q l)) room) (zero-mul cells)

turns_few : {Fit : List ℕ → List ℕ → Type 0} {Ws l : List (List ℕ)} → InTurn Fit Ws l → length l ≤ length Ws
turns_few InTurn.end = omega arith
turns_few (InTurn.one f o r) = omega (arith, turns_few r)
turns_few (InTurn.none n r) = omega (arith, turns_few r)

module _ {D : Description} {z : List ℕ} {Ws : List (List ℕ)} {count r : ℕ} {room room' : List ℕ}
    (t : Turned D z Ws count room r room') where
  pub turned_few : r ≤ count + length Ws
  turned_few = omega (arith, t.total, turns_few t.turns)

  pub turned-append : {Us : List (List ℕ)} {s : ℕ} {room'' : List ℕ} → Turned D z Us r room' s room''
      → Turned D z (Ws ++ Us) count room s room''
  turned-append u = record {
    arrays = t.arrays ++ u.arrays;
    turns = turns_append t.turns u.turns;
    total = omega (arith, u.total, t.total, length-append t.arrays u.arrays);
    left = u.left ∙ ap₂ (λ (n : ℕ) (m : List ℕ). placed n u.arrays m) t.total t.left
        ∙ sym (placed-append count t.arrays u.arrays room);
  }
