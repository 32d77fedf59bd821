-- The lines of the pairs of functions on a ring: what they are at the start, what they hold after a run, and the answer.
--
--   forms q m r              the slots of a line: N + r·L at every point, and then L at every point
--   flagged used i           the i-th of used is not zero
--   Twice n f l              l has f 0, …, f (n − 1) twice
--   grown d ys w j           the symbols of w, each multiplied j times by that of ys at its place
--   lines_laid … first n l    l with n lines from line `first` on: w, and each further one the line before it times ys
--   start_laid q ys r l       with the lines of L, whose slots are r·y^j and y^j, and those of N, whose slots are y^j and zeros
--   leads_laid q m leads      with the leads of these lines
--   Solved q m r used leads l    the table holds the model's run over the points that are flagged
--   Weighs q m r w           w is not zero at just those points that the model uses in its second run
--   answer_over q m r used    the model's answer, if the second run is over the points that are flagged
--   Laying, Starting, Given, Solving, Answering, Received    what the functions ask for
use Rattle.std.specs.Prelude.{◌≡◌, Bool, false, not, ℕ, zero, suc, ◌+◌, ◌*◌, ◌≤◌, ◌<◌, eqb, length, get_or, take, replicate}
use mathlib.Core.List.{List, ◌++◌, map, flat_map}
use Rattle.patch.specs.Patch.{patch}
use Rattle.patch.specs.Parts.{lay}
use Rattle.lists.specs.Working.Lists.{multiplied_at}
use Rattle.basis.proofs.Basis.{Form}
use Rattle.hermitian.specs.Ring.{numbers, sector, IsRing}
use Rattle.hermitian.specs.Checks.{bad_size, bad_order}
use Rattle.curve.proofs.Zeros.{point}
use Rattle.curve.proofs.Model.{condition_d, condition_l, ring_pairs, ran, used, answer_by}
use Rattle.pits.specs.Working.Table.{Symbols}
use Rattle.pits.specs.Working.Holds.{Holds}

abbrev pub forms : ℕ → ℕ → List ℕ → List (Form ℕ)
forms q m r = map (condition_d q m r) (numbers (q * q * q)) ++ map (condition_l q m) (numbers (q * q * q))

unfoldable pub flagged : List ℕ → ℕ → Bool
flagged us i = not (eqb (get_or us i 0) 0)

pub record Twice (n : ℕ) (f : ℕ → ℕ) (l : List ℕ) : Type 0 where
  pub first : (i : ℕ) → i < n → get_or l i 0 ≡ f i
  pub second : (i : ℕ) → i < n → get_or l (n + i) 0 ≡ f i

-- ---- The start.

module _ (d : ℕ) (ys w : List ℕ) where
  unfoldable pub grown : ℕ → List ℕ
  grown zero = w
  grown (suc j) = multiplied_at d ys 0 (grown j) 0 0

  unfoldable pub lines_laid : (first n : ℕ) → List ℕ → List ℕ
  lines_laid first zero l = l
  lines_laid first (suc n) l = lay (length ys * (first + n)) (take (length ys) (grown n)) (lines_laid first n l)

abbrev pub line_l : List ℕ → List ℕ
line_l r = lay 0 r (replicate 128 1)

abbrev pub line_n : ℕ → List ℕ
line_n n = patch n n (λ k. 0) (replicate 128 1)

unfoldable pub start_laid : ℕ → List ℕ → List ℕ → List ℕ → List ℕ
start_laid q ys r l = lines_laid q ys (line_n (length r)) q q (lines_laid q ys (line_l r) 0 q l)

unfoldable pub leads_laid : ℕ → ℕ → List ℕ → List ℕ
leads_laid q m leads =
    patch q q (λ j. 0 + j * (2 * (q + 1))) (patch 0 q (λ j. 2 * m + 1 + j * (2 * (q + 1))) leads)

-- ---- What is asked for, and what is left.

pub record Laying (d : ℕ) (ys w : List ℕ) (first n : ℕ) (l : List ℕ) : Type 0 where
  pub narrow : length ys ≤ 128
  pub enough : length ys ≤ length w
  pub factors : Symbols d (length ys) ys
  pub symbols : Symbols d (length ys) w
  pub few : first + n ≤ 8
  pub room : length ys * (first + n) ≤ length l

pub record Starting (q : ℕ) (ys r l : List ℕ) : Type 0 where
  pub size : bad_size q ≡ false
  pub ring : IsRing q r
  pub wide : length ys ≡ q * q * q + q * q * q
  pub factors : Symbols q (length ys) ys
  pub long : length l ≡ 1024

pub record Given (q m : ℕ) (xs ys r : List ℕ) : Type 0 where
  pub size : bad_size q ≡ false
  pub order : bad_order q m ≡ false
  pub ring : IsRing q r
  pub wide : length xs ≡ q * q * q + q * q * q
  pub high : length ys ≡ q * q * q + q * q * q
  pub columns : Twice (q * q * q) (λ i. (point q i).0) xs
  pub ordinates : Twice (q * q * q) (λ i. (point q i).1) ys

pub record Solving (q m : ℕ) (xs ys r us leads l : List ℕ) : Type 0 where
  pub given : Given q m xs ys r
  pub flags : length us ≡ q * q * q
  pub eight : length leads ≡ 8
  pub long : length l ≡ 1024

abbrev pub Solved : (q m : ℕ) (r us leads l : List ℕ) → Type 0
Solved q m r us leads l =
    (size : bad_size q ≡ false) → Holds q (ring_pairs q size m) (forms q m r) (ran q m r (flagged us)) leads l

abbrev pub Weighs : (q m : ℕ) (r w : List ℕ) → Type 0
Weighs q m r w = (i : ℕ) → i < q * q * q → flagged w i ≡ used q m r i

unfoldable pub answer_over : (q m : ℕ) (r us : List ℕ) → List ℕ
answer_over q m r us = answer_by q m r (ran q m r (flagged us))

pub record Answering (q m : ℕ) (xs ys r us out : List ℕ) : Type 0 where
  pub given : Given q m xs ys r
  pub flags : length us ≡ q * q * q
  pub room : length out ≡ q * q * q

pub record Received (q m : ℕ) (ys r out : List ℕ) : Type 0 where
  pub size : bad_size q ≡ false
  pub order : bad_order q m ≡ false
  pub ordinates : ys ≡ flat_map (sector q) (numbers (q * q))
  pub ring : IsRing q r
  pub room : length out ≡ q * q * q
