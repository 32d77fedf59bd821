-- What a step makes of the slots of a line, where x is the point of the condition at hand.
--
--   Factors d ds p cs         cs are the values ds, each times the inverse of the pivot's
--   Padded xs ys              ys begins with xs, and has zeros behind it, 784 in all
--   Pointed d n ys            ys has symbols, and from place n on zeros
--   Raisable d later width p at l    line p has symbols from slot at on, and nothing behind so many values and coefficients
--   Copied q w                w begins with q, and sixteen zeros follow
--   mixed d ds p w at j l     line j, where p is the pivot and ds are the values at the condition at hand: if neither j is the
--                             pivot nor its value zero, the multiple of w that takes its value away is added from slot at on
--   valued d xs x at l        the values from slot at on, at the points xs, become those of (X + x) times the line
--   located d x at width l    the locator from slot at on, of so many coefficients, is multiplied by (X + x)
--   raised d xs x at width l  both: the pivot, the locator of which stands behind the values
--   Turned …  l l'            at condition i of those at the points xs, first the pivot p is mixed into the other lines of s, by
--                             its part up to its width, and then it is raised
use Rattle.std.specs.Prelude.{◌≡◌, List, ℕ, ◌+◌, ◌-◌, ◌*◌, ◌^◌, ◌≤◌, ◌<◌, length, get_or, take, drop}
use Rattle.std.proofs.Math.Decide.{ℕ_discrete}
use Rattle.patch.specs.Patch.{patch}
use Rattle.patch.specs.Parts.{part, lay}
use Rattle.field.specs.Symbols.{times, over}
use Rattle.field.specs.Arithmetic.{gf}
use Rattle.lists.specs.Working.Lists.{added, multiplied}
use Rattle.poly.proofs.Forms.{lin}
use Rattle.solver.specs.Working.Slots.{line_slots, slots, Only, Each}

abbrev pub Factors : (d : ℕ) (ds : List ℕ) (p : ℕ) (cs : List ℕ) → Type 0
Factors d ds p cs = (j : ℕ) → j < 5 → get_or cs j 0 ≡ times d (get_or ds j 0) (over d 1 (get_or ds p 0))

pub record Padded (xs ys : List ℕ) : Type 0 where
  pub long : length ys ≡ 784
  pub same : (k : ℕ) → get_or ys k 0 ≡ get_or xs k 0

pub record Pointed (d n : ℕ) (ys : List ℕ) : Type 0 where
  pub long : length ys ≡ 784
  pub symbols : (k : ℕ) → get_or ys k 0 < 2 ^ d
  pub zeros : (k : ℕ) → n ≤ k → get_or ys k 0 ≡ 0

pub record Raisable (d later width p at : ℕ) (l : List ℕ) : Type 0 where
  pub within : at + later + width < line_slots
  pub line : line_slots * p + line_slots ≤ length l
  pub symbols : (k : ℕ) → get_or (slots p l) (at + k) 0 < 2 ^ d
  pub behind : (n : ℕ) → width ≤ n → get_or (slots p l) (at + later + n) 0 ≡ 0

pub record Copied (q w : List ℕ) : Type 0 where
  pub front : take (length q) w ≡ q
  pub zeros : (k : ℕ) → k < 16 → get_or w (length q + k) 0 ≡ 0

module _ (d : ℕ) (ds : List ℕ) (p : ℕ) (w : List ℕ) (at j : ℕ) where
  unfoldable pub mixed_by : List ℕ → Dec (j ≡ p) → Dec (get_or ds j 0 ≡ 0) → List ℕ
  mixed_by l (yes h) z = l
  mixed_by l (no h) (yes z) = l
  mixed_by l (no h) (no z) = patch at (length w) (added d (over d (get_or ds j 0) (get_or ds p 0)) w l at) l

  unfoldable pub mixed : List ℕ → List ℕ
  mixed l = mixed_by l (ℕ_discrete j p) (ℕ_discrete (get_or ds j 0) 0)

module _ (d : ℕ) where
  unfoldable pub valued : List ℕ → ℕ → ℕ → List ℕ → List ℕ
  valued xs x at l = patch at (length xs) (multiplied d xs x l at 0) l

  unfoldable pub located : ℕ → ℕ → ℕ → List ℕ → List ℕ
  located x at width l = lay at (lin (gf d) x 0 (part at width l)) l

  unfoldable pub raised : List ℕ → ℕ → ℕ → ℕ → List ℕ → List ℕ
  raised xs x at width l = located x (at + length xs) width (valued xs x at l)

pub record Turned (d : ℕ) (xs ds : List ℕ) (s i p width : ℕ) (l l' : List ℕ) : Type 0 where
  pub between : List ℕ
  pub mixes : Each s (mixed d ds p (part (i + 1) (length xs - (i + 1) + width) (slots p l)) (i + 1)) l between
  pub raises : Only p (raised d (drop (i + 1) xs) (get_or xs i 0) (i + 1) width) between l'
