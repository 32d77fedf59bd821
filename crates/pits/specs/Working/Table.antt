-- A table of lines that are values only, and what a step and a run make of it. It is flat: of s lines at the points xs, line j has its
-- value at condition i in slot length xs · j + i.
--
--   Symbols d n l            the first n of l are symbols; SlotsIn d n s l, so are the slots of s lines, each of n slots
--   Low s b leads            the leads of s lines are at most b
--   heads n i s l            the values of s lines at condition i, with n slots a line
--   line_mixed d ds p w j l   line j, where w is the line of the pivot p and ds are the values at the condition at hand: if neither j is
--                            the pivot nor its value zero, the multiple of w that takes its value away is added
--   lines_mixed … n l         so the lines below n, one after the other
--   line_of n p l             line p
--   turned d xs i s ds p l   so all s lines, and the pivot's value at each point is multiplied by that point plus point i
--   stepped d xs s i τ       leads and slots after a step at condition i: the pivot is the first line of lowest lead among those whose
--                            value is not zero, and its lead rises by s
--   ran d xs s used n τ      after the steps at the conditions below n that are used
--   Laid d xs s l            the lines have symbols, and there is room for s of them; MixingLine, Mixing, Turning, Stepping, Running,
--                            what the functions ask for
--   Least leads s r          of s lines, r is the number of one of least lead
use Rattle.std.specs.Prelude.{◌≡◌, List, ℕ, zero, suc, ◌+◌, ◌*◌, ◌^◌, ◌≤◌, ◌<◌, length, get_or, set, replicate}
use Rattle.std.proofs.Math.Option.{Option, none, some}
use Rattle.std.proofs.Math.Decide.{ℕ_discrete}
use Rattle.patch.specs.Patch.{patch}
use Rattle.patch.specs.Parts.{part}
use Rattle.field.specs.Symbols.{over}
use Rattle.lists.specs.Working.Lists.{added_at, multiplied_at}
use Rattle.solver.specs.Working.Scan.{first_lowest}

abbrev pub Symbols : (d n : ℕ) (l : List ℕ) → Type 0
Symbols d n l = (k : ℕ) → k < n → get_or l k 0 < 2 ^ d

abbrev pub SlotsIn : (d n s : ℕ) (l : List ℕ) → Type 0
SlotsIn d n s l = (j i : ℕ) → j < s → i < n → get_or l (n * j + i) 0 < 2 ^ d

abbrev pub Low : (s b : ℕ) (leads : List ℕ) → Type 0
Low s b leads = (j : ℕ) → j < s → get_or leads j 0 ≤ b

unfoldable pub heads : ℕ → ℕ → ℕ → List ℕ → List ℕ
heads n i s l = patch 0 s (λ j. get_or l (n * j + i) 0) (replicate 8 0)

module _ (d : ℕ) (ds : List ℕ) (p : ℕ) (w : List ℕ) where
  unfoldable pub line_mixed_by : (j : ℕ) → List ℕ → Dec (j ≡ p) → Dec (get_or ds j 0 ≡ 0) → List ℕ
  line_mixed_by j l (yes h) z = l
  line_mixed_by j l (no h) (yes z) = l
  line_mixed_by j l (no h) (no z) = added_at d (over d (get_or ds j 0) (get_or ds p 0)) w l (length w * j)

  unfoldable pub line_mixed : ℕ → List ℕ → List ℕ
  line_mixed j l = line_mixed_by j l (ℕ_discrete j p) (ℕ_discrete (get_or ds j 0) 0)

  unfoldable pub lines_mixed : ℕ → List ℕ → List ℕ
  lines_mixed zero l = l
  lines_mixed (suc n) l = line_mixed n (lines_mixed n l)

abbrev pub line_of : ℕ → ℕ → List ℕ → List ℕ
line_of n p l = part (n * p) n l

module _ (d : ℕ) (xs : List ℕ) where
  unfoldable pub turned : (i s : ℕ) (ds : List ℕ) (p : ℕ) → List ℕ → List ℕ
  turned i s ds p l = multiplied_at d xs (get_or xs i 0) (lines_mixed d ds p (line_of (length xs) p l) s l) (length xs * p) 0

  module _ (s : ℕ) where
    unfoldable pub stepped_by : ℕ → List ℕ × List ℕ → Option ℕ → List ℕ × List ℕ
    stepped_by i τ none = τ
    stepped_by i τ (some p) = (set τ.0 p (get_or τ.0 p 0 + s), turned i s (heads (length xs) i s τ.1) p τ.1)

    unfoldable pub stepped : ℕ → List ℕ × List ℕ → List ℕ × List ℕ
    stepped i τ = stepped_by i τ (first_lowest (heads (length xs) i s τ.1) τ.0 s)

    module _ (used : List ℕ) where
      unfoldable pub ran_by : (i : ℕ) → List ℕ × List ℕ → Dec (get_or used i 0 ≡ 0) → List ℕ × List ℕ
      ran_by i τ (yes z) = τ
      ran_by i τ (no z) = stepped i τ

      unfoldable pub ran : ℕ → List ℕ × List ℕ → List ℕ × List ℕ
      ran zero τ = τ
      ran (suc n) τ = ran_by n (ran n τ) (ℕ_discrete (get_or used n 0) 0)

pub record MixingLine (d : ℕ) (ds : List ℕ) (p : ℕ) (w : List ℕ) (j : ℕ) (l : List ℕ) : Type 0 where
  pub pivot : p < 8
  pub line : j < 8
  pub value : get_or ds j 0 < 2 ^ d
  pub divisor : get_or ds p 0 < 2 ^ d
  pub nonzero : get_or ds p 0 ≡ 0 → ⊥
  pub room : length w * j + length w ≤ length l

pub record Mixing (d : ℕ) (ds : List ℕ) (p : ℕ) (w : List ℕ) (s : ℕ) (l : List ℕ) : Type 0 where
  pub pivot : p < s
  pub few : s ≤ 8
  pub values : Symbols d s ds
  pub nonzero : get_or ds p 0 ≡ 0 → ⊥
  pub room : length w * s ≤ length l

pub record Laid (d : ℕ) (xs : List ℕ) (s : ℕ) (l : List ℕ) : Type 0 where
  pub points : Symbols d (length xs) xs
  pub narrow : length xs ≤ 128
  pub few : s ≤ 8
  pub room : length xs * s ≤ length l
  pub symbols : SlotsIn d (length xs) s l

pub record Turning (d : ℕ) (xs : List ℕ) (i s : ℕ) (ds : List ℕ) (p : ℕ) (l : List ℕ) : Type 0 where
  pub laid : Laid d xs s l
  pub here : i < length xs
  pub pivot : p < s
  pub values : Symbols d s ds
  pub nonzero : get_or ds p 0 ≡ 0 → ⊥

pub record Stepping (d : ℕ) (xs : List ℕ) (i s : ℕ) (leads l : List ℕ) : Type 0 where
  pub laid : Laid d xs s l
  pub here : i < length xs
  pub low : Low s 65535 leads

pub record Running (d : ℕ) (xs used : List ℕ) (s : ℕ) (leads l : List ℕ) : Type 0 where
  pub laid : Laid d xs s l
  pub short : length used ≤ length xs
  pub low : Low s 4096 leads

pub record Least (leads : List ℕ) (s r : ℕ) : Type 0 where
  pub below : r < s
  pub least : (j : ℕ) → j < s → get_or leads r 0 ≤ get_or leads j 0
