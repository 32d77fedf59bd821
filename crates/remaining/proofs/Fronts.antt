-- Flags of all columns, and how the code holds them at the front of 96.
--
--   merged-count, fill_count    there is one for each column
--   lost_front, same_front      those of the lost columns, and twos, at the front
--   lost_next                   one lost column more, behind the others, is one flag set
-- Assumes nothing.
use mathlib.Core.Path.{◌≡◌, refl, sym, ap, ◌∙◌}
use mathlib.Core.Bool.{Bool, true, false, ◌||◌}
use mathlib.Core.List.{List, [], ◌∷◌, ◌++◌}
use Prim.Native.Nat.{ℕ, zero, suc, ◌+◌, ◌≤◌, ◌<◌}
use native.Mathlib.Omega.{arith}
use lib.ListN.{length, get_or, set, take, replicate, length-replicate}
use lib.Dec.{eqb}
use Rattle.std.proofs.lemmas.List.{take_more}
use Rattle.refusal.specs.Refusal.{is_in}
use Rattle.codes.specs.Code.{flag, flags_from}
use Rattle.codes.specs.Lost.{lost_flags}
use Rattle.codes.proofs.Flags.{flags_same}
use Rattle.codes.proofs.Lost.{lost_more}
use Rattle.finish.specs.Working.{zeros_in}
use Rattle.finish.proofs.Marks.{zeros-count, put_count}
use Rattle.remaining.specs.Working.{merged, to_fill}

pub merged-count : (ls fs : List ℕ) → length (merged ls fs) ≡ length ls
unfolding merged
merged-count ls fs = put_count ls fs (replicate (length ls) 2) ∙ length-replicate (length ls) 2

pub fill_count : (fs : List ℕ) → length (to_fill fs) ≡ length fs
unfolding to_fill
fill_count fs = zeros-count (zeros_in fs) ∙ zeros-count fs

-- as the code holds them, at the front of 96

flags_front : (f : ℕ → Bool) (i n m : ℕ) → n ≤ m → take n (flags_from f i m) ≡ flags_from f i n
unfolding flags_from
flags_front f i zero m h = refl
flags_front f i (suc n) zero h = absurd (omega arith)
flags_front f i (suc n) (suc m) h = ap (◌∷◌ (flag (f i))) (flags_front f (suc i) n m (omega arith))

pub lost_front : (n : ℕ) (L : List ℕ) {s : List ℕ} → n ≤ 96 → s ≡ lost_flags 96 L → take n s ≡ lost_flags n L
lost_front n L h is = ap (take n) is ∙ flags_front (λ i. is_in i L) 0 n 96 h

pub same_front : (a n m : ℕ) → n ≤ m → take n (replicate m a) ≡ replicate n a
same_front a zero m h = refl
same_front a (suc n) zero h = absurd (omega arith)
same_front a (suc n) (suc m) h = ap (◌∷◌ a) (same_front a n m (omega arith))

-- one lost column after the other

or_swap : (a b c : Bool) → (a || (b || c)) ≡ (b || (a || c))
or_swap true true c = refl
or_swap true false c = refl
or_swap false b c = refl

is_in_last : (i j : ℕ) (L : List ℕ) → is_in i (L ++ (j ∷ [])) ≡ is_in i (j ∷ L)
unfolding is_in
is_in_last i j [] = refl
is_in_last i j (a ∷ L) = ap (λ (b : Bool). eqb i a || b) (is_in_last i j L) ∙ or_swap (eqb i a) (eqb i j) (is_in i L)

pub lost_next : (n : ℕ) (L : List ℕ) (l : ℕ) → l < length L → get_or L l 0 < n
    → set (lost_flags n (take l L)) (get_or L l 0) 1 ≡ lost_flags n (take (l + 1) L)
lost_next n L l h below =
    let j = get_or L l 0 in
    lost_more n j (take l L) below
    ∙ flags_same (λ i. is_in i (j ∷ take l L)) (λ i. is_in i (take (l + 1) L)) n
    (λ i q. sym (rw (take_more L l 0 h) (is_in_last i j (take l L))))
