-- Bytes read behind those that are there.
--
--   front_then    the front of the two is the two
-- Assumes nothing.
use mathlib.Core.Path.{◌≡◌, ap, ◌∙◌}
use mathlib.Core.List.{List, ◌++◌}
use Prim.Native.Nat.{ℕ, ◌+◌, ◌≤◌}
use native.Mathlib.Omega.{arith}
use lib.ListN.{length, take}
use lib.Seq.{length-take-le, take-append-le, take-append-add}

pub front_then : (xs ys behind : List ℕ) (a n : ℕ) → a ≤ length xs → n ≤ length ys
    → take (a + n) (take a xs ++ (ys ++ behind)) ≡ take a xs ++ take n ys
front_then xs ys behind a n held read =
    let p : List ℕ = take a xs in
    let there : a + n ≡ length p + n = omega (arith, length-take-le a xs held) in
    ap (λ (k : ℕ). take k (p ++ (ys ++ behind))) there ∙ take-append-add p (ys ++ behind) n
    ∙ ap (λ (l : List ℕ). p ++ l) (take-append-le n ys behind read)
