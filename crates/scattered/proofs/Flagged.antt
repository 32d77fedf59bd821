-- Flags that a loop writes one after the other, and their count.
--
--   all_flagged    when every place is written, they are the flags
--   count_more     their count one place further
--   count_most     it is at most the number of places
--   flag_byte      a test as a byte is its flag
--   none_wrong     a ring does not differ from itself
-- Assumes nothing.
use mathlib.Core.Path.{◌≡◌, refl, sym, ap, ◌∙◌}
use mathlib.Core.Bool.{Bool, true, false, not}
use mathlib.Core.List.{List}
use Prim.Native.Nat.{ℕ, zero, suc, ◌+◌, ◌*◌, ◌≤◌}
use native.Mathlib.Nat.{add-zero, add-suc, suc-add}
use native.Mathlib.Omega.{arith}
use lib.ListN.{length, get_or}
use lib.Seq.{ext_get_or, get_or-take}
use mir.Val.{bool_byte}
use borrow.Author.Tests.{eq-eqb}
use Rattle.patch.specs.Patch.{patch}
use Rattle.patch.proofs.Laws.{length-patch, get_or-patch_front}
use Rattle.codes.specs.Code.{total, flag, flags_from}
use Rattle.codes.proofs.Flags.{flags-length, flag_here}
use Rattle.codes.proofs.Lost.{no_flags}
use Rattle.hermitian.specs.Pits.{wrong_at, wrong_symbols}

module _ (f : ℕ → Bool) where
  pub all_flagged : (n : ℕ) (l : List ℕ) {s : List ℕ} → s ≡ patch 0 n (λ k. flag (f k)) l → length l ≡ n → s ≡ flags_from f 0 n
  all_flagged n l {s} is size =
      let long : length s ≡ n = ap length is ∙ length-patch 0 (λ k. flag (f k)) l n ∙ size in
      ext_get_or 0 s (flags_from f 0 n) (long ∙ sym (flags-length f 0 n))
      (λ i h. sym (get_or-take n s i 0 (omega arith)) ∙ get_or-patch_front n (λ k. flag (f k)) l is (omega arith) i 0 (omega arith)
      ∙ sym (flag_here f n i (omega arith)))

  count_from : (a n : ℕ) → total (flags_from f a (suc n)) ≡ total (flags_from f a n) + flag (f (a + n))
  unfolding total flags_from
  count_from a zero = let same : flag (f (a + 0)) ≡ flag (f a) = rw add-zero in omega (arith, same)
  count_from a (suc n) =
      let rest = count_from (suc a) n in
      let same : flag (f (suc a + n)) ≡ flag (f (a + suc n)) = rw (suc-add, add-suc) in
      omega (arith, rest, same)

  pub count_more : (n : ℕ) → total (flags_from f 0 (n + 1)) ≡ total (flags_from f 0 n) + flag (f n)
  count_more n =
      let same : n + 1 ≡ suc n = omega arith in
      let here : 0 + n ≡ n = omega arith in
      ap (λ (k : ℕ). total (flags_from f 0 k)) same ∙ count_from 0 n ∙ ap (λ (k : ℕ). total (flags_from f 0 n) + flag (f k)) here

  at_most_one : (b : Bool) → flag b ≤ 1
  at_most_one true = omega arith
  at_most_one false = omega arith

  pub count_most : (a n : ℕ) → total (flags_from f a n) ≤ n
  unfolding total flags_from
  count_most a zero = omega arith
  count_most a (suc n) = omega (arith, at_most_one (f a), count_most (suc a) n)

pub flag_byte : (b : Bool) → bool_byte b ≡ flag b
flag_byte true = refl
flag_byte false = refl

-- a ring does not differ from itself
pub none_wrong : (q : ℕ) (v : List ℕ) → wrong_symbols q v v ≡ 0
none_wrong q v = no_flags (wrong_at v v) 0 (q * q * q) (λ j. ap not (eq-eqb (get_or v j 0) (get_or v j 0) refl))
