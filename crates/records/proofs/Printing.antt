-- The lines that are written, one after the other, are the input's.
--
--   answered_end, answered_last, answered_next    an answer to the bytes that were read, by its kind
--   at_start, at_next, at_last, at_most           the records so far, from none to all
-- Assumes nothing.
use mathlib.Core.Path.{◌≡◌, refl, sym, ap, ◌∙◌, subst}
use mathlib.Core.Logic.{◌⊎◌, inl, inr}
use mathlib.Core.Bool.{true, false}
use mathlib.Core.List.{List, [], ◌++◌, append_assoc}
use Prim.Native.Nat.{ℕ, suc, ◌+◌, ◌-◌, ◌^◌, ◌≤◌, ◌<◌}
use native.Mathlib.Decide.{dec_lt}
use native.Mathlib.Omega.{arith}
use lib.ListN.{length, take, length-append}
use Rattle.std.proofs.Common.{None, Some}
use Rattle.std.specs.declared.option.Option.{Option}
use Rattle.std.specs.Io.KnownBytes.{Appends, Consumes, IsAtEnd}
use Rattle.std.proofs.KnownBytes.{Appends-nil, Appends-trans}
use Rattle.record.specs.Records.{wanted}
use Rattle.record.specs.Promises.{Answers, Prints}
use Rattle.record.specs.declared.Reply.TheVariants.{End, Last, Next}
use Rattle.record.proofs.Printed.{none_answered, some_answered, prints_end, prints_last, prints_next}
use Rattle.records.specs.Printing.{Answered, At, Printed}

-- as many bytes are held as are wanted, or all
enough : (p rest : List ℕ) → (length p < wanted p → rest ≡ []) → (wanted p ≤ length p) ⊎ (rest ≡ [])
enough p rest all = go (dec_lt (length p) (wanted p))
  where
    go : Dec (length p < wanted p) → (wanted p ≤ length p) ⊎ (rest ≡ [])
    go (yes l) = inr (all l)
    go (no l) = inl (omega arith)

pub answered_end : (number : ℕ) (had has was : Option (List ℕ)) (p lent left : List ℕ) → Consumes had has p
    → (length p < wanted p → IsAtEnd has) → Answers number p lent End left → Answered number had has was was false
unfolding wanted
answered_end number None has was p lent left read all h = tt
answered_end number (Some b) None was p lent left read all h = absurd read
answered_end number (Some b) (Some rest) was p lent left read all h =
    let none : p ≡ [] = none_answered number p lent left h in
    let short : length p < wanted p = rw none (omega arith) in
    let over : b ≡ [] = read ∙ ap (λ l. l ++ rest) none ∙ all short in
    (rest, [], refl, Appends-nil was, subst (λ l. Prints number l []) (sym over) (prints_end number))

module _ (number n : ℕ) (had has was now : Option (List ℕ)) (p lent left : List ℕ) (room : n ≤ length left) (read : Consumes had has p)
    (put : Appends was now (take n left)) where
  pub answered_last : (length p < wanted p → IsAtEnd has) → Answers number p lent (Last n) left → Answered number had has was now false
  answered_last all h = by had has read all
    where
      by : (had has : Option (List ℕ)) → Consumes had has p → (length p < wanted p → IsAtEnd has) → Answered number had has was now false
      by None has read all = tt
      by (Some b) None read all = absurd read
      by (Some b) (Some rest) read all = (
        rest,
        take n left,
        refl,
        put,
        subst (λ l. Prints number l (take n left)) (sym read) (prints_last number n lent left room p rest (enough p rest all) h),
      )

  pub answered_next : length p ≤ wanted p → Answers number p lent (Next n) left → Answered number had has was now true
  answered_next few h = by had has read
    where
      by : (had has : Option (List ℕ)) → Consumes had has p → Answered number had has was now true
      by None has read = tt
      by (Some b) None read = absurd read
      by (Some b) (Some rest) read = (
        rest,
        take n left,
        refl,
        put,
        (
          omega (arith, ap length read, length-append p rest, some_answered number n p lent left h),
          λ out more. subst (λ l. Prints number l (take n left ++ out)) (sym read) (prints_next number n lent left room p rest out few h more),
        ),
      )

pub at_start : (had was : Option (List ℕ)) → At 1 had had was was
at_start None was = tt
at_start (Some b) was = (b, [], refl, Appends-nil was, (omega arith, λ rest h. h))

Some_is : {b c : List ℕ} → ◌≡◌ {A = Option (List ℕ)} (Some b) (Some c) → b ≡ c
Some_is {b} e = ap (λ (o : Option (List ℕ)). known o b) e
  where
    known : Option (List ℕ) → List ℕ → List ℕ
    known None b = b
    known (Some c) b = c

module _ (number : ℕ) (had has next was now then : Option (List ℕ)) where
  pub at_next : At number had has was now → Answered number has next now then true → At (number + 1) had next was then
  at_next h g =
      let same : suc number ≡ number + 1 = omega arith in
      subst (λ (n : ℕ). At n had next was then) same (by had has h g)
    where
      by : (had has : Option (List ℕ)) → At number had has was now → Answered number has next now then true → At (suc number) had next was then
      by None has h g = tt
      by (Some b) None (left, lines, is, put, so) g = absurd (none_some is)
        where
          none_some : ◌≡◌ {A = Option (List ℕ)} None (Some left) → ⊥
          none_some e = cc
      by (Some b) (Some c) (left, lines, is, put, so) (left', line, is', put', goes) =
          let same : c ≡ left = Some_is is in (
            left',
            lines ++ line,
            is',
            Appends-trans was now then lines line put put',
            (
              omega (arith, so.0, goes.0, ap length same),
              λ rest h. subst (Prints 1 b) (sym (append_assoc lines line rest))
                  (so.1 (line ++ rest) (subst (λ l. Prints number l (line ++ rest)) same (goes.1 rest h))),
            ),
          )

  pub at_last : At number had has was now → Answered number has next now then false → Printed had was then
  at_last = by had has
    where
      by : (had has : Option (List ℕ)) → At number had has was now → Answered number has next now then false → Printed had was then
      by None has h g = tt
      by (Some b) None (left, lines, is, put, so) g = absurd (none_some is)
        where
          none_some : ◌≡◌ {A = Option (List ℕ)} None (Some left) → ⊥
          none_some e = cc
      by (Some b) (Some c) (left, lines, is, put, so) (left', line, is', put', prints) =
          λ small. (
            lines ++ line,
            Appends-trans was now then lines line put put',
            so.1 line (subst (λ l. Prints number l line) (Some_is is) prints),
          )

-- the numbers don't end before the input does
pub at_most : (had has was now : Option (List ℕ)) → At (2 ^ 64 - 1) had has was now → Printed had was now
at_most None has was now h = tt
at_most (Some b) has was now (left, lines, is, put, so) = λ small. absurd (omega (arith, so.0))
