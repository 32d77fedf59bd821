-- `another` scans lines of which those with another lead are marked.
use Rattle.std.proofs.Common.{◌≡◌, ◌+◌, ◌<◌, ◌≤◌, ℕ, zero, suc, List, arith, refl, get_or, rules, tests}
use native.Mathlib.Decide.{ℕ_discrete}
use denote.Param.Members.{Mut, Called}
use Rattle.std.specs.Array.{MapsFrom}
use Rattle.solver.specs.Working.Scan.{Marks}
use Rattle.solver.proofs.Lowest.{another_line}
use Rattle.solver.proofs.scan.another.Goals as goal

-- what each call of an unchanging closure gives holds of each element that `map` gave
module _ {F A B : Type 0} (g : Mut F (A × Unit {0}) B) (f : F) (R : A → B → Type 0)
    (one : (x : A) (y : B) (q : F) → Called g f (x, tt) y q → (q ≡ f) × R x y) (d : A) (e : B) (xs : List A) (ys : List B)
  where
    mapped : (i n : ℕ) (p : F) → p ≡ f → MapsFrom g p xs ys i n → (j : ℕ) → i ≤ j → j < i + n → R (get_or xs j d) (get_or ys j e)
    mapped i zero p same maps j le lt = absurd (omega arith)
    mapped i (suc n) p same (q, x, y, from, to, called, rest) j le lt =
        let (kept, holds) = one x y q (rw same at called) in
        elim (ℕ_discrete j i) [
          | yes here ↦ rw (here, from.1, to.1) holds
          | no other ↦ mapped (i + 1) n q kept rest j (omega arith) (omega arith)
        ]

pub returns : goal.returns
returns c =
    let m = c.args.m in
    let marked = mapped _ _ (λ (lead mark : ℕ). Marks lead m mark) (λ x y q called. search (rules, tests)) 0 0
    c.args.leads.now c.map.result 0 5 _ refl c.map.ensures.items.each in (
      c.pivot.ensures.1,
      λ es size led. another_line _ _ _ es size led _ c.pivot.ensures.0 c.pivot.ensures.1 m
          (λ j lt. marked j (omega arith) (omega (arith, c.requires))),
    )
