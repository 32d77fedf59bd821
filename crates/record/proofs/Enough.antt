-- The bytes beyond those wanted do not matter.
--
--   enough    the answer to the bytes at hand is the answer to all that is left, once there are as many as are wanted
--   all_held  where the record is whole, as many bytes are at hand as are wanted
--   rest_of   and where no more are, the next one begins behind them
--   same_mark, at, part, same_size, same_range    what stands in five bytes or more stands in more
--   no_more   where no more bytes come than were wanted, no more are held than are then wanted
-- Assumes nothing.
use mathlib.Core.Path.{◌≡◌, refl, sym, ap, ap₂, ◌∙◌, subst}
use mathlib.Core.Logic.{◌↔◌}
use mathlib.Core.Bool.{Bool, true, false, cond, ◌||◌, ◌&&◌}
use mathlib.Core.List.{List, [], ◌∷◌, ◌++◌}
use Prim.Native.Nat.{ℕ, ◌+◌, ◌*◌, ◌≤◌, ◌<◌}
use native.Mathlib.Omega.{arith}
use lib.Dec.{ltb}
use lib.ListN.{length, get_or, take, drop, length-append, length-drop, get_or-append}
use lib.Seq.{take-append-le, drop-append-le, drop-append_seam}
use borrow.Author.Tests.{le-leb, le-ltb, ltb-false}
use Rattle.refusal.specs.Refusal.{Check, ◌when◌, first, bad_degree, outside}
use Rattle.refusal.proofs.Laws.{neither}
use Rattle.refusal.proofs.Ladders.{hit}
use Rattle.refusal.proofs.Keeping.{same_keeps}
use Rattle.joint.specs.Promises.{Given}
use Rattle.record.specs.Records.{begins, no_mark, out_of_range, degree_in, rows_in, columns_in, size_in, stop_checks, stop_of, wanted}
use Rattle.record.specs.Records.{lengths_in, limit_in, points_in, symbols_in}
use Rattle.record.specs.Promises.{LineOf, record_in, fresh, meaning, Answers}
use Rattle.record.specs.declared.Reply.{Reply}
use Rattle.record.proofs.Heads.{wants_all}
use Rattle.record.proofs.Wholes.{whole_of}
use Rattle.record.proofs.Replies.{Line, stopped}

pub same_mark : (b rest : List ℕ) → 2 ≤ length b → no_mark (b ++ rest) ≡ no_mark b
unfolding no_mark begins
same_mark [] rest h = absurd (omega arith)
same_mark (x ∷ []) rest h = absurd (omega arith)
same_mark (x ∷ y ∷ b) rest h =
    simp (le-leb 2 (length (x ∷ y ∷ b)) h, le-leb 2 (length (x ∷ y ∷ (b ++ rest))) (omega arith))

-- the reasons to stop, from their tests
checks : (m c d o₁ o₂ s : Bool) → List Check
checks m c d o₁ o₂ s =
    (12 when m) ∷ (13 when c) ∷ (1 when (o₁ || o₂) && d) ∷ (2 when o₁) ∷ (3 when o₂) ∷ (13 when s) ∷ []

-- the last is asked where r and n are in range
last_asked : (m c d o₁ o₂ s s' : Bool) → (o₁ || o₂ ≡ false → s ≡ s') → first (checks m c d o₁ o₂ s) ≡ first (checks m c d o₁ o₂ s')
unfolding checks first
last_asked m c d true o₂ s s' h = refl
last_asked m c d false true s s' h = refl
last_asked m c d false false s s' h = ap (λ (x : Bool). first (checks m c d false false x)) (h refl)

stop_is : (b : List ℕ)
    → stop_of b
    ≡ first (checks (no_mark b) (ltb (length b) 5) (bad_degree (degree_in b)) (outside 1 4 (rows_in b)) (outside 1 96 (columns_in b))
    (ltb (length b) (size_in b)))
unfolding stop_of out_of_range checks
stop_is b = refl

module _ (b rest : List ℕ) (five : 5 ≤ length b) where
  pub at : (i : ℕ) → i < 5 → get_or (b ++ rest) i 0 ≡ get_or b i 0
  at i h = get_or-append b rest 0 i (omega arith)

  pub same_size : size_in (b ++ rest) ≡ size_in b
  unfolding size_in
  same_size = ap₂ (λ (r n : ℕ). 6 + r + n + r * n) (at 3 (omega arith)) (at 4 (omega arith))

  pub same_range : out_of_range (b ++ rest) ≡ out_of_range b
  unfolding out_of_range
  same_range = ap₂ (λ (r n : ℕ). outside 1 4 r || outside 1 96 n) (at 3 (omega arith)) (at 4 (omega arith))

  same_stop : (out_of_range b ≡ false → size_in b ≤ length b) → stop_of (b ++ rest) ≡ stop_of b
  unfolding out_of_range
  same_stop whole =
      let more : length (b ++ rest) ≡ length b + length rest = length-append b rest in
      let m = same_mark b rest (omega arith) in
      let c : ltb (length (b ++ rest)) 5 ≡ ltb (length b) 5 =
      le-ltb (length (b ++ rest)) 5 (omega arith) ∙ sym (le-ltb (length b) 5 five) in
      let d = ap bad_degree (at 2 (omega arith)) in
      let o₁ = ap (outside 1 4) (at 3 (omega arith)) in
      let o₂ = ap (outside 1 96) (at 4 (omega arith)) in
      let s = last_asked (no_mark b) (ltb (length b) 5) (bad_degree (degree_in b)) (outside 1 4 (rows_in b)) (outside 1 96 (columns_in b))
      (ltb (length (b ++ rest)) (size_in (b ++ rest))) (ltb (length b) (size_in b))
      (λ o. le-ltb (length (b ++ rest)) (size_in (b ++ rest)) (omega (arith, same_size, whole o))
      ∙ sym (le-ltb (length b) (size_in b) (whole o))) in
      let e = stop_is (b ++ rest) in
      let e' = stop_is b in
      cc

  pub part : (n k : ℕ) → n + k ≤ length b → take k (drop n (b ++ rest)) ≡ take k (drop n b)
  part n k h =
      ap (take k) (drop-append-le n b rest (omega arith)) ∙ take-append-le k (drop n b) rest (omega (arith, length-drop n b))

  same_record : (w : List ℕ) → size_in b ≤ length b → record_in w (b ++ rest) ≡ record_in w b
  unfolding size_in lengths_in limit_in points_in symbols_in
  same_record w whole =
      let r = at 3 (omega arith) in
      let n = at 4 (omega arith) in
      let d = at 2 (omega arith) in
      let ks = ap (λ (x : ℕ). take x (drop 5 (b ++ rest))) r ∙ part 5 (rows_in b) (omega arith) in
      let t = ap (λ (x : ℕ). get_or (b ++ rest) (5 + x) 0) r ∙ get_or-append b rest 0 (5 + rows_in b) (omega arith) in
      let xs = ap₂ (λ (x y : ℕ). take y (drop (6 + x) (b ++ rest))) r n ∙ part (6 + rows_in b) (columns_in b) (omega arith) in
      let ys = ap₂ (λ (x y : ℕ). take (x * y) (drop (6 + x + y) (b ++ rest))) r n
      ∙ part (6 + rows_in b + columns_in b) (rows_in b * columns_in b) (omega arith) in
      cc

by_cases : {P : Type 0} (x : Bool) → (x ≡ true → P) → (x ≡ false → P) → P
by_cases true t f = t refl
by_cases false t f = f refl

by_tests : (x y : Bool) (s : ℕ) → 5 ≤ s → (2 ≤ cond x 2 (cond y 5 s)) × (5 ≤ cond y 5 s)
by_tests true true s h = (omega arith, omega arith)
by_tests true false s h = (omega arith, h)
by_tests false true s h = (omega arith, omega arith)
by_tests false false s h = (omega arith, h)

wants_two : (b : List ℕ) → 2 ≤ wanted b
unfolding wanted size_in
wants_two b = (by_tests (ltb (length b) 2 || no_mark b) (ltb (length b) 5 || out_of_range b) (size_in b) (omega arith)).0

wants_five : (b : List ℕ) → 2 ≤ length b → no_mark b ≡ false → 5 ≤ wanted b
unfolding wanted size_in
wants_five b h m =
    rw (le-ltb (length b) 2 h, m) (by_tests false (ltb (length b) 5 || out_of_range b) (size_in b) (omega arith)).1

-- as many bytes as are wanted, with the mark, are five, and the whole record where r and n are in range
module _ (b : List ℕ) (h : wanted b ≤ length b) where
  two : 2 ≤ length b
  two = omega (arith, wants_two b)

  five : no_mark b ≡ false → 5 ≤ length b
  five m = omega (arith, wants_five b two m)

  stop_twelve : (l : List ℕ) → no_mark l ≡ true → stop_of l ≡ 12
  unfolding stop_of
  stop_twelve l m = hit _ _ _ m

  pub same_answer : (rest : List ℕ) → (stop_of (b ++ rest) ≡ stop_of b) × (stop_of b ≡ 0 → record_in fresh (b ++ rest) ≡ record_in fresh b)
  same_answer rest =
      by_cases (no_mark b)
      (λ m. (stop_twelve (b ++ rest) (same_mark b rest two ∙ m) ∙ sym (stop_twelve b m), λ z. absurd (omega (arith, stop_twelve b m))))
      (λ m. (
        same_stop b rest (five m) (λ o. omega (arith, wants_all b m (five m) o)),
        λ z. same_record b rest (five m) fresh (whole_of b z).complete,
      ))

pub enough : (number : ℕ) (b rest lent : List ℕ) (r : Reply) (left : List ℕ) → wanted b ≤ length b
    → Answers number (b ++ rest) lent r left ↔ Answers number b lent r left
unfolding stop_of
enough number [] rest lent r left h = absurd (let z : 2 ≤ 0 = two [] h in omega arith)
enough number (x ∷ b) rest lent r left h =
    let (stop, same) = same_answer (x ∷ b) h rest in
    let all = x ∷ b ++ rest in (
      same_keeps (stop_checks all) (stop_checks (x ∷ b)) (stopped number lent) (Line number lent all) (Line number lent (x ∷ b)) stop
          (λ none l (line, is, e). (line, subst (λ (g : Given). LineOf number g line) (same (sym (none ∙ stop))) is, e)) (meaning r, left),
      same_keeps (stop_checks (x ∷ b)) (stop_checks all) (stopped number lent) (Line number lent (x ∷ b)) (Line number lent all) (sym stop)
          (λ none l (line, is, e). (line, subst (λ (g : Given). LineOf number g line) (sym (same (sym none))) is, e)) (meaning r, left),
    )

module _ (b : List ℕ) (z : stop_of b ≡ 0) where
  pub all_held : wanted b ≤ length b
  all_held = let w = whole_of b z in omega (arith, w.complete, wants_all b w.marked w.five w.inside)

  pub rest_of : (rest : List ℕ) → length b ≤ wanted b → drop (size_in (b ++ rest)) (b ++ rest) ≡ rest
  rest_of rest e =
      let w = whole_of b z in
      let size : size_in (b ++ rest) ≡ length b =
      omega (arith, same_size b rest w.five, w.complete, wants_all b w.marked w.five w.inside) in
      ap (λ (k : ℕ). drop k (b ++ rest)) size ∙ drop-append_seam b rest

pub no_more : (b more : List ℕ) → length (b ++ more) ≤ wanted b → length (b ++ more) ≤ wanted (b ++ more)
unfolding wanted
no_more b more h =
    let size : length (b ++ more) ≡ length b + length more = length-append b more in
    by_cases (ltb (length b) 2 || no_mark b)
    (λ e. let w : wanted b ≡ 2 = rw e in omega (arith, wants_two (b ++ more)))
    (λ e. let p = neither _ _ e in
    let two = ltb-false (length b) 2 p.0 in
    let m = same_mark b more two ∙ p.1 in
    by_cases (ltb (length b) 5 || out_of_range b)
    (λ o. let w : wanted b ≡ 5 = rw (e, o) in omega (arith, wants_five (b ++ more) (omega arith) m))
    (λ o. let q = neither _ _ o in
    let five = ltb-false (length b) 5 q.0 in
    let w = wants_all (b ++ more) m (omega arith) (same_range b more five ∙ q.1) in
    omega (arith, w, wants_all b p.1 five q.1, same_size b more five)))
