-- The checks of listing: how 21 stands among those of the code, and what they leave when none applies.
--
--   above_sixteen        a count is not 1 to 16 where it is not 1 to 96, or above 16
--   other, third, twenty_first    so of the checks 1 to 4 and 18 for at most 16 points the first decides, with 3 in two cases
--   Shaped c             what the checks of the code leave; shaped, from them and whatever checks follow
--   passed               what all checks leave
-- Assumes nothing.
use mathlib.Core.Path.{◌≡◌, refl, sym}
use mathlib.Core.Bool.{Bool, true, false, ◌||◌, true≢false}
use mathlib.Core.List.{List, [], ◌∷◌, ◌++◌}
use Prim.Native.Nat.{ℕ, ◌*◌, ◌%◌, ◌≤◌, ◌<◌}
use native.Mathlib.Nat.{mul-le-mul}
use native.Mathlib.Decide.{dec_lt}
use native.Mathlib.Omega.{arith}
use lib.Dec.{ltb}
use lib.ListN.{length}
use borrow.Author.Tests.{eqb-true, le-ltb, lt-ltb, ltb-false, not-false}
use Rattle.refusal.specs.Refusal.{Check, ◌when◌, first, outside}
use Rattle.refusal.proofs.Laws.{within}
use Rattle.refusal.proofs.Ladders.{clear}
use Rattle.field.proofs.Instance.{field}
use Rattle.codes.specs.Code.{Code, columns, rows, joint_limit}
use Rattle.codes.specs.Factors.{Description}
use Rattle.codes.specs.Checks.{unchecked, wrong_length}
use Rattle.codes.proofs.Proper.{proper, array, neither, lengths_test}
use Rattle.codes.proofs.Passed.{Counts, total-most, right-length, factors_of}
use Rattle.listing.specs.Checks.{code_checks, list_checks}
use Rattle.listing.specs.Working.{Passed}

pub above_sixteen : (n : ℕ) → outside 1 16 n ≡ (outside 1 96 n || ltb 16 n)
unfolding outside
above_sixteen n = go (dec_lt 16 n)
  where
    above : (a b : Bool) → (a || true) ≡ (a || b || true)
    above true b = refl
    above false true = refl
    above false false = refl

    not_above : (a : Bool) → (a || false) ≡ (a || false || false)
    not_above true = refl
    not_above false = refl

    go : Dec (16 < n) → (ltb n 1 || ltb 16 n) ≡ (ltb n 1 || ltb 96 n || ltb 16 n)
    go (yes h) = rw (lt-ltb 16 n h) (above (ltb n 1) (ltb 96 n))
    go (no h) =
        let few : n ≤ 16 = omega arith in
        let most : n ≤ 96 = omega arith in
        rw (le-ltb 16 n few, le-ltb 96 n most) (not_above (ltb n 1))

-- 3 at s, and 3 and 21 at c and f
abbrev Old : (a b s d e : Bool) → List Check
Old a b s d e = (1 when a) ∷ (2 when b) ∷ (3 when s) ∷ (4 when d) ∷ (18 when e) ∷ []

abbrev New : (a b c f d e : Bool) → List Check
New a b c f d e = (1 when a) ∷ (2 when b) ∷ (3 when c) ∷ (21 when f) ∷ (4 when d) ∷ (18 when e) ∷ []

pub other : (a b c f d e : Bool) {s : Bool} {k : ℕ} → s ≡ (c || f) → k ≡ first (Old a b s d e) → ¬ (k ≡ 3) → k ≡ first (New a b c f d e)
unfolding first
other true b c f d e q h n = h
other false true c f d e q h n = h
other false false true f d e q h n = absurd (n (rw q at h))
other false false false true d e q h n = absurd (n (rw q at h))
other false false false false d e q h n = rw q at h

pub third : (a b c f d e s : Bool) {k : ℕ} → k ≡ first (Old a b s d e) → k ≡ 3 → c ≡ true → 3 ≡ first (New a b c f d e)
unfolding first
third true b c f d e s h z t = absurd (omega arith)
third false true c f d e s h z t = absurd (omega arith)
third false false true f d e s h z t = refl
third false false false f d e s h z t = absurd (true≢false (sym t))

pub twenty_first : (a b c f d e : Bool) {s : Bool} {k : ℕ} → s ≡ (c || f) → k ≡ first (Old a b s d e) → k ≡ 3 → c ≡ false
    → 21 ≡ first (New a b c f d e)
unfolding first
twenty_first true b c f d e q h z t = absurd (omega arith)
twenty_first false true c f d e q h z t = absurd (omega arith)
twenty_first false false true f d e q h z t = absurd (true≢false t)
twenty_first false false false true d e q h z t = refl
twenty_first false false false false true e q h z t = absurd (omega (arith, rw q at h))
twenty_first false false false false false true q h z t = absurd (omega (arith, rw q at h))
twenty_first false false false false false false q h z t = absurd (omega (arith, rw q at h))

pub record Shaped (c : Code) : Type 0 where
  pub counts : Counts c
  pub few : columns c ≤ 16
  pub checked : unchecked c ≡ false

pub shaped : (c : Code) (ds : List Check) → 0 ≡ first (code_checks c ++ ds) → Shaped c × (0 ≡ first ds)
shaped c ds e =
    let p₁ = clear 0 _ _ e in
    let p₂ = clear 1 _ _ p₁.1 in
    let p₃ = clear 2 _ _ p₂.1 in
    let p₂₁ = clear 20 _ _ p₃.1 in
    let p₄ = clear 3 _ _ p₂₁.1 in
    let p₁₈ = clear 17 _ _ p₄.1 in
    let r = within 1 4 (rows c) p₂.0 in
    let n = within 1 96 (columns c) p₃.0 in
    let k = (lengths_test 1 (columns c) c.lengths).0 p₄.0 in (
      record {
        counts = record {
          degree = p₁.0;
          some_rows = r.0;
          most_rows = r.1;
          some_columns = n.0;
          most_columns = n.1;
          lengths = k;
          fits = total-most (columns c) c.lengths k;
          cells = mul-le-mul r.1 n.1;
        };
        few = ltb-false 16 (columns c) p₂₁.0;
        checked = p₁₈.0;
      },
      p₁₈.1,
    )

pub passed : (D : Description) (τ : ℕ) (y room : List ℕ) → 0 ≡ first (list_checks D τ y room) → Passed D τ y room
passed D τ y room e =
    let c : Code = D.code in
    let (s, rest) = shaped c _ e in
    let p₅ = clear 4 _ _ rest in
    let p₂₂ = clear 21 _ _ p₅.1 in
    let p₆ = clear 5 _ _ p₂₂.1 in
    let p₂₃ = clear 22 _ _ p₆.1 in
    let p₇ = clear 6 _ _ p₂₃.1 in
    let p₈ = clear 7 _ _ p₇.1 in
    let (long, factors) = (neither (wrong_length (rows c * columns c) y) (wrong_length (columns c) D.factors)).0 p₅.0 in
    record {
      checked = record {
        counts = s.counts;
        checked = s.checked;
        proper = proper c (field c.degree s.counts.degree) ((lengths_test 1 (columns c) c.lengths).1 s.counts.lengths) p₆.0;
      };
      few = s.few;
      factors = factors_of D factors p₂₃.0;
      received = array c y (right-length _ y long) p₇.0;
      limit = ltb-false (joint_limit c) τ p₈.0;
      whole = eqb-true (length room % (rows c * columns c)) 0 (not-false _ p₂₂.0);
    }
