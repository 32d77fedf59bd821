-- What the checks leave true, and that then no check of joint decoding applies to the powers.
--
--   Passed           what all checks leave; passed, from them
--   ready_short, ready_cells, ready_room    what a row that is ready for joint decoding is small enough for
--   joint_passes     no check of joint decoding applies to its powers
-- Assumes nothing.
use mathlib.Core.Path.{◌≡◌, sym, ap, ◌∙◌}
use mathlib.Core.List.{List, [], ◌∷◌}
use Prim.Native.Nat.{ℕ, ◌*◌, ◌≤◌}
use native.Mathlib.Nat.{mul-le-mul}
use native.Mathlib.Omega.{arith}
use lib.Dec.{ltb}
use lib.ListN.{length}
use borrow.Author.Tests.{ltb-false}
use Rattle.refusal.specs.Refusal.{first}
use Rattle.refusal.proofs.Ladders.{clear}
use Rattle.field.proofs.Instance.{field}
use Rattle.codes.specs.Code.{joint_limit}
use Rattle.codes.specs.Factors.{description_of, plain}
use Rattle.codes.specs.Checks.{wrong_length, space_bytes}
use Rattle.codes.specs.Checks as Mark
use Rattle.codes.proofs.Proper.{neither, lengths_test, symbols_test, proper}
use Rattle.codes.proofs.Passed.{right-length, factors_of, decoding_passes}
use Rattle.codes.proofs.Factors.{Factors, ones_factors}
use Rattle.power_checks.specs.Powers.{power_rows, power_code}
use Rattle.power_checks.specs.Checks.{decode_checks}
use Rattle.power_checks.specs.Working.{Short}
use Rattle.power_checks.proofs.Sizes.{length_powers}
use Rattle.power_checks.proofs.Passed.{Sized, sized, power_counts}
use Rattle.powers.specs.Working.{Row, Shape, Ready}
use Rattle.powers.proofs.Rows.{rows_array}

-- ---- all of them

pub record Passed (d k s : ℕ) (xs fs : List ℕ) (τ : ℕ) (y a f w : List ℕ) : Type 0 where
  pub sizes : Sized d (length xs) k s
  pub shape : Shape d xs k s
  pub factors : Factors (description_of d xs fs (k ∷ []))
  pub received : Row d (length xs) y
  pub answer : length a ≡ length xs
  pub flags : length f ≡ length xs
  pub space : space_bytes ≤ length w
  pub limit : τ ≤ joint_limit (power_code d xs k s)

pub passed : (d k s : ℕ) (xs fs : List ℕ) (τ : ℕ) (y a f w : List ℕ) → 0 ≡ first (decode_checks d k s xs fs τ y a f w)
    → Passed d k s xs fs τ y a f w
passed d k s xs fs τ y a f w e =
    let (sizes, rest) = sized d (length xs) k s _ e in
    let p₅ = clear 4 _ _ rest in
    let p₆ = clear 5 _ _ p₅.1 in
    let p₂₃ = clear 22 _ _ p₆.1 in
    let p₇ = clear 6 _ _ p₂₃.1 in
    let p₈ = clear 7 _ _ p₇.1 in
    let l₄ = (neither _ (wrong_length (length xs) fs)).0 p₅.0 in
    let l₃ = (neither _ (ltb (length w) space_bytes)).0 l₄.0 in
    let l₂ = (neither _ (wrong_length (length xs) f)).0 l₃.0 in
    let l₁ = (neither (wrong_length (length xs) y) (wrong_length (length xs) a)).0 l₂.0 in
    let counts = power_counts xs sizes in
    record {
      sizes = sizes;
      shape = record {
        some = sizes.counted.some;
        powers = sizes.counted.powers;
        fits = sizes.counted.fits;
        proper = proper (power_code d xs k s) (field d sizes.degree) ((lengths_test 1 _ _).1 counts.lengths) p₆.0;
      };
      factors = factors_of (description_of d xs fs (k ∷ [])) l₄.1 p₂₃.0;
      received = record { count = right-length _ y l₁.0; symbols = (symbols_test d y).0 p₇.0 };
      answer = right-length _ a l₁.1;
      flags = right-length _ f l₂.1;
      space = ltb-false (length w) space_bytes l₃.1;
      limit = ltb-false (joint_limit (power_code d xs k s)) τ p₈.0;
    }

-- ---- joint decoding

module _ {d k s : ℕ} {xs : List ℕ} {τ : ℕ} {z a f w : List ℕ} (h : Ready d k s xs τ z a f w) where
  powers_most : s ≤ 4
  powers_most = omega (arith, h.counts.most_rows, length_powers k 1 s)

  pub ready_short : Short k s
  ready_short = record {
    countable = record { some = h.shape.some; most = omega (arith, h.shape.fits, h.counts.most_columns); powers = powers_most };
    short = omega (arith, h.longest, h.counts.most_columns);
  }

  pub ready_cells : s * length xs ≤ 384
  ready_cells = mul-le-mul {n₂ = 4} powers_most h.counts.most_columns

  pub ready_room : s * length z ≤ 384
  ready_room = rw h.row.count ready_cells

pub joint_passes : {d k s : ℕ} {xs : List ℕ} {τ : ℕ} {z a f w : List ℕ} → Ready d k s xs τ z a f w
    → first (Mark.decode_checks (plain (power_code d xs k s)) τ (power_rows d s z) a f w) ≡ 0
joint_passes {d} {k} {s} {xs} {z = z} {a} {f} {w} h = decoding_passes (plain (power_code d xs k s))
    (ones_factors (power_code d xs k s) h.shape.proper) {y = power_rows d s z} {a = a} {f = f} {w = w} (record {
      counts = h.counts;
      proper = h.shape.proper;
      received = rows_array d h.shape.proper.field xs k s h.row;
      answer = h.answer ∙ ap (λ (r : ℕ). r * length xs) (sym (length_powers k 1 s));
      flags = h.flags;
      space = h.space;
    }) h.checked h.limit
