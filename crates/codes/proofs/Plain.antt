-- 02, 2026-11, 'All ones gives today's answers': with factors of one the checks are 01's own.
--
--   plain_buffers c m a s ds, plain_array c y a f w ds    1 to 7 of encoding and reading, and of decoding, without factors, and then ds
--   ones-buffers, ones_array    the first that applies is the same
-- Assumes nothing.
use mathlib.Core.Path.{◌≡◌, refl, ap, ◌∙◌}
use mathlib.Core.Bool.{Bool, ◌||◌, or-false}
use mathlib.Core.List.{List, [], ◌∷◌, ◌++◌}
use Prim.Native.Nat.{ℕ, ◌*◌}
use lib.Dec.{ltb}
use lib.ListN.{length, length-replicate}
use Rattle.refusal.specs.Refusal.{Check, ◌when◌, first, bad_points, some_outside_field}
use Rattle.refusal.proofs.Ladders.{miss, same_behind}
use Rattle.field.proofs.Instance.{field}
use Rattle.codes.specs.Code.{Code, columns, rows, total}
use Rattle.codes.specs.Factors.{ones, plain}
use Rattle.codes.specs.Checks.{code_checks, wrong_length, space_bytes, bad_factors, buffer_checks, array_checks_of}
use Rattle.codes.proofs.Passed.{is_right, counts_of}
use Rattle.codes.proofs.Factors.{each-one, ones_pass}

module _ (c : Code) where
  -- 1 to 7, where b is the test of the lengths of buffers, s the symbols that are input, and ds are the checks behind
  abbrev Plain : Bool → List ℕ → List Check → List Check
  Plain b s ds = code_checks c ++ (5 when b) ∷ (6 when bad_points c.degree c.points) ∷ (7 when some_outside_field c.degree s) ∷ ds

  abbrev pub plain_buffers : (m a s : List ℕ) → List Check → List Check
  plain_buffers m a s = Plain (wrong_length (total c.lengths) m || wrong_length (rows c * columns c) a) s

  abbrev pub plain_array : (y a f w : List ℕ) → List Check → List Check
  plain_array y a f w = Plain (wrong_length (rows c * columns c) y || wrong_length (rows c * columns c) a || wrong_length (columns c) f
      || ltb (length w) space_bytes) y

  abbrev six : Check
  six = 6 when bad_points c.degree c.points

  ones-plain : (b : Bool) (s : List ℕ) (ds : List Check)
      → first (code_checks c ++ (5 when b || wrong_length (columns c) (ones (columns c))) ∷ six
      ∷ (23 when bad_factors c.degree (ones (columns c))) ∷ (7 when some_outside_field c.degree s) ∷ ds) ≡ first (Plain b s ds)
  ones-plain b s ds =
      let twenty_three : Check = 23 when bad_factors c.degree (ones (columns c)) in
      let rest : List Check = (7 when some_outside_field c.degree s) ∷ ds in
      let five : (b || wrong_length (columns c) (ones (columns c))) ≡ b =
      ap (◌||◌ b) (is_right (columns c) (ones (columns c)) (length-replicate (columns c) 1)) ∙ or-false b in
      same_behind (code_checks c) ((5 when b || wrong_length (columns c) (ones (columns c))) ∷ six ∷ twenty_three ∷ rest)
      ((5 when b) ∷ six ∷ rest) tt
      (λ e. ap (λ (x : Bool). first ((5 when x) ∷ six ∷ twenty_three ∷ rest)) five
      ∙ same_behind ((5 when b) ∷ six ∷ []) (twenty_three ∷ rest) rest tt
      (λ q. miss 23 _ rest (ones_pass c.degree (field c.degree (counts_of c e refl).degree) (ones (columns c))
      (each-one (columns c)))))

  pub ones-buffers : (m a s : List ℕ) (ds : List Check)
      → first (code_checks c ++ buffer_checks (plain c) m a s ++ ds) ≡ first (plain_buffers m a s ds)
  ones-buffers m a s ds = ones-plain _ s ds

  pub ones_array : (y a f w : List ℕ) (ds : List Check) → first (array_checks_of (plain c) y a f w ++ ds) ≡ first (plain_array y a f w ds)
  ones_array y a f w ds = ones-plain _ y ds
