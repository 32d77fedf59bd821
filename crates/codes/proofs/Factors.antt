-- Column factors: what multiplying and dividing by them keeps, and that they undo each other.
--
--   Factor d f            f is a symbol that is not zero
--   Factors D             a factor for each column
--   factors_test          factors pass check 23 exactly when all of them are such symbols
--   each-one, as_ones     of n ones each is one, and such factors are ones; ones_pass, they pass check 23
--   length_row, get_or_row, length_with    how long rows and arrays are, and what stands in a row
--   made_row, made_rest   the first row of an array that is made, and the others
--   is_multiplied, is_divided    an array stays one
--   divided-multiplied, multiplied-divided    the one undoes the other
--   flags_multiplied      two arrays differ in the columns in which their multiples do
--   flags_struck          a received array and what is struck differ in the columns in which the quotient and the code array do
--   multiplied-ones, divided-ones    factors of one change nothing; ones_factors, they are factors
--   code_divided          an array is struck for a message exactly when its quotient is the code array of it; struck_array, it is an array
--   struck_code           what is struck for a code array is struck for its message
--   near_struck           the nearest code array to the quotient, multiplied, is the nearest struck array; near_exactly, far_struck
-- Assumes nothing.
use mathlib.Core.Path.{◌≡◌, refl, sym, ap, ap₂, ◌∙◌, subst}
use mathlib.Core.Logic.{◌↔◌}
use mathlib.Core.Bool.{Bool, false, not, ◌||◌}
use mathlib.Core.List.{List, [], ◌∷◌, ◌++◌}
use Prim.Native.Nat.{ℕ, zero, suc, ◌-◌, ◌*◌, ◌^◌, ◌≤◌, ◌<◌}
use native.Mathlib.Nat.{suc-mul}
use native.Mathlib.Omega.{arith}
use native.Mathlib.Decide.{ℕ_discrete}
use lib.Dec.{eqb}
use lib.Pow.{pow_pos}
use lib.ListN.{length, get_or, take, drop, length-append, length-replicate, take-append-drop, get_or-append}
use lib.Seq.{take_at, drop_at, get_or-take}
use borrow.Author.Tests.{eq-eqb, ne_eqb}
use Rattle.field.specs.Symbols.{IsSymbol, times, over}
use Rattle.field.specs.Arithmetic.{gf}
use Rattle.field.proofs.Laws.{Field}
use Rattle.poly.specs.Poly.{All}
use Rattle.poly.proofs.Ring.{one_times, over_times, over_unique}
use Rattle.codes.specs.Code.{Code, columns, rows, IsArray, differs, differs_at, flags_of, CodeArray}
use Rattle.codes.specs.Factors.{Description, with_factors_row, with_factors, multiplied, divided, CodeArrayBy, ones, plain}
use Rattle.codes.specs.Checks.{bad_factors}
use Rattle.codes.specs.Near.{Nearest, Near, Far}
use Rattle.codes.proofs.Proper.{Proper, lengths_test}
use Rattle.codes.proofs.Flags.{flags_same}
use Rattle.codes.proofs.Messages.{encoded_array, code_array}
use Rattle.codes.proofs.Parts.{empty, all_map, all_take, all_drop, all_append, row_length, rest_length}

abbrev pub Factor : ℕ → ℕ → Type 0
Factor d f = IsSymbol d f × (f ≡ 0 → ⊥)

pub record Factors (D : Description) : Type 0 where
  pub count : length D.factors ≡ columns D.code
  pub symbols : All (Factor D.code.degree) D.factors

pub factors_test : (d : ℕ) (fs : List ℕ) → (bad_factors d fs ≡ false) ↔ All (Factor d) fs
factors_test d fs =
    let some : 0 < 2 ^ d = pow_pos d in (
      λ e. all_map _ (Factor d) fs (λ f h. (omega (arith, h), λ z. omega (arith, h))) ((lengths_test 1 (2 ^ d - 1) fs).0 e),
      λ h. (lengths_test 1 (2 ^ d - 1) fs).1 (all_map (Factor d) _ fs (λ f q. (some_factor f q.1, omega (arith, q.0))) h),
    )
  where
    some_factor : (f : ℕ) → (f ≡ 0 → ⊥) → 1 ≤ f
    some_factor zero z = absurd (z refl)
    some_factor (suc f) z = omega arith

-- factors of which each is one

pub as_ones : (fs : List ℕ) → All (λ (f : ℕ). f ≡ 1) fs → fs ≡ ones (length fs)
as_ones [] h = refl
as_ones (f ∷ fs) h = ap₂ ◌∷◌ h.0 (as_ones fs h.1)

pub each-one : (n : ℕ) → All (λ (f : ℕ). f ≡ 1) (ones n)
each-one zero = tt
each-one (suc n) = (refl, each-one n)

each_factor : (d : ℕ) → Field (gf d) → (fs : List ℕ) → All (λ (f : ℕ). f ≡ 1) fs → All (Factor d) fs
each_factor d 𝓕 fs h = all_map (λ (f : ℕ). f ≡ 1) (Factor d) fs (λ f e. rw e (𝓕.one_in, 𝓕.one_zero)) h

pub ones_pass : (d : ℕ) → Field (gf d) → (fs : List ℕ) → All (λ (f : ℕ). f ≡ 1) fs → bad_factors d fs ≡ false
ones_pass d 𝓕 fs h = (factors_test d fs).1 (each_factor d 𝓕 fs h)

-- of a row
module _ (f : ℕ → ℕ → ℕ) where
  pub length_row : (fs a : List ℕ) → length a ≡ length fs → length (with_factors_row f fs a) ≡ length fs
  unfolding with_factors_row
  length_row [] a e = refl
  length_row (c ∷ cs) [] e = absurd (omega arith)
  length_row (c ∷ cs) (s ∷ a) e = ap suc (length_row cs a (omega arith))

  pub get_or_row : (fs a : List ℕ) → length a ≡ length fs → (k : ℕ) → k < length fs
      → get_or (with_factors_row f fs a) k 0 ≡ f (get_or fs k 0) (get_or a k 0)
  unfolding with_factors_row
  get_or_row [] a e k h = absurd (omega arith)
  get_or_row (c ∷ cs) [] e k h = absurd (omega arith)
  get_or_row (c ∷ cs) (s ∷ a) e zero h = refl
  get_or_row (c ∷ cs) (s ∷ a) e (suc k) h = get_or_row cs a (omega arith) k (omega arith)

  pub length_with : (fs : List ℕ) (r : ℕ) (a : List ℕ) → length a ≡ r * length fs → length (with_factors f fs r a) ≡ r * length fs
  unfolding with_factors
  length_with fs zero a e = omega arith
  length_with fs (suc r) a e =
      omega (
        arith,
        length-append (with_factors_row f fs (take (length fs) a)) (with_factors f fs r (drop (length fs) a)),
        length_row fs (take (length fs) a) (row_length r (length fs) a e),
        length_with fs r (drop (length fs) a) (rest_length r (length fs) a e),
        suc-mul r (length fs),
      )

-- an array's first row, and the others, of what is made
module _ (f : ℕ → ℕ → ℕ) (fs : List ℕ) (r : ℕ) (a : List ℕ) (size : length a ≡ suc r * length fs) where
  row : List ℕ
  row = with_factors_row f fs (take (length fs) a)

  others : List ℕ
  others = with_factors f fs r (drop (length fs) a)

  row_count : length row ≡ length fs
  unfolding row
  row_count = length_row f fs (take (length fs) a) (row_length r (length fs) a size)

  pub made_row : take (length fs) (with_factors f fs (suc r) a) ≡ with_factors_row f fs (take (length fs) a)
  unfolding with_factors row others
  made_row = take_at row others (length fs) row_count

  pub made_rest : drop (length fs) (with_factors f fs (suc r) a) ≡ with_factors f fs r (drop (length fs) a)
  unfolding with_factors row others
  made_rest = drop_at row others (length fs) row_count

  made_at : (i : ℕ) → i < length fs → get_or (with_factors f fs (suc r) a) i 0 ≡ get_or (with_factors_row f fs (take (length fs) a)) i 0
  unfolding with_factors row others
  made_at i h = get_or-append row others 0 i (omega (arith, row_count))

-- what holds of every symbol that is made
module _ (F P Q : ℕ → Type 0) (f : ℕ → ℕ → ℕ) (makes : (c s : ℕ) → F c → P s → Q (f c s)) where
  all_row : (fs a : List ℕ) → All F fs → All P a → All Q (with_factors_row f fs a)
  unfolding with_factors_row
  all_row [] a h p = tt
  all_row (c ∷ cs) [] h p = tt
  all_row (c ∷ cs) (s ∷ a) h p = (makes c s h.0 p.0, all_row cs a h.1 p.1)

  all_with : (fs : List ℕ) (r : ℕ) (a : List ℕ) → All F fs → All P a → All Q (with_factors f fs r a)
  unfolding with_factors
  all_with fs zero a h p = tt
  all_with fs (suc r) a h p =
      all_append Q (with_factors_row f fs (take (length fs) a)) (with_factors f fs r (drop (length fs) a))
      (all_row fs (take (length fs) a) h (all_take P (length fs) a p))
      (all_with fs r (drop (length fs) a) h (all_drop P (length fs) a p))

-- where g undoes f, for factors with F and symbols with P
module _ (F P : ℕ → Type 0) (f g : ℕ → ℕ → ℕ) (undo : (c s : ℕ) → F c → P s → g c (f c s) ≡ s) where
  undo_row : (fs a : List ℕ) → length a ≡ length fs → All F fs → All P a → with_factors_row g fs (with_factors_row f fs a) ≡ a
  unfolding with_factors_row
  undo_row [] [] e h p = refl
  undo_row [] (s ∷ a) e h p = absurd (omega arith)
  undo_row (c ∷ cs) [] e h p = absurd (omega arith)
  undo_row (c ∷ cs) (s ∷ a) e h p = ap₂ ◌∷◌ (undo c s h.0 p.0) (undo_row cs a (omega arith) h.1 p.1)

  undo_with : (fs : List ℕ) (r : ℕ) (a : List ℕ) → length a ≡ r * length fs → All F fs → All P a
      → with_factors g fs r (with_factors f fs r a) ≡ a
  unfolding with_factors
  undo_with fs zero a e h p = empty a (omega arith)
  undo_with fs (suc r) a e h p =
      ap₂ ◌++◌
      (ap (with_factors_row g fs) (made_row f fs r a e)
      ∙ undo_row fs (take (length fs) a) (row_length r (length fs) a e) h (all_take P (length fs) a p))
      (ap (with_factors g fs r) (made_rest f fs r a e)
      ∙ undo_with fs r (drop (length fs) a) (rest_length r (length fs) a e) h (all_drop P (length fs) a p))
      ∙ take-append-drop (length fs) a

  -- f of unequal symbols is unequal
  same_test : (c x y : ℕ) → F c → P x → P y → eqb (f c x) (f c y) ≡ eqb x y
  same_test c x y h p q = go (ℕ_discrete x y)
    where
      go : Dec (x ≡ y) → eqb (f c x) (f c y) ≡ eqb x y
      go (yes e) = eq-eqb _ _ (ap (f c) e) ∙ sym (eq-eqb x y e)
      go (no n) = ne_eqb _ _ (λ e. n (sym (undo c x h p) ∙ ap (g c) e ∙ undo c y h q)) ∙ sym (ne_eqb x y n)

  row_test : (fs a b : List ℕ) (i : ℕ) → i < length fs → length a ≡ length fs → length b ≡ length fs → All F fs → All P a → All P b
      → eqb (get_or (with_factors_row f fs a) i 0) (get_or (with_factors_row f fs b) i 0) ≡ eqb (get_or a i 0) (get_or b i 0)
  unfolding with_factors_row
  row_test [] a b i k d e h p q = absurd (omega arith)
  row_test (c ∷ cs) [] b i k d e h p q = absurd (omega arith)
  row_test (c ∷ cs) (x ∷ a) [] i k d e h p q = absurd (omega arith)
  row_test (c ∷ cs) (x ∷ a) (y ∷ b) zero k d e h p q = same_test c x y h.0 p.0 q.0
  row_test (c ∷ cs) (x ∷ a) (y ∷ b) (suc i) k d e h p q =
      row_test cs a b i (omega arith) (omega arith) (omega arith) h.1 p.1 q.1

  differs_with : (fs : List ℕ) (r i : ℕ) (a b : List ℕ) → i < length fs → length a ≡ r * length fs → length b ≡ r * length fs
      → All F fs → All P a → All P b → differs r (length fs) i (with_factors f fs r a) (with_factors f fs r b) ≡ differs r (length fs) i a b
  unfolding differs
  differs_with fs zero i a b k d e h p q = refl
  differs_with fs (suc r) i a b k d e h p q =
      ap₂ (λ (x y : Bool). not x || y)
      (ap₂ eqb (made_at f fs r a d i k) (made_at f fs r b e i k)
      ∙ row_test fs (take n a) (take n b) i k (row_length r n a d) (row_length r n b e) h (all_take P n a p) (all_take P n b q)
      ∙ ap₂ eqb (get_or-take n a i 0 k) (get_or-take n b i 0 k))
      (ap₂ (differs r n i) (made_rest f fs r a d) (made_rest f fs r b e)
      ∙ differs_with fs r i (drop n a) (drop n b) k (rest_length r n a d) (rest_length r n b e) h (all_drop P n a p) (all_drop P n b q))
    where
      n : ℕ
      n = length fs

-- ---- of a description

module _ (D : Description) (y : Proper D.code) (h : Factors D) where
  open D use {code, factors}
  open code use {degree}

  𝓕 : Field (gf degree)
  𝓕 = y.field

  undo_times : (c s : ℕ) → Factor degree c → IsSymbol degree s → over degree (times degree c s) c ≡ s
  undo_times c s f p = over_unique (gf degree) 𝓕 (𝓕.times_in c s) f.0 p f.1 refl

  undo_over : (c s : ℕ) → Factor degree c → IsSymbol degree s → times degree c (over degree s c) ≡ s
  undo_over c s f p = over_times (gf degree) 𝓕 p f.0 f.1

  size : {a : List ℕ} → IsArray code a → length a ≡ rows code * length factors
  size i = i.count ∙ ap (λ (n : ℕ). rows code * n) (sym h.count)

  made : (f : ℕ → ℕ → ℕ) → ((c s : ℕ) → IsSymbol degree (f c s)) → {a : List ℕ} → IsArray code a
      → IsArray code (with_factors f factors (rows code) a)
  made f in_field {a} i = record {
    count = length_with f factors (rows code) a (size i) ∙ ap (λ (n : ℕ). rows code * n) h.count;
    symbols = all_with (Factor degree) (IsSymbol degree) (IsSymbol degree) f (λ c s p q. in_field c s)
        factors (rows code) a h.symbols i.symbols;
  }

  pub is_multiplied : {a : List ℕ} → IsArray code a → IsArray code (multiplied D a)
  is_multiplied = made (times degree) 𝓕.times_in

  pub is_divided : {y : List ℕ} → IsArray code y → IsArray code (divided D y)
  is_divided = made (λ f s. over degree s f) (λ f s. 𝓕.over_in s f)

  pub divided-multiplied : {a : List ℕ} → IsArray code a → divided D (multiplied D a) ≡ a
  divided-multiplied {a} i = undo_with (Factor degree) (IsSymbol degree) (times degree) (λ f s. over degree s f) undo_times
      factors (rows code) a (size i) h.symbols i.symbols

  pub multiplied-divided : {y : List ℕ} → IsArray code y → multiplied D (divided D y) ≡ y
  multiplied-divided {y} i = undo_with (Factor degree) (IsSymbol degree) (λ f s. over degree s f) (times degree) undo_over
      factors (rows code) y (size i) h.symbols i.symbols

  module _ {a b : List ℕ} (i : IsArray code a) (j : IsArray code b) where
    columns_same : (k : ℕ) → k < columns code → differs_at code (multiplied D a) (multiplied D b) k ≡ differs_at code a b k
    columns_same k l = subst
        (λ (n : ℕ). k < n → differs (rows code) n k (multiplied D a) (multiplied D b) ≡ differs (rows code) n k a b) h.count
        (λ l'. differs_with (Factor degree) (IsSymbol degree) (times degree) (λ f s. over degree s f) undo_times
        factors (rows code) k a b l' (size i) (size j) h.symbols i.symbols j.symbols) l

    pub flags_multiplied : flags_of code (multiplied D a) (multiplied D b) ≡ flags_of code a b
    flags_multiplied = flags_same (differs_at code (multiplied D a) (multiplied D b)) (differs_at code a b) (columns code) columns_same

  pub flags_struck : {y a : List ℕ} → IsArray code y → IsArray code a → flags_of code y (multiplied D a) ≡ flags_of code (divided D y) a
  flags_struck {y} {a} i j =
      ap (λ (z : List ℕ). flags_of code z (multiplied D a)) (sym (multiplied-divided i)) ∙ flags_multiplied (is_divided i) j

  -- the array that is struck is the code array of the quotient
  pub code_divided : {a : List ℕ} → IsArray code a → CodeArrayBy D a ↔ CodeArray code (divided D a)
  code_divided {a} i = (
    (λ (m, is, e). (m, is, sym (ap (divided D) (sym e) ∙ divided-multiplied (encoded_array y is)))),
    (λ (m, is, e). (m, is, ap (multiplied D) e ∙ multiplied-divided i)),
  )

  -- and it is an array
  pub struck_array : {a : List ℕ} → CodeArrayBy D a → IsArray code a
  struck_array (m, is, e) = subst (IsArray code) e (is_multiplied (encoded_array y is))

  pub struck_code : {a : List ℕ} → CodeArray code a → CodeArrayBy D (multiplied D a)
  struck_code (m, is, e) = (m, is, ap (multiplied D) e)

  -- what is near: `count` of a struck array is `among` of its quotient
  module _ (count among : List ℕ → ℕ) (same : (a : List ℕ) → IsArray code a → count (multiplied D a) ≡ among a) where
    counts_quotient : {a : List ℕ} → CodeArrayBy D a → count a ≡ among (divided D a)
    counts_quotient {a} h =
        let i = struck_array h in
        ap count (sym (multiplied-divided i)) ∙ same (divided D a) (is_divided i)

    pub near_struck : {τ w : ℕ} {a : List ℕ} → Nearest (CodeArray code) among τ w a → Nearest (CodeArrayBy D) count τ w (multiplied D a)
    near_struck {a = a} h =
        let i = code_array y h.code in
        record {
          code = struck_code h.code;
          wrong = same a i ∙ h.wrong;
          within = h.within;
          others = λ b j apart. rw (counts_quotient j) (h.others (divided D b) ((code_divided (struck_array j)).0 j)
              (λ e. apart (sym (multiplied-divided (struck_array j)) ∙ ap (multiplied D) e)));
        }

    pub near_exactly : {τ : ℕ} → Near (CodeArray code) among τ ↔ Near (CodeArrayBy D) count τ
    near_exactly {τ} = (
      λ (a, h, n). (multiplied D a, struck_code h, rw (same a (code_array y h)) n),
      λ (a, h, n). (divided D a, (code_divided (struck_array h)).0 h, subst (λ (m : ℕ). m ≤ τ) (counts_quotient h) n),
    )

    pub far_struck : {τ : ℕ} → Far (CodeArray code) among τ → Far (CodeArrayBy D) count τ
    far_struck h a j = rw (counts_quotient j) (h (divided D a) ((code_divided (struck_array j)).0 j))

-- factors of one
module _ (P : ℕ → Type 0) (f : ℕ → ℕ → ℕ) (one : (s : ℕ) → P s → f 1 s ≡ s) where
  ones_row : (n : ℕ) (a : List ℕ) → length a ≡ n → All P a → with_factors_row f (ones n) a ≡ a
  unfolding with_factors_row
  ones_row zero a e p = empty a e
  ones_row (suc n) [] e p = absurd (omega arith)
  ones_row (suc n) (s ∷ a) e p = ap₂ ◌∷◌ (one s p.0) (ones_row n a (omega arith) p.1)

  pub ones_with : (n r : ℕ) (a : List ℕ) → length a ≡ r * n → All P a → with_factors f (ones n) r a ≡ a
  unfolding with_factors
  ones_with n zero a e p = empty a (omega arith)
  ones_with n (suc r) a e p = rw (length-replicate {A = ℕ} n 1)
      (ap₂ ◌++◌ (ones_row n (take n a) (row_length r n a e) (all_take P n a p))
      (ones_with n r (drop n a) (rest_length r n a e) (all_drop P n a p))
      ∙ take-append-drop n a)

module _ (d : ℕ) (𝓕 : Field (gf d)) where
  pub one_multiplies : (s : ℕ) → IsSymbol d s → times d 1 s ≡ s
  one_multiplies s p = one_times (gf d) 𝓕 p

  pub one_divides : (s : ℕ) → IsSymbol d s → over d s 1 ≡ s
  one_divides s p = over_unique (gf d) 𝓕 p 𝓕.one_in p 𝓕.one_zero (one_times (gf d) 𝓕 p)

module _ (c : Code) (y : Proper c) where
  pub multiplied-ones : {a : List ℕ} → IsArray c a → multiplied (plain c) a ≡ a
  multiplied-ones {a} i = ones_with (IsSymbol c.degree) (times c.degree) (one_multiplies c.degree y.field)
      (columns c) (rows c) a i.count i.symbols

  pub divided-ones : {a : List ℕ} → IsArray c a → divided (plain c) a ≡ a
  divided-ones {a} i = ones_with (IsSymbol c.degree) (λ f s. over c.degree s f) (one_divides c.degree y.field)
      (columns c) (rows c) a i.count i.symbols

  pub ones_factors : Factors (plain c)
  ones_factors = record {
    count = length-replicate (columns c) 1;
    symbols = each_factor c.degree y.field (ones (columns c)) (each-one (columns c));
  }
