-- What joint decoding corrects among the powers of a row: the polynomials are powers, and the first row is what a decoding of the row is
-- to leave.
--
--   row_proper            the single-row code is proper
--   row_array, row_word   its arrays are rows, and its codewords the values of polynomials
--   word_powers           the powers of a codeword are a code array of the s rows
--   rows_are_powers       each corrected row's polynomial is that power of the first row's
--   corrected-rows        so the answer has the powers of its first row, which is a codeword
--   power_count           a codeword is wrong in as many symbols as its powers are in columns
--   power_nearest, power_far    what is nearest to the powers has as its first row what is nearest to the row; and what is far
-- Assumes nothing.
use mathlib.Core.Path.{◌≡◌, refl, sym, ap, ap₂, ◌∙◌, subst}
use mathlib.Core.Logic.{◌↔◌, ◌⊎◌, ⊎_elim, inl, inr}
use mathlib.Core.List.{List, ◌++◌, append-nil, flat_map}
use Prim.Native.Nat.{ℕ, zero, suc, ◌+◌, ◌≤◌, ◌<◌}
use native.Mathlib.Nat.{one-mul}
use native.Mathlib.Omega.{arith}
use lib.ListN.{length, get_or, take, drop, take-append-drop, length-drop}
use lib.Seq.{take_all}
use Rattle.field.specs.Symbols.{IsSymbol, raised}
use Rattle.field.specs.Arithmetic.{Arithmetic, gf}
use Rattle.field.proofs.Laws.{Field}
use Rattle.poly.specs.Poly.{All, Zero, Poly, value, values_at, mul, Fits}
use Rattle.poly.proofs.Roots.{mul-cancel}
use Rattle.poly.proofs.Values.{length-values, symbols_values}
use Rattle.codes.specs.Code.{Code, total, IsArray, encoded_rows, encoded, CodeArray, flags_of, wrong_count, joint_limit, up_from}
use Rattle.codes.specs.Near.{Nearest, Near, Far}
use Rattle.codes.proofs.Parts.{empty, all_drop, poly_take}
use Rattle.codes.proofs.Proper.{Proper}
use Rattle.codes.proofs.Limits.{Room, joint_room}
use Rattle.ending.specs.Locators.{RowsDivide}
use Rattle.ending.specs.Endings.{Buffers, Corrects}
use Rattle.ending.proofs.Rows.{poly_product, fits_unique, fits_product}
use Rattle.power_checks.specs.Powers.{power_length, power_lengths, power_row, power_rows, row_code, power_code, power_of, powers_of}
use Rattle.power_checks.specs.Working.{power_lengths_from}
use Rattle.power_checks.proofs.Sizes.{length_one}
use Rattle.powers.specs.Working.{power_rows_from, powers_from, Row, Shape}
use Rattle.powers.proofs.Polynomials.{power_symbols, poly_power, value-power, encoded_powers, powers_message}
use Rattle.powers.proofs.Rows.{length_row, get_or_row, row_in, first-power, other_powers, first_row, flags_powers}

module _ {d : ℕ} {xs : List ℕ} {k s : ℕ} (h : Shape d xs k s) where
  abbrev A : Arithmetic ℕ
  A = gf d

  𝓕 : Field (gf d)
  𝓕 = h.proper.field

  abbrev n : ℕ
  n = length xs

  abbrev row : Code
  row = row_code d xs k

  abbrev code : Code
  code = power_code d xs k s

  pub row_proper : Proper row
  row_proper = record {
    field = h.proper.field;
    symbols = h.proper.symbols;
    distinct = h.proper.distinct;
    lengths = ((h.some, h.fits), tt);
  }

  -- a row of n symbols
  pub row_array : {z : List ℕ} → IsArray row z ↔ Row d n z
  row_array = (
    λ i. record { count = i.count ∙ one-mul n; symbols = i.symbols },
    λ r. record { count = r.count ∙ sym (one-mul n); symbols = r.symbols },
  )

  one_row : (f : List ℕ) → length f ≡ k → encoded row f ≡ values_at A xs f
  unfolding encoded_rows
  one_row f e = append-nil (values_at A xs (take k f)) ∙ ap (values_at A xs) (take_all k f (omega arith))

  -- a codeword: the values of a polynomial with k coefficients
  pub row_word : {v : List ℕ} → CodeArray row v ↔ ((f : List ℕ) × Poly A k f × (values_at A xs f ≡ v))
  unfolding total
  row_word {v} = (
    λ (f, m, e). (f, record { count = omega (arith, m.count); symbols = m.symbols }, sym (one_row f (omega (arith, m.count))) ∙ e),
    λ (f, p, e). (f, record { count = omega (arith, p.count); symbols = p.symbols }, one_row f p.count ∙ e),
  )

  pub word_row : {v : List ℕ} → CodeArray row v → Row d n v
  word_row c = let (f, p, e) = row_word.0 c in
      subst (Row d n) e (record { count = length-values A 𝓕 xs f; symbols = symbols_values A 𝓕 xs f p.symbols })

  pub word_powers : {v : List ℕ} → CodeArray row v → CodeArray code (power_rows d s v)
  word_powers c = let (f, p, e) = row_word.0 c in
      (powers_of A f s, powers_message d 𝓕 xs h.some p s, encoded_powers d 𝓕 xs h.some p s ∙ ap (power_rows d s) e)

  -- ---- 'each corrected row's polynomial is then always that power of the first row's'

  module _ {z : List ℕ} (received : Row d n z) (t : ℕ) {E f : List ℕ} (locator : Poly A (suc t) E)
      (nonzero : ¬ Zero A E) (first : Poly A k f) where
    -- at every point E is zero or the row is right
    abbrev Right : Type 0
    Right = (j : ℕ) → j < n → (value A E (get_or xs j 0) ≡ 0) ⊎ (get_or z j 0 ≡ value A f (get_or xs j 0))

    power-right : Right → (i j : ℕ) → j < n
        → (value A E (get_or xs j 0) ≡ 0) ⊎ (get_or (power_row d i z) j 0 ≡ value A (power_of A f i) (get_or xs j 0))
    power-right r i j q = ⊎_elim inl
        (λ e. inr (get_or_row d i z j (omega (arith, received.count)) ∙ ap (λ (a : ℕ). raised d a i) e
        ∙ sym (value-power d 𝓕 f i (get_or xs j 0)))) (r j q)

    -- so the power fits its row with E, and what divides it is that power
    power_fits : Right → (i : ℕ) → Fits A xs (power_row d i z) E (mul A E (power_of A f i))
    power_fits r i = (fits_product A 𝓕 xs (power_row d i z) E (power_of A f i) 0 (length_row d i z ∙ received.count) (row_in d 𝓕 i z)
        locator.symbols (power_symbols A 𝓕 f i)).1 (power-right r i)

    one_power : Right → (i : ℕ) {g N : List ℕ} → power_length k i + t ≤ n → Poly A (power_length k i) g
        → Poly A (power_length k i + t) N → Fits A xs (power_row d i z) E N → N ≡ mul A E g → g ≡ power_of A f i
    one_power r i {g} {N} room p q fits e =
        let power = poly_power A 𝓕 f i h.some first in
        let same = fits_unique A 𝓕 xs (power_row d i z) E h.proper.distinct h.proper.symbols (length_row d i z ∙ received.count)
        room q (poly_product A 𝓕 {k = power_length k i} (omega arith) locator power) fits (power_fits r i) in
        mul-cancel A 𝓕 E g (power_of A f i) nonzero locator.symbols p.symbols power.symbols (p.count ∙ sym power.count)
        (sym e ∙ same)

    each_power : Right → (i r : ℕ) (m : List ℕ) → length m ≡ total (power_lengths_from k i r) → All (IsSymbol d) m
        → Room n t (power_lengths_from k i r) → RowsDivide A xs t E (power_lengths_from k i r) (power_rows_from d i r z) m
        → m ≡ powers_from A f i r
    unfolding up_from flat_map total
    each_power right i zero m l q room divides = sym (empty m l)
    each_power right i (suc r) m l q room ((N, p, fits, e), rest) =
        sym (take-append-drop (power_length k i) m)
        ∙ ap₂ ◌++◌
        (one_power right i room.0 (poly_take A (power_length k i) m (omega arith) q) p
        (subst (λ (y : List ℕ). Fits A xs y E N) here.0 fits) e)
        (each_power right (suc i) r (drop (power_length k i) m) (omega (arith, length-drop (power_length k i) m))
        (all_drop (IsSymbol d) (power_length k i) m q) room.1
        (subst (λ (y : List ℕ). RowsDivide A xs t E (power_lengths_from k (suc i) r) y (drop (power_length k i) m)) here.1 rest))
      where
        here : (take n (power_rows_from d i (suc r) z) ≡ power_row d i z)
            × (drop n (power_rows_from d i (suc r) z) ≡ power_rows_from d (suc i) r z)
        here = rw (← received.count) (first-power d i r z, other_powers d i r z)

  module _ {z : List ℕ} (received : Row d n z) where
    abbrev powers : List ℕ
    powers = power_rows d s z

    -- the first row says where E is zero or the row is right
    first-right : (t r : ℕ) (E m : List ℕ) → 1 ≤ r → All (IsSymbol d) E → length m ≡ total (power_lengths k r) → All (IsSymbol d) m
        → RowsDivide A xs t E (power_lengths k r) (power_rows d r z) m
        → Poly A k (take k m)
        × ((j : ℕ) → j < n → (value A E (get_or xs j 0) ≡ 0) ⊎ (get_or z j 0 ≡ value A (take k m) (get_or xs j 0)))
    unfolding up_from total
    first-right t zero E m some e l q divides = absurd (omega arith)
    first-right t (suc r) E m some e l q ((N, p, fits, is), rest) =
        let f : Poly A k (take k m) = poly_take A k m (omega (arith, length_one k h.some)) q in
        let one : take n (power_rows d (suc r) z) ≡ z = rw (← received.count) (first_row d 𝓕 (suc r) z (omega arith) received.symbols) in
        let product : Fits A xs z E (mul A E (take k m)) = subst (λ (y : List ℕ). Fits A xs y E (mul A E (take k m))) one
        (subst (Fits A xs (take n (power_rows d (suc r) z)) E)
        (is ∙ ap (λ (l : ℕ). mul A E (take l m)) (length_one k h.some)) fits) in
        (f, (fits_product A 𝓕 xs z E (take k m) 0 received.count received.symbols e f.symbols).0 product)

    module _ {τ w : ℕ} {left : Buffers} (limit : τ ≤ joint_limit code) (c : Corrects code powers τ w left) where
      abbrev f : List ℕ
      f = take k c.m

      first_poly : Poly A k f
      first_poly = (first-right c.t s c.E c.m h.powers c.only.one.size.symbols c.message.count c.message.symbols
          c.divides).0

      pub rows_are_powers : c.m ≡ powers_of A f s
      rows_are_powers = each_power received c.t c.only.one.size c.only.one.nonzero first_poly
          (first-right c.t s c.E c.m h.powers c.only.one.size.symbols c.message.count c.message.symbols
          c.divides).1 1 s c.m c.message.count c.message.symbols
          (joint_room h.proper (omega (arith, c.least.within))) c.divides

      pub corrected-rows : left.array ≡ power_rows d s (values_at A xs f)
      corrected-rows = c.array ∙ ap (encoded code) rows_are_powers ∙ encoded_powers d 𝓕 xs h.some first_poly s

      pub corrected-word : CodeArray row (values_at A xs f)
      corrected-word = row_word.1 (f, first_poly, refl)

      pub corrected-first : take n left.array ≡ values_at A xs f
      corrected-first =
          let r = word_row corrected-word in
          ap (take n) corrected-rows ∙ ap (λ (l : ℕ). take l (power_rows d s (values_at A xs f))) (sym r.count)
          ∙ first_row d 𝓕 s (values_at A xs f) h.powers r.symbols

    -- ---- what is near

    pub power_flags : {v : List ℕ} → CodeArray row v → flags_of code powers (power_rows d s v) ≡ flags_of row z v
    power_flags c = flags_powers d 𝓕 xs k s h.powers received (word_row c)

    pub power_count : {v : List ℕ} → CodeArray row v → wrong_count code powers (power_rows d s v) ≡ wrong_count row z v
    power_count c = ap total (power_flags c)

    -- the powers tell codewords apart
    apart : {u v : List ℕ} → CodeArray row u → CodeArray row v → power_rows d s u ≡ power_rows d s v → u ≡ v
    apart {u} {v} c e p =
        let ru = word_row c in
        let rv = word_row e in
        sym (first_row d 𝓕 s u h.powers ru.symbols) ∙ ap₂ take (ru.count ∙ sym rv.count) p
        ∙ first_row d 𝓕 s v h.powers rv.symbols

    pub power_nearest : {τ w : ℕ} {v : List ℕ} → CodeArray row v → Nearest (CodeArray code) (wrong_count code powers) τ w (power_rows d s v)
        → Nearest (CodeArray row) (wrong_count row z) τ w v
    power_nearest {τ} {w} c near = record {
      code = c;
      wrong = sym (power_count c) ∙ near.wrong;
      within = near.within;
      others = λ b e not. subst (λ (m : ℕ). w < m) (power_count e)
          (near.others (power_rows d s b) (word_powers e) (λ p. not (apart e c p)));
    }

    pub power_far : {τ : ℕ} → Far (CodeArray code) (wrong_count code powers) τ → Far (CodeArray row) (wrong_count row z) τ
    power_far {τ} far v c = subst (λ (m : ℕ). τ < m) (power_count c) (far (power_rows d s v) (word_powers c))

    pub power_near : {τ : ℕ} → Near (CodeArray row) (wrong_count row z) τ → Near (CodeArray code) (wrong_count code powers) τ
    power_near {τ} (v, c, w) = (power_rows d s v, word_powers c, subst (λ (m : ℕ). m ≤ τ) (sym (power_count c)) w)
