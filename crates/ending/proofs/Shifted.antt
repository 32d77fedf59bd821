-- Adding a code array to the received one changes nothing but the answer's rows; and a higher trial limit changes no ending but 'none'.
--
--   fits_shift            y + f(x) for y: N + E·f fits where N did
--   encoded-add           the code array of a sum
--   shift                 a locator of y is one of y and a code array
--   core-add              the remaining columns of a sum
--   differs_shift         in which columns two arrays differ, and in which their sums with a third do
--   corrects_shift        so 'corrected' is shifted, and its message; others_shift, every other ending stays
--   ends_raise            a decoding that ends otherwise than with 'none' ends so up to any higher limit; corrects_raise, with its message
-- Assumes nothing.
use mathlib.Core.Path.{◌≡◌, refl, sym, ap, ap₂, ◌∙◌, subst}
use mathlib.Core.Bool.{Bool, not, ◌||◌}
use mathlib.Core.List.{List, [], ◌∷◌, ◌++◌}
use Prim.Native.Nat.{ℕ, zero, suc, ◌+◌, ◌*◌, ◌≤◌}
use native.Mathlib.Omega.{arith}
use native.Mathlib.Decide.{ℕ_discrete}
use lib.Dec.{eqb}
use lib.ListN.{length, get_or, take, drop, length-take, length-drop}
use lib.Seq.{take_at, drop_at}
use borrow.Author.Tests.{eq-eqb, ne_eqb}
use Rattle.refusal.specs.Meaning.{number_of}
use Rattle.field.specs.Symbols.{plus}
use Rattle.field.specs.Arithmetic.{Arithmetic, gf}
use Rattle.field.proofs.Laws.{Field}
use Rattle.poly.specs.Poly.{All, Poly, value, values_at, add, mul, Fits}
use Rattle.poly.proofs.Ring.{ring}
use Rattle.poly.proofs.Sums.{length-add, symbols_add}
use Rattle.poly.proofs.Products.{mul-add}
use Rattle.poly.proofs.Values.{value-add, value-mul, length-values}
use Rattle.codes.specs.Code.{Code, columns, rows, total, IsMessage, IsArray, encoded_rows, encoded, differs, differs_at, flags_of}
use Rattle.codes.specs.Lost.{lost_flags, right, right_rows, core_of}
use Rattle.codes.proofs.Flags.{flags_same}
use Rattle.codes.proofs.Parts.{all_map, all_drop, poly_take, row_length, rest_length}
use Rattle.codes.proofs.Proper.{Proper}
use Rattle.codes.proofs.Messages.{encoded_array}
use Rattle.codes.proofs.Sums.{take-add, drop-add, add-append, add-again, values_add, plus-again, get_or-add, is_array_sum}
use Rattle.ending.specs.Locators.{RowsFit, Locator, Least, OnlyOne, RowsDivide, Divides}
use Rattle.ending.specs.Endings.{meaning, Buffers, Corrects, DividesNot, Ends}
use Rattle.ending.specs.declared.Ending.{Ending}
use Rattle.ending.specs.declared.Ending.TheVariants.{Refused, Corrected, Nothing, Several, Hollow}
use Rattle.ending.proofs.Rows.{poly_product}

module _ {K : Type 0} (A : Arithmetic K) (𝓕 : Field A) where
  infixl 60 ◌⊕◌
  infixl 70 ◌⊗◌
  open A use {In, plus as ◌⊕◌, times as ◌⊗◌}

  encoded-rows-add : (xs : List K) (ks : List ℕ) (m m' : List K)
      → encoded_rows A xs ks (add A m m') ≡ add A (encoded_rows A xs ks m) (encoded_rows A xs ks m')
  unfolding encoded_rows add
  encoded-rows-add xs [] m m' = refl
  encoded-rows-add xs (k ∷ ks) m m' =
      ap₂ ◌++◌ (ap (values_at A xs) (take-add A 𝓕 k m m') ∙ values_add A 𝓕 xs (take k m) (take k m'))
      (ap (encoded_rows A xs ks) (drop-add A 𝓕 k m m') ∙ encoded-rows-add xs ks (drop k m) (drop k m'))
      ∙ sym (add-append A 𝓕 (values_at A xs (take k m)) (encoded_rows A xs ks (drop k m)) (values_at A xs (take k m'))
      (encoded_rows A xs ks (drop k m')) (length-values A 𝓕 xs (take k m) ∙ sym (length-values A 𝓕 xs (take k m'))))

  poly_sum : {k : ℕ} {p q : List K} → Poly A k p → Poly A k q → Poly A k (add A p q)
  poly_sum {k} {p} {q} h g = record {
    count = omega (arith, length-add A 𝓕 p q, h.count, g.count);
    symbols = symbols_add A 𝓕 p q h.symbols g.symbols;
  }

  -- of the entries at which fs is zero
  right-length : (fs : List ℕ) (p q : List K) → length p ≡ length q → length (right fs p) ≡ length (right fs q)
  unfolding right
  right-length [] p q e = refl
  right-length (f ∷ fs) [] [] e = refl
  right-length (f ∷ fs) [] (b ∷ q) e = absurd (omega arith)
  right-length (f ∷ fs) (a ∷ p) [] e = absurd (omega arith)
  right-length (zero ∷ fs) (a ∷ p) (b ∷ q) e = ap suc (right-length fs p q (omega arith))
  right-length (suc f ∷ fs) (a ∷ p) (b ∷ q) e = right-length fs p q (omega arith)

  right-add : (fs : List ℕ) (p q : List K) → length p ≡ length q → right fs (add A p q) ≡ add A (right fs p) (right fs q)
  unfolding right add
  right-add [] p q e = refl
  right-add (f ∷ fs) [] [] e = refl
  right-add (f ∷ fs) [] (b ∷ q) e = absurd (omega arith)
  right-add (f ∷ fs) (a ∷ p) [] e = absurd (omega arith)
  right-add (zero ∷ fs) (a ∷ p) (b ∷ q) e = ap (λ (l : List K). (a ⊕ b) ∷ l) (right-add fs p q (omega arith))
  right-add (suc f ∷ fs) (a ∷ p) (b ∷ q) e = right-add fs p q (omega arith)

  right-rows-add : (fs : List ℕ) (n r : ℕ) (y a : List K) → length y ≡ length a
      → right_rows fs n r (add A y a) ≡ add A (right_rows fs n r y) (right_rows fs n r a)
  unfolding right_rows add
  right-rows-add fs n zero y a e = refl
  right-rows-add fs n (suc r) y a e =
      let first : length (take n y) ≡ length (take n a) = omega (arith, length-take n y, length-take n a) in
      ap₂ ◌++◌
      (ap (right fs) (take-add A 𝓕 n y a) ∙ right-add fs (take n y) (take n a) first)
      (ap (right_rows fs n r) (drop-add A 𝓕 n y a)
      ∙ right-rows-add fs n r (drop n y) (drop n a) (omega (arith, length-drop n y, length-drop n a)))
      ∙ sym (add-append A 𝓕 (right fs (take n y)) (right_rows fs n r (drop n y)) (right fs (take n a)) (right_rows fs n r (drop n a))
      (right-length fs (take n y) (take n a) first))

  fits_shift : (xs ys E N f : List K) → length ys ≡ length xs → Fits A xs ys E N
      → Fits A xs (add A ys (values_at A xs f)) E (add A N (mul A E f))
  unfolding values_at add
  fits_shift [] ys E N f l h = tt
  fits_shift (x ∷ xs) [] E N f l h = absurd (omega arith)
  fits_shift (x ∷ xs) (y ∷ ys) E N f l h = (at_point, fits_shift xs ys E N f (omega arith) h.1)
    where
      at_point : value A (add A N (mul A E f)) x ≡ (y ⊕ value A f x) ⊗ value A E x
      at_point =
          value-add A 𝓕 N (mul A E f) x ∙ ap₂ ◌⊕◌ h.0 (value-mul A 𝓕 E f x) ∙ point y (value A E x) (value A f x)
        where
          point : (y e v : K) → y ⊗ e ⊕ e ⊗ v ≡ (y ⊕ v) ⊗ e
          point y e v = simp ring

  -- row by row, m being the message that is added
  module _ (xs : List K) (k : ℕ) (ks : List ℕ) (y m : List K) where
    abbrev sum : List K
    sum = add A y (encoded_rows A xs (k ∷ ks) m)

    first_row : take (length xs) sum ≡ add A (take (length xs) y) (values_at A xs (take k m))
    unfolding encoded_rows
    first_row = take-add A 𝓕 (length xs) y (encoded_rows A xs (k ∷ ks) m)
        ∙ ap (add A (take (length xs) y))
        (take_at (values_at A xs (take k m)) (encoded_rows A xs ks (drop k m)) (length xs) (length-values A 𝓕 xs (take k m)))

    others : drop (length xs) sum ≡ add A (drop (length xs) y) (encoded_rows A xs ks (drop k m))
    unfolding encoded_rows
    others = drop-add A 𝓕 (length xs) y (encoded_rows A xs (k ∷ ks) m)
        ∙ ap (add A (drop (length xs) y))
        (drop_at (values_at A xs (take k m)) (encoded_rows A xs ks (drop k m)) (length xs) (length-values A 𝓕 xs (take k m)))

    row_shift : {t : ℕ} {E N : List K} → Poly A (suc t) E → 1 ≤ k → k ≤ length m → All In m → length (take (length xs) y) ≡ length xs
        → Poly A (k + t) N → Fits A xs (take (length xs) y) E N
        → Poly A (k + t) (add A N (mul A E (take k m))) × Fits A xs (take (length xs) sum) E (add A N (mul A E (take k m)))
    row_shift {t} {E} {N} e w c s l q fits = (
      poly_sum q (poly_product A 𝓕 w e (poly_take A k m c s)),
      subst (λ (row : List K). Fits A xs row E (add A N (mul A E (take k m)))) (sym first_row)
          (fits_shift xs (take (length xs) y) E N (take k m) l fits),
    )

  rows_shift : (xs : List K) (t : ℕ) (E : List K) (ks : List ℕ) (y m : List K) → Poly A (suc t) E → All (λ (k : ℕ). 1 ≤ k) ks
      → length y ≡ length ks * length xs → length m ≡ total ks → All In m → RowsFit A xs t E ks y
      → RowsFit A xs t E ks (add A y (encoded_rows A xs ks m))
  unfolding total
  rows_shift xs t E [] y m e w l c s h = tt
  rows_shift xs t E (k ∷ ks) y m e w l c s ((N, q, fits), rest) =
      let (q', fits') = row_shift xs k ks y m e w.0 (omega arith) s (row_length (length ks) (length xs) y l) q fits in (
        (add A N (mul A E (take k m)), q', fits'),
        subst (RowsFit A xs t E ks) (sym (others xs k ks y m))
            (rows_shift xs t E ks (drop (length xs) y) (drop k m) e w.1 (rest_length (length ks) (length xs) y l)
            (omega (arith, length-drop k m)) (all_drop In k m s) rest),
      )

  divide_shift : (xs : List K) (t : ℕ) (E : List K) (ks : List ℕ) (y f m : List K) → Poly A (suc t) E → All (λ (k : ℕ). 1 ≤ k) ks
      → length y ≡ length ks * length xs → length m ≡ total ks → All In m → RowsDivide A xs t E ks y f
      → RowsDivide A xs t E ks (add A y (encoded_rows A xs ks m)) (add A f m)
  unfolding total
  divide_shift xs t E [] y f m e w l c s h = tt
  divide_shift xs t E (k ∷ ks) y f m e w l c s ((N, q, fits, is), rest) =
      let (q', fits') = row_shift xs k ks y m e w.0 (omega arith) s (row_length (length ks) (length xs) y l) q fits in
      let product : add A N (mul A E (take k m)) ≡ mul A E (take k (add A f m)) =
      ap (λ (p : List K). add A p (mul A E (take k m))) is ∙ sym (mul-add A 𝓕 E (take k f) (take k m))
      ∙ ap (mul A E) (sym (take-add A 𝓕 k f m)) in (
        (add A N (mul A E (take k m)), q', fits', product),
        rw (others xs k ks y m, drop-add A 𝓕 k f m)
            (divide_shift xs t E ks (drop (length xs) y) (drop k f) (drop k m) e w.1 (rest_length (length ks) (length xs) y l)
            (omega (arith, length-drop k m)) (all_drop In k m s) rest),
      )

-- ---- of a code

-- in which columns two arrays differ, and in which their sums with a third do
same_sum : (x y a : ℕ) → eqb (plus x a) (plus y a) ≡ eqb x y
same_sum x y a = go (ℕ_discrete x y)
  where
    go : Dec (x ≡ y) → eqb (plus x a) (plus y a) ≡ eqb x y
    go (yes e) = eq-eqb _ _ (ap (λ (z : ℕ). plus z a) e) ∙ sym (eq-eqb x y e)
    go (no n) = ne_eqb _ _ (λ e. n (sym (plus-again x a) ∙ ap (λ (z : ℕ). plus z a) e ∙ plus-again y a)) ∙ sym (ne_eqb x y n)

differs_shift : (d : ℕ) → Field (gf d) → (r n i : ℕ) (y b a : List ℕ)
    → differs r n i (add (gf d) y a) (add (gf d) b a) ≡ differs r n i y b
unfolding differs
differs_shift d 𝓕 zero n i y b a = refl
differs_shift d 𝓕 (suc r) n i y b a =
    ap₂ (λ (s t : Bool). not s || t)
    (ap₂ eqb (get_or-add d y a i) (get_or-add d b a i) ∙ same_sum (get_or y i 0) (get_or b i 0) (get_or a i 0))
    (ap₂ (differs r n i) (drop-add (gf d) 𝓕 n y a) (drop-add (gf d) 𝓕 n b a) ∙ differs_shift d 𝓕 r n i (drop n y) (drop n b) (drop n a))

module _ {c : Code} (p : Proper c) where
  open c use {degree, points, lengths}

  abbrev 𝓕 : Field (gf degree)
  𝓕 = p.field

  infixl 60 ◌⊞◌
  abbrev pub ◌⊞◌ : List ℕ → List ℕ → List ℕ
  a ⊞ b = add (gf degree) a b

  some : All (λ (k : ℕ). 1 ≤ k) lengths
  some = all_map (λ (k : ℕ). (1 ≤ k) × (k ≤ columns c)) (λ (k : ℕ). 1 ≤ k) lengths (λ k h. h.0) p.lengths

  is_message_sum : {m m' : List ℕ} → IsMessage c m → IsMessage c m' → IsMessage c (m ⊞ m')
  is_message_sum {m} {m'} h g = record {
    count = omega (arith, length-add (gf degree) 𝓕 m m', h.count, g.count);
    symbols = symbols_add (gf degree) 𝓕 m m' h.symbols g.symbols;
  }

  pub encoded-add : (m m' : List ℕ) → encoded c (m ⊞ m') ≡ encoded c m ⊞ encoded c m'
  encoded-add = encoded-rows-add (gf degree) 𝓕 points lengths

  pub core-add : (L y a : List ℕ) → length y ≡ length a → core_of c L (y ⊞ a) ≡ core_of c L y ⊞ core_of c L a
  core-add L = right-rows-add (gf degree) 𝓕 (lost_flags (columns c) L) (columns c) (rows c)

  pub flags_shift : (y b a : List ℕ) → flags_of c (y ⊞ a) (b ⊞ a) ≡ flags_of c y b
  flags_shift y b a = flags_same (differs_at c (y ⊞ a) (b ⊞ a)) (differs_at c y b) (columns c)
      (λ i h. differs_shift degree 𝓕 (rows c) (columns c) i y b a)

  -- a message m, whose code array is added
  module _ {m : List ℕ} (h : IsMessage c m) where
    abbrev a : List ℕ
    a = encoded c m

    back : {y : List ℕ} → IsArray c y → y ⊞ a ⊞ a ≡ y
    back {y} i = add-again (gf degree) 𝓕 y a (omega (arith, i.count, (encoded_array p h).count))

    shift : {y : List ℕ} {t : ℕ} {E : List ℕ} → IsArray c y → Locator c y t E → Locator c (y ⊞ a) t E
    shift {y} {t} {E} i l = record {
      size = l.size;
      nonzero = l.nonzero;
      fits = rows_shift (gf degree) 𝓕 points t E lengths y m l.size some i.count h.count h.symbols l.fits;
    }

    unshift : {y : List ℕ} {t : ℕ} {E : List ℕ} → IsArray c y → Locator c (y ⊞ a) t E → Locator c y t E
    unshift {y} {t} {E} i l = subst (λ (z : List ℕ). Locator c z t E) (back i) (shift (is_array_sum p i (encoded_array p h)) l)

    module _ {y : List ℕ} (i : IsArray c y) where
      least_shift : {τ t : ℕ} → Least c y τ t → Least c (y ⊞ a) τ t
      least_shift l = let (E, is) = l.exists in record {
        within = l.within;
        exists = (E, shift i is);
        none_below = λ u F k is'. l.none_below u F k (unshift i is');
      }

      only_shift : {t : ℕ} {E : List ℕ} → OnlyOne c y t E → OnlyOne c (y ⊞ a) t E
      only_shift o = record { one = shift i o.one; multiples = λ F l. o.multiples F (unshift i l) }

      divides_shift : (t : ℕ) (E f : List ℕ) → Poly (gf degree) (suc t) E → Divides c y t E f → Divides c (y ⊞ a) t E (f ⊞ m)
      divides_shift t E f e = divide_shift (gf degree) 𝓕 points t E lengths y f m e some i.count h.count h.symbols

      -- z is the sum, and its message that of the answer with m added
      pub corrects_shift : {z : List ℕ} → z ≡ y ⊞ a → {τ w : ℕ} {left : Buffers} (k : Corrects c y τ w left)
          → (k' : Corrects c z τ w (record { array = left.array ⊞ a; flags = left.flags })) × (k'.m ≡ k.m ⊞ m)
      corrects_shift {z} e {τ} {w} {left} k = (
        record {
          t = k.t;
          least = rw e (least_shift k.least);
          E = k.E;
          only = rw e (only_shift k.only);
          m = k.m ⊞ m;
          message = is_message_sum k.message h;
          divides = rw e (divides_shift k.t k.E k.m k.only.one.size k.divides);
          array = ap (λ (b : List ℕ). b ⊞ a) k.array ∙ sym (encoded-add k.m m);
          flags = rw e (k.flags ∙ sym (flags_shift y left.array a));
          detail = rw e (k.detail ∙ ap total (sym (flags_shift y left.array a)));
        },
        refl,
      )

    undivided_shift : {y : List ℕ} → IsArray c y → {t : ℕ} → DividesNot c y t → DividesNot c (y ⊞ a) t
    undivided_shift {y} i {t} n = record {
      E = n.E;
      only = only_shift i n.only;
      not = λ f is d. n.not (f ⊞ m) (is_message_sum is h)
          (subst (λ (z : List ℕ). Divides c z t n.E (f ⊞ m)) (back i)
          (divides_shift (is_array_sum p i (encoded_array p h)) t n.E f n.only.one.size d));
    }

    pub others_shift : {y : List ℕ} → IsArray c y → (τ : ℕ) (lent : Buffers) (e : Ending) (left : Buffers)
        → ¬ (number_of (meaning e) ≡ 1) → Ends c y τ lent e left → Ends c (y ⊞ a) τ lent e left
    others_shift i τ lent (Refused r) left n d = d
    others_shift i τ lent (Corrected w) left n d = absurd (n refl)
    others_shift i τ lent Nothing left n (none, kept) = (λ t E k l. none t E k (unshift i l), kept)
    others_shift i τ lent (Several t) left n (l, two, kept) = (
      least_shift i l,
      record {
        E = two.E;
        F = two.F;
        first = shift i two.first;
        second = shift i two.second;
        apart = two.apart;
        apart' = two.apart';
      },
      kept,
    )
    others_shift i τ lent (Hollow t) left n (l, not, kept) = (least_shift i l, undivided_shift i not, kept)

-- a higher limit finds the same smallest size
least_raise : {c : Code} {y : List ℕ} {τ τ' t : ℕ} → τ ≤ τ' → Least c y τ t → Least c y τ' t
least_raise h l = record { within = omega (arith, l.within); exists = l.exists; none_below = l.none_below }

pub corrects_raise : {c : Code} {y : List ℕ} {τ τ' w : ℕ} {left : Buffers} → τ ≤ τ' → (k : Corrects c y τ w left)
    → (k' : Corrects c y τ' w left) × (k'.m ≡ k.m)
corrects_raise h k = (
  record {
    t = k.t;
    least = least_raise h k.least;
    E = k.E;
    only = k.only;
    m = k.m;
    message = k.message;
    divides = k.divides;
    array = k.array;
    flags = k.flags;
    detail = k.detail;
  },
  refl,
)

pub ends_raise : (c : Code) (y : List ℕ) (τ τ' : ℕ) (lent : Buffers) (e : Ending) (left : Buffers) → τ ≤ τ' → ¬ (e ≡ Nothing)
    → Ends c y τ lent e left → Ends c y τ' lent e left
ends_raise c y τ τ' lent (Refused r) left h n d = d
ends_raise c y τ τ' lent (Corrected w) left h n d = (corrects_raise h d).0
ends_raise c y τ τ' lent Nothing left h n d = absurd (n refl)
ends_raise c y τ τ' lent (Several t) left h n (l, two, kept) = (least_raise h l, two, kept)
ends_raise c y τ τ' lent (Hollow t) left h n (l, not, kept) = (least_raise h l, not, kept)
