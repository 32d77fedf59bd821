-- What the memory holds at the start: the first line, and a line for each row.
--
--   held_first    the slots of the first line
--   held_row      the slots of the line of a row
--   started       all lines of the start
--   starts        the same as the code writes them, the leads being 0 to 4
-- Assumes nothing.
use mathlib.Core.Path.{◌≡◌, refl, sym, ap, ◌∙◌}
use mathlib.Core.Bool.{false}
use mathlib.Core.List.{List, [], ◌∷◌, ◌++◌, map}
use Prim.Native.Nat.{ℕ, zero, suc, ◌+◌, ◌-◌, ◌*◌, ◌≤◌, ◌<◌}
use native.Mathlib.Nat.{zero-add, add-zero, zero-mul, one-mul}
use native.Mathlib.Decide.{dec_lt, ℕ_discrete}
use native.Mathlib.Omega.{arith}
use lib.ListN.{length, get_or, take, length-map, length-append, get_or-append, get_or-eq_default}
use Rattle.patch.specs.Parts.{lay}
use Rattle.patch.proofs.Laws.{length-patch, get_or-patch, get_or-patch_below, get_or-patch_above}
use Rattle.patch.proofs.Parts.{length-lay, get_or-lay, get_or-lay_above}
use Rattle.refusal.specs.Refusal.{bad_degree}
use Rattle.field.specs.Symbols.{IsSymbol}
use Rattle.field.specs.Arithmetic.{gf}
use Rattle.field.proofs.Instance.{field}
use Rattle.poly.specs.Poly.{All}
use Rattle.basis.proofs.Lines.{Row, Condition, Line, condition, conditions, unit, start_rows_lem, start, start_apart}
use Rattle.basis.proofs.Scan.{all_append}
use Rattle.solver.specs.Working.Slots.{slots, Only, Each}
use Rattle.solver.specs.Working.Held.{blank, Held, HoldsLines}
use Rattle.solver.specs.Working.Start.{all_counts, zero_line, first_slots, row_slots, row_line, counts_of, values_of, Starts}
use Rattle.solver.proofs.Slots.{slots_length}
use Rattle.solver.proofs.Lowest.{five}
use Rattle.solver.proofs.Live.{behind}
use Rattle.solver.proofs.Marked.{Run, all_counts_within, marks_run, marks_in}

cleared_long : (l : List ℕ) → length (zero_line l) ≡ length l
unfolding zero_line
cleared_long l = length-patch 0 _ l 768

cleared_at : (l : List ℕ) → length l ≡ 768 → (k : ℕ) → get_or (zero_line l) k 0 ≡ 0
unfolding zero_line
cleared_at l size k = go (dec_lt k 768)
  where
    go : Dec (k < 768) → get_or (zero_line l) k 0 ≡ 0
    go (yes lt) = ap (λ (x : ℕ). get_or (zero_line l) x 0) (sym (zero-add k)) ∙ get_or-patch 0 _ l 768 k 0 lt (omega arith)
    go (no ge) = get_or-eq_default (zero_line l) 0 {n = k} (omega (arith, cleared_long l))

factor : (s k : ℕ) → 0 < k * s → 0 < k
factor s zero lt = absurd (omega (arith, zero-mul s))
factor s (suc k) lt = omega arith

-- one coefficient, and nothing behind it
single : (a k : ℕ) → 0 < k → get_or (a ∷ []) k 0 ≡ 0
single a zero lt = absurd (omega arith)
single a (suc k) lt = refl

nothing : (k : ℕ) → get_or {A = ℕ} (0 ∷ []) k 0 ≡ 0
nothing zero = refl
nothing (suc k) = refl

module _ (us l : List ℕ) (size : length l ≡ 768) (short : length us < 768) where
  below_long : length (lay 0 us (zero_line l)) ≡ 768
  below_long = length-lay 0 us (zero_line l) ∙ cleared_long l ∙ size

  first_at : (k : ℕ) → k < 768 → get_or (first_slots us l) k 0 ≡ get_or (us ++ 1 ∷ []) k 0
  unfolding first_slots
  first_at k lt = go (dec_lt k (length us)) (ℕ_discrete k (length us))
    where
      go : Dec (k < length us) → Dec (k ≡ length us) → get_or (first_slots us l) k 0 ≡ get_or (us ++ 1 ∷ []) k 0
      go (yes h) e =
          get_or-patch_below (length us) _ (lay 0 us (zero_line l)) 1 k 0 h
          ∙ ap (λ (x : ℕ). get_or (lay 0 us (zero_line l)) x 0) (sym (zero-add k))
          ∙ get_or-lay 0 us (zero_line l) k h (omega (arith, cleared_long l)) ∙ sym (get_or-append us (1 ∷ []) 0 k h)
      go (no h) (yes e) =
          ap (λ (x : ℕ). get_or (first_slots us l) x 0) (e ∙ sym (add-zero (length us)))
          ∙ get_or-patch (length us) _ (lay 0 us (zero_line l)) 1 0 0 (omega arith) (omega (arith, below_long))
          ∙ sym (behind 0 us (1 ∷ []) 0 k (omega arith))
      go (no h) (no e) =
          get_or-patch_above (length us) _ (lay 0 us (zero_line l)) 1 k 0 (omega arith)
          ∙ get_or-lay_above 0 us (zero_line l) k (omega arith) ∙ cleared_at l size k
          ∙ sym (behind 0 us (1 ∷ []) (k - length us) k (omega arith) ∙ single 1 (k - length us) (omega arith))

  held_first : (d s : ℕ) → bad_degree d ≡ false → 0 < s → All (IsSymbol d) us
      → Held d (length us) s 0 (first_slots us l) 0 (record { lead = 0; locator = 1 ∷ []; values = us })
  held_first d s good positive symbols =
      record {
        lead = refl;
        count = zero-add (length us);
        stored = λ k lt. rw zero-add (first_at k (omega arith));
        symbols = all_append (IsSymbol d) us (1 ∷ []) symbols ((field d good).one_in, tt);
        low = omega (arith, one-mul s);
        narrow = λ k lt. single 1 k (factor s k lt);
      }

module _ (at n : ℕ) (vs l : List ℕ) (size : length l ≡ 768) (short : length vs < 768) (fits : at + n ≤ length vs)
    (run : (k : ℕ) → Run at n k (get_or vs k 0))
  where
    row_at : (k : ℕ) → k < 768 → get_or (row_slots at n l) k 0 ≡ get_or (vs ++ 0 ∷ []) k 0
    unfolding row_slots
    row_at k lt = go (dec_lt k at) (dec_lt k (at + n)) (dec_lt k (length vs))
      where
        go : Dec (k < at) → Dec (k < at + n) → Dec (k < length vs) → get_or (row_slots at n l) k 0 ≡ get_or (vs ++ 0 ∷ []) k 0
        go (yes h) g v =
            get_or-patch_below at _ (zero_line l) n k 0 h ∙ cleared_at l size k
            ∙ sym (get_or-append vs (0 ∷ []) 0 k (omega arith) ∙ (run k).before h)
        go (no h) (yes g) v =
            ap (λ (x : ℕ). get_or (row_slots at n l) x 0) (omega arith)
            ∙ get_or-patch at _ (zero_line l) n (k - at) 0 (omega arith) (omega (arith, cleared_long l))
            ∙ sym (get_or-append vs (0 ∷ []) 0 k (omega arith) ∙ (run k).inside (omega arith) g)
        go (no h) (no g) (yes v) =
            get_or-patch_above at _ (zero_line l) n k 0 (omega arith) ∙ cleared_at l size k
            ∙ sym (get_or-append vs (0 ∷ []) 0 k v ∙ (run k).behind (omega arith))
        go (no h) (no g) (no v) =
            get_or-patch_above at _ (zero_line l) n k 0 (omega arith) ∙ cleared_at l size k
            ∙ sym (behind 0 vs (0 ∷ []) (k - length vs) k (omega arith) ∙ nothing (k - length vs))

    held_row : (d s j : ℕ) → bad_degree d ≡ false → suc j < s → All (IsSymbol d) vs
        → Held d (length vs) s 0 (row_slots at n l) (suc j) (record { lead = suc j; locator = 0 ∷ []; values = vs })
    held_row d s j good few symbols =
        record {
          lead = refl;
          count = zero-add (length vs);
          stored = λ k lt. rw zero-add (row_at k (omega arith));
          symbols = all_append (IsSymbol d) vs (0 ∷ []) symbols ((field d good).zero_in, tt);
          low = omega (arith, one-mul s);
          narrow = λ k lt. nothing k;
        }

-- the lines of the start, one by one

module _ (d : ℕ) (cs : List (Condition ℕ)) where
  abbrev row_of : ℕ → Line ℕ
  row_of t = record { lead = suc t; locator = 0 ∷ []; values = map (λ (c : Condition ℕ). unit (gf d) c.row t) cs }

  rows_get : (n j l : ℕ) → l < n → get_or (start_rows_lem (gf d) n j cs) l blank ≡ row_of (j + l)
  unfolding start_rows_lem
  rows_get zero j l lt = absurd (omega arith)
  rows_get (suc n) j zero lt = ap row_of (sym (add-zero j))
  rows_get (suc n) j (suc l) lt = rows_get n (suc j) l (omega arith) ∙ ap row_of (omega arith)

  rows-length : (n j : ℕ) → length (start_rows_lem (gf d) n j cs) ≡ n
  unfolding start_rows_lem
  rows-length zero j = refl
  rows-length (suc n) j = ap suc (rows-length n (suc j))

pub counts_total : (j : ℕ) (rows : List (Row ℕ)) → all_counts (counts_of rows) ≡ length (conditions j rows)
counts_total j [] = refl
counts_total j (row ∷ rows) =
    ap (λ (n : ℕ). length row + n) (counts_total (suc j) rows)
    ∙ sym (length-append (map (condition j) row) (conditions (suc j) rows)
    ∙ ap (λ (n : ℕ). n + length (conditions (suc j) rows)) (length-map row (condition j)))

module _ (d : ℕ) (good : bad_degree d ≡ false) (rows : List (Row ℕ)) (leads : List ℕ) {l m l' : List ℕ}
    (symbols : All (IsSymbol d) (values_of rows))
    (first : Only 0 (first_slots (values_of rows)) l m) (others : Each (suc (length rows)) (row_line (counts_of rows)) m l')
    (leading : (j : ℕ) → j < suc (length rows) → get_or leads j 0 ≡ j) (enough : suc (length rows) ≤ length leads)
    (short : length (values_of rows) ≤ 380) (room : 768 * suc (length rows) ≤ length l)
  where
    abbrev cs : List (Condition ℕ)
    cs = conditions 0 rows

    abbrev s : ℕ
    s = suc (length rows)

    abbrev C : ℕ
    C = length (values_of rows)

    size : (j : ℕ) → j < s → length (slots j l) ≡ 768
    size j lt = slots_length j l (omega arith)

    at_first : Held d C s 0 (slots 0 l') (get_or leads 0 0) (record { lead = 0; locator = 1 ∷ []; values = values_of rows })
    at_first =
        rw (others.changed 0 (omega arith), first.changed, leading 0 (omega arith))
        (held_first (values_of rows) (slots 0 l) (size 0 (omega arith)) (omega arith) d s good (omega arith) symbols)

    at_row : (j : ℕ) → j < length rows → Held d C s 0 (slots (suc j) l') (get_or leads (suc j) 0) (row_of d cs j)
    at_row j lt =
        let vs : List ℕ = map (λ (c : Condition ℕ). unit (gf d) c.row j) cs in
        let long : length vs ≡ C = length-map cs _ ∙ sym (length-map cs _) in
        let ns : List ℕ = counts_of rows in
        let fits : all_counts (take j ns) + get_or ns j 0 ≤ length vs =
        omega (
          arith,
          all_counts_within ns j (omega (arith, length-map rows (λ (row : Row ℕ). length row))),
          counts_total 0 rows,
          length-map cs (λ (c : Condition ℕ). unit (gf d) c.row j),
        ) in
        rw (others.changed (suc j) (omega arith), first.others (suc j) (omega arith), leading (suc j) (omega arith), ← long)
        (held_row (all_counts (take j ns)) (get_or ns j 0) vs (slots (suc j) l) (size (suc j) (omega arith)) (omega arith) fits
        (marks_run d j 0 j rows (sym (zero-add j))) d s j good (omega arith) (marks_in d j (field d good) cs))

    started : HoldsLines d C s 0 leads l' (start (gf d) (length rows) cs)
    unfolding start
    started =
        record {
          count = ap suc (rows-length d cs (length rows) 0);
          enough = enough;
          apart = start_apart (gf d) (length rows) cs;
          each = each;
        }
      where
        each : (j : ℕ) → j < s → Held d C s 0 (slots j l') (get_or leads j 0) (get_or (start (gf d) (length rows) cs) j blank)
        each zero lt = at_first
        each (suc j) lt = rw (rows_get d cs (length rows) 0 j (omega arith), zero-add j) (at_row j (omega arith))

abbrev leads₀ : List ℕ
leads₀ = 0 ∷ 1 ∷ 2 ∷ 3 ∷ 4 ∷ []

pub starts : (us ns l m l' : List ℕ) → length us ≤ 380 → length ns ≤ 4 → 768 * (length ns + 1) ≤ length l
    → Only 0 (first_slots us) l m → Each (length ns + 1) (row_line ns) m l' → Starts us ns leads₀ l'
starts us ns l m l' short few room first others d good symbols rows counts values =
    let number : length ns + 1 ≡ suc (length rows) = omega (arith, ap length counts, length-map rows (λ (row : Row ℕ). length row)) in
    rw (← values)
    (started d good rows leads₀ (rw (← values) at symbols) (rw (← values) at first) (rw counts (rw number at others))
    (λ j lt. five (λ (k : ℕ). get_or leads₀ k 0 ≡ k) refl refl refl refl refl j (omega arith)) (omega arith)
    (rw values short) (rw (← number) room))
