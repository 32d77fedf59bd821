-- The decisions on the solver's lines.
--
--   least_line                  the number that the scan for the least line answers is that of a line
--   solved_rows                 what the solver is given are the rows that the model reduces
--   decided_none, decided_several, decided_alone    what the model decides
--   Solved          what the code decides on
--   number, lead_is, lead_low, size_small, locator_is, locator_count, locator_symbols    what the code reads off the memory
--   reads_none, reads_several, reads_alone          what it is to answer
-- Assumes nothing.
use mathlib.Core.Path.{◌≡◌, refl, sym, ap, ap₂, ◌∙◌, subst₂}
use mathlib.Core.List.{List, map}
use mathlib.Core.Option.{Option, some}
use Prim.Native.Nat.{ℕ, suc, ◌+◌, ◌-◌, ◌*◌, ◌/◌, ◌≤◌, ◌<◌}
use native.Mathlib.Nat.{mul-le-mul}
use native.Mathlib.Numerals.{add-one}
use native.Mathlib.Decide.{ℕ_discrete, dec_le, dec_lt}
use native.Mathlib.Omega.{arith}
use lib.ListN.{length, get_or, take, drop, get_elem?}
use Rattle.patch.specs.Parts.{part}
use Rattle.field.specs.Symbols.{IsSymbol}
use Rattle.field.specs.Arithmetic.{gf}
use Rattle.poly.specs.Poly.{All, Poly}
use Rattle.codes.specs.Code.{Code, rows, columns, IsArray, joint_limit}
use Rattle.codes.proofs.Proper.{Proper}
use Rattle.codes.proofs.Passed.{Counts}
use Rattle.codes.proofs.Limits.{joint_less}
use Rattle.basis.proofs.Lines.{Line, least, another, size, locator_of_lem, cut_poly}
use Rattle.basis.proofs.Scan.{all_right}
use Rattle.basis.proofs.Solved.{least_found}
use Rattle.solver.specs.Working.Held.{blank, HoldsLines}
use Rattle.solver.specs.Working.Solver.{RowsAre}
use Rattle.solver.proofs.Scanned.{line_some, line_none}
use Rattle.solver.proofs.Reading.{locator_held}
use Rattle.ending.specs.Endings.{Buffers}
use Rattle.ending.specs.declared.Ending.TheVariants.{Nothing, Several}
use Rattle.ending.proofs.WrongColumns.{root_count}
use Rattle.ending.proofs.Model.{rows_of, lines_of, Beyond, beyond, divided, alone, within, lowest, decided}
use Rattle.ending.proofs.ModelRows.{rows_symbols}
use Rattle.conditions.specs.Working.{reduced_points, reduced_values}
use Rattle.conditions.proofs.Reduced.{points_of, values_of, counts_of}

module _ {c : Code} (p : Proper c) where
  module _ {y : List ℕ} (received : IsArray c y) where
    pub least_line : (r : ℕ) → get_elem? (lines_of c y) r ≡ least (lines_of c y)
        → (r < length (lines_of c y)) × (least (lines_of c y) ≡ some (get_or (lines_of c y) r blank))
    least_line r e = go (dec_lt r (length (lines_of c y)))
      where
        go : Dec (r < length (lines_of c y)) → (r < length (lines_of c y)) × (least (lines_of c y) ≡ some (get_or (lines_of c y) r blank))
        go (yes h) = (h, sym e ∙ line_some blank (lines_of c y) r h)
        go (no h) = absurd (least_found (gf c.degree) p.field ℕ_discrete (rows_of c y) (rows_symbols p received)
            (sym e ∙ line_none blank (lines_of c y) r (omega arith)))

    pub solved_rows : RowsAre (map (λ (k : ℕ). columns c - k) c.lengths) (reduced_points c.points c.lengths)
        (reduced_values c.degree c.points c.lengths y) (rows_of c y)
    solved_rows = record {
      counts = counts_of c.degree p.field c.points c.lengths y received.count;
      points = points_of c.degree p.field c.points 0 c.lengths y received.count;
      values = values_of c.degree p.field c.points 0 c.lengths y received.count;
    }

module _ (c : Code) (y : List ℕ) (τ : ℕ) (lent : Buffers) (g : Line ℕ) (first : least (lines_of c y) ≡ some g) where
  abbrev t : ℕ
  t = size (rows c) g.lead

  abbrev next : Option (Line ℕ)
  next = another g.lead (lines_of c y)

  abbrev E : List ℕ
  E = locator_of_lem (gf c.degree) t g

  decided_by : decided c y τ lent ≡ within c y lent τ t g (dec_le t τ)
  unfolding decided lowest
  decided_by = ap (lowest c y lent τ) first

  none_by : (d : Dec (t ≤ τ)) → τ < t → within c y lent τ t g d ≡ (Nothing, lent)
  unfolding within
  none_by (yes h) q = absurd (omega arith)
  none_by (no h) q = refl

  pub decided_none : τ < t → decided c y τ lent ≡ (Nothing, lent)
  decided_none q = decided_by ∙ none_by (dec_le t τ) q

  within_by : (d : Dec (t ≤ τ)) → t ≤ τ → within c y lent τ t g d ≡ alone c y lent t g next (beyond (t * suc (rows c)) next)
  unfolding within
  within_by (yes h) q = refl
  within_by (no h) q = absurd (h q)

  several_by : (d : Dec (Beyond (t * suc (rows c)) next)) → ¬ Beyond (t * suc (rows c)) next → alone c y lent t g next d ≡ (Several t, lent)
  unfolding alone
  several_by (yes h) q = absurd (q h)
  several_by (no h) q = refl

  pub decided_several : t ≤ τ → ¬ Beyond (t * suc (rows c)) next → decided c y τ lent ≡ (Several t, lent)
  decided_several h q = decided_by ∙ within_by (dec_le t τ) h ∙ several_by (beyond (t * suc (rows c)) next) q

  alone_by : (d : Dec (Beyond (t * suc (rows c)) next)) → Beyond (t * suc (rows c)) next
      → alone c y lent t g next d ≡ divided c y lent t E (ℕ_discrete (root_count c E) t)
  unfolding alone
  alone_by (yes h) q = refl
  alone_by (no h) q = absurd (h q)

  pub decided_alone : t ≤ τ → Beyond (t * suc (rows c)) next → decided c y τ lent ≡ divided c y lent t E (ℕ_discrete (root_count c E) t)
  decided_alone h q = decided_by ∙ within_by (dec_le t τ) h ∙ alone_by (beyond (t * suc (rows c)) next) q

-- what decides on the solver's lines, held in the memory behind C conditions: r is the number that the scan for the least line
-- answers
pub record Solved (c : Code) (y : List ℕ) (τ C : ℕ) (leads space : List ℕ) (r : ℕ) : Type 0 where
  pub counts : Counts c
  pub proper : Proper c
  pub received : IsArray c y
  pub limit : τ ≤ joint_limit c
  pub few : C ≤ 380
  pub room : 3840 ≤ length space
  pub held : HoldsLines c.degree C (suc (rows c)) C leads space (lines_of c y)
  pub scanned : get_elem? (lines_of c y) r ≡ least (lines_of c y)

module _ {c : Code} {y : List ℕ} {τ C : ℕ} {leads space : List ℕ} {r : ℕ} (q : Solved c y τ C leads space r) where
  abbrev line : Line ℕ
  line = get_or (lines_of c y) r blank

  abbrev lead : ℕ
  lead = get_or leads r 0

  abbrev T : ℕ
  T = (lead + rows c) / (rows c + 1)

  abbrev place : ℕ
  place = 768 * r + C

  -- the part of the space in which the locator lies
  abbrev L : List ℕ
  L = take (place + (T + 1) - place) (drop place space)

  pub number : r < suc (rows c)
  number = omega (arith, (least_line q.proper q.received r q.scanned).0, q.held.count)

  pub lead_is : lead ≡ line.lead
  lead_is = (q.held.each r number).lead

  pub lead_low : lead < 381 * 5
  lead_low =
      let conditions : C + 1 ≤ 381 = omega arith in
      let lines : suc (rows c) ≤ 5 = omega (arith, q.counts.most_rows) in
      omega (arith, lead_is, (q.held.each r number).low, mul-le-mul conditions lines)

  size_is : T ≡ size (rows c) line.lead
  unfolding size
  size_is = rw (lead_is, add-one)

  first : least (lines_of c y) ≡ some line
  first = (least_line q.proper q.received r q.scanned).1

  bound_is : T * (rows c + 1) ≡ size (rows c) line.lead * suc (rows c)
  bound_is = ap₂ ◌*◌ size_is (add-one (rows c))

  next_is : another lead (lines_of c y) ≡ another line.lead (lines_of c y)
  next_is = ap (λ (m : ℕ). another m (lines_of c y)) lead_is

  pub reads_none : τ < T → (lent : Buffers) → decided c y τ lent ≡ (Nothing, lent)
  reads_none above lent = decided_none c y τ lent line first (omega (arith, size_is))

  module _ (small : T ≤ τ) where
    pub size_small : T < columns c
    size_small = omega (arith, joint_less q.proper q.counts)

    pub reads_several : ¬ Beyond (T * (rows c + 1)) (another lead (lines_of c y)) → (lent : Buffers) → decided c y τ lent ≡ (Several T, lent)
    reads_several within-it lent =
        decided_several c y τ lent line first (omega (arith, size_is)) (λ b. within-it (subst₂ Beyond (sym bound_is) (sym next_is) b))
        ∙ ap (λ (t : ℕ). (Several t, lent)) (sym size_is)

    pub locator_is : L ≡ locator_of_lem (gf c.degree) T line
    unfolding part
    locator_is =
        let all : place + (T + 1) - place ≡ T + 1 = omega arith in
        rw all (locator_held c.degree C (suc (rows c)) q.held r T number (omega (arith, size_small, q.counts.most_columns))
        (omega (arith, number, q.counts.most_rows)))

    poly : Poly (gf c.degree) (suc T) L
    poly = rw locator_is (cut_poly (gf c.degree) q.proper.field (suc T) line.locator
        (all_right (IsSymbol c.degree) line.values line.locator (q.held.each r number).symbols))

    pub locator_count : length L ≡ suc T
    locator_count = poly.count

    pub locator_symbols : All (IsSymbol c.degree) L
    locator_symbols = poly.symbols

    pub reads_alone : Beyond (T * (rows c + 1)) (another lead (lines_of c y)) → (lent : Buffers)
        → decided c y τ lent ≡ divided c y lent T L (ℕ_discrete (root_count c L) T)
    reads_alone beyond-it lent =
        decided_alone c y τ lent line first (omega (arith, size_is)) (subst₂ Beyond bound_is next_is beyond-it)
        ∙ ap (λ (t : ℕ). divided c y lent t (locator_of_lem (gf c.degree) t line)
        (ℕ_discrete (root_count c (locator_of_lem (gf c.degree) t line)) t)) (sym size_is)
        ∙ ap (λ (E : List ℕ). divided c y lent T E (ℕ_discrete (root_count c E) T)) (sym locator_is)
