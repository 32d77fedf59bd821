-- What the endings mean for code arrays.
--
--   corrected_means     'corrected' leaves the nearest code array
--   none_means          'none': no code array is within τ columns
--   safe_exactly        at the safe limit or below: 'corrected' exactly when some code array is within τ columns
--   safe_otherwise      there any other ending means that no code array is within τ columns
-- Assumes nothing.
use mathlib.Core.Path.{◌≡◌, refl, sym, ap, ◌∙◌, subst}
use mathlib.Core.Logic.{◌↔◌}
use mathlib.Core.List.{List}
use Prim.Native.Nat.{ℕ, ◌≤◌, ◌<◌}
use native.Mathlib.Decide.{dec_le, dec_lt}
use native.Mathlib.Omega.{arith}
use Rattle.refusal.specs.Meaning.{number_of}
use Rattle.field.specs.Arithmetic.{Arithmetic, gf}
use Rattle.poly.proofs.Locators.{loc, loc_multiple}
use Rattle.codes.specs.Code.{Code, columns, IsMessage, IsArray, encoded, CodeArray, flags_of, wrong_count, joint_limit, safe_limit}
use Rattle.codes.specs.Near.{Nearest, Near, Far}
use Rattle.codes.proofs.Proper.{Proper}
use Rattle.codes.proofs.Limits.{Room, joint_room, safe_room}
use Rattle.codes.proofs.Columns.{wrong_points, wrong_count_lem, wrong_distinct, wrong_symbols}
use Rattle.ending.specs.Locators.{Locator, Multiple, Least, OnlyOne, Divides}
use Rattle.ending.specs.Endings.{meaning, Buffers, Corrects, Ends}
use Rattle.ending.specs.declared.Ending.{Ending}
use Rattle.ending.specs.declared.Ending.TheVariants.{Refused, Corrected, Nothing, Several, Hollow}
use Rattle.ending.proofs.Division.{divides_exactly, divides_shared, divides_unique}
use Rattle.ending.proofs.Multiples.{vanishes_multiple}
use Rattle.ending.proofs.WrongColumns.{code_divides, code_locator, vanishes_wrong, wrong_roots, wrong_few, wrong_number}
use Rattle.ending.proofs.Exclusive.{exclusive}

is_corrected : (e : Ending) → number_of (meaning e) ≡ 1 → (w : ℕ) × (e ≡ Corrected w)
is_corrected (Refused r) h = absurd (omega arith)
is_corrected (Corrected w) h = (w, refl)
is_corrected Nothing h = absurd (omega arith)
is_corrected (Several t) h = absurd (omega arith)
is_corrected (Hollow t) h = absurd (omega arith)

module _ {c : Code} (p : Proper c) {y : List ℕ} (received : IsArray c y) (τ : ℕ) where
  abbrev A : Arithmetic ℕ
  A = gf c.degree

  -- the answer's wrong columns number t, the least size
  corrected_number : {w : ℕ} {left : Buffers} (h : Corrects c y τ w left) → wrong_count c y (encoded c h.m) ≡ h.t
  corrected_number h = wrong_number p received h.message h.only.one h.divides h.least.none_below

  corrected-detail : {w : ℕ} {left : Buffers} (h : Corrects c y τ w left) → w ≡ h.t
  corrected-detail h = h.detail ∙ ap (wrong_count c y) h.array ∙ corrected_number h

  -- no code array differs in fewer columns than the least size
  no_nearer : {t : ℕ} {m : List ℕ} → Least c y τ t → IsMessage c m → t ≤ wrong_count c y (encoded c m)
  no_nearer {t} {m} l i = go (dec_lt (wrong_count c y (encoded c m)) t)
    where
      go : Dec (wrong_count c y (encoded c m) < t) → t ≤ wrong_count c y (encoded c m)
      go (yes q) = absurd (l.none_below _ (loc A (wrong_points c y (encoded c m))) q (code_locator p received i))
      go (no q) = omega arith

  -- a code array that differs in as many columns as the answer is the answer
  one_answer : {t : ℕ} {E m m' : List ℕ} → Room (columns c) t c.lengths → OnlyOne c y t E → IsMessage c m → Divides c y t E m
      → IsMessage c m' → wrong_count c y (encoded c m') ≡ t → m' ≡ m
  one_answer {t} {E} {m} {m'} r o i d i' e =
      let W : List ℕ = wrong_points c y (encoded c m') in
      let locator : Locator c y t (loc A W) = subst (λ (u : ℕ). Locator c y u (loc A W)) e (code_locator p received i') in
      let multiple : Multiple c E (loc A W) = o.multiples (loc A W) locator in
      let v = vanishes_multiple p E (loc A W) W o.one.size.symbols locator.nonzero multiple (vanishes_wrong p received i') in
      divides_unique p received o.one i' i r ((divides_exactly p received o.one.size i').1 v) d

  pub corrected_code : {w : ℕ} {left : Buffers} → Corrects c y τ w left → CodeArray c left.array
  corrected_code h = (h.m, h.message, sym h.array)

  pub corrected_within : {w : ℕ} {left : Buffers} → Corrects c y τ w left → w ≤ τ
  corrected_within h = omega (arith, corrected-detail h, h.least.within)

  corrected_others : τ ≤ joint_limit c → {w : ℕ} {left : Buffers} → Corrects c y τ w left
      → (b : List ℕ) → CodeArray c b → ¬ (b ≡ left.array) → w < wrong_count c y b
  corrected_others l {w} {left} h b (m, i, e) apart =
      subst (λ (a : List ℕ). w < wrong_count c y a) e (go (dec_lt w (wrong_count c y (encoded c m))))
    where
      room : Room (columns c) h.t c.lengths
      room = joint_room p (omega (arith, h.least.within))

      go : Dec (w < wrong_count c y (encoded c m)) → w < wrong_count c y (encoded c m)
      go (yes q) = q
      go (no q) =
          let same : wrong_count c y (encoded c m) ≡ h.t = omega (arith, no_nearer h.least i, corrected-detail h) in
          absurd (apart (sym e ∙ ap (encoded c) (one_answer room h.only h.message h.divides i same) ∙ sym h.array))

  pub corrected_means : τ ≤ joint_limit c → (w : ℕ) (lent left : Buffers) → Ends c y τ lent (Corrected w) left
      → Nearest (CodeArray c) (wrong_count c y) τ w left.array
  corrected_means l w lent left h = record {
    code = corrected_code h;
    wrong = sym h.detail;
    within = corrected_within h;
    others = corrected_others l h;
  }

  pub none_means : (lent left : Buffers) → Ends c y τ lent Nothing left → Far (CodeArray c) (wrong_count c y) τ
  none_means lent left h a (m, i, e) = subst (λ (b : List ℕ). τ < wrong_count c y b) e (go (dec_le (wrong_count c y (encoded c m)) τ))
    where
      go : Dec (wrong_count c y (encoded c m) ≤ τ) → τ < wrong_count c y (encoded c m)
      go (yes q) = absurd (h.0 _ (loc A (wrong_points c y (encoded c m))) q (code_locator p received i))
      go (no q) = omega arith

  module _ (safe : τ ≤ safe_limit c) where
    module _ {m : List ℕ} (message : IsMessage c m) (near : wrong_count c y (encoded c m) ≤ τ) where
      abbrev W : List ℕ
      W = wrong_points c y (encoded c m)

      abbrev w : ℕ
      w = wrong_count c y (encoded c m)

      -- every locator up to τ divides, with the near code array's message
      every_divides : {u : ℕ} {F : List ℕ} → u ≤ τ → Locator c y u F → Divides c y u F m
      every_divides {u} {F} q f = divides_shared p received (code_locator p received message) f message
          (safe_room p (omega arith) (omega arith))
          (code_divides p received message)

      near_least : Least c y τ w
      near_least = record {
        within = near;
        exists = (loc A W, code_locator p received message);
        none_below = λ u F q f. below u F q f (wrong_few p received message f (every_divides (omega arith) f));
      }
        where
          below : (u : ℕ) (F : List ℕ) → u < w → Locator c y u F → ¬ (w ≤ u)
          below u F q f r = omega arith

      near_only : OnlyOne c y w (loc A W)
      near_only = record {
        one = code_locator p received message;
        multiples = λ F f. loc_multiple A p.field W F
            (wrong_distinct c y (encoded c m) p)
            (wrong_symbols c y (encoded c m) p)
            f.size.symbols
            (omega (arith, f.size.count, wrong_count_lem c y (encoded c m)))
            (wrong_roots p received message f (every_divides near f));
      }

      pub near_corrects : Corrects c y τ w (record { array = encoded c m; flags = flags_of c y (encoded c m) })
      near_corrects = record {
        t = w;
        least = near_least;
        E = loc A W;
        only = near_only;
        m = m;
        message = message;
        divides = code_divides p received message;
        array = refl;
        flags = refl;
        detail = refl;
      }

    pub safe_exactly : (e : Ending) (lent left : Buffers) → Ends c y τ lent e left
        → ((w : ℕ) × (e ≡ Corrected w)) ↔ Near (CodeArray c) (wrong_count c y) τ
    safe_exactly e lent left h = (to, from)
      where
        to : (w : ℕ) × (e ≡ Corrected w) → Near (CodeArray c) (wrong_count c y) τ
        to (w, q) =
            let g : Ends c y τ lent (Corrected w) left = subst (λ (f : Ending). Ends c y τ lent f left) q h in
            (left.array, corrected_code g, omega (arith, corrected_within g, g.detail))

        from : Near (CodeArray c) (wrong_count c y) τ → (w : ℕ) × (e ≡ Corrected w)
        from (a, (m, i, q), n) =
            let near : wrong_count c y (encoded c m) ≤ τ = rw q n in
            let answer : Buffers = record { array = encoded c m; flags = flags_of c y (encoded c m) } in
            let w : ℕ = wrong_count c y (encoded c m) in
            is_corrected e (exclusive p received τ e (Corrected w) lent lent left answer h (near_corrects i near))

    -- 'At the safe limit or below, any ending but "corrected" and "refused" means that no code array is within τ columns.'
    pub safe_otherwise : (e : Ending) (lent left : Buffers) → Ends c y τ lent e left → ((w : ℕ) → ¬ (e ≡ Corrected w))
        → Far (CodeArray c) (wrong_count c y) τ
    safe_otherwise e lent left h other a i = go (dec_le (wrong_count c y a) τ)
      where
        go : Dec (wrong_count c y a ≤ τ) → τ < wrong_count c y a
        go (yes q) = let (w, s) = (safe_exactly e lent left h).1 (a, i, q) in absurd (other w s)
        go (no q) = omega arith
