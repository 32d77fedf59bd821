-- The table through a step and a run: it holds what the model makes of the entries.
--
--   laid_held       what a run asks of the slots
--   least_held      a line of least lead holds an entry of least lead
--   step_holds      after a step it holds the entries of a step at that form
--   run_holds       after a run, whatever σ it makes of the memory, it holds the entries of a run over the forms that are used
-- Assumes nothing.
use mathlib.Core.Path.{◌≡◌, refl, sym, ap, ap₂, ◌∙◌}
use mathlib.Core.Bool.{false}
use mathlib.Core.List.{List, [], ◌∷◌, ◌++◌, append-nil}
use mathlib.Core.Option
use mathlib.Core.Option.{Option, none, some}
use Prim.Native.Nat.{ℕ, zero, suc, ◌+◌, ◌*◌, ◌≤◌, ◌<◌}
use native.Mathlib.Decide.{ℕ_discrete}
use native.Mathlib.Omega.{arith}
use lib.ListN.{length, get_or, set, length-set, length-map}
use lib.Seq.{get_or-set_same, get_or-set_other}
use Rattle.refusal.specs.Refusal.{bad_degree}
use Rattle.field.specs.Symbols.{plus, times, over}
use Rattle.field.specs.Arithmetic.{gf}
use Rattle.field.proofs.Instance.{field}
use Rattle.poly.specs.Poly.{All}
use Rattle.poly.proofs.Ring.{plus_times, times_comm}
use Rattle.basis.proofs.Vector.{mix, shift}
use Rattle.basis.proofs.Scan.{lowest}
use Rattle.basis.proofs.Lines.{Separate, separate_add}
use Rattle.basis.proofs.Basis.{Space, Form, Entry, Lawful, fix_by, fix, step_by, step, run}
use Rattle.solver.specs.Working.Scan.{first_lowest}
use Rattle.solver.proofs.Scanned.{scanned}
use Rattle.solver.proofs.Pivoted.{all_get}
use Rattle.solver.proofs.Stepped.{map_get}
use Rattle.pits.specs.Working.Table.{Symbols, SlotsIn, Laid, Least, heads, turned}
use Rattle.pits.specs.Working.Table.{stepped_by, stepped, ran_by, ran}
use Rattle.pits.specs.Working.Holds.{blank, nothing, Valued, Held, Holds, chosen_by, chosen}
use Rattle.pits.proofs.Mixed.{slot_mixed, slot_zero, slot_other}
use Rattle.pits.proofs.Turned.{length-turned, turned_pivot, turned_other}
use Rattle.pits.proofs.Lowest.{found_below}
use Rattle.pits.proofs.Stepped.{heads_at}

-- the value of a form on a vector that is raised by the factor a
lift_value : (d : ℕ) (good : bad_degree d ≡ false) {s : ℕ} (𝓢 : Space (gf d) s) (F : Form ℕ) → Lawful 𝓢 F → (a : ℕ) (v : List ℕ) → 𝓢.has v
    → F.of (mix (gf d) a (shift (gf d) s v) v) ≡ times d (plus F.factor a) (F.of v)
lift_value d good {s} 𝓢 F lawful a v hv =
    lawful.of_mix a (shift (gf d) s v) v (𝓢.shifted v hv) hv
    ∙ ap (λ (u : ℕ). plus u (times d a (F.of v))) (lawful.of_shift v hv)
    ∙ sym (plus_times (gf d) (field d good) F.factor a (F.of v))

-- what holds of each entry by its number
pub all_by : {L : Type 0} (P : L → Type 0) (l : List L) (z : L) → ((j : ℕ) → j < length l → P (get_or l j z)) → All P l
all_by P [] z h = tt
all_by P (e ∷ l) z h = (h 0 (omega arith), all_by P l z (λ j lt. h (suc j) (omega arith)))

pub least_held : (d : ℕ) {s : ℕ} (𝓢 : Space (gf d) s) (Fs : List (Form ℕ)) (es : List (Entry ℕ)) (leads l : List ℕ) (r : ℕ)
    → Holds d 𝓢 Fs es leads l → Least leads s r → All (λ (e : Entry ℕ). (get_or es r blank).lead ≤ e.lead) es
least_held d 𝓢 Fs es leads l r h least =
    all_by _ es blank (λ j lt. let lj = rw h.count at lt in
    rw (← (h.each r least.below).leading, ← (h.each j lj).leading) (least.least j lj))

-- a run over one form more
run_more : (d s : ℕ) (Cs : List (Form ℕ)) (C : Form ℕ) (es : List (Entry ℕ))
    → run (gf d) ℕ_discrete s (Cs ++ (C ∷ [])) es ≡ step (gf d) ℕ_discrete s C (run (gf d) ℕ_discrete s Cs es)
unfolding run
run_more d s [] C es = refl
run_more d s (D ∷ Cs) C es = run_more d s Cs C (step (gf d) ℕ_discrete s D es)

module _ (d : ℕ) (good : bad_degree d ≡ false) {s : ℕ} (few : s ≤ 8) (𝓢 : Space (gf d) s) (Fs : List (Form ℕ)) (xs : List ℕ)
    (valued : Valued d 𝓢 Fs xs)
  where
    abbrev form : ℕ → Form ℕ
    form i = get_or Fs i nothing

    lawful_at : (i : ℕ) → i < length Fs → Lawful 𝓢 (form i)
    lawful_at i lt = all_get (Lawful 𝓢) Fs nothing i lt valued.lawful

    symbols_held : {es : List (Entry ℕ)} {leads l : List ℕ} → Holds d 𝓢 Fs es leads l → SlotsIn d (length Fs) s l
    symbols_held h j i lj li = rw ((h.each j lj).values i li) ((lawful_at i li).of_symbol _ (h.each j lj).within)

    pub laid_held : {es : List (Entry ℕ)} {leads l : List ℕ} → Symbols d (length xs) xs → length xs ≤ 128
        → Holds d 𝓢 Fs es leads l → Laid d xs s l
    laid_held points narrow h =
        record {
          points = points;
          narrow = narrow;
          few = few;
          room = rw valued.wide h.room;
          symbols = rw valued.wide (symbols_held h);
        }

    module _ (i : ℕ) (here : i < length Fs) (es : List (Entry ℕ)) (leads l : List ℕ) (h : Holds d 𝓢 Fs es leads l) where
      abbrev C : Form ℕ
      C = form i

      abbrev entry : ℕ → Entry ℕ
      entry j = get_or es j blank

      abbrev ds : List ℕ
      ds = heads (length xs) i s l

      value_at : (j : ℕ) → j < s → get_or ds j 0 ≡ C.of (entry j).vec
      value_at j lt = heads_at (length xs) i s l few j lt ∙ rw valued.wide ((h.each j lt).values i here)

      pivot_line : (o : Option ℕ) → o ≡ first_lowest ds leads s
          → Option.map (λ (j : ℕ). get_or es j blank) o ≡ lowest (λ (e : Entry ℕ). e.lead) (λ (e : Entry ℕ). ℕ_discrete (C.of e.vec) 0) none es
      pivot_line o is =
          scanned blank (λ (e : Entry ℕ). e.lead) (λ (e : Entry ℕ). ℕ_discrete (C.of e.vec) 0) es ds leads s o h.count is
          (λ j lt. ((h.each j lt).leading, λ z. value_at j lt ∙ z, λ z. sym (value_at j lt) ∙ z))

      step-none : first_lowest ds leads s ≡ none → step (gf d) ℕ_discrete s C es ≡ es
      unfolding step step_by
      step-none e =
          let None-found = sym (pivot_line none (sym e)) in
          rw None-found

      module _ (r : ℕ) (is : first_lowest ds leads s ≡ some r) where
        line : r < s
        line = found_below ds leads s r is

        abbrev p : Entry ℕ
        p = entry r

        pivot_found : lowest (λ (e : Entry ℕ). e.lead) (λ (e : Entry ℕ). ℕ_discrete (C.of e.vec) 0) none es ≡ some p
        pivot_found = sym (pivot_line (some r) (sym is))

        abbrev leads₂ : List ℕ
        leads₂ = set leads r (get_or leads r 0 + s)

        abbrev l₂ : List ℕ
        l₂ = turned d xs i s ds r l

        room : length xs * s ≤ length l
        room = rw valued.wide h.room

        -- the slots, before and after
        slot : (j k : ℕ) → j < s → k < length Fs → get_or l (length xs * j + k) 0 ≡ (form k).of (entry j).vec
        slot j k lj lk = ap (λ (m : ℕ). get_or l (m * j + k) 0) valued.wide ∙ (h.each j lj).values k lk

        pivot_slot : (k : ℕ) → k < length Fs
            → get_or l₂ (length Fs * r + k) 0 ≡ times d (plus (form k).factor C.factor) ((form k).of p.vec)
        pivot_slot k lk =
            ap (λ (m : ℕ). get_or l₂ (m * r + k) 0) (sym valued.wide)
            ∙ turned_pivot d xs i s ds r l line room good k (rw valued.wide lk)
            ∙ ap₂ (times d) (ap₂ plus (valued.points k lk) (valued.points i here)) (slot r k line lk)

        other_slot : (j k : ℕ) → j < s → (j ≡ r → ⊥) → k < length Fs
            → get_or l₂ (length Fs * j + k) 0 ≡ slot_mixed d ds r j ((form k).of (entry j).vec) ((form k).of p.vec)
        other_slot j k lj other lk =
            ap (λ (m : ℕ). get_or l₂ (m * j + k) 0) (sym valued.wide)
            ∙ turned_other d xs i s ds r l line room good j k lj other (rw valued.wide lk)
            ∙ ap₂ (slot_mixed d ds r j) (slot j k lj lk) (slot r k line lk)

        -- the leads after the step
        same_line : (j : ℕ) → j < s → (entry j).lead ≡ p.lead → j ≡ r
        same_line j lj e = go (ℕ_discrete j r)
          where
            go : Dec (j ≡ r) → j ≡ r
            go (yes same) = same
            go (no other) =
                let equal : get_or leads j 0 ≡ get_or leads r 0 = (h.each j lj).leading ∙ e ∙ sym (h.each r line).leading in
                absurd (h.apart j r lj line other 0 0 (omega arith))

        pivot_lead : get_or leads₂ r 0 ≡ get_or leads r 0 + s
        pivot_lead = get_or-set_same leads r (get_or leads r 0 + s) 0 (omega (arith, h.enough, line))

        other_lead : (j : ℕ) → (j ≡ r → ⊥) → get_or leads₂ j 0 ≡ get_or leads j 0
        other_lead j other = get_or-set_other leads r j (get_or leads r 0 + s) 0 other

        rises : (j : ℕ) → (m : ℕ) × (get_or leads₂ j 0 ≡ m * s + get_or leads j 0)
        rises j = go (ℕ_discrete j r)
          where
            go : Dec (j ≡ r) → (m : ℕ) × (get_or leads₂ j 0 ≡ m * s + get_or leads j 0)
            go (yes e) = (1, rw e (pivot_lead ∙ omega arith))
            go (no other) = (0, other_lead j other ∙ omega arith)

        apart₂ : (j k : ℕ) → j < s → k < s → (j ≡ k → ⊥) → Separate s (get_or leads₂ j 0) (get_or leads₂ k 0)
        apart₂ j k lj lk other =
            let (a, ea) = rises j in
            let (b, eb) = rises k in
            rw (ea, eb) (separate_add s (get_or leads j 0) (get_or leads k 0) a b (h.apart j k lj lk other))

        -- the pivot, a line that stays, and a line that is mixed
        fixed : (j : ℕ) → j < s → (t : Dec ((entry j).lead ≡ p.lead)) (z : Dec (C.of (entry j).vec ≡ 0))
            → Held d 𝓢 Fs leads₂ l₂ j (fix_by (gf d) ℕ_discrete s C p (entry j) t z)
        unfolding fix_by
        fixed j lj (yes e) z =
            let same : j ≡ r = same_line j lj e in
            let hp = h.each r line in
            rw same (record {
              within = 𝓢.mixed C.factor (shift (gf d) s p.vec) p.vec (𝓢.shifted p.vec hp.within) hp.within;
              leading = pivot_lead ∙ omega (arith, hp.leading);
              values = λ k lk. pivot_slot k lk
                  ∙ sym (lift_value d good 𝓢 (form k) (lawful_at k lk) C.factor p.vec hp.within);
            })
        fixed j lj (no e) (yes z) =
            let other : j ≡ r → ⊥ = λ same. e (rw same) in
            record {
              within = (h.each j lj).within;
              leading = other_lead j other ∙ (h.each j lj).leading;
              values = λ k lk. other_slot j k lj other lk ∙ slot_zero d ds r j _ _ (value_at j lj ∙ z);
            }
        fixed j lj (no e) (no z) =
            let other : j ≡ r → ⊥ = λ same. e (rw same) in
            let he = (h.each j lj).within in
            let hp = (h.each r line).within in
            let c : ℕ = over d (C.of (entry j).vec) (C.of p.vec) in
            record {
              within = 𝓢.mixed c (entry j).vec p.vec he hp;
              leading = other_lead j other ∙ (h.each j lj).leading;
              values = λ k lk. other_slot j k lj other lk ∙ slot_other d ds r j _ _ other (λ y. z (sym (value_at j lj) ∙ y))
                  ∙ ap (plus ((form k).of (entry j).vec))
                  (ap (times d ((form k).of p.vec)) (ap₂ (over d) (value_at j lj) (value_at r line))
                  ∙ times_comm (gf d) (field d good) ((form k).of p.vec) c)
                  ∙ sym ((lawful_at k lk).of_mix c (entry j).vec p.vec he hp);
            }

        step-some : Holds d 𝓢 Fs (step (gf d) ℕ_discrete s C es) leads₂ l₂
        unfolding step step_by fix
        step-some =
            record {
              count = rw pivot_found (length-map es (fix (gf d) ℕ_discrete s C p) ∙ h.count);
              enough = rw length-set h.enough;
              room = rw (length-turned d xs i s ds r l) h.room;
              apart = apart₂;
              each = λ j lj. rw (pivot_found, map_get (fix (gf d) ℕ_discrete s C p) es blank j (omega (arith, h.count)))
                  (fixed j lj _ _);
            }

      holds_by : (o : Option ℕ) → first_lowest ds leads s ≡ o
          → Holds d 𝓢 Fs (step (gf d) ℕ_discrete s C es) (stepped_by d xs s i (leads, l) o).0 (stepped_by d xs s i (leads, l) o).1
      unfolding stepped_by
      holds_by none e = rw (step-none e) h
      holds_by (some r) e = step-some r e

      pub step_holds : Holds d 𝓢 Fs (step (gf d) ℕ_discrete s C es) (stepped d xs s i (leads, l)).0 (stepped d xs s i (leads, l)).1
      unfolding stepped
      step_holds = holds_by _ refl

    -- a run

    module _ (used : List ℕ) (es : List (Entry ℕ)) (τ : List ℕ × List ℕ) (h : Holds d 𝓢 Fs es τ.0 τ.1) where
      abbrev after : ℕ → List ℕ × List ℕ
      after n = ran d xs s used n τ

      abbrev entries : ℕ → List (Entry ℕ)
      entries n = run (gf d) ℕ_discrete s (chosen Fs used n) es

      next_holds : (n : ℕ) (t : Dec (get_or used n 0 ≡ 0)) → n < length Fs → Holds d 𝓢 Fs (entries n) (after n).0 (after n).1
          → Holds d 𝓢 Fs (run (gf d) ℕ_discrete s (chosen Fs used n ++ chosen_by Fs used n t) es) (ran_by d xs s used n (after n) t).0
          (ran_by d xs s used n (after n) t).1
      unfolding ran_by chosen_by
      next_holds n (yes z) lt held = rw append-nil held
      next_holds n (no z) lt held =
          rw (run_more d s (chosen Fs used n) (form n) es) (step_holds n lt (entries n) (after n).0 (after n).1 held)

      holds_after : (n : ℕ) → n ≤ length Fs → Holds d 𝓢 Fs (entries n) (after n).0 (after n).1
      unfolding ran chosen run
      holds_after zero le = h
      holds_after (suc n) le = next_holds n (ℕ_discrete (get_or used n 0) 0) (omega arith) (holds_after n (omega arith))

      pub run_holds : (n : ℕ) → n ≤ length Fs → {σ : List ℕ × List ℕ} → σ ≡ after n → Holds d 𝓢 Fs (entries n) σ.0 σ.1
      run_holds n le e = rw e (holds_after n le)
