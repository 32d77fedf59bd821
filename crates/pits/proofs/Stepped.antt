-- A step and a run by the numbers of the lines: what they ask for, and what they leave of it.
--
--   heads_at                    the values as they are read
--   turning                     what mixing and multiplying ask, of the pivot that is found, where vs are the values
--   stepped_none, stepped_some  a step that finds no pivot, and one that finds line p and makes t of the slots
--   Keeps d xs s b τ σ          the memory σ is as long as τ, has symbols, and leads of at most b
--   step_keeps                  any step leaves lengths and symbols as they were, and leads rise by 8 at most
--   run_none, run_idle, run_more    no condition; one more, not used; one more, used
--   run_keeps                   so does a run, by 8 a condition, whatever σ it makes of the memory
-- Assumes nothing.
use mathlib.Core.Path.{◌≡◌, refl, sym, ap, ◌∙◌}
use mathlib.Core.Bool.{false}
use mathlib.Core.List.{List, [], ◌∷◌}
use mathlib.Core.Option.{Option, none, some}
use Prim.Native.Nat.{ℕ, zero, suc, ◌+◌, ◌*◌, ◌≤◌, ◌<◌}
use native.Mathlib.Nat.{zero-add}
use native.Mathlib.Numerals.{add-one}
use native.Mathlib.Decide.{ℕ_discrete}
use native.Mathlib.Omega.{arith}
use lib.ListN.{length, get_or, set, length-set, replicate, length-replicate}
use lib.Seq.{get_or-set_other}
use Rattle.patch.proofs.Laws.{get_or-patch}
use Rattle.refusal.specs.Refusal.{bad_degree}
use Rattle.solver.specs.Working.Scan.{first_lowest}
use Rattle.pits.specs.Working.Table.{Low, Laid, Turning, heads, turned, stepped_by, stepped, ran_by, ran}
use Rattle.pits.proofs.Lowest.{marked, found_below}
use Rattle.pits.proofs.Turned.{length-turned, turned_in}

pub heads_at : (n i s : ℕ) (l : List ℕ) → s ≤ 8 → (j : ℕ) → j < s → get_or (heads n i s l) j 0 ≡ get_or l (n * j + i) 0
unfolding heads
heads_at n i s l few j lt =
    let long : length (replicate {A = ℕ} 8 0) ≡ 8 = length-replicate {A = ℕ} 8 0 in
    ap (λ (k : ℕ). get_or (heads n i s l) k 0) (sym (zero-add j)) ∙ get_or-patch 0 _ (replicate 8 0) s j 0 lt (omega arith)

set_low : (l : List ℕ) (p v b : ℕ) → v ≤ b → get_or (set l p v) p 0 ≤ b
set_low [] p v b h = omega arith
set_low (a ∷ l) zero v b h = h
set_low (a ∷ l) (suc p) v b h = set_low l p v b h

pub record Keeps (d : ℕ) (xs : List ℕ) (s b : ℕ) (τ σ : List ℕ × List ℕ) : Type 0 where
  pub laid : Laid d xs s σ.1
  pub low : Low s b σ.0
  pub long : length σ.1 ≡ length τ.1
  pub leads : length σ.0 ≡ length τ.0

module _ (d : ℕ) (xs : List ℕ) (s i : ℕ) (τ : List ℕ × List ℕ) where
  abbrev ds : List ℕ
  ds = heads (length xs) i s τ.1

  pub stepped_none : first_lowest ds τ.0 s ≡ none → stepped d xs s i τ ≡ τ
  unfolding stepped stepped_by
  stepped_none e = rw e

  pub stepped_some : {vs t : List ℕ} → vs ≡ ds → (p : ℕ) → first_lowest ds τ.0 s ≡ some p → t ≡ turned d xs i s vs p τ.1
      → stepped d xs s i τ ≡ (set τ.0 p (get_or τ.0 p 0 + s), t)
  unfolding stepped stepped_by
  stepped_some same p e made = rw (e, made, same)

  module _ (laid : Laid d xs s τ.1) (here : i < length xs) where
    pub turning : {vs : List ℕ} → vs ≡ ds → (p : ℕ) → first_lowest ds τ.0 s ≡ some p → Turning d xs i s vs p τ.1
    turning same p e =
        record {
          laid = laid;
          here = here;
          pivot = found_below ds τ.0 s p e;
          values = λ j lt. rw (same, heads_at (length xs) i s τ.1 laid.few j lt) (laid.symbols j i lt here);
          nonzero = λ z. marked ds τ.0 s p e (rw same at z);
        }

    module _ (good : bad_degree d ≡ false) (b : ℕ) (low : Low s b τ.0) where
      keeps_by : (o : Option ℕ) → first_lowest ds τ.0 s ≡ o → Keeps d xs s (b + 8) τ (stepped_by d xs s i τ o)
      unfolding stepped_by
      keeps_by none e = record { laid = laid; low = λ j lt. omega (arith, low j lt); long = refl; leads = refl }
      keeps_by (some p) e =
          let line : p < s = found_below ds τ.0 s p e in
          record {
            laid = record {
              points = laid.points;
              narrow = laid.narrow;
              few = laid.few;
              room = omega (arith, laid.room, length-turned d xs i s ds p τ.1);
              symbols = turned_in d xs i s ds p τ.1 line laid.room good laid.symbols;
            };
            low = λ j lt. raised p j lt (ℕ_discrete j p);
            long = length-turned d xs i s ds p τ.1;
            leads = length-set τ.0 p (get_or τ.0 p 0 + s);
          }
        where
          raised : (p j : ℕ) → j < s → Dec (j ≡ p) → get_or (set τ.0 p (get_or τ.0 p 0 + s)) j 0 ≤ b + 8
          raised p j lt (yes e) = rw e (set_low τ.0 p (get_or τ.0 p 0 + s) (b + 8) (omega (arith, rw e at (low j lt), laid.few)))
          raised p j lt (no other) =
              rw (get_or-set_other τ.0 p j (get_or τ.0 p 0 + s) 0 other) (omega (arith, low j lt))

      pub step_keeps : Keeps d xs s (b + 8) τ (stepped d xs s i τ)
      unfolding stepped
      step_keeps = keeps_by _ refl

module _ (d : ℕ) (xs : List ℕ) (s : ℕ) (used : List ℕ) (τ : List ℕ × List ℕ) where
  abbrev after : ℕ → List ℕ × List ℕ
  after n = ran d xs s used n τ

  pub run_none : after 0 ≡ τ
  unfolding ran
  run_none = refl

  module _ (n : ℕ) where
    idle_by : (t : Dec (get_or used n 0 ≡ 0)) → get_or used n 0 ≡ 0 → ran_by d xs s used n (after n) t ≡ after n
    unfolding ran_by
    idle_by (yes z) e = refl
    idle_by (no z) e = absurd (z e)

    more_by : (t : Dec (get_or used n 0 ≡ 0)) → (get_or used n 0 ≡ 0 → ⊥) → ran_by d xs s used n (after n) t ≡ stepped d xs s n (after n)
    unfolding ran_by
    more_by (yes z) e = absurd (e z)
    more_by (no z) e = refl

    pub run_idle : get_or used n 0 ≡ 0 → after (n + 1) ≡ after n
    unfolding ran
    run_idle e = rw add-one (idle_by (ℕ_discrete (get_or used n 0) 0) e)

    pub run_more : (get_or used n 0 ≡ 0 → ⊥) → after (n + 1) ≡ stepped d xs s n (after n)
    unfolding ran
    run_more e = rw add-one (more_by (ℕ_discrete (get_or used n 0) 0) e)

  module _ (good : bad_degree d ≡ false) (laid : Laid d xs s τ.1) (b : ℕ) (low : Low s b τ.0) where
    next_by : (n : ℕ) (t : Dec (get_or used n 0 ≡ 0)) → n < length xs → Keeps d xs s (b + 8 * n) τ (after n)
        → Keeps d xs s (b + 8 * suc n) τ (ran_by d xs s used n (after n) t)
    unfolding ran_by
    next_by n (yes z) lt k = record { laid = k.laid; low = λ j h. omega (arith, k.low j h); long = k.long; leads = k.leads }
    next_by n (no z) lt k =
        let next = step_keeps d xs s n (after n) k.laid lt good (b + 8 * n) k.low in
        record {
          laid = next.laid;
          low = λ j h. omega (arith, next.low j h);
          long = next.long ∙ k.long;
          leads = next.leads ∙ k.leads;
        }

    keeps_after : (n : ℕ) → n ≤ length xs → Keeps d xs s (b + 8 * n) τ (after n)
    unfolding ran
    keeps_after zero le = record { laid = laid; low = λ j lt. omega (arith, low j lt); long = refl; leads = refl }
    keeps_after (suc n) le = next_by n (ℕ_discrete (get_or used n 0) 0) (omega arith) (keeps_after n (omega arith))

    pub run_keeps : (n : ℕ) → n ≤ length xs → {σ : List ℕ × List ℕ} → σ ≡ after n → Keeps d xs s (b + 8 * n) τ σ
    run_keeps n le e = rw e (keeps_after n le)
