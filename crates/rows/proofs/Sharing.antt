-- Inverses that are taken once for several rows.
--
--   no_rounds, more_rounds    the table of all rounds begins empty, and takes a round
--   length_lent, lent_inverses    what it has of a round
--   Sharing, Shared d xs l j s    what k rounds by lent inverses ask for, and what j of them leave
--   none_shared, one_shared   before the first, and what one leaves
--   fewer_rounds, fewer_points    it serves shorter rows, and rows over the first of its points
-- Assumes nothing.
use mathlib.Core.Path.{◌≡◌, refl, sym, ap, ◌∙◌}
use mathlib.Core.Bool.{false}
use mathlib.Core.List.{List}
use Prim.Native.Nat.{ℕ, ◌+◌, ◌-◌, ◌*◌, ◌%◌, ◌≤◌, ◌<◌}
use native.Mathlib.Decide.{dec_lt}
use native.Mathlib.Omega.{arith}
use lib.ListN.{length, get_or, take, drop, length-drop}
use lib.Seq.{length-take-le, get_or-take, get_or-drop}
use Rattle.patch.specs.Patch.{patch}
use Rattle.patch.proofs.Laws.{length-patch, get_or-patch, get_or-patch_below}
use Rattle.refusal.specs.Refusal.{bad_degree}
use Rattle.field.specs.Symbols.{IsSymbol}
use Rattle.field.specs.Arithmetic.{gf}
use Rattle.lists.specs.Working.Lists.{multiplied_at, SymbolsAt}
use Rattle.poly.specs.Poly.{All}
use Rattle.poly.proofs.Forms.{reduce}
use Rattle.rows.specs.Working.Rows.{Points, Inverses, inverse}
use Rattle.rows.proofs.Symbols.{symbol_at, symbols_by, symbol-patch}
use Rattle.rows.proofs.Rounds.{inverse-symbol, front_step, front_symbols}

module _ (d : ℕ) (xs : List ℕ) where
  pub no_rounds : (ws : List ℕ) → All (IsSymbol d) ws → Inverses d xs 0 ws
  no_rounds ws symbols = record { room = omega arith; symbols = symbols; each = λ j i h k. absurd (let z : j < 0 = h in omega arith) }

  pub more_rounds : bad_degree d ≡ false → (j : ℕ) (ws : List ℕ) {t : List ℕ} → length xs ≤ 96 → 96 * (j + 1) ≤ length ws
      → Inverses d xs j ws → t ≡ patch (96 * j) (length xs - (j + 1)) (inverse d xs j) ws → Inverses d xs (j + 1) t
  more_rounds good j ws {t} most room before is = record {
    room = omega (arith, long);
    symbols = symbols_by d t (λ i h. symbol-patch d (96 * j) n (inverse d xs j) ws is (omega arith) (λ r g. inverse-symbol d good xs j r) i
        (symbol_at d ws i before.symbols (omega (arith, long))));
    each = λ r i h k. by r i (omega arith) k (dec_lt r j);
  }
    where
      n : ℕ
      n = length xs - (j + 1)

      long : length t ≡ length ws
      long = rw is (length-patch (96 * j) (inverse d xs j) ws n)

      by : (r i : ℕ) → r ≤ j → i < length xs - (r + 1) → Dec (r < j) → get_or t (96 * r + i) 0 ≡ inverse d xs r i
      by r i h k (yes g) =
          rw is (get_or-patch_below (96 * j) (inverse d xs j) ws n (96 * r + i) 0 (omega arith) ∙ before.each r i g k)
      by r i h k (no g) =
          let e : r ≡ j = omega arith in
          rw (e, is) (get_or-patch (96 * j) (inverse d xs j) ws n i 0 (omega arith) (omega arith))

  module _ {k : ℕ} {ws : List ℕ} (all : Inverses d xs k ws) where
    -- m symbols of ws from those of round j on
    module _ (j m : ℕ) (h : j < k) (within : m ≤ 96) where
      abbrev lent : List ℕ
      lent = take m (drop (96 * j) ws)

      pub length_lent : length lent ≡ m
      length_lent = length-take-le m (drop (96 * j) ws) (omega (arith, length-drop (96 * j) ws, all.room))

      get_or_lent : (i : ℕ) → i < m → get_or lent i 0 ≡ get_or ws (96 * j + i) 0
      get_or_lent i g = get_or-take m (drop (96 * j) ws) i 0 g ∙ get_or-drop (96 * j) ws i 0

      pub lent_inverses : length xs ≤ j + 1 + m → (i : ℕ) → i < length xs - (j + 1) → get_or lent i 0 ≡ inverse d xs j i
      lent_inverses enough i g = get_or_lent i (omega arith) ∙ all.each j i h g

    pub fewer_rounds : {m : ℕ} → m ≤ k → Inverses d xs m ws
    fewer_rounds h = record { room = omega (arith, all.room); symbols = all.symbols; each = λ j i g l. all.each j i (omega arith) l }

    pub fewer_points : (m : ℕ) → m ≤ length xs → Inverses d (take m xs) k ws
    unfolding inverse
    fewer_points m h =
        let size : length (take m xs) ≡ m = length-take-le m xs h in
        record {
          room = all.room;
          symbols = all.symbols;
          each = λ j i g l. all.each j i g (omega arith)
              ∙ sym (rw (get_or-take m xs (j + 1 + i) 0 (omega arith), get_or-take m xs j 0 (omega arith)));
        }

-- k rounds of the row at the front of l, by the inverses ws
pub record Sharing (d : ℕ) (xs : List ℕ) (k : ℕ) (ws l : List ℕ) : Type 0 where
  pub points : Points d xs
  pub rounds : k ≤ length xs
  pub few : length xs ≤ 96
  pub room : length xs + 15 ≤ length l
  pub symbols : SymbolsAt d l 0 (length xs + 15)
  pub inverses : Inverses d xs k ws

-- after j of them
pub record Shared (d : ℕ) (xs l : List ℕ) (j : ℕ) (s : List ℕ) : Type 0 where
  pub long : length s ≡ length l
  pub symbols : SymbolsAt d s 0 (length xs + 15)
  pub row : take (length xs) s ≡ reduce (gf d) j xs (take (length xs) l)

pub none_shared : (d : ℕ) (xs l : List ℕ) → SymbolsAt d l 0 (length xs + 15) → Shared d xs l 0 l
unfolding reduce
none_shared d xs l symbols = record { long = refl; symbols = symbols; row = refl }

-- a round by whole sixteens, which reach the end of the row, and end at most 15 symbols behind it
pub one_shared : {d : ℕ} → bad_degree d ≡ false → {xs : List ℕ} {k : ℕ} {ws l : List ℕ} (given : Sharing d xs k ws l) {j : ℕ} {s : List ℕ}
    → Shared d xs l j s → j < k → (whole : ℕ) → length xs - (j + 1) ≤ whole → whole < length xs - (j + 1) + 16 → whole % 16 ≡ 0
    → {r : List ℕ} → r ≡ multiplied_at d (take (96 * j + whole - 96 * j) (drop (96 * j) ws)) 0 s (j + 1) (get_or s j 0)
    → Shared d xs l (j + 1) r
one_shared {d} good {xs} {k} {ws} {l} given {j} {s} turn more whole enough few sixteens {r} then =
    let place : j < length xs = omega (arith, given.rounds) in
    let within : whole ≤ 96 = omega (arith, given.few) in
    let shared : List ℕ = take whole (drop (96 * j) ws) in
    let size : length shared ≡ whole = length_lent d xs given.inverses j whole more within in
    let cut : 96 * j + whole - 96 * j ≡ whole = omega arith in
    let is : r ≡ multiplied_at d shared 0 s (j + 1) (get_or s j 0) = rw cut at then in
    let inverses = lent_inverses d xs given.inverses j whole more within (omega arith) in
    record {
      long = ap length is ∙ length-patch _ _ _ _ ∙ turn.long;
      symbols = front_symbols d good j s shared is _ (omega (arith, size, given.room, turn.long)) turn.symbols;
      row = front_step d good j s shared is xs _ (length-take-le _ l (omega (arith, given.room)))
          place (omega (arith, size)) given.points (λ i h. turn.symbols i (omega arith)) inverses turn.row;
    }
