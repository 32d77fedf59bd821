-- `share` lays the table at the front of the space, and the inverses behind it.
use Rattle.std.proofs.Common.{◌≡◌, ◌+◌, ◌≤◌, ◌∙◌, List, ℕ, sym, ap, subst, arith, length, drop, replicate}
use Rattle.std.proofs.lemmas.List.{length-replicate}
use Rattle.patch.specs.Parts.{part, lay}
use Rattle.patch.proofs.Parts.{length-lay}
use Rattle.field.specs.Symbols.{IsSymbol}
use Rattle.field.specs.Working.Tables.{table_bytes, IsTable}
use Rattle.poly.specs.Poly.{All}
use Rattle.rows.specs.Working.Rows.{Inverses}
use Rattle.rows.proofs.Symbols.{symbols_zeros}
use Rattle.codes.specs.Code.{Code, code_of, largest}
use Rattle.codes.specs.Checks.{space_bytes}
use Rattle.conditions.specs.Working.{most_inverses}
use Rattle.tray.specs.Working.{Begun}
use Rattle.tray.proofs.Places.{lent_row, row_back}
use Rattle.tray.proofs.Shares.{zeros-part, long_is, front_is, behind_is, rest-is}
use Rattle.tray.proofs.share.Goals.{After-clear}
use Rattle.tray.proofs.share.Goals as goal

-- where the space has the table, and zeros behind it
module _ (c : After-clear) where
  abbrev lent : List ℕ
  lent = c.args.space.now

  abbrev table : List ℕ
  table = c.new-field.result.inverses

  abbrev w₁ : List ℕ
  w₁ = c.store.new.s

  abbrev w₂ : List ℕ
  w₂ = c.clear.new.s

  size : length table ≡ table_bytes
  size = omega arith

  room : table_bytes + most_inverses ≤ length lent
  room = omega (arith, c.requires.2)

  zeros : part table_bytes most_inverses w₂ ≡ replicate most_inverses 0
  zeros = zeros-part table_bytes most_inverses table lent w₁ w₂ c.store.ensures c.clear.ensures size room

  behind_long : length (part table_bytes most_inverses w₂) ≡ most_inverses
  behind_long = ap length zeros ∙ length-replicate {A = ℕ} most_inverses 0

  -- and what the inverses leave
  module _ (v : List ℕ) (sized : length v ≡ most_inverses) where
    long : length (lay table_bytes v w₂) ≡ length lent
    long = long_is table_bytes most_inverses table lent w₁ w₂ c.store.ensures c.clear.ensures size room v sized

    front : part 0 table_bytes (lay table_bytes v w₂) ≡ table
    front = front_is table_bytes most_inverses table lent w₁ w₂ c.store.ensures c.clear.ensures size room v sized

    middle : part table_bytes most_inverses (lay table_bytes v w₂) ≡ v
    middle = behind_is table_bytes most_inverses table lent w₁ w₂ c.store.ensures c.clear.ensures size room v sized

    behind : drop space_bytes (lay table_bytes v w₂) ≡ drop space_bytes lent
    behind = rest-is table_bytes most_inverses table lent w₁ w₂ c.store.ensures c.clear.ensures size room v sized space_bytes (omega arith)

pub inverses-requires-clause-ws_len : goal.inverses-requires-clause-ws_len
inverses-requires-clause-ws_len c =
    let o = (goal.at.inverses-requires-clause-ws_len c).After-clear in
    let d : ℕ = c.new-field.result.degree in
    let is = lent_row table_bytes most_inverses (w₂ o) ∙ zeros o in
    (ap length is ∙ length-replicate {A = ℕ} most_inverses 0, subst (All (IsSymbol d)) (sym is) (symbols_zeros d most_inverses))

pub returns : goal.returns
returns c =
    let o = (goal.at.returns c).After-clear in
    let code : Code = code_of c.args.degree c.args.points.now c.args.lengths.now in
    let v : List ℕ = c.inverses.new.ws in
    let sized : length v ≡ most_inverses =
    c.inverses.auto.ws ∙ ap length (lent_row table_bytes most_inverses (w₂ o)) ∙ behind_long o in
    let all = long o v sized in
    let fits : table_bytes + most_inverses ≤ length (w₂ o) = omega (arith, room o, all, length-lay table_bytes v (w₂ o)) in
    subst (Begun code (lent o)) (sym (row_back table_bytes most_inverses v (w₂ o) sized fits))
    (record {
      shared = record {
        room = omega (arith, all, c.requires.2);
        table = subst (IsTable code.degree) (sym (front o v sized)) (rw c.new-field.ensures at c.new-field.result.table);
        inverses = subst (Inverses code.degree code.points (largest code.lengths)) (sym (middle o v sized))
            (rw c.new-field.ensures at c.inverses.ensures);
      };
      long = all;
      behind = behind o v sized;
    })
