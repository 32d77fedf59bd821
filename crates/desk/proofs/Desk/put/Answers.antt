-- `Desk::put` hands back what putting promises.
use Rattle.std.proofs.Common.{◌≡◌, ℕ, List, length, take, refl, ap, ◌∙◌, Ok, arith}
use Rattle.patch.specs.Parts.{lay}
use Rattle.patch.proofs.Parts.{take-lay}
use Rattle.mark.proofs.Handing.{hands}
use Rattle.desk.specs.Desk.{placed, put_checks, Next, put}
use Rattle.desk.specs.Working.{Puttable}
use Rattle.desk.specs.declared.Desk.{Desk}
use Rattle.desk.proofs.Sound.{puttable, sound}
use Rattle.desk.proofs.Known.{placeable, put_next}
use Rattle.desk.proofs.Desk.put.Goals.{In_default, After-place-self}
use Rattle.desk.proofs.Desk.put.Goals as goal

-- where no check applies
module _ (c : In_default) where
  can : Puttable c.args.self c.args.column c.args.symbols.now
  can = puttable c.args.self c.args.column c.args.symbols.now c.in_default.ensures

  -- the symbols, copied
  copy : (s four : List ℕ) → s ≡ lay 0 c.args.symbols.now four → length four ≡ 4 → take c.args.self.rows s ≡ c.args.symbols.now
  copy s four e size = let few = (sound c.requires).frame.most_rows in take-lay c.args.symbols.now _ e can.count (omega arith)

pub store-requires : goal.store-requires
store-requires c = omega (arith, (can (goal.at.store-requires c).In_default).count, (sound c.requires).frame.most_rows)

pub renew-self-requires : goal.renew-self-requires
renew-self-requires c = let k = (goal.at.renew-self-requires c).In_default in
    record { made = c.requires; can = rw (copy k c.store.new.s _ c.store.ensures refl) (can k) }

pub place-self-requires : goal.place-self-requires
place-self-requires c = let k = (goal.at.place-self-requires c).In_default in
    placeable c.args.self c.renew-self.result c.args.column c.args.symbols.now (copy k c.store.new.s _ c.store.ensures refl) c.renew-self.ensures
    (sound c.requires) (can k).column

-- the desk as putting leaves it
next : (c : After-place-self) → Next c.args.self c.args.column c.args.symbols.now c.place-self.result
next c = let k = (goal.at.returns-clause-puts c).In_default in
    let held = copy k c.store.new.s _ c.store.ensures refl in
    let same = ap (λ (d : Desk). take d.rows c.store.new.s) c.renew-self.ensures.others ∙ held in
    put_next c.args.self c.renew-self.result c.args.column c.args.symbols.now held c.renew-self.ensures
    (c.place-self.ensures ∙ ap (placed c.renew-self.result c.args.column) same)

pub returns-clause-puts : goal.returns-clause-puts
returns-clause-puts c = hands (put_checks c.args.self c.args.column c.args.symbols.now) (Next c.args.self c.args.column c.args.symbols.now)
    c.args.self c.in_default.ensures (next c)

pub returns-clause-made : goal.returns-clause-made
returns-clause-made c = put c.args.self c.args.column c.args.symbols.now (record { outcome = Ok tt; next = c.place-self.result }) c.requires
    (hands (put_checks c.args.self c.args.column c.args.symbols.now) (Next c.args.self c.args.column c.args.symbols.now)
    c.args.self c.in_default.ensures (next c))
