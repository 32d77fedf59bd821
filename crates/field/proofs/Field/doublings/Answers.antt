-- `Field::doublings` is the list of doublings: each is x times the one before, and they end with the degree.
use Rattle.std.proofs.Common.{◌≡◌, ℕ, suc, ◌^◌, ◌≤◌, ◌<◌, false, arith, sym}
use Rattle.refusal.specs.Refusal.{bad_degree}
use Rattle.field.specs.Symbols.{times_x, times}
use Rattle.field.proofs.Products.{times_high}
use Rattle.field.proofs.BitByBit.{two, four, last}
use Rattle.field.proofs.Doublings.{first_doubling, next_doubling, eight_doublings}
use Rattle.field.proofs.Instance.{generated}
use Rattle.field.proofs.Field.doublings.Goals as goal

-- in the field of degree d: the symbol itself, x times a doubling by a reducer of that degree, and what follows the last
module _ (d c : ℕ) (good : bad_degree d ≡ false) where
  zeroth : c < 2 ^ d → c ≡ times d (2 ^ 0) c
  zeroth h = first_doubling d (generated d good) c h

  next : (i : ℕ) → suc i < d → {r v w : ℕ} → r ≡ d → v ≡ times d (2 ^ i) c → w ≡ times_x r v → w ≡ times d (2 ^ suc i) c
  next i h same e f = rw (f, same) (next_doubling d (generated d good) c i h e)

  ended : (i : ℕ) → d ≤ i → 0 ≡ times d (2 ^ i) c
  ended i h = sym (times_high d (generated d good).tested i c h)

pub returns-then-self-eq2 : goal.returns-then-self-eq2
returns-then-self-eq2 c =
    let a = c.args in
    let good = c.args.self.now.degree_value in
    let none : (i : ℕ) → 2 ≤ i → 0 ≡ times a.self.now.degree (2 ^ i) a.c = λ i h. ended a.self.now.degree a.c good i (omega (arith, c.if-self-eq2.true)) in
    let v0 = zeroth a.self.now.degree a.c good c.requires in
    let v1 = next a.self.now.degree a.c good 0 (two _ good) c.reducer-reducer.ensures v0 c.double-c1.ensures in
    eight_doublings a.self.now.degree a.c v0 v1 (none 2 (omega arith)) (none 3 (omega arith)) (none 4 (omega arith)) (none 5 (omega arith))
    (none 6 (omega arith)) (none 7 (omega arith))

pub returns-then-self-eq4 : goal.returns-then-self-eq4
returns-then-self-eq4 c =
    let a = c.args in
    let good = c.args.self.now.degree_value in
    let same = c.reducer-reducer.ensures in
    let none : (i : ℕ) → 4 ≤ i → 0 ≡ times a.self.now.degree (2 ^ i) a.c = λ i h. ended a.self.now.degree a.c good i (omega (arith, c.if-self-eq4.true)) in
    let more = four _ good c.if-self-eq2.false in
    let v0 = zeroth a.self.now.degree a.c good c.requires in
    let v1 = next a.self.now.degree a.c good 0 (two _ good) same v0 c.double-c1.ensures in
    let v2 = next a.self.now.degree a.c good 1 (omega (arith, more)) same v1 c.double-c2.ensures in
    let v3 = next a.self.now.degree a.c good 2 (omega (arith, more)) same v2 c.double-c3.ensures in
    eight_doublings a.self.now.degree a.c v0 v1 v2 v3 (none 4 (omega arith)) (none 5 (omega arith)) (none 6 (omega arith)) (none 7 (omega arith))

pub returns : goal.returns
returns c =
    let a = c.args in
    let good = c.args.self.now.degree_value in
    let same = c.reducer-reducer.ensures in
    let all = last _ good c.if-self-eq2.false c.if-self-eq4.false in
    let v0 = zeroth a.self.now.degree a.c good c.requires in
    let v1 = next a.self.now.degree a.c good 0 (omega (arith, all)) same v0 c.double-c1.ensures in
    let v2 = next a.self.now.degree a.c good 1 (omega (arith, all)) same v1 c.double-c2.ensures in
    let v3 = next a.self.now.degree a.c good 2 (omega (arith, all)) same v2 c.double-c3.ensures in
    let v4 = next a.self.now.degree a.c good 3 (omega (arith, all)) same v3 c.double-c4.ensures in
    let v5 = next a.self.now.degree a.c good 4 (omega (arith, all)) same v4 c.double-c5.ensures in
    let v6 = next a.self.now.degree a.c good 5 (omega (arith, all)) same v5 c.double-c6.ensures in
    let v7 = next a.self.now.degree a.c good 6 (omega (arith, all)) same v6 c.double-c7.ensures in
    eight_doublings a.self.now.degree a.c v0 v1 v2 v3 v4 v5 v6 v7
