-- The lines of the listing, as they are written.
--
--   short, behind     a text put is put within its length, and two within their lengths together
--   number_short      a number of 64 bits has at most 20 digits; column_short, one below 1,000 takes four bytes with what stands before it
--   Changed n old new out₀ at out end i    the loop over the symbols: the changes of those before symbol i are written
--   changed_begin, changed_same, changed_put, changed_end    its turns
--   next_symbol, all_read    what is left of a list from place i on: its first, and the others; none
-- Assumes nothing.
use mathlib.Core.Path.{◌≡◌, sym, ap, ap₂, ◌∙◌}
use mathlib.Core.Bool.{cond}
use mathlib.Core.List.{List, [], ◌∷◌, ◌++◌, append_assoc, append-nil}
use Prim.Native.Nat.{ℕ, suc, ◌+◌, ◌*◌, ◌^◌, ◌≤◌, ◌<◌}
use native.Mathlib.Nat.{add-zero, add-suc, suc-add}
use native.Mathlib.Numerals.{add-one}
use native.Mathlib.Omega.{arith}
use lib.Dec.{eqb}
use lib.ListN.{length, get_or, take, drop, length-append, length-drop}
use lib.Seq.{length-take-le, take-suc, take_all}
use borrow.Author.Tests.{eq-eqb, ne_eqb}
use Rattle.std.proofs.lemmas.List.{drop_more}
use Rattle.patch.proofs.Parts.{lay_none}
use Rattle.record.specs.Lines.{decimal}
use Rattle.record.specs.Working.{Puts, PutsWithin}
use Rattle.record.proofs.Decimals.{decimal_short}
use Rattle.record.proofs.Fields.{puts_then}
use Rattle.salvage.specs.Listing.{change, changes}
use Rattle.salvage.specs.Working.{Symbols}

module _ {lent : List ℕ} {at : ℕ} {v : List ℕ} where
  pub short : {m : ℕ} {left : List ℕ} {r : ℕ} → Puts lent at v left r → length v ≤ m → PutsWithin m lent at v left r
  short p h = record { puts = p; most = omega arith }

  pub behind : {m k : ℕ} {w mid left : List ℕ} {e r : ℕ} → PutsWithin m lent at v mid e → PutsWithin k mid e w left r
      → at + (m + k) ≤ length lent → PutsWithin (m + k) lent at (v ++ w) left r
  behind {w = w} p q fits =
      let both = length-append v w in
      record { puts = puts_then lent at v w (omega (arith, both, p.puts, q.puts)) p.puts q.puts; most = omega arith }

pub number_short : (n : ℕ) → n < 2 ^ 64 → length (decimal n) ≤ 20
number_short n h = decimal_short 19 n (omega arith)

pub column_short : (g n : ℕ) → n < 1000 → length (g ∷ decimal n) ≤ 4
column_short g n h = omega (arith, decimal_short 2 n (omega arith))

pub next_symbol : (l : List ℕ) (i : ℕ) {r r' : List ℕ} {x : ℕ} → r ≡ drop i l → r ≡ x ∷ r'
    → (i < length l) × (get_or l i 0 ≡ x) × (r' ≡ drop (i + 1) l)
next_symbol l i p q =
    let h : i < length l = omega (arith, length-drop i l, ap length p, ap length q) in
    let e = drop_more l i 0 h in
    (h, cc, cc)

pub all_read : (l : List ℕ) (i : ℕ) {r : List ℕ} → r ≡ drop i l → length r ≡ 0 → length l ≤ i
all_read l i p z = omega (arith, length-drop i l, ap length p)

-- one symbol's change, none where it is the same
one : (n i a b : ℕ) → List ℕ
one n i a b = cond (eqb a b) [] (change n i a b)

changes_snoc : (n i : ℕ) (old new : List ℕ) (a b : ℕ) → length new ≡ length old
    → changes n i (old ++ a ∷ []) (new ++ b ∷ []) ≡ changes n i old new ++ one n (i + length old) a b
unfolding changes one
changes_snoc n i [] [] a b h = append-nil (one n i a b) ∙ ap (λ (k : ℕ). one n k a b) (sym (add-zero i))
changes_snoc n i [] (y ∷ new) a b h = absurd (omega arith)
changes_snoc n i (x ∷ old) [] a b h = absurd (omega arith)
changes_snoc n i (x ∷ old) (y ∷ new) a b h =
    ap (◌++◌ (one n i x y)) (changes_snoc n (suc i) old new a b (omega arith))
    ∙ sym (append_assoc (one n i x y) (changes n (suc i) old new) (one n (suc i + length old) a b))
    ∙ ap (λ (k : ℕ). one n i x y ++ changes n (suc i) old new ++ one n k a b) (suc-add i (length old) ∙ sym (add-suc i (length old)))

module _ (n : ℕ) (old new : List ℕ) where
  unfoldable pub so_far : ℕ → List ℕ
  so_far i = changes n 0 (take i old) (take i new)

  pub record Changed (out₀ : List ℕ) (at : ℕ) (out : List ℕ) (end i : ℕ) : Type 0 where
    pub within : i ≤ length old
    pub puts : Puts out₀ at (so_far i) out end
    pub most : end ≤ at + 16 * i

module _ {n : ℕ} {old new : List ℕ} (s : Symbols n old new) {out₀ : List ℕ} {at : ℕ} where
  pub changed_begin : Changed n old new out₀ at out₀ at 0
  unfolding so_far changes
  changed_begin = record {
    within = omega arith;
    puts = record { laid = sym (lay_none at out₀); behind = sym (add-zero at) };
    most = omega arith;
  }

  module _ {out : List ℕ} {end i : ℕ} (c : Changed n old new out₀ at out end i) where
    next : i < length old → so_far n old new (i + 1) ≡ so_far n old new i ++ one n i (get_or old i 0) (get_or new i 0)
    unfolding so_far
    next h =
        let long : length (take i old) ≡ i = length-take-le i old (omega arith) in
        let long' : length (take i new) ≡ i = length-take-le i new (omega (arith, s.same)) in
        rw (add-one i) (ap₂ (changes n 0) (take-suc old i 0 h) (take-suc new i 0 (omega (arith, s.same)))
        ∙ changes_snoc n 0 (take i old) (take i new) (get_or old i 0) (get_or new i 0) (long' ∙ sym long)
        ∙ ap (λ (k : ℕ). changes n 0 (take i old) (take i new) ++ one n k (get_or old i 0) (get_or new i 0)) (omega (arith, long)))

    pub changed_same : i < length old → get_or old i 0 ≡ get_or new i 0 → Changed n old new out₀ at out end (i + 1)
    unfolding one
    changed_same h e =
        let same : so_far n old new (i + 1) ≡ so_far n old new i =
        next h ∙ ap (◌++◌ (so_far n old new i)) (rw (eq-eqb (get_or old i 0) (get_or new i 0) e)) ∙ append-nil _ in
        record { within = omega arith; puts = rw same c.puts; most = omega (arith, c.most) }

    pub changed_put : i < length old → (get_or old i 0 ≡ get_or new i 0 → ⊥) → at + 6144 ≤ length out₀ → {left : List ℕ} {r : ℕ}
        → PutsWithin 16 out end (change n i (get_or old i 0) (get_or new i 0)) left r → Changed n old new out₀ at left r (i + 1)
    unfolding one
    changed_put h d room p =
        let more : so_far n old new (i + 1) ≡ so_far n old new i ++ change n i (get_or old i 0) (get_or new i 0) =
        next h ∙ ap (◌++◌ (so_far n old new i)) (rw (ne_eqb (get_or old i 0) (get_or new i 0) d)) in
        let so_far_lem : PutsWithin (16 * i) out₀ at (so_far n old new i) out end = record { puts = c.puts; most = c.most } in
        let both = behind so_far_lem p (omega (arith, s.few)) in
        record { within = omega arith; puts = rw more both.puts; most = omega (arith, both.most) }

    pub changed_end : length old ≤ i → PutsWithin 6144 out₀ at (changes n 0 old new) out end
    unfolding so_far
    changed_end h = record {
      puts = rw (take_all i old h, take_all i new (omega (arith, s.same))) at c.puts;
      most = omega (arith, c.within, c.most, s.few);
    }
