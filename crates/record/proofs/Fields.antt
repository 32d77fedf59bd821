-- The fields of a line, as they are written.
--
--   puts_then         two texts put one behind the other are the two in one
--   Wrong out₀ at fs out end gap i    the loop over the flags: what is left to write completes the whole
--   wrong_begin, wrong_skip, wrong_put, wrong_end    its turns
--   followed_short    columns and what stands before each take at most three bytes each
--   no_columns, some_columns    the fourth field
--   fields_parts, ended, ended_plain, ended_none    the fields of an ending: the first two, and the fourth
--   line_parts        a line: its number, the fields and the end
-- Assumes nothing.
use mathlib.Core.Path.{◌≡◌, refl, sym, ap, ◌∙◌, subst}
use mathlib.Core.List.{List, [], ◌∷◌, ◌++◌, append_assoc}
use Prim.Native.Nat.{ℕ, zero, suc, ◌+◌, ◌*◌, ◌≤◌, ◌<◌}
use native.Mathlib.Numerals.{add-one}
use native.Mathlib.Omega.{arith}
use lib.ListN.{length, get_or, drop, length-append, drop_of_length-le}
use lib.Seq.{drop-cons}
use Rattle.patch.specs.Parts.{lay}
use Rattle.patch.proofs.Parts.{length-lay, lay_none, lay-append}
use Rattle.ending.specs.declared.Ending.{Ending}
use Rattle.ending.specs.declared.Ending.TheVariants.{Nothing}
use Rattle.record.specs.Lines.{ascii, decimal, word, detail, wrong_from, wrong_columns, commas, joined, line_of}
use Rattle.record.specs.Working.{Puts, PutsWithin, Room, followed, fields_of}
use Rattle.record.proofs.Decimals.{decimal_short}

pub puts_then : (lent : List ℕ) (at : ℕ) (v w : List ℕ) {mid left : List ℕ} {e r : ℕ} → at + length (v ++ w) ≤ length lent
    → Puts lent at v mid e → Puts mid e w left r → Puts lent at (v ++ w) left r
puts_then lent at v w {mid} {left} {e} {r} fits p q =
    let h : left ≡ lay (at + length v) w (lay at v lent) = q.laid ∙ rw (p.laid, p.behind) in
    record { laid = h ∙ lay-append at v w lent fits; behind = omega (arith, length-append v w) }

right-column : (i f : ℕ) (fs : List ℕ) → f ≡ 0 → wrong_from i (f ∷ fs) ≡ wrong_from (suc i) fs
unfolding wrong_from
right-column i zero fs e = refl
right-column i (suc f) fs e = absurd (omega arith)

wrong_column : (i f : ℕ) (fs : List ℕ) → (f ≡ 0 → ⊥) → wrong_from i (f ∷ fs) ≡ i ∷ wrong_from (suc i) fs
unfolding wrong_from
wrong_column i zero fs d = absurd (d refl)
wrong_column i (suc f) fs d = refl

followed_none : (s : ℕ) → followed s [] ≡ []
unfolding followed
followed_none s = refl

followed_cons : (s c : ℕ) (cs : List ℕ) → followed s (c ∷ cs) ≡ (s ∷ decimal c) ++ followed 44 cs
unfolding followed
followed_cons s c cs = refl

-- the columns that are left
abbrev rest : List ℕ → ℕ → List ℕ
rest fs i = wrong_from i (drop i fs)

pub record Wrong (out₀ : List ℕ) (at : ℕ) (fs out : List ℕ) (end gap i : ℕ) : Type 0 where
  pub within : i ≤ length fs
  pub size : length out ≡ length out₀
  pub written : lay end (followed gap (rest fs i)) out ≡ lay at (followed 32 (wrong_from 0 fs)) out₀
  pub ends : end + length (followed gap (rest fs i)) ≡ at + length (followed 32 (wrong_from 0 fs))

pub wrong_begin : (out : List ℕ) (at : ℕ) (fs : List ℕ) → Wrong out at fs out at 32 0
wrong_begin out at fs = record { within = omega arith; size = refl; written = refl; ends = refl }

module _ {out₀ : List ℕ} {at : ℕ} {fs out : List ℕ} {end gap i : ℕ} (w : Wrong out₀ at fs out end gap i) where
  pub wrong_skip : i < length fs → get_or fs i 0 ≡ 0 → Wrong out₀ at fs out end gap (i + 1)
  wrong_skip h e =
      let same : rest fs i ≡ rest fs (i + 1) =
      ap (λ (l : List ℕ). wrong_from i l) (drop-cons fs i 0 h) ∙ right-column i (get_or fs i 0) (drop (suc i) fs) e
      ∙ rw (add-one i) in
      record {
        within = omega arith;
        size = w.size;
        written = rw (← same) w.written;
        ends = rw (← same) w.ends;
      }

  module _ (h : i < length fs) (d : get_or fs i 0 ≡ 0 → ⊥) where
    next : rest fs i ≡ i ∷ rest fs (i + 1)
    next =
        ap (λ (l : List ℕ). wrong_from i l) (drop-cons fs i 0 h) ∙ wrong_column i (get_or fs i 0) (drop (suc i) fs) d
        ∙ rw (add-one i)

    text : followed gap (rest fs i) ≡ (gap ∷ decimal i) ++ followed 44 (rest fs (i + 1))
    text = ap (followed gap) next ∙ followed_cons gap i (rest fs (i + 1))

    both : length (followed gap (rest fs i)) ≡ length (gap ∷ decimal i) + length (followed 44 (rest fs (i + 1)))
    both = ap length text ∙ length-append (gap ∷ decimal i) (followed 44 (rest fs (i + 1)))

    pub wrong_room : at + length (followed 32 (wrong_from 0 fs)) ≤ length out₀ → end + length (gap ∷ decimal i) ≤ length out
    wrong_room r = omega (arith, both, w.size, w.ends)

    pub wrong_put : at + length (followed 32 (wrong_from 0 fs)) ≤ length out₀ → {left : List ℕ} {r : ℕ}
        → Puts out end (gap ∷ decimal i) left r → Wrong out₀ at fs left r 44 (i + 1)
    wrong_put room {left} {r} p =
        record {
          within = omega arith;
          size = ap length p.laid ∙ length-lay end (gap ∷ decimal i) out ∙ w.size;
          written =
              rw (p.laid, p.behind)
              (lay-append end (gap ∷ decimal i) (followed 44 (rest fs (i + 1))) out
              (omega (arith, both, w.size, w.ends, length-append (gap ∷ decimal i) (followed 44 (rest fs (i + 1)))))
              ∙ ap (λ (v : List ℕ). lay end v out) (sym text) ∙ w.written);
          ends = omega (arith, both, w.ends);
        }

  pub wrong_end : length fs ≤ i → Puts out₀ at (followed 32 (wrong_from 0 fs)) out end
  unfolding wrong_from followed
  wrong_end h =
      let none : drop i fs ≡ [] = drop_of_length-le fs h in
      record { laid = sym (lay_none end out) ∙ rw none at w.written; behind = omega (arith, rw none at w.ends) }

followed_short_by : (s i : ℕ) (fs : List ℕ) → i + length fs ≤ 96 → length (followed s (wrong_from i fs)) ≤ 3 * length fs
unfolding wrong_from
followed_short_by s i [] h = rw followed_none (omega arith)
followed_short_by s i (zero ∷ fs) h = omega (arith, followed_short_by s (suc i) fs (omega arith))
followed_short_by s i (suc f ∷ fs) h =
    rw followed_cons (rw length-append (omega (arith, followed_short_by 44 (suc i) fs (omega arith), decimal_short 1 i (omega arith))))

pub followed_short : (fs : List ℕ) → length fs ≤ 96 → length (followed 32 (wrong_from 0 fs)) ≤ 288
followed_short fs h = omega (arith, followed_short_by 32 0 fs (omega arith))

commas-followed : (cs : List ℕ) → followed 44 cs ≡ commas cs
unfolding followed commas
commas-followed [] = refl
commas-followed (c ∷ cs) = ap (λ (l : List ℕ). 44 ∷ decimal c ++ l) (commas-followed cs)

module _ (out : List ℕ) (at : ℕ) where
  pub no_columns : (cs : List ℕ) {mid left : List ℕ} {e r : ℕ} → Puts out at (followed 32 cs) mid e → e ≡ at
      → Puts mid at (32 ∷ 45 ∷ []) left r → Puts out at (32 ∷ joined cs) left r
  unfolding followed joined
  no_columns [] {mid} {left} p z q = rw (p.laid ∙ lay_none at out) at q
  no_columns (c ∷ cs) p z q = absurd (omega arith)

  pub some_columns : (cs : List ℕ) {left : List ℕ} {e : ℕ} → Puts out at (followed 32 cs) left e → (e ≡ at → ⊥)
      → Puts out at (32 ∷ joined cs) left e
  unfolding followed joined
  some_columns [] p z = absurd (z (omega arith))
  some_columns (c ∷ cs) {left} {e} p z = subst (λ (v : List ℕ). Puts out at (32 ∷ decimal c ++ v) left e) (commas-followed cs) p

pub fields_parts : (e : Ending) (fs : List ℕ)
    → fields_of e fs ≡ ascii " " ++ word e ++ ascii " " ++ detail e ++ (32 ∷ joined (wrong_columns e fs))
unfolding fields_of
fields_parts e fs = append_assoc (ascii " " ++ word e ++ ascii " " ++ detail e) (ascii " ") (joined (wrong_columns e fs))

-- the fields of an ending e, which is x: the first two and the fourth
module _ {out : List ℕ} {at : ℕ} {fs : List ℕ} (h : Room 302 fs out at) where
  pub ended : (x : Ending) {e : Ending} → e ≡ x → {m : ℕ} {mid left : List ℕ} {end r : ℕ}
      → PutsWithin m out at (ascii " " ++ word x ++ ascii " " ++ detail x) mid end → m ≤ 14
      → PutsWithin 288 mid end (32 ∷ joined (wrong_columns x fs)) left r → PutsWithin 302 out at (fields_of e fs) left r
  ended x is p few q =
      let v : List ℕ = ascii " " ++ word x ++ ascii " " ++ detail x in
      let u : List ℕ = 32 ∷ joined (wrong_columns x fs) in
      let both = puts_then out at v u (omega (arith, length-append v u)) p.puts q.puts in
      record { puts = rw (is, fields_parts x fs) both; most = omega arith }

  pub ended_plain : (x : Ending) {e : Ending} → e ≡ x → wrong_columns x fs ≡ [] → {m : ℕ} {mid left : List ℕ} {end r : ℕ}
      → PutsWithin m out at (ascii " " ++ word x ++ ascii " " ++ detail x) mid end → m ≤ 14
      → Puts mid end (32 ∷ 45 ∷ []) left r → PutsWithin 302 out at (fields_of e fs) left r
  unfolding joined
  ended_plain x is z p few q = ended x is p few (record { puts = rw z q; most = omega arith })

  pub ended_none : {e : Ending} → e ≡ Nothing → {left : List ℕ} {r : ℕ} → Puts out at (ascii " none - -") left r
      → PutsWithin 302 out at (fields_of e fs) left r
  unfolding fields_of joined
  ended_none is p = record { puts = rw is p; most = omega arith }

pub line_parts : (number : ℕ) (e : Ending) (fs : List ℕ) → line_of number e fs ≡ decimal number ++ fields_of e fs ++ ascii "\n"
unfolding line_of fields_of
line_parts number e fs = simp append_assoc
