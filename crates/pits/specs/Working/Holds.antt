-- What the table holds of the entries of a basis.
--
--   blank, nothing           the entry and the form where there is no other
--   Valued d 𝓢 Fs xs        the forms are lawful on the space, and the points xs are their factors
--   Held d 𝓢 Fs leads l j e  the entry e lies in the space, line j has its lead, and in slot i the value of form i of its vector
--   Holds d 𝓢 Fs es leads l  so the lines hold the entries es, one a line; no multiples of s make two of the leads equal
--   chosen Fs used n         of the forms below n those that are used, in order
use Rattle.std.specs.Prelude.{◌≡◌, List, [], ◌∷◌, ◌++◌, ℕ, zero, suc, ◌+◌, ◌*◌, ◌≤◌, ◌<◌, length, get_or}
use Rattle.std.proofs.Math.Decide.{ℕ_discrete}
use Rattle.field.specs.Arithmetic.{gf}
use Rattle.basis.proofs.Basis.{Space, Form, Entry, Lawful}
use Rattle.poly.specs.Poly.{All}
use Rattle.basis.proofs.Lines.{Separate}

abbrev pub blank : Entry ℕ
blank = record { vec = []; lead = 0 }

abbrev pub nothing : Form ℕ
nothing = record { of = λ v. 0; factor = 0 }

module _ (d : ℕ) {s : ℕ} (𝓢 : Space (gf d) s) (Fs : List (Form ℕ)) where
  pub record Valued (xs : List ℕ) : Type 0 where
    pub lawful : All (Lawful 𝓢) Fs
    pub wide : length xs ≡ length Fs
    pub points : (i : ℕ) → i < length Fs → get_or xs i 0 ≡ (get_or Fs i nothing).factor

  pub record Held (leads l : List ℕ) (j : ℕ) (e : Entry ℕ) : Type 0 where
    pub within : 𝓢.has e.vec
    pub leading : get_or leads j 0 ≡ e.lead
    pub values : (i : ℕ) → i < length Fs → get_or l (length Fs * j + i) 0 ≡ (get_or Fs i nothing).of e.vec

  pub record Holds (es : List (Entry ℕ)) (leads l : List ℕ) : Type 0 where
    pub count : length es ≡ s
    pub enough : s ≤ length leads
    pub room : length Fs * s ≤ length l
    pub apart : (j k : ℕ) → j < s → k < s → (j ≡ k → ⊥) → Separate s (get_or leads j 0) (get_or leads k 0)
    pub each : (j : ℕ) → j < s → Held leads l j (get_or es j blank)

module _ (Fs : List (Form ℕ)) (used : List ℕ) where
  unfoldable pub chosen_by : (i : ℕ) → Dec (get_or used i 0 ≡ 0) → List (Form ℕ)
  chosen_by i (yes z) = []
  chosen_by i (no z) = get_or Fs i nothing ∷ []

  unfoldable pub chosen : ℕ → List (Form ℕ)
  chosen zero = []
  chosen (suc n) = chosen n ++ chosen_by n (ℕ_discrete (get_or used n 0) 0)
