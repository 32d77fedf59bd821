-- The wrong symbols of a ring, and the checks of the decoding that counts them: 02, 2026-06, 'Pits scattered over the ring'.

--   wrong_at v w i        v and w differ in symbol i
--   symbol_flags q v w    of q³ flags, 1 where they differ and 0 elsewhere; wrong_symbols, how many
--   genus q              02's g; bad_limit q m τ, the test of number 19
--   pit_checks            the checks of the decoding, in order
use Rattle.std.specs.Prelude.{Bool, not, ◌||◌, List, [], ◌∷◌, ◌++◌, ℕ, ◌+◌, ◌-◌, ◌*◌, ◌/◌, eqb, ltb, get_or}
use Rattle.refusal.specs.Refusal.{Check, ◌when◌}
use Rattle.codes.specs.Code.{total, flags_from}
use Rattle.hermitian.specs.Checks.{ring_checks, received_checks}

abbrev pub wrong_at : (v w : List ℕ) → ℕ → Bool
wrong_at v w i = not (eqb (get_or v i 0) (get_or w i 0))

-- 'it is returned with q³ flags'
abbrev pub symbol_flags : ℕ → (v w : List ℕ) → List ℕ
symbol_flags q v w = flags_from (wrong_at v w) 0 (q * q * q)

-- 'Add a ring decoder that counts wrong symbols.'
abbrev pub wrong_symbols : ℕ → (v w : List ℕ) → ℕ
wrong_symbols q v w = total (symbol_flags q v w)

-- 'With g = q(q−1)/2'
abbrev pub genus : ℕ → ℕ
genus q = q * (q - 1) / 2

-- 'trial limit τ at most (q³ − m − 1 − g)/2 rounded down, and at least 0'; '19, τ above that limit or the limit below zero'
abbrev pub bad_limit : (q m τ : ℕ) → Bool
bad_limit q m τ = ltb (q * q * q) (m + 1 + genus q) || ltb ((q * q * q - (m + 1 + genus q)) / 2) τ

-- 'Refusals: 10, 11, 18, 5, 7, then 19'
abbrev pub pit_checks : (q m τ : ℕ) (y w f s : List ℕ) → List Check
pit_checks q m τ y w f s = ring_checks q m ++ received_checks q (q * q * q) y w f s ++ (19 when bad_limit q m τ) ∷ []
