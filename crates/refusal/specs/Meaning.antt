-- What an answer means, as numbers: 01, 'Any answer that is an enum has a definition. The definition gives this paper's number and
-- values for each of the enum's cases, and the promises use it.' An enum's own definition is the `meaning` beside its promise.

--   Meaning      a number, and values; number_of, detail_of, the number and the first value, 0 where there is none
--   refusal k    the meaning of 'refused' in every enum
--   packed       the one number for the C caller
use Rattle.std.specs.Prelude.{List, [], ◌∷◌, ℕ, ◌+◌, ◌*◌}

abbrev pub Meaning : Type 0
Meaning = ℕ × List ℕ

-- 'refused | 0 | … | its number'
abbrev pub refusal : ℕ → Meaning
refusal k = (0, k ∷ [])

abbrev pub number_of : Meaning → ℕ
number_of (number, values) = number

-- 'detail'; that of 'none' is 0
abbrev pub detail_of : Meaning → ℕ
detail_of (number, []) = 0
detail_of (number, v ∷ vs) = v

-- 'For the C caller the answer is one number, 256·code + detail.'
unfoldable pub packed : Meaning → ℕ
packed m = 256 * number_of m + detail_of m
