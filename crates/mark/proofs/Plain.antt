-- 02, 2026-11, 'All ones gives today's answers': with factors of one the promises are those of encoding and reading without factors.
--
--   struck_ones                 factors of one strike the code array itself
--   ones_encodes, ones_reads    01's own checks, and the code array itself
-- Assumes nothing.
use mathlib.Core.Path.{◌≡◌, sym, ◌∙◌}
use mathlib.Core.Logic.{◌↔◌, inl, inr}
use mathlib.Core.List.{List, []}
use Prim.Native.Nat.{ℕ}
use Rattle.refusal.specs.Refusal.{first}
use Rattle.refusal.proofs.Keeping.{same_keeps}
use Rattle.codes.specs.Code.{Code, IsMessage, encoded}
use Rattle.codes.specs.Factors.{encoded_by, plain}
use Rattle.codes.specs.Checks.{encode_checks, read_checks}
use Rattle.codes.proofs.Proper.{Proper}
use Rattle.codes.proofs.Passed.{encoding, reading}
use Rattle.codes.proofs.Messages.{encoded_array}
use Rattle.codes.proofs.Factors.{multiplied-ones}
use Rattle.codes.proofs.Plain.{plain_buffers, ones-buffers}
use Rattle.mark.specs.Promises.{Left, Writes, Finds, Found, Encodes, Reads, done, refused}

pub struck_ones : {c : Code} → Proper c → {m : List ℕ} → IsMessage c m → encoded_by (plain c) m ≡ encoded c m
struck_ones {c} p i = multiplied-ones c p (encoded_array p i)

module _ (c : Code) (m lent : List ℕ) where
  same : first (encode_checks (plain c) m lent) ≡ first (plain_buffers c m lent m [])
  same = ones-buffers c m lent m []

  is_struck : 0 ≡ first (encode_checks (plain c) m lent) → encoded_by (plain c) m ≡ encoded c m
  is_struck none = let (p, f) = encoding (plain c) m lent none in struck_ones p.proper p.message

  pub ones_encodes : (l : Left) → Encodes (plain c) m lent l ↔ Writes (plain_buffers c m lent m []) (encoded c m) lent l
  ones_encodes l = (
    same_keeps (encode_checks (plain c) m lent) (plain_buffers c m lent m []) (refused lent) (λ x. x ≡ done (encoded_by (plain c) m))
        (λ x. x ≡ done (encoded c m)) same (λ none x e. rw (is_struck none) at e) l,
    same_keeps (plain_buffers c m lent m []) (encode_checks (plain c) m lent) (refused lent) (λ x. x ≡ done (encoded c m))
        (λ x. x ≡ done (encoded_by (plain c) m)) (sym same) (λ none x e. rw (is_struck (none ∙ sym same)) e) l,
  )

module _ (c : Code) (a lent : List ℕ) where
  same_reading : first (read_checks (plain c) a lent) ≡ first (plain_buffers c lent a a [])
  same_reading = ones-buffers c lent a a []

  abbrev Struck : Left → Type 0
  Struck = Found (IsMessage c) (encoded_by (plain c)) a lent

  abbrev Own : Left → Type 0
  Own = Found (IsMessage c) (encoded c) a lent

  to : Proper c → (l : Left) → Struck l → Own l
  to p l (inl (m, i, e, d)) = inl (m, i, sym (struck_ones p i) ∙ e, d)
  to p l (inr (n, d)) = inr (λ (m, i, e). n (m, i, struck_ones p i ∙ e), d)

  from : Proper c → (l : Left) → Own l → Struck l
  from p l (inl (m, i, e, d)) = inl (m, i, struck_ones p i ∙ e, d)
  from p l (inr (n, d)) = inr (λ (m, i, e). n (m, i, sym (struck_ones p i) ∙ e), d)

  pub ones_reads : (l : Left) → Reads (plain c) a lent l ↔ Finds (plain_buffers c lent a a []) (IsMessage c) (encoded c) a lent l
  ones_reads l = (
    same_keeps (read_checks (plain c) a lent) (plain_buffers c lent a a []) (refused lent) Struck Own same_reading
        (λ none. to (reading (plain c) a lent none).0.proper) l,
    same_keeps (plain_buffers c lent a a []) (read_checks (plain c) a lent) (refused lent) Own Struck (sym same_reading)
        (λ none. from (reading (plain c) a lent (none ∙ sym same_reading)).0.proper) l,
  )
