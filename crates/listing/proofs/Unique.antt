-- No two distinct outcomes satisfy the promise of a listing.
--
--   unique             what a listing leaves is fixed by what it is given: the total and the room, or the refusal
--   meaning_faithful   no two answers mean the same; packed_faithful, nor are they the same number for the C caller
-- Assumes nothing.
use mathlib.Core.Path.{◌≡◌, sym, ap, ◌∙◌}
use mathlib.Core.List.{List}
use Prim.Native.Nat.{ℕ, ◌<◌}
use native.Mathlib.Omega.{arith}
use lib.ListN.{length}
use Rattle.std.proofs.Common.{Ok, Err}
use Rattle.refusal.specs.Meaning.{number_of, detail_of, packed}
use Rattle.refusal.specs.Numbers.{number}
use Rattle.refusal.proofs.Numbers.{same_reason}
use Rattle.refusal.proofs.Keeping as keeping
use Rattle.codes.specs.Factors.{Description}
use Rattle.fitting.proofs.Listed.{list_unique}
use Rattle.listing.specs.Checks.{list_checks}
use Rattle.listing.specs.Promises.{Answer, meaning, Left, left, refused, written, Lists}

pub meaning_faithful : (a b : Answer) → meaning a ≡ meaning b → a ≡ b
meaning_faithful (Ok t) (Ok u) e = ap Ok (ap detail_of e)
meaning_faithful (Ok t) (Err r) e = absurd (omega (arith, ap number_of e))
meaning_faithful (Err r) (Ok t) e = absurd (omega (arith, ap number_of e))
meaning_faithful (Err r) (Err s) e = ap Err (same_reason r s (ap detail_of e))

-- a refusal's number is below 256
abbrev pub Small : Answer → Type 0
Small (Ok t) = Unit {0}
Small (Err r) = number r < 256

pub packed_faithful : (a b : Answer) → Small a → Small b → packed (meaning a) ≡ packed (meaning b) → a ≡ b
unfolding packed
packed_faithful (Ok t) (Ok u) p q e = ap Ok (omega arith)
packed_faithful (Ok t) (Err r) p q e = absurd (omega arith)
packed_faithful (Err r) (Ok t) p q e = absurd (omega arith)
packed_faithful (Err r) (Err s) p q e = ap Err (same_reason r s (omega arith))

pub unique : (D : Description) (τ : ℕ) (y room : List ℕ) (x x' : Left) → Lists D τ y room x → Lists D τ y room x' → x ≡ x'
unique D τ y room = keeping.unique (list_checks D τ y room) (refused room) _ (λ none x x' (l, f, e) (k, g, h).
    e ∙ ap (λ (l : List (List ℕ)). left (Ok (length l)) (written D.code l room)) (list_unique D τ y l k f g) ∙ sym h)
