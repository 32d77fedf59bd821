-- Reading behind the bytes that are held.
--
--   read_on    where they are read no further than is wanted, no more bytes are held than are then wanted
-- Assumes nothing.
use mathlib.Core.Path.{◌≡◌, sym, ap, ◌∙◌, subst}
use mathlib.Core.List.{List, ◌++◌}
use Prim.Native.Nat.{ℕ, ◌+◌, ◌-◌, ◌≤◌}
use native.Mathlib.Omega.{arith}
use lib.ListN.{length, take, length-append}
use lib.Seq.{length-take-le, take-append-le, take-append-add}
use Rattle.record.specs.Records.{wanted}
use Rattle.record.proofs.Enough.{no_more}

pub read_on : (held ys behind : List ℕ) (got end : ℕ) → got ≤ length held → got ≤ end → end ≤ wanted (take got held)
    → end - got ≤ length ys → end ≤ wanted (take end (take got held ++ (ys ++ behind)))
read_on held ys behind got end h g w f =
    let p : List ℕ = take got held in
    let m : List ℕ = take (end - got) ys in
    let size : length p ≡ got = length-take-le got held h in
    let both : length (p ++ m) ≡ end = omega (arith, length-append p m, length-take-le (end - got) ys f) in
    let there : end ≡ length p + (end - got) = omega arith in
    let is : take end (p ++ (ys ++ behind)) ≡ p ++ m =
    ap (λ (k : ℕ). take k (p ++ (ys ++ behind))) there ∙ take-append-add p (ys ++ behind) (end - got)
    ∙ ap (λ (l : List ℕ). p ++ l) (take-append-le (end - got) ys behind f) in
    subst (λ (l : List ℕ). end ≤ wanted l) (sym is) (omega (arith, no_more p m (omega arith)))
