-- The bytes at a buffer's front.
--
--   Counts n l    l has n bytes at its front
use Rattle.std.specs.Prelude.{◌≡◌, List, ℕ, ◌≤◌, length, take}

-- the second part follows from the first
abbrev pub Counts : ℕ → List ℕ → Type 0
Counts n l = (n ≤ length l) × (n ≡ length (take n l))
