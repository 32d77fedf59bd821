-- What the functions inside ask. No promise cites these.
--
--   power_lengths_from k i s    message lengths of s powers from i on
--   Countable k i             the message length of the power i is a small number
--   Short k s                 those of the powers 1 to s are at most 96
--   Counted n k s             n, k and s are within their limits
use Rattle.std.specs.Prelude.{List, map, ℕ, ◌≤◌}
use Rattle.codes.specs.Code.{up_from}
use Rattle.power_checks.specs.Powers.{power_length}

abbrev pub power_lengths_from : (k i s : ℕ) → List ℕ
power_lengths_from k i s = map (power_length k) (up_from i s)

pub record Countable (k i : ℕ) : Type 0 where
  pub some : 1 ≤ k
  pub most : k ≤ 96
  pub powers : i ≤ 4

pub record Short (k s : ℕ) : Type 0 where
  pub countable : Countable k s
  pub short : power_length k s ≤ 96

pub record Counted (n k s : ℕ) : Type 0 where
  pub some : 1 ≤ k
  pub fits : k ≤ n
  pub most_columns : n ≤ 96
  pub powers : 1 ≤ s
  pub most_powers : s ≤ 4
