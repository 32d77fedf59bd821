-- What the functions ask and leave. No promise cites these.
--
--   Passed D τ y room        a listing whose checks passed
--   Listed D τ y room r room'    r arrays fit, and the first ones are written
use Rattle.std.specs.Prelude.{◌≡◌, List, ℕ, ◌*◌, ◌%◌, ◌≤◌, length}
use Rattle.codes.specs.Code.{rows, columns, IsArray, joint_limit}
use Rattle.codes.specs.Factors.{Description}
use Rattle.codes.proofs.Factors.{Factors}
use Rattle.fitting.specs.Fitting.{Fitting}
use Rattle.fitting.specs.Working.{Checked}
use Rattle.listing.specs.Promises.{written}

pub record Passed (D : Description) (τ : ℕ) (y room : List ℕ) : Type 0 where
  pub checked : Checked D.code
  pub few : columns D.code ≤ 16
  pub factors : Factors D
  pub received : IsArray D.code y
  pub limit : τ ≤ joint_limit D.code
  pub whole : length room % (rows D.code * columns D.code) ≡ 0

pub record Listed (D : Description) (τ : ℕ) (y room : List ℕ) (r : ℕ) (room' : List ℕ) : Type 0 where
  pub arrays : List (List ℕ)
  pub fitting : Fitting D τ y arrays
  pub total : r ≡ length arrays
  pub left : room' ≡ written D.code arrays room
