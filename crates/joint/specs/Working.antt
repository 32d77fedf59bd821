-- What the functions inside a decoding ask and leave. No promise cites these.
--
--   ReadyLost c τ L y        a code, lost columns, a trial limit and a received array whose checks passed
--   RestEnds c L y τ e fs    the decoding of the remaining columns ends as e, and leaves the flags fs
--   StruckEnds D L y τ lent e left    the decoding of what was struck, with the columns L lost, ends as e and turns lent into left
use Rattle.std.specs.Prelude.{◌≡◌, List, ℕ}
use Rattle.codes.specs.Code.{Code, IsArray}
use Rattle.codes.specs.Factors.{Description}
use Rattle.codes.specs.Lost.{core, core_of}
use Rattle.codes.proofs.Passed.{Counts}
use Rattle.codes.proofs.Proper.{Proper}
use Rattle.codes.proofs.Lost.{Remains}
use Rattle.ending.specs.Endings.{Buffers, Ends}
use Rattle.ending.specs.declared.Ending.{Ending}
use Rattle.joint.specs.Promises.{Struck}
use Rattle.joint.specs.Lost.{LostEnds}

pub record ReadyLost (c : Code) (τ : ℕ) (L y : List ℕ) : Type 0 where
  pub counts : Counts c
  pub proper : Proper c
  pub received : IsArray c y
  pub remain : Remains c τ L

pub record RestEnds (c : Code) (L y : List ℕ) (τ : ℕ) (e : Ending) (fs : List ℕ) : Type 0 where
  pub lent : Buffers
  pub left : Buffers
  pub ends : Ends (core c L) (core_of c L y) τ lent e left
  pub flags : left.flags ≡ fs

abbrev pub StruckEnds : Description → List ℕ → List ℕ → ℕ → Buffers → Ending → Buffers → Type 0
StruckEnds D L y τ lent = Struck D y (λ a. LostEnds D.code L a τ lent)
