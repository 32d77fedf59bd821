-- What the functions inside a tray's decoding ask and leave. No promise cites these.
--
--   table_of w, inverses_of w    what all marks share, in the working space w: the field's table at its front, and inverses behind it
--   Common D τ            what the tray's checks leave of a description and a trial limit
--   Shared c w            what all marks of the code c share is in the space w
--   Begun c w₀ w          so it is, and behind the first 49,152 bytes w is as w₀
--   Opened c r w₀ w       the space when the tray is opened: begun, or as lent where it is refused
--   cleared_if b w         the space w, cleared where b holds
--   Marking D τ y lent w  a mark by itself, and a space with what all marks share
--   Decoded D τ y lent e left   the decoding of y, in whatever space, ends as e and turns the buffers lent into left
--   Lies D τ k y b w      mark k lies in the lent slices, its place is a small number, and the space has what all marks share
--   Marked D τ k y b w e b' w'    the decoding of mark k ends as e and turns the buffers b of all marks into b', and the space w into w'
use Rattle.std.specs.Prelude.{◌≡◌, Bool, false, cond, List, ℕ, Result, Ok, Err, ◌+◌, ◌*◌, ◌≤◌, ◌<◌, eqb, length, drop}
use Rattle.patch.specs.Parts.{part, lay}
use Rattle.refusal.specs.declared.Refusal.{Refusal}
use Rattle.field.specs.Working.Tables.{table_bytes, IsTable}
use Rattle.rows.specs.Working.Rows.{Inverses}
use Rattle.codes.specs.Code.{Code, columns, rows, largest, joint_limit}
use Rattle.codes.specs.Factors.{Description}
use Rattle.codes.specs.Checks.{unchecked, space_bytes}
use Rattle.codes.proofs.Passed.{Counts}
use Rattle.codes.proofs.Proper.{Proper}
use Rattle.codes.proofs.Factors.{Factors}
use Rattle.ending.specs.Endings.{Buffers}
use Rattle.ending.specs.declared.Ending.{Ending}
use Rattle.conditions.specs.Working.{most_inverses}
use Rattle.joint.specs.Promises.{Decodes, given, left, cleared}
use Rattle.tray.specs.Promises.{cells, received_of, mark_of}

abbrev pub table_of : List ℕ → List ℕ
table_of w = part 0 table_bytes w

abbrev pub inverses_of : List ℕ → List ℕ
inverses_of w = part table_bytes most_inverses w

pub record Common (D : Description) (τ : ℕ) : Type 0 where
  pub counts : Counts D.code
  pub proper : Proper D.code
  pub factors : Factors D
  pub checked : unchecked D.code ≡ false
  pub limit : τ ≤ joint_limit D.code

pub record Shared (c : Code) (w : List ℕ) : Type 0 where
  pub room : space_bytes ≤ length w
  pub table : IsTable c.degree (table_of w)
  pub inverses : Inverses c.degree c.points (largest c.lengths) (inverses_of w)

pub record Begun (c : Code) (w₀ w : List ℕ) : Type 0 where
  pub shared : Shared c w
  pub long : length w ≡ length w₀
  pub behind : drop space_bytes w ≡ drop space_bytes w₀

abbrev pub Opened : Code → Result Unit Refusal → (w₀ w : List ℕ) → Type 0
Opened c (Ok _) w₀ w = Begun c w₀ w
Opened c (Err _) w₀ w = w ≡ w₀

abbrev pub cleared_if : Bool → List ℕ → List ℕ
cleared_if b w = cond b (cleared w) w

pub record Marking (D : Description) (τ : ℕ) (y : List ℕ) (lent : Buffers) (w : List ℕ) : Type 0 where
  pub common : Common D τ
  pub received : length y ≡ cells D.code
  pub array : length lent.array ≡ cells D.code
  pub flags : length lent.flags ≡ columns D.code
  pub shared : Shared D.code w

abbrev pub Decoded : (D : Description) (τ : ℕ) (y : List ℕ) (lent : Buffers) → Ending → (left : Buffers) → Type 0
Decoded D τ y lent e b = (v : List ℕ) → space_bytes ≤ length v → (v' : List ℕ) × Decodes (given D τ y lent v) (left e b v')

pub record Lies (D : Description) (τ k : ℕ) (y : List ℕ) (b : Buffers) (w : List ℕ) : Type 0 where
  pub common : Common D τ
  pub most_rows : rows D.code ≤ 4
  pub most_columns : columns D.code ≤ 96
  pub few : k < 64
  pub received : k * cells D.code + cells D.code ≤ length y
  pub array : k * cells D.code + cells D.code ≤ length b.array
  pub flags : k * columns D.code + columns D.code ≤ length b.flags
  pub shared : Shared D.code w

pub record Marked (D : Description) (τ k : ℕ) (y : List ℕ) (b : Buffers) (w : List ℕ) (e : Ending) (b' : Buffers)
    (w' : List ℕ) : Type 0 where
  pub own : Buffers
  pub decoded : Decoded D τ (received_of D.code k y) (mark_of D.code k b) e own
  pub array_size : length own.array ≡ cells D.code
  pub flags_size : length own.flags ≡ columns D.code
  pub array : b'.array ≡ lay (k * cells D.code) own.array b.array
  pub flags : b'.flags ≡ lay (k * columns D.code) own.flags b.flags
  pub space : w' ≡ cleared_if (eqb (k * cells D.code + cells D.code) (length b.array)) w
