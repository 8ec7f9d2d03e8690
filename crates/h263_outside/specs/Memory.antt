-- What a desk in memory tells: everything. And how it is set up.
use Rattle.std.specs.Prelude.{ℕ, ◌≡◌, ◌≤◌, min, Bool, false, List, [], length, drop, Option, Some, None, Contains}
use Rattle.h263_outside.specs.Desk.{Outside, Faults, IsInput, raised_count}
use Rattle.h263_outside.specs.declared.desk.Role.{Role}
use Rattle.h263_outside.specs.declared.desk.Role.TheVariants.{Video, Events, Pictures, Wire, Report, Video2, Pictures2}
use Rattle.h263_outside.specs.declared.memory.Calls.{Calls}
use Rattle.h263_outside.specs.declared.memory.Input.{Input}
use Rattle.h263_outside.specs.declared.memory.MemoryDesk.{MemoryDesk}

-- a value for each role
abbrev pub by_role : {A : Type 0} → A → A → A → A → A → A → A → Role → A
by_role a b c d e f g Video = a
by_role a b c d e f g Events = b
by_role a b c d e f g Pictures = c
by_role a b c d e f g Wire = d
by_role a b c d e f g Report = e
by_role a b c d e f g Video2 = f
by_role a b c d e f g Pictures2 = g

-- a value for each role that is read, and one for each that is written
abbrev pub by_input : {A : Type 0} → A → A → A → A → Role → A
by_input video events video2 other = by_role video events other other other video2 other

abbrev pub by_output : {A : Type 0} → A → A → A → A → A → Role → A
by_output pictures wire report pictures2 other = by_role other other pictures wire report other pictures2

-- the counts of failed calls
abbrev pub faults_of : Calls → Faults
faults_of c = record { attach = c.attach_faults; read = c.read_faults; write = c.write_faults }

-- what is left of an input
abbrev pub input_left : Input → Option (List ℕ)
input_left x = Some (drop x.at x.bytes.items)

-- an input from which bytes were read is attached by its name, and was put or not, as before
pub record OnlyMoves (old new : Input) : Type 0 where
  pub attached : new.attached ≡ old.attached
  pub is_put : new.is_put ≡ old.is_put
  pub name : new.name.items ≡ old.name.items

-- what a desk in memory tells
unfoldable pub memory_outside : MemoryDesk → Outside
memory_outside d = record {
  attached = by_role d.video.attached d.events.attached
      d.pictures.attached d.wire.attached d.report.attached d.video2.attached d.pictures2.attached;
  name = by_role (Some d.video.name.items)
      (Some d.events.name.items) (Some d.pictures.name.items) (Some d.wire.name.items)
      (Some d.report.name.items) (Some d.video2.name.items) (Some d.pictures2.name.items);
  left = by_input (input_left d.video) (input_left d.events) (input_left d.video2) None;
  written = by_output (Some d.pictures.bytes.items)
      (Some d.wire.bytes.items) (Some d.report.bytes.items) (Some d.pictures2.bytes.items) None;
  faults = faults_of d.calls;
  flushed = d.flushed;
  loans = [];
}

-- what a new desk tells: nothing attached, no names, no bytes, no faults
abbrev pub blank_outside : Outside
blank_outside = record {
  attached = λ _. false;
  name = λ _. Some [];
  left = by_input (Some []) (Some []) (Some []) None;
  written = by_output (Some []) (Some []) (Some []) (Some []) None;
  faults = record { attach = 0; read = 0; write = 0 };
  flushed = false;
  loans = [];
}

-- how a desk in memory is set up
pub record Setup : Type 0 where
  -- the most bytes that one call moves
  pub piece : ℕ
  -- the most bytes that each output takes
  pub room : Role → ℕ
  -- which inputs were put
  pub is_put : Role → Bool
  -- the numbers of the calls that are to fail, and the number of the next call, counted from 0 over all three
  pub failing : List ℕ
  pub next : ℕ

unfoldable pub setup_of : MemoryDesk → Setup
setup_of d = record {
  piece = d.piece;
  room = by_output d.pictures.room d.wire.room d.report.room d.pictures2.room 0;
  is_put = by_input d.video.is_put d.events.is_put d.video2.is_put false;
  failing = d.calls.failing.items;
  next = d.calls.next;
}

-- the setup of a new desk
abbrev pub new_setup : ℕ → ℕ → Setup
new_setup piece room = record {
  piece = piece;
  room = by_output room room room room 0;
  is_put = λ _. false;
  failing = [];
  next = 0;
}

-- one call more has been made
abbrev pub after_call : Setup → Setup
after_call s = record s { next = raised_count s.next }

-- the next call is one that is to fail
abbrev pub FailsNext : Setup → Type 0
FailsNext s = Contains s.failing s.next

-- an input that was never put
abbrev pub LacksPut : Role → Setup → Type 0
LacksPut role s = IsInput role × (s.is_put role ≡ false)

-- how many bytes are left, or were written; 0 where it isn't told
abbrev pub count_told : Option (List ℕ) → ℕ
count_told None = 0
count_told (Some bytes) = length bytes

-- an output with no room left
abbrev pub IsOutputFull : Role → Setup → (Role → Option (List ℕ)) → Type 0
IsOutputFull role s written = s.room role ≤ count_told (written role)

-- how many bytes one call moves: all there is, a piece at most, and no more than it is given
abbrev pub moved_count : ℕ → ℕ → ℕ → ℕ
moved_count there piece given = min (min there piece) given
