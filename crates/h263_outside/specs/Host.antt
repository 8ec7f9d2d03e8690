-- What a desk over the host tells: which roles are attached, and its counts.
use Rattle.std.specs.Prelude.{◌≡◌, ◌≢◌, ℕ, Bool, List, [], Option, Some, None, is_some, slice_range}
use Rattle.std.specs.Io.KnownBytes.{prepend_known}
use Rattle.h263_outside.specs.Desk.{Outside, Faults}
use Rattle.h263_outside.specs.Memory.{by_role, by_input, by_output}
use Rattle.h263_outside.specs.declared.host.HostDesk.{HostDesk}
use Rattle.h263_outside.specs.declared.ahead.Ahead.{Ahead}
use Rattle.h263_outside.specs.declared.input.InputFile.{InputFile}
use Rattle.h263_outside.specs.declared.desk.Role.{Role}

-- a desk that tells no names and no bytes
abbrev pub silent_outside : (Role → Bool) → ℕ → ℕ → ℕ → Bool → Outside
silent_outside attached attaches reads writes flushed = record {
  attached = attached;
  name = λ _. None;
  left = λ _. None;
  written = λ _. None;
  faults = record { attach = attaches; read = reads; write = writes };
  flushed = flushed;
  loans = [];
}

-- what is known of a file, where there is one
abbrev pub known_of_file : {F : Type 0} → (F → Option (List ℕ)) → Option F → Option (List ℕ)
known_of_file known None = None
known_of_file known (Some file) = known file

abbrev pub no_faults : Faults
no_faults = record { attach = 0; read = 0; write = 0 }

-- what a desk over the host tells
abbrev pub host_outside : {R F D I A : Type 0} → HostDesk R F D I A → Outside
host_outside d = silent_outside (by_role (is_some d.video) (is_some d.events)
    (is_some d.pictures) (is_some d.wire) d.reports (is_some d.video2) (is_some d.pictures2))
    d.attach_faults d.read_faults d.write_faults d.flushed

-- what was read of a file ahead, and is still to be given out
abbrev pub ahead_bytes : Ahead → List ℕ
ahead_bytes a = slice_range a.bytes a.at a.end

-- what is left of a file that is read: what was read of it ahead, and then what the file has
abbrev pub input_left : {F : Type 0} → (F → Option (List ℕ)) → InputFile F → Option (List ℕ)
input_left known input = prepend_known (ahead_bytes input.ahead) (known input.file)

-- the file that a role reads
abbrev pub input_of : {R F D I A : Type 0} → Role → HostDesk R F D I A → Option (InputFile F)
input_of role d = by_input d.video d.events d.video2 None role

-- the file that a role writes; the report is standard output
abbrev pub output_file : {R F D I A : Type 0} → Role → HostDesk R F D I A → Option F
output_file role d = by_output d.pictures d.wire None d.pictures2 None role

-- of an input no byte was read yet: what is left of it is what its file has
abbrev pub IsUnread : {F : Type 0} → Option (InputFile F) → Type 0
IsUnread None = Unit {0}
IsUnread (Some input) = ahead_bytes input.ahead ≡ []

-- each other role has the file that it had, and so the bytes of that file
pub record KeepsOthers {R F D I A : Type 0} (role : Role) (old new : HostDesk R F D I A) : Type 0 where
  pub inputs : (r : Role) → r ≢ role → input_of r new ≡ input_of r old
  pub outputs : (r : Role) → r ≢ role → output_file r new ≡ output_file r old

-- and so has each role
pub record KeepsFiles {R F D I A : Type 0} (old new : HostDesk R F D I A) : Type 0 where
  pub inputs : (r : Role) → input_of r new ≡ input_of r old
  pub outputs : (r : Role) → output_file r new ≡ output_file r old
