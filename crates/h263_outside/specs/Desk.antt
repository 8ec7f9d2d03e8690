-- What a program sees of the outside, and what each call of a desk does to it.
use Rattle.std.specs.Prelude.{◌≡◌, ◌⊎◌, ℕ, ◌+◌, ◌-◌, ◌^◌, ◌<◌, ◌≤◌, ◌==◌, min, Bool, true, false, IsTrue, IsFalse, List, ◌∷◌, ◌++◌, length, take, drop, [], Option, if◌then◌else◌}
use Rattle.std.specs.Option.{option_map}
use Rattle.h263_outside.specs.declared.desk.Role.{Role}
use Rattle.h263_outside.specs.declared.desk.Role.TheVariants.{Video, Events, Pictures, Wire, Report, Video2, Pictures2}

-- how often each call has failed, up to 2^64 - 1
pub record Faults : Type 0 where
  pub attach : ℕ
  pub read : ℕ
  pub write : ℕ

-- the meaning of a desk: for each role whether it is attached, and, where told, its name, what is
-- left to read and what was written
pub record Outside : Type 0 where
  pub attached : Role → Bool
  pub name : Role → Option (List ℕ)
  pub left : Role → Option (List ℕ)
  pub written : Role → Option (List ℕ)
  pub faults : Faults
  -- a flush has done its work, and nothing was written since
  pub flushed : Bool
  -- the names of the loans that the desk stands on, one below the other
  pub loans : List ℕ

-- the roles in their order, by number
abbrev pub role_number : Role → ℕ
role_number Video = 0
role_number Events = 1
role_number Pictures = 2
role_number Wire = 3
role_number Report = 4
role_number Video2 = 5
role_number Pictures2 = 6

-- whether two roles are the same
abbrev pub is_role : Role → Role → Bool
is_role role other = role_number role == role_number other

-- whether a role is read; the others are written
abbrev pub is_input : Role → Bool
is_input Video = true
is_input Events = true
is_input Pictures = false
is_input Wire = false
is_input Report = false
is_input Video2 = true
is_input Pictures2 = false

abbrev pub IsInput : Role → Type 0
IsInput role = IsTrue (is_input role)

abbrev pub IsOutput : Role → Type 0
IsOutput role = IsFalse (is_input role)

-- f, with another value at one role
abbrev pub with_role : {A : Type 0} → (Role → A) → Role → A → Role → A
with_role f role x r = if is_role role r then x else f r

-- no role is attached
abbrev pub NoneAttached : (Role → Bool) → Type 0
NoneAttached attached = attached ≡ (λ _. false)

-- the role has gained these bytes at its end, where what was written is told
abbrev pub appended : (Role → Option (List ℕ)) → Role → List ℕ → Role → Option (List ℕ)
appended written role bytes r = if is_role role r then option_map (λ old. old ++ bytes) (written r) else written r

-- the role has gained a prefix of these bytes, and the rest of them not
pub record GainsFront (role : Role) (all : List ℕ) (old new : Role → Option (List ℕ)) : Type 0 where
  pub front : List ℕ
  pub rest : List ℕ
  pub whole : front ++ rest ≡ all
  pub gained : new ≡ appended old role front

-- the role has lost n bytes at the start, where what is left is told
abbrev pub consumed : (Role → Option (List ℕ)) → Role → ℕ → Role → Option (List ℕ)
consumed left role n r = if is_role role r then option_map (λ old. drop n old) (left r) else left r

-- the role has lost some bytes at the start, fewer than the limit
pub record LosesFront (role : Role) (limit : ℕ) (old new : Role → Option (List ℕ)) : Type 0 where
  pub count : ℕ
  pub fewer : count < limit
  pub lost : new ≡ consumed old role count

-- what was read, k bytes at the start of the buffer, is what was first left; it is nothing only at the end
pub record IsFront (left buf : List ℕ) (k : ℕ) : Type 0 where
  pub within : k ≤ length left
  pub same : take k buf ≡ take k left
  pub ends : k ≡ 0 → left ≡ []

-- what was read is what was first left, and fills the buffer unless it is all that was left
pub record FillsFront (left buf : List ℕ) (k : ℕ) : Type 0 where
  pub within : k ≤ length left
  pub same : take k buf ≡ take k left
  pub ends : k < length buf → k ≡ length left

-- a count is greater than before, or stands at its end
abbrev pub Rose : ℕ → ℕ → Type 0
Rose before now = (before < now) ⊎ (2 ^ 64 - 1 ≤ now)

-- a count and one more, or its end
abbrev pub raised_count : ℕ → ℕ
raised_count n = min (n + 1) (2 ^ 64 - 1)

-- no count falls
pub record NoneFalls (old new : Faults) : Type 0 where
  pub attach : old.attach ≤ new.attach
  pub read : old.read ≤ new.read
  pub write : old.write ≤ new.write

-- some count rose
abbrev pub SomeRose : Faults → Faults → Type 0
SomeRose old new = Rose old.attach new.attach ⊎ Rose old.read new.read ⊎ Rose old.write new.write

-- nothing changes but what is attached, and by which name
pub record OnlyAttaches (old new : Outside) : Type 0 where
  pub left : new.left ≡ old.left
  pub written : new.written ≡ old.written
  pub faults : NoneFalls old.faults new.faults
  pub flushed : new.flushed ≡ old.flushed
  pub loans : new.loans ≡ old.loans

-- nothing changes but what is left
pub record OnlyReads (old new : Outside) : Type 0 where
  pub attached : new.attached ≡ old.attached
  pub name : new.name ≡ old.name
  pub written : new.written ≡ old.written
  pub faults : NoneFalls old.faults new.faults
  pub flushed : new.flushed ≡ old.flushed
  pub loans : new.loans ≡ old.loans

-- nothing changes but what was written, and whether it was flushed
pub record OnlyWrites (old new : Outside) : Type 0 where
  pub attached : new.attached ≡ old.attached
  pub name : new.name ≡ old.name
  pub left : new.left ≡ old.left
  pub faults : NoneFalls old.faults new.faults
  pub loans : new.loans ≡ old.loans

-- the second party's role in the place of the first's, and the other way round
abbrev pub exchanged : Role → Role
exchanged Video = Video2
exchanged Events = Events
exchanged Pictures = Pictures2
exchanged Wire = Wire
exchanged Report = Report
exchanged Video2 = Video
exchanged Pictures2 = Pictures

-- what is told where the two parties have changed places
abbrev pub exchanged_outside : ℕ → Outside → Outside
exchanged_outside name o = record {
  attached = λ r. o.attached (exchanged r);
  name = λ r. o.name (exchanged r);
  left = λ r. o.left (exchanged r);
  written = λ r. o.written (exchanged r);
  faults = o.faults;
  flushed = o.flushed;
  loans = name ∷ o.loans;
}
