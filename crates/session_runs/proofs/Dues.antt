-- When a run's next picture is due, where the run has a stream.
use Rattle.std.proofs.Common.{◌≡◌, ℕ, Bool, true, false, Option, Some, None, refl, ap}
use Rattle.std.specs.Prelude.{is_some, nat_le, if◌then◌else◌}
use Rattle.stream_choice.specs.declared.streams.Run.{Run}
use Rattle.stream_choice.specs.declared.streams.Run.TheVariants as runs
use Rattle.playout_times.specs.Due.{is_due_by}

pub of_stream : (o : Option ℕ) (n : ℕ) (d : Option ℕ) → Some n ≡ o → d ≡ (if is_some o then d else None)
of_stream (Some m) n d e = refl
of_stream None n d e = absurd cc

pub at_time : (now time : ℕ) (o d : Option ℕ) → Some time ≡ (if is_some o then d else None)
    → nat_le time now ≡ (if is_some o then is_due_by now d else false)
at_time now time (Some m) d e = ap (is_due_by now) e
at_time now time None d e = absurd cc

pub never : (now : ℕ) (o d : Option ℕ) → None ≡ (if is_some o then d else None)
    → false ≡ (if is_some o then is_due_by now d else false)
never now (Some m) d e = ap (is_due_by now) e
never now None d e = refl

abbrev pub first_of : Bool → Bool → Bool → Option Run
first_of a b c =
    if a then Some runs.Followed else if b then Some runs.Former else if c then Some runs.Tried else None

pub followed : (a b c : Bool) → true ≡ a → Some runs.Followed ≡ first_of a b c
followed true b c e = refl
followed false b c e = absurd cc

pub former : (a b c : Bool) → false ≡ a → true ≡ b → Some runs.Former ≡ first_of a b c
former true b c d e = absurd cc
former false true c d e = refl
former false false c d e = absurd cc

pub tried : (a b c : Bool) → false ≡ a → false ≡ b → true ≡ c → Some runs.Tried ≡ first_of a b c
tried true b c d e f = absurd cc
tried false true c d e f = absurd cc
tried false false true d e f = refl
tried false false false d e f = absurd cc

pub none : (a b c : Bool) → false ≡ a → false ≡ b → false ≡ c → None ≡ first_of a b c
none true b c d e f = absurd cc
none false true c d e f = absurd cc
none false false true d e f = absurd cc
none false false false d e f = refl
