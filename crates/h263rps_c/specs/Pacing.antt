-- A pace as C has it.
use Rattle.std.specs.Prelude.{ℕ, ◌==◌, nat_lt, Option, Some, None, if◌then◌else◌}
use Rattle.h263_types.specs.declared.format.Format.{Format}
use Rattle.h263_types.specs.declared.Kind.{Kind}
use Rattle.h263_types.specs.declared.Kind.TheVariants as kinds
use Rattle.h263rps_c.specs.Asked.{format_numbered}
use Rattle.h263rps_c.specs.declared.refusals.EndRefusal.{EndRefusal}
use Rattle.h263rps_c.specs.declared.refusals.EndRefusal.TheVariants.{BadParams}

-- 0 is a predicted picture
abbrev pub kind_in : ℕ → Kind
kind_in intra = if intra == 0 then kinds.P else kinds.I

abbrev pub target_refused : Option Format → ℕ → Option EndRefusal
target_refused None target = Some BadParams
target_refused (Some f) target =
    if target == 0 then Some BadParams else if nat_lt 999999 target then Some BadParams else None

-- the number of a format, and a target of 1 to 999,999 bytes a picture
abbrev pub pacing_refusal : ℕ → ℕ → Option EndRefusal
pacing_refusal format target = target_refused (format_numbered format) target
