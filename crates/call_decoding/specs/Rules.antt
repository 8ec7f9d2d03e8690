-- The numbers of a call, by its parameters.
use Rattle.std.specs.Prelude.{ℕ, ◌==◌, if◌then◌else◌}
use Rattle.h263_types.specs.declared.params.Params.{Params}
use Rattle.h263_types.specs.Clocks.{half_of}
use Rattle.h263_types.specs.Sizes.{mbs_of}
use Rattle.call_model.specs.Coding.{Rules}

-- how many flags a message of this version has
abbrev pub flags_in_version : ℕ → ℕ
flags_in_version version = if version == 2 then 14 else 0

abbrev pub rules_of : Params → Rules
rules_of p =
    record {
      slots = p.slots;
      lead = p.lead;
      half = half_of p.clock;
      chain = 131;
      mbs = mbs_of p.format;
      flags = flags_in_version p.messages;
    }
