-- Events as one number, as the code keeps them by the first bits of their words.
use Rattle.std.specs.Prelude.{ℕ, ◌+◌, ◌/◌, ◌%◌, List, [], ◌∷◌, Bool, true, false, not, if◌then◌else◌, ◌==◌, ◌&&◌, ◌||◌, slice_get, Option, Some, None}
use Rattle.code_tables.specs.declared.code.Level.{Level}
use Rattle.code_tables.specs.declared.event_tables.TheConstants.{EVENTS, LEVELS}
use Rattle.code_tables.specs.Words.{starts, code_at, place_in}
use Rattle.code_tables.specs.Starts.{starts_of}

-- how many bits the word has, LAST, RUN and the size, from the lowest bits on
abbrev pub packed_len : ℕ → ℕ
packed_len packed = packed % 16

abbrev pub packed_last : ℕ → Bool
packed_last packed = packed / 16 % 2 == 1

abbrev pub packed_run : ℕ → ℕ
packed_run packed = packed / 32 % 64

abbrev pub packed_size : ℕ → ℕ
packed_size packed = packed / 2048

-- whether a word stands for the LAST, RUN and size that are packed
abbrev pub is_meant : ℕ → Option Level → Bool
is_meant packed None = false
is_meant packed (Some l) =
    (if l.last then packed_last packed else not (packed_last packed))
    && ((l.run == packed_run packed) && (l.size == packed_size packed))

-- whether the word at a place is what is packed, and `width` bits begin with it
abbrev pub is_packed_at : ℕ → ℕ → ℕ → Option ℕ → Bool
is_packed_at width front packed None = false
is_packed_at width front packed (Some place) =
    starts front width (code_at EVENTS place) && (((code_at EVENTS place).len == packed_len packed) && is_meant packed
    (slice_get LEVELS place))

-- whether `width` bits begin with the word of what is packed
abbrev pub is_packed : ℕ → ℕ → ℕ → Bool
is_packed width front packed = is_packed_at width front packed (place_in (starts_of (packed_last packed))
    (packed_run packed) (packed_size packed))

-- the same for each prefix from one on, where 0 is no event
abbrev pub are_packed : ℕ → ℕ → List ℕ → Bool
are_packed width front [] = true
are_packed width front (p ∷ ps) = ((p == 0) || is_packed width front p) && are_packed width (front + 1) ps
