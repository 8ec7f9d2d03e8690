-- The words of a LAST and a RUN, as the code keeps where they stand.
use Rattle.std.specs.Prelude.{ℕ, ◌+◌, ◌-◌, List, nat_le, slice_index_or, Option, Some, None, if◌then◌else◌}
use Rattle.code_tables.specs.declared.event_tables.Row.{Row}

abbrev pub table_row : List Row → ℕ → Row
table_row rows run = slice_index_or rows run (record { first = 0; count = 0 })

-- the place of a size from 1 on in a row
abbrev pub place_in_row : Row → ℕ → Option ℕ
place_in_row row size = if nat_le size row.count then Some (row.first + size - 1) else None
