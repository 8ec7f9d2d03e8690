-- Numbers of pictures in a row.
use Rattle.std.specs.Prelude.{ℕ, ◌+◌, ◌-◌, ◌*◌, List, [], ◌∷◌, min, max, nat_lt, Bool, false, if◌then◌else◌}
use Rattle.line_follower.specs.declared.four.Four.{Four}

abbrev pub numbers : Four → List ℕ
numbers f = f.first ∷ f.second ∷ f.third ∷ f.fourth ∷ []

abbrev pub four_zeros : Four
four_zeros = record { first = 0; second = 0; third = 0; fourth = 0 }

-- this number is the newest, and the oldest is gone
abbrev pub four_moved : ℕ → Four → Four
four_moved n f = record { first = n; second = f.first; third = f.second; fourth = f.third }

abbrev pub least_of_four : Four → ℕ
least_of_four f = min f.first (min f.second (min f.third f.fourth))

abbrev pub greatest_of_four : Four → ℕ
greatest_of_four f = max f.first (max f.second (max f.third f.fourth))

abbrev pub total_of_four : Four → ℕ
total_of_four f = f.first + (f.second + (f.third + f.fourth))

-- the two that are left without the greatest and the least, together
abbrev pub middle_two : Four → ℕ
middle_two f = total_of_four f - greatest_of_four f - least_of_four f

-- each of these is greater than the median of those, and the median of these than each of those
abbrev pub is_above : Four → Four → Bool
is_above these those =
    if nat_lt (middle_two those) (2 * least_of_four these)
    then nat_lt (2 * greatest_of_four those) (middle_two these)
    else false
