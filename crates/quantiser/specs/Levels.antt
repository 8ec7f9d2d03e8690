-- Levels and the values that they stand for (H.263, 6.2.1 and 6.2.2).
use Rattle.std.specs.Prelude.{ℕ, zero, suc, ◌+◌, ◌-◌, ◌*◌, ◌/◌, ◌%◌, ℤ, pos, negsuc, neg_ℤ, unsigned_abs, min}

-- z, or its negation where the other number is below 0
abbrev pub signed_of : ℤ → ℤ → ℤ
signed_of (pos n) z = z
signed_of (negsuc n) z = neg_ℤ z

-- the size of the value of a level of size n that isn't 0: Q * (2 * n + 1), less 1 where Q is even
abbrev pub value_size : ℕ → ℕ → ℕ
value_size q n = q * (2 * n + 1) - (1 - q % 2)

-- the value of a level: 0 for 0, else of its size and with the level's sign, limited to -2048 to 2047
abbrev pub value_of : ℕ → ℤ → ℤ
value_of q (pos zero) = pos 0
value_of q (pos (suc n)) = pos (min (value_size q (suc n)) 2047)
value_of q (negsuc n) = neg_ℤ (pos (min (value_size q (suc n)) 2048))

-- the level of a coefficient of an inter block: its size less Q / 2, in steps of 2 * Q, at most 127
abbrev pub inter_level : ℕ → ℤ → ℤ
inter_level q f = signed_of f (pos (min ((unsigned_abs f - q / 2) / (2 * q)) 127))

-- the level of a coefficient of an intra block other than the first: its size in steps of 2 * Q, at most 127
abbrev pub intra_level : ℕ → ℤ → ℤ
intra_level q f = signed_of f (pos (min (unsigned_abs f / (2 * q)) 127))
