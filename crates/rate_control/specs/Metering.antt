-- What a meter answers and keeps.
use Rattle.std.specs.Prelude.{◌≡◌, ℕ, ◌+◌, ◌-◌, ◌<◌, ◌≤◌, ◌==◌, not, Bool, false, List, [], ◌∷◌, ◌++◌, length, max, nat_lt, Option, Some, None, Result, Ok, Err, if◌then◌else◌, slice_index}
use Rattle.h263_bits.specs.declared.fault.Fault.{Fault}
use Rattle.rtp_header.specs.declared.rtp.Rtp.{Rtp}
use Rattle.rtp_header.specs.Faults.{rtp_in}
use Rattle.rate_control.specs.declared.meter.Picture.{Picture}
use Rattle.rate_control.specs.declared.meter.Meter.{Meter}
use Rattle.rate_control.specs.declared.meter.Metered.{Metered}
use Rattle.rate_control.specs.declared.meter.Metered.TheVariants.{Same, Ended, Refused}
use Rattle.rate_control.specs.declared.meter.Totals.{Totals}
use Rattle.rate_control.specs.Level.{level_of}
use Rattle.rate_control.specs.Pictures.{accepted, metered_pictures, sizes_in, metered_sizes, refused_in, greatest_level, over_in}

-- the timestamp of the last one
abbrev pub last_time : List Picture → Option ℕ
last_time [] = None
last_time (p ∷ []) = Some p.timestamp
last_time (p ∷ q ∷ ps) = last_time (q ∷ ps)

-- there is one before, and it has another timestamp
abbrev pub differs : Option ℕ → ℕ → Bool
differs None time = false
differs (Some before) time = not (before == time)

-- the last of the pictures of these sizes: its number from 0, its size, and the level at its end
abbrev pub last_of : ℕ → List ℕ → ℕ × ℕ × ℕ
last_of target sizes =
    (length sizes - 1, slice_index sizes (length sizes - 1), level_of target sizes)

abbrev pub ended : ℕ × ℕ × ℕ → Metered
ended x = Ended x.0 x.1 x.2

-- The answer to a packet after these: the first fault of its header; or the picture that ends,
-- where the accepted packet before has another timestamp.
abbrev pub answer_of : ℕ → List (List ℕ) → Result Rtp Fault → Metered
answer_of target packets (Err fault) = Refused fault
answer_of target packets (Ok r) =
    if differs (last_time (accepted packets)) r.timestamp
    then ended (last_of target (metered_sizes packets))
    else Same

abbrev pub metered : ℕ → List (List ℕ) → List ℕ → Metered
metered target packets bytes = answer_of target packets (rtp_in bytes)

-- the picture that is still going on
abbrev pub going_on : ℕ → List ℕ → Option (ℕ × ℕ × ℕ)
going_on target [] = None
going_on target (size ∷ sizes) = Some (last_of target (size ∷ sizes))

-- what there is to say of a whole log
abbrev pub totals_of : ℕ → ℕ → List (List ℕ) → Totals
totals_of target bucket packets =
    let sizes = metered_sizes packets in
    record {
      last = going_on target sizes;
      pictures = length sizes;
      greatest = greatest_level target sizes;
      over = over_in target bucket sizes;
      refused = refused_in packets;
    }

-- ---- what a meter keeps

-- the pictures are those that have ended and the one that is going on
abbrev pub IsGoing : Option Picture → List Picture → List Picture → Type 0
IsGoing None past pictures = (past ≡ []) × (pictures ≡ [])
IsGoing (Some p) past pictures = pictures ≡ past ++ p ∷ []

-- the timestamp of the picture that is going on
abbrev pub timestamp_going_on : Option Picture → Option ℕ
timestamp_going_on None = None
timestamp_going_on (Some p) = Some p.timestamp

-- The meter was given these packets: it has one number of the pictures that have ended, the level
-- at the end of the last of them, and counts.
pub record MeterStands (m : Meter) (packets : List (List ℕ)) : Type 0 where
  pub past : List Picture
  pub going : IsGoing m.picture past (metered_pictures packets)
  pub time : last_time (accepted packets) ≡ timestamp_going_on m.picture
  pub count : m.pictures ≡ length past
  pub level : m.level ≡ level_of m.target (sizes_in past)
  pub greatest : m.greatest ≡ greatest_level m.target (sizes_in past)
  pub over : m.over ≡ over_in m.target m.bucket (sizes_in past)
  pub refused : m.refused ≡ refused_in packets

-- it was given fewer packets than a log may have
pub record HasRoomInLog (m : Meter) : Type 0 where
  pub packets : List (List ℕ)
  pub stands : MeterStands m packets
  pub few : length packets < 16777216

-- it was given no more packets than a log may have
pub record IsMeter (m : Meter) : Type 0 where
  pub packets : List (List ℕ)
  pub stands : MeterStands m packets
  pub few : length packets ≤ 16777216

-- the meter after the end of a picture of this size
abbrev pub after_picture : Meter → ℕ → Meter
after_picture m size =
    let level = m.level + size - m.target in
    record m {
      pictures = m.pictures + 1;
      level = level;
      greatest = max m.greatest level;
      over = if nat_lt m.bucket level then m.over + 1 else m.over;
    }

-- the same, with the next picture going on
abbrev pub after_picture_with : Meter → ℕ → Picture → Meter
after_picture_with m size next =
    let after = after_picture m size in
    record after { picture = Some next }

-- one picture of both
abbrev pub pictures_joined : Picture → Picture → Picture
pictures_joined p x = record { timestamp = p.timestamp; size = p.size + x.size }

-- the meter and its answer after an accepted packet, by the picture that was going on
abbrev pub meter_taking : Meter → Option Picture → Picture → Meter
meter_taking m None x = record m { picture = Some x }
meter_taking m (Some p) x =
    if p.timestamp == x.timestamp
    then record m { picture = Some (pictures_joined p x) }
    else after_picture_with m p.size x

abbrev pub telling : Meter → Option Picture → Picture → Metered
telling m None x = Same
telling m (Some p) x =
    if p.timestamp == x.timestamp
    then Same
    else Ended m.pictures p.size (m.level + p.size - m.target)

-- the numbers of the meter have room for the end of a picture of this size
pub record HasRoomAtEnd (m : Meter) (size : ℕ) : Type 0 where
  pub pictures : m.pictures < 4294967295
  pub over : m.over < 4294967295
  pub level : m.level + size < 18446744073709551616

-- they have room for an accepted packet
pub record HasRoomFor (m : Meter) (x : Picture) : Type 0 where
  pub pictures : m.pictures < 4294967295
  pub over : m.over < 4294967295
  pub level : (p : Picture) → m.picture ≡ Some p
      → m.level + p.size + x.size < 18446744073709551616
