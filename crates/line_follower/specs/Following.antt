-- What follows a line, by what is sent and told.
use Rattle.std.specs.Prelude.{ℕ, ◌+◌, ◌-◌, min, max, nat_le, nat_lt, Bool, false, Option, Some, None, replicate, if◌then◌else◌}
use Rattle.line_follower.specs.declared.follower.Follower.{Follower}
use Rattle.line_follower.specs.declared.pace.Bounds.{Bounds}
use Rattle.line_follower.specs.declared.line.Line.{Line}
use Rattle.line_follower.specs.declared.picture.Picture.{Picture}
use Rattle.line_follower.specs.declared.picture.Fate.TheVariants as fates
use Rattle.line_follower.specs.Owing.{bytes_owed, drained, is_small, least_trip_of}
use Rattle.line_follower.specs.Pacing.{first_pace, heads_of, pace_after, pace_at, rate_per_second, size_at, wanted_of}
use Rattle.line_follower.specs.Rating.{line_at_first, sent_line, line_when_told}
use Rattle.line_follower.specs.Table.{no_picture, open_of, put, rate_through, picture_told, trip_of}

abbrev pub started : Bounds → ℕ → Follower
started b now =
    record {
      pictures = replicate 256 no_picture;
      line = line_at_first (rate_per_second b.first b.period) (rate_per_second b.least b.period)
          (rate_per_second b.most b.period) now;
      pace = first_pace b;
    }

-- bytes a picture that the line carries
abbrev pub carried_size : Follower → ℕ
carried_size f = size_at f.line.rate f.pace.bounds.period

-- bytes that the next picture may have
abbrev pub wanted_by : Follower → ℕ
wanted_by f = wanted_of f.line.rate (bytes_owed f.line.debt) f.pace

-- ---- a picture goes out

abbrev pub all_bytes : ℕ → ℕ → ℕ
all_bytes bytes packets = min (bytes + heads_of packets) 4294967295

abbrev pub sent_picture : ℕ → ℕ → ℕ → ℕ → Picture
sent_picture number bytes packets now =
    record {
      number = number;
      bytes = all_bytes bytes packets;
      packets = packets;
      at = now;
      fate = fates.Open;
    }

abbrev pub follower_after_sent : ℕ → ℕ → ℕ → ℕ → Follower → Follower
follower_after_sent number bytes packets now f =
    record {
      pictures = put (sent_picture number bytes packets now) f.pictures;
      line = sent_line number (all_bytes bytes packets) now f.line;
      pace = pace_after bytes packets (wanted_by f) f.pace;
    }

-- ---- a message comes

-- Of the pictures before this number something was told, or of a later one.
abbrev pub noticed : Picture → Line → Line
noticed p l = record l { untold = max l.untold (min (p.number + 1) 4294967295) }

abbrev pub with_told : Picture → Bool → ℕ → Follower → Follower
with_told p is_whole now f =
    record f { pictures = put (picture_told is_whole now p) f.pictures; line = noticed p f.line }

abbrev pub follower_with_line : Line → Follower → Follower
follower_with_line l f = record f { line = l; pace = pace_at f.line.rate l.rate f.pace }

-- the line is followed once the picture has its fate
abbrev pub followed : Picture → Bool → ℕ → Follower → Follower
followed p is_whole now f =
    follower_with_line (line_when_told p is_whole (rate_through now f.pictures) now f.line) f

-- only a picture that was sent after the rate shrank last tells of it
abbrev pub follower_told_by : Picture → Bool → ℕ → Follower → Follower
follower_told_by p is_whole now f =
    if nat_le f.line.since p.number
    then followed p is_whole now (with_told p is_whole now f)
    else with_told p is_whole now f

abbrev pub follower_told_of : Option Picture → Bool → ℕ → Follower → Follower
follower_told_of None is_whole now f = f
follower_told_of (Some p) is_whole now f = follower_told_by p is_whole now f

abbrev pub after_told : ℕ → Bool → ℕ → Follower → Follower
after_told number is_whole now f = follower_told_of (open_of number f.pictures) is_whole now f

-- ---- a frame comes

-- The first picture of which nothing was told, nor of one after it, is out by 150 ms longer than the
-- newest round trip: what waits on the line is to go first. That holds no frame longer than 200 ms.
abbrev pub longest_silence : Line → ℕ
longest_silence l = max l.trip (least_trip_of l.least_trip) + 150000

abbrev pub is_held_for : ℕ → Line → Picture → Bool
is_held_for now l p = if nat_le 200000000 (now - l.out) then false else nat_lt (longest_silence l) (trip_of now p)

abbrev pub is_held_by : ℕ → Line → Option Picture → Bool
is_held_by now l None = false
is_held_by now l (Some p) = is_held_for now l p

abbrev pub is_frame_held : ℕ → Follower → Bool
is_frame_held now f = is_held_by now f.line (open_of f.line.untold f.pictures)

-- No more is owed than a fifth of a second of the rate, nothing holds the frame, and there is no pause.
abbrev pub has_room : ℕ → Follower → Bool
has_room now f =
    if nat_lt now f.line.paused then false
    else if is_frame_held now f then false
    else is_small f.line.rate (drained f.line.rate now f.line.debt)
