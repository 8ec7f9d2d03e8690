-- What a turn sees of a call so far: what was sent and played in it, and which messages were said.
-- The ideal call shows it, and so do both ends.
use Rattle.std.specs.Prelude.{ℕ, List, map, slice_get, Option, option_and_then}
use Rattle.h263_types.specs.declared.blocks.Mb.{Mb}
use Rattle.h263_planes.specs.Picture.{Picture}
use Rattle.call_model.specs.Coding.{Shown}
use Rattle.call_model.specs.CodedPictures.{Coded}
use Rattle.call_model.specs.IdealCall.{Call, about}
use Rattle.call_model.specs.JoinedRun.{SaidMessage, Joined}
use Rattle.call_decoding.specs.Styles.{Style}

pub record Seen : Type 0 where
  -- the pictures that were sent, oldest first
  pub coded : List (Coded Style Mb Picture)
  -- how many were played, and what was shown, newest first
  pub played : ℕ
  pub plays : List (Shown Picture)
  -- the pictures that the messages are about, in the order in which they were said
  pub abouts : List ℕ

-- what the ideal call shows
abbrev pub in_call : Call Style Mb Picture → Seen
in_call c = record { coded = c.coded; played = c.played; plays = c.plays; abouts = map about c.said }

-- what both ends show
abbrev pub in_both : Joined Style Mb Picture → Seen
in_both both =
    record {
      coded = both.sender.coded;
      played = both.receiver.played;
      plays = both.plays;
      abouts = map (λ (told : SaidMessage). told.about) both.said;
    }

-- the reference of picture n, none where it is coded intra or was not sent
abbrev pub reference_in : List (Coded Style Mb Picture) → ℕ → Option ℕ
reference_in coded n = option_and_then (λ (x : Coded Style Mb Picture). x.reference) (slice_get coded n)
