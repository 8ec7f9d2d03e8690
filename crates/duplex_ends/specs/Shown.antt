-- What a play shows, as the ideal call says it.
use Rattle.h263_types.specs.declared.params.Params.{Params}
use Rattle.h263_planes.specs.Picture.{Picture}
use Rattle.call_model.specs.Coding.{Shown, pictures_of}
use Rattle.call_model.specs.IdealCall.{shown_at, shown_last}
use Rattle.call_encoding.specs.Frames.{Frame}
use Rattle.coded_call.specs.Coding.{coding}
use Rattle.duplex_call.specs.declared.line.Party.{Party}
use Rattle.duplex_call.specs.Duplex.{WayRuns}
use Rattle.duplex_ends.specs.Ways.{call_in}

-- what the next play of the party's pictures shows, with its mark
abbrev pub shown_next : (Party → Params) → Party → WayRuns Frame → Shown Picture
shown_next p x ways =
    let c = call_in p x ways in
    shown_at (pictures_of (coding (p x))) c.coded c.arrivals c.plays c.played

-- the picture that the last play showed, or the grey one before the first
abbrev pub on_screen : (Party → Params) → Party → WayRuns Frame → Picture
on_screen p x ways = shown_last (pictures_of (coding (p x))) (call_in p x ways).plays
