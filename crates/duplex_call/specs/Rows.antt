-- A call of two parties over pictures of two samples.
use Rattle.std.specs.Prelude.{ℕ, Bool, List, [], ◌∷◌, ◌++◌, replicate, reverse, Option}
use Rattle.call_model.specs.Coding.{Mark}
use Rattle.call_model.specs.IdealCall.{Event, Send, Deliver, Play}
use Rattle.call_model.specs.Refusals.{Refusal}
use Rattle.call_model.specs.SmallCoding.{Two, SmallStyle, SmallMb, SmallFault, small}
use Rattle.call_model.specs.Worked.{flat, marks, references, scene_rules, always_8}
use Rattle.duplex_call.specs.declared.line.Party.{Party}
use Rattle.duplex_call.specs.declared.line.Party.TheVariants.{A, B}
use Rattle.duplex_call.specs.Duplex.{Lettered, WayCoding, WayRuns, way, call_of, ways_after}
use Rattle.duplex_call.specs.FourStores.{ends_of}
use Rattle.duplex_call.specs.Refused.{passed, refusal_of}

abbrev pub small_side : Party → WayCoding Two Two SmallStyle SmallMb Two SmallFault SmallFault
small_side x = record {
  coding = small;
  rules = scene_rules 16 3;
  pace = always_8;
  carrying = λ captured messages. captured;
}

abbrev pub row_captures : Party → List Two
row_captures x = flat 100 ∷ flat 100 ∷ []

abbrev pub lettered_as : Party → Event → Lettered
lettered_as x e = record { party = x; event = e }

-- both packets of a picture are delivered
abbrev pub both_packets : Party → ℕ → List Lettered
both_packets x n = lettered_as x (Deliver n 0) ∷ lettered_as x (Deliver n 1) ∷ []

-- a S / a D 0.* / b S / b D 0.* / a S / a D 1.* / a P / a P / b P
abbrev pub row : List Lettered
row =
    lettered_as A Send ∷ both_packets A 0 ++ lettered_as B Send ∷ both_packets B 0
    ++ lettered_as A Send ∷ both_packets A 1
    ++ lettered_as A Play ∷ lettered_as A Play ∷ lettered_as B Play ∷ []

abbrev pub row_ways : WayRuns Two
row_ways = ways_after small_side row_captures (reverse row)

abbrev pub row_passes : Bool
row_passes = passed small_side row_captures (reverse row)

abbrev pub row_references : Party → List (Option ℕ)
row_references x = references (call_of small_side x (way x row_ways)).coded

abbrev pub row_marks : Party → List Mark
row_marks x = marks (call_of small_side x (way x row_ways)).plays

abbrev pub row_ends_references : Party → List (Option ℕ)
row_ends_references x = references (ends_of small_side x (way x row_ways)).sender.coded

abbrev pub row_ends_marks : Party → List Mark
row_ends_marks x = marks (ends_of small_side x (way x row_ways)).plays

-- ---- more calls, of a's pictures whole one after the other, and of messages that ride in b's headers

-- this many pictures of a party are there
abbrev pub captures_of : ℕ → Party → List Two
captures_of count x = replicate count (flat 100)

-- a's next picture is sent, lost, and played
abbrev pub lost_picture : List Lettered
lost_picture = lettered_as A Send ∷ lettered_as A Play ∷ []

-- five pictures of a are told to be lost before b captures its first picture, and one more before its
-- second
abbrev pub five_row : List Lettered
five_row = lost_picture ++ lost_picture ++ lost_picture ++ lost_picture ++ lost_picture
    ++ lettered_as B Send ∷ lost_picture ++ lettered_as B Send ∷ []

abbrev pub five_ways : WayRuns Two
five_ways = ways_after small_side (captures_of 6) (reverse five_row)

-- a's picture n is sent, and both its packets are delivered
abbrev pub seen_picture : ℕ → List Lettered
seen_picture n = lettered_as A Send ∷ both_packets A n

-- a delivery at a place without a packet, after which a's first acknowledgement still waits
abbrev pub no_packet_row : List Lettered
no_packet_row = seen_picture 0 ++ lettered_as B Send ∷ lettered_as B (Deliver 0 9) ∷ []

abbrev pub no_packet_ways : WayRuns Two
no_packet_ways = ways_after small_side row_captures (reverse no_packet_row)

-- with half a period of three pictures
abbrev pub narrow_side : Party → WayCoding Two Two SmallStyle SmallMb Two SmallFault SmallFault
narrow_side x = record {
  coding = small;
  rules = record { slots = 16; lead = 3; half = 3; chain = 131; mbs = 2; flags = 0 };
  pace = always_8;
  carrying = λ captured messages. captured;
}

-- b's picture carries the acknowledgement of a's picture 0, and a has sent three pictures since it began
abbrev pub far_row : List Lettered
far_row = seen_picture 0 ++ lettered_as B Send ∷ lettered_as A Send ∷ lettered_as A Send ∷ []

abbrev pub far_refusal : ℕ → Option Refusal
far_refusal place =
    refusal_of narrow_side 3 B (Deliver 0 place) (ways_after narrow_side (captures_of 3) (reverse far_row))
