-- How the pictures of both parties of a call are coded, and what was said of them.
use Rattle.std.specs.Prelude.{ℕ, zero, suc, List, length, map}
use Rattle.h263_bits.specs.declared.fault.Fault.{Fault}
use Rattle.h263_types.specs.declared.blocks.Mb.{Mb}
use Rattle.h263_types.specs.declared.params.Params.{Params}
use Rattle.h263_planes.specs.Picture.{Picture}
use Rattle.back_messages.specs.declared.message.MessageFault.{MessageFault}
use Rattle.call_model.specs.Coding.{Rules}
use Rattle.call_model.specs.IdealCall.{Call, NumberedMessage, about, ideal, slices_at}
use Rattle.call_model.specs.TwoStores.{travelling}
use Rattle.call_decoding.specs.Rules.{rules_of}
use Rattle.call_decoding.specs.Styles.{Style}
use Rattle.call_encoding.specs.Frames.{Frame}
use Rattle.call_encoding.specs.Messages.{marked_message}
use Rattle.coded_call.specs.Coding.{coding}
use Rattle.duplex_call.specs.declared.queue.Carried.{Carried}
use Rattle.duplex_call.specs.declared.line.Party.{Party}
use Rattle.duplex_call.specs.Duplex.{WayCoding, WayRun, WayRuns, way, with_delivery}
use Rattle.one_way.specs.Both.{carrying, steady}

-- how the pictures of a party with these parameters are coded. Of a captured picture and the
-- messages of its header the frame has the picture, and the messages with their flags as marks
abbrev pub side_of : Params → WayCoding Picture Frame Style Mb Picture Fault MessageFault
side_of p = record {
  coding = coding p;
  rules = rules_of p;
  pace = steady p;
  carrying = λ picture messages. carrying picture (map marked_message messages);
}

-- those of both parties
abbrev pub sides : (Party → Params) → Party
    → WayCoding Picture Frame Style Mb Picture Fault MessageFault
sides p x = side_of (p x)

-- the ideal call of the pictures of one way
abbrev pub call_by : Params → WayRun Frame → Call Style Mb Picture
call_by p w = ideal (coding p) (rules_of p) (steady p) w.frames w.past

abbrev pub call_in : (Party → Params) → Party → WayRuns Frame → Call Style Mb Picture
call_in p x ways = call_by (p x) (way x ways)

-- a message as it waits for a picture header: with the number of the picture that it is about
abbrev pub carried_as : Rules → NumberedMessage → Carried
carried_as rules note = record { about = about note; message = marked_message (travelling rules note) }

-- all messages that the receiver of the pictures of one way has said, oldest first
abbrev pub carried_from : Params → WayRun Frame → List Carried
carried_from p w = map (carried_as (rules_of p)) (call_by p w).said

-- the packets of the party's picture n at the places below this one are delivered, in their order
abbrev pub with_places : (Party → Params) → Party → ℕ → ℕ → WayRuns Frame → WayRuns Frame
with_places p x n zero ways = ways
with_places p x n (suc j) ways = with_delivery (sides p) x n j (with_places p x n j ways)

-- all packets of the picture are delivered
abbrev pub with_whole : (Party → Params) → Party → ℕ → WayRuns Frame → WayRuns Frame
with_whole p x n ways = with_places p x n (length (slices_at (call_in p x ways).coded n)) ways
