-- A group of one over the events of a call.
use Rattle.std.specs.Prelude.{◌≡◌, List, [], ◌∷◌, length, slice_get, Option}
use Rattle.std.specs.Option.{option_map_or}
use Rattle.h263_types.specs.declared.blocks.Mb.{Mb}
use Rattle.h263_types.specs.declared.params.Params.{Params}
use Rattle.h263_planes.specs.Picture.{Picture}
use Rattle.call_model.specs.IdealCall.{Event, Send, Deliver, Play, Back}
use Rattle.call_model.specs.JoinedRun.{Joined, SaidMessage}
use Rattle.call_decoding.specs.Styles.{Style}
use Rattle.call_encoding.specs.Frames.{Frame}
use Rattle.receiver_end.specs.State.{run_of}
use Rattle.one_way.specs.Both.{both_after, steady}
use Rattle.group_sender.specs.Holding.{Groups, group_after_code, group_after_saying}
use Rattle.group_sender.specs.Running.{after_join, no_group}
use Rattle.group_call.specs.Viewing.{ViewerRun, no_view, coded_packets, view_delivery, view_play}

-- what the group and its only receiver have done
pub record OneRun : Type 0 where
  pub run : Groups
  pub view : ViewerRun

-- the frame is sent, if there is one, and the message comes back, if it was said
abbrev pub one_sends : Params → Option Frame → Groups → Groups
one_sends p frame run = option_map_or (λ (frame : Frame). group_after_code p (steady p) frame run) frame run

abbrev pub one_hears : Params → Option SaidMessage → Groups → Groups
one_hears p told run = option_map_or (λ (told : SaidMessage). group_after_saying p 0 told.bytes run) told run

-- an event of the call happens, where these frames are there to be sent
abbrev pub one_after : Params → List Frame → Event → OneRun → OneRun
one_after p frames Send one = record one { run = one_sends p (slice_get frames (length one.run.coded)) one.run }
one_after p frames (Deliver n j) one =
    record one { view = view_delivery p (coded_packets p one.run.coded n) n j one.view }
one_after p frames Play one = record one { view = view_play p one.view }
one_after p frames (Back k) one = record one { run = one_hears p (slice_get one.view.told k) one.run }

-- after these events, the newest first, where the receiver is there from the start
abbrev pub group_of_one : Params → List Frame → List Event → OneRun
group_of_one p frames [] = record { run = after_join 0 no_group; view = no_view }
group_of_one p frames (e ∷ past) = one_after p frames e (group_of_one p frames past)

-- it is both ends of a call: the pictures, the receiver, what that says and what it shows are theirs
pub record IsTheCall (p : Params) (one : OneRun) (both : Joined Style Mb Picture) : Type 0 where
  pub coded : one.run.coded ≡ both.sender.coded
  pub receiver : run_of p one.view.entries ≡ both.receiver
  pub told : one.view.told ≡ both.said
  pub plays : one.view.plays ≡ both.plays

abbrev pub OneIsACall : Params → Type 0
OneIsACall p = (frames : List Frame) (past : List Event)
    → IsTheCall p (group_of_one p frames past) (both_after p (steady p) frames [] past)
