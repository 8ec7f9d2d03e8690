-- What a receiver of a group says, by the ideal call that it lives.
use Rattle.std.specs.Prelude.{◌≡◌, ℕ, ◌<◌, List, [], length, map, None}
use Rattle.h263_types.specs.declared.blocks.Mb.{Mb}
use Rattle.h263_types.specs.declared.params.Params.{Params}
use Rattle.h263_planes.specs.Picture.{Picture}
use Rattle.call_model.specs.Coding.{pictures_of}
use Rattle.call_model.specs.CodedPictures.{capture}
use Rattle.call_model.specs.IdealCall.{AllMayHappenFrom, Call, call_from}
use Rattle.call_model.specs.TwoStores.{told_of}
use Rattle.call_decoding.specs.Rules.{rules_of}
use Rattle.call_decoding.specs.Styles.{Style}
use Rattle.call_encoding.specs.Encoding.{encoding}
use Rattle.call_encoding.specs.Frames.{Frame}
use Rattle.call_encoding.specs.Messages.{write_message}
use Rattle.coded_call.specs.Coding.{coding}
use Rattle.group_sender.specs.Holding.{Groups}
use Rattle.group_sender.specs.InACall.{AreLived, Lived, group_entries, lived_events, lived_source}
use Rattle.group_sender.specs.Parties.{party_at}
use Rattle.group_sender.specs.Running.{GroupEntry, group_run}
use Rattle.group_call.specs.Following.{view_lived}
use Rattle.group_call.specs.Viewing.{ViewerRun}

-- The receiver at place k has said the messages of its ideal call, as they travel, each about its picture;
-- and the group knows of it what that call's sender knows.
pub record ViewerIsHeard (p : Params) (k : ℕ) (view : ViewerRun) (run : Groups)
    (c : Call Style Mb Picture) : Type 0 where
  pub told : view.told ≡ map (told_of write_message (rules_of p)) c.said
  pub knows : (party_at run.parties k).told ≡ c.known

-- so it is for each receiver that is there from the start, in any call that is near for it
abbrev pub ViewersAreHeard : Params → Type 0
ViewersAreHeard p = (k : ℕ) (before : List (GroupEntry Frame)) (lived : List (Lived Frame)) (frame : Frame)
    (quant count : ℕ) →
    let first = group_run (pictures_of (coding p)) (encoding p) (rules_of p) before in
    let run = group_run (pictures_of (coding p)) (encoding p) (rules_of p) (group_entries k before lived) in
    let source = lived_source 0 (capture (pictures_of (coding p)) (encoding p) quant frame [] None) run.coded in
    k < length first.parties → first.coded ≡ [] → (0 < quant) × (quant < 32)
    → AreLived (coding p) (rules_of p) k 0 source lived
    → AllMayHappenFrom (pictures_of (coding p)) (rules_of p) source count (lived_events 0 lived)
    → ViewerIsHeard p k (view_lived p run.coded lived) run
    (call_from (pictures_of (coding p)) (rules_of p) source (lived_events 0 lived))
