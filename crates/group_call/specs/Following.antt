-- A receiver of a group, by the ideal call that it lives.
use Rattle.std.specs.Prelude.{◌≡◌, ℕ, ◌<◌, List, [], ◌∷◌, length, slice_get, None}
use Rattle.h263_types.specs.declared.blocks.Mb.{Mb}
use Rattle.h263_types.specs.declared.params.Params.{Params}
use Rattle.h263_planes.specs.Picture.{Picture}
use Rattle.call_model.specs.Coding.{pictures_of}
use Rattle.call_model.specs.CodedPictures.{Coded, capture}
use Rattle.call_model.specs.IdealCall.{AllMayHappenFrom, Call, call_from, shown_at}
use Rattle.call_model.specs.Receiving.{played_shown}
use Rattle.call_model.specs.Sound.{ReceiverIsAt}
use Rattle.call_decoding.specs.Rules.{rules_of}
use Rattle.call_decoding.specs.Samples.{pictures}
use Rattle.call_decoding.specs.Styles.{Style}
use Rattle.call_encoding.specs.Encoding.{encoding}
use Rattle.call_encoding.specs.Frames.{Frame}
use Rattle.coded_call.specs.Coding.{coding}
use Rattle.receiver_end.specs.Decoding.{decoding}
use Rattle.receiver_end.specs.State.{run_of}
use Rattle.group_sender.specs.InACall.{AreLived, Arrives, ComesBack, Done, Lived, Plays, group_entries, lived_events, lived_source}
use Rattle.group_sender.specs.Running.{GroupEntry, group_run}
use Rattle.group_call.specs.Viewing.{ViewerRun, no_view, coded_packets, view_delivery, view_play}

-- what a receiver has done that was there from the start, where these pictures are coded
abbrev pub view_lived : Params → List (Coded Style Mb Picture) → List (Lived Frame) → ViewerRun
view_lived p coded [] = no_view
view_lived p coded (Done entry ∷ past) = view_lived p coded past
view_lived p coded (Arrives n j ∷ past) = view_delivery p (coded_packets p coded n) n j (view_lived p coded past)
view_lived p coded (Plays ∷ past) = view_play p (view_lived p coded past)
view_lived p coded (ComesBack i bytes ∷ past) = view_lived p coded past

-- The receiver is where its ideal call is, whose pictures are those that the group coded; and its
-- next play shows what that call shows, exact where all packets of the picture arrived while it was
-- open.
pub record ViewerFollows (p : Params) (view : ViewerRun) (coded : List (Coded Style Mb Picture))
    (c : Call Style Mb Picture) : Type 0 where
  pub own : (n : ℕ) → slice_get c.coded n ≡ slice_get coded n
  pub state : ReceiverIsAt (decoding p.format) (rules_of p) c (run_of p view.entries)
  pub shows : c.played < length c.coded
      → played_shown (decoding p.format) (rules_of p) (run_of p view.entries)
      ≡ shown_at (pictures p.format) c.coded c.arrivals c.plays c.played

-- So it is for each receiver that is there from the start, in any call that is near for it, whatever
-- the others lose or say.
abbrev pub ViewersFollow : Params → Type 0
ViewersFollow p = (k : ℕ) (before : List (GroupEntry Frame)) (lived : List (Lived Frame)) (frame : Frame)
    (quant count : ℕ) →
    let first = group_run (pictures_of (coding p)) (encoding p) (rules_of p) before in
    let coded = (group_run (pictures_of (coding p)) (encoding p) (rules_of p) (group_entries k before lived)).coded in
    let source = lived_source 0 (capture (pictures_of (coding p)) (encoding p) quant frame [] None) coded in
    k < length first.parties → first.coded ≡ [] → (0 < quant) × (quant < 32)
    → AreLived (coding p) (rules_of p) k 0 source lived
    → AllMayHappenFrom (pictures_of (coding p)) (rules_of p) source count (lived_events 0 lived)
    → ViewerFollows p (view_lived p coded lived) coded
    (call_from (pictures_of (coding p)) (rules_of p) source (lived_events 0 lived))
