-- What the receivers of a group have done, each by itself.
use Rattle.std.specs.Prelude.{ℕ, zero, suc, ◌+◌, nat_le, List, [], ◌∷◌, ◌++◌, length, slice_get, Option, None, if◌then◌else◌}
use Rattle.std.specs.Option.{option_map_or}
use Rattle.h263_types.specs.declared.blocks.Mb.{Mb}
use Rattle.h263_types.specs.declared.params.Params.{Params}
use Rattle.h263_planes.specs.Picture.{Picture}
use Rattle.call_model.specs.Coding.{Shown}
use Rattle.call_model.specs.CodedPictures.{Coded}
use Rattle.call_model.specs.JoinedRun.{SaidMessage, said_at_play, said_to}
use Rattle.call_model.specs.Receiving.{ReceiverEntry, Packet, PlayNext, played_shown}
use Rattle.call_model.specs.Sending.{packets_at}
use Rattle.call_decoding.specs.Rules.{rules_of}
use Rattle.call_decoding.specs.Styles.{Style}
use Rattle.call_encoding.specs.Encoding.{encoding}
use Rattle.call_encoding.specs.Messages.{write_message}
use Rattle.call_rings.specs.Messages.{kept_messages}
use Rattle.coded_call.specs.Coding.{coding}
use Rattle.receiver_end.specs.Decoding.{decoding}
use Rattle.receiver_end.specs.State.{answer_after, run_of}

-- What one receiver has done: what it was handed and when it played, newest first; what it said,
-- oldest first, each message with the picture that it is about; what its plays showed, newest first.
pub record ViewerRun : Type 0 where
  pub entries : List ReceiverEntry
  pub told : List SaidMessage
  pub plays : List (Shown Picture)

-- it has done nothing
abbrev pub no_view : ViewerRun
no_view = record { entries = []; told = []; plays = [] }

-- the packets of picture n, of those that were coded
abbrev pub coded_packets : Params → List (Coded Style Mb Picture) → ℕ → List (List ℕ)
coded_packets p coded n = packets_at (encoding p) (rules_of p) coded n

-- the bytes of a packet of picture n reach it
abbrev pub view_packet : Params → ℕ → ViewerRun → List ℕ → ViewerRun
view_packet p n view bytes =
    record view {
      entries = Packet bytes ∷ view.entries;
      told = view.told ++ said_to write_message n (answer_after p view.entries bytes);
    }

-- of these packets of picture n the one at place j reaches it, if there is one
abbrev pub view_delivery : Params → List (List ℕ) → ℕ → ℕ → ViewerRun → ViewerRun
view_delivery p packets n j view = option_map_or (view_packet p n view) (slice_get packets j) view

-- those at the places below this one do, in their order
abbrev pub view_places : Params → List (List ℕ) → ℕ → ℕ → ViewerRun → ViewerRun
view_places p packets n zero view = view
view_places p packets n (suc j) view = view_delivery p packets n j (view_places p packets n j view)

-- all of them do
abbrev pub view_picture : Params → List (List ℕ) → ℕ → ViewerRun → ViewerRun
view_picture p packets n view = view_places p packets n (length packets) view

-- it plays the next picture
abbrev pub view_play : Params → ViewerRun → ViewerRun
view_play p view =
    record {
      entries = PlayNext ∷ view.entries;
      told = view.told ++ said_at_play (coding p) (rules_of p) (run_of p view.entries);
      plays = played_shown (decoding p.format) (rules_of p) (run_of p view.entries) ∷ view.plays;
    }

-- message k of those that it said, where it is among the last ones: none where it has left, or isn't
-- said yet
abbrev pub told_at : List SaidMessage → ℕ → Option SaidMessage
told_at told k = if nat_le (length told) (k + kept_messages) then slice_get told k else None
