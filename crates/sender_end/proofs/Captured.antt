-- That the next picture was coded.
use Rattle.std.proofs.Common.{◌≡◌, ℕ, ◌+◌, ◌%◌, sym, ap, ◌∙◌, Option, List, is_some}
use Rattle.std.specs.Option.{option_map, option_map_or}
use Rattle.h263_types.specs.declared.blocks.Mb.{Mb}
use Rattle.h263_types.specs.declared.params.Params.{Params}
use Rattle.h263_planes.specs.Picture.{Picture}
use Rattle.call_model.specs.Coding.{decoded_picture}
use Rattle.call_model.specs.CodedPictures.{Coded, reference_for}
use Rattle.call_model.specs.Sending.{header_of}
use Rattle.call_model.specs.Stands.{Sender}
use Rattle.call_model.specs.Steering.{made_by_kept, next_above}
use Rattle.call_decoding.specs.Rules.{rules_of}
use Rattle.call_decoding.specs.Samples.{pictures}
use Rattle.call_decoding.specs.Styles.{Style}
use Rattle.call_encoding.specs.Encoding.{encoding}
use Rattle.call_encoding.specs.Frames.{Frame, style_with}
use Rattle.sender_end.specs.Headers.{numbered}

-- the next picture of a sender, with this floor
abbrev pub next : Params → (List ℕ → ℕ) → ℕ → Frame → Sender Picture → Coded Style Mb Picture
next p pace floor frame s = next_above (pictures p.format) (encoding p) (rules_of p) pace frame floor s

-- a picture of this frame, quantiser and reference, by what a sender keeps
abbrev pub with_kept : Params → ℕ → Frame → Sender Picture → Option ℕ → Coded Style Mb Picture
with_kept p quant frame s reference = made_by_kept (pictures p.format) (encoding p) (rules_of p) quant frame s reference

-- the rule of references for picture n, by what a sender keeps
abbrev pub reference_at : Params → Sender Picture → ℕ → Option ℕ
reference_at p s n = reference_for (rules_of p) (λ m. s.depth (m % p.slots)) (λ m. s.known (m % p.slots)) n

-- the picture of a frame with this reference, depth, quantiser and picture that it refers to
abbrev pub made : Params → Frame → Option ℕ → ℕ → ℕ → Option Picture → Coded Style Mb Picture
made p frame reference depth quant before =
    let style = style_with p frame.messages (is_some reference) depth quant in
    let mbs = (encoding p).choice frame before style in
    record {
      reference = reference;
      depth = depth;
      style = style;
      slices = (encoding p).cut style mbs;
      picture = decoded_picture (pictures p.format) style before mbs;
    }

-- it is made by what is kept, if all these are so
pub made_is_kept : (p : Params) (kept : ℕ) (frame : Frame) (s : Sender Picture) (reference : Option ℕ) (depth quant : ℕ)
    (before : Option Picture)
    → depth ≡ option_map_or (λ m. s.depth (m % p.slots) + 1) reference 0 → quant ≡ kept
    → before ≡ option_map (λ m. s.picture (m % p.slots)) reference → made p frame reference depth quant before
    ≡ with_kept p kept frame s reference
unfolding made_by_kept
made_is_kept p kept frame s reference depth quant before depth_is quant_is before_is =
    ap (λ (d : ℕ). made p frame reference d quant before) depth_is
    ∙ ap (λ (q : ℕ). made p frame reference (option_map_or (λ m. s.depth (m % p.slots) + 1) reference 0) q before)
    quant_is
    ∙ ap (λ (b : Option Picture). made p frame reference (option_map_or (λ m. s.depth (m % p.slots) + 1) reference 0)
    kept b) before_is

-- the packets of the next picture
pub packets_are : (p : Params) (s : Sender Picture) (n sequence : ℕ) (x : Coded Style Mb Picture)
    (packets : List (List ℕ)) → s.sent ≡ n → s.sequence ≡ sequence
    → packets ≡ (encoding p).packets n sequence (numbered p.clock n x.reference x.style) x.slices
    → packets ≡ (encoding p).packets s.sent s.sequence (header_of (rules_of p) s.sent x) x.slices
unfolding header_of
packets_are p s n sequence x packets sent sequence_is are =
    are
    ∙ ap (λ (k : ℕ). (encoding p).packets k sequence (numbered p.clock k x.reference x.style) x.slices) (sym sent)
    ∙ ap (λ (k : ℕ). (encoding p).packets s.sent k (numbered p.clock s.sent x.reference x.style) x.slices)
    (sym sequence_is)
