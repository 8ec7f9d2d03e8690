-- The packets of a picture that a sender coded have room in the ring.
use Rattle.std.proofs.Common.{◌≡◌, ℕ, zero, suc, ◌-◌, ◌*◌, ◌%◌, ◌<◌, ◌≤◌, Bool, List, [], ◌∷◌, ◌++◌, length, take, Option, Some, None, is_some, refl, sym, ap, subst, arith}
use Rattle.std.specs.Prelude.{All, slice_get, slice_index_or}
use Rattle.std.specs.Option.{option_map, option_map_or}
use Rattle.std.proofs.Math.Nat.{mod-lt}
use Rattle.std.proofs.lemmas.List.Elements.{All-from_get_or}
use Rattle.std.proofs.lemmas.List.FromFn.{length-map-range_with_len}
use Rattle.h263_types.specs.declared.blocks.Mb.{Mb}
use Rattle.h263_types.specs.declared.blocks.Mb.TheVariants.{Skip}
use Rattle.h263_types.specs.declared.clock.Clock.{Clock}
use Rattle.h263_types.specs.declared.clock.Clock.TheVariants.{Standard, Custom}
use Rattle.h263_types.specs.declared.params.Params.{Params}
use Rattle.h263_types.specs.Blocks.{IsQuant, HasWholeBlocks}
use Rattle.h263_types.specs.Clocks.{half_of}
use Rattle.h263_types.specs.Sizes.{mbs_of}
use Rattle.h263_planes.specs.Picture.{Picture}
use Rattle.back_messages.specs.declared.message.Message.{Message}
use Rattle.picture_header.specs.declared.header.Header as picture
use Rattle.picture_header.specs.Ranges.{IsHeader}
use Rattle.mode_choice.specs.Choice.{choice_of, choices_of}
use Rattle.packet_cutter.specs.Packets.{ArePacketsOf, packets_of}
use Rattle.packet_cutter.specs.Slices.{cut_of}
use Rattle.call_model.specs.Coding.{Header, Slice, period}
use Rattle.call_model.specs.CodedPictures.{Coded, capture}
use Rattle.call_model.specs.Lawful.{FitsHeader, IsPace}
use Rattle.call_model.specs.Sending as call
use Rattle.call_model.specs.Sending.{SenderEntry, Capture, Feedback, header_of, packets_before, sender_run}
use Rattle.call_decoding.specs.Rules.{rules_of}
use Rattle.call_decoding.specs.Samples.{pictures}
use Rattle.call_decoding.specs.Styles.{Style, header_from}
use Rattle.call_encoding.specs.Encoding.{encoding}
use Rattle.call_encoding.specs.Frames.{Frame, in_format, styled_header, kind_of, style_with}
use Rattle.call_rings.specs.Parts.{total_size}

-- what these packets take of a ring: at most the room of a picture
pub record Room (p : Params) (packets : List (List ℕ)) : Type 0 where
  pub bytes : total_size packets ≤ 1200 * mbs_of p.format
  pub count : length packets ≤ mbs_of p.format

-- what the crates below say of choice, cut and packets
pub record Below (p : Params) : Type 0 where
  pub limit : 1200 ≤ p.limit
  pub ranged : (messages : List Message) (predicted : Bool) (depth quant : ℕ) (h : Header Style) → IsQuant quant
      → h.style ≡ style_with p messages predicted depth quant → FitsHeader (rules_of p) predicted h
      → IsHeader (header_from h)
  pub chosen_count : (frame : Picture) (reference : Option Picture) (h : picture.Header)
      → length (choices_of frame reference h p) ≡ mbs_of frame.format
  pub chosen_each : (frame : Picture) (reference : Option Picture) (h : picture.Header) (k : ℕ)
      → k < mbs_of frame.format
      → slice_index_or (choices_of frame reference h p) k Skip ≡ choice_of frame reference h p k
  pub chosen_whole : (frame : Picture) (reference : Option Picture) (h : picture.Header) (k : ℕ)
      → HasWholeBlocks (choice_of frame reference h p k)
  pub same_cut : (predicted : Bool) (h : Header Style) (mbs : List Mb) → FitsHeader (rules_of p) predicted h
      → h.style.kind ≡ kind_of predicted
      → cut_of (header_from h) p.limit mbs ≡ (encoding p).cut h.style mbs
  pub are_packets : (number sequence : ℕ) (h : picture.Header) (mbs : List Mb) → IsHeader h → All HasWholeBlocks mbs
      → ArePacketsOf number sequence h p.limit mbs (packets_of number sequence h (cut_of h p.limit mbs))
  pub bytes : (number sequence : ℕ) (h : picture.Header) (mbs : List Mb) (packets : List (List ℕ)) → IsHeader h
      → All HasWholeBlocks mbs
      → ArePacketsOf number sequence h p.limit mbs packets → total_size packets ≤ 1200 * length mbs
  pub count : (number sequence : ℕ) (h : picture.Header) (mbs : List Mb) (packets : List (List ℕ)) → IsHeader h
      → All HasWholeBlocks mbs
      → ArePacketsOf number sequence h p.limit mbs packets → length packets ≤ length mbs

-- ---- headers

some_period : (clock : Clock) → 0 < 2 * half_of clock
some_period Standard = omega arith
some_period Custom = omega arith

named : (k : ℕ) (reference : Option ℕ) → 0 < k → (m : ℕ) → option_map (λ m. m % k) reference ≡ Some m → m < k
named k None some m is = absurd (cc is)
named k (Some r) some m is =
    let same : r % k ≡ m = cc is in
    subst (λ (n : ℕ). n < k) same (mod-lt r some)

names_one : (k : ℕ) (reference : Option ℕ) → is_some (option_map (λ m. m % k) reference) ≡ is_some reference
names_one k None = refl
names_one k (Some r) = refl

-- the header of a picture fits
pub fits : (p : Params) (n : ℕ) (reference : Option ℕ) (style : Style)
    → FitsHeader (rules_of p) (is_some reference)
    (record {
      number = n % period (rules_of p);
      reference = option_map (λ m. m % period (rules_of p)) reference;
      half = (rules_of p).half;
      style = style;
    })
fits p n reference style =
    let some = some_period p.clock in
    record {
      number = mod-lt n some;
      reference = named (period (rules_of p)) reference some;
      half = refl;
      kind = names_one (period (rules_of p)) reference;
    }

-- ---- a picture that was captured

pub record IsCaptured (p : Params) (x : Coded Style Mb Picture) : Type 0 where
  pub quant : ℕ
  pub frame : Frame
  pub coded : List (Coded Style Mb Picture)
  pub reference : Option ℕ
  pub some : 0 < quant
  pub few : quant < 32
  pub is : x ≡ capture (pictures p.format) (encoding p) quant frame coded reference

module _ (p : Params) (below : Below p) where
  -- choices, with their header, cut and packed
  chosen_room : (frame : Frame) (predicted : Bool) (depth quant : ℕ) (before : Option Picture) (h : Header Style)
      (n sequence : ℕ)
      → IsQuant quant → h.style ≡ style_with p frame.messages predicted depth quant
      → FitsHeader (rules_of p) predicted h
      → Room p ((encoding p).packets n sequence h ((encoding p).cut h.style ((encoding p).choice frame before h.style)))
  chosen_room frame predicted depth quant before h n sequence ranged style fit =
      let picture = in_format p.format frame.picture in
      let g = styled_header p.clock h.style in
      let mbs = choices_of picture before g p in
      let kind : h.style.kind ≡ kind_of predicted = ap (λ (s : Style). s.kind) style in
      let many : length mbs ≡ mbs_of p.format = below.chosen_count picture before g in
      let whole : All HasWholeBlocks mbs = All-from_get_or HasWholeBlocks mbs Skip (λ k few.
      subst HasWholeBlocks (sym (below.chosen_each picture before g k (omega (arith, few, many))))
      (below.chosen_whole picture before g k)) in
      let header = below.ranged frame.messages predicted depth quant h ranged style fit in
      let packets = packets_of n sequence (header_from h) (cut_of (header_from h) p.limit mbs) in
      let are = below.are_packets n sequence (header_from h) mbs header whole in
      let room : Room p packets = record {
        bytes = omega (arith, below.bytes n sequence (header_from h) mbs packets header whole are, many);
        count = omega (arith, below.count n sequence (header_from h) mbs packets header whole are, many);
      } in
      subst (λ (slices : List (Slice Mb)). Room p (packets_of n sequence (header_from h) slices))
      (below.same_cut predicted h mbs fit kind) room

  pub captured_room : (quant : ℕ) (frame : Frame) (coded : List (Coded Style Mb Picture)) (reference : Option ℕ)
      (n sequence : ℕ) → IsQuant quant
      → Room p (let x = capture (pictures p.format) (encoding p) quant frame coded reference in
      (encoding p).packets n sequence (header_of (rules_of p) n x) x.slices)
  unfolding capture header_of
  captured_room quant frame coded reference n sequence ranged =
      chosen_room frame (is_some reference) _ quant _ _ n sequence ranged refl (fits p n reference _)

  -- ---- a run

  abbrev AllCaptured : List (Coded Style Mb Picture) → Type 0
  AllCaptured coded = (n : ℕ) (x : Coded Style Mb Picture) → slice_get coded n ≡ Some x → IsCaptured p x

  one_more : (coded : List (Coded Style Mb Picture)) (y : Coded Style Mb Picture) → AllCaptured coded → IsCaptured p y
      → AllCaptured (coded ++ y ∷ [])
  one_more [] y each last zero x is = let same : y ≡ x = cc is in subst (IsCaptured p) same last
  one_more [] y each last (suc n) x is = absurd (cc is)
  one_more (z ∷ coded) y each last zero x is = each zero x is
  one_more (z ∷ coded) y each last (suc n) x is = one_more coded y (λ k. each (suc k)) last n x is

  -- a pace is asked for 16 sizes at most
  few_sizes : (coded : List (Coded Style Mb Picture)) → length (call.last_sizes (encoding p) (rules_of p) coded) ≤ 16
  few_sizes coded =
      let count : length (call.last_sizes (encoding p) (rules_of p) coded) ≡ length coded - (length coded - 16) =
      length-map-range_with_len (λ n. call.bytes_together (call.packets_at (encoding p) (rules_of p) coded n))
      (length coded - 16) (length coded - (length coded - 16))
      in
      omega (arith, count)

  all_captured : (pace : List ℕ → ℕ) (entries : List (SenderEntry Frame)) → IsPace pace
      → AllCaptured (sender_run (pictures p.format) (encoding p) (rules_of p) pace entries).coded
  all_captured pace [] paced = λ n x is. absurd (cc is)
  all_captured pace (Capture frame ∷ entries) paced =
      let before = (sender_run (pictures p.format) (encoding p) (rules_of p) pace entries).coded in
      let range = paced (call.last_sizes (encoding p) (rules_of p) before) (few_sizes before) in
      one_more before _ (all_captured pace entries paced)
      (record { quant = _; frame = frame; coded = _; reference = _; some = range.0; few = range.1; is = refl })
  all_captured pace (Feedback bytes ∷ entries) paced = all_captured pace entries paced

  by_slot : (n sequence : ℕ) (o : Option (Coded Style Mb Picture)) → ((x : Coded Style Mb Picture) → o ≡ Some x
      → IsCaptured p x)
      → Room p (option_map_or (λ (x : Coded Style Mb Picture). (encoding p).packets n sequence
      (header_of (rules_of p) n x) x.slices) o [])
  by_slot n sequence None each = record { bytes = omega arith; count = omega arith }
  by_slot n sequence (Some x) each =
      let c = each x refl in
      subst (λ (y : Coded Style Mb Picture). Room p ((encoding p).packets n sequence (header_of (rules_of p) n y)
      y.slices)) (sym c.is)
      (captured_room c.quant c.frame c.coded c.reference n sequence (record {
        low = omega (arith, c.some);
        high = omega (arith, c.few);
      }))

  pub packets_room : (pace : List ℕ → ℕ) (entries : List (SenderEntry Frame)) (n : ℕ) → IsPace pace
      → Room p (call.packets_at (encoding p) (rules_of p) (sender_run (pictures p.format) (encoding p)
      (rules_of p) pace entries).coded n)
  unfolding call.packets_at
  packets_room pace entries n paced =
      let coded = (sender_run (pictures p.format) (encoding p) (rules_of p) pace entries).coded in
      by_slot n (packets_before (take n coded)) (slice_get coded n) (all_captured pace entries paced n)
