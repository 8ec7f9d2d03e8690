-- With its reference and depth the picture is coded, cut and kept as the run has it.
use Rattle.std.proofs.Common.{◌≡◌, ℕ, ◌+◌, ◌%◌, ◌<◌, ◌≤◌, false, refl, sym, ap, ◌∙◌, subst, arith, IfSome, List, Option, length, is_some}
use Rattle.std.specs.Option.{option_map_or}
use Rattle.std.proofs.lemmas.Option.{IfSome_then}
use Rattle.std.proofs.lemmas.List.{length-set}
use Rattle.h263_types.specs.declared.Kind.{Kind}
use Rattle.h263_types.specs.declared.blocks.Mb.{Mb}
use Rattle.h263_types.specs.declared.params.Params.{Params}
use Rattle.h263_planes.specs.Lent.{picture}
use Rattle.h263_planes.specs.Picture.{Picture}
use Rattle.back_messages.specs.declared.message.Message.{Message}
use Rattle.picture_header.specs.declared.header.Header.{Header}
use Rattle.picture_header.specs.Ranges.{AreMessages}
use Rattle.picture_header.specs.Text.{in_places}
use Rattle.mode_choice.specs.Choice.{choices_of}
use Rattle.picture_recon.specs.Samples as recon
use Rattle.packet_cutter.specs.Cutting.{cutter_packets, sequence_of}
use Rattle.packet_cutter.specs.Packets.{ArePacketsOf}
use Rattle.picture_store.specs.Pictures.{IsKept, picture_in, slot_of, slots_of}
use Rattle.call_model.specs.CodedPictures.{Coded as CodedPicture}
use Rattle.call_model.specs.Sending.{bytes_together}
use Rattle.call_model.specs.Stands.{Sender}
use Rattle.call_model.specs.SenderStanding.{IsAfterCapture, with_size}
use Rattle.call_decoding.specs.Rules.{rules_of}
use Rattle.call_decoding.specs.Samples.{pictures}
use Rattle.call_decoding.specs.Styles.{Style, header_from}
use Rattle.call_encoding.specs.Encoding.{encoding}
use Rattle.call_encoding.specs.Frames.{Frame, carried, style_in}
use Rattle.sender_end.specs.declared.answers.Coded.{Coded}
use Rattle.sender_end.specs.Coding.{HasKept, kept_picture}
use Rattle.sender_end.specs.Headers.{numbered}
use Rattle.sender_end.specs.Stands.{IsCodedWith, IsSeen}
use Rattle.sender_end.specs.Parts.{sender_state}
use Rattle.sender_end.specs.State.{SenderState}
use Rattle.sender_end.proofs.Captured.{made, made_is_kept, packets_are, with_kept}
use Rattle.sender_end.proofs.Keeping.{at_new, at_other, at_same, coded_numbers, coded_rests, has_kept, own_numbers, same_picture, still_kept}
use Rattle.sender_end.proofs.Numbering.{numbered_fits}
use Rattle.sender_end.proofs.sender.Sender.code_next.Given.{Over}
use Rattle.sender_end.proofs.sender.Sender.code_next.Goals.{After-count}
use Rattle.sender_end.proofs.sender.Sender.code_next.Goals as goal

pub code-requires-clause-kept : goal.code-requires-clause-kept
code-requires-clause-kept g c =
    let ready = c.self.invariant in
    let old = c.self.inside in
    let reference = c.args.next.reference in
    let recent = subst (λ (x : SenderState g.row.P.Denot). IfSome reference (λ m. (m < x.sent)
    × (x.sent ≤ m + x.params.slots))) (sym c.self.view_is) c.requires.recent in
    let kept : IfSome reference (λ m. IsKept old.store.store m) = IfSome_then reference recent
    (λ m r. ready.kept m r.0 r.1) in
    subst (λ (k : Kind). HasKept k old.store.store reference)
    (sym (ap (λ (h : Header). h.kind) c.header_of-header.ensures.value)) (has_kept old.store.store reference kept)

-- a picture by itself has depth 0, and by that its rounding
pub code-requires-clause-rounding : goal.code-requires-clause-rounding
code-requires-clause-rounding g c = λ none.
    ap (λ (h : Header). h.rounding) c.header_of-header.ensures.value ∙ ap (λ (d : ℕ). d % 2) (c.requires.depth none)

pub size_of-requires : goal.size_of-requires
size_of-requires g c k d below =
    omega (
      arith,
      c.written_packets.ensures.small _ _ _ _ _ _ c.code.ensures.packets k d below,
      c.self.invariant.params.limit_high,
    )

pub invariant_of-self : goal.invariant_of-self
invariant_of-self g c =
    let ready = c.self.invariant in
    let old = c.self.inside in
    let n = old.sent in
    let d = c.args.next.depth in
    let stored = c.code.ensures.store in
    let some : 0 < old.params.slots = omega (arith, ready.params.slots_low) in
    let held : slots_of c.code.new.self.store ≡ old.params.slots = ap (λ (l : List (Option ℕ)). length l) stored.numbers
    ∙ ready.slots in
    let before : (m : ℕ) → m < n → n ≤ m + old.params.slots → IsKept c.code.new.self.store m =
    λ m below last. subst (λ (l : List (Option ℕ)). IsKept (record old.store.store { numbers = l }) m)
    (sym stored.numbers) (ready.kept m below last)
    in
    record {
      params = ready.params;
      cutter_format = c.code.ensures.cutter_format;
      cutter_limit = c.code.ensures.cutter_limit;
      store_format = c.keep.ensures.keeps.format ∙ stored.format ∙ ready.store_format;
      slots =
          ap (λ (l : List (Option ℕ)). length l) c.keep.ensures.keeps.numbers
          ∙ length-set c.code.new.self.store.numbers (slot_of c.code.new.self.store n) _
          ∙ held;
      works = c.keep.ensures.keeps.works ∙ stored.pictures ∙ ready.works;
      kept = still_kept c.searches.ensures.rests c.code.new.self.store c.keep.new.self.store old.params.slots n held
          some before c.keep.ensures.keeps.numbers;
      selects =
          own_numbers (rules_of old.params) c.coded.new.self (n + 1) _ _
          (coded_numbers (rules_of old.params) old.selector c.coded.new.self n d _ _ c.coded.ensures ready.selects);
      few = omega (arith, c.requires.left, ap (λ (x : SenderState g.row.P.Denot). x.sent) c.self.view_is);
      small = c.written_packets.ensures.small _ _ _ _ _ _ c.code.ensures.packets;
    }

-- the sender as it was and as it is, the frame and the answer
abbrev before : (g : Over) → After-count g → SenderState g.row.P.Denot
before g c = sender_state c.self.inside

abbrev after : (g : Over) → After-count g → SenderState g.row.P.Denot
after g c =
    sender_state
    (record (c.self.inside) {
      sent = c.self.inside.sent + 1;
      cutter = c.code.new.cutter;
      selector = c.coded.new.self;
      sizes = c.push_size.new.sizes;
      store = c.keep.new.self;
    })

abbrev frame_of : (g : Over) → After-count g → Frame
frame_of g c = record { picture = picture c.args.frame; messages = c.args.back.now }

abbrev answer_of : (g : Over) → After-count g → Coded
answer_of g c = record { number = c.self.inside.sent; reference = c.args.next.reference; packets = c.count.result }

-- the next picture was coded
coded_with : (g : Over) (c : After-count g) (s : Sender Picture) → IsSeen (before g c) s
    → c.args.next.depth ≡ option_map_or (λ m. s.depth (m % c.self.inside.params.slots) + 1) c.args.next.reference 0
    → IsCodedWith c.self.inside.params (g.P.Pace.quant_of c.self.inside.pace s.sizes)
    (frame_of g c) c.args.next.reference s (after g c) (answer_of g c)
coded_with g c s seen depth_is =
    let ready = c.self.invariant in
    let old = c.self.inside in
    let p = old.params in
    let n = old.sent in
    let reference = c.args.next.reference in
    let d = c.args.next.depth in
    let q = c.quant-quant.result in
    let messages = c.args.back.now in
    let params_are : c.args.self.now.params ≡ p = ap (λ (x : SenderState g.row.P.Denot). x.params)
    (sym c.self.view_is) in
    let frame = frame_of g c in
    let mid = c.code.new.self.store in
    let now = c.keep.new.self.store in
    let coding = c.code.ensures in
    let some : 0 < p.slots = omega (arith, ready.params.slots_low) in
    let held : slots_of mid ≡ p.slots = ap (λ (l : List (Option ℕ)). length l) coding.store.numbers ∙ ready.slots in
    let earlier = kept_picture old.store.store reference in
    let x = made p frame reference d q earlier in
    let style_of : List Message → Style = λ l. style_in p.format (in_places l) (is_some reference) d q in
    let plain = numbered p.clock n reference (style_of messages) in
    let header = numbered p.clock n reference x.style in
    let all : carried p.clock messages
    ≡ messages = c.carried_as_they_are.ensures.messages p.clock messages c.requires.few
    (subst (λ (q : Params). AreMessages q.clock messages) params_are c.requires.back) in
    let headed : c.header_of-header.result ≡ header_from header =
    c.header_of-header.ensures.value
    ∙ ap (λ (l : List Message). header_from (numbered p.clock n reference (style_of l))) (sym all)
    in
    let mbs = (encoding p).choice frame earlier x.style in
    let chosen_mbs : choices_of frame.picture earlier c.header_of-header.result p ≡ mbs =
    ap (λ (h : Header). choices_of frame.picture earlier h p) headed
    ∙ c.written_packets.ensures.choice p frame earlier header (c.requires.frame
    ∙ ap (λ (q : Params). q.format) params_are)
    in
    let written : ArePacketsOf n (sequence_of old.cutter) (header_from header) p.limit mbs
    (cutter_packets c.code.new.cutter) =
    subst (λ (l : List Mb). ArePacketsOf n (sequence_of old.cutter) (header_from header) p.limit l
    (cutter_packets c.code.new.cutter)) chosen_mbs
    (subst (λ (h : Header). ArePacketsOf n (sequence_of old.cutter) h p.limit
    (choices_of frame.picture earlier c.header_of-header.result p) (cutter_packets c.code.new.cutter)) headed
    coding.packets)
    in
    let packets : cutter_packets c.code.new.cutter ≡ (encoding p).packets n (sequence_of old.cutter) header x.slices =
    c.written_packets.ensures.packets p (is_some reference) n (sequence_of old.cutter) header mbs
    (cutter_packets c.code.new.cutter) (numbered_fits p n reference x.style) refl written
    in
    let count : length (cutter_packets c.code.new.cutter) ≡ length x.slices =
    ap (λ (l : List (List ℕ)). length l) packets
    ∙ c.written_packets.ensures.count p n (sequence_of old.cutter) header x.slices
    in
    let rounding : c.header_of-header.result.rounding ≡ x.style.rounding = ap (λ (h : Header). h.rounding) headed in
    let shown : picture_in now (n % p.slots) ≡ x.picture =
    ap (λ (l : ℕ). picture_in now (n % l)) (sym held) ∙ c.keep.ensures.keeps.kept ∙ coding.store.work
    ∙ ap (λ (r : ℕ). recon.reconstruction p.format r earlier
    (choices_of frame.picture earlier c.header_of-header.result p)) rounding
    ∙ ap (λ (l : List Mb). recon.reconstruction p.format x.style.rounding earlier l) chosen_mbs
    ∙ sym (c.are_pictures.ensures.reconstructed p.format x.style earlier mbs)
    in
    let is_next : x ≡ with_kept p (g.P.Pace.quant_of old.pace s.sizes) frame s reference =
    made_is_kept p (g.P.Pace.quant_of old.pace s.sizes) frame s reference d q earlier depth_is
    (sym (ap (g.P.Pace.quant_of old.pace) (seen.sizes ∙ sym c.as_slice.ensures.value)
    ∙ sym c.quant-quant.ensures.value))
    (same_picture old.store.store p.slots s.picture reference some ready.slots seen.picture)
    in
    let t : Sender Picture = record {
      sent = n + 1;
      sequence = sequence_of c.code.new.cutter;
      packets = cutter_packets c.code.new.cutter;
      sizes = c.push_size.new.sizes.items;
      picture = λ rest. picture_in now rest;
      depth = at_new (n % p.slots) d s.depth;
      known = at_new (n % p.slots) false s.known;
    } in
    let at : s.sent % p.slots ≡ n % p.slots = ap (λ (k : ℕ). k % p.slots) seen.sent in
    let follows : IsAfterCapture (pictures p.format) (encoding p) (rules_of p) s t x = record {
      sent = ap (λ (k : ℕ). k + 1) (sym seen.sent);
      sequence =
          coding.sequence
          ∙ ap (λ (k : ℕ). (k + length (cutter_packets c.code.new.cutter)) % 65536) (sym seen.sequence)
          ∙ ap (λ (k : ℕ). (s.sequence + k) % 65536) count;
      packets = packets_are p s n (sequence_of old.cutter) x (cutter_packets c.code.new.cutter) seen.sent seen.sequence
          packets;
      sizes =
          c.push_size.ensures
          ∙ ap (λ (k : ℕ). with_size old.sizes.items k) c.size_of.ensures
          ∙ ap (λ (l : List ℕ). with_size l (bytes_together (cutter_packets c.code.new.cutter))) (sym seen.sizes);
      picture = ap (λ (k : ℕ). picture_in now k) at ∙ shown;
      depth = ap (at_new (n % p.slots) d s.depth) at ∙ at_same (n % p.slots) d s.depth;
      known = ap (at_new (n % p.slots) false s.known) at ∙ at_same (n % p.slots) false s.known;
      others = λ rest below differ.
          let other : rest ≡ n % p.slots → ⊥ = λ e. differ (e ∙ sym at) in
          let in_old : rest < slots_of old.store.store = omega (arith, below, ready.slots) in
          let in_mid : rest < length mid.pictures = omega (arith, below, coding.store.pictures, ready.works) in (
            c.keep.ensures.keeps.others rest in_mid (λ e. other (e ∙ ap (λ (l : ℕ). n % l) held))
                (λ e. omega (arith, e, below, held))
                ∙ coding.store.others rest in_old ∙ sym (seen.picture rest below),
            at_other (n % p.slots) rest d s.depth other,
            at_other (n % p.slots) rest false s.known other,
          );
    } in
    record {
      t = t;
      seen = record {
        sent = refl;
        sequence = refl;
        packets = refl;
        sizes = refl;
        picture = λ rest below. refl;
        selects = coded_rests c.searches.ensures.rests (rules_of p) old.selector c.coded.new.self n d s.depth s.known
            some c.coded.ensures seen.selects;
      };
      after = subst (λ (y : CodedPicture Style Mb Picture). IsAfterCapture (pictures p.format) (encoding p)
          (rules_of p) s t y) is_next follows;
      tells = record {
        number_is = sym seen.sent;
        reference = ap (λ (y : CodedPicture Style Mb Picture). y.reference) is_next;
        packets = c.count.ensures.count ∙ count ∙ ap (λ (y : CodedPicture Style Mb Picture). length y.slices) is_next;
      };
    }

pub returns-clause-limit : goal.returns-clause-limit
returns-clause-limit g c = c.written_packets.ensures.small _ _ _ _ _ _ c.code.ensures.packets

pub returns-clause-made : goal.returns-clause-made
returns-clause-made g c = λ s seen depth_is.
    let was = subst (λ (x : SenderState g.row.P.Denot). IsSeen x s) (sym c.self.view_is) seen in
    let depth = subst (λ (x : SenderState g.row.P.Denot). c.args.next.depth
    ≡ option_map_or (λ m. s.depth (m % x.params.slots) + 1) c.args.next.reference 0) (sym c.self.view_is) depth_is
    in
    subst (λ (x : SenderState g.row.P.Denot). IsCodedWith x.params (g.P.Pace.quant_of x.pace s.sizes)
    (frame_of g c) c.args.next.reference s (after g c) (answer_of g c)) c.self.view_is
    (coded_with g c s was depth)
