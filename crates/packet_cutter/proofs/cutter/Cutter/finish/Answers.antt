use Rattle.std.proofs.Common.{◌≡◌, ℕ, List, sym, ap, subst, ◌∙◌, arith}
use Rattle.std.proofs.lemmas.List.{take_all}
use Rattle.h263_types.specs.declared.blocks.Mb.{Mb}
use Rattle.h263_types.specs.declared.blocks.MarkedMb.{MarkedMb}
use Rattle.h263_types.specs.Sizes.{mbs_of}
use Rattle.picture_header.specs.declared.header.Header.{Header}
use Rattle.packet_cutter.specs.declared.cutter.Cutter.{Cutter}
use Rattle.packet_cutter.specs.Cutting.{cut_format, limit_of, added_of, sequence_of, HoldsMbs}
use Rattle.packet_cutter.specs.Kept.{kept_packets}
use Rattle.packet_cutter.specs.Packets.{ArePacketsOf}
use Rattle.packet_cutter.specs.Taken.{unmarked}
use Rattle.packet_cutter.proofs.cutter.Cutter.finish.Goals as goal

-- the packets of what the cutter keeps are those of the picture that it holds
of_the_picture : (c : Cutter) (number : ℕ) (h : Header) (mbs : List Mb) (these : List MarkedMb)
    (packets : List (List ℕ))
    → HoldsMbs c number h mbs → added_of c ≡ mbs_of (cut_format c) → these ≡ c.mbs.items.items
    → ArePacketsOf c.number c.sequence c.header (limit_of c) (unmarked these) packets
    → ArePacketsOf number (sequence_of c) h (limit_of c) mbs packets
of_the_picture c number h mbs these packets holds all same are =
    let whole : unmarked these ≡ mbs = ap unmarked (same ∙ sym (take_all c.added c.mbs.items.items
    (omega (arith, all, c.whole)))) ∙ holds.mbs_are in
    subst (λ (n : ℕ). ArePacketsOf n c.sequence h (limit_of c) mbs packets) holds.number_is
    (subst (λ (x : Header). ArePacketsOf c.number c.sequence x (limit_of c) mbs packets) holds.header_is
    (subst (λ (l : List Mb). ArePacketsOf c.number c.sequence c.header (limit_of c) l packets) whole are))

pub returns-clause-function : goal.returns-clause-function
returns-clause-function c = λ number h mbs holds.
    let self = c.args.self.now in
    c.by_functions.ensures.packets number (sequence_of self) h (limit_of self) mbs (kept_packets c.cut.new.packets)
    (of_the_picture self number h mbs c.deref.result.now (kept_packets c.cut.new.packets) holds c.requires.all
    c.deref.ensures.value c.cut.ensures.packets)
