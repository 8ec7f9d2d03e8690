use Rattle.std.proofs.Common.{◌≡◌, ◌∙◌, ◌+◌, ◌≤◌, List, length, drop, Ok, refl, ap, sym, subst, arith}
use Rattle.std.proofs.lemmas.List.{length-take-le, length-drop}
use Rattle.h263_types.specs.declared.blocks.Mb.{Mb}
use Rattle.h263_types.specs.declared.format.Format.{Format}
use Rattle.h263_types.specs.Sizes.{mbs_of}
use Rattle.packet_collector.specs.Filled.{slice_in}
use Rattle.call_model.specs.Coding as call
use Rattle.call_decoding.specs.Styles.{Style}
use Rattle.stream_audit.specs.declared.kept.Kept.{Kept}
use Rattle.receiver_end.specs.Decoding.{decoding, piece_of, with_piece}
use Rattle.stream_audit.specs.State.{SpellsSlice, StandsForLog}
use Rattle.stream_audit.proofs.Standing.{judged}
use Rattle.stream_audit.proofs.audit.Audit.packet.Goals as goal

pub returns-in-Ok-clause-stands : goal.returns-in-Ok-clause-stands
returns-in-Ok-clause-stands c = λ past stands.
    let k = c.self.inside.kept in
    let bytes = c.args.bytes.now in
    let out = c.read_packet.new.out in
    let piece = c.in-Ok.piece in
    let q : call.Piece Style Mb = piece_of (slice_in piece out) in
    let mine : StandsForLog k past = subst (λ (x : Kept). StandsForLog x past) (sym c.self.view_is) stands in
    let keeps = mine.keeps c.in_default.is in
    let read : (decoding k.params.format).read bytes ≡ Ok q = ap with_piece c.in-Ok.ensures.exact in
    let sized : length out ≡ mbs_of k.params.format = c.read_packet.ensures.size
    ∙ ap (λ (l : List Mb). length l) c.deref_mut.ensures.value ∙ c.self.invariant.1 in
    let range = c.in-Ok.ensures.range in
    let within : piece.head.first + piece.head.count ≤ mbs_of k.params.format =
    subst (λ (f : Format). piece.head.first + piece.head.count ≤ mbs_of f) range.of-format range.slice.head.within
    in
    let spells : SpellsSlice piece q = record {
      header = refl;
      first = refl;
      count = length-take-le piece.head.count (drop piece.head.first out)
          (omega (arith, sized, length-drop piece.head.first out, within));
    } in
    judged k past mine c.in_default.is c.judge.new.self bytes q c.judge.ensures.params read
    (c.judge.ensures.judged _ (record { bytes = bytes; piece = q }) keeps spells)
