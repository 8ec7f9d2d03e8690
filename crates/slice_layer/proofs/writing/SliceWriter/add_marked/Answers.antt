-- The macroblock's text is put where it fits, with the predictor that the slice has so far.
use Rattle.std.proofs.Common.{◌≡◌, ℕ, ◌+◌, ◌/◌, ◌%◌, Bool, List, ◌++◌, length, take, sym, ap, subst, ◌∙◌, arith}
use Rattle.std.proofs.lemmas.List.{length-append, length-take}
use Rattle.h263_bits.specs.Bits.{spelled}
use Rattle.h263_bits.proofs.SyntaxLaws.{length-spelled}
use Rattle.macroblock_layer.specs.Written.{mb_text}
use Rattle.slice_layer.specs.Written.{slice_text, bytes_filled_by, IsPaddedFront}
use Rattle.slice_layer.specs.Writer.{slice_kind, quant_of, bytes_lent}
use Rattle.slice_layer.proofs.Adding.{no_text, next_text, answer_fits, answer_full}
use Rattle.slice_layer.proofs.Openings.{opening_short}
use Rattle.slice_layer.proofs.Fronts.{grown}
use Rattle.slice_layer.proofs.Holding.{next_is, next_length, held}
use Rattle.slice_layer.proofs.writing.SliceWriter.add_marked.Goals as goal

pub returns-then-self-at-clause-answer : goal.returns-then-self-at-clause-answer
returns-then-self-at-clause-answer c h begins first mbs holds =
    let len = next_length c.args.self.now h begins first mbs c.args.mb.now.mb c.predictor-predictor.result holds
    c.predictor-predictor.ensures in
    answer_full (length (bytes_lent c.args.self.now)) _ (omega (
      arith,
      len,
      c.write_apart-len.ensures.len,
      c.if-self-at.true,
    ))

pub returns-then-self-at-clause-first : goal.returns-then-self-at-clause-first
returns-then-self-at-clause-first c h begins first is room holds =
    absurd (omega (
      arith,
      holds.len,
      ap length (no_text h begins first),
      opening_short c.in_a_syntax.ensures h begins first is,
      room,
      c.write_apart-len.ensures.short,
      c.if-self-at.true,
    ))

pub returns-clause-answer : goal.returns-clause-answer
returns-clause-answer c h begins first mbs holds =
    let len = next_length c.args.self.now h begins first mbs c.args.mb.now.mb c.predictor-predictor.result holds
    c.predictor-predictor.ensures in
    answer_fits (length (bytes_lent c.args.self.now)) _ (omega (
      arith,
      len,
      c.write_apart-len.ensures.len,
      c.if-self-at.false,
    ))

pub returns-clause-fits : goal.returns-clause-fits
returns-clause-fits c h begins first mbs holds fits =
    let w = c.args.self.now in
    let m = c.args.mb.now.mb in
    let apart = c.write_apart-len.new.bytes in
    let front = spelled c.last_bits-last.result.count c.last_bits-last.result.number in
    let more = mb_text (slice_kind w) (quant_of w) c.predictor-predictor.result m in
    let size = (c.write_apart-len.result + 7) / 8 in
    let few : length front ≡ w.len % 8 = length-spelled c.last_bits-last.result.count c.last_bits-last.result.number
    ∙ c.last_bits-last.ensures.count in
    let bytes : size ≡ bytes_filled_by (front ++ more) = omega (
      arith,
      length-append front more,
      few,
      c.write_apart-len.ensures.len,
    ) in
    let long : length (take size apart) ≡ size = omega (
      arith,
      length-take size apart,
      c.write_apart-len.array_long,
      c.write_apart-len.ensures.short,
    ) in
    let pasted = ap (λ (k : ℕ). take (w.len / 8 + k) c.paste.new.bytes) (sym long) ∙ c.paste.ensures.front in
    let text : IsPaddedFront (slice_text h begins first mbs ++ more) c.paste.new.bytes =
    grown (bytes_lent w) c.paste.new.bytes apart (slice_text h begins first mbs) front more w.len size holds.len
    w.inside
    holds.text few c.last_bits-last.ensures.bits bytes c.write_apart-len.ensures.text pasted in
    let next = next_is w h begins first mbs m c.predictor-predictor.result holds c.predictor-predictor.ensures in
    let written : IsPaddedFront (slice_text h begins first mbs ++ next_text h first mbs m) c.paste.new.bytes =
    subst (λ (t : List Bool). IsPaddedFront (slice_text h begins first mbs ++ t) c.paste.new.bytes) next text in
    held w c.keep.new.self h begins first mbs m holds
    (subst (λ (l : List ℕ). IsPaddedFront (slice_text h begins first mbs
    ++ next_text h first mbs m) l) (sym c.keep.ensures.bytes) written)
    (omega (arith, c.keep.ensures.len, c.write_apart-len.ensures.len, ap length next))
    (record {
      kind = c.keep.ensures.slice.kind;
      format = c.keep.ensures.slice.format;
      from = c.keep.ensures.slice.first;
      next = c.keep.ensures.next;
      quant = c.keep.ensures.quant;
      vectors = c.keep.ensures.vectors;
    })
