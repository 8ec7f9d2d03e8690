use Rattle.h263_bits.specs.Reading.{Bits}
use Rattle.h263_bits.specs.Bits.{number}
use Rattle.std.proofs.Common.{◌%◌, ◌∙◌, ap, take}
use Rattle.slice_layer.proofs.Fronts.{last_again}
use Rattle.slice_layer.proofs.writing.SliceWriter.last_bits.Goals as goal

pub returns-clause-bits : goal.returns-clause-bits
returns-clause-bits c =
    let w = c.args.self.now in
    last_again w.bytes.now w.len c.peek-number.result w.inside (c.peek-number.ensures.value
    ∙ ap (λ (b : Bits). number (take (w.len % 8) b.bits)) c.new.ensures.bits)
