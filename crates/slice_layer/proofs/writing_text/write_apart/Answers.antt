use Rattle.std.proofs.Common.{◌≡◌, ℕ, ◌+◌, Bool, List, ◌++◌, length, ap, ◌∙◌, arith}
use Rattle.std.proofs.lemmas.List.{length-append}
use Rattle.h263_bits.specs.Bits.{spelled}
use Rattle.h263_bits.specs.Written.{to_byte, len_of, written}
use Rattle.h263_bits.proofs.SyntaxLaws.{length-spelled}
use Rattle.macroblock_layer.specs.Written.{mb_text}
use Rattle.slice_layer.specs.Written.{padded}
use Rattle.slice_layer.proofs.Fronts.{front_is}
use Rattle.slice_layer.proofs.writing_text.write_apart.Goals as goal

pub returns-clause-text : goal.returns-clause-text
returns-clause-text c =
    let front = spelled c.args.last.count c.args.last.number in
    let text = mb_text c.args.kind c.args.quant c.args.predictor c.args.mb.now.mb in
    let whole = front ++ text in
    let first = c.put.ensures.bits.text ∙ ap (λ (t : List Bool). t ++ front) c.new-writer.ensures.none in
    let second = c.write_marked.ensures.bits.text ∙ ap (λ (t : List Bool). t ++ text) first in
    let len : length whole ≡ c.args.last.count + length text = omega (
      arith,
      length-append front text,
      length-spelled c.args.last.count c.args.last.number,
    ) in
    let all : len_of c.write_marked.new.writer ≡ length whole = omega (
      arith,
      len,
      c.write_marked.ensures.len,
      c.put.ensures.len,
      c.new-writer.ensures.len,
    ) in
    let pad : List Bool = spelled (to_byte (len_of c.write_marked.new.writer)) 0 in
    let text_is : written c.pad.new.writer ≡ padded whole =
    c.pad.ensures.bits.text ∙ ap (λ (t : List Bool). t ++ pad) second
    ∙ ap (λ (k : ℕ). whole ++ spelled (to_byte k) 0) all in
    let end : len_of c.pad.new.writer ≡ length whole + to_byte (length whole) = c.pad.ensures.len
    ∙ ap (λ (k : ℕ). k + to_byte k) all in
    front_is whole c.pad.new.writer.bytes.now c.pad.new.writer.len text_is end c.pad.new.writer.within
