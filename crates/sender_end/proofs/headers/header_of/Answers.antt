use Rattle.std.proofs.Common.{rules, ◌≡◌, ◌%◌, List, refl, sym, subst, is_some}
use Rattle.picture_header.specs.declared.header.Header.{Header}
use Rattle.picture_header.specs.Ranges.{IsHeader}
use Rattle.call_decoding.specs.Styles.{header_from}
use Rattle.back_messages.specs.declared.message.Message.{Message}
use Rattle.picture_header.specs.Text.{in_places}
use Rattle.call_model.specs.Coding as call
use Rattle.call_decoding.specs.Styles.{Style}
use Rattle.call_encoding.specs.Frames.{carried, style_in, style_with}
use Rattle.sender_end.specs.Headers.{numbered}
use Rattle.sender_end.proofs.Numbering.{numbered_fits}
use Rattle.sender_end.proofs.headers.header_of.Goals as goal

pub returns-clause-in_range : goal.returns-clause-in_range
returns-clause-in_range c =
    let a = c.args in
    let p = a.params.now in
    let some = is_some a.reference in
    let numbers : Style → call.Header Style = λ style. numbered p.clock a.number a.reference style in
    let mine : List Message → Style = λ messages. style_in p.format (in_places messages) some a.depth a.quant in
    let h : Header = record {
      tr = a.number % c.period-period.result;
      format = p.format;
      kind = c.if-is_some.result;
      rounding = a.depth % 2;
      channel = 3;
      trp = c.map.result;
      quant = a.quant;
      back = c.places.result;
      clock = p.clock;
    } in
    let same : h ≡ header_from (numbers (mine a.back.now)) = search rules in
    let carried_all : carried p.clock a.back.now
    ≡ a.back.now = c.carried_as_they_are.ensures.messages p.clock a.back.now c.requires.few c.requires.back in
    let ranged : IsHeader (header_from (numbers (mine (carried p.clock a.back.now)))) =
    c.header_in_range.ensures p a.back.now some a.depth a.quant (numbers (style_with p a.back.now some a.depth a.quant))
    c.requires.quant refl (numbered_fits p a.number a.reference (style_with p a.back.now some a.depth a.quant))
    in
    subst IsHeader (sym same) (subst (λ (l : List Message). IsHeader (header_from (numbers (mine l)))) carried_all
    ranged)
