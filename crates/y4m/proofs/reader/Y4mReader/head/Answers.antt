use Rattle.std.proofs.Common.{◌≡◌, ℕ, max, List, length, drop, Some, sym, ap, ◌∙◌, arith, length-take}
use Rattle.y4m.specs.Head.{format_of_line, head_size}
use Rattle.y4m.proofs.Cuts.{head_least}
use Rattle.y4m.proofs.Readers.{head_stopped, head_refused}
use Rattle.y4m.proofs.reader.Y4mReader.head.Goals as goal

pub returns-clause-gives : goal.returns-clause-gives
returns-clause-gives g c = λ video told.
    let h = c.in_ok-len.ensures.told video told in
    let len = c.in_ok-len.len in
    let size : len ≡ head_size video = omega (
      arith,
      ap (λ (l : List ℕ). length l) h.0,
      length-take len c.read_line.new.line,
      c.in_ok-len.ensures.within,
      c.read_line.auto.line,
    ) in
    let is = ap format_of_line (sym h.0) ∙ sym c.in_ok-format.ensures in
    let most : max len 10 ≡ head_size video = omega (arith, size, head_least video _ is) in
    (is, size, h.1 ∙ ap (λ (n : ℕ). Some (drop n video)) most)

pub returns-in_err-format-clause-gives : goal.returns-in_err-format-clause-gives
returns-in_err-format-clause-gives g c = λ video told.
    let h = c.in_ok-len.ensures.told video told in
    head_refused video _ c.from_residual-in_err-format.result c.in_err-format.field-0.0
    c.from_residual-in_err-format.ensures.1 (ap format_of_line (sym h.0) ∙ sym c.in_err-format.ensures)

pub returns-in_err-len-clause-gives : goal.returns-in_err-len-clause-gives
returns-in_err-len-clause-gives g c = λ video told.
    head_stopped video _ c.from_residual.result c.in_err-len.field-0.0 c.from_residual.ensures.1
    c.in_err-len.ensures.err (c.in_err-len.ensures.cut video told)
