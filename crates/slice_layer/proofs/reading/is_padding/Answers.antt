use Rattle.std.proofs.Common.{◌∙◌, ap, ℕ, nat_eq}
use Rattle.slice_layer.proofs.Padding.{few_zeros}
use Rattle.slice_layer.proofs.reading.is_padding.Goals as goal

pub returns : goal.returns
returns c = ap (λ (n : ℕ). nat_eq n 0) c.peek.ensures.value
    ∙ few_zeros c.rest-rest.result c.args.reader.now.bits c.rest-rest.ensures c.if-rest-ge8.false
