-- What of a header the cut depends on.
use Rattle.std.specs.Prelude.{◌≡◌, is_some}
use Rattle.picture_header.specs.declared.header.Header.{Header}
use Rattle.picture_header.specs.Written.{written_bits}

-- headers of one style: their texts have one length, and they may differ in the temporal
-- references, in the rounding bit, in the messages that are asked for, and in the messages in them
pub record HaveOneForm (h g : Header) : Type 0 where
  pub format : h.format ≡ g.format
  pub kind : h.kind ≡ g.kind
  pub named : is_some h.trp ≡ is_some g.trp
  pub quant : h.quant ≡ g.quant
  pub bits : written_bits h ≡ written_bits g
