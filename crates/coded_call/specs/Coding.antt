-- The coding of a call: what its receiver decodes by, and what its sender encodes by.
use Rattle.h263_bits.specs.declared.fault.Fault.{Fault}
use Rattle.h263_types.specs.declared.blocks.Mb.{Mb}
use Rattle.h263_types.specs.declared.params.Params.{Params}
use Rattle.h263_planes.specs.Picture.{Picture}
use Rattle.back_messages.specs.declared.message.MessageFault.{MessageFault}
use Rattle.call_model.specs.Coding.{Coding}
use Rattle.call_decoding.specs.Styles.{Style}
use Rattle.call_encoding.specs.Encoding.{encoding}
use Rattle.call_encoding.specs.Frames.{Frame}
use Rattle.receiver_end.specs.Decoding.{decoding}

abbrev pub coding : Params → Coding Frame Style Mb Picture Fault MessageFault
coding p = record { decoding = decoding p.format; encoding = encoding p }
