use Rattle.std.proofs.Common.{ℕ, ◌+◌, ◌<◌, List, get_or, ap, sym, ◌∙◌, arith}
use Rattle.h263_bits.specs.Bits.{bits_of, number}
use Rattle.h263_bits.proofs.BitLists.{number-eight, eight_from}
use Rattle.h263_bits.proofs.reader.eight_bytes.Goals as goal

pub returns : goal.returns
returns c =
    let bytes = c.args.bytes.now in
    let f = c.args.first in
    let byte : (k : ℕ) → get_or c.args.bytes.now k 0 < 256 = λ k. omega (arith, c.type_inv.bytes k) in
    c.from_be_bytes.ensures
    ∙ number-eight (get_or bytes f 0) (get_or bytes (f + 1) 0) (get_or bytes (f + 2) 0) (get_or bytes (f + 3) 0)
    (get_or bytes (f + 4) 0) (get_or bytes (f + 5) 0) (get_or bytes (f + 6) 0) (get_or bytes (f + 7) 0)
    (byte f) (byte (f + 1)) (byte (f + 2)) (byte (f + 3)) (byte (f + 4)) (byte (f + 5)) (byte (f + 6)) (byte (f + 7))
    ∙ ap (λ (t : List ℕ). number (bits_of t)) (sym (eight_from bytes f c.requires))
