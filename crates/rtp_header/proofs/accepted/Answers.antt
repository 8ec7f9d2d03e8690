use Rattle.std.proofs.Common.{◌≡◌, ◌-◌, ◌%◌, length, drop, get_or, eq-eqb, refl, ◌∙◌, arith}
use Rattle.std.proofs.lemmas.Bool.{ne_eqb}
use Rattle.byteorder.specs.Endian.{big_number}
use Rattle.byteorder.specs.Numbers.{big_from-take}
use Rattle.rtp_header.proofs.Heads.{opened_is}
use Rattle.rtp_header.proofs.accepted.Goals as goal

pub returns-then-bytes-ne-PAYLOAD_TYPE : goal.returns-then-bytes-ne-PAYLOAD_TYPE
returns-then-bytes-ne-PAYLOAD_TYPE c = λ h b e.
    let o = opened_is c.args.bytes.now h b c.requires (λ i. omega (arith, c.type_inv.bytes i)) e in
    rw (c.at.ensures, o.head, ne_eqb (get_or c.args.bytes.now 1 0 % 128) 96 (λ same. omega (arith, same))) refl

pub returns-then-read_u32-ne-SOURCE : goal.returns-then-read_u32-ne-SOURCE
returns-then-read_u32-ne-SOURCE c = λ h b e.
    let bytes = c.args.bytes.now in
    let o = opened_is bytes h b c.requires (λ i. omega (arith, c.type_inv.bytes i)) e in
    let source : c.read_u32.result ≡ big_number 4 (drop 8 bytes) = c.read_u32.ensures
    ∙ big_from-take 0 4 (length bytes - 8) (drop 8 bytes) (omega arith) in
    rw (
      c.at-then-read_u32-ne-SOURCE.ensures,
      o.head,
      eq-eqb (get_or bytes 1 0 % 128) 96 (omega arith),
      ne_eqb (big_number 4 (drop 8 bytes)) 1211250227 (λ same. omega (arith, source, same)),
    ) refl

pub returns : goal.returns
returns c = λ h b e.
    let bytes = c.args.bytes.now in
    let o = opened_is bytes h b c.requires (λ i. omega (arith, c.type_inv.bytes i)) e in
    let source : c.read_u32.result ≡ big_number 4 (drop 8 bytes) = c.read_u32.ensures
    ∙ big_from-take 0 4 (length bytes - 8) (drop 8 bytes) (omega arith) in
    let sequence : c.read_u16.result ≡ big_number 2 (drop 2 bytes) = c.read_u16.ensures
    ∙ big_from-take 0 2 (length bytes - 2) (drop 2 bytes) (omega arith) in
    let timestamp : c.read_u32-2.result ≡ big_number 4 (drop 4 bytes) = c.read_u32-2.ensures
    ∙ big_from-take 0 4 (length bytes - 4) (drop 4 bytes) (omega arith) in
    rw (
      o.head,
      eq-eqb (get_or bytes 1 0 % 128) 96 (omega arith),
      eq-eqb (big_number 4 (drop 8 bytes)) 1211250227 (omega (arith, source)),
      sequence,
      timestamp,
    ) refl
