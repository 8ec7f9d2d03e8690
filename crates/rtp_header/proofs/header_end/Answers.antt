use Rattle.std.proofs.Common.{◌≡◌, ℕ, ◌*◌, ◌+◌, ◌-◌, ◌%◌, ◌/◌, length, get_or, drop, Some, sym, ap, ◌∙◌, arith}
use Rattle.std.proofs.lemmas.Bool.{ne_eqb}
use Rattle.byteorder.specs.Endian.{big_number}
use Rattle.byteorder.specs.Numbers.{big_from-take}
use Rattle.rtp_header.proofs.Heads.{opened_is, head_of, after_fixed_cut, after_fixed_plain, after_fixed_extended, after_fixed_words_cut, after_fixed_words}
use Rattle.rtp_header.proofs.header_end.Goals as goal

pub returns-then-bytes-sources_end-clause-end : goal.returns-then-bytes-sources_end-clause-end
returns-then-bytes-sources_end-clause-end c = λ h b e.
    let o = opened_is c.args.bytes.now h b c.requires.fixed (λ i. omega (arith, c.type_inv.bytes i)) e in
    rw (o.head, o.rest) (sym (after_fixed_cut (head_of c.args.bytes.now) c.args.bytes.now c.requires.fixed
    (omega arith)))

pub returns-then-bytes-eq0-clause-end : goal.returns-then-bytes-eq0-clause-end
returns-then-bytes-eq0-clause-end c = λ h b e.
    let o = opened_is c.args.bytes.now h b c.requires.fixed (λ i. omega (arith, c.type_inv.bytes i)) e in
    rw (o.head, o.rest) (sym (after_fixed_plain (head_of c.args.bytes.now) c.args.bytes.now (omega arith)
    (omega arith)))

pub returns-then-bytes-sources_end-2-clause-end : goal.returns-then-bytes-sources_end-2-clause-end
returns-then-bytes-sources_end-2-clause-end c = λ h b e.
    let o = opened_is c.args.bytes.now h b c.requires.fixed (λ i. omega (arith, c.type_inv.bytes i)) e in
    let set = ne_eqb (get_or c.args.bytes.now 0 0 / 16 % 2) 0 (λ same. omega (arith, same)) in
    rw (o.head, o.rest) (sym (after_fixed_extended (head_of c.args.bytes.now) c.args.bytes.now (omega arith) set
    (omega arith)))

pub returns-then-bytes-end-clause-end : goal.returns-then-bytes-end-clause-end
returns-then-bytes-end-clause-end c = λ h b e.
    let bytes = c.args.bytes.now in
    let o = opened_is bytes h b c.requires.fixed (λ i. omega (arith, c.type_inv.bytes i)) e in
    let set = ne_eqb (get_or bytes 0 0 / 16 % 2) 0 (λ same. omega (arith, same)) in
    let k = 12 + 4 * (get_or bytes 0 0 % 16) + 2 in
    let words : c.read_u16-words.result ≡ big_number 2 (drop k bytes) = c.read_u16-words.ensures
    ∙ big_from-take 0 2 (length bytes - k) (drop k bytes) (omega arith) in
    rw (o.head, o.rest) (sym (after_fixed_words_cut (head_of bytes) bytes (omega arith) set
    (λ i. omega (arith, c.type_inv.bytes i)) (omega (arith, words))))

pub returns-clause-end : goal.returns-clause-end
returns-clause-end c = λ h b e.
    let bytes = c.args.bytes.now in
    let o = opened_is bytes h b c.requires.fixed (λ i. omega (arith, c.type_inv.bytes i)) e in
    let set = ne_eqb (get_or bytes 0 0 / 16 % 2) 0 (λ same. omega (arith, same)) in
    let k = 12 + 4 * (get_or bytes 0 0 % 16) + 2 in
    let words : c.read_u16-words.result ≡ big_number 2 (drop k bytes) = c.read_u16-words.ensures
    ∙ big_from-take 0 2 (length bytes - k) (drop k bytes) (omega arith) in
    rw (o.head, o.rest) (ap (λ (n : ℕ). Some (12 + 4 * (get_or bytes 0 0 % 16) + 4 + 4 * n)) words
    ∙ sym (after_fixed_words (head_of bytes) bytes (omega arith) set (λ i. omega (arith, c.type_inv.bytes i))
    (omega (arith, words))))
