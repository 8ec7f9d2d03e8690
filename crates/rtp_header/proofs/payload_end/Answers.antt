use Rattle.std.proofs.Common.{◌-◌, ◌%◌, ◌/◌, eq-eqb, get_or, refl, arith, length}
use Rattle.std.proofs.lemmas.Bool.{ne_eqb, lt-ltb, le-ltb}
use Rattle.rtp_header.proofs.Heads.{opened_is}
use Rattle.rtp_header.proofs.payload_end.Goals as goal
use Rattle.rtp_header.proofs.payload_end.Goals.{then-count-eq0-via-then-count-eq0, then-count-eq0-via-else-count-eq0+then-len-from}

pub returns-then-bytes-eq0 : goal.returns-then-bytes-eq0
returns-then-bytes-eq0 c = λ h b e.
    let o = opened_is c.args.bytes.now h b c.requires.fixed (λ i. omega (arith, c.type_inv.bytes i)) e in
    rw (o.head, eq-eqb (get_or c.args.bytes.now 0 0 / 32 % 2) 0 (omega arith)) refl

pub returns-then-count-eq0 : goal.returns-then-count-eq0
returns-then-count-eq0 c = λ h b e.
    let o = opened_is c.args.bytes.now h b c.requires.fixed (λ i. omega (arith, c.type_inv.bytes i)) e in
    let set = ne_eqb (get_or c.args.bytes.now 0 0 / 32 % 2) 0 (λ same. omega (arith, same)) in
    let last = get_or c.args.bytes.now (length c.args.bytes.now - 1) 0 in
    elim c.then-count-eq0.branch [
      | then-count-eq0-via-then-count-eq0 w ↦ rw (o.head, set, eq-eqb last 0 (omega arith)) refl
      | then-count-eq0-via-else-count-eq0+then-len-from w ↦ rw (
        o.head,
        set,
        ne_eqb last 0 (λ same. omega (arith, same)),
        lt-ltb (length c.args.bytes.now - c.args.from) last
            (omega arith),
      ) refl
    ]

pub returns : goal.returns
returns c = λ h b e.
    let o = opened_is c.args.bytes.now h b c.requires.fixed (λ i. omega (arith, c.type_inv.bytes i)) e in
    let set = ne_eqb (get_or c.args.bytes.now 0 0 / 32 % 2) 0 (λ same. omega (arith, same)) in
    let last = get_or c.args.bytes.now (length c.args.bytes.now - 1) 0 in
    rw (
      o.head,
      set,
      ne_eqb last 0 (λ same. omega (arith, same)),
      le-ltb (length c.args.bytes.now - c.args.from) last
          (omega arith),
    ) refl
