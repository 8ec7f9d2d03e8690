use Rattle.std.proofs.Common.{◌≡◌, ℕ, ◌+◌, ◌*◌, ◌%◌, ◌^◌, ◌<◌, ap, subst, sym, ◌∙◌, arith}
use Rattle.h263_bits.specs.Bits.{spelled}
use Rattle.back_messages.specs.Text.{urf_of}
use Rattle.back_messages.proofs.Codes.{code_from, code_text, code_below, urf_low}
use Rattle.back_messages.proofs.writing.code_from.Goals as goal

-- each part fits its type
pub fits : (type urf tr rtr u : ℕ) → type < 4 → u < 2 → tr < 2 ^ 10 → urf ≡ u
    → type * 2 ^ 22 % 2 ^ 32 + urf * 2 ^ 21 % 2 ^ 32 + tr * 2 ^ 11 % 2 ^ 32 + 2 ^ 10 + rtr ≡ code_from type u tr rtr
fits type urf tr rtr u k l t e = omega arith

pub returns-clause-text : goal.returns-clause-text
returns-clause-text c =
    let u = urf_of c.args.marks in
    ap (spelled 24) (fits c.args.kind c.urf.result c.args.tr c.args.rtr u c.requires.kind
    (urf_low c.args.marks) c.requires.tr c.urf.ensures)
    ∙ code_text c.args.kind u c.args.tr c.args.rtr c.requires.kind (urf_low c.args.marks) c.requires.tr c.requires.rtr

pub returns-clause-below : goal.returns-clause-below
returns-clause-below c =
    let u = urf_of c.args.marks in
    let P : ℕ → Type 0 = λ n. n < 2 ^ 24 in
    subst P (sym (fits c.args.kind c.urf.result c.args.tr c.args.rtr u c.requires.kind
    (urf_low c.args.marks) c.requires.tr c.urf.ensures))
    (code_below c.args.kind u c.args.tr c.args.rtr c.requires.kind (urf_low c.args.marks) c.requires.tr c.requires.rtr)
