-- The bytes before the place are those of the line, up to its newline, the room's end or the video's.
use Rattle.std.proofs.Common.{◌≡◌, ℕ, ◌+◌, ◌-◌, ◌<◌, ◌≤◌, ◌++◌, max, List, length, take, drop, Some, sym, ap, subst, ◌∙◌, arith, length-take, length-drop, length-append, take-take}
use Rattle.std.proofs.lemmas.List.{drop-drop, take-append-le}
use Rattle.h263_outside.specs.declared.desk.Role.TheVariants.{Video}
use Rattle.h263_outside.specs.Lines.{NoNewline}
use Rattle.y4m.specs.Planes.{IsVideoCut}
use Rattle.y4m.proofs.Newlines.{none_in, ends_within, ends_all, goes_on, gone_is, cut_past}
use Rattle.y4m.proofs.Results.{after_any}
use Rattle.y4m.proofs.input.read_line.Goals as goal

pub returns-in-Some-clause-told : goal.returns-in-Some-clause-told
returns-in-Some-clause-told g c = λ left told.
    let least = c.args.least in
    let begun = c.in_ok-begun.begun in
    let at = c.in-Some.at in
    let buf = c.read.new.buf ++ drop least c.args.line.now in
    let h = c.in_ok-begun.ensures.told left told in
    let size : length c.read.new.buf ≡ least = omega (
      arith,
      c.read.auto.buf,
      length-take least c.args.line.now,
      c.requires.size,
    ) in
    let le : begun ≤ least = omega (arith, c.in_ok-begun.ensures.count, length-take least c.args.line.now) in
    let same : take begun buf ≡ take begun left = take-append-le begun c.read.new.buf (drop least c.args.line.now)
    (omega (arith, size, le)) ∙ h.0.same in
    let lt : at < length (take begun buf) = c.in-Some.ensures.within in
    let within : at + 1 ≤ begun = omega (arith, lt, length-take begun buf) in (
      sym (take-take (at + 1) begun buf within)
          ∙ ends_within left (take begun buf) begun (length c.args.line.now) same (omega (arith, le, c.requires.size))
          at (sym c.newline_in.ensures.place ∙ c.in-Some.is) lt,
      h.1 ∙ ap (λ (l : List ℕ). Some l) (gone_is left begun (at + 1) least le
          (λ short. h.0.ends (omega (arith, short, size))) (omega (arith, within, le))),
    )

pub returns-then-begun-least-clause-told : goal.returns-then-begun-least-clause-told
returns-then-begun-least-clause-told g c = λ left told.
    let least = c.args.least in
    let begun = c.in_ok-begun.begun in
    let buf = c.read.new.buf ++ drop least c.args.line.now in
    let h = c.in_ok-begun.ensures.told left told in
    let size : length c.read.new.buf ≡ least = omega (
      arith,
      c.read.auto.buf,
      length-take least c.args.line.now,
      c.requires.size,
    ) in
    let le : begun ≤ least = omega (arith, c.if-begun-least.true) in
    let same : take begun buf ≡ take begun left = take-append-le begun c.read.new.buf (drop least c.args.line.now)
    (omega (arith, size, le)) ∙ h.0.same in
    let none : NoNewline (take begun buf) = none_in (take begun buf) (sym c.newline_in.ensures.place
    ∙ c.in_default.is) in (
      ends_all left (take begun buf) begun (length c.args.line.now) same (omega (arith, le, c.requires.size)) none
          (h.0.ends (omega (arith, c.if-begun-least.true, size))),
      h.1 ∙ ap (λ (l : List ℕ). Some l)
          (gone_is left begun begun least le (λ short. h.0.ends (omega (arith, short, size))) le),
    )

pub returns-in_err-more-clause-cut : goal.returns-in_err-more-clause-cut
returns-in_err-more-clause-cut g c = λ left told.
    let least = c.args.least in
    let begun = c.in_ok-begun.begun in
    let buf = c.read.new.buf ++ drop least c.args.line.now in
    let h = c.in_ok-begun.ensures.told left told in
    let size : length c.read.new.buf ≡ least = omega (
      arith,
      c.read.auto.buf,
      length-take least c.args.line.now,
      c.requires.size,
    ) in
    let all : begun ≡ least = omega (
      arith,
      c.in_ok-begun.ensures.count,
      length-take least c.args.line.now,
      c.if-begun-least.false,
    ) in
    let same : take begun buf ≡ take begun left = take-append-le begun c.read.new.buf (drop least c.args.line.now)
    (omega (arith, size, all)) ∙ h.0.same in
    let none : NoNewline (take begun buf) = none_in (take begun buf) (sym c.newline_in.ensures.place
    ∙ c.in_default.is) in
    let now = (g.D.Desk.outside c.read_rest.new.desk).left Video in
    after_any c.from_residual-in_err-more.result
    (subst (λ (n : ℕ). IsVideoCut n left now) all (cut_past left begun now (subst NoNewline same none)
    (c.in_err-more.ensures.cut (drop begun left) h.1)))

pub returns-clause-told : goal.returns-clause-told
returns-clause-told g c = λ left told.
    let least = c.args.least in
    let begun = c.in_ok-begun.begun in
    let more = c.in_ok-more.more in
    let buf = c.read.new.buf ++ drop least c.args.line.now in
    let h = c.in_ok-begun.ensures.told left told in
    let size : length c.read.new.buf ≡ least = omega (
      arith,
      c.read.auto.buf,
      length-take least c.args.line.now,
      c.requires.size,
    ) in
    let all : begun ≡ least = omega (
      arith,
      c.in_ok-begun.ensures.count,
      length-take least c.args.line.now,
      c.if-begun-least.false,
    ) in
    let same : take begun buf ≡ take begun left = take-append-le begun c.read.new.buf (drop least c.args.line.now)
    (omega (arith, size, all)) ∙ h.0.same in
    let none : NoNewline (take begun buf) = none_in (take begun buf) (sym c.newline_in.ensures.place
    ∙ c.in_default.is) in
    let long : length buf ≡ length c.args.line.now = omega (
      arith,
      length-append c.read.new.buf (drop least c.args.line.now),
      length-drop least c.args.line.now,
      size,
      c.requires.size,
    ) in
    let rest = c.in_ok-more.ensures.told (drop begun left) h.1 in
    let part : length (take (length buf - least) (drop least buf)) ≡ length c.args.line.now - begun = omega (
      arith,
      length-take (length buf - least) (drop least buf),
      length-drop least buf,
      long,
      all,
    ) in
    let within : more ≤ length c.read_rest.new.line = omega (
      arith,
      c.in_ok-more.ensures.within,
      c.read_rest.auto.line,
    ) in
    let gone : begun + more ≡ max (least + more) least = omega (arith, all) in (
      goes_on buf left begun (length c.args.line.now) same (omega (arith, all, c.requires.size)) none
          c.read_rest.new.line _ least more _ all (omega (arith, all, long, c.requires.size)) within part rest.0,
      rest.1 ∙ ap (λ (l : List ℕ). Some l) (drop-drop more begun left ∙ ap (λ (n : ℕ). drop n left) gone),
    )
