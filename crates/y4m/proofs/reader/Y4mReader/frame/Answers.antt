-- A frame, the end of the video, and each fault at its byte, as the definition of a video has them.
use Rattle.std.proofs.Common.{◌≡◌, ◌<◌, ◌+◌, ℕ, max, [], List, length, take, drop, Some, Ok, Err, refl, sym, ap, ◌∙◌, arith, length-take, None}
use Rattle.std.proofs.Math.Seq.{drop-nil}
use Rattle.std.proofs.lemmas.List.{drop-drop}
use Rattle.h263_types.specs.Sizes.{size_of_picture}
use Rattle.y4m.specs.declared.fault.Y4mFault.{Y4mFault}
use Rattle.y4m.specs.Place.{Y4mPlace}
use Rattle.y4m.specs.Frame.{frame_size, next_frame, frame_line, line_stop}
use Rattle.y4m.proofs.Cuts.{frame_least}
use Rattle.y4m.proofs.Frames.{no_line, line_refused, within, planes_short, planes_there, size_is, next_is, next_none}
use Rattle.y4m.proofs.Readers.{stopped, frame_stopped, frame_refused}
use Rattle.y4m.proofs.reader.Y4mReader.frame.Goals as goal

pub returns-then-len-eq0-clause-gives : goal.returns-then-len-eq0-clause-gives
returns-then-len-eq0-clause-gives g c = λ rest told.
    let h = c.in_ok-len.ensures.told rest told in
    let len = c.in_ok-len.len in
    let size : length (take len c.read_line.new.line) ≡ len = omega (
      arith,
      length-take len c.read_line.new.line,
      c.in_ok-len.ensures.within,
      c.read_line.auto.line,
    ) in
    let none : rest ≡ [] = no_line rest (sym (ap (λ (l : List ℕ). length l) h.0) ∙ size ∙ c.if-len-eq0.true) in
    (none, h.1 ∙ ap (λ (l : List ℕ). Some l) (ap (λ (l : List ℕ). drop (max len 6) l) none ∙ drop-nil (max len 6)))

pub returns-then-self-eq0-clause-gives : goal.returns-then-self-eq0-clause-gives
returns-then-self-eq0-clause-gives g c = λ rest told.
    rw (← c.self.view_is) (
    let self : Y4mPlace = record { format = c.self.inside.format; at = c.self.inside.at; more = c.self.inside.more } in
    let h = c.in_ok-len.ensures.told rest told in
    let len = c.in_ok-len.len in
    let size : length (take len c.read_line.new.line) ≡ len = omega (
      arith,
      length-take len c.read_line.new.line,
      c.in_ok-len.ensures.within,
      c.read_line.auto.line,
    ) in (
      omega (arith, within self.format self.at rest (take len c.read_line.new.line) len h.0 size, c.if-len-eq0.false),
      next_none self.more self.format self.at rest c.if-self-eq0.true,
    )
    )

pub returns-in_err-check_line-clause-gives : goal.returns-in_err-check_line-clause-gives
returns-in_err-check_line-clause-gives g c = λ rest told.
    rw (← c.self.view_is) (
    let self : Y4mPlace = record { format = c.self.inside.format; at = c.self.inside.at; more = c.self.inside.more } in
    let h = c.in_ok-len.ensures.told rest told in
    let len = c.in_ok-len.len in
    let line = take len c.read_line.new.line in
    let size : length line ≡ len = omega (
      arith,
      length-take len c.read_line.new.line,
      c.in_ok-len.ensures.within,
      c.read_line.auto.line,
    ) in
    let e = c.in_err-check_line.ensures in
    frame_refused self self rest c.args.out.now _ c.from_residual-in_err-check_line.result c.in_err-check_line.field-0.0
    c.from_residual-in_err-check_line.ensures.1
    (omega (arith, within self.format self.at rest line len h.0 size, c.if-len-eq0.false))
    (
    next_is self.more self.format self.at rest c.if-self-eq0.false
    ∙ line_refused self.format self.at rest line (length line) h.0 refl e.0 e.1
    ∙ ap (λ (f : Y4mFault). Err f) (sym e.2)
    )
    )

pub returns-in_err-read_planes-clause-gives : goal.returns-in_err-read_planes-clause-gives
returns-in_err-read_planes-clause-gives g c = λ rest told.
    rw (← c.self.view_is) (
    let self : Y4mPlace = record { format = c.self.inside.format; at = c.self.inside.at; more = c.self.inside.more } in
    let h = c.in_ok-len.ensures.told rest told in
    let len = c.in_ok-len.len in
    let line = take len c.read_line.new.line in
    let size : length line ≡ len = omega (
      arith,
      length-take len c.read_line.new.line,
      c.in_ok-len.ensures.within,
      c.read_line.auto.line,
    ) in
    let out : length c.read_planes.new.out ≡ size_of_picture self.format = c.read_planes.auto.out ∙ c.requires.size
    ∙ ap (λ (p : Y4mPlace). size_of_picture p.format) (sym c.self.view_is) in
    let some : 0 < length rest = omega (arith, within self.format self.at rest line len h.0 size, c.if-len-eq0.false) in
    let line_size : len ≡ length (frame_line rest) = sym size ∙ ap (λ (l : List ℕ). length l) h.0 in
    let whole : line_stop (frame_line rest) ≡ None = ap line_stop (sym h.0) ∙ c.in_ok-check_line.ensures in
    let most : max len 6 ≡ len = omega (arith, frame_least rest whole, line_size) in
    stopped self self rest c.read_planes.new.out len (self.at + len) _ some out line_size whole
    (λ short. next_is self.more self.format self.at rest c.if-self-eq0.false
    ∙ planes_short self.format self.at rest line len h.0 size c.in_ok-check_line.ensures
    (omega (arith, short, out)))
    c.from_residual-in_err-read_planes.result c.in_err-read_planes.field-0.0
    c.from_residual-in_err-read_planes.ensures.1
    (c.in_err-read_planes.ensures.gives (drop len rest) (h.1 ∙ ap (λ (n : ℕ). Some (drop n rest)) most))
    )

pub returns-clause-gives : goal.returns-clause-gives
returns-clause-gives g c = λ rest told.
    rw (← c.self.view_is) (
    let self : Y4mPlace = record { format = c.self.inside.format; at = c.self.inside.at; more = c.self.inside.more } in
    let h = c.in_ok-len.ensures.told rest told in
    let len = c.in_ok-len.len in
    let line = take len c.read_line.new.line in
    let size : length line ≡ len = omega (
      arith,
      length-take len c.read_line.new.line,
      c.in_ok-len.ensures.within,
      c.read_line.auto.line,
    ) in
    let out : length c.read_planes.new.out ≡ size_of_picture self.format = c.read_planes.auto.out ∙ c.requires.size
    ∙ ap (λ (p : Y4mPlace). size_of_picture p.format) (sym c.self.view_is) in
    let line_size : len ≡ length (frame_line rest) = sym size ∙ ap (λ (l : List ℕ). length l) h.0 in
    let whole : line_stop (frame_line rest) ≡ None = ap line_stop (sym h.0) ∙ c.in_ok-check_line.ensures in
    let most : max len 6 ≡ len = omega (arith, frame_least rest whole, line_size) in
    let planes = c.in_ok-read_planes.ensures.gives (drop len rest) (h.1 ∙ ap (λ (n : ℕ). Some (drop n rest)) most) in
    let all : length c.read_planes.new.out + len ≡ frame_size self.format rest = omega (
      arith,
      size_is self.format self.at rest line len h.0 size,
      out,
    ) in
    let after : len + length c.read_planes.new.out ≡ frame_size self.format rest = omega (arith, all) in
    let there : next_frame self.more self.format self.at rest
    ≡ Ok (take (size_of_picture self.format) (drop len rest)) =
    next_is self.more self.format self.at rest c.if-self-eq0.false
    ∙ planes_there self.format self.at rest line len h.0 size c.in_ok-check_line.ensures (omega (
      arith,
      planes.0,
      out,
    )) in (
      omega (arith, within self.format self.at rest line len h.0 size, c.if-len-eq0.false),
      there ∙ ap (λ (n : ℕ). Ok (take n (drop len rest))) (sym out) ∙ ap (λ (l : List ℕ). Ok l) (sym planes.1),
      omega (arith, all),
      planes.2 ∙ ap (λ (l : List ℕ). Some l) (drop-drop (length c.read_planes.new.out) len rest)
          ∙ ap (λ (n : ℕ). Some (drop n rest)) after,
    )
    )

pub returns-in_err-len-clause-gives : goal.returns-in_err-len-clause-gives
returns-in_err-len-clause-gives g c = λ rest told.
    frame_stopped c.args.self.now c.args.self.now rest _ _ c.from_residual.result c.in_err-len.field-0.0
    c.from_residual.ensures.1 c.in_err-len.ensures.err (c.in_err-len.ensures.cut rest told)
