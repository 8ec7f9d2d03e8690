-- What the collector holds tells whether a piece is fresh, a repeat, or overlaps.
use Rattle.std.proofs.Common.{not, refl, ap, ◌∙◌, sym}
use Rattle.std.specs.List.{list_all}
use Rattle.packet_collector.specs.Collected.{header_in}
use Rattle.packet_collector.proofs.Pieces.{no_other, other}
use Rattle.packet_collector.proofs.Places.{all_kept, none_kept, not_both_kept, all_is, none_is, clash}
use Rattle.packet_collector.proofs.collector.Collector.place.Goals as goal

pub returns-then-not-fits-clause-place : goal.returns-then-not-fits-clause-place
returns-then-not-fits-clause-place c = λ first taken so.
    other taken c.args.number (header_in c.args.self.now c.args.number) c.args.piece.now.header
    (so.headers c.args.number c.requires.row)
    (λ fits. clash c.fits.result (c.fits.ensures.1 fits) c.if-not-fits.true)

pub returns-then-all-clause-place : goal.returns-then-all-clause-place
returns-then-all-clause-place c = λ first taken so.
    let self = c.args.self.now in
    let n = c.args.number in
    let p = c.args.piece.now in
    let all = ap (list_all (λ mark. mark)) c.marks_of-marks.ensures ∙ all_kept self n p.head c.requires.head
    ∙ all_is self n p.head c.requires.head first taken so c.requires.row in (
      no_other taken n (header_in self n) p.header (so.headers n c.requires.row) (c.fits.ensures.0 c.if-not-fits.false),
      sym (c.all.ensures ∙ all) ∙ c.if-all.true,
    )

pub returns-then-all-clause-fresh : goal.returns-then-all-clause-fresh
returns-then-all-clause-fresh c =
    let self = c.args.self.now in
    let head = c.args.piece.now.head in
    let all = ap (list_all (λ mark. mark)) c.marks_of-marks.ensures
    ∙ all_kept self c.args.number head c.requires.head in (
      λ e. absurd cc,
      λ is. absurd (not_both_kept self c.args.number head c.requires.head (sym (c.all.ensures ∙ all)
          ∙ c.if-all.true) is.none),
    )

pub returns-then-none-clause-place : goal.returns-then-none-clause-place
returns-then-none-clause-place c = λ first taken so.
    let self = c.args.self.now in
    let n = c.args.number in
    let p = c.args.piece.now in
    let all = ap (list_all (λ mark. mark)) c.marks_of-marks.ensures ∙ all_kept self n p.head c.requires.head
    ∙ all_is self n p.head c.requires.head first taken so c.requires.row in
    let none = ap (list_all not) c.marks_of-marks.ensures ∙ none_kept self n p.head c.requires.head
    ∙ none_is self n p.head c.requires.head first taken so c.requires.row in (
      no_other taken n (header_in self n) p.header (so.headers n c.requires.row) (c.fits.ensures.0 c.if-not-fits.false),
      sym (c.all.ensures ∙ all) ∙ c.if-all.false,
      sym (c.none.ensures ∙ none) ∙ c.if-none.true,
    )

pub returns-then-none-clause-fresh : goal.returns-then-none-clause-fresh
returns-then-none-clause-fresh c =
    let self = c.args.self.now in
    let head = c.args.piece.now.head in
    let none = ap (list_all not) c.marks_of-marks.ensures ∙ none_kept self c.args.number head c.requires.head in (
      λ e. record {
        header = c.fits.ensures.0 c.if-not-fits.false;
        none = sym (c.none.ensures ∙ none)
            ∙ c.if-none.true;
      },
      λ is. refl,
    )

pub returns-clause-place : goal.returns-clause-place
returns-clause-place c = λ first taken so.
    let self = c.args.self.now in
    let n = c.args.number in
    let p = c.args.piece.now in
    let all = ap (list_all (λ mark. mark)) c.marks_of-marks.ensures ∙ all_kept self n p.head c.requires.head
    ∙ all_is self n p.head c.requires.head first taken so c.requires.row in
    let none = ap (list_all not) c.marks_of-marks.ensures ∙ none_kept self n p.head c.requires.head
    ∙ none_is self n p.head c.requires.head first taken so c.requires.row in (
      no_other taken n (header_in self n) p.header (so.headers n c.requires.row) (c.fits.ensures.0 c.if-not-fits.false),
      sym (c.all.ensures ∙ all) ∙ c.if-all.false,
      sym (c.none.ensures ∙ none) ∙ c.if-none.false,
    )

pub returns-clause-fresh : goal.returns-clause-fresh
returns-clause-fresh c =
    let self = c.args.self.now in
    let head = c.args.piece.now.head in
    let none = ap (list_all not) c.marks_of-marks.ensures ∙ none_kept self c.args.number head c.requires.head in
    (λ e. absurd cc, λ is. absurd (clash c.none.result (c.none.ensures ∙ none ∙ is.none) c.if-none.false))
