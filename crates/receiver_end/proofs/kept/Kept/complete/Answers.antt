use Rattle.std.proofs.Common.{refl, sym, ◌∙◌}
use Rattle.receiver_end.proofs.Completing.{all_marked, fits_whole}
use Rattle.receiver_end.proofs.kept.Kept.complete.Goals as goal

pub returns-then-not-whole-clause-part : goal.returns-then-not-whole-clause-part
returns-then-not-whole-clause-part c =
    let ok = c.requires.fits in (
      all_marked c.args.self.now c.args.number ok c.requires.row
          ∙ sym (c.whole.ensures c.args.self.now.played ok.taken ok.collects) ∙ c.if-not-whole.true,
      refl,
    )

pub returns-clause-fits : goal.returns-clause-fits
returns-clause-fits c = fits_whole c.searches.ensures.rests c.args.self.now c.keep.new.self c.args.number
    c.requires.fits c.requires.row (rw (sym c.work_of.ensures) c.keep.ensures)

pub returns-clause-whole : goal.returns-clause-whole
returns-clause-whole c =
    let ok = c.requires.fits in (
      all_marked c.args.self.now c.args.number ok c.requires.row
          ∙ sym (c.whole.ensures c.args.self.now.played ok.taken ok.collects) ∙ c.if-not-whole.false,
      c.ack-said.ensures,
    )
