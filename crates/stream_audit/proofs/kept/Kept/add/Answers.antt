use Rattle.std.proofs.Common.{◌∙◌, ℕ, ◌-◌, ◌∷◌, subst, arith}
use Rattle.packet_collector.specs.Collected.{Collects}
use Rattle.packet_collector.specs.Taken.{Taken}
use Rattle.stream_audit.proofs.Adding.{added}
use Rattle.stream_audit.proofs.kept.Kept.add.Goals as goal

pub returns-clause-fits : goal.returns-clause-fits
returns-clause-fits c =
    let k = c.args.self.now in
    let fits = c.requires.fits in
    let some = c.requires.some in
    let t : Taken = record { number = k.pictures - 1; piece = c.args.piece.now } in
    record {
      params = fits.params;
      format = c.add.ensures.same.format ∙ fits.format;
      row = c.add.ensures.same.many ∙ fits.row;
      few = fits.few;
      taken = t ∷ fits.taken;
      collects = subst (λ (n : ℕ). Collects c.add.new.self (k.pictures - 1) (record {
        number = n;
        piece = c.args.piece.now;
      } ∷ fits.taken)) c.present-number.ensures
          (c.add.ensures.taken (k.pictures - 1) fits.taken fits.collects);
      before_first = λ first. absurd (omega (arith, some, first));
    }

pub returns-clause-keeps : goal.returns-clause-keeps
returns-clause-keeps c = λ items p part keeps is spells header.
    let k = c.args.self.now in
    added c.what_is_taken.ensures k items part c.args.piece.now keeps spells c.add.new.self p is header
    (subst (λ (n : ℕ). Collects c.add.new.self (k.pictures - 1) (record {
      number = n;
      piece = c.args.piece.now;
    } ∷ keeps.taken)) c.present-number.ensures
    (c.add.ensures.taken (k.pictures - 1) keeps.taken keeps.collects))
