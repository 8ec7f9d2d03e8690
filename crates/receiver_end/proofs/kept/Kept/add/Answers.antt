-- The slice's samples are drawn and its macroblocks are taken; all others stay.
use Rattle.std.proofs.Common.{◌≡◌, ℕ, ◌-◌, ◌%◌, List, ◌∷◌, length, get_or, Option, Some, None, refl, ap, sym, ◌∙◌, subst}
use Rattle.packet_collector.specs.Taken.{Taken}
use Rattle.receiver_end.proofs.Adding.{header_now, has_now, header_still, has_still}
use Rattle.receiver_end.proofs.kept.Kept.add.Goals as goal

pub returns-clause-fits : goal.returns-clause-fits
returns-clause-fits c =
    let q = c.requires.fits in
    let t : Taken = record { number = c.args.fresh.number; piece = c.args.piece.now } in
    record {
      params = q.params;
      format = c.draw.ensures.rest.format ∙ q.format;
      slots = ap length c.draw.ensures.rest.numbers ∙ q.slots;
      works = c.draw.ensures.rest.many ∙ q.works;
      collected = c.add.ensures.same.format ∙ q.collected;
      row = c.add.ensures.same.many ∙ q.row;
      few = q.few;
      exact = λ e. (
        (q.exact e).0,
        subst (λ (l : List (Option ℕ)). get_or l ((c.args.self.now.played - 1) % length l) None
            ≡ Some (c.args.self.now.played - 1)) (sym c.draw.ensures.rest.numbers) (q.exact e).1,
      );
      taken = t ∷ q.taken;
      collects = c.add.ensures.taken c.args.self.now.played q.taken q.collects;
    }

pub returns-clause-added : goal.returns-clause-added
returns-clause-added c =
    let q = c.requires.fits in
    let r = c.args.self.now in
    let n = c.args.fresh.number in
    let t : Taken = record { number = n; piece = c.args.piece.now } in
    let after = c.add.ensures.taken r.played q.taken q.collects in (
      refl,
      record {
        store = rw (sym c.work_of-w.ensures) c.draw.ensures.rest;
        whole = rw (sym c.work_of-w.ensures) c.draw.ensures.whole;
        sets = rw (sym c.work_of-w.ensures) c.draw.ensures.sets;
        header = header_now r.params.format r.collector c.add.new.self r.played q.taken t q.collects after
            c.add.ensures.same q.collected n refl c.requires.fresh.1.row;
        has = λ k lt. has_now r.params.format r.collector c.add.new.self r.played q.taken t q.collects after
            c.add.ensures.same q.collected n k refl c.requires.fresh.1.row lt;
        rows = λ m is ne. (
          header_still r.params.format r.collector c.add.new.self r.played q.taken t q.collects after c.add.ensures.same
              q.collected m (λ e. ne (sym e)) is,
          λ k lt. has_still r.params.format r.collector c.add.new.self r.played q.taken t q.collects after
              c.add.ensures.same q.collected m k (λ e. ne (sym e)) is lt,
        );
      },
    )
