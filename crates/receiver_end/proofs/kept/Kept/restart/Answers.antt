use Rattle.std.proofs.Common.{sym, ◌∙◌}
use Rattle.call_decoding.specs.Rules.{rules_of}
use Rattle.receiver_end.specs.Decoding.{decoding}
use Rattle.receiver_end.proofs.News.{emptied, last_inside, is_alone, fits_alone}
use Rattle.receiver_end.proofs.kept.Kept.restart.Goals as goal

pub clear-requires-2-clause-inside : goal.clear-requires-2-clause-inside
clear-requires-2-clause-inside c =
    let r = c.args.self.now in let p = r.params in let fits = c.requires.fits in
    rw c.last_work-last.ensures (last_inside p c.args.number c.clear.new.self (emptied p r.store fits.slots fits.works
    c.clear.new.self fits.format c.clear.ensures.empty))

pub returns-clause-fits : goal.returns-clause-fits
returns-clause-fits c =
    let r = c.args.self.now in let p = r.params in let fits = c.requires.fits in
    let empty = emptied p r.store fits.slots fits.works c.clear.new.self fits.format c.clear.ensures.empty in
    fits_alone p fits.params c.args.number c.restart.new.self c.clear.new.self c.clear-2.new.store empty
    (rw (sym c.last_work-last.ensures) c.clear-2.ensures.rest)
    c.restart.ensures.empty (c.restart.ensures.same.many ∙ fits.row) (c.restart.ensures.same.format
    ∙ fits.collected) c.requires.few

pub returns-clause-stands : goal.returns-clause-stands
returns-clause-stands c =
    let r = c.args.self.now in let p = r.params in let fits = c.requires.fits in
    let empty = emptied p r.store fits.slots fits.works c.clear.new.self fits.format c.clear.ensures.empty in
    is_alone p fits.params c.args.number c.restart.new.self c.clear.new.self c.clear-2.new.store empty
    (rw (sym c.last_work-last.ensures) c.clear-2.ensures.rest)
    c.restart.ensures.empty (c.restart.ensures.same.many ∙ fits.row) (c.restart.ensures.same.format ∙ fits.collected)
    (c.is_decoding.ensures p)
    (c.receiver_stands.ensures.new (decoding p.format) (rules_of p) (c.is_decoding.ensures p)
    (c.are_rules.ensures p fits.params))
    (c.receiver_stands.ensures.played (decoding p.format) (rules_of p) (c.is_decoding.ensures p)
    (c.are_rules.ensures p fits.params))
    (rw (sym c.last_work-last.ensures) c.clear-2.ensures.picture)
