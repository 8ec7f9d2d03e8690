use Rattle.std.proofs.Common.{◌≡◌, ◌+◌, ◌∷◌, ap, sym, subst}
use Rattle.packet_collector.specs.declared.collector.Collector.{Collector}
use Rattle.packet_collector.specs.Collected.{Collects, IsRowFrom, first_of}
use Rattle.call_model.specs.Receiving.{PlayNext}
use Rattle.call_decoding.specs.Rules.{rules_of}
use Rattle.receiver_end.specs.declared.kept.Kept.{Kept}
use Rattle.receiver_end.specs.Decoding.{decoding}
use Rattle.receiver_end.specs.State.{Fits, Stands}
use Rattle.receiver_end.proofs.AfterPlay.{fits_after, stands_after}
use Rattle.receiver_end.proofs.kept.Kept.play.Goals as goal

-- what is left of a receiver that shows its picture
abbrev moved : Collector → Kept → Kept
moved c x = record x { played = x.played + 1; collector = c }

pub returns-clause-fits : goal.returns-clause-fits
returns-clause-fits c =
    let r = c.args.self.now in let ok = c.requires.fits in let e = c.show.ensures.0 in let a = c.advance.new.self in
    let same : c.show.new.self.collector ≡ r.collector = ap (λ (x : Kept). x.collector) e in
    subst Fits (sym (ap (moved a) e))
    (fits_after c.searches.ensures.rests c.numbered_samples.ensures c.picture_by_samples.ensures r a
    c.show.new.self.store ok c.show.ensures.1
    (c.advance.ensures.taken r.played ok.taken (subst (λ (x : Collector). Collects x r.played ok.taken)
    (sym same) ok.collects))
    (subst (λ (x : Collector). IsRowFrom (first_of x + 1) x a) same c.advance.ensures.same) c.requires.few)

pub returns-clause-stands : goal.returns-clause-stands
returns-clause-stands c = λ past stands.
    let r = c.args.self.now in let ok = c.requires.fits in let e = c.show.ensures.0 in let a = c.advance.new.self in
    let same : c.show.new.self.collector ≡ r.collector = ap (λ (x : Kept). x.collector) e in
    subst (λ (x : Kept). Stands x (PlayNext ∷ past)) (sym (ap (moved a) e))
    (stands_after c.searches.ensures.rests c.numbered_samples.ensures c.picture_by_samples.ensures r a
    c.show.new.self.store ok c.show.ensures.1
    (c.advance.ensures.taken r.played ok.taken (subst (λ (x : Collector). Collects x r.played ok.taken)
    (sym same) ok.collects))
    (subst (λ (x : Collector). IsRowFrom (first_of x + 1) x a) same c.advance.ensures.same) c.requires.few
    past (c.receiver_stands.ensures.played (decoding r.params.format) (rules_of r.params)
    (c.is_decoding.ensures r.params) (c.are_rules.ensures r.params ok.params)) stands)

pub returns-clause-played : goal.returns-clause-played
returns-clause-played c = ap (λ (x : Kept). x.played + 1) c.show.ensures.0
