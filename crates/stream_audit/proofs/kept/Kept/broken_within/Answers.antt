use Rattle.std.proofs.Common.{ℕ, refl, subst}
use Rattle.packet_collector.specs.Collected.{IsFreshIn}
use Rattle.packet_collector.specs.declared.piece.Place.TheVariants as places
use Rattle.packet_collector.specs.Taken.{IsPlace}
use Rattle.stream_audit.proofs.Keeping.{within_is}
use Rattle.stream_audit.proofs.kept.Kept.broken_within.Goals as goal

pub returns-in-HeaderDiffers-clause-rule : goal.returns-in-HeaderDiffers-clause-rule
returns-in-HeaderDiffers-clause-rule c = λ items p q keeps is spells.
    within_is c.what_is_taken.ensures c.whole_header.ensures c.args.self.now
    (c.is_decoding.ensures c.args.self.now.params) c.searches.ensures.all_below items p c.args.piece.now q keeps is
    c.requires.head spells places.HeaderDiffers
    (subst (λ (n : ℕ). IsPlace keeps.taken n c.args.piece.now places.HeaderDiffers) c.present.ensures
    (c.in-HeaderDiffers.ensures.place _ keeps.taken keeps.collects))

pub returns-in-Repeat-clause-rule : goal.returns-in-Repeat-clause-rule
returns-in-Repeat-clause-rule c = λ items p q keeps is spells.
    within_is c.what_is_taken.ensures c.whole_header.ensures c.args.self.now
    (c.is_decoding.ensures c.args.self.now.params) c.searches.ensures.all_below items p c.args.piece.now q keeps is
    c.requires.head spells places.Repeat
    (subst (λ (n : ℕ). IsPlace keeps.taken n c.args.piece.now places.Repeat) c.present.ensures
    (c.in-Repeat.ensures.place _ keeps.taken keeps.collects))

pub returns-in-Overlap-clause-rule : goal.returns-in-Overlap-clause-rule
returns-in-Overlap-clause-rule c = λ items p q keeps is spells.
    within_is c.what_is_taken.ensures c.whole_header.ensures c.args.self.now
    (c.is_decoding.ensures c.args.self.now.params) c.searches.ensures.all_below items p c.args.piece.now q keeps is
    c.requires.head spells places.Overlap
    (subst (λ (n : ℕ). IsPlace keeps.taken n c.args.piece.now places.Overlap) c.present.ensures
    (c.in-Overlap.ensures.place _ keeps.taken keeps.collects))

pub returns-in-Fresh : goal.returns-in-Fresh
returns-in-Fresh c = record {
  rule = λ items p q keeps is spells.
      within_is c.what_is_taken.ensures c.whole_header.ensures c.args.self.now
      (c.is_decoding.ensures c.args.self.now.params) c.searches.ensures.all_below items p c.args.piece.now q keeps
      is c.requires.head spells places.Fresh
      (subst (λ (n : ℕ). IsPlace keeps.taken n c.args.piece.now places.Fresh) c.present.ensures
      (c.in-Fresh.ensures.place _ keeps.taken keeps.collects));
  fresh = λ none. subst (λ (n : ℕ). IsFreshIn c.args.self.now.collector n c.args.piece.now) c.present.ensures
      (c.in-Fresh.ensures.fresh.0 refl);
}
