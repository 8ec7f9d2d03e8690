use Rattle.std.proofs.Common.{rules, ◌≡◌, ◌∙◌, ℕ, ◌-◌, true, Some, None, sym, ap}
use Rattle.stream_audit.specs.declared.kept.Kept.{Kept}
use Rattle.stream_audit.specs.Stream.{is_of_piece, last_picture}
use Rattle.stream_audit.specs.Verdict.{broken_at}
use Rattle.stream_audit.proofs.Standing.{none_left}
use Rattle.stream_audit.proofs.Judged.{at_own, kept_own, one_header, own_picture}
use Rattle.stream_audit.proofs.kept.Kept.judge.Goals as goal

pub returns-in-Some-clause-judged : goal.returns-in-Some-clause-judged
returns-in-Some-clause-judged c = λ items part keeps spells.
    let k = c.args.self.now in
    let piece = c.args.piece.now in
    let same : piece.header.clock ≡ k.params.clock = search (rules, c.is_of_clock.ensures) in
    let own : is_of_piece (last_picture items) part.piece
    ≡ true = sym (c.is_of_last.ensures.value items part.piece keeps spells) ∙ c.if-is_of_last.true in
    let p = own_picture k items part piece keeps spells own in
    let broken : c.breaks-in-Some.new.self.broken ≡ Some (broken_at (k.pictures - 1) c.in-Some.rule) =
    ap (λ (x : Kept). x.broken) c.breaks-in-Some.ensures
    ∙ ap (λ (n : ℕ). Some (broken_at n c.in-Some.rule)) c.present-number-in-Some.ensures in
    record {
      broken = broken ∙ at_own k items part piece keeps spells same own p.0 p.1 (Some c.in-Some.rule)
          (c.in-Some.ensures.rule items p.0 part.piece keeps p.1 spells);
      keeps = λ none. absurd (none_left _ _ broken none);
    }

pub returns-in-None-clause-judged : goal.returns-in-None-clause-judged
returns-in-None-clause-judged c = λ items part keeps spells.
    let k = c.args.self.now in
    let piece = c.args.piece.now in
    let same : piece.header.clock ≡ k.params.clock = search (rules, c.is_of_clock.ensures) in
    let own : is_of_piece (last_picture items) part.piece
    ≡ true = sym (c.is_of_last.ensures.value items part.piece keeps spells) ∙ c.if-is_of_last.true in
    let p = own_picture k items part piece keeps spells own in
    let unbroken = c.in-None.ensures.rule items p.0 part.piece keeps p.1 spells in
    let header = one_header k items part piece keeps spells (c.is_decoding.ensures k.params) p.0 unbroken in
    record {
      broken = ap (λ (x : Kept). x.broken) c.add.ensures.same ∙ c.requires.going
          ∙ at_own k items part piece keeps spells same own p.0 p.1 None unbroken;
      keeps = λ none. kept_own k items part piece keeps spells c.add.new.self own
          (c.add.ensures.keeps items p.0 part keeps p.1 spells header);
    }
