use Rattle.std.proofs.Common.{◌+◌, ◌≤◌, length, refl, ap, subst, arith}
use Rattle.h263_types.specs.declared.format.Format.{Format}
use Rattle.h263_types.specs.Blocks.{IsHeadOf}
use Rattle.h263_types.specs.Sizes.{mbs_of}
use Rattle.call_decoding.specs.Rules.{rules_of}
use Rattle.receiver_end.specs.Decoding.{decoding}
use Rattle.receiver_end.specs.Steps.{piece_in}
use Rattle.receiver_end.proofs.AfterPacket.{spelled, stays, moves}
use Rattle.receiver_end.proofs.kept.Kept.packet.Goals as goal

pub judge-requires-clause-head : goal.judge-requires-clause-head
judge-requires-clause-head c = subst (λ (f : Format). IsHeadOf f c.args.piece.now.head) c.requires.piece.of-format
    c.requires.piece.slice.head

pub returns-in-Ok-clause-stands : goal.returns-in-Ok-clause-stands
returns-in-Ok-clause-stands c = λ past bytes stands read.
    let r = c.args.self.now in let piece = c.args.piece.now in let mbs = c.args.mbs.now in
    let inside : piece.head.first + piece.head.count ≤ length mbs = omega (
      arith,
      c.requires.piece.slice.head.within,
      ap mbs_of c.requires.piece.of-format,
      c.requires.mbs,
    ) in
    moves r past bytes (piece_in piece mbs) stands read
    (c.receiver_stands.ensures.slice (decoding r.params.format) (rules_of r.params) (c.is_decoding.ensures r.params)
    (c.are_rules.ensures r.params c.requires.fits.params))
    c.take.new.self c.in-Ok.fresh.number c.take.ensures.params c.in-Ok.ensures.fresh.0
    (c.in-Ok.ensures.answer (piece_in piece mbs) (spelled piece mbs inside)) (c.take.ensures.after past stands)

pub returns-in-Err-clause-fits : goal.returns-in-Err-clause-fits
returns-in-Err-clause-fits c = c.requires.fits

pub returns-in-Err-clause-params : goal.returns-in-Err-clause-params
returns-in-Err-clause-params c = refl

pub returns-in-Err-clause-played : goal.returns-in-Err-clause-played
returns-in-Err-clause-played c = refl

pub returns-in-Err-clause-same : goal.returns-in-Err-clause-same
returns-in-Err-clause-same c = λ untaken. refl

pub returns-in-Err-clause-stands : goal.returns-in-Err-clause-stands
returns-in-Err-clause-stands c = λ past bytes stands read.
    let r = c.args.self.now in let piece = c.args.piece.now in let mbs = c.args.mbs.now in
    let inside : piece.head.first + piece.head.count ≤ length mbs = omega (
      arith,
      c.requires.piece.slice.head.within,
      ap mbs_of c.requires.piece.of-format,
      c.requires.mbs,
    ) in
    stays r past bytes (piece_in piece mbs) stands read
    (c.receiver_stands.ensures.other (decoding r.params.format) (rules_of r.params) (c.is_decoding.ensures r.params)
    (c.are_rules.ensures r.params c.requires.fits.params))
    c.in-Err.heard (c.in-Err.ensures.answer (piece_in piece mbs) (spelled piece mbs inside)) c.in-Err.ensures.untaken
