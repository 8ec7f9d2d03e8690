-- The macroblocks before the place are in the cutter, and their reconstruction in the picture.
use Rattle.std.proofs.Common.{◌≡◌, ◌+◌, ◌<◌, ◌++◌, ◌∷◌, [], ℕ, ℤ, pos, Bool, true, false, cond, List, take, get_or, refl, sym, ap, subst, ◌∙◌, arith}
use Rattle.std.specs.Option.{option_map}
use Rattle.h263_types.specs.declared.format.Format.{Format}
use Rattle.h263_types.specs.declared.blocks.Mb.{Mb}
use Rattle.h263_types.specs.Sizes.{mbs_of}
use Rattle.h263_planes.specs.Lent.{picture}
use Rattle.h263_planes.specs.Work as lent
use Rattle.mode_choice.specs.Choice.{choices_of}
use Rattle.picture_recon.specs.Samples.{reconstruction}
use Rattle.picture_recon.specs.Shown.{SetsMb, ShowsFirst}
use Rattle.packet_cutter.specs.Cutting.{HoldsMbs, cutter_packets, sequence_of}
use Rattle.packet_cutter.specs.Packets.{ArePacketsOf}
use Rattle.picture_coder.proofs.coding.code_picture.Goals as goal

pub loop-at-preserved : goal.loop-at-preserved
loop-at-preserved c =
    let frame = picture c.args.frame in
    let reference = option_map picture c.args.reference in
    let h = c.args.header.now in
    let params = c.args.params.now in
    let mbs = choices_of frame reference h params in
    let at = c.loop-at.at in
    let old = lent.work c.loop-at.work in
    let new = lent.work c.recon_predicted.new.out in
    let inside : at < mbs_of frame.format = subst (λ (f : Format). at < mbs_of f) (sym c.requires.frame_format)
    (omega (arith, c.mbs-at-end.ensures, c.loop-at-test.true)) in
    let chosen = c.choose_into.ensures.choice
    ∙ sym (c.one_for_each_place.ensures.each frame reference h params at inside) in
    record {
      added = record {
        begun = c.add_marked.ensures.begun;
        holds =
            subst (λ (l : List Mb). HoldsMbs c.add_marked.new.self c.args.number h l)
            (ap (λ (m : Mb). take at mbs ++ m ∷ []) c.choose_into.ensures.choice
            ∙ sym (c.one_for_each_place.ensures.next frame reference h params at inside))
            (c.add_marked.ensures.holds c.args.number h (take at mbs) c.loop-at.invariant.added.holds);
        added = c.add_marked.ensures.added ∙ ap (λ (n : ℕ). n + 1) c.loop-at.invariant.added.added;
        kind = c.add_marked.ensures.rest.kind ∙ c.loop-at.invariant.added.kind;
        quant = c.add_marked.ensures.rest.quant ∙ c.loop-at.invariant.added.quant;
        format = c.add_marked.ensures.rest.format ∙ c.loop-at.invariant.added.format;
      };
      limit = c.add_marked.ensures.rest.limit ∙ c.loop-at.invariant.limit;
      sequence = c.add_marked.ensures.rest.sequence ∙ c.loop-at.invariant.sequence;
      shown = record {
        whole = c.recon_predicted.ensures.whole;
        format = c.recon_predicted.ensures.format;
        shows = c.shown_one_by_one.ensures.macroblock h.format h.rounding reference mbs at old new
            c.loop-at.invariant.shown.shows
            (subst (λ (m : Mb). SetsMb h.format h.rounding reference at m old new) chosen
            c.recon_predicted.ensures.samples);
      };
      sums = c.choose_into.ensures.sums;
      same_loan = c.recon_predicted.ensures.same_loan ∙ c.loop-at.invariant.same_loan;
    }

-- at the loop's end the cutter holds all that was chosen
holds_all : (c : goal.After-finish)
    → HoldsMbs c.loop-at.cutter c.args.number c.args.header.now
    (choices_of (picture c.args.frame) (option_map picture c.args.reference) c.args.header.now c.args.params.now)
holds_all c =
    let frame = picture c.args.frame in
    let reference = option_map picture c.args.reference in
    let h = c.args.header.now in
    let params = c.args.params.now in
    let mbs = choices_of frame reference h params in
    let format : mbs_of params.format ≡ mbs_of frame.format = ap mbs_of (sym c.requires.frame_format) in
    let all : c.loop-at.at ≡ mbs_of frame.format = omega (arith, format, c.mbs-at-end.ensures, c.loop-at-test.false) in
    let each : take c.loop-at.at mbs ≡ mbs = ap (λ (n : ℕ). take n mbs) all
    ∙ c.one_for_each_place.ensures.all frame reference h params in
    subst (λ (l : List Mb). HoldsMbs c.loop-at.cutter c.args.number h l) each c.loop-at.invariant.added.holds

pub returns-clause-packets : goal.returns-clause-packets
returns-clause-packets c =
    let h = c.args.header.now in
    let params = c.args.params.now in
    let mbs = choices_of (picture c.args.frame) (option_map picture c.args.reference) h params in
    let packets = cutter_packets c.finish.new.self in
    subst (λ (n : ℕ). ArePacketsOf c.args.number n h params.limit mbs packets) c.loop-at.invariant.sequence
    (subst (λ (n : ℕ). ArePacketsOf c.args.number (sequence_of c.loop-at.cutter) h n mbs packets)
    (c.loop-at.invariant.limit ∙ c.requires.cutter_limit)
    (c.finish.ensures.packets c.args.number h mbs (holds_all c)))

pub returns-clause-held : goal.returns-clause-held
returns-clause-held c =
    c.finish.ensures.holds c.args.number c.args.header.now
    (choices_of (picture c.args.frame) (option_map picture c.args.reference) c.args.header.now c.args.params.now)
    (holds_all c)

pub returns-clause-reconstruction : goal.returns-clause-reconstruction
returns-clause-reconstruction c =
    let h = c.args.header.now in
    let reference = option_map picture c.args.reference in
    let mbs = choices_of (picture c.args.frame) reference h c.args.params.now in
    let p = lent.work c.loop-at.work in
    let shown = c.loop-at.invariant.shown in
    let format = shown.format ∙ c.requires.header_format in
    let all : c.loop-at.at ≡ mbs_of p.format = omega (
      arith,
      ap mbs_of format,
      c.mbs-at-end.ensures,
      c.loop-at-test.false,
    ) in
    let shows : ShowsFirst p.format h.rounding reference mbs (mbs_of p.format) p =
    subst (λ (f : Format). ShowsFirst f h.rounding reference mbs (mbs_of p.format) p) (sym shown.format)
    (subst (λ (n : ℕ). ShowsFirst h.format h.rounding reference mbs n p) all shown.shows) in
    subst (λ (f : Format). p ≡ reconstruction f h.rounding reference mbs) format
    (c.shown_one_by_one.ensures.all p h.rounding reference mbs shown.whole.whole shows)
