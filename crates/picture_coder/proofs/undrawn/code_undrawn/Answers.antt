-- The macroblocks before the place are in the cutter, and their levels in the picture.
use Rattle.std.proofs.Common.{◌≡◌, ◌+◌, ◌<◌, ◌≤◌, ◌++◌, ◌∷◌, [], ℕ, Bool, true, false, nat_le, List, None, take, length, refl, sym, ap, subst, ◌∙◌, arith}
use Rattle.std.proofs.lemmas.Bool.{leb-true, leb-false}
use Rattle.std.proofs.lemmas.List.FromFn.{fill_by_all}
use Rattle.h263_types.specs.declared.format.Format.{Format}
use Rattle.h263_types.specs.declared.Kind.{Kind}
use Rattle.h263_types.specs.declared.blocks.Mb.{Mb}
use Rattle.h263_types.specs.declared.blocks.Mb.TheVariants.{Skip}
use Rattle.h263_types.specs.Blocks.{IsMb, IsOfKind, mb_in}
use Rattle.h263_types.specs.Sizes.{mbs_of}
use Rattle.h263_planes.specs.Lent.{picture}
use Rattle.h263_planes.specs.Picture.{Picture}
use Rattle.h263_planes.specs.Work as lent
use Rattle.mode_choice.specs.Choice.{choices_of}
use Rattle.picture_recon.specs.Undrawn.{undrawn_mb, undrawn_mbs}
use Rattle.packet_cutter.specs.Cutting.{HoldsMbs, cutter_packets, sequence_of}
use Rattle.packet_cutter.specs.Packets.{ArePacketsOf}
use Rattle.picture_coder.proofs.undrawn.code_undrawn.Goals as goal

pub put_undrawn-requires-clause-intra : goal.put_undrawn-requires-clause-intra
put_undrawn-requires-clause-intra c = subst (λ (k : Kind). IsOfKind k c.choose_into.new.out.marked.mb) c.requires.intra
    c.choose_into.ensures.of_kind

-- one macroblock more has its levels there
one_more_there : (quant : ℕ) (mbs : List Mb) (at : ℕ) (old new : Picture)
    → ((k : ℕ) → k < at → undrawn_mb quant old k ≡ mb_in mbs k) →
    ((k : ℕ) → k < at → undrawn_mb quant new k ≡ undrawn_mb quant old k) → undrawn_mb quant new at ≡ mb_in mbs at →
    (k : ℕ) → k < at + 1 → undrawn_mb quant new k ≡ mb_in mbs k
one_more_there quant mbs at old new before others here k h = test (nat_le at k) refl
  where
    test : (t : Bool) → nat_le at k ≡ t → undrawn_mb quant new k ≡ mb_in mbs k
    test true e =
        let reached : at ≤ k = leb-true at k e in
        let same : k ≡ at = omega (arith, reached, h) in
        subst (λ (n : ℕ). undrawn_mb quant new n ≡ mb_in mbs n) (sym same) here
    test false e = let less = leb-false at k e in others k less ∙ before k less

pub loop-at-preserved : goal.loop-at-preserved
loop-at-preserved c =
    let frame = picture c.args.frame in
    let h = c.args.header.now in
    let params = c.args.params.now in
    let mbs = choices_of frame None h params in
    let at = c.loop-at.at in
    let below : at < mbs_of params.format = omega (arith, c.mbs-at-end.ensures, c.loop-at-test.true) in
    let inside : at < mbs_of frame.format = subst (λ (f : Format). at < mbs_of f) (sym c.requires.frame_format) below in
    let chosen = c.choose_into.ensures.choice ∙ sym (c.one_for_each_place.ensures.each frame None h params at inside) in
    record {
      added = record {
        begun = c.add_marked.ensures.begun;
        holds =
            subst (λ (l : List Mb). HoldsMbs c.add_marked.new.self c.args.number h l)
            (ap (λ (m : Mb). take at mbs ++ m ∷ []) c.choose_into.ensures.choice
            ∙ sym (c.one_for_each_place.ensures.next frame None h params at inside))
            (c.add_marked.ensures.holds c.args.number h (take at mbs) c.loop-at.invariant.added.holds);
        added = c.add_marked.ensures.added ∙ ap (λ (n : ℕ). n + 1) c.loop-at.invariant.added.added;
        kind = c.add_marked.ensures.rest.kind ∙ c.loop-at.invariant.added.kind;
        quant = c.add_marked.ensures.rest.quant ∙ c.loop-at.invariant.added.quant;
        format = c.add_marked.ensures.rest.format ∙ c.loop-at.invariant.added.format;
      };
      limit = c.add_marked.ensures.rest.limit ∙ c.loop-at.invariant.limit;
      sequence = c.add_marked.ensures.rest.sequence ∙ c.loop-at.invariant.sequence;
      kept = record {
        whole = c.put_undrawn.ensures.whole;
        format = c.put_undrawn.ensures.format ∙ sym c.requires.header_format;
        levels =
            one_more_there h.quant mbs at (lent.work c.loop-at.work) (lent.work c.put_undrawn.new.out)
            c.loop-at.invariant.kept.levels
            (λ k less. c.put_undrawn.ensures.others h.quant k (omega (arith, less, below)) (omega (arith, less)))
            (c.put_undrawn.ensures.put h.quant c.choose_into.ensures.plain ∙ chosen);
      };
      sums = c.choose_into.ensures.sums;
      same_loan = c.put_undrawn.ensures.same_loan ∙ c.loop-at.invariant.same_loan;
    }

-- at the loop's end the cutter holds all that was chosen
holds_all : (c : goal.After-finish)
    → HoldsMbs c.loop-at.cutter c.args.number c.args.header.now
    (choices_of (picture c.args.frame) None c.args.header.now c.args.params.now)
holds_all c =
    let frame = picture c.args.frame in
    let h = c.args.header.now in
    let params = c.args.params.now in
    let mbs = choices_of frame None h params in
    let format : mbs_of params.format ≡ mbs_of frame.format = ap mbs_of (sym c.requires.frame_format) in
    let all : c.loop-at.at ≡ mbs_of frame.format = omega (arith, format, c.mbs-at-end.ensures, c.loop-at-test.false) in
    let each : take c.loop-at.at mbs ≡ mbs = ap (λ (n : ℕ). take n mbs) all
    ∙ c.one_for_each_place.ensures.all frame None h params in
    subst (λ (l : List Mb). HoldsMbs c.loop-at.cutter c.args.number h l) each c.loop-at.invariant.added.holds

pub returns-clause-packets : goal.returns-clause-packets
returns-clause-packets c =
    let h = c.args.header.now in
    let params = c.args.params.now in
    let mbs = choices_of (picture c.args.frame) None h params in
    let packets = cutter_packets c.finish.new.self in
    subst (λ (n : ℕ). ArePacketsOf c.args.number n h params.limit mbs packets) c.loop-at.invariant.sequence
    (subst (λ (n : ℕ). ArePacketsOf c.args.number (sequence_of c.loop-at.cutter) h n mbs packets)
    (c.loop-at.invariant.limit ∙ c.requires.cutter_limit)
    (c.finish.ensures.packets c.args.number h mbs (holds_all c)))

pub returns-clause-held : goal.returns-clause-held
returns-clause-held c =
    c.finish.ensures.holds c.args.number c.args.header.now
    (choices_of (picture c.args.frame) None c.args.header.now c.args.params.now) (holds_all c)

-- the levels of all macroblocks are there
all_there : (quant : ℕ) (p : Picture) (mbs : List Mb) → length mbs ≡ mbs_of p.format
    → ((k : ℕ) → k < mbs_of p.format → undrawn_mb quant p k ≡ mb_in mbs k) →
    undrawn_mbs quant p ≡ mbs
unfolding undrawn_mbs
all_there quant p mbs count each = sym (fill_by_all (undrawn_mb quant p) mbs (mbs_of p.format) Skip count
    (λ k h. sym (each k h)))

there : (c : goal.After-finish) (k : ℕ) → k < mbs_of c.args.params.now.format →
    undrawn_mb c.args.header.now.quant (lent.work c.loop-at.work) k
    ≡ mb_in (choices_of (picture c.args.frame) None c.args.header.now c.args.params.now) k
there c k h = c.loop-at.invariant.kept.levels k (omega (arith, h, c.mbs-at-end.ensures, c.loop-at-test.false))

pub returns-clause-undrawn : goal.returns-clause-undrawn
returns-clause-undrawn c =
    let frame = picture c.args.frame in
    let h = c.args.header.now in
    let params = c.args.params.now in
    let p = lent.work c.loop-at.work in
    let same : p.format ≡ params.format = c.loop-at.invariant.kept.format ∙ c.requires.header_format in
    all_there h.quant p (choices_of frame None h params) (c.one_for_each_place.ensures.count frame None h params
    ∙ ap mbs_of (c.requires.frame_format ∙ sym same))
    (λ k less. there c k (subst (λ (f : Format). k < mbs_of f) same less))

pub returns-clause-in_range : goal.returns-clause-in_range
returns-clause-in_range c = λ k less.
    let frame = picture c.args.frame in
    let h = c.args.header.now in
    let params = c.args.params.now in
    let inside = subst (λ (f : Format). k < mbs_of f) (sym c.requires.frame_format) less in
    subst IsMb (sym (there c k less ∙ c.one_for_each_place.ensures.each frame None h params k inside))
    (c.chosen_is_in_range.ensures.in_range frame None h params k (record {
      low = c.requires.header.quant_some;
      high = c.requires.header.quant_low;
    }))
