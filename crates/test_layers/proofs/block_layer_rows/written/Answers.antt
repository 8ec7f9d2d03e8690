use Rattle.std.proofs.Common.{◌≡◌, Bool, true, false, length, arith, sym, ◌∙◌, refl}
use Rattle.std.specs.Prelude.{not}
use Rattle.test_layers.proofs.block_layer_rows.written.Goals as goal

-- a block that is coded has a level left
left : (none : Bool) → not none ≡ true → none ≡ false
left false e = refl
left true e = absurd cc

pub write_intra-requires-clause-room : goal.write_intra-requires-clause-room
write_intra-requires-clause-room c =
    let long : length c.args.block.now.levels ≡ 64 = omega arith in
    omega (arith, c.longest_text.ensures.intra c.args.block.now.levels long)

pub write_inter-requires-clause-some : goal.write_inter-requires-clause-some
write_inter-requires-clause-some c =
    left _ (sym (c.is_coded_by-coded.ensures c.args.block.now.levels c.marks.ensures.marks) ∙ c.if-coded.true)

pub write_inter-requires-clause-room : goal.write_inter-requires-clause-room
write_inter-requires-clause-room c =
    let long : length c.args.block.now.levels ≡ 64 = omega arith in
    omega (arith, c.longest_text.ensures.inter c.args.block.now.levels long)
