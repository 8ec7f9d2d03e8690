use Rattle.std.proofs.Common.{arith}
use Rattle.macroblock_layer.proofs.Joined.{long_is, head_long}
use Rattle.macroblock_layer.proofs.writing.write_head.Goals as goal

pub put-requires-clause-room : goal.put-requires-clause-room
put-requires-clause-room c =
    let a = c.args in
    let all = head_long a.kind a.quant a.new a.intra a.pattern.cbpy a.pattern.cbpc in
    let first = long_is _ _ _ (rw c.class.ensures at c.class_number-first.ensures.text) in
    let second = long_is _ _ _ c.cbpy_number-second.ensures.text in
    omega (arith, c.requires.room, all, first, second)

pub write_step-requires-clause-room : goal.write_step-requires-clause-room
write_step-requires-clause-room c =
    let a = c.args in
    let all = head_long a.kind a.quant a.new a.intra a.pattern.cbpy a.pattern.cbpc in
    let first = long_is _ _ _ (rw c.class.ensures at c.class_number-first.ensures.text) in
    let second = long_is _ _ _ c.cbpy_number-second.ensures.text in
    omega (arith, c.requires.room, all, first, second, c.put.ensures.len, c.put.ensures.bits.room)

pub returns-clause-len : goal.returns-clause-len
returns-clause-len c =
    let a = c.args in
    let all = head_long a.kind a.quant a.new a.intra a.pattern.cbpy a.pattern.cbpc in
    let first = long_is _ _ _ (rw c.class.ensures at c.class_number-first.ensures.text) in
    let second = long_is _ _ _ c.cbpy_number-second.ensures.text in
    omega (arith, all, first, second, c.put.ensures.len, c.write_step.ensures.len)
