-- From mark to mark: what is written and what waits is the text of the events so far.
use Rattle.std.proofs.Common.{◌≡◌, ◌+◌, ◌/◌, ◌^◌, ◌++◌, Bool, List, length, ap, sym, ◌∙◌, subst, append_assoc, arith, refl}
use lib.Count.{count_trailing_zeros}
use Rattle.h263_bits.specs.Written.{written}
use Rattle.h263_bits.proofs.SyntaxLaws.{length-spelled}
use Rattle.code_tables.specs.Tables.{IsEvent}
use Rattle.block_layer.specs.Step.{level_in_list}
use Rattle.block_layer.specs.Waiting.{waiting_text}
use Rattle.block_layer.proofs.Steps.{left_text, none_text, ended, text_is}
use Rattle.block_layer.proofs.Written.{some_size}
use Rattle.block_layer.proofs.Marks.{marks_after, next, goes, none_next}
use Rattle.block_layer.proofs.writing.write_levels.Goals as goal

pub events-init : goal.events-init
events-init c = record {
  buffer = refl;
  room = refl;
  text = append_assoc (written c.args.writer.now) (waiting_text c.args.before)
      (left_text 0 c.args.from c.args.block.now.levels)
      ∙ ap (λ (l : List Bool). written c.args.writer.now ++ (waiting_text c.args.before ++ l))
      (text_is c.args.from c.args.block.now.levels);
  len = ap (λ (l : List Bool). c.args.writer.now.len + c.args.before.count + length l)
      (text_is c.args.from c.args.block.now.levels);
  waiting = c.requires.before;
  marked = ap (λ n. n / 2 ^ c.args.from) c.requires.marks ∙ marks_after c.args.from c.args.block.now.levels;
  since = omega arith;
  within = omega arith;
}

pub event_at-requires-clause-place : goal.event_at-requires-clause-place
event_at-requires-clause-place c =
    let e = c.events in
    (next e.place (count_trailing_zeros 64 e.left) e.left c.args.block.now.levels c.requires.whole e.invariant.marked
    c.events-test.true refl).inside

pub event_at-requires-clause-size : goal.event_at-requires-clause-size
event_at-requires-clause-size c =
    let e = c.events in
    let n = next e.place (count_trailing_zeros 64 e.left) e.left c.args.block.now.levels c.requires.whole
    e.invariant.marked c.events-test.true refl in
    c.requires.levels.sizes (e.place + count_trailing_zeros 64 e.left) (omega arith) (omega (arith, n.inside))

pub event_number-number-requires : goal.event_number-number-requires
event_number-number-requires c =
    let e = c.events in
    let levels = c.args.block.now.levels in
    let run = count_trailing_zeros 64 e.left in
    let n = next e.place run e.left levels c.requires.whole e.invariant.marked c.events-test.true refl in
    subst IsEvent (sym c.event_at.ensures) (record {
      run = omega (arith, n.inside);
      some = some_size (level_in_list levels (e.place + run)) n.some;
      level = c.requires.levels.sizes (e.place + run) (omega arith) (omega (arith, n.inside));
    })

pub gather-waiting-requires-clause-room : goal.gather-waiting-requires-clause-room
gather-waiting-requires-clause-room c =
    let e = c.events in
    let levels = c.args.block.now.levels in
    let run = count_trailing_zeros 64 e.left in
    let n = next e.place run e.left levels c.requires.whole e.invariant.marked c.events-test.true refl in
    let text = rw c.event_at.ensures at c.event_number-number.ensures.text in
    let long = sym (length-spelled c.event_number-number.result.1 c.event_number-number.result.0) ∙ ap length text in
    omega (arith, n.length, long, e.invariant.len, e.invariant.room, c.requires.room)

pub events-preserved : goal.events-preserved
events-preserved c =
    let e = c.events in
    let levels = c.args.block.now.levels in
    let run = count_trailing_zeros 64 e.left in
    let n = next e.place run e.left levels c.requires.whole e.invariant.marked c.events-test.true refl in
    let text = rw c.event_at.ensures at c.event_number-number.ensures.text in
    let long = sym (length-spelled c.event_number-number.result.1 c.event_number-number.result.0) ∙ ap length text in
    let more = c.gather-waiting.ensures in
    record {
      buffer = more.buffer ∙ e.invariant.buffer;
      room = more.room ∙ e.invariant.room;
      text = goes e.place run e.left levels (written e.writer ++ waiting_text e.waiting)
          (written c.gather-waiting.new.writer ++ waiting_text c.gather-waiting.result) _ n
          (more.text ∙ ap (λ (t : List Bool). (written e.writer ++ waiting_text e.waiting) ++ t) text) e.invariant.text;
      len = omega (arith, n.length, long, more.len, e.invariant.len);
      waiting = more.waiting;
      marked = n.marked;
      since = omega arith;
      within = omega (arith, n.inside);
    }

pub put-requires-clause-room : goal.put-requires-clause-room
put-requires-clause-room c = omega (arith, c.events.invariant.len, c.events.invariant.room, c.requires.room)

pub returns-clause-bits : goal.returns-clause-bits
returns-clause-bits c =
    let e = c.events in
    let none = none_next e.place e.left c.args.block.now.levels e.invariant.marked c.events-test.false in
    let bits = c.put.ensures.bits in
    record {
      buffer = bits.buffer ∙ e.invariant.buffer;
      room = bits.room ∙ e.invariant.room;
      text = bits.text ∙ ended 0 e.place c.args.block.now.levels (written e.writer ++ waiting_text e.waiting)
          _ none e.invariant.text;
    }

pub returns-clause-len : goal.returns-clause-len
returns-clause-len c =
    let e = c.events in
    let none = none_next e.place e.left c.args.block.now.levels e.invariant.marked c.events-test.false in
    let nothing : length (left_text 0 e.place c.args.block.now.levels)
    ≡ 0 = ap length (none_text 0 e.place c.args.block.now.levels none) in
    omega (arith, nothing, c.put.ensures.len, e.invariant.len)
