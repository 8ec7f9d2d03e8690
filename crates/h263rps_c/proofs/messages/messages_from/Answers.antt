-- The messages before the place are those that C lent, each of a length that one has.
use Rattle.std.proofs.Common.{arith, ◌≡◌, ◌+◌, ◌<◌, List, sym, ap, ap₂, ◌∙◌, subst, length, take, drop, set}
use Rattle.std.proofs.lemmas.List.{length-set}
use Rattle.back_messages.specs.declared.message.Message.{Message}
use Rattle.picture_header.specs.Ranges.{AreMessages}
use Rattle.h263rps_c.specs.Messages.{messages_of}
use Rattle.h263rps_c.proofs.MessagesRead.{after, next_in_range, next_message, no_place}
use Rattle.h263rps_c.proofs.messages.messages_from.Goals.{in-Empty, in-Says}
use Rattle.h263rps_c.proofs.messages.messages_from.Goals as goal

pub messages-preserved : goal.messages-preserved
messages-preserved c =
    let i = c.messages.place in let clock = c.args.clock in let back = c.args.back.now in
    let before = c.messages.invariant in
    let lt : i < length back = c.messages-test.true in
    let Reads : List Message → Type 0 = λ ms. messages_of clock back
    ≡ after ms (messages_of clock (drop (i + 1) back)) in
    elim c.match-says.branch [
      | in-Empty w ↦
          let same : take c.match-says.count c.match-says.places ≡ take c.messages.count c.messages.places =
          ap₂ take w.count-is w.places-is in
          record {
            whole = ap length w.places-is ∙ before.whole;
            within = omega (arith, lt);
            few = omega (arith, w.count-is, before.few);
            value = subst Reads (sym same) (no_place clock back (take c.messages.count c.messages.places) i _
                _ lt w.in-Empty.ensures.value before.value);
            in_range = subst (AreMessages clock) (sym same) before.in_range;
          }
      | in-Says w ↦
          let m = w.in-Says.message in
          let room : c.messages.count < length c.messages.places = omega (
            arith,
            lt,
            c.requires,
            before.few,
            before.whole,
          ) in
          let same : take c.match-says.count c.match-says.places
          ≡ take (c.messages.count + 1) (set c.messages.places c.messages.count m) =
          ap₂ take w.count-is w.places-is in
          let whole : length (set c.messages.places c.messages.count m)
          ≡ 4 = length-set c.messages.places c.messages.count m ∙ before.whole in
          record {
            whole = ap length w.places-is ∙ whole;
            within = omega (arith, lt);
            few = omega (arith, w.count-is, before.few);
            value = subst Reads (sym same) (next_message clock back c.messages.places i c.messages.count _ m
                _ lt room w.in-Says.ensures.value before.value);
            in_range = subst (AreMessages clock) (sym same)
                (next_in_range clock c.messages.places c.messages.count m room before.in_range
                w.in-Says.ensures.in_range);
          }
    ]
