-- Counts of one more entry.
use Rattle.std.proofs.Common.{◌≡◌, ℕ, ◌+◌, ◌-◌, ◌*◌, ◌^◌, ◌<◌, ◌≤◌, sym, subst, arith}
use Rattle.back_messages.specs.declared.message.MessageFault.{MessageFault}
use Rattle.call_model.specs.Sending.{Reply, RefusedMessage, Old, Noted}
use Rattle.send_command.specs.declared.tally.Tally.{Tally}
use Rattle.send_command.specs.Tally.{IsOf, with_sent_picture, with_reply}

pub one_picture_more : (n count : ℕ) (old new : Tally) → 0 < n → IsOf (n - 1) old → count < 2 ^ 32
    → new ≡ with_sent_picture count old → IsOf n new
one_picture_more n count old new some of few is =
    subst (IsOf n) (sym is)
    (record {
      sent = omega (arith, some, of.sent);
      packets = packets_below n count old.packets some of.packets few;
      noted = omega (arith, some, of.noted);
      outdated = omega (arith, some, of.outdated);
      refused = omega (arith, some, of.refused);
    })
  where
    packets_below : (n count packets : ℕ) → 0 < n → packets ≤ (n - 1) * 2 ^ 32 → count < 2 ^ 32
        → packets + count ≤ n * 2 ^ 32
    packets_below n count packets some below few = omega (arith, some, below, few)

pub one_reply_more : (n : ℕ) (reply : Reply MessageFault) (old new : Tally) → 0 < n → IsOf (n - 1) old
    → new ≡ with_reply reply old → IsOf n new
one_reply_more n reply old new some of is = subst (IsOf n) (sym is) (counted reply)
  where
    packets_below : (n packets : ℕ) → 0 < n → packets ≤ (n - 1) * 2 ^ 32 → packets ≤ n * 2 ^ 32
    packets_below n packets some below = omega (arith, some, below)

    counted : (reply : Reply MessageFault) → IsOf n (with_reply reply old)
    counted Noted = record {
      sent = omega (arith, some, of.sent);
      packets = packets_below n old.packets some of.packets;
      noted = omega (arith, some, of.noted);
      outdated = omega (arith, some, of.outdated);
      refused = omega (arith, some, of.refused);
    }
    counted Old = record {
      sent = omega (arith, some, of.sent);
      packets = packets_below n old.packets some of.packets;
      noted = omega (arith, some, of.noted);
      outdated = omega (arith, some, of.outdated);
      refused = omega (arith, some, of.refused);
    }
    counted (RefusedMessage fault) = record {
      sent = omega (arith, some, of.sent);
      packets = packets_below n old.packets some of.packets;
      noted = omega (arith, some, of.noted);
      outdated = omega (arith, some, of.outdated);
      refused = omega (arith, some, of.refused);
    }
