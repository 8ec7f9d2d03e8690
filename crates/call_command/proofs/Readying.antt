-- The parts of a call are ready for the next turn.
use Rattle.std.proofs.Common.{◌≡◌, ℕ, ◌+◌, ◌*◌, ◌≤◌, Bool, true, false, length, sym, ap, subst, ◌∙◌, arith, if◌then◌else◌}
use Rattle.h263_outside.specs.declared.desk.Role.{Role}
use Rattle.h263_types.specs.Sizes.{mbs_of, size_of_picture}
use Rattle.h263_types.specs.declared.format.Format.{Format}
use Rattle.h263_types.specs.declared.format.Format.TheVariants.{SubQcif, Qcif, Cif}
use Rattle.y4m.specs.Place.{Y4mPlace}
use Rattle.one_way.specs.Both.{State}
use Rattle.receiver_end.specs.declared.kept.Kept.{Kept}
use Rattle.one_way.specs.Counts.{total_of}
use Rattle.one_way.specs.Way.{CanSend, kept_in, said_in, tally_of, way_of}
use Rattle.call_command.specs.declared.link.Link.{Link}
use Rattle.call_command.specs.declared.terms.Terms.{Terms}
use Rattle.h263_types.specs.Clocks as clocks
use Rattle.call_command.specs.Standing.{CallOpens, CallParts, PartsReady, pictures_kept}

-- a picture has 396 macroblocks at most
pub few_mbs : (f : Format) → mbs_of f ≤ 396
few_mbs SubQcif = omega arith
few_mbs Qcif = omega arith
few_mbs Cif = omega arith

-- how many pictures the network keeps
pub recorded_keeps : (t : Terms) (n : ℕ) → n ≡ pictures_kept t → t.plain ≡ false → n ≡ clocks.period_of t.params.clock
recorded_keeps t n is recorded = is ∙ ap (λ (b : Bool). if b then 1 else clocks.period_of t.params.clock) recorded

pub plain_keeps : (t : Terms) (n : ℕ) → n ≡ pictures_kept t → t.plain ≡ true → n ≡ 1
plain_keeps t n is plain = is ∙ ap (λ (b : Bool). if b then 1 else clocks.period_of t.params.clock) plain

module _ (x : CallParts) (old new : Role → Bool) (r : PartsReady x old) (attached : new ≡ old) where
  pub ready_so : (video : Y4mPlace) (sender : State) (receiver : Kept) (link : Link)
      → video.format ≡ x.video.format → sender.params ≡ x.sender.params → CanSend (way_of link.network) sender
      → kept_in (way_of link.network) ≡ kept_in (way_of x.link.network)
      → sender.sent + video.more ≡ 1048576 → receiver.played ≤ sender.sent
      → (x.terms.plain ≡ true → receiver.played ≡ sender.sent)
      → length link.frame.items ≡ size_of_picture x.terms.params.format
      → (x.terms.plain ≡ true → link.trace.ended ≡ false)
      → link.trace.lines ≤ 16777216
      → total_of (tally_of (way_of link.network)) ≡ receiver.played
      → said_in link.network ≤ 400 * (link.trace.lines + sender.sent)
      → PartsReady (record { terms = x.terms; video = video; sender = sender; receiver = receiver; link = link }) new
  ready_so video sender receiver link format params can period sent played level frame unread few counted said =
      record {
        opens = subst (CallOpens x.terms) (sym attached) r.opens;
        format = format ∙ r.format;
        frame = frame;
        sender_params = params ∙ r.sender_params;
        can = can;
        period = period ∙ r.period;
        sent = sent;
        played = played;
        level = level;
        unread = unread;
        few = few;
        counted = counted;
        said = said;
      }
