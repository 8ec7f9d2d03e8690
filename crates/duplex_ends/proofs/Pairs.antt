-- The ends of both parties before the first event, and their counts.
use Rattle.std.proofs.Common.{◌≡◌, List, [], length, refl, sym, ap, ◌∙◌, arith}
use Rattle.h263_types.specs.Clocks as clocks
use Rattle.h263_types.specs.declared.params.Params.{Params}
use Rattle.h263_types.specs.Params.{IsParams}
use Rattle.call_model.specs.IdealCall.{Event}
use Rattle.call_model.specs.JoinedRun.{AllMayHappenBoth}
use Rattle.call_decoding.specs.Rules.{rules_of}
use Rattle.call_encoding.specs.Frames.{Frame}
use Rattle.coded_call.specs.Coding.{coding}
use Rattle.receiver_end.specs.State as receiver_end
use Rattle.duplex_call.specs.declared.line.Party.{Party}
use Rattle.duplex_call.specs.declared.line.Party.TheVariants.{A, B}
use Rattle.duplex_call.specs.Duplex.{WayRun, WayRuns, no_runs, other, way}
use Rattle.one_way.specs.Both.{steady}
use Rattle.one_way.specs.Laws.{ShowTheSame, WayLaws}
use Rattle.one_way.specs.Seen.{Seen}
use Rattle.duplex_ends.specs.declared.party.PartyEnds.{PartyEnds}
use Rattle.duplex_ends.specs.Pair.{HoldsPair, HoldsParty, IsNewParty}
use Rattle.duplex_ends.specs.Ways.{call_in}

-- ---- before the first event

abbrev no_run : WayRun Frame
no_run = record { frames = []; past = []; carried = []; loaded = 0 }

first_party : (p q : Params) (own : PartyEnds) → WayLaws p → IsParams p → IsNewParty p own
    → HoldsParty p q own no_run no_run
first_party p q own laws in_range new =
    record {
      params = new.params;
      done = record {
        joined = record {
          sender_params = new.sender_params;
          receiver_params = new.receiver_params;
          sends = new.sends;
          receives = new.receives;
        };
        near = tt;
        tally = new.way_is.tally;
        packets = new.way_is.packets;
        references = new.way_is.references;
      };
      can = laws.can (clocks.period_of p.clock) own.way own.sender in_range new.way_is new.sender_params new.sends
          new.quant new.sent;
      period = new.way_is.period;
      sent = new.sent;
      few = omega (arith, new.sent);
      behind = omega (arith, new.played, new.sent);
      counted = new.way_is.total ∙ sym new.played;
      kept = new.kept;
      carries = record { headers = []; holds = new.holds; count = refl; each = λ n. tt; few = λ n. omega arith };
      headers = refl;
      loaded = omega arith;
      waits = new.waits;
    }

pub first_pair : (p : Party → Params) (x : Party) (own far : PartyEnds) → ((y : Party) → WayLaws (p y))
    → ((y : Party) → IsParams (p y)) → (p x).clock ≡ (p (other x)).clock
    → IsNewParty (p x) own → IsNewParty (p (other x)) far → HoldsPair p x own far no_runs
first_pair p A own far laws in_range clock one two = record {
  in_range = in_range;
  clock = clock;
  own_holds = first_party (p A) (p B) own (laws A) (in_range A) one;
  far_holds = first_party (p B) (p A) far (laws B) (in_range B) two;
}
first_pair p B own far laws in_range clock one two = record {
  in_range = in_range;
  clock = clock;
  own_holds = first_party (p B) (p A) own (laws B) (in_range B) one;
  far_holds = first_party (p A) (p B) far (laws A) (in_range A) two;
}

-- ---- said from either party

pub exchanged : (p : Party → Params) (x : Party) (own far : PartyEnds) (ways : WayRuns Frame)
    → HoldsPair p x own far ways → HoldsPair p (other x) far own ways
exchanged p A own far ways h = record {
  in_range = h.in_range;
  clock = sym h.clock;
  own_holds = h.far_holds;
  far_holds = h.own_holds;
}
exchanged p B own far ways h = record {
  in_range = h.in_range;
  clock = sym h.clock;
  own_holds = h.far_holds;
  far_holds = h.own_holds;
}

-- ---- the counts of the ends

module _ (p : Party → Params) (x : Party) (own far : PartyEnds) (ways : WayRuns Frame) (h : HoldsPair p x own far ways)
    (laws : WayLaws (p x))
    (agree : (frames : List Frame) (past : List Event) → IsParams (p x)
    → AllMayHappenBoth (coding (p x)) (rules_of (p x)) (receiver_end.run_of (p x) []) (steady (p x)) frames past
    → ShowTheSame (p x) frames past) where
  pub same_so : ShowTheSame (p x) (way x ways).frames (way x ways).past
  same_so = agree (way x ways).frames (way x ways).past (h.in_range x) h.own_holds.done.near

  pub sent_so : own.sender.sent ≡ length (call_in p x ways).coded
  sent_so =
      laws.sent own.sender own.far_end [] (way x ways).frames (way x ways).past h.own_holds.done.joined
      ∙ ap (λ (seen : Seen). length seen.coded) same_so

  pub played_so : own.far_end.played ≡ (call_in p x ways).played
  played_so =
      laws.played own.sender own.far_end [] (way x ways).frames (way x ways).past h.own_holds.done.joined
      ∙ ap (λ (seen : Seen). seen.played) same_so
