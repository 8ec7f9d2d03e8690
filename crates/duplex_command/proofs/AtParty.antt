-- A turn of a party as one of the call of both.
use Rattle.std.proofs.Common.{◌≡◌, ℕ, Bool, true, false, List, Option, Result, Ok, Err, sym, ap, subst}
use Rattle.h263_outside.specs.Desk.{Outside, exchanged_outside}
use Rattle.h263_outside.specs.declared.desk.Role.{Role}
use Rattle.h263_outside.specs.declared.desk.Role.TheVariants.{Video, Events, Pictures, Video2, Pictures2}
use Rattle.loss_trace.specs.Place.{TracePlace}
use Rattle.call_report.specs.declared.status.Status.{Status}
use Rattle.call_report.specs.declared.status.Status.TheVariants.{VideoRefused, Video2Refused}
use Rattle.desk_program.specs.Run.{Step, left_after}
use Rattle.desk_program.specs.Ends.{OnGoing, Tells, TurnGives}
use Rattle.desk_program.specs.Texts.{of}
use Rattle.h263_types.specs.declared.params.Params.{Params}
use Rattle.duplex_call.specs.declared.line.Party.{Party}
use Rattle.duplex_call.specs.declared.line.Party.TheVariants.{A, B}
use Rattle.duplex_call.specs.Duplex.{other}
use Rattle.duplex_ends.specs.Laws.{PairLaws}
use Rattle.duplex_ends.specs.Pair.{AreInCall}
use Rattle.duplex_ends.specs.declared.party.PartyEnds.{PartyEnds}
use Rattle.duplex_command.specs.declared.event.TraceLine.{TraceLine}
use Rattle.duplex_command.specs.declared.station.Station.{Station}
use Rattle.duplex_command.specs.Duplex.{DuplexState, party_event_step, talk_may_read, party_step}
use Rattle.duplex_command.specs.Exchange.{for_second, second_result}
use Rattle.call_command.specs.Call.{line_size}
use Rattle.duplex_command.specs.Standing.{StationsReady, StationsStand}
use Rattle.duplex_command.specs.Turning.{IsPartyRead, TakesEvent, TakesPartyLine}
use Rattle.duplex_command.proofs.Exchanged.{event_at_second, line_taken}
use Rattle.duplex_command.proofs.Exchanging.{cause_at_second, ending_at_second, going_at_second, roles_at_second, stop_at_second, told_at_second, turn_at_second}

abbrev pub Laws : Type 0
Laws = (p : Party → Params) → PairLaws p

-- ---- on the desk with both exchanged

module _ (own far own_new far_new : Station) (said : TraceLine) (room : ℕ) (na nb : ℕ) (mid new : Outside) where
  abbrev x : Party
  x = said.party

  read_too : (trace : TracePlace) (old : Outside) (s : DuplexState) (inputs : Role → List ℕ)
      → IsPartyRead x own far said.line trace mid old s inputs
      → IsPartyRead x own far said.line trace (exchanged_outside na mid) (exchanged_outside na old) s
      (for_second inputs)
  read_too trace old s inputs b = record {
    stood = b.stood;
    number = b.number;
    taken = record {
      left = subst (λ (t : Role → ℕ). Tells (exchanged_outside na mid) (left_after (for_second inputs) t))
          (line_taken (line_size (inputs Events)))
          (told_at_second na mid (left_after inputs (of Events (line_size (inputs Events)))) b.taken.left);
      written = ap (λ (w : Role → Option (List ℕ)). for_second w) b.taken.written;
    };
  }

  -- a turn of the second party
  pub event_taken : (r : Result Bool Status)
      → TakesEvent Video Pictures VideoRefused own far own_new far_new said r (exchanged_outside na mid)
      (exchanged_outside nb new) room
      → TakesEvent Video2 Pictures2 Video2Refused own far own_new far_new said (second_result r) mid new room
  event_taken r t = record {
    gives = λ trace old s inputs b.
        let stands : DuplexState → (Role → List ℕ)
        → Type 0 = λ next rest. StationsStand x own_new far_new trace next (rest Events) in
        subst (λ (step : Step DuplexState). TurnGives (second_result r) step stands talk_may_read true inputs old new)
        (event_at_second x s (inputs Events) inputs said.event)
        (turn_at_second stands talk_may_read true inputs na nb old new (party_event_step Video Pictures VideoRefused x s
        (inputs Events) (for_second inputs) said.event) r
        (t.gives trace (exchanged_outside na old) s (for_second inputs) (read_too trace old s inputs b)));
    goes_on = ending_at_second r ⊥ t.goes_on;
    ready = going_at_second r (StationsReady own_new far_new room) t.ready;
    stop = stop_at_second r t.stop;
    cause = cause_at_second r mid new t.cause;
    rest = roles_at_second na nb mid new t.rest;
  }

-- ---- either party

-- what holds of the next state may be said otherwise
stands_so : {State : Type 0} (r : Result Bool Status) (step : Step State) (P Q : State → (Role → List ℕ)
    → Type 0) (reads : State → Bool) (now : Bool) (inputs : Role → List ℕ) (old new : Outside)
    → ((s : State) (rest : Role → List ℕ) → P s rest → Q s rest) → TurnGives r step P reads now inputs old new
    → TurnGives r step Q reads now inputs old new
stands_so (Ok true) step P Q reads now inputs old new so w = record {
  next = w.next;
  turn = w.turn;
  could = w.could;
  is = w.is;
  kept = so w.next (left_after inputs w.turn.taken) w.kept;
  whole = w.whole;
  left = w.left;
  written = w.written;
}
stands_so (Ok false) step P Q reads now inputs old new so w = w
stands_so (Err status) step P Q reads now inputs old new so w = w

pub ready_so : (r : Result Bool Status) (P Q : Type 0) → (P → Q) → OnGoing r P → OnGoing r Q
ready_so (Ok true) P Q so p = so p
ready_so (Ok false) P Q so p = tt
ready_so (Err status) P Q so p = tt

in_call_too : Laws → (own far : PartyEnds) → AreInCall own far → AreInCall far own
in_call_too laws own far k = record {
  params = k.params;
  party = other k.party;
  ways = k.ways;
  holds = (laws k.params).exchanged k.party own far k.ways k.holds;
}

module _ (laws : Laws) where
  to_b : (a b : Station) (trace : TracePlace) (s : DuplexState) (rest : List ℕ) → StationsStand A a b trace s rest
      → StationsStand B b a trace s rest
  to_b a b trace s rest k = record {
    own_place = k.far_place;
    far_place = k.own_place;
    lines = k.lines;
    ended = k.ended;
    over = k.over;
    holds = (laws s.params).exchanged A a.ends b.ends s.ways k.holds;
  }

  to_a : (a b : Station) (trace : TracePlace) (s : DuplexState) (rest : List ℕ) → StationsStand B b a trace s rest
      → StationsStand A a b trace s rest
  to_a a b trace s rest k = record {
    own_place = k.far_place;
    far_place = k.own_place;
    lines = k.lines;
    ended = k.ended;
    over = k.over;
    holds = (laws s.params).exchanged B b.ends a.ends s.ways k.holds;
  }

  pub stations_too : (own far : Station) (room : ℕ) → StationsReady own far room → StationsReady far own room
  stations_too own far room r = record {
    own_ready = r.far_ready;
    far_ready = r.own_ready;
    ends = in_call_too laws own.ends far.ends r.ends;
  }

  module _ (a b a_new b_new : Station) (said : TraceLine) (r : Result Bool Status) (mid new : Outside) (room : ℕ) where
    abbrev by_party : Party → TraceLine
    by_party x = record { line = said.line; party = x; event = said.event }

    party_is : (x : Party) → said.party ≡ x → said ≡ by_party x
    party_is x is = λ i. record { line = said.line; party = is i; event = said.event }

    a_line : TakesEvent Video Pictures VideoRefused a b a_new b_new (by_party A) r mid new room
        → TakesPartyLine a b a_new b_new (by_party A) r mid new room
    a_line t = record {
      gives = t.gives;
      goes_on = t.goes_on;
      ready = t.ready;
      stop = t.stop;
      cause = t.cause;
      rest = t.rest;
    }

    b_line : TakesEvent Video2 Pictures2 Video2Refused b a b_new a_new (by_party B) r mid new room
        → TakesPartyLine a b a_new b_new (by_party B) r mid new room
    b_line t = record {
      gives = λ trace old s inputs k.
          stands_so r (party_step B s inputs said.event) (λ next rest. StationsStand B b_new a_new trace next
          (rest Events)) (λ next rest. StationsStand A a_new b_new trace next (rest Events))
          talk_may_read true inputs old new (λ next rest stand. to_a a_new b_new trace next (rest Events) stand)
          (t.gives trace old s inputs (record {
            stood = to_b a b trace _ _ k.stood;
            number = k.number;
            taken = k.taken;
          }));
      goes_on = t.goes_on;
      ready = ready_so r (StationsReady b_new a_new room) (StationsReady a_new b_new room)
          (stations_too b_new a_new room) t.ready;
      stop = t.stop;
      cause = t.cause;
      rest = t.rest;
    }

    -- of the first party
    pub line_of_a : said.party ≡ A → TakesEvent Video Pictures VideoRefused a b a_new b_new said r mid new room
        → TakesPartyLine a b a_new b_new said r mid new room
    line_of_a is t =
        subst (λ (q : TraceLine). TakesPartyLine a b a_new b_new q r mid new room) (sym (party_is A is))
        (a_line (subst (λ (q : TraceLine). TakesEvent Video Pictures VideoRefused a b a_new b_new q r mid new room)
        (party_is A is) t))

    -- of the second
    pub line_of_b : said.party ≡ B → TakesEvent Video2 Pictures2 Video2Refused b a b_new a_new said r mid new room
        → TakesPartyLine a b a_new b_new said r mid new room
    line_of_b is t =
        subst (λ (q : TraceLine). TakesPartyLine a b a_new b_new q r mid new room) (sym (party_is B is))
        (b_line (subst (λ (q : TraceLine). TakesEvent Video2 Pictures2 Video2Refused b a b_new a_new q r mid new room)
        (party_is B is) t))
