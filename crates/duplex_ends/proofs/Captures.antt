-- A picture that is captured, with the messages that wait.
use Rattle.std.proofs.Common.{◌≡◌, ◌⊎◌, inl, inr, ℕ, zero, suc, ◌+◌, ◌<◌, ◌≤◌, List, [], ◌∷◌, ◌++◌, length, refl, sym, ap, subst, ◌∙◌, arith}
use Rattle.std.specs.Prelude.{drop, map, slice_index_or}
use Rattle.std.proofs.lemmas.Bool.{cases_lt}
use Rattle.std.proofs.lemmas.List.{drop_all}
use Rattle.h263_types.specs.declared.blocks.Mb.{Mb}
use Rattle.h263_types.specs.declared.clock.Clock.{Clock}
use Rattle.h263_types.specs.declared.params.Params.{Params}
use Rattle.h263_planes.specs.Picture.{Picture}
use Rattle.picture_header.specs.Ranges.{AreMessages}
use Rattle.call_model.specs.Coding as call
use Rattle.call_model.specs.CodedPictures.{Coded}
use Rattle.call_model.specs.IdealCall.{MayHappen, Send}
use Rattle.call_model.specs.JoinedRun.{Joined}
use Rattle.call_model.specs.LaterFrames.{LaterFramesBoth}
use Rattle.call_model.specs.TwoStores.{Agree, travelling}
use Rattle.call_decoding.specs.Rules.{rules_of}
use Rattle.call_decoding.specs.Styles.{Style}
use Rattle.call_encoding.specs.Frames.{Frame}
use Rattle.call_encoding.specs.Messages.{marked_message}
use Rattle.coded_call.specs.Coding.{coding}
use Rattle.receiver_end.specs.State as receiver_end
use Rattle.duplex_call.specs.declared.queue.Carried.{Carried}
use Rattle.duplex_call.specs.Duplex.{WayRun, messages_at, numbers_carried}
use Rattle.duplex_call.specs.Waiting.{Waits, last_four}
use Rattle.one_way.specs.Both.{both_after, carrying, steady}
use Rattle.one_way.specs.Counts.{total_of}
use Rattle.one_way.specs.Way.{CanSend, HoldsWay, MayHappenNow, kept_in, tally_of}
use Rattle.duplex_ends.specs.declared.party.PartyEnds.{PartyEnds}
use Rattle.duplex_ends.specs.Bringing.{AreOfClock, carried_message}
use Rattle.duplex_ends.specs.Headers.{AreNumbered, HoldsHeaders, kept_by}
use Rattle.duplex_ends.specs.Pair.{HoldsParty}
use Rattle.duplex_ends.specs.Ways.{call_by, carried_as, carried_from}
use Rattle.duplex_ends.proofs.Lists.{at_last, at_left, at_past, last_few, last_numbered, map_long, messages_are}

-- ---- the messages of a header

drop_fit : (clock : Clock) (k : ℕ) (messages : List Carried) → AreOfClock clock messages
    → AreOfClock clock (drop k messages)
drop_fit clock zero messages fit = fit
drop_fit clock (suc k) [] fit = fit
drop_fit clock (suc k) (m ∷ messages) fit = drop_fit clock k messages fit.1

are_messages : (clock : Clock) (messages : List Carried) → AreOfClock clock messages
    → AreMessages clock (map carried_message messages)
are_messages clock [] fit = tt
are_messages clock (m ∷ messages) fit = (fit.0, are_messages clock messages fit.1)

pub waiting_fit : (clock : Clock) (told : List Carried) (loaded : ℕ) → AreOfClock clock told
    → AreMessages clock (map carried_message (last_four (drop loaded told)))
waiting_fit clock told loaded fit =
    are_messages clock (last_four (drop loaded told)) (drop_fit clock _ (drop loaded told)
    (drop_fit clock loaded told fit))

-- ---- the way after a capture

one_longer : {X : Type 0} (xs : List X) (x : X) → length (xs ++ x ∷ []) ≡ length xs + 1
one_longer [] x = refl
one_longer (a ∷ xs) x = omega (arith, one_longer xs x)

module _ (p q : Params) (own : PartyEnds) (w v : WayRun Frame) (h : HoldsParty p q own w v) (picture : Picture) where
  abbrev pub said : List call.Message
  said = map (travelling (rules_of q)) (call_by q v).said

  abbrev pub numbers : List ℕ
  numbers = numbers_carried w.loaded (length said)

  abbrev pub waiting : List Carried
  waiting = last_four (drop w.loaded (carried_from q v))

  abbrev pub frame : Frame
  frame = carrying picture (map marked_message (messages_at said numbers))

  abbrev pub captured : WayRun Frame
  captured = record {
    frames = w.frames ++ frame ∷ [];
    past = Send ∷ w.past;
    carried = w.carried ++ numbers ∷ [];
    loaded = length said;
  }

  long : length said ≡ length (carried_from q v)
  long = map_long (travelling (rules_of q)) (call_by q v).said
      ∙ sym (map_long (carried_as (rules_of q)) (call_by q v).said)

  numbered : AreNumbered (carried_from q v) numbers waiting
  numbered = subst (λ (n : ℕ). AreNumbered (carried_from q v) (numbers_carried w.loaded n) waiting) (sym long)
      (last_numbered (carried_from q v) w.loaded h.loaded)

  pub same_messages : map marked_message (messages_at said numbers) ≡ map carried_message waiting
  same_messages = messages_are (travelling (rules_of q)) marked_message (carried_as (rules_of q)) (λ note. refl)
      (call_by q v).said numbers waiting numbered

  -- each header has its messages by their numbers, and so has the new one
  each_numbered : (n : ℕ) → AreNumbered (carried_from q v) (slice_index_or (w.carried ++ numbers ∷ []) n [])
      (slice_index_or (h.carries.headers ++ waiting ∷ []) n [])
  each_numbered n = by_place (cases_lt n (length w.carried))
    where
      by_last : (length w.carried < n) ⊎ (n ≤ length w.carried) → length w.carried ≤ n
          → AreNumbered (carried_from q v) (slice_index_or (w.carried ++ numbers ∷ []) n [])
          (slice_index_or (h.carries.headers ++ waiting ∷ []) n [])
      by_last (inl past) high =
          let one = at_past w.carried numbers [] n past in
          let two = at_past h.carries.headers waiting [] n (omega (arith, past, h.carries.count)) in
          subst (λ (ks : List ℕ). AreNumbered (carried_from q v) ks (slice_index_or (h.carries.headers
          ++ waiting ∷ []) n [])) (sym one)
          (subst (λ (ms : List Carried). AreNumbered (carried_from q v) [] ms) (sym two) tt)
      by_last (inr low) high =
          let is : length w.carried ≡ n = omega (arith, low, high) in
          let is_header : length h.carries.headers ≡ n = h.carries.count ∙ is in
          let one : slice_index_or (w.carried ++ numbers ∷ []) n []
          ≡ numbers = ap (λ (k : ℕ). slice_index_or (w.carried ++ numbers ∷ []) k []) (sym is)
          ∙ at_last w.carried numbers [] in
          let two : slice_index_or (h.carries.headers ++ waiting ∷ []) n []
          ≡ waiting = ap (λ (k : ℕ). slice_index_or (h.carries.headers ++ waiting ∷ []) k []) (sym is_header)
          ∙ at_last h.carries.headers waiting [] in
          subst (λ (ks : List ℕ). AreNumbered (carried_from q v) ks (slice_index_or (h.carries.headers
          ++ waiting ∷ []) n [])) (sym one)
          (subst (λ (ms : List Carried). AreNumbered (carried_from q v) numbers ms) (sym two) numbered)

      by_place : (n < length w.carried) ⊎ (length w.carried ≤ n)
          → AreNumbered (carried_from q v) (slice_index_or (w.carried ++ numbers ∷ []) n [])
          (slice_index_or (h.carries.headers ++ waiting ∷ []) n [])
      by_place (inl below) =
          let one = at_left w.carried numbers [] n below in
          let two = at_left h.carries.headers waiting [] n (omega (arith, below, h.carries.count)) in
          subst (λ (ks : List ℕ). AreNumbered (carried_from q v) ks (slice_index_or (h.carries.headers
          ++ waiting ∷ []) n [])) (sym one)
          (subst (λ (ms : List Carried). AreNumbered (carried_from q v) (slice_index_or w.carried n []) ms) (sym two)
          (h.carries.each n))
      by_place (inr high) = by_last (cases_lt (length w.carried) n) high

  each_few : (n : ℕ) → length (slice_index_or (h.carries.headers ++ waiting ∷ []) n []) ≤ 4
  each_few n = by_place (cases_lt n (length h.carries.headers))
    where
      few : (ms : List Carried) → slice_index_or (h.carries.headers ++ waiting ∷ []) n [] ≡ ms → length ms ≤ 4
          → length (slice_index_or (h.carries.headers ++ waiting ∷ []) n []) ≤ 4
      few ms is small = omega (arith, ap (λ (ms : List Carried). length ms) is, small)

      by_last : (length h.carries.headers < n) ⊎ (n ≤ length h.carries.headers) → length h.carries.headers ≤ n
          → length (slice_index_or (h.carries.headers ++ waiting ∷ []) n []) ≤ 4
      by_last (inl past) high = few [] (at_past h.carries.headers waiting [] n past) (omega arith)
      by_last (inr low) high =
          let is : length h.carries.headers ≡ n = omega (arith, low, high) in
          few waiting (ap (λ (k : ℕ). slice_index_or (h.carries.headers ++ waiting ∷ []) k []) (sym is)
          ∙ at_last h.carries.headers waiting []) (last_few (drop w.loaded (carried_from q v)))

      by_place : (n < length h.carries.headers) ⊎ (length h.carries.headers ≤ n)
          → length (slice_index_or (h.carries.headers ++ waiting ∷ []) n []) ≤ 4
      by_place (inl below) = few (slice_index_or h.carries.headers n []) (at_left h.carries.headers waiting [] n below)
          (h.carries.few n)
      by_place (inr high) = by_last (cases_lt (length h.carries.headers) n) high

  -- the ends after it
  pub party_sent : (new : PartyEnds) → new.params ≡ own.params
      → HoldsWay p new.way new.sender new.far_end [] captured.frames captured.past → CanSend new.way new.sender
      → kept_in new.way ≡ kept_in own.way → new.sender.sent ≡ own.sender.sent + 1 → own.sender.sent < 1048576
      → new.far_end.played ≡ own.far_end.played → total_of (tally_of new.way) ≡ total_of (tally_of own.way)
      → kept_by new.carried ≡ kept_by own.carried
      → HoldsHeaders new.carried (h.carries.headers ++ waiting ∷ []) → Waits new.waiting []
      → HoldsParty p q new captured v
  party_sent new params done can period sent left played tally kept holds none = record {
    params = params ∙ h.params;
    done = done;
    can = can;
    period = period ∙ h.period;
    sent = omega (arith, sent, h.sent, one_longer w.frames frame);
    few = omega (arith, sent, left);
    behind = omega (arith, h.behind, sent, played);
    counted = tally ∙ h.counted ∙ sym played;
    kept = kept ∙ h.kept;
    carries = record {
      headers = h.carries.headers ++ waiting ∷ [];
      holds = holds;
      count = omega (arith, h.carries.count, one_longer h.carries.headers waiting, one_longer w.carried numbers);
      each = each_numbered;
      few = each_few;
    };
    headers = omega (arith, h.headers, one_longer w.frames frame, one_longer w.carried numbers);
    loaded = omega (arith, long);
    waits = subst (λ (l : List Carried). Waits new.waiting l)
        (sym (drop_all (length said) (carried_from q v) (omega (arith, long)))) none;
  }

  -- it may happen by what the ends have done, once there is its frame
  pub near_send : LaterFramesBoth (coding p) (rules_of p)
      → Agree (coding p) (rules_of p) (call_by p w) (both_after p (steady p) w.frames [] w.past)
      → own.sender.sent ≡ length (both_after p (steady p) w.frames [] w.past).sender.coded → (left : ℕ)
      → MayHappen (rules_of p) left (call_by p w) Send
      → MayHappenNow p [] captured.frames w.past Send
  near_send law agreed sent left may =
      let same = (law (receiver_end.run_of p []) (steady p) w.frames (frame ∷ []) w.past h.done.near).0 in
      let coded : length (both_after p (steady p) captured.frames [] w.past).sender.coded
      ≡ length (both_after p (steady p) w.frames [] w.past).sender.coded =
      ap (λ (b : Joined Style Mb Picture). length b.sender.coded) same
      in
      let played : (both_after p (steady p) captured.frames [] w.past).receiver.played
      ≡ (both_after p (steady p) w.frames [] w.past).receiver.played =
      ap (λ (b : Joined Style Mb Picture). b.receiver.played) same
      in
      let ideally = ap (λ (l : List (Coded Style Mb Picture)). length l) agreed.pictures in (
        omega (arith, coded, sent, h.sent, one_longer w.frames frame),
        omega (
          arith,
          coded,
          played,
          ideally,
          agreed.played,
          may.1,
        ),
      )
