-- What an event leaves of what was said, and of the ends of a party.
use Rattle.std.proofs.Common.{◌≡◌, ℕ, ◌+◌, ◌≤◌, List, [], ◌∷◌, ◌++◌, length, Option, Some, None, refl, sym, ap, subst, ◌∙◌, arith}
use Rattle.std.specs.Prelude.{drop, map, slice_index_or}
use Rattle.h263_types.specs.declared.blocks.Mb.{Mb}
use Rattle.h263_types.specs.declared.params.Params.{Params}
use Rattle.h263_planes.specs.Picture.{Picture}
use Rattle.back_messages.specs.Said.{text_of_said}
use Rattle.back_messages.specs.Text as back
use Rattle.back_messages.specs.declared.writing.Said.{Said}
use Rattle.call_model.specs.Coding.{Coding, Rules}
use Rattle.call_model.specs.IdealCall.{AllMayHappen, Back, Call, Event, NumberedMessage, Send, about, ideal}
use Rattle.call_model.specs.JoinedRun.{SaidMessage}
use Rattle.call_model.specs.LaterFrames.{LaterFrames}
use Rattle.call_model.specs.TwoStores.{Agree, told_of, travelling}
use Rattle.call_decoding.specs.Rules.{rules_of}
use Rattle.call_decoding.specs.Styles.{Style}
use Rattle.call_encoding.specs.Frames.{Frame}
use Rattle.call_encoding.specs.Messages.{marked_message, write_message}
use Rattle.coded_call.specs.Coding.{coding}
use Rattle.duplex_call.specs.declared.queue.Carried.{Carried}
use Rattle.duplex_call.specs.declared.queue.Carrier.{Carrier}
use Rattle.duplex_call.specs.Duplex.{WayRun, brought}
use Rattle.duplex_call.specs.Waiting.{Waits}
use Rattle.one_way.specs.Both.{both_after, steady}
use Rattle.one_way.specs.Counts.{total_of}
use Rattle.one_way.specs.Network as network
use Rattle.one_way.specs.Way.{CanSend, HoldsWay, kept_in, tally_of}
use Rattle.duplex_ends.specs.declared.headers.CarriedRing.{CarriedRing}
use Rattle.duplex_ends.specs.declared.party.PartyEnds.{PartyEnds}
use Rattle.duplex_ends.specs.Bringing.{read_as, said_as}
use Rattle.duplex_ends.specs.Headers.{HasHeaders, kept_by}
use Rattle.duplex_ends.specs.Laws.{SaidLaws}
use Rattle.duplex_ends.specs.Pair.{HoldsParty}
use Rattle.duplex_ends.specs.Ways.{call_by, carried_as, carried_from}
use Rattle.duplex_ends.proofs.Lists.{after_same, drop_left, map_more, numbered_still}

-- ---- messages that come back

-- they change nothing of the ideal call but what is known
module _ {Frame Style Mb Picture Fault MessageFault : Type 0}
    (coding : Coding Frame Style Mb Picture Fault MessageFault) (rules : Rules) (pace : List ℕ
    → ℕ) (frames : List Frame) where
  pub said_still : (ks : List ℕ) (past : List Event) → (ideal coding rules pace frames (brought ks past)).said
      ≡ (ideal coding rules pace frames past).said
  said_still [] past = refl
  said_still (k ∷ ks) past = said_still ks (Back k ∷ past)

  pub coded_still : (ks : List ℕ) (past : List Event) → (ideal coding rules pace frames (brought ks past)).coded
      ≡ (ideal coding rules pace frames past).coded
  coded_still [] past = refl
  coded_still (k ∷ ks) past = coded_still ks (Back k ∷ past)

pub told_still : (p : Params) (w : WayRun Frame) (ks : List ℕ) → carried_from p (record w { past = brought ks w.past })
    ≡ carried_from p w
told_still p w ks = ap (λ (notes : List NumberedMessage). map (carried_as (rules_of p)) notes)
    (said_still (coding p) (rules_of p) (steady p) w.frames ks w.past)

-- ---- a capture

pub told_sent : (p : Params) (law : LaterFrames (coding p) (rules_of p)) (w : WayRun Frame) (more : List Frame)
    (carried : List (List ℕ)) (loaded : ℕ)
    → AllMayHappen (coding p) (rules_of p) (steady p) w.frames w.past
    → carried_from p (record { frames = w.frames ++ more; past = Send ∷ w.past; carried = carried; loaded = loaded })
    ≡ carried_from p w
told_sent p law w more carried loaded near =
    ap (λ (c : Call Style Mb Picture). map (carried_as (rules_of p)) c.said)
    (law (steady p) w.frames more w.past near).0

-- ---- what is said

-- one more message at the end, if there is one
module _ (p : Params) (laws : SaidLaws p) where
  abbrev rules : Rules
  rules = rules_of p

  abbrev tell : NumberedMessage → SaidMessage
  tell = told_of write_message rules

  read_more : (w : WayRun Frame) (old : List NumberedMessage) (n : ℕ) (result : Option Said)
      (notes : List NumberedMessage)
      → (call_by p w).said ≡ old ++ notes → map tell notes ≡ network.told_by n result → map (carried_as rules) notes
      ≡ said_as p.clock n result
  read_more w old n None [] is told = refl
  read_more w old n None (x ∷ notes) is told = absurd (cc told)
  read_more w old n (Some said) [] is told = absurd (cc told)
  read_more w old n (Some said) (x ∷ y ∷ notes) is told = absurd (cc told)
  read_more w old n (Some said) (x ∷ []) is told =
      let same : tell x ≡ network.told_in (n, said) = cc told in
      let number : about x ≡ n = ap (λ (t : SaidMessage). t.about) same in
      let bytes : write_message (travelling rules x) ≡ text_of_said said = ap (λ (t : SaidMessage). t.bytes) same in
      let read = laws.read w old x is in
      ap (λ (k : ℕ). let m : Carried = record { about = k; message = marked_message (travelling rules x) } in
      m ∷ []) number
      ∙ sym (ap (λ (bytes : List ℕ). read_as n (back.message_in p.clock bytes)) (sym bytes) ∙ ap (read_as n) read)

  -- what is told grows by what is said at an event
  pub told_more : (w : WayRun Frame) (e : Event) (n : ℕ) (result : Option Said) (notes : List NumberedMessage)
      → (call_by p (record w { past = e ∷ w.past })).said ≡ (call_by p w).said ++ notes
      → (both_after p (steady p) w.frames [] (e ∷ w.past)).said ≡ (both_after p (steady p) w.frames [] w.past).said
      ++ network.told_by n result
      → Agree (coding p) rules (call_by p w) (both_after p (steady p) w.frames [] w.past)
      → Agree (coding p) rules (call_by p (record w { past = e ∷ w.past })) (both_after p (steady p) w.frames []
      (e ∷ w.past))
      → carried_from p (record w { past = e ∷ w.past }) ≡ carried_from p w ++ said_as p.clock n result
  told_more w e n result notes grows says before now =
      let old = (call_by p w).said in
      let next : WayRun Frame = record w { past = e ∷ w.past } in
      let both : map tell old ++ map tell notes ≡ map tell old ++ network.told_by n result =
      sym (map_more tell old notes) ∙ ap (λ (l : List NumberedMessage). map tell l) (sym grows) ∙ sym now.messages
      ∙ says
      ∙ ap (λ (l : List SaidMessage). l ++ network.told_by n result) before.messages
      in
      ap (λ (l : List NumberedMessage). map (carried_as rules) l) grows
      ∙ map_more (carried_as rules) old notes
      ∙ ap (λ (l : List Carried). carried_from p w ++ l)
      (read_more next old n result notes grows (after_same (map tell old) (map tell notes) (network.told_by n result)
      both))

-- ---- the ends of a party

longer : {X : Type 0} (xs ys : List X) → length (xs ++ ys) ≡ length xs + length ys
longer [] ys = omega arith
longer (x ∷ xs) ys = omega (arith, longer xs ys)

-- The ends have done more, and more was said of the other way.
module _ (p q : Params) (own : PartyEnds) (w far : WayRun Frame) (h : HoldsParty p q own w far) where
  pub headers_still : (now : WayRun Frame) (more : List Carried) → carried_from q now ≡ carried_from q far ++ more
      → HasHeaders own.carried (carried_from q now) w.carried
  headers_still now more grows =
      subst (λ (l : List Carried). HasHeaders own.carried l w.carried) (sym grows) (record {
        headers = h.carries.headers;
        holds = h.carries.holds;
        count = h.carries.count;
        each = λ n. numbered_still (carried_from q far) more (slice_index_or w.carried n [])
            (slice_index_or h.carries.headers n []) (h.carries.each n);
        few = h.carries.few;
      })

  pub party_more : (new : PartyEnds) (past : List Event) (now : WayRun Frame) (more : List Carried)
      → new.params ≡ own.params → new.carried ≡ own.carried → kept_in new.way ≡ kept_in own.way
      → new.sender.sent ≡ own.sender.sent → new.far_end.played ≤ own.sender.sent → total_of (tally_of new.way)
      ≡ new.far_end.played
      → HoldsWay p new.way new.sender new.far_end [] w.frames past → CanSend new.way new.sender
      → carried_from q now ≡ carried_from q far ++ more → Waits new.waiting (drop w.loaded (carried_from q far) ++ more)
      → HoldsParty p q new (record w { past = past }) now
  party_more new past now more params carried period sent behind counted done can grows waits =
      let long : length (carried_from q now) ≡ length (carried_from q far) + length more =
      ap (λ (l : List Carried). length l) grows ∙ longer (carried_from q far) more in
      record {
        params = params ∙ h.params;
        done = done;
        can = can;
        period = period ∙ h.period;
        sent = sent ∙ h.sent;
        few = omega (arith, sent, h.few);
        behind = omega (arith, behind, sent);
        counted = counted;
        kept = ap kept_by carried ∙ h.kept;
        carries = subst (λ (ring : CarriedRing). HasHeaders ring (carried_from q now) w.carried) (sym carried)
            (headers_still now more grows);
        headers = h.headers;
        loaded = omega (arith, h.loaded, long);
        waits = subst (λ (l : List Carried). Waits new.waiting l)
            (sym (drop_left w.loaded (carried_from q far) more h.loaded)
            ∙ ap (λ (l : List Carried). drop w.loaded l) (sym grows)) waits;
      }

  -- nothing more was said of the other way
  pub party_same : (now : WayRun Frame) → carried_from q now ≡ carried_from q far → HoldsParty p q own w now
  party_same now same = record {
    params = h.params;
    done = h.done;
    can = h.can;
    period = h.period;
    sent = h.sent;
    few = h.few;
    behind = h.behind;
    counted = h.counted;
    kept = h.kept;
    carries = subst (λ (l : List Carried). HasHeaders own.carried l w.carried) (sym same) h.carries;
    headers = h.headers;
    loaded = omega (arith, h.loaded, ap (λ (l : List Carried). length l) same);
    waits = subst (λ (l : List Carried). Waits own.waiting (drop w.loaded l)) (sym same) h.waits;
  }

  -- more was said of it, and waits
  pub party_waits : (waiting : Carrier) (now : WayRun Frame) (more : List Carried)
      → carried_from q now ≡ carried_from q far
      ++ more
      → Waits waiting (drop w.loaded (carried_from q far) ++ more)
      → HoldsParty p q (record own { waiting = waiting }) w now
  party_waits waiting now more grows waits = record {
    params = h.params;
    done = h.done;
    can = h.can;
    period = h.period;
    sent = h.sent;
    few = h.few;
    behind = h.behind;
    counted = h.counted;
    kept = h.kept;
    carries = headers_still now more grows;
    headers = h.headers;
    loaded = omega (arith, h.loaded, ap (λ (l : List Carried). length l) grows, longer (carried_from q far) more);
    waits = subst (λ (l : List Carried). Waits waiting l)
        (sym (drop_left w.loaded (carried_from q far) more h.loaded)
        ∙ ap (λ (l : List Carried). drop w.loaded l) (sym grows)) waits;
  }
