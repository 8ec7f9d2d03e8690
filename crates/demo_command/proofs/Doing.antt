-- What a line of the made trace says, by both ends.
use Rattle.std.proofs.Common.{◌≡◌, ℕ, zero, suc, ◌+◌, ◌<◌, List, [], ◌∷◌, ◌++◌, length, map, refl, sym, ap, subst, ◌∙◌, arith}
use Rattle.std.specs.List.{range_with_len}
use Rattle.h263_types.specs.declared.blocks.Mb.{Mb}
use Rattle.h263_types.specs.declared.params.Params.{Params}
use Rattle.h263_planes.specs.Picture.{Picture}
use Rattle.loss_trace.specs.declared.event.Event.{Event as Line}
use Rattle.make_input.specs.Expanded.{events_onto}
use Rattle.call_model.specs.Coding.{pictures_of}
use Rattle.call_model.specs.IdealCall.{Event, Deliver, encoded, slices_at}
use Rattle.call_model.specs.JoinedRun.{Joined}
use Rattle.call_model.specs.Lawful.{IsPace}
use Rattle.call_decoding.specs.Rules.{rules_of}
use Rattle.call_decoding.specs.Styles.{Style}
use Rattle.coded_call.specs.Coding.{coding}
use Rattle.receiver_end.specs.State as receiver_end
use Rattle.receiver_end.specs.declared.kept.Kept.{Kept}
use Rattle.one_way.specs.declared.network.Network.{Network}
use Rattle.one_way.specs.declared.way.Way.{Way}
use Rattle.one_way.specs.Both.{both_after, steady}
use Rattle.one_way.specs.Counts.{total_of}
use Rattle.call_command.specs.Counts.{call_text, counts_of, counts_text}
use Rattle.one_way.specs.Laws.{NearLaws, ShowTheSame, WayLaws}
use Rattle.one_way.specs.Seen.{Seen, in_call}
use Rattle.one_way.specs.Trace.{delivered}
use Rattle.one_way.specs.Way.{CanSend, IsAmongLast, MayHappenNow, kept_in, tally_of, way_of}
use Rattle.demo_command.specs.declared.demo.Demo.{Demo}
use Rattle.demo_command.specs.declared.terms.DemoTerms.{DemoTerms}
use Rattle.demo_command.specs.Demo.{made_call, made_video, with_made_line}
use Rattle.demo_command.specs.Laws.{MadeLaws}
use Rattle.demo_command.specs.Machine.{DemoHasDone, IsNearNow, LineReady}
use Rattle.demo_command.proofs.Made.{near_onto, steady_is}

-- what is so after a line, by what the line says
pub as_line : (t : DemoTerms) (past : List Event) (line event : Line) (P : List Event → Type 0) → event ≡ line
    → (IsNearNow t (with_made_line t past line) → P (with_made_line t past line))
    → IsNearNow t (with_made_line t past event)
    → P (with_made_line t past event)
as_line t past line event P is so =
    subst (λ (l : Line). IsNearNow t (with_made_line t past l) → P (with_made_line t past l)) (sym is) so

-- all packets of a picture, in their order
delivered_from : (n from count : ℕ) (past : List Event)
    → events_onto (map (Deliver n) (range_with_len from count)) (delivered n from ++ past) ≡ delivered n (from + count)
    ++ past
delivered_from n from zero past =
    let same : from ≡ from + 0 = omega arith in
    ap (λ (k : ℕ). delivered n k ++ past) same
delivered_from n from (suc count) past =
    let next : suc from ≡ from + 1 = omega arith in
    let same : (from + 1) + count ≡ from + suc count = omega arith in
    ap (λ (k : ℕ). events_onto (map (Deliver n) (range_with_len (from + 1) count)) (delivered n k ++ past)) next
    ∙ delivered_from n (from + 1) count past
    ∙ ap (λ (k : ℕ). delivered n k ++ past) same

-- a near event is near by both ends
pub may_now : (t : DemoTerms) → NearLaws t.params → IsPace (steady t.params) → (past : List Event) (e : Event)
    → IsNearNow t (e ∷ past) → MayHappenNow t.params [] (made_video t) past e
may_now t near_laws paced past e near = ((near_laws.near (steady t.params) (made_video t) (e ∷ past) paced).0 near).0

-- a machine is as ready after packets that were delivered
pub ready_delivered : (m : Demo) → LineReady m → (network : Network) (receiver : Kept)
    → way_of network ≡ way_of m.network → receiver.played ≡ m.both.receiver.played
    → LineReady (record m { both = record m.both { receiver = receiver }; network = network })
ready_delivered m r network receiver way played = record {
  params = r.params;
  frame = r.frame;
  sender_params = r.sender_params;
  can = subst (λ (w : Way). CanSend w m.both.sender) (sym way) r.can;
  period = ap kept_in way ∙ r.period;
  few = r.few;
  counted = ap (λ (w : Way). total_of (tally_of w)) way ∙ r.counted ∙ sym played;
}

-- a packet that is near by both ends is among those that are kept
pub may_deliver : (m : Demo) → LineReady m → NearLaws m.terms.params → (past : List Event) → DemoHasDone m past
    → (n j : ℕ)
    → IsNearNow m.terms (Deliver n j ∷ past)
    → IsAmongLast (way_of m.network)
    (length (both_after m.terms.params (steady m.terms.params) (made_video m.terms) [] past).sender.coded) n
    × MayHappenNow m.terms.params [] (made_video m.terms) past (Deliver n j)
may_deliver m r laws past h n j near =
    let p = m.terms.params in
    let may = may_now m.terms laws (steady_is p r.params) past (Deliver n j) near in
    let kept = laws.packets (receiver_end.run_of p []) (steady p) (made_video m.terms) past n j refl (
      may,
      h.way_holds.near,
    ) in
    ((may.0, omega (arith, kept, r.period)), may)

-- the line of the counts
pub counts_are : (m : Demo) → WayLaws m.terms.params → (past : List Event) → DemoHasDone m past
    → ShowTheSame m.terms.params (made_video m.terms) past
    → counts_of (tally_of (way_of m.network)) m.both.receiver.played m.both.sender.sent
    ≡ call_text (in_call (made_call m.terms past))
counts_are m laws past h same =
    let way = h.way_holds in
    let played = laws.played m.both.sender m.both.receiver [] (made_video m.terms) past way.joined in
    let sent = laws.sent m.both.sender m.both.receiver [] (made_video m.terms) past way.joined in
    (λ i. counts_text (played i) (sent i) (way.tally.exact i) (way.tally.patched i) (way.tally.held i))
    ∙ ap call_text same

-- ---- all packets of a picture

module _ (t : DemoTerms) (made : MadeLaws t) (past : List Event) (same : ShowTheSame t.params (made_video t) past)
    (n : ℕ) where
  abbrev p : Params
  p = t.params

  abbrev both : Joined Style Mb Picture
  both = both_after p (steady p) (made_video t) [] past

  abbrev count : ℕ
  count = length (slices_at (made_call t past).coded n)

  count_is : length (slices_at both.sender.coded n) ≡ count
  count_is = ap (λ (seen : Seen). length (slices_at seen.coded n)) same

  -- the first of them is near
  first_near : (k : ℕ) → 0 < k → IsNearNow t (events_onto (map (Deliver n) (range_with_len 0 k)) past)
      → IsNearNow t (Deliver n 0 ∷ past)
  first_near zero none near = absurd (omega (arith, none))
  first_near (suc k) more near =
      near_onto (pictures_of (coding p)) (rules_of p) (encoded (coding p) (rules_of p) (steady p) (made_video t))
      (length (made_video t)) (map (Deliver n) (range_with_len 1 k)) (Deliver n 0 ∷ past) near

  pub near_first : n < length both.sender.coded
      → IsNearNow t (events_onto (map (Deliver n) (range_with_len 0 count)) past)
      → IsNearNow t (Deliver n 0 ∷ past)
  near_first sent near = first_near count
      (made.slices past n (subst (λ (seen : Seen). n < length seen.coded) same sent)) near

  -- and they are those of the line
  pub all_are : delivered n (length (slices_at both.sender.coded n)) ++ past
      ≡ events_onto (map (Deliver n) (range_with_len 0 count)) past
  all_are =
      let from_none : 0 + count ≡ count = omega arith in
      ap (λ (k : ℕ). delivered n k ++ past) count_is
      ∙ sym (delivered_from n 0 count past ∙ ap (λ (k : ℕ). delivered n k ++ past) from_none)
