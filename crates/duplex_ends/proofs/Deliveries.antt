-- A packet that is delivered, and the messages of its picture's header.
use Rattle.std.proofs.Common.{◌≡◌, ℕ, zero, suc, ◌+◌, ◌<◌, ◌≤◌, Bool, List, [], ◌∷◌, length, Some, refl, sym, ap, ◌∙◌, arith}
use Rattle.std.specs.Prelude.{slice_get, slice_index_or, if◌then◌else◌}
use Rattle.std.proofs.lemmas.Bool.{le-ltb, lt-ltb}
use Rattle.h263_types.specs.Clocks as clocks
use Rattle.h263_types.specs.declared.blocks.Mb.{Mb}
use Rattle.h263_types.specs.declared.params.Params.{Params}
use Rattle.h263_types.specs.Params.{IsParams}
use Rattle.h263_planes.specs.Picture.{Picture}
use Rattle.call_model.specs.CodedPictures.{Coded}
use Rattle.call_model.specs.IdealCall.{Deliver, MayHappen, NumberedMessage, slices_at}
use Rattle.call_model.specs.JoinedRun.{Joined}
use Rattle.call_model.specs.TwoStores.{Agree, told_of}
use Rattle.call_decoding.specs.Rules.{rules_of}
use Rattle.call_decoding.specs.Styles.{Style}
use Rattle.call_encoding.specs.Frames.{Frame}
use Rattle.call_encoding.specs.Messages.{write_message, written_message}
use Rattle.coded_call.specs.Coding.{coding}
use Rattle.receiver_end.specs.State as receiver_end
use Rattle.duplex_call.specs.declared.queue.Carried.{Carried}
use Rattle.duplex_call.specs.declared.line.Party.{Party}
use Rattle.duplex_call.specs.declared.line.Party.TheVariants.{A, B}
use Rattle.duplex_call.specs.Duplex.{MayBeBrought, MayHappenOf, WayRun, WayRuns, brings, brought, other, way, with_delivery, with_way}
use Rattle.one_way.specs.Both.{both_after, steady}
use Rattle.one_way.specs.Laws.{CallLaws, NearLaws}
use Rattle.one_way.specs.Way.{HoldsWay, IsAmongLast, MayHappenNow}
use Rattle.duplex_ends.specs.declared.party.PartyEnds.{PartyEnds}
use Rattle.duplex_ends.specs.Bringing.{MayReturnAll}
use Rattle.duplex_ends.specs.Headers.{AreNumbered, kept_by}
use Rattle.duplex_ends.specs.Pair.{HoldsPair, HoldsParty}
use Rattle.duplex_ends.specs.Ways.{call_by, carried_as, sides, carried_from, with_places}
use Rattle.duplex_ends.proofs.Agreeing.{agree, delivers, told_at}
use Rattle.duplex_ends.proofs.Lists.{get_map}
use Rattle.duplex_ends.proofs.Runs.{coded_still, said_still}

-- ---- both parties

-- the ends of both parties after an event of one way, and of both
pub with_one : (p : Party → Params) (x : Party) (own far : PartyEnds) (ways : WayRuns Frame) (w : WayRun Frame)
    → ((y : Party) → IsParams (p y)) → (p x).clock ≡ (p (other x)).clock
    → HoldsParty (p x) (p (other x)) own w (way (other x) ways)
    → HoldsParty (p (other x)) (p x) far (way (other x) ways) w
    → HoldsPair p x own far (with_way x w ways)
with_one p A own far ways w in_range clock one two = record {
  in_range = in_range;
  clock = clock;
  own_holds = one;
  far_holds = two;
}
with_one p B own far ways w in_range clock one two = record {
  in_range = in_range;
  clock = clock;
  own_holds = one;
  far_holds = two;
}

pub with_both : (p : Party → Params) (x : Party) (own far : PartyEnds) (ways : WayRuns Frame) (w v : WayRun Frame)
    → ((y : Party) → IsParams (p y)) → (p x).clock ≡ (p (other x)).clock
    → HoldsParty (p x) (p (other x)) own w v → HoldsParty (p (other x)) (p x) far v w
    → HoldsPair p x own far (with_way x w (with_way (other x) v ways))
with_both p A own far ways w v in_range clock one two = record {
  in_range = in_range;
  clock = clock;
  own_holds = one;
  far_holds = two;
}
with_both p B own far ways w v in_range clock one two = record {
  in_range = in_range;
  clock = clock;
  own_holds = one;
  far_holds = two;
}

-- ---- a picture that was sent and is near

-- its header is still there
pub header_now : (p q : Params) (near_laws : NearLaws p) (own : PartyEnds) (w far : WayRun Frame)
    (h : HoldsParty p q own w far) (n j : ℕ)
    → MayHappenNow p [] w.frames w.past (Deliver n j)
    → own.sender.sent ≡ length (both_after p (steady p) w.frames [] w.past).sender.coded
    → (n < length h.carries.headers) × (length h.carries.headers ≤ n + kept_by own.carried)
header_now p q near_laws own w far h n j now sent =
    let short : length (both_after p (steady p) w.frames [] w.past).sender.coded < n + clocks.period_of p.clock =
    near_laws.packets (receiver_end.run_of p []) (steady p) w.frames w.past n j refl (now, h.done.near)
    in (
      omega (arith, now.0, sent, h.sent, h.headers, h.carries.count),
      omega (
        arith,
        short,
        sent,
        h.sent,
        h.headers,
        h.carries.count,
        h.kept,
      ),
    )

module _ (p q : Params) (in_range : IsParams p) (calls : CallLaws p) (near_laws : NearLaws p) (own : PartyEnds)
    (w far : WayRun Frame) (h : HoldsParty p q own w far) (left n j : ℕ)
    (may : MayHappen (rules_of p) left (call_by p w) (Deliver n j)) where
  abbrev both : Joined Style Mb Picture
  both = both_after p (steady p) w.frames [] w.past

  pub agrees : Agree (coding p) (rules_of p) (call_by p w) both
  agrees = agree p in_range calls near_laws own.way own.sender own.far_end w h.done

  pub near_now : MayHappenNow p [] w.frames w.past (Deliver n j)
  near_now = delivers p in_range calls near_laws own.way own.sender own.far_end w h.done left n j may

  short : length both.sender.coded < n + clocks.period_of p.clock
  short = near_laws.packets (receiver_end.run_of p []) (steady p) w.frames w.past n j refl (near_now, h.done.near)

  pub among : IsAmongLast own.way (length both.sender.coded) n
  among = (near_now.0, omega (arith, short, h.period))

  -- how many packets the picture has
  pub count_so : (count : ℕ) → (IsAmongLast own.way (length both.sender.coded) n
      → count ≡ length (slices_at both.sender.coded n)) → count ≡ length (slices_at (call_by p w).coded n)
  count_so count is = is among
      ∙ ap (λ (coded : List (Coded Style Mb Picture)). length (slices_at coded n)) agrees.pictures

  -- the picture's header is still there
  pub header_there : own.sender.sent ≡ length both.sender.coded → (n < length h.carries.headers)
      × (length h.carries.headers ≤ n + kept_by own.carried)
  header_there sent = header_now p q near_laws own w far h n j near_now sent

-- ---- the messages of a header

-- they may come back where the delivery is near
module _ (p : Party → Params) (y : Party) (in_range : IsParams (p y)) (calls : CallLaws (p y))
    (near_laws : NearLaws (p y)) (far : PartyEnds) (v : WayRun Frame)
    (done : HoldsWay (p y) far.way far.sender far.far_end [] v.frames v.past) where
  abbrev far_both : Joined Style Mb Picture
  far_both = both_after (p y) (steady (p y)) v.frames [] v.past

  pub may_return : (ks : List ℕ) (messages : List Carried) → AreNumbered (carried_from (p y) v) ks messages
      → MayBeBrought (sides p) y v ks → MayReturnAll (p y) far_both ks messages
  may_return [] [] are may = tt
  may_return (k ∷ ks) (m ∷ messages) are may =
      let note = may.0.0 in
      let agreed = agree (p y) in_range calls near_laws far.way far.sender far.far_end v done in
      let same : Some (carried_as (rules_of (p y)) note)
      ≡ Some m = sym (get_map (carried_as (rules_of (p y))) (call_by (p y) v).said k note may.0.1) ∙ are.0 in
      let is : carried_as (rules_of (p y)) note ≡ m = cc same in (
        record {
          told = told_of write_message (rules_of (p y)) note;
          is = told_at (p y) in_range calls near_laws far.way far.sender far.far_end v done k note may.0.1;
          bytes = ap (λ (m : Carried). written_message m.message) is;
          near = omega (arith, may.0.2, ap (λ (l : List (Coded Style Mb Picture)). length l) agreed.pictures);
        },
        may_return ks messages are.1 may.1,
      )
  may_return [] (m ∷ messages) are may = absurd are
  may_return (k ∷ ks) [] are may = absurd are

-- where there is no packet nothing is brought
pub brings_none : (p : Party → Params) (x : Party) (w : WayRun Frame) (n j count : ℕ)
    → count ≡ length (slices_at (call_by (p x) w).coded n) → count ≤ j → brings (sides p) x w n j ≡ []
brings_none p x w n j count is past =
    ap (λ (b : Bool). if b then slice_index_or w.carried n [] else [])
    (le-ltb j (length (slices_at (call_by (p x) w).coded n)) (omega (arith, is, past)))

pub brings_all : (p : Party → Params) (x : Party) (w : WayRun Frame) (n j count : ℕ)
    → count ≡ length (slices_at (call_by (p x) w).coded n) → j < count → brings (sides p) x w n j
    ≡ slice_index_or w.carried n []
brings_all p x w n j count is below =
    ap (λ (b : Bool). if b then slice_index_or w.carried n [] else [])
    (lt-ltb j (length (slices_at (call_by (p x) w).coded n)) (omega (arith, is, below)))

-- ---- all packets of a picture

still_brought : (p : Party → Params) (y : Party) (v : WayRun Frame) (ks messages : List ℕ)
    → MayBeBrought (sides p) y v messages
    → MayBeBrought (sides p) y (record v { past = brought ks v.past }) messages
still_brought p y v ks [] may = tt
still_brought p y v ks (k ∷ messages) may =
    let q = p y in
    let said = said_still (coding q) (rules_of q) (steady q) v.frames ks v.past in
    let coded = ap (λ (l : List (Coded Style Mb Picture)). length l) (coded_still (coding q) (rules_of q)
    (steady q) v.frames ks v.past) in (
      (may.0.0, ap (λ (l : List NumberedMessage). slice_get l k) said ∙ may.0.1, omega (arith, may.0.2, coded)),
      still_brought p y v ks messages may.1,
    )

-- a delivery leaves the next one of the same picture as near as it was
may_next : (p : Party → Params) (x : Party) (ways : WayRuns Frame) (left n i j k : ℕ)
    → MayHappenOf (sides p) left x (Deliver n j) ways
    → MayHappenOf (sides p) left x (Deliver n k) (with_delivery (sides p) x n i ways)
may_next p A ways left n i j k may = (
  may.0,
  still_brought p B ways.b (brings (sides p) A ways.a n i)
      (slice_index_or ways.a.carried n []) may.1,
)
may_next p B ways left n i j k may = (
  may.0,
  still_brought p A ways.a (brings (sides p) B ways.b n i)
      (slice_index_or ways.b.carried n []) may.1,
)

pub may_places : (p : Party → Params) (x : Party) (ways : WayRuns Frame) (left n count j k : ℕ)
    → MayHappenOf (sides p) left x (Deliver n j) ways
    → MayHappenOf (sides p) left x (Deliver n k) (with_places p x n count ways)
may_places p x ways left n zero j k may = may
may_places p x ways left n (suc i) j k may = may_next p x (with_places p x n i ways) left n i j k
    (may_places p x ways left n i j j may)
