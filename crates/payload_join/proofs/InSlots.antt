-- The packets in the slots of a ring.
use Rattle.std.proofs.Common.{◌≡◌, ℕ, zero, suc, ◌+◌, ◌-◌, ◌%◌, ◌<◌, ◌≤◌, List, true, false, [], ◌∷◌, ◌++◌, length, take, drop, get_or, set, Option, Some, None, refl, sym, ap, ◌∙◌, subst, arith, inl, inr, length-set, get_or-set_other, get_or-set_same}
use Rattle.std.specs.Prelude.{replicate, nat_le, nat_lt, is_some, if◌then◌else◌}
use Rattle.std.proofs.lemmas.Bool.{cases_lt, cases_eq, lt-leb, le-ltb, lt-ltb}
use Rattle.std.proofs.lemmas.List.{take-append-le, drop-append-le, length-take-le, length-drop, set_past, length-replicate, get_or_default}
use Rattle.h263_region.specs.Slots.{Slots, bytes_in, count_of, zeros}
use Rattle.payload_join.specs.declared.parts.Parts.{Parts}
use Rattle.payload_join.specs.declared.took.Took.TheVariants as tooks
use Rattle.payload_join.specs.Packet.{Packet, bytes_between, extra_carried}
use Rattle.payload_join.specs.Parts.{packet_from_parts, ArePartsInside}
use Rattle.payload_join.specs.Places.{PacketPlaces, place_at, put_at, forgotten, left_at, numbers_passed, top_after, holding, reach_above, packet_judged}
use Rattle.h263_region.specs.Claimed.{IsHeld}
use Rattle.payload_join.specs.Ring.{in_slot, slot_packets, last_room, IsPlaced, IsPlacedIf, IsRing, DescribesPacket, IsSeenPacket}
use Rattle.payload_join.proofs.Slots.{with_slot, out_inside, put_length, zeros_sized}

-- the ring as its parts say
abbrev pub seen : Option ℕ → Slots → List ℕ → List (Option Parts) → PacketPlaces
seen top region slots parts = record {
  top = top;
  packets = slot_packets region slots parts;
  room = last_room region slots;
}

pub many_packets : (region : Slots) (slots : List ℕ) (parts : List (Option Parts)) → length parts ≤ length slots
    → length (slot_packets region slots parts) ≡ length parts
many_packets region slots [] le = refl
many_packets region [] (p ∷ parts) le = absurd (omega arith)
many_packets region (slot ∷ slots) (p ∷ parts) le =
    ap (λ (n : ℕ). suc n) (many_packets region slots parts (omega arith))

-- the packet at a place
pub packet_is : (region : Slots) (slots : List ℕ) (parts : List (Option Parts)) (k : ℕ) → k < length parts
    → length parts ≤ length slots
    → get_or (slot_packets region slots parts) k None
    ≡ in_slot (bytes_in region (get_or slots k 0)) (get_or parts k None)
packet_is region slots [] k lt le = absurd (omega arith)
packet_is region [] (p ∷ parts) k lt le = absurd (omega arith)
packet_is region (slot ∷ slots) (p ∷ parts) zero lt le = refl
packet_is region (slot ∷ slots) (p ∷ parts) (suc k) lt le = packet_is region slots parts k (omega arith) (omega arith)

-- the bytes of other slots are no matter
pub packets_same : (region new : Slots) (slots : List ℕ) (parts : List (Option Parts))
    → ((j : ℕ) → j < length parts → bytes_in new (get_or slots j 0) ≡ bytes_in region (get_or slots j 0))
    → slot_packets new slots parts ≡ slot_packets region slots parts
packets_same region new slots [] same = refl
packets_same region new [] (p ∷ parts) same = refl
packets_same region new (slot ∷ slots) (p ∷ parts) same =
    let first : bytes_in new slot ≡ bytes_in region slot = same 0 (omega arith) in
    let more = packets_same region new slots parts (λ j lt. same (suc j) (omega arith)) in
    λ i. in_slot (first i) p ∷ more i

-- one packet is another
pub packet_changed : (region new : Slots) (slots : List ℕ) (parts : List (Option Parts)) (k : ℕ) (p : Option Parts)
    → k < length parts → length parts ≤ length slots
    → ((j : ℕ) → j < length parts → (j ≡ k → ⊥) → bytes_in new (get_or slots j 0) ≡ bytes_in region (get_or slots j 0))
    → slot_packets new slots (set parts k p)
    ≡ set (slot_packets region slots parts) k (in_slot (bytes_in new (get_or slots k 0)) p)
packet_changed region new slots [] k p lt le same = absurd (omega arith)
packet_changed region new [] (q ∷ parts) k p lt le same = absurd (omega arith)
packet_changed region new (slot ∷ slots) (q ∷ parts) zero p lt le same =
    ap (λ (l : List (Option Packet)). in_slot (bytes_in new slot) p ∷ l) (packets_same region new slots parts
    (λ j less. same (suc j) (omega arith) (λ e. absurd (omega arith))))
packet_changed region new (slot ∷ slots) (q ∷ parts) (suc k) p lt le same =
    let first : bytes_in new slot ≡ bytes_in region slot = same 0 (omega arith) (λ e. absurd (omega arith)) in
    let more = packet_changed region new slots parts k p (omega arith) (omega arith)
    (λ j less ne. same (suc j) (omega arith) (λ e. ne (omega arith))) in
    λ i. in_slot (first i) q ∷ more i

-- a place is cleared
cleared : (region : Slots) (slots : List ℕ) (parts : List (Option Parts)) (k : ℕ) → k < length parts
    → length parts ≤ length slots
    → slot_packets region slots (set parts k None) ≡ set (slot_packets region slots parts) k None
cleared region slots parts k lt le = packet_changed region region slots parts k None lt le (λ j less ne. refl)

pub many_forgotten : {X : Type 0} (held : List (Option X)) (from count : ℕ) → length (forgotten held from count)
    ≡ length held
unfolding forgotten
many_forgotten held from zero = refl
many_forgotten held from (suc count) = length-set (forgotten held from count) ((from + count) % 64) None
    ∙ many_forgotten held from count

forgotten_are : (region : Slots) (slots : List ℕ) (parts : List (Option Parts)) (from count : ℕ) → length parts ≡ 64
    → 64 ≤ length slots
    → slot_packets region slots (forgotten parts from count) ≡ forgotten (slot_packets region slots parts) from count
unfolding forgotten
forgotten_are region slots parts from zero places le = refl
forgotten_are region slots parts from (suc count) places le =
    let many : length (forgotten parts from count) ≡ length parts = many_forgotten parts from count in
    let less : (from + count) % 64 < 64 = omega arith in
    cleared region slots (forgotten parts from count) ((from + count) % 64) (omega arith) (omega arith)
    ∙ ap (λ (l : List (Option Packet)). set l ((from + count) % 64) None)
    (forgotten_are region slots parts from count places le)

pub left_are : (region : Slots) (slots : List ℕ) (parts : List (Option Parts)) (top : Option ℕ) (sequence : ℕ)
    → length parts ≡ 64 → 64 ≤ length slots
    → slot_packets region slots (left_at top parts sequence) ≡ left_at top (slot_packets region slots parts) sequence
left_are region slots parts None sequence places le = refl
left_are region slots parts (Some top) sequence places le = forgotten_are region slots parts (top + 1)
    (numbers_passed top sequence) places le

pub many_left : {X : Type 0} (top : Option ℕ) (held : List (Option X)) (sequence : ℕ)
    → length (left_at top held sequence) ≡ length held
many_left None held sequence = refl
many_left (Some top) held sequence = many_forgotten held (top + 1) (numbers_passed top sequence)

-- ---- what is kept

placed_set : (parts : List (Option Parts)) (k j : ℕ) (p : Option Parts) → ((j : ℕ) → IsPlacedIf (get_or parts j None))
    → IsPlacedIf p → IsPlacedIf (get_or (set parts k p) j None)
placed_set parts k j p placed is =
    elim (cases_lt k (length parts)) [
      | inl lt ↦ elim (cases_eq j k) [
        | inl e ↦ subst (λ (n : ℕ). IsPlacedIf (get_or (set parts k p) n None)) (sym e)
            (subst IsPlacedIf (sym (get_or-set_same parts k p None lt)) is)
        | inr ne ↦ subst IsPlacedIf (sym (get_or-set_other parts k j p None ne)) (placed j)
      ]
      | inr ge ↦ subst (λ (l : List (Option Parts)). IsPlacedIf (get_or l j None)) (sym (set_past parts k p ge))
          (placed j)
    ]

placed_forgotten : (parts : List (Option Parts)) (from count : ℕ) → ((j : ℕ) → IsPlacedIf (get_or parts j None))
    → (j : ℕ) → IsPlacedIf (get_or (forgotten parts from count) j None)
unfolding forgotten
placed_forgotten parts from zero placed j = placed j
placed_forgotten parts from (suc count) placed j = placed_set (forgotten parts from count) ((from + count) % 64) j None
    (placed_forgotten parts from count placed) tt

placed_left : (parts : List (Option Parts)) (top : Option ℕ) (sequence : ℕ)
    → ((j : ℕ) → IsPlacedIf (get_or parts j None)) → (j : ℕ) → IsPlacedIf (get_or (left_at top parts sequence) j None)
placed_left parts None sequence placed = placed
placed_left parts (Some top) sequence placed = placed_forgotten parts (top + 1) (numbers_passed top sequence) placed

pub is_placed : (bytes : List ℕ) (p : Parts) → ArePartsInside bytes p → IsPlaced p
is_placed bytes p h = record {
  few = h.few;
  bits = h.bits;
  extra = h.extra;
  order = h.order;
  end = let a = h.end in
      let b = h.short in omega arith;
}

pub wrote_same : (region : Slots) (slots : List ℕ) (parts : List (Option Parts)) (k j : ℕ) (ws : List ℕ)
    → IsRing region slots parts → k < 65 → j < 65 → (j ≡ k → ⊥)
    → bytes_in (with_slot region (get_or slots k 0) ws) (get_or slots j 0) ≡ bytes_in region (get_or slots j 0)
wrote_same region slots parts k j ws r lk lj ne =
    let c = r.count in
    get_or-set_other region.bytes (get_or slots k 0) (get_or slots j 0) ws []
    (λ e. ne (r.held.once j k (omega arith) (omega arith) e))

pub wrote_here : (region : Slots) (slots : List ℕ) (parts : List (Option Parts)) (k : ℕ) (ws : List ℕ)
    → IsRing region slots parts → k < 65
    → bytes_in (with_slot region (get_or slots k 0) ws) (get_or slots k 0) ≡ ws
wrote_here region slots parts k ws r lk =
    let c = r.count in let w = r.whole in
    let o : get_or slots k 0 < length region.outs = out_inside region (get_or slots k 0) (r.held.out k (omega arith)) in
    get_or-set_same region.bytes (get_or slots k 0) ws [] (omega arith)

-- bytes were written into a slot
pub ring_wrote : (region : Slots) (slots : List ℕ) (parts : List (Option Parts)) (k : ℕ) (ws : List ℕ)
    → IsRing region slots parts → k < 65 → length ws ≡ 65535
    → IsRing (with_slot region (get_or slots k 0) ws) slots parts
ring_wrote region slots parts k ws r lk long =
    record {
      held = record { out = r.held.out; once = r.held.once; all = r.held.all };
      count = r.count;
      size = r.size;
      whole = length-set region.bytes (get_or slots k 0) ws ∙ r.whole;
      sized = λ j lj. elim (cases_eq j k) [
        | inl e ↦ ap (λ (i : ℕ). length {A = ℕ} (bytes_in (with_slot region (get_or slots k 0) ws) (get_or slots i 0)))
            e ∙ ap (length {A = ℕ}) (wrote_here region slots parts k ws r lk) ∙ long
        | inr ne ↦ ap (length {A = ℕ}) (wrote_same region slots parts k j ws r lk lj ne) ∙ r.sized j lj
      ];
      places = r.places;
      placed = r.placed;
    }

-- a packet is held
pub ring_held : (region : Slots) (slots : List ℕ) (parts : List (Option Parts)) (bytes : List ℕ) (top : Option ℕ)
    (sequence : ℕ) (p : Parts) → IsRing region slots parts → ArePartsInside bytes p
    → IsRing (with_slot region (get_or slots (sequence % 64) 0)
    (put_at (bytes_in region (get_or slots (sequence % 64) 0)) 0 bytes)) slots
    (set (left_at top parts sequence) (sequence % 64) (Some p))
ring_held region slots parts bytes top sequence p r is =
    let k : ℕ = sequence % 64 in
    let old : List ℕ = bytes_in region (get_or slots k 0) in
    let long : length old ≡ 65535 = r.sized k (omega arith) in
    let short = is.short in
    let w = ring_wrote region slots parts k (put_at old 0 bytes) r (omega arith) (put_length old 0 bytes (omega arith)
    ∙ long) in
    record {
      held = w.held;
      count = w.count;
      size = w.size;
      whole = w.whole;
      sized = w.sized;
      places = length-set (left_at top parts sequence) (sequence % 64) (Some p) ∙ many_left top parts sequence
          ∙ r.places;
      placed = λ j. placed_set (left_at top parts sequence) (sequence % 64) j (Some p)
          (placed_left parts top sequence r.placed) (is_placed bytes p is);
    }

-- ---- the packets then

between_front : (bytes rest : List ℕ) (from to : ℕ) → from ≤ to → to ≤ length bytes
    → bytes_between (bytes ++ rest) from to ≡ bytes_between bytes from to
between_front bytes rest from to order end =
    let d : drop from (bytes ++ rest) ≡ drop from bytes ++ rest = drop-append-le from bytes rest (omega arith) in
    let l : length (drop from bytes) ≡ length bytes - from = length-drop from bytes in
    ap (take (to - from)) d ∙ take-append-le (to - from) (drop from bytes) rest (omega arith)

-- what stands after a packet in its slot is no part of it
packet_front : (bytes rest : List ℕ) (p : Parts) → ArePartsInside bytes p → packet_from_parts (bytes ++ rest) p
    ≡ packet_from_parts bytes p
packet_front bytes rest p h =
    let a = h.extra in let b = h.order in let c = h.end in
    let e : bytes_between (bytes ++ rest) p.extra_from p.coded_from ≡ bytes_between bytes p.extra_from p.coded_from =
    between_front bytes rest p.extra_from p.coded_from (omega arith) (omega arith) in
    let f : bytes_between (bytes ++ rest) p.coded_from p.to ≡ bytes_between bytes p.coded_from p.to =
    between_front bytes rest p.coded_from p.to b c in
    λ i. record {
      begins = p.begins;
      marker = p.marker;
      sequence = p.sequence;
      timestamp = p.timestamp;
      extra = extra_carried p.plen p.pebit (e i);
      coded = f i;
    }

-- so the packet is held, and the others are forgotten
pub held_is : (region : Slots) (slots : List ℕ) (parts : List (Option Parts)) (top : Option ℕ) (bytes : List ℕ)
    (sequence : ℕ) (p : Parts) → IsRing region slots parts → ArePartsInside bytes p
    → seen (Some (top_after top sequence)) (with_slot region (get_or slots (sequence % 64) 0)
    (put_at (bytes_in region (get_or slots (sequence % 64) 0)) 0 bytes)) slots
    (set (left_at top parts sequence) (sequence % 64) (Some p))
    ≡ holding (seen top region slots parts) sequence (packet_from_parts bytes p)
held_is region slots parts top bytes sequence p r h =
    let k : ℕ = sequence % 64 in
    let slot : ℕ = get_or slots k 0 in
    let ws : List ℕ = put_at (bytes_in region slot) 0 bytes in
    let new : Slots = with_slot region slot ws in
    let c = r.count in let pl = r.places in
    let less : k < 64 = omega arith in
    let many : length (left_at top parts sequence) ≡ length parts = many_left top parts sequence in
    let there : bytes_in new slot ≡ bytes ++ drop (length bytes) (bytes_in region slot) =
    wrote_here region slots parts k ws r (omega arith) ∙ (let z : 0 + length bytes ≡ length bytes = omega arith in
    ap (λ (n : ℕ). bytes ++ drop n (bytes_in region slot)) z) in
    let packet : in_slot (bytes_in new slot) (Some p) ≡ Some (packet_from_parts bytes p) =
    ap (λ (b : List ℕ). in_slot b (Some p)) there
    ∙ ap (λ (q : Packet). Some q) (packet_front bytes (drop (length bytes) (bytes_in region slot)) p h) in
    let packets : slot_packets new slots (set (left_at top parts sequence) k (Some p))
    ≡ set (left_at top (slot_packets region slots parts) sequence) k (Some (packet_from_parts bytes p)) =
    packet_changed region new slots (left_at top parts sequence) k (Some p) (omega arith) (omega arith)
    (λ j lj ne. wrote_same region slots parts k j ws r (omega arith) (omega arith) ne)
    ∙ (λ i. set (left_are region slots parts top sequence pl (omega arith) i) k (packet i)) in
    let room : last_room new slots ≡ last_room region slots = wrote_same region slots parts k 64 ws r (omega arith)
    (omega arith) (λ e. absurd (omega arith)) in
    λ i. record { top = Some (top_after top sequence); packets = packets i; room = room i }

-- ---- a ring that is empty

pub none_are : (region : Slots) (slots : List ℕ) (n : ℕ) → n ≤ length slots
    → slot_packets region slots (replicate n None)
    ≡ replicate n None
none_are region slots zero le = refl
none_are region [] (suc n) le = absurd (omega arith)
none_are region (slot ∷ slots) (suc n) le = ap (λ (l : List (Option Packet)). None ∷ l)
    (none_are region slots n (omega arith))

pub none_placed : (n j : ℕ) → IsPlacedIf (get_or (replicate n None) j None)
none_placed zero j = tt
none_placed (suc n) zero = tt
none_placed (suc n) (suc j) = none_placed n j

-- the slot of a place
pub slot_is : (region : Slots) (slots : List ℕ) (parts : List (Option Parts)) (number slot : ℕ)
    → IsRing region slots parts → slot ≡ get_or slots (number % 64) slot → slot ≡ get_or slots (number % 64) 0
slot_is region slots parts number slot r e =
    let c = r.count in
    let less : number % 64 < 64 = omega arith in
    e ∙ get_or_default slots (number % 64) slot 0 (omega arith)

-- the packet of a number, by the parts that were read
read_is : (region : Slots) (slots : List ℕ) (parts : List (Option Parts)) (number : ℕ) (o : Option Parts)
    → IsRing region slots parts → o ≡ get_or parts (number % 64) o
    → place_at (slot_packets region slots parts) number ≡ in_slot (bytes_in region (get_or slots (number % 64) 0)) o
read_is region slots parts number o r e =
    let k : ℕ = number % 64 in
    let c = r.count in let pl = r.places in
    let less : k < 64 = omega arith in
    packet_is region slots parts k (omega arith) (omega arith)
    ∙ ap (in_slot (bytes_in region (get_or slots k 0))) (get_or_default parts k None o (omega arith) ∙ sym e)

pub seen_at : (region : Slots) (slots : List ℕ) (parts : List (Option Parts)) (number : ℕ)
    (r o : Option Parts) {top : Option ℕ} {packets : PacketPlaces} → IsRing region slots parts
    → r ≡ get_or parts (number % 64) r → r ≡ o
    → seen top region slots parts ≡ packets → in_slot (bytes_in region (get_or slots (number % 64) 0)) o
    ≡ place_at packets.packets number
seen_at region slots parts number r o ring e is view =
    ap (in_slot (bytes_in region (get_or slots (number % 64) 0))) (sym is)
    ∙ sym (read_is region slots parts number r ring e)
    ∙ (λ i. place_at (view i).packets number)

-- whether it is held
pub some_seen : (region : Slots) (slots : List ℕ) (parts : List (Option Parts)) (number : ℕ) (o : Option Parts)
    → IsRing region slots parts → o ≡ get_or parts (number % 64) o
    → is_some (place_at (slot_packets region slots parts) number) ≡ is_some o
some_seen region slots parts number o ring e = ap (λ (q : Option Packet). is_some q)
    (read_is region slots parts number o ring e) ∙ same (bytes_in region (get_or slots (number % 64) 0)) o
  where
    same : (bytes : List ℕ) (o : Option Parts) → is_some (in_slot bytes o) ≡ is_some o
    same bytes None = refl
    same bytes (Some p) = refl

-- what was read of it lies in its slot
pub placed_at : (region : Slots) (slots : List ℕ) (parts : List (Option Parts)) (number : ℕ) (r : Option Parts)
    (p : Parts) → IsRing region slots parts → r ≡ get_or parts (number % 64) r → r ≡ Some p → IsPlaced p
placed_at region slots parts number r p ring e is =
    let k : ℕ = number % 64 in
    let pl = ring.places in
    let at : get_or parts k None ≡ Some p = get_or_default parts k None r (omega arith) ∙ sym e ∙ is in
    subst IsPlacedIf at (ring.placed k)

-- how many bytes lie between two places of a slot
between_len : (bytes : List ℕ) (from to : ℕ) → length bytes ≡ 65535 → from ≤ to → to ≤ 65535
    → to - from ≡ length (bytes_between bytes from to)
between_len bytes from to long order end =
    let left : length (drop from bytes) ≡ length bytes - from = length-drop from bytes in
    sym (length-take-le (to - from) (drop from bytes) (omega arith))

pub coded_is : (region : Slots) (slots : List ℕ) (parts : List (Option Parts)) (number : ℕ) (r : Option Parts)
    (p : Parts) → IsRing region slots parts → r ≡ get_or parts (number % 64) r → r ≡ Some p
    → p.to - p.coded_from ≡ length (bytes_between (bytes_in region (get_or slots (number % 64) 0)) p.coded_from p.to)
coded_is region slots parts number r p ring e is =
    let placed = placed_at region slots parts number r p ring e is in
    between_len (bytes_in region (get_or slots (number % 64) 0)) p.coded_from p.to
    (ring.sized (number % 64) (omega arith)) placed.order placed.end

pub described : (region : Slots) (slots : List ℕ) (parts : List (Option Parts)) (number : ℕ) (r : Option Parts)
    (p : Parts) → IsRing region slots parts → r ≡ get_or parts (number % 64) r → r ≡ Some p
    → DescribesPacket p (packet_from_parts (bytes_in region (get_or slots (number % 64) 0)) p)
described region slots parts number r p ring e is =
    let placed = placed_at region slots parts number r p ring e is in
    let extra = placed.extra in let order = placed.order in let end = placed.end in
    record {
      sequence = refl;
      timestamp = refl;
      plen = sym (between_len (bytes_in region (get_or slots (number % 64) 0)) p.extra_from p.coded_from
          (ring.sized (number % 64) (omega arith)) (omega arith) (omega arith)) ∙ omega arith;
      pebit = λ some. rw (lt-ltb 0 p.plen some) refl;
      few = placed.few;
      bits = placed.bits;
    }

pub seen_is : (region : Slots) (slots : List ℕ) (parts : List (Option Parts)) (number : ℕ) (r : Option Parts)
    (top : Option ℕ) (packets : PacketPlaces) → IsRing region slots parts → r ≡ get_or parts (number % 64) r
    → seen top region slots parts ≡ packets → IsSeenPacket r (place_at packets.packets number)
seen_is region slots parts number r top packets ring e view = at r refl
  where
    at : (o : Option Parts) → r ≡ o → IsSeenPacket o (place_at packets.packets number)
    at None is = sym (seen_at region slots parts number r None ring e is view)
    at (Some q) is = (
      packet_from_parts (bytes_in region (get_or slots (number % 64) 0)) q,
      sym (seen_at region slots parts number r (Some q) ring e is view),
      described region slots parts number r q ring e is,
    )

-- there is a place for each rest
pub many_places : (region : Slots) (slots : List ℕ) (parts : List (Option Parts)) (top : Option ℕ)
    (packets : PacketPlaces)
    → IsRing region slots parts → seen top region slots parts ≡ packets → length packets.packets ≡ 64
many_places region slots parts top packets ring view =
    let c = ring.count in let pl = ring.places in
    ap (λ (t : PacketPlaces). length t.packets) (sym view) ∙ many_packets region slots parts (omega arith) ∙ ring.places

-- ---- the room

-- its slot
pub last_is : (region : Slots) (slots : List ℕ) (parts : List (Option Parts)) (slot : ℕ) → IsRing region slots parts
    → slot ≡ get_or slots 64 slot → slot ≡ get_or slots 64 0
last_is region slots parts slot r e = let c = r.count in e ∙ get_or_default slots 64 slot 0 (omega arith)

pub room_ring : (region : Slots) (slots : List ℕ) (parts : List (Option Parts)) (at : ℕ) (ws : List ℕ)
    → IsRing region slots parts → at + length ws ≤ 65535
    → IsRing (with_slot region (get_or slots 64 0) (put_at (bytes_in region (get_or slots 64 0)) at ws)) slots parts
room_ring region slots parts at ws r le =
    let old : List ℕ = bytes_in region (get_or slots 64 0) in
    let long : length old ≡ 65535 = r.sized 64 (omega arith) in
    ring_wrote region slots parts 64 (put_at old at ws) r (omega arith) (put_length old at ws (omega arith) ∙ long)

pub room_seen : (top : Option ℕ) (region : Slots) (slots : List ℕ) (parts : List (Option Parts)) (at : ℕ) (ws : List ℕ)
    → IsRing region slots parts
    → seen top (with_slot region (get_or slots 64 0) (put_at (bytes_in region (get_or slots 64 0)) at ws)) slots parts
    ≡ record (seen top region slots parts) { room = put_at (last_room region slots) at ws }
room_seen top region slots parts at ws r =
    let pl = r.places in
    let new : List ℕ = put_at (bytes_in region (get_or slots 64 0)) at ws in
    let packets = packets_same region (with_slot region (get_or slots 64 0) new) slots parts
    (λ j lt. wrote_same region slots parts 64 j new r (omega arith) (omega arith) (λ e. absurd (omega arith))) in
    let room = wrote_here region slots parts 64 new r (omega arith) in
    λ i. record { top = top; packets = packets i; room = room i }

-- the answers that hang on what is held
judged_upto : (packets : List (Option Packet)) (top sequence r : ℕ) → r ≡ reach_above top sequence → 32768 < r + 64
    → r ≤ 32768
    → packet_judged (Some top) packets sequence
    ≡ (if is_some (place_at packets sequence) then tooks.Again else tooks.Held)
judged_upto packets top sequence r e young upto =
    let a : nat_le (reach_above top sequence + 64) 32768 ≡ false = lt-leb (reach_above top sequence + 64) 32768
    (omega arith) in
    let b : nat_lt 32768 (reach_above top sequence) ≡ false = le-ltb 32768 (reach_above top sequence) (omega arith) in
    rw (a, b) refl

pub judged_again : (packets : List (Option Packet)) (top sequence r : ℕ) → r ≡ reach_above top sequence → 32768 < r + 64
    → r ≤ 32768 → is_some (place_at packets sequence) ≡ true → packet_judged (Some top) packets sequence ≡ tooks.Again
judged_again packets top sequence r e young upto held = judged_upto packets top sequence r e young upto ∙ (rw held refl)

pub judged_fresh : (packets : List (Option Packet)) (top sequence r : ℕ) → r ≡ reach_above top sequence → 32768 < r + 64
    → r ≤ 32768 → is_some (place_at packets sequence) ≡ false → packet_judged (Some top) packets sequence ≡ tooks.Held
judged_fresh packets top sequence r e young upto held = judged_upto packets top sequence r e young upto ∙ (rw held refl)

-- ---- a region whose slots were all claimed

-- over variables, so that nothing is computed of so many zeros
claimed : (n m : ℕ) (before region : Slots) (slots : List ℕ) → before ≡ zeros n m → IsHeld region slots
    → length slots ≡ count_of before → region.size ≡ before.size → region.bytes ≡ before.bytes
    → count_of region ≡ count_of before
    → (parts : List (Option Parts)) → parts ≡ replicate 64 None → n ≡ 65 → m ≡ 65535 → IsRing region slots parts
claimed n m before region slots z held all size bytes count parts none n_is m_is =
    let many : count_of before ≡ n = ap count_of z ∙ length-replicate n false in
    let wide : before.size ≡ m = ap (λ (s : Slots). s.size) z in
    let long : length before.bytes ≡ n = ap (λ (s : Slots). length s.bytes) z ∙ length-replicate n (replicate m 0) in
    let long' : length region.bytes ≡ length before.bytes = ap (length {A = List ℕ}) bytes in
    let nothing : Option Parts = None in
    record {
      held = held;
      count = omega arith;
      size = omega arith;
      whole = omega arith;
      sized = λ k lt.
          let o : get_or slots k 0 < length region.outs = out_inside region (get_or slots k 0)
          (held.out k (omega arith)) in
          ap (λ (b : List (List ℕ)). length {A = ℕ} (get_or b (get_or slots k 0) [])) (bytes
          ∙ ap (λ (s : Slots). s.bytes) z)
          ∙ zeros_sized n m (get_or slots k 0) (omega arith) ∙ m_is;
      places = ap (length {A = Option Parts}) none ∙ length-replicate 64 nothing;
      placed = λ k. subst (λ (l : List (Option Parts)). IsPlacedIf (get_or l k None)) (sym none) (none_placed 64 k);
    }

pub ring_claimed : (before region : Slots) (slots : List ℕ) → before ≡ zeros 65 65535 → IsHeld region slots
    → length slots ≡ count_of before → region.size ≡ before.size → region.bytes ≡ before.bytes
    → count_of region ≡ count_of before
    → (parts : List (Option Parts)) → parts ≡ replicate 64 None → IsRing region slots parts
ring_claimed before region slots z held all size bytes count parts none =
    claimed 65 65535 before region slots z held all size bytes count parts none refl refl
