-- A meter, one packet after another, and at the end of its log.
use Rattle.std.proofs.Common.{◌≡◌, ℕ, ◌+◌, ◌-◌, ◌<◌, ◌≤◌, max, not, Bool, true, false, cond, eqb, ltb, List, [], ◌∷◌, ◌++◌, length, sum, Option, Some, None, Result, Ok, Err, arith, refl, sym, ap, subst, ◌∙◌}
use Rattle.std.proofs.lemmas.Bool.{cond_both, eqb-true}
use Rattle.std.proofs.lemmas.List.{length_push, length-map, map_push}
use Rattle.h263_bits.specs.declared.fault.Fault.{Fault}
use Rattle.rtp_header.specs.declared.rtp.Rtp.{Rtp}
use Rattle.rtp_header.specs.Faults.{rtp_in}
use Rattle.rate_control.specs.declared.meter.Picture.{Picture}
use Rattle.rate_control.specs.declared.meter.Meter.{Meter}
use Rattle.rate_control.specs.declared.meter.Metered.TheVariants.{Same, Ended}
use Rattle.rate_control.specs.declared.meter.Totals.{Totals}
use Rattle.rate_control.specs.Level.{level_of}
use Rattle.rate_control.specs.Pictures.{accepted, picture_alone, metered_pictures, sizes_in, metered_sizes, refused_in, greatest_level, over_in}
use Rattle.rate_control.specs.Metering.{HasRoomAtEnd, HasRoomFor, IsGoing, MeterStands, answer_of, after_picture, after_picture_with, differs, ended, going_on, pictures_joined, last_of, last_time, metered, meter_taking, telling, timestamp_going_on, totals_of}
use Rattle.rate_control.proofs.Levels.{level_none, level_push}
use Rattle.rate_control.proofs.Ends.{going_push, greatest_level_none, greatest_level_push, last_push, level_short, over_few, over_none, over_push}
use Rattle.rate_control.proofs.Runs.{ReadsShort, accepted_refused, bytes_past, bytes_short, pictures_few, pictures_first, pictures_next, pictures_refused, pictures_same, refused_more, refused_same, time_push}

-- ---- the end of a picture

-- what a meter keeps of pictures of these sizes that have ended
pub record Counts (m : Meter) (sizes : List ℕ) : Type 0 where
  pub count : m.pictures ≡ length sizes
  pub level : m.level ≡ level_of m.target sizes
  pub greatest : m.greatest ≡ greatest_level m.target sizes
  pub over : m.over ≡ over_in m.target m.bucket sizes

cond_add : (b : Bool) (n : ℕ) → cond b (n + 1) n ≡ n + cond b 1 0
cond_add true n = refl
cond_add false n = omega arith

level_after : (m : Meter) (sizes : List ℕ) (size : ℕ) → Counts m sizes
    → m.level + size - m.target ≡ level_of m.target (sizes ++ size ∷ [])
level_after m sizes size s =
    ap (λ (n : ℕ). n + size - m.target) s.level ∙ sym (level_push m.target sizes size)

counts_after : (m : Meter) (sizes : List ℕ) (size : ℕ) → Counts m sizes
    → Counts (after_picture m size) (sizes ++ size ∷ [])
counts_after m sizes size s =
    let level = level_after m sizes size s in
    let n = length_push sizes size in
    let c = s.count in
    record {
      count = omega (arith, n, c);
      level = level;
      greatest =
          ap (λ (k : ℕ). max k (m.level + size - m.target)) s.greatest
          ∙ ap (λ (k : ℕ). max (greatest_level m.target sizes) k) level
          ∙ sym (greatest_level_push m.target sizes size);
      over =
          cond_add (ltb m.bucket (m.level + size - m.target)) m.over
          ∙ ap (λ (k : ℕ). m.over + cond (ltb m.bucket k) 1 0) level
          ∙ ap (λ (k : ℕ). k + cond (ltb m.bucket (level_of m.target (sizes ++ size ∷ []))) 1 0) s.over
          ∙ sym (over_push m.target m.bucket sizes size);
    }

counts_of : (m : Meter) (packets : List (List ℕ)) → (s : MeterStands m packets) → Counts m (sizes_in s.past)
counts_of m packets s =
    record {
      count = s.count ∙ sym (length-map s.past (λ (p : Picture). p.size));
      level = s.level;
      greatest = s.greatest;
      over = s.over;
    }

sizes_push : (past : List Picture) (p : Picture) → sizes_in (past ++ p ∷ []) ≡ sizes_in past ++ p.size ∷ []
sizes_push past p = map_push (λ (q : Picture). q.size) past p

-- ---- an accepted packet

pub new_stands : (target bucket : ℕ) → MeterStands (record {
  target = target;
  bucket = bucket;
  picture = None;
  pictures = 0;
  level = 0;
  greatest = 0;
  over = 0;
  refused = 0;
}) []
unfolding metered_pictures
new_stands target bucket =
    record {
      past = [];
      going = (refl, refl);
      time = refl;
      count = refl;
      level = sym (level_none target);
      greatest = sym (greatest_level_none target);
      over = sym (over_none target bucket);
      refused = refl;
    }

-- the picture that is going on, as the pictures have it
going_none : (m : Meter) (packets : List (List ℕ)) → m.picture ≡ None → (s : MeterStands m packets)
    → IsGoing None s.past (metered_pictures packets)
going_none m packets e s = subst (λ (o : Option Picture). IsGoing o s.past (metered_pictures packets)) e s.going

going_at : (m : Meter) (packets : List (List ℕ)) (p : Picture) → m.picture ≡ Some p → (s : MeterStands m packets)
    → metered_pictures packets ≡ s.past ++ p ∷ []
going_at m packets p e s = subst (λ (o : Option Picture). IsGoing o s.past (metered_pictures packets)) e s.going

first_stands : (m : Meter) (packets : List (List ℕ)) (bytes : List ℕ) (x : Picture) (r : Rtp)
    → rtp_in bytes ≡ Ok r → picture_alone bytes ≡ x ∷ [] → m.picture ≡ None → MeterStands m packets
    → MeterStands (record m { picture = Some x }) (packets ++ bytes ∷ [])
first_stands m packets bytes x r ok e none s =
    let g = going_none m packets none s in
    record {
      past = s.past;
      going = pictures_first packets bytes x e g.1 ∙ sym (ap (λ (l : List Picture). l ++ x ∷ []) g.0);
      time = time_push packets bytes x e;
      count = s.count;
      level = s.level;
      greatest = s.greatest;
      over = s.over;
      refused = s.refused ∙ sym (refused_same packets bytes r ok);
    }

same_stands : (m : Meter) (packets : List (List ℕ)) (bytes : List ℕ) (x : Picture) (r : Rtp)
    → rtp_in bytes ≡ Ok r → picture_alone bytes ≡ x ∷ [] → (p : Picture) → m.picture ≡ Some p → MeterStands m packets
    → eqb p.timestamp x.timestamp ≡ true
    → MeterStands (record m { picture = Some (pictures_joined p x) }) (packets ++ bytes ∷ [])
same_stands m packets bytes x r ok e p is s same =
    record {
      past = s.past;
      going = pictures_same packets bytes x e s.past p (going_at m packets p is s) same;
      time = time_push packets bytes x e ∙ ap (λ (n : ℕ). Some n) (sym (eqb-true p.timestamp x.timestamp same));
      count = s.count;
      level = s.level;
      greatest = s.greatest;
      over = s.over;
      refused = s.refused ∙ sym (refused_same packets bytes r ok);
    }

next_stands : (m : Meter) (packets : List (List ℕ)) (bytes : List ℕ) (x : Picture) (r : Rtp)
    → rtp_in bytes ≡ Ok r → picture_alone bytes ≡ x ∷ [] → (p : Picture) → m.picture ≡ Some p → MeterStands m packets
    → eqb p.timestamp x.timestamp ≡ false
    → MeterStands (after_picture_with m p.size x) (packets ++ bytes ∷ [])
next_stands m packets bytes x r ok e p is s other =
    let k = subst (λ (l : List ℕ). Counts (after_picture m p.size) l) (sym (sizes_push s.past p))
    (counts_after m (sizes_in s.past) p.size (counts_of m packets s))
    in
    record {
      past = s.past ++ p ∷ [];
      going = pictures_next packets bytes x e s.past p (going_at m packets p is s) other;
      time = time_push packets bytes x e;
      count = k.count ∙ length-map (s.past ++ p ∷ []) (λ (q : Picture). q.size);
      level = k.level;
      greatest = k.greatest;
      over = k.over;
      refused = s.refused ∙ sym (refused_same packets bytes r ok);
    }

taken_by : (m : Meter) (packets : List (List ℕ)) (bytes : List ℕ) (x : Picture) (r : Rtp)
    → rtp_in bytes ≡ Ok r → picture_alone bytes ≡ x ∷ [] → (o : Option Picture) → m.picture ≡ o → MeterStands m packets
    → MeterStands (meter_taking m o x) (packets ++ bytes ∷ [])
taken_by m packets bytes x r ok e None is s = first_stands m packets bytes x r ok e is s
taken_by m packets bytes x r ok e (Some p) is s =
    cond_both (eqb p.timestamp x.timestamp) (record m { picture = Some (pictures_joined p x) })
    (after_picture_with m p.size x)
    (λ (n : Meter). MeterStands n (packets ++ bytes ∷ []))
    (same_stands m packets bytes x r ok e p is s)
    (next_stands m packets bytes x r ok e p is s)

-- the packet alone
abbrev pub read_as : Rtp → List ℕ → Picture
read_as r bytes = record { timestamp = r.timestamp; size = length bytes }

alone_is : (bytes : List ℕ) (r : Rtp) → rtp_in bytes ≡ Ok r → picture_alone bytes ≡ read_as r bytes ∷ []
alone_is bytes r e = rw e

pub taken_stands : (m : Meter) (packets : List (List ℕ)) (bytes : List ℕ) (r : Rtp)
    → rtp_in bytes ≡ Ok r → MeterStands m packets
    → MeterStands (meter_taking m m.picture (read_as r bytes)) (packets ++ bytes ∷ [])
taken_stands m packets bytes r ok s =
    taken_by m packets bytes (read_as r bytes) r ok (alone_is bytes r ok) m.picture refl s

-- ---- the answer

sizes_at : (packets : List (List ℕ)) (past : List Picture) (p : Picture) → metered_pictures packets ≡ past ++ p ∷ []
    → metered_sizes packets ≡ sizes_in past ++ p.size ∷ []
unfolding metered_sizes
sizes_at packets past p e = ap (λ (l : List Picture). sizes_in l) e ∙ sizes_push past p

-- the last picture, as the meter has it
last_at : (m : Meter) (packets : List (List ℕ)) (p : Picture) → m.picture ≡ Some p → MeterStands m packets
    → last_of m.target (metered_sizes packets) ≡ (m.pictures, p.size, m.level + p.size - m.target)
last_at m packets p is s =
    let k = counts_of m packets s in
    ap (λ (l : List ℕ). last_of m.target l) (sizes_at packets s.past p (going_at m packets p is s))
    ∙ last_push m.target (sizes_in s.past) p.size
    ∙ ap (λ (n : ℕ). (n, p.size, level_of m.target (sizes_in s.past) + p.size - m.target)) (sym k.count)
    ∙ ap (λ (n : ℕ). (m.pictures, p.size, n + p.size - m.target)) (sym k.level)

tells : (m : Meter) (packets : List (List ℕ)) (p x : Picture) (b : Bool)
    → last_of m.target (metered_sizes packets) ≡ (m.pictures, p.size, m.level + p.size - m.target)
    → cond b Same (Ended m.pictures p.size (m.level + p.size - m.target))
    ≡ cond (not b) (ended (last_of m.target (metered_sizes packets))) Same
tells m packets p x true e = refl
tells m packets p x false e = ap (λ (l : ℕ × ℕ × ℕ). ended l) (sym e)

answer_at : (m : Meter) (packets : List (List ℕ)) (r : Rtp) (o : Option ℕ) → last_time (accepted packets) ≡ o
    → cond (differs o r.timestamp) (ended (last_of m.target (metered_sizes packets))) Same
    ≡ answer_of m.target packets (Ok r)
answer_at m packets r o e =
    ap (λ (t : Option ℕ). cond (differs t r.timestamp) (ended (last_of m.target (metered_sizes packets))) Same) (sym e)

told_by : (m : Meter) (packets : List (List ℕ)) (bytes : List ℕ) (r : Rtp) (o : Option Picture) → m.picture ≡ o
    → MeterStands m packets → telling m o (read_as r bytes) ≡ answer_of m.target packets (Ok r)
told_by m packets bytes r None is s =
    answer_at m packets r None (s.time ∙ ap (λ (o : Option Picture). timestamp_going_on o) is)
told_by m packets bytes r (Some p) is s =
    tells m packets p (read_as r bytes) (eqb p.timestamp r.timestamp) (last_at m packets p is s)
    ∙ answer_at m packets r (Some p.timestamp) (s.time ∙ ap (λ (o : Option Picture). timestamp_going_on o) is)

pub told : (m : Meter) (packets : List (List ℕ)) (bytes : List ℕ) (r : Rtp) → rtp_in bytes ≡ Ok r
    → MeterStands m packets → telling m m.picture (read_as r bytes) ≡ metered m.target packets bytes
told m packets bytes r ok s =
    told_by m packets bytes r m.picture refl s
    ∙ ap (λ (y : Result Rtp Fault). answer_of m.target packets y) (sym ok)

-- ---- a refused packet

pub refused_stands : (m : Meter) (packets : List (List ℕ)) (bytes : List ℕ) (fault : Fault)
    → rtp_in bytes ≡ Err fault → MeterStands m packets
    → MeterStands (record m { refused = m.refused + 1 }) (packets ++ bytes ∷ [])
refused_stands m packets bytes fault e s =
    record {
      past = s.past;
      going = subst (λ (l : List Picture). IsGoing m.picture s.past l) (sym (pictures_refused packets bytes fault e))
          s.going;
      time = ap (λ (l : List Picture). last_time l) (accepted_refused packets bytes fault e) ∙ s.time;
      count = s.count;
      level = s.level;
      greatest = s.greatest;
      over = s.over;
      refused = ap (λ (n : ℕ). n + 1) s.refused ∙ sym (refused_more packets bytes fault e);
    }

-- ---- room

past_few : (o : Option Picture) (past pictures : List Picture) → IsGoing o past pictures → length past ≤ length pictures
past_few None past pictures g =
    let a = ap (λ (l : List Picture). length l) g.0 in
    omega (arith, a)
past_few (Some p) past pictures g =
    let a = ap (λ (l : List Picture). length l) g in
    let b = length_push past p in
    omega (arith, a, b)

pub past_room : (law : ReadsShort) (m : Meter) (packets : List (List ℕ)) → MeterStands m packets
    → length packets ≤ 16777216
    → (m.pictures < 4294967295) × (m.over < 4294967295)
past_room law m packets s few =
    let a = past_few m.picture s.past (metered_pictures packets) s.going in
    let b = pictures_few law packets in
    let c = s.count in
    let d = over_few m.target m.bucket (sizes_in s.past) in
    let e = length-map s.past (λ (p : Picture). p.size) in
    let f = s.over in
    (omega (arith, a, b, c, few), omega (arith, a, b, d, e, f, few))

pub level_room : (law : ReadsShort) (m : Meter) (packets : List (List ℕ)) → MeterStands m packets
    → length packets ≤ 16777216
    → (p : Picture) → m.picture ≡ Some p → m.level + p.size ≤ 1099511627776
level_room law m packets s few p is =
    let a = bytes_short law packets in
    let b = ap (λ (l : List Picture). sum (sizes_in l)) (going_at m packets p is s) in
    let c = bytes_past s.past p in
    let d = level_short m.target (sizes_in s.past) in
    let e = s.level in
    omega (arith, a, b, c, d, e, few)

pub room_at_end : (law : ReadsShort) (m : Meter) (packets : List (List ℕ)) → MeterStands m packets
    → length packets ≤ 16777216
    → (p : Picture) → m.picture ≡ Some p → HasRoomAtEnd m p.size
room_at_end law m packets s few p is =
    let a = past_room law m packets s few in
    let b = level_room law m packets s few p is in
    record { pictures = a.0; over = a.1; level = omega (arith, b) }

room_with : (m : Meter) (p x : Picture) → m.level + p.size ≤ 1099511627776 → x.size ≤ 65535
    → m.level + p.size + x.size < 18446744073709551616
room_with m p x h k = omega (arith, h, k)

pub room_for : (law : ReadsShort) (m : Meter) (packets : List (List ℕ)) → MeterStands m packets
    → length packets < 16777216
    → (x : Picture) → x.size ≤ 65535 → HasRoomFor m x
room_for law m packets s few x short =
    let a = past_room law m packets s (omega (arith, few)) in
    record {
      pictures = a.0;
      over = a.1;
      level = λ p is. room_with m p x (level_room law m packets s (omega (arith, few)) p is) short;
    }

-- ---- the end of a log

totals_by : (target bucket : ℕ) (packets : List (List ℕ)) (sizes : List ℕ) → metered_sizes packets ≡ sizes
    → totals_of target bucket packets
    ≡ record {
      last = going_on target sizes;
      pictures = length sizes;
      greatest = greatest_level target sizes;
      over = over_in target bucket sizes;
      refused = refused_in packets;
    }
totals_by target bucket packets sizes e =
    ap (λ (l : List ℕ). record {
      last = going_on target l;
      pictures = length l;
      greatest = greatest_level target l;
      over = over_in target bucket l;
      refused = refused_in packets;
    }) e

-- two totals with the same fields
same_totals : (a b : Totals) → a.last ≡ b.last → a.pictures ≡ b.pictures → a.greatest ≡ b.greatest → a.over ≡ b.over
    → a.refused ≡ b.refused → a ≡ b
same_totals a b last pictures greatest over refused =
    ap (λ (x : Option (ℕ × ℕ × ℕ)). record a { last = x }) last
    ∙ ap (λ (x : ℕ). record a { last = b.last; pictures = x }) pictures
    ∙ ap (λ (x : ℕ). record b { greatest = x; over = a.over; refused = a.refused }) greatest
    ∙ ap (λ (x : ℕ). record b { over = x; refused = a.refused }) over
    ∙ ap (λ (x : ℕ). record b { refused = x }) refused

no_sizes : (packets : List (List ℕ)) → metered_pictures packets ≡ [] → metered_sizes packets ≡ []
unfolding metered_sizes
no_sizes packets e = ap (λ (l : List Picture). sizes_in l) e

pub closed_empty : (m : Meter) (packets : List (List ℕ)) → m.picture ≡ None → MeterStands m packets
    → record { last = None; pictures = m.pictures; greatest = m.greatest; over = m.over; refused = m.refused }
    ≡ totals_of m.target m.bucket packets
closed_empty m packets none s =
    let g = going_none m packets none s in
    let past = ap (λ (l : List Picture). sizes_in l) g.0 in
    let k = subst (λ (l : List ℕ). Counts m l) past (counts_of m packets s) in
    same_totals
    (record { last = None; pictures = m.pictures; greatest = m.greatest; over = m.over; refused = m.refused })
    (record {
      last = None;
      pictures = 0;
      greatest = greatest_level m.target [];
      over = over_in m.target m.bucket [];
      refused = refused_in packets;
    })
    refl k.count k.greatest k.over s.refused
    ∙ sym (totals_by m.target m.bucket packets [] (no_sizes packets g.1))

pub closed_with : (m : Meter) (packets : List (List ℕ)) (p : Picture) → m.picture ≡ Some p → MeterStands m packets
    → (n : Meter) → n ≡ after_picture m p.size
    → record {
      last = Some (m.pictures, p.size, n.level);
      pictures = n.pictures;
      greatest = n.greatest;
      over = n.over;
      refused = n.refused;
    }
    ≡ totals_of m.target m.bucket packets
closed_with m packets p is s n e =
    let sizes = sizes_in s.past ++ p.size ∷ [] in
    let k = counts_after m (sizes_in s.past) p.size (counts_of m packets s) in
    let c = counts_of m packets s in
    ap (λ (w : Meter). record {
      last = Some (m.pictures, p.size, w.level);
      pictures = w.pictures;
      greatest = w.greatest;
      over = w.over;
      refused = w.refused;
    }) e
    ∙ same_totals
    (record {
      last = Some (m.pictures, p.size, m.level + p.size - m.target);
      pictures = m.pictures + 1;
      greatest = (after_picture m p.size).greatest;
      over = (after_picture m p.size).over;
      refused = m.refused;
    })
    (record {
      last = going_on m.target sizes;
      pictures = length sizes;
      greatest = greatest_level m.target sizes;
      over = over_in m.target m.bucket sizes;
      refused = refused_in packets;
    })
    (ap (λ (x : ℕ × ℕ × ℕ). Some x) (sym (last_at m packets p is s)
    ∙ ap (λ (l : List ℕ). last_of m.target l) (sizes_at packets s.past p (going_at m packets p is s)))
    ∙ sym (going_push m.target (sizes_in s.past) p.size))
    k.count k.greatest k.over s.refused
    ∙ sym (totals_by m.target m.bucket packets sizes (sizes_at packets s.past p (going_at m packets p is s)))
