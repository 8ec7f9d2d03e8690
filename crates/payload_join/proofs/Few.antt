-- How many packets go out at most.
use Rattle.std.proofs.Common.{◌≡◌, ℕ, zero, suc, ◌+◌, ◌-◌, ◌*◌, ◌^◌, ◌≤◌, Bool, true, false, List, [], ◌∷◌, length, map, Option, Some, None, Result, Ok, Err, refl, arith, length-append}
use Rattle.std.proofs.lemmas.Bool.{ltb-false}
use Rattle.std.proofs.lemmas.List.{length-map}
use Rattle.std.specs.Prelude.{nat_lt}
use Rattle.h263_bits.specs.declared.fault.Fault.{Fault}
use Rattle.h263_types.specs.declared.format.Format.{Format}
use Rattle.payload_join.specs.declared.took.Took.{Took}
use Rattle.payload_join.specs.declared.took.Took.TheVariants as tooks
use Rattle.payload_join.specs.Packet.{Packet, Extra, packet_in}
use Rattle.payload_join.specs.Split.{starts_code, byte_onto, split_of}
use Rattle.payload_join.specs.Unit.{held_packet, unit_at}
use Rattle.payload_join.specs.Outgoing.{begins_picture, begun_out, coded_from, each_out, header_copied, no_extra, out_by, outgoing, outgoing_of, picture_out, unit_out}
use Rattle.payload_join.specs.Run.{JoinedSoFar, given, given_as, given_next, joined_by, made_from, made_one, made_up_to, joined_number, took, with_packet}
use Rattle.payload_join.proofs.Growing.{At}

onto_few : (byte : ℕ) (parts : List (List ℕ)) → length (byte_onto byte parts) ≤ length parts + 1
onto_few byte [] = omega arith
onto_few byte (part ∷ parts) = omega arith

-- each part but the last ends before two bytes that are dropped
parts_few : (coded : List ℕ) → length (split_of coded) ≤ length coded + 1
unfolding split_of
parts_few [] = omega arith
parts_few (a ∷ []) = omega arith
parts_few (a ∷ b ∷ []) = omega arith
parts_few (a ∷ b ∷ c ∷ bytes) = go (starts_code a b c) refl (parts_few (c ∷ bytes)) (parts_few (b ∷ c ∷ bytes))
  where
    go : (t : Bool) → starts_code a b c ≡ t → length (split_of (c ∷ bytes)) ≤ length (c ∷ bytes) + 1
        → length (split_of (b ∷ c ∷ bytes)) ≤ length (b ∷ c ∷ bytes) + 1
        → length (split_of (a ∷ b ∷ c ∷ bytes)) ≤ length (a ∷ b ∷ c ∷ bytes) + 1
    go true e cut whole = rw e (omega arith)
    go false e cut whole = let o = onto_few a (split_of (b ∷ c ∷ bytes)) in rw e (omega arith)

each_few : (first : Packet) (one other : Extra) (parts : List (List ℕ))
    → length (each_out first one other parts) ≤ length parts
each_few first one other [] = omega arith
each_few first one other (part ∷ parts) =
    let m : length (map (outgoing first other) parts) ≡ length parts = length-map parts (outgoing first other) in
    omega (arith, m)

picture_few : (first : Packet) (coded : List ℕ) (h : Option Extra)
    → length (picture_out first coded h) ≤ length coded + 1
picture_few first coded None = omega arith
picture_few first coded (Some h) =
    let e = each_few first no_extra h (split_of coded) in
    let p = parts_few coded in
    omega arith

begun_few : (format : Format) (first : Packet) (coded : List ℕ) (parts : List (List ℕ))
    → length (begun_out format first coded parts) ≤ length coded + 1
begun_few format first coded [] = picture_few first coded (header_copied format coded)
begun_few format first coded (part ∷ []) = omega arith
begun_few format first coded (part ∷ next ∷ parts) = picture_few first coded (header_copied format coded)

-- a unit gives as many packets as 65,400 bytes have parts
unit_few : (format : Format) (first : Packet) (coded : List ℕ) → length (unit_out format first coded) ≤ 65401
unfolding unit_out
unit_few format first coded = go (nat_lt 65400 (length coded)) refl (nat_lt 0 (length first.extra.bytes)) refl
    (begins_picture coded) refl
  where
    p : length (split_of coded) ≤ length coded + 1
    p = parts_few coded

    within : {n : ℕ} → nat_lt 65400 (length coded) ≡ false → n ≤ length coded + 1 → n ≤ 65401
    within {n} d le = let small = ltb-false 65400 (length coded) d in omega arith

    each : (one other : Extra) → length (each_out first one other (split_of coded)) ≤ length coded + 1
    each one other = let m = each_few first one other (split_of coded) in omega (arith, m, p)

    go : (large : Bool) → nat_lt 65400 (length coded) ≡ large → (extra : Bool) → nat_lt 0 (length first.extra.bytes)
        ≡ extra → (picture : Bool) → begins_picture coded ≡ picture
        → length (unit_out format first coded) ≤ 65401
    go true d extra e picture f = rw d (omega arith)
    go false d true e picture f = rw (d, e) (within d (each first.extra first.extra))
    go false d false e true f = rw (d, e, f) (within d (begun_few format first coded (split_of coded)))
    go false d false e false f = rw (d, e, f) (within d (each no_extra no_extra))

out_few : (format : Format) (coded : List ℕ) (first : Option Packet) → length (out_by format coded first) ≤ 65401
out_few format coded None = omega arith
out_few format coded (Some first) = unit_few format first coded

one_few : (format : Format) (now : At) (x : ℕ) (k before : Option ℕ) → length (made_one format now x k before) ≤ 65401
unfolding outgoing_of
one_few format now x None before = omega arith
one_few format now x (Some k) None = out_few format (coded_from now x (k + 1)) (now x)
one_few format now x (Some k) (Some j) = omega arith

made_few : (format : Format) (before now : At) (x count : ℕ)
    → length (made_from format before now x count) ≤ 65401 * count
unfolding made_from
made_few format before now x zero = omega arith
made_few format before now x (suc count) =
    let one = one_few format now x (unit_at now x) (unit_at before x) in
    let more = made_few format before now (x + 1) count in
    let all = length-append (made_one format now x (unit_at now x) (unit_at before x))
    (made_from format before now (x + 1) count) in
    omega arith

up_to_few : (format : Format) (before now : At) (top : Option ℕ) → length (made_up_to format before now top) ≤ 2 ^ 22
up_to_few format before now None = omega arith
up_to_few format before now (Some top) = let m = made_few format before now (top - 63) 64 in omega arith

as_few : (format : Format) (s : JoinedSoFar) (p : Packet) (t : Took) → length (given_as format s p t) ≤ 2 ^ 22
as_few format s p tooks.Held = up_to_few format (held_packet s.held)
    (held_packet (with_packet s (joined_number s.top p.sequence) p).held)
    (with_packet s (joined_number s.top p.sequence) p).top
as_few format s p tooks.Old = omega arith
as_few format s p tooks.Again = omega arith
as_few format s p (tooks.Refused fault) = omega arith

given_few : (format : Format) (s : JoinedSoFar) (r : Result Packet Fault) → length (given format s r) ≤ 2 ^ 22
given_few format s (Err fault) = omega arith
given_few format s (Ok p) = as_few format s p (took s (Ok p))

pub few_given : (format : Format) (past : List (List ℕ)) (bytes : List ℕ)
    → length (given_next format past bytes) ≤ 2 ^ 22
few_given format past bytes = given_few format (joined_by past) (packet_in bytes)
