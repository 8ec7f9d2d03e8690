use Rattle.std.proofs.Common.{rules, ◌≡◌, ℕ, ◌+◌, ◌-◌, ◌<◌, List, Option, [], ◌∷◌, ◌++◌, length, take, drop, true, sym, ap, subst, ◌∙◌, arith}
use Rattle.std.specs.Prelude.{is_some, IfSome}
use Rattle.std.proofs.lemmas.List.{length-take-le}
use Rattle.payload_join.specs.Packet.{bytes_between}
use Rattle.payload_join.specs.Split.{split_of}
use Rattle.payload_join.specs.Places.{PacketPlaces}
use Rattle.payload_join.specs.Fronts.{bytes_of_front}
use Rattle.payload_join.specs.Giving.{left_in, left_of_unit}
use Rattle.payload_join.proofs.Rooms.{built_last, built_cut}
use Rattle.payload_join.proofs.giving.build.Goals as goal

pub returns-in-None-clause-packet : goal.returns-in-None-clause-packet
returns-in-None-clause-packet c =
    let g = c.args.giving.now in let room = c.args.ring.now.room in let is = c.requires.is in
    let p = c.args.giving.now.at - c.args.giving.now.front.len in
    let size : length c.args.ring.now.room ≡ 65535 = ap (length {A = ℕ}) (sym c.room.ensures.value)
    ∙ c.room.ensures.size in
    let bytes : length c.args.giving.now.front.bytes ≡ 77 = search rules in
    let long = length-take-le c.args.giving.now.front.len c.args.giving.now.front.bytes (omega (arith, bytes, is.front))
    in
    let last = subst (λ (r : List ℕ). left_of_unit g (bytes_between r g.at g.to)
    ≡ (bytes_of_front g.front ++ bytes_between r g.at g.to) ∷ []) c.room.ensures.value
    (c.part_end-end.ensures.none (ap (λ (o : Option ℕ). is_some o) c.in-None.is)) in
    built_last g room p c.requires.left (omega (arith, long, is.front, is.at)) is.order (omega (arith, size, is.end))
    last
    ∙ ap (λ (t : PacketPlaces). bytes_between t.room p g.to ∷ []) (sym c.write.ensures)

pub returns-in-Some-clause-packet : goal.returns-in-Some-clause-packet
returns-in-Some-clause-packet c =
    let g = c.args.giving.now in let room = c.args.ring.now.room in let is = c.requires.is in
    let len = c.in-Some.len in
    let p = c.args.giving.now.at - c.args.giving.now.front.len in
    let size : length c.args.ring.now.room ≡ 65535 = ap (length {A = ℕ}) (sym c.room.ensures.value)
    ∙ c.room.ensures.size in
    let bytes : length c.args.giving.now.front.bytes ≡ 77 = search rules in
    let long = length-take-le c.args.giving.now.front.len c.args.giving.now.front.bytes (omega (arith, bytes, is.front))
    in
    let splits = subst (λ (o : Option ℕ). IfSome o (λ _. g.splits ≡ true)) c.in-Some.is c.part_end-end.ensures.splits in
    let there = subst (λ (o : Option ℕ). IfSome o (λ n. g.at + n + 2 < g.to)) c.in-Some.is c.part_end-end.ensures.there
    in
    let coded = bytes_between c.room.result.now g.at g.to in
    let some = subst (λ (o : Option ℕ). IfSome o (λ n. split_of coded ≡ take n coded ∷ split_of (drop (n + 2) coded)))
    c.in-Some.is c.part_end-end.ensures.some in
    let cut = subst (λ (r : List ℕ). split_of (bytes_between r g.at g.to)
    ≡ take len (bytes_between r g.at g.to) ∷ split_of (drop (len + 2) (bytes_between r g.at g.to)))
    c.room.ensures.value some in
    built_cut g room p len c.requires.left splits (omega (arith, long, is.front, is.at)) there
    (omega (arith, size, is.end)) cut
    ∙ ap (λ (t : PacketPlaces). bytes_between t.room p (g.at + len) ∷ left_in (record g {
      at = g.at + len + 2;
      front = g.other;
    }) t.room) (sym c.write.ensures)
