-- A unit's own starts of pictures and slices are where a first fault shows that its front ends.
use Rattle.std.proofs.Common.{Some, ap, sym, ◌∙◌}
use Rattle.std.specs.Prelude.{not}
use Rattle.payload_join.specs.Packet.{bytes_between}
use Rattle.payload_join.specs.Outgoing.{begins_picture}
use Rattle.payload_join.specs.Places.{place_at}
use Rattle.payload_join.specs.Ring.{IsSeenPacket}
use Rattle.payload_join.specs.Giving.{left_in}
use Rattle.payload_join.proofs.Parted.{short_between, by_extra, by_none, by_one, by_header, by_no_header, cut_found}
use Rattle.payload_join.proofs.giving.fronts.Goals as goal

pub returns-then-first-gt0-clause-left : goal.returns-then-first-gt0-clause-left
returns-then-first-gt0-clause-left c =
    let room = c.args.ring.now.room in
    let seen : IsSeenPacket (Some c.in-Some.first) (place_at c.args.ring.now.packets c.args.number) =
    c.in-Some.ensures in
    ap (λ g. left_in g room) c.all-then-first-gt0.ensures
    ∙ by_extra c.args.format (bytes_between room 77 c.args.to) (place_at c.args.ring.now.packets c.args.number)
    c.in-Some.first c.front_with-each.result seen.0 seen.1 seen.2 (short_between room c.args.to c.requires.short)
    c.if-first-gt0.true c.extra.ensures c.front_with-each.ensures.bytes

pub returns-then-not-begins_picture-clause-left : goal.returns-then-not-begins_picture-clause-left
returns-then-not-begins_picture-clause-left c =
    let room = c.args.ring.now.room in
    let seen : IsSeenPacket (Some c.in-Some.first) (place_at c.args.ring.now.packets c.args.number) =
    c.in-Some.ensures in
    let coded = ap (λ l. bytes_between l 77 c.args.to) c.room.ensures.value in
    ap (λ g. left_in g room) c.all-then-not-begins_picture.ensures
    ∙ by_none c.args.format (bytes_between room 77 c.args.to) (place_at c.args.ring.now.packets c.args.number)
    c.in-Some.first c.front_with-plain.result seen.0 seen.1 seen.2 (short_between room c.args.to c.requires.short)
    c.if-first-gt0.false c.front_with-plain.ensures.bytes
    (ap begins_picture (sym coded) ∙ sym c.begins_picture.ensures ∙ c.if-not-begins_picture.true)

pub returns-then-is_none-clause-left : goal.returns-then-is_none-clause-left
returns-then-is_none-clause-left c =
    let room = c.args.ring.now.room in
    let seen : IsSeenPacket (Some c.in-Some.first) (place_at c.args.ring.now.packets c.args.number) =
    c.in-Some.ensures in
    let coded = ap (λ l. bytes_between l 77 c.args.to) c.room.ensures.value in
    ap (λ g. left_in g room) c.all-then-is_none.ensures
    ∙ by_one c.args.format (bytes_between room 77 c.args.to) (place_at c.args.ring.now.packets c.args.number)
    c.in-Some.first c.front_with-plain.result seen.0 seen.1 seen.2 (short_between room c.args.to c.requires.short)
    c.if-first-gt0.false c.front_with-plain.ensures.bytes
    (ap begins_picture (sym coded) ∙ sym c.begins_picture.ensures ∙ c.if-not-begins_picture.false)
    coded (c.first_cut.ensures.none (c.is_none.ensures ∙ ap not c.if-is_none.true))

pub returns-in-Some-find_end-clause-left : goal.returns-in-Some-find_end-clause-left
returns-in-Some-find_end-clause-left c =
    let room = c.args.ring.now.room in
    let seen : IsSeenPacket (Some c.in-Some.first) (place_at c.args.ring.now.packets c.args.number) =
    c.in-Some.ensures in
    let coded = ap (λ l. bytes_between l 77 c.args.to) c.room.ensures.value in
    let cut = cut_found (bytes_between c.room.result.now 77 c.args.to) c.first_cut.result (c.is_none.ensures
    ∙ ap not c.if-is_none.false) c.first_cut.ensures.some in
    ap (λ g. left_in g room) c.all-in-Some-find_end.ensures
    ∙ by_header c.args.format (bytes_between room 77 c.args.to) (place_at c.args.ring.now.packets c.args.number)
    c.in-Some.first c.front_with-plain.result c.padded_front-other.result c.in-Some-find_end.bits seen.0 seen.1
    seen.2 (short_between room c.args.to c.requires.short) c.if-first-gt0.false c.front_with-plain.ensures.bytes
    (ap begins_picture (sym coded) ∙ sym c.begins_picture.ensures ∙ c.if-not-begins_picture.false)
    coded cut (sym c.in-Some-find_end.is ∙ c.find_end.ensures.exact) c.padded_front-other.ensures.bytes

pub returns-in-None-clause-left : goal.returns-in-None-clause-left
returns-in-None-clause-left c =
    let room = c.args.ring.now.room in
    let seen : IsSeenPacket (Some c.in-Some.first) (place_at c.args.ring.now.packets c.args.number) =
    c.in-Some.ensures in
    let coded = ap (λ l. bytes_between l 77 c.args.to) c.room.ensures.value in
    let cut = cut_found (bytes_between c.room.result.now 77 c.args.to) c.first_cut.result (c.is_none.ensures
    ∙ ap not c.if-is_none.false) c.first_cut.ensures.some in
    ap (λ g. left_in g room) c.all-in-None.ensures
    ∙ by_no_header c.args.format (bytes_between room 77 c.args.to) (place_at c.args.ring.now.packets c.args.number)
    c.in-Some.first c.front_with-plain.result seen.0 seen.1 seen.2 (short_between room c.args.to c.requires.short)
    c.if-first-gt0.false c.front_with-plain.ensures.bytes
    (ap begins_picture (sym coded) ∙ sym c.begins_picture.ensures ∙ c.if-not-begins_picture.false)
    coded cut (sym c.in-None.is ∙ c.find_end.ensures.exact)
