-- A unit is made where its packets are all there, and no earlier packet made it.
use Rattle.std.proofs.Common.{◌≡◌, ◌+◌, ◌≤◌, Some, sym, ◌∙◌, arith}
use Rattle.payload_join.specs.Unit.{unit_at}
use Rattle.payload_join.specs.Places.{window_packet}
use Rattle.payload_join.proofs.Following.{out_not, out_long, out_whole, is_whole}
use Rattle.payload_join.proofs.units.made_by.Goals as goal

pub overflow_add-end : goal.overflow_add-end
overflow_add-end c =
    let upto : c.args.first + c.in_ok-follow.follow ≤ c.args.last = c.in_ok-follow.ensures.upto in omega arith

pub overflow_add-follow : goal.overflow_add-follow
overflow_add-follow c =
    let upto : c.args.first + c.in_ok-follow.follow ≤ c.args.last = c.in_ok-follow.ensures.upto in omega arith

pub makes-requires : goal.makes-requires
makes-requires c =
    let upto : c.args.first + c.in_ok-follow.follow ≤ c.args.last = c.in_ok-follow.ensures.upto in omega arith

pub coded_len-requires-clause-few : goal.coded_len-requires-clause-few
coded_len-requires-clause-few c =
    let upto : c.args.first + c.in_ok-follow.follow ≤ c.args.last = c.in_ok-follow.ensures.upto in omega arith

pub coded_len-requires-clause-fits : goal.coded_len-requires-clause-fits
coded_len-requires-clause-fits c =
    let upto : c.args.first + c.in_ok-follow.follow ≤ c.args.last = c.in_ok-follow.ensures.upto in omega arith

pub returns-then-not-makes-clause-out : goal.returns-then-not-makes-clause-out
returns-then-not-makes-clause-out c format =
    let upto : c.args.first + c.in_ok-follow.follow ≤ c.args.last = c.in_ok-follow.ensures.upto in
    let exact : Some c.in_ok-follow.follow ≡ unit_at (window_packet c.args.ring.now.packets c.args.last) c.args.first =
    c.in_ok-follow.ensures.exact in
    out_not format c.args.ring.now.packets c.args.number c.args.first c.args.last c.in_ok-follow.follow upto
    (sym c.makes.ensures ∙ c.if-not-makes.true) exact

pub returns-then-coded_len-gt-MOST-clause-out : goal.returns-then-coded_len-gt-MOST-clause-out
returns-then-coded_len-gt-MOST-clause-out c format =
    let upto : c.args.first + c.in_ok-follow.follow ≤ c.args.last = c.in_ok-follow.ensures.upto in
    let exact : Some c.in_ok-follow.follow ≡ unit_at (window_packet c.args.ring.now.packets c.args.last) c.args.first =
    c.in_ok-follow.ensures.exact in
    let len = c.coded_len.ensures in
    out_long format c.args.ring.now.packets c.args.number c.args.first c.args.last c.in_ok-follow.follow upto
    (sym c.makes.ensures ∙ c.if-not-makes.false) exact (omega arith)

pub returns-clause-out : goal.returns-clause-out
returns-clause-out c format =
    let upto : c.args.first + c.in_ok-follow.follow ≤ c.args.last = c.in_ok-follow.ensures.upto in
    let exact : Some c.in_ok-follow.follow ≡ unit_at (window_packet c.args.ring.now.packets c.args.last) c.args.first =
    c.in_ok-follow.ensures.exact in
    out_whole format c.args.ring.now.packets c.args.number c.args.first c.args.last c.in_ok-follow.follow upto
    (sym c.makes.ensures ∙ c.if-not-makes.false) exact

pub returns-clause-whole : goal.returns-clause-whole
returns-clause-whole c =
    let upto : c.args.first + c.in_ok-follow.follow ≤ c.args.last = c.in_ok-follow.ensures.upto in
    let exact : Some c.in_ok-follow.follow ≡ unit_at (window_packet c.args.ring.now.packets c.args.last) c.args.first =
    c.in_ok-follow.ensures.exact in
    let len = c.coded_len.ensures in
    is_whole c.args.ring.now.packets c.args.first c.args.last c.in_ok-follow.follow upto c.requires.fits exact
    (omega arith)
