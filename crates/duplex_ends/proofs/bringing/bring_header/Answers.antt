-- The messages before the place were brought, in the order of the header.
use Rattle.std.proofs.Common.{◌≡◌, ◌+◌, [], ◌∷◌, List, None, Some, Option, drop, ap, subst, ◌∙◌, arith, refl}
use Rattle.std.proofs.lemmas.List.{drop_more, drop_all}
use Rattle.h263_types.specs.declared.pace.FixedPace.{FixedPace}
use Rattle.h263_types.specs.declared.clock.Clock.{Clock}
use Rattle.duplex_call.specs.declared.queue.Carried.{Carried}
use Rattle.duplex_ends.specs.Bringing.{AreOfClock, IsReturning, carried_in}
use Rattle.duplex_call.specs.Duplex.{brought}
use Rattle.duplex_ends.proofs.Returning.{all_back}
use Rattle.duplex_ends.proofs.bringing.bring_header.Goals as goal

first_fits : (clock : Clock) (o : Option Carried) (rest : List (Option Carried))
    → AreOfClock clock (carried_in (o ∷ rest)) → AreOfClock clock (carried_in (o ∷ []))
first_fits clock None rest fit = tt
first_fits clock (Some m) rest fit = (fit.0, tt)

rest_fits : (clock : Clock) (o : Option Carried) (rest : List (Option Carried))
    → AreOfClock clock (carried_in (o ∷ rest)) → AreOfClock clock (carried_in rest)
rest_fits clock None rest fit = fit
rest_fits clock (Some m) rest fit = fit.1

pub header-init : goal.header-init
header-init c = record {
  fits = c.requires;
  params = refl;
  sent = refl;
  pace = refl;
  ready = λ way can. can;
  holds = λ p way receiver frames past ks paced h may. record {
    past = past;
    left = ks;
    holds = h;
    may = may;
    same = refl;
  };
}

pub bring_place-requires : goal.bring_place-requires
bring_place-requires c =
    let i = c.header.place-index in
    let next = drop_more c.args.header.now i None (omega (arith, c.header-test.true)) in
    first_fits c.args.clock _ (drop (i + 1) c.args.header.now)
    (subst (λ (l : List (Option Carried)). AreOfClock c.args.clock (carried_in l)) next c.header.invariant.fits)

pub header-preserved : goal.header-preserved
header-preserved c =
    let i = c.header.place-index in
    let next = drop_more c.args.header.now i None (omega (arith, c.header-test.true)) in
    let now = c.bring_place.ensures in
    let old = c.header.invariant in
    record {
      fits = rest_fits c.args.clock _ (drop (i + 1) c.args.header.now)
          (subst (λ (l : List (Option Carried)). AreOfClock c.args.clock (carried_in l)) next old.fits);
      params = now.params ∙ old.params;
      sent = now.sent ∙ old.sent;
      pace = now.pace ∙ old.pace;
      ready = λ way can. now.ready way (old.ready way can);
      holds = λ p way receiver frames past ks paced h may.
          now.holds p way receiver frames (brought ks past) (drop (i + 1) c.args.header.now)
          (ap (λ (pace : FixedPace). pace.quant) old.pace ∙ paced)
          (subst (λ (l : List (Option Carried)). IsReturning p way c.header.sender receiver frames (brought ks past)
          (carried_in l)) next
          (old.holds p way receiver frames past ks paced h may));
    }

pub returns-clause-holds : goal.returns-clause-holds
returns-clause-holds c = λ p way receiver frames past ks paced h may.
    let none : drop c.header.place-index c.args.header.now ≡ [] = drop_all c.header.place-index c.args.header.now
    (omega (arith, c.header-test.false)) in
    all_back p (c.event_laws.ensures p) way receiver frames c.header.sender (brought ks past)
    (subst (λ (l : List (Option Carried)). IsReturning p way c.header.sender receiver frames (brought ks past)
    (carried_in l)) none
    (c.header.invariant.holds p way receiver frames past ks paced h may))
