use Rattle.std.proofs.Common.{refl}
use Rattle.duplex_call.specs.declared.line.Party.TheVariants.{A}
use Rattle.duplex_call.specs.Duplex.{no_runs}
use Rattle.test_layers.proofs.duplex_ends_rows.Two.start.Goals as goal

-- both parties have the same parameters, and have done nothing
pub returns-in-Ok : goal.returns-in-Ok
returns-in-Ok c = record {
  params = λ y. c.args.params.now;
  party = A;
  ways = no_runs;
  holds = (c.pair_laws.ensures (λ y. c.args.params.now)).first A c.in_ok-a.a c.in-Ok.b (λ y. c.requires)
      refl c.in_ok-a.ensures c.in-Ok.ensures;
}
