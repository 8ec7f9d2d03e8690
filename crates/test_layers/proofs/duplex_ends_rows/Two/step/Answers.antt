use Rattle.duplex_call.specs.Duplex.{other}
use Rattle.test_layers.proofs.duplex_ends_rows.Two.step.Goals as goal

pub take-requires-in-B : goal.take-requires-in-B
take-requires-in-B c =
    let e = c.requires in
    record {
      params = e.params;
      party = other e.party;
      ways = e.ways;
      holds = (c.pair_laws.ensures e.params).exchanged e.party c.args.self.now.a c.args.self.now.b e.ways e.holds;
    }

pub returns-in-B : goal.returns-in-B
returns-in-B c =
    let e = c.take-in-B.ensures in
    record {
      params = e.params;
      party = other e.party;
      ways = e.ways;
      holds = (c.pair_laws.ensures e.params).exchanged e.party c.take-in-B.new.own c.take-in-B.new.far e.ways e.holds;
    }
