use Rattle.std.proofs.Common.{◌≡◌, ℕ, false, [], refl, arith}
use Rattle.packet_collector.specs.Taken.{is_any_taken}
use Rattle.call_model.specs.CodedPictures.{is_among}
use Rattle.call_decoding.specs.Rules.{rules_of}
use Rattle.stream_audit.proofs.kept.Kept.start.Goals as goal

none_taken : (n : ℕ) → is_any_taken [] n ≡ false
unfolding is_any_taken
none_taken n = refl

pub returns-clause-fits : goal.returns-clause-fits
returns-clause-fits c = record {
  params = c.requires;
  format = c.in_ok-collector.ensures.format;
  row = c.in_ok-collector.ensures.many;
  few = omega arith;
  taken = [];
  collects = c.in_ok-collector.ensures.empty;
  before_first = λ first. (refl, none_taken 0);
}

pub returns-clause-stands : goal.returns-clause-stands
returns-clause-stands c = record {
  broken = refl;
  keeps = λ none. record {
    count = refl;
    tr = refl;
    taken = [];
    collects = c.in_ok-collector.ensures.empty;
    last = none_taken 0;
    known = c.start-2.ensures (rules_of c.args.params.now) (λ (m : ℕ). 0) (is_among []) refl refl refl refl;
  };
}
