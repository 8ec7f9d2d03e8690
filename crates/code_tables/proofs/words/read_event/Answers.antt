use Rattle.std.proofs.Common.{◌≡◌, ◌++◌, Bool, List, Result, Ok, ap, sym, ◌∙◌, arith}
use Rattle.std.specs.Prelude.{IfOk, IfErr, IsOkAnd}
use Rattle.h263_bits.specs.declared.fault.Fault.{Fault}
use Rattle.h263_bits.specs.Reading.{Bits, Gives, Takes, skip}
use Rattle.h263_bits.specs.Syntax.{reading, Spells}
use Rattle.code_tables.specs.declared.code.Coefficient.{Coefficient}
use Rattle.code_tables.specs.Events.{coefficient_of}
use Rattle.code_tables.specs.EventWords.{IsEventFault}
use Rattle.code_tables.specs.Tables.{event, Coefficient as Event}
use Rattle.code_tables.proofs.EventWords.{event_fault}
use Rattle.code_tables.proofs.Productive.{event_productive}
use Rattle.h263_bits.proofs.SyntaxLaws.{reads_texts, texts_read, reads_err}
use Rattle.code_tables.proofs.SeenEvents.{event_read}
use Rattle.code_tables.proofs.words.read_event.Goals as goal

-- what is said of each return
every : (r : Result Coefficient Fault) (old new : Bits) → Gives coefficient_of r new (reading event old) → record {
  found : IfOk r (λ e. Takes old new (Spells event (coefficient_of e)));
  only : (e : Event) (text rest : List Bool) → Spells event e text → old.bits ≡ text ++ rest
      → IsOkAnd r (λ found. (coefficient_of found ≡ e) × (new.bits ≡ rest));
  fault : IfErr r (λ d. (d.at ≡ old.at) × IsEventFault old.bits d.kind);
  exact : Gives coefficient_of r new (reading event old);
}
every r old new e = record {
  found = reads_texts coefficient_of event r old new e;
  only = texts_read coefficient_of event r old new event_productive e;
  fault = reads_err coefficient_of event r old new (λ (d : Fault). (d.at ≡ old.at) × IsEventFault old.bits d.kind) e
      (λ d f. event_fault old d f);
  exact = e;
}

pub returns-in-Some : goal.returns-in-Some
returns-in-Some c =
    let old = c.args.reader.now in
    let first = c.in-Some.ensures old (omega (arith, c.rest.ensures, c.if-rest-ge13.true))
    (sym c.peek-seen.ensures.value) in
    every (Ok _) old c.skip.new.self (event_read old (skip c.in-Some.found.len old) _ first.read
    ∙ ap (λ (b : Bits). Ok (coefficient_of c.in-Some.found.event, b)) (sym c.skip.ensures))

pub returns : goal.returns
returns c = every c.read_rare_event.result c.args.reader.now c.read_rare_event.new.reader c.read_rare_event.ensures
