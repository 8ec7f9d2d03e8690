-- The word and its sign are the difference that they spell, and 32 is no difference but -32.
use Rattle.std.proofs.Common.{◌≡◌, ◌++◌, Bool, List, Result, Ok, Err, rules, ap, sym, ◌∙◌, arith}
use Rattle.std.specs.Prelude.{IfOk, IfErr, IsOkAnd, ℤ, pos, negsuc, ◌≤ℤ◌}
use mir.Val.{SFits, to_z, of_z}
use Rattle.std.specs.Int.{w8}
use Rattle.std.proofs.lemmas.Int.{to_z-of_z, ints}
use Rattle.h263_bits.specs.declared.fault.Fault.{Fault}
use Rattle.h263_bits.specs.Reading.{Bits, Gives, Takes, skip}
use Rattle.h263_bits.specs.Syntax.{reading, Spells}
use Rattle.h263_bits.specs.Elements.{IsWordOf, IsWordFault}
use Rattle.code_tables.specs.Tables.{mvd, mvd_words}
use Rattle.code_tables.proofs.Productive.{mvd_productive}
use Rattle.code_tables.proofs.SignedWords.{mvd_words_are}
use Rattle.code_tables.proofs.InRange.{mvd_low, mvd_high}
use Rattle.h263_bits.proofs.SyntaxLaws.{reads_texts, texts_read, reads_within, reads_err}
use Rattle.code_tables.proofs.words.read_mvd.Goals as goal

in_range : (v : ℤ) → negsuc 31 ≤ℤ v → v ≤ℤ pos 31 → SFits w8 v
in_range v low high = omega (arith, ints)

-- what is said of each return
every : (r : Result ℤ Fault) (old new : Bits) → Gives (λ (v : ℤ). v) r new (reading mvd old) → record {
  found : IfOk r (λ v. Takes old new (Spells mvd v));
  only : (v : ℤ) (text rest : List Bool) → Spells mvd v text → old.bits ≡ text ++ rest
      → IsOkAnd r (λ found. (found ≡ v) × (new.bits ≡ rest));
  fault : IfErr r (λ d. (d.at ≡ old.at) × IsWordFault (λ w. IsWordOf mvd_words w) old.bits d.kind);
  exact : Gives (λ (v : ℤ). v) r new (reading mvd old);
  low : IfOk r (λ v. negsuc 31 ≤ℤ v);
  high : IfOk r (λ v. v ≤ℤ pos 31);
}
every r old new e =
    let view = λ (v : ℤ). v in
    record {
      found = reads_texts view mvd r old new e;
      only = texts_read view mvd r old new mvd_productive e;
      fault = reads_err view mvd r old new (λ (d : Fault). (d.at ≡ old.at)
          × IsWordFault (λ w. IsWordOf mvd_words w) old.bits d.kind) e (λ d f. (mvd_words_are old d).0 f);
      exact = e;
      low = reads_within view mvd r old new (λ (v : ℤ). negsuc 31 ≤ℤ v) e mvd_low;
      high = reads_within view mvd r old new (λ (v : ℤ). v ≤ℤ pos 31) e mvd_high;
    }

pub returns-in-Some : goal.returns-in-Some
returns-in-Some c =
    let old = c.args.reader.now in
    let first = c.in-Some.ensures old (omega (arith, c.rest.ensures, c.if-rest-ge64.true))
    (sym c.peek_early-seen.ensures.value) in
    let value = c.in-Some.found.value in
    let after = skip c.in-Some.found.len old in
    let view = λ (v : ℤ). v in
    let low = reads_within view mvd (Ok value) old after (λ (v : ℤ). negsuc 31 ≤ℤ v) first.read mvd_low in
    let high = reads_within view mvd (Ok value) old after (λ (v : ℤ). v ≤ℤ pos 31) first.read mvd_high in
    let kept = to_z-of_z w8 value (in_range value low high) in
    every (Ok _) old c.skip.new.self (first.read ∙ ap (λ (v : ℤ). Ok (v, after)) (sym kept)
    ∙ ap (λ (b : Bits). Ok (to_z w8 (of_z w8 value), b)) (sym c.skip.ensures))

pub returns-else-value-eq32 : goal.returns-else-value-eq32
unfolding mvd reading
returns-else-value-eq32 c = every (Ok _) c.args.reader.now c.read_mvd_parts.new.reader (search rules)

pub returns-in-Err : goal.returns-in-Err
unfolding mvd reading
returns-in-Err c = every (Err _) c.args.reader.now c.read_mvd_parts.new.reader (search rules)

pub returns-then-value-eq32 : goal.returns-then-value-eq32
unfolding mvd reading
returns-then-value-eq32 c = every (Err _) c.args.reader.now c.read_mvd_parts.new.reader (search rules)
