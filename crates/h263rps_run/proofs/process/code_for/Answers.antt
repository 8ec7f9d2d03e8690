use Rattle.std.proofs.Common.{rules, IfOk, sym, subst}
use Rattle.std.specs.Process.{exit_status}
use Rattle.std.specs.Vec.Iter.{into_iter_items}
use Rattle.command_words.specs.Clap.{texts}
use Rattle.h263rps_run.specs.Output.{command_of, words_in}
use Rattle.h263rps_run.specs.Promises.{IsExit}
use Rattle.h263rps_run.proofs.Exits.{exit_by, exit_starved}
use Rattle.h263rps_run.proofs.process.code_for.Goals as goal

pub returns-in-Ok-words_of-clause-run : goal.returns-in-Ok-words_of-clause-run
returns-in-Ok-words_of-clause-run g c =
    let asked = command_of (words_in (into_iter_items c.in-Ok.args)) in
    let exit = exit_by g.D.Desk.outside c.args.desk.now c.code_of_words.new.desk c.texts_of.result
    (λ list. texts list.items) _ asked
    (exit_status c.code_of_words.result) c.requires c.code_of_words.ensures.run c.code_of_words.ensures.starved
    c.code_of_words.ensures.untouched
    c.texts_of.ensures (search rules) in
    subst (λ r. IfOk r (λ all. IsExit (command_of (words_in (into_iter_items all))) (exit_status c.code_of_words.result)
    (g.D.Desk.outside c.args.desk.now) (g.D.Desk.outside c.code_of_words.new.desk))) (sym c.in-Ok.is) exit

pub returns-in-Err-words_of-clause-run : goal.returns-in-Err-words_of-clause-run
returns-in-Err-words_of-clause-run g c =
    let failed = c.code_of_words-in-Err-words_of in
    let exit = exit_starved g.D.Desk.outside c.args.desk.now failed.new.desk
    (command_of (words_in (into_iter_items c.in-Ok.args))) (exit_status failed.result) c.requires failed.ensures.starved
    failed.ensures.untouched in
    subst (λ r. IfOk r (λ all. IsExit (command_of (words_in (into_iter_items all))) (exit_status failed.result)
    (g.D.Desk.outside c.args.desk.now) (g.D.Desk.outside failed.new.desk))) (sym c.in-Ok.is) exit
