use Rattle.call_report.specs.declared.status.Status.TheVariants.{VideoRefused, Video2Refused}
use Rattle.log_command.proofs.Refusing.{none_refused}
use Rattle.log_command.proofs.laws.no_video_refused.Goals as goal

pub returns-clause-first : goal.returns-clause-first
returns-clause-first g c = λ setup inputs fault ends.
    let command = g.C.LogCommand in
    none_refused command.rules (VideoRefused fault) (record {
      fine = λ is. absurd (cc is);
      log = λ f is. absurd (cc is);
    }) (command.first setup) (command.head setup) inputs ends

pub returns-clause-second : goal.returns-clause-second
returns-clause-second g c = λ setup inputs fault ends.
    let command = g.C.LogCommand in
    none_refused command.rules (Video2Refused fault) (record {
      fine = λ is. absurd (cc is);
      log = λ f is. absurd (cc is);
    }) (command.first setup) (command.head setup) inputs ends
