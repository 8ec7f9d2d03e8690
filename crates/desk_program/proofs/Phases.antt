-- What the phase of a status says of it.
use Rattle.std.proofs.Common.{◌≡◌, [], refl}
use Rattle.call_report.specs.declared.status.Status.{Status}
use Rattle.call_report.specs.declared.status.Status.TheVariants.{Ok as Fine, OutOfMemory, Usage, ReadFault, WriteFault, VideoRefused, TraceRefused, LogRefused, OpenFault, Video2Refused}
use Rattle.call_report.specs.Status.{phase}
use Rattle.call_report.specs.Status.Phase.{unwritten}
use Rattle.call_report.specs.Text.{status_text}

-- after a failed write there is no line
pub no_line : (s : Status) → phase s ≡ unwritten → status_text s ≡ []
no_line Fine is = absurd (cc is)
no_line OutOfMemory is = absurd (cc is)
no_line Usage is = absurd (cc is)
no_line ReadFault is = absurd (cc is)
no_line WriteFault is = refl
no_line (VideoRefused fault) is = absurd (cc is)
no_line (TraceRefused fault) is = absurd (cc is)
no_line (LogRefused fault) is = absurd (cc is)
no_line (OpenFault role) is = absurd (cc is)
no_line (Video2Refused fault) is = absurd (cc is)
