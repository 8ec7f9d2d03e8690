-- What words that were read ask for.
use Rattle.clap.specs.Words.{first_value, found_of}
use Rattle.command_words.specs.declared.words.Words.{Words}
use Rattle.command_words.specs.declared.forms.Form.{Form}
use Rattle.command_words.specs.declared.forms.Form.TheVariants.{Call, Send, Recv, Demo, Rate, Audit, Duplex, Group}
use Rattle.command_words.specs.Asked.{Asked, Row, call, send, recv, demo, rate, audit, duplex, group}

abbrev pub asked_of : Words → Asked
asked_of w = record { command = w.command; given = first_value (found_of w.given) }

-- the row of a form
abbrev pub form_row : Form → Row
form_row Call = call
form_row Send = send
form_row Recv = recv
form_row Demo = demo
form_row Rate = rate
form_row Audit = audit
form_row Duplex = duplex
form_row Group = group
