-- What the program makes of its words and of its inputs.
use Rattle.std.specs.Prelude.{ℕ, ◌≡◌, Bool, true, false, not, List, [], ◌∷◌, Option, Some, None, map, drop, String, string_bytes}
use Rattle.std.specs.declared.io.ErrorKind.{ErrorKind}
use Rattle.std.specs.declared.io.ErrorKind.TheVariants as kinds
use Rattle.h263_outside.specs.declared.desk.Role.{Role}
use Rattle.h263_outside.specs.declared.desk.Role.TheVariants.{Video, Events, Report}
use Rattle.h263_types.specs.declared.params.Params.{Params}
use Rattle.call_report.specs.declared.status.Status.{Status}
use Rattle.call_report.specs.declared.status.Status.TheVariants.{OutOfMemory, Usage}
use Rattle.command_words.specs.declared.simple.WordStop.{WordStop}
use Rattle.command_words.specs.declared.simple.WordStop.TheVariants as stops
use Rattle.command_words.specs.declared.command.Command.{Command}
use Rattle.command_words.specs.declared.command.Command.TheVariants.{Call, Send, Recv, Demo, Rate, Audit, Duplex, Group}
use Rattle.h263_types.specs.Texts.{Text}
use Rattle.command_words.specs.Asked.{Asked, asked, roles}
use Rattle.desk_program.specs.Run.{Run, run_from, refusal}
use Rattle.recv_command.specs.Recv.{recv_begin, recv_step}
use Rattle.recv_command.specs.Join.{join_begin, join_step}
use Rattle.send_command.specs.declared.sending.Sending.{Sending}
use Rattle.send_command.specs.Send.{send_begin, send_step}
use Rattle.rate_command.specs.declared.rate.Bucket.{Bucket}
use Rattle.rate_command.specs.Rate.{rate_begin, rate_step}
use Rattle.audit_command.specs.Audit.{audit_begin, audit_step}
use Rattle.call_command.specs.declared.terms.Terms.{Terms}
use Rattle.call_command.specs.Call.{call_begin, call_step, most_turns}
use Rattle.demo_command.specs.declared.terms.DemoTerms.{DemoTerms}
use Rattle.demo_command.specs.Demo.{demo_begin, demo_step}
use Rattle.demo_command.specs.Demo as demo
use Rattle.duplex_command.specs.Begin.{duplex_run}
use Rattle.group_command.specs.declared.terms.GroupTerms.{GroupTerms}
use Rattle.group_command.specs.Group.{group_call_run}

-- ---- the words

-- the command that the words are, if they are one
abbrev pub command_of : List Text → Option Asked
command_of words = asked words

-- how a run ends whose words were not read
abbrev pub word_stop : WordStop → Status
word_stop stops.OutOfMemory = OutOfMemory
word_stop stops.Usage = Usage

-- the words are all arguments but the first, which is the program's name
abbrev pub words_in : {A : Type 0} → List (String A) → List Text
words_in args = map string_bytes (drop 1 args)

-- how a run ends whose arguments the host didn't give: there was no memory for them, or one is no text
abbrev pub unread_words : ErrorKind → Status
unread_words kinds.OutOfMemory = OutOfMemory
unread_words _ = Usage

-- ---- the roles

-- the word by which a role is attached; a command has one for each of its roles
abbrev pub the_word : Option Text → Text
the_word None = []
the_word (Some word) = word

-- the roles of a command in their order, with their words
abbrev pub roles_of : Command → Asked → List (Role × Text)
roles_of c a = map (λ r. (r.0, the_word (a.given r.1))) (roles c)

-- these are the roles of a command, with the words of someone who asked for it
pub record AreRolesOf (c : Command) (order : List (Role × Text)) : Type 0 where
  pub asked : Asked
  pub are : order ≡ roles_of c asked

-- the report comes first, by the empty word
abbrev pub order_from : Option Asked → List (Role × Text)
order_from None = (Report, []) ∷ []
order_from (Some a) = (Report, []) ∷ roles_of a.command a

-- the input whose end is the end of the run
abbrev pub source_of_command : Command → Option Role
source_of_command (Call params false) = Some Video
source_of_command (Call params true) = Some Events
source_of_command (Send params target fit) = Some Events
source_of_command (Recv params join) = Some Events
source_of_command (Demo params seed frames) = None
source_of_command (Rate target bucket) = Some Events
source_of_command (Audit params) = Some Events
source_of_command (Duplex params) = Some Events
source_of_command (Group params receivers) = Some Events

abbrev pub source_from : Option Asked → Option Role
source_from None = None
source_from (Some a) = source_of_command a.command

-- ---- the output

-- words that are no command
abbrev pub no_command : Run
no_command = record { turns = []; last = refusal Usage }

-- what a call is asked for: over its plain trace, or over a recorded one
abbrev pub terms_of : Params → Bool → Terms
terms_of params traced = record { params = params; plain = not traced }

-- what a sender alone is asked for
abbrev pub sending_of : Params → Option ℕ → Option ℕ → Sending
sending_of params target fit = record { params = params; target = target; fit = fit }

-- what a call on made input is asked for
abbrev pub demo_terms : Params → ℕ → ℕ → DemoTerms
demo_terms params seed frames = record { params = params; seed = seed; frames = frames }

-- what a group's call is asked for
abbrev pub group_terms : Params → ℕ → GroupTerms
group_terms params receivers = record { params = params; receivers = receivers }

-- what a log is measured against
abbrev pub bucket_of : ℕ → ℕ → Bucket
bucket_of target bucket = record { target = target; bucket = bucket }

-- what a command makes of its inputs, turn by turn
abbrev pub run_of_command : Command → (Role → List ℕ) → Run
run_of_command (Call params traced) inputs =
    run_from (call_begin (terms_of params traced) inputs) call_step (most_turns (not traced)) inputs
run_of_command (Send params target fit) inputs =
    run_from (send_begin (sending_of params target fit) inputs) send_step 16777216 inputs
run_of_command (Recv params false) inputs = run_from (recv_begin params inputs) recv_step 16777216 inputs
run_of_command (Recv params true) inputs = run_from (join_begin params inputs) join_step 16777216 inputs
run_of_command (Demo params seed frames) inputs =
    run_from (demo_begin (demo_terms params seed frames) inputs) demo_step
    (demo.made_turns (demo_terms params seed frames)) inputs
run_of_command (Rate target bucket) inputs =
    run_from (rate_begin (bucket_of target bucket) inputs) rate_step 16777216 inputs
run_of_command (Audit params) inputs = run_from (audit_begin params inputs) audit_step 16777216 inputs
run_of_command (Duplex params) inputs = duplex_run params inputs
run_of_command (Group params receivers) inputs = group_call_run (group_terms params receivers) inputs

-- what a command gives where the inputs hold these bytes: texts turn by turn, and a status. Where
-- none was asked for it is Usage.
abbrev pub output_of : Option Asked → (Role → List ℕ) → Run
output_of None inputs = no_command
output_of (Some a) inputs = run_of_command a.command inputs
