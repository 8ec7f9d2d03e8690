-- What words ask for: a command with its parameters, and the words by which roles are attached.
use Rattle.std.specs.Prelude.{ℕ, true, false, ◌&&◌, ◌≤◌, List, [], ◌∷◌, ◌++◌, Option, Some, None, Result, Ok, Err, is_some, nat_le, IfSome, if◌then◌else◌, codes, find, option_and_then, option_map}
use Rattle.std.specs.List.{AllByRecursion}
use Rattle.std.specs.Str.{bytes_eq}
use Rattle.h263_outside.specs.Desk.{is_role}
use Rattle.h263_outside.specs.declared.desk.Role.{Role}
use Rattle.h263_outside.specs.declared.desk.Role.TheVariants.{Video, Events, Pictures, Wire, Video2, Pictures2}
use Rattle.h263_types.specs.Params.{IsParams, default_params, ranges, range_verdict}
use Rattle.h263_types.specs.declared.format.Format.TheVariants.{Qcif}
use Rattle.h263_types.specs.declared.params.Params.{Params}
use Rattle.h263_types.specs.declared.params.ParamFault.{ParamFault}
use Rattle.h263_types.specs.Texts.{Text}
use Rattle.command_words.specs.Simple.{Options, taken, value}
use Rattle.command_words.specs.Values.{byte_in, clock_in, format_worded, number_in, value_or}
use Rattle.command_words.specs.declared.command.Command.{Command}
use Rattle.command_words.specs.declared.command.Command.TheVariants.{Call, Send, Recv, Demo, Rate, Audit, Duplex, Group}

-- the value of each name that is given one
abbrev pub Lookup : Type 0
Lookup = Text → Option Text

-- ---- parameters

abbrev pub params_with_format : Lookup → Option Params
params_with_format given = option_map default_params (value_or Qcif format_worded (given (codes "format")))

abbrev pub with_quant : Lookup → Params → Option Params
with_quant given p = option_map (λ n. let q : Params = record p { quant = n } in q)
    (value_or p.quant byte_in (given (codes "quant")))

abbrev pub with_keep : Lookup → Params → Option Params
with_keep given p = option_map (λ n. let q : Params = record p { keep = n } in q)
    (value_or p.keep byte_in (given (codes "keep")))

abbrev pub with_radius : Lookup → Params → Option Params
with_radius given p = option_map (λ n. let q : Params = record p { radius = n } in q)
    (value_or p.radius byte_in (given (codes "radius")))

abbrev pub with_limit : Lookup → Params → Option Params
with_limit given p = option_map (λ n. let q : Params = record p { limit = n } in q)
    (value_or p.limit (number_in 6) (given (codes "limit")))

abbrev pub with_slots : Lookup → Params → Option Params
with_slots given p = option_map (λ n. let q : Params = record p { slots = n } in q)
    (value_or p.slots (number_in 6) (given (codes "slots")))

abbrev pub with_lead : Lookup → Params → Option Params
with_lead given p = option_map (λ n. let q : Params = record p { lead = n } in q)
    (value_or p.lead (number_in 6) (given (codes "lead")))

abbrev pub with_messages : Lookup → Params → Option Params
with_messages given p = option_map (λ n. let q : Params = record p { messages = n } in q)
    (value_or p.messages byte_in (given (codes "messages")))

abbrev pub with_clock : Lookup → Params → Option Params
with_clock given p = option_map (λ c. let q : Params = record p { clock = c } in q)
    (value_or p.clock clock_in (given (codes "clock")))

abbrev pub where_ok : Result Unit ParamFault → Params → Option Params
where_ok (Ok _) p = Some p
where_ok (Err _) p = None

-- where each is in its range
abbrev pub in_range : Params → Option Params
in_range p = where_ok (range_verdict (ranges p)) p

-- what the encoder is asked for
abbrev pub coding_of : Lookup → Params → Option Params
coding_of given p = option_and_then (with_limit given)
    (option_and_then (with_radius given) (option_and_then (with_keep given) (with_quant given p)))

-- what the call is asked for
abbrev pub timing_of : Lookup → Params → Option Params
timing_of given p = option_and_then (with_clock given)
    (option_and_then (with_messages given) (option_and_then (with_lead given) (with_slots given p)))

-- the parameters that the options give, each the default where its option isn't there
abbrev pub params_of : Lookup → Option Params
params_of given = option_and_then in_range
    (option_and_then (timing_of given) (option_and_then (coding_of given) (params_with_format given)))

-- ---- commands

-- the first word of a command, the names of its positional words and of its options, and what their
-- values ask for
pub record Row : Type 0 where
  pub word : Text
  pub places : List Text
  pub options : Options
  pub asks : Lookup → Option Command

-- options that each take a value
abbrev pub taking_values : List Text → Options
taking_values names = record { valued = names; switches = [] }

abbrev pub call_given : Lookup → Option Command
call_given given =
    option_map (λ params. Call params (is_some (given (codes "trace")))) (params_of given)

abbrev pub call : Row
call = record {
  word = codes "call";
  places = codes "in" ∷ codes "out" ∷ [];
  options = taking_values (codes "quant" ∷ codes "keep" ∷ codes "radius" ∷ codes "limit"
      ∷ codes "slots" ∷ codes "lead" ∷ codes "messages" ∷ codes "clock" ∷ codes "trace" ∷ []);
  asks = call_given;
}

-- a target of a byte at least, and of six digits at most
abbrev pub some_target : ℕ → Option ℕ
some_target n = if nat_le 1 n then Some n else None

abbrev pub target_in : Option Text → Option ℕ
target_in text = option_and_then some_target (option_and_then (number_in 6) text)

-- the target of a command that may go without one
abbrev pub target_or_none : Option Text → Option (Option ℕ)
target_or_none text = if is_some text then option_map (λ n. Some n) (target_in text) else Some None

abbrev pub send_with : Option ℕ → Option ℕ → Params → Command
send_with target fit params = Send params target fit

-- a target to follow or one to fit, but not both
abbrev pub send_of : Lookup → Option Command
send_of given = if is_some (given (codes "target")) && is_some (given (codes "fit")) then None
    else option_and_then (λ target. option_and_then (λ fit. option_map (send_with target fit) (params_of given))
    (target_or_none (given (codes "fit")))) (target_or_none (given (codes "target")))

abbrev pub send : Row
send = record {
  word = codes "send";
  places = codes "in" ∷ codes "log" ∷ codes "wire" ∷ [];
  options = taking_values (codes "quant" ∷ codes "keep" ∷ codes "radius"
      ∷ codes "limit" ∷ codes "slots" ∷ codes "lead" ∷ codes "clock" ∷ codes "target" ∷ codes "fit" ∷ []);
  asks = send_of;
}

abbrev pub recv_of : Lookup → Option Command
recv_of given =
    option_map (λ params. Recv params (is_some (given (codes "join")))) (params_of given)

abbrev pub recv : Row
recv = record {
  word = codes "recv";
  places = codes "log" ∷ codes "out" ∷ codes "wire" ∷ [];
  options = record {
    valued = codes "format" ∷ codes "slots" ∷ codes "lead" ∷ codes "messages" ∷ codes "clock" ∷ [];
    switches = codes "join" ∷ [];
  };
  asks = recv_of;
}

-- as many frames as may be made
abbrev pub frames_in_range : ℕ → Option ℕ
frames_in_range n = if nat_le 1 n && nat_le n 10000 then Some n else None

abbrev pub seed_in : Option Text → Option ℕ
seed_in text = option_and_then (number_in 9) text

abbrev pub frames_in : Option Text → Option ℕ
frames_in text = option_and_then frames_in_range (option_and_then (number_in 5) text)

abbrev pub demo_of : Lookup → Option Command
demo_of given = option_and_then (λ params. option_and_then (λ seed.
    option_map (λ frames. Demo params seed frames) (frames_in (given (codes "frames"))))
    (seed_in (given (codes "seed")))) (params_of given)

abbrev pub demo : Row
demo = record {
  word = codes "demo";
  places = codes "seed" ∷ codes "frames" ∷ [];
  options = taking_values (codes "format" ∷ codes "quant" ∷ codes "keep" ∷ codes "radius"
      ∷ codes "limit" ∷ codes "slots" ∷ codes "lead" ∷ codes "messages" ∷ codes "clock" ∷ []);
  asks = demo_of;
}

-- a bucket of six digits at most
abbrev pub bucket_in : Option Text → Option ℕ
bucket_in text = option_and_then (number_in 6) text

abbrev pub rate_of : Lookup → Option Command
rate_of given = option_and_then (λ target. option_map (λ bucket. Rate target bucket)
    (bucket_in (given (codes "bucket")))) (target_in (given (codes "target")))

abbrev pub rate : Row
rate = record {
  word = codes "rate";
  places = codes "log" ∷ [];
  options = taking_values (codes "target" ∷ codes "bucket" ∷ []);
  asks = rate_of;
}

abbrev pub audit_of : Lookup → Option Command
audit_of given = option_map (λ params. Audit params) (params_of given)

abbrev pub audit : Row
audit = record {
  word = codes "audit";
  places = codes "log" ∷ [];
  options = taking_values (codes "format" ∷ codes "slots" ∷ codes "lead" ∷ codes "clock" ∷ []);
  asks = audit_of;
}

-- a call of two parties has a trace
abbrev pub duplex_of : Lookup → Option Command
duplex_of given =
    option_and_then (λ trace. option_map (λ params. Duplex params) (params_of given))
    (given (codes "trace"))

abbrev pub duplex : Row
duplex = record {
  word = codes "duplex";
  places = codes "in1" ∷ codes "in2" ∷ codes "out1" ∷ codes "out2" ∷ [];
  options = call.options;
  asks = duplex_of;
}

-- how many receivers a group has: a third one comes after a second one
abbrev pub receivers_by : Option Text → Option Text → Option ℕ
receivers_by None None = Some 1
receivers_by None (Some third) = None
receivers_by (Some second) None = Some 2
receivers_by (Some second) (Some third) = Some 3

abbrev pub receivers_in : Lookup → Option ℕ
receivers_in given = receivers_by (given (codes "out2")) (given (codes "out3"))

-- the call of a group has a trace
abbrev pub group_of : Lookup → Option Command
group_of given =
    option_and_then (λ trace. option_and_then (λ params. option_map (λ receivers. Group params receivers)
    (receivers_in given)) (params_of given))
    (given (codes "trace"))

abbrev pub group : Row
group = record {
  word = codes "group";
  places = call.places;
  options = taking_values (codes "quant" ∷ codes "keep" ∷ codes "radius" ∷ codes "limit" ∷ codes "slots"
      ∷ codes "lead" ∷ codes "messages" ∷ codes "clock" ∷ codes "trace" ∷ codes "out2" ∷ codes "out3" ∷ []);
  asks = group_of;
}

-- the commands
abbrev pub command_rows : List Row
command_rows = call ∷ send ∷ recv ∷ demo ∷ rate ∷ audit ∷ duplex ∷ group ∷ []

-- the command with this first word
abbrev pub row_named : Text → Option Row
row_named first = find (λ row. bytes_eq row.word first) command_rows

-- a command, and the value that its words give to each name
pub record Asked : Type 0 where
  pub command : Command
  pub given : Lookup

abbrev pub asking : Lookup → Command → Asked
asking given command = record { command = command; given = given }

-- what the words after the first ask for
abbrev pub asked_by : Row → List Text → Option Asked
asked_by row words =
    option_and_then (λ given. option_map (asking (value given)) (row.asks (value given)))
    (taken row.places row.options words)

-- what the words ask for, where they are a command whose parameters are in their ranges
abbrev pub asked : List Text → Option Asked
asked [] = None
asked (first ∷ words) = option_and_then (λ row. asked_by row words) (row_named first)

-- ---- what the caller reads

-- roles that are attached by words, in their order, and the name of the word of each
abbrev pub Roles : Type 0
Roles = List (Role × Text)

-- of a call over its plain trace, and over a recorded one
abbrev pub plain_roles : Roles
plain_roles = (Video, codes "in") ∷ (Pictures, codes "out") ∷ []

abbrev pub traced_roles : Roles
traced_roles = (Video, codes "in") ∷ (Events, codes "trace") ∷ (Pictures, codes "out") ∷ []

abbrev pub send_roles : Roles
send_roles = (Video, codes "in") ∷ (Events, codes "log") ∷ (Wire, codes "wire") ∷ []

abbrev pub recv_roles : Roles
recv_roles = (Events, codes "log") ∷ (Pictures, codes "out") ∷ (Wire, codes "wire") ∷ []

-- of a command that reads a log and writes the report alone
abbrev pub log_roles : Roles
log_roles = (Events, codes "log") ∷ []

abbrev pub duplex_roles : Roles
duplex_roles = (Video, codes "in1") ∷ (Video2, codes "in2") ∷ (Events, codes "trace")
    ∷ (Pictures, codes "out1") ∷ (Pictures2, codes "out2") ∷ []

-- of a group of so many receivers
abbrev pub group_roles : ℕ → Roles
group_roles receivers =
    (Video, codes "in") ∷ (Events, codes "trace") ∷ (Pictures, codes "out")
    ∷ (if nat_le 2 receivers then (Pictures2, codes "out2") ∷ [] else [])
    ++ (if nat_le 3 receivers then (Wire, codes "out3") ∷ [] else [])

abbrev pub roles : Command → Roles
roles (Call params false) = plain_roles
roles (Call params true) = traced_roles
roles (Send params target fit) = send_roles
roles (Recv params join) = recv_roles
roles (Demo params seed frames) = []
roles (Rate target bucket) = log_roles
roles (Audit params) = log_roles
roles (Duplex params) = duplex_roles
roles (Group params receivers) = group_roles receivers

-- the name of a role's word, where there is one
abbrev pub name_in : Roles → Role → Option Text
name_in named role = option_map (λ r. r.1) (find (λ r. is_role r.0 role) named)

-- the word by which a role is attached
abbrev pub word_for : Asked → Role → Option Text
word_for a role = option_and_then a.given (name_in (roles a.command) role)

-- the numbers of a command are in their ranges
abbrev pub IsCommand : Command → Type 0
IsCommand (Call params traced) = IsParams params
IsCommand (Send params target fit) =
    IsParams params × IfSome target (λ n. 1 ≤ n) × IfSome target (λ n. n ≤ 999999)
    × IfSome fit (λ n. 1 ≤ n) × IfSome fit (λ n. n ≤ 999999)
IsCommand (Recv params join) = IsParams params
IsCommand (Demo params seed frames) =
    IsParams params × (seed ≤ 999999999) × (1 ≤ frames) × (frames ≤ 10000)
IsCommand (Rate target bucket) = (1 ≤ target) × (target ≤ 999999) × (bucket ≤ 999999)
IsCommand (Audit params) = IsParams params
IsCommand (Duplex params) = IsParams params
IsCommand (Group params receivers) = IsParams params × (1 ≤ receivers) × (receivers ≤ 3)

-- the words by which a command's roles are attached are all there
abbrev pub IsGiven : Option Text → Type 0
IsGiven None = ⊥
IsGiven (Some text) = Unit {0}

abbrev pub HasNames : Asked → Type 0
HasNames a = AllByRecursion (λ r. IsGiven (a.given r.1)) (roles a.command)
