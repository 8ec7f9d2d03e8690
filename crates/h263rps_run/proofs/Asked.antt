-- A run by what its words ask for.
use Rattle.std.proofs.Common.{◌≡◌, ◌⊎◌, inl, inr, ℕ, Bool, true, false, not, List, [], ◌∷◌, ◌||◌, Option, Some, None, IfSome, if◌then◌else◌, refl, sym, ap, ◌∙◌, subst}
use Rattle.h263_outside.specs.Desk.{Outside, NoneAttached, OnlyAttaches, OnlyWrites, SomeRose, Rose, with_role, is_role}
use Rattle.h263_outside.specs.declared.desk.Role.{Role}
use Rattle.h263_outside.specs.declared.desk.Role.TheVariants.{Video, Events, Report}
use Rattle.y4m.specs.declared.fault.Y4mFault.{Y4mFault}
use Rattle.y4m.specs.Video.{video_fault}
use Rattle.call_report.specs.declared.status.Status.{Status}
use Rattle.call_report.specs.declared.status.Status.TheVariants.{OutOfMemory, Usage, VideoRefused, Video2Refused, OpenFault}
use Rattle.h263_types.specs.declared.params.Params.{Params}
use Rattle.command_words.specs.declared.command.Command.{Command}
use Rattle.command_words.specs.declared.command.Command.TheVariants.{Call}
use Rattle.command_words.specs.declared.simple.WordStop.{WordStop}
use Rattle.command_words.specs.declared.simple.WordStop.TheVariants as stops
use Rattle.h263_types.specs.Texts.{Text}
use Rattle.command_words.specs.Asked.{Asked, asked}
use Rattle.desk_program.specs.Ends.{HasCause}
use Rattle.desk_program.specs.Attached.{AreAttached}
use Rattle.desk_program.specs.Lines.{Finishes}
use Rattle.desk_program.specs.Promises.{IsNotUsage, IsSettled}
use Rattle.h263rps_run.specs.Output.{word_stop, command_of, roles_of, source_of_command, run_of_command, output_of, order_from, source_from}
use Rattle.h263rps_run.specs.Promises.{IsRefusedRightly, IsRunOf, IsRun}
use Rattle.h263rps_run.proofs.Promised.{some_since, nothing_done, report_unopened, words_unread, usage_told, since_attached}

-- ---- a command

-- there is no second video
pub one_video : (c : Command)
    → ((inputs : Role → List ℕ) (fault : Y4mFault) → (run_of_command c inputs).last.status ≡ VideoRefused fault
    → video_fault (inputs Video) ≡ Some fault)
    → ((inputs : Role → List ℕ) (fault : Y4mFault) → (run_of_command c inputs).last.status ≡ Video2Refused fault → ⊥)
    → IsRefusedRightly c
one_video c first none = record { first = first; second = λ inputs fault ends. absurd (none inputs fault ends) }

-- there is no video
pub no_video : (c : Command)
    → ((inputs : Role → List ℕ) (fault : Y4mFault) → (run_of_command c inputs).last.status ≡ VideoRefused fault → ⊥)
    → ((inputs : Role → List ℕ) (fault : Y4mFault) → (run_of_command c inputs).last.status ≡ Video2Refused fault → ⊥)
    → IsRefusedRightly c
no_video c none none2 = record {
  first = λ inputs fault ends. absurd (none inputs fault ends);
  second = λ inputs fault ends. absurd (none2 inputs fault ends);
}

-- the end of a call is the end of its video, or of its trace
pub call_source : (p : Params) (traced : Bool) → Some (if not traced then Video else Events)
    ≡ source_of_command (Call p traced)
call_source p true = refl
call_source p false = refl

-- its run is that of the words
as_run : (a : Asked) (c : Command) → a.command ≡ c → IsRefusedRightly c → (result : Status) (old new : Outside)
    → IsRunOf (run_of_command c) ((Report, []) ∷ roles_of c a) (source_of_command c) result old new → IsNotUsage result
    → IsRun (Some a) result old new
as_run a c e rightly result old new run words = record {
  run = subst (λ (k : Command). IsRunOf (run_of_command k) ((Report, []) ∷ roles_of k a) (source_of_command k) result
      old new)
      (sym e) run;
  usage = λ u. absurd (subst IsNotUsage u words);
  no_command = λ n. absurd (cc n);
  refused = λ inputs told fault r. rightly.first inputs fault
      (sym (run.texts inputs told (subst IsSettled (sym r) tt)).known ∙ r);
  second_refused = λ inputs told fault r. rightly.second inputs fault
      (sym (run.texts inputs told (subst IsSettled (sym r) tt)).known ∙ r);
}

-- Usage was told, since there is no command
pub usage_run : (mid new : Outside) → AreAttached ((Report, []) ∷ []) mid → OnlyWrites mid new → (result : Status)
    → Finishes Usage result mid new → IsRun None result mid new
usage_run mid new are rest result told = record {
  run = usage_told (output_of None) None mid new are rest (λ inputs. refl) result told;
  usage = λ u. refl;
  no_command = λ n. ends told;
  refused = λ inputs tells fault r. absurd (not_refused told fault r);
  second_refused = λ inputs tells fault r. absurd (not_second told fault r);
}
  where
    not_refused : Finishes Usage result mid new → (fault : Y4mFault) → result ≡ VideoRefused fault → ⊥
    not_refused (inl told) fault r = absurd (cc (told.same, r))
    not_refused (inr cut) fault r = absurd (cc (cut.fault, r))

    not_second : Finishes Usage result mid new → (fault : Y4mFault) → result ≡ Video2Refused fault → ⊥
    not_second (inl told) fault r = absurd (cc (told.same, r))
    not_second (inr cut) fault r = absurd (cc (cut.fault, r))

    ends : Finishes Usage result mid new → (result ≡ Usage) ⊎ (result ≡ OutOfMemory) ⊎ SomeRose mid.faults new.faults
    ends (inl told) = inl told.same
    ends (inr cut) = inr (inr (inr (inr cut.cause)))

-- ---- words

abbrev rest_of : Option Asked → List (Role × Text)
rest_of None = []
rest_of (Some a) = roles_of a.command a

begins_with_report : (o : Option Asked) → (Report, []) ∷ rest_of o ≡ order_from o
begins_with_report None = refl
begins_with_report (Some a) = refl

-- there was no memory for them
pub unread_run : (o : Option Asked) (mid new : Outside) → AreAttached ((Report, []) ∷ []) mid → OnlyWrites mid new
    → (result : Status) → Finishes OutOfMemory result mid new → IsRun o result mid new
unread_run o mid new are rest result told = record {
  run = subst (λ (order : List (Role × Text)). IsRunOf (output_of o) order (source_from o) result mid new)
      (begins_with_report o)
      (words_unread (output_of o) (rest_of o) (source_from o) mid new are rest result told);
  usage = λ u. absurd (not_usage told u);
  no_command = λ n. ends told;
  refused = λ inputs tells fault r. absurd (not_refused told fault r);
  second_refused = λ inputs tells fault r. absurd (not_second told fault r);
}
  where
    not_refused : Finishes OutOfMemory result mid new → (fault : Y4mFault) → result ≡ VideoRefused fault → ⊥
    not_refused (inl told) fault r = absurd (cc (told.same, r))
    not_refused (inr cut) fault r = absurd (cc (cut.fault, r))

    not_second : Finishes OutOfMemory result mid new → (fault : Y4mFault) → result ≡ Video2Refused fault → ⊥
    not_second (inl told) fault r = absurd (cc (told.same, r))
    not_second (inr cut) fault r = absurd (cc (cut.fault, r))

    not_usage : Finishes OutOfMemory result mid new → result ≡ Usage → ⊥
    not_usage (inl told) u = absurd (cc (told.same, u))
    not_usage (inr cut) u = absurd (cc (cut.fault, u))

    ends : Finishes OutOfMemory result mid new → (result ≡ Usage) ⊎ (result ≡ OutOfMemory)
        ⊎ SomeRose mid.faults new.faults
    ends (inl told) = inr (inl told.same)
    ends (inr cut) = inr (inr (inr (inr cut.cause)))

-- nothing was done, for want of memory
pub starved_run : (o : Option Asked) (old new : Outside) → NoneAttached new.attached → new.written ≡ old.written
    → new.faults ≡ old.faults → IsRun o OutOfMemory old new
starved_run o old new none same quiet = record {
  run = subst (λ (order : List (Role × Text)). IsRunOf (output_of o) order (source_from o) OutOfMemory old new)
      (begins_with_report o)
      (nothing_done (output_of o) (rest_of o) (source_from o) old new none same quiet);
  usage = λ u. absurd (cc u);
  no_command = λ n. inr (inl refl);
  refused = λ inputs told fault r. absurd (cc r);
  second_refused = λ inputs told fault r. absurd (cc r);
}

unopened_run : (o : Option Asked) (old new : Outside) → NoneAttached new.attached → new.left ≡ old.left
    → new.written ≡ old.written → Rose old.faults.attach new.faults.attach → IsRun o (OpenFault Report) old new
unopened_run o old new none kept same rose = record {
  run = subst (λ (order : List (Role × Text)). IsRunOf (output_of o) order (source_from o) (OpenFault Report) old new)
      (begins_with_report o)
      (report_unopened (output_of o) (rest_of o) (source_from o) old new none kept same rose);
  usage = λ u. absurd (cc u);
  no_command = λ n. inr (inr (inl rose));
  refused = λ inputs told fault r. absurd (cc r);
  second_refused = λ inputs told fault r. absurd (cc r);
}

-- the report could not be attached
pub report_failed : (o : Option Asked) (old new : Outside) (status : Status) → NoneAttached new.attached
    → new.left ≡ old.left → new.written ≡ old.written
    → HasCause status old.faults new.faults → (status ≡ OpenFault Report) ⊎ (status ≡ OutOfMemory)
    → IsRun o status old new
report_failed o old new status none kept same cause (inl is) =
    subst (λ (s : Status). IsRun o s old new) (sym is)
    (unopened_run o old new none kept same (subst (λ (s : Status). HasCause s old.faults new.faults) is cause))
report_failed o old new status none kept same cause (inr is) =
    subst (λ (s : Status). IsRun o s old new) (sym is)
    (starved_run o old new none same (subst (λ (s : Status). HasCause s old.faults new.faults) is cause))

-- the report alone is attached
pub report_alone : (old mid : Outside) → NoneAttached old.attached → mid.attached ≡ with_role old.attached Report true
    → IfSome (mid.name Report) (λ told. told ≡ []) → AreAttached ((Report, []) ∷ []) mid
report_alone old mid none attached named = record {
  roles = λ r. ap (λ (f : Role → Bool). f r) attached
      ∙ at r (is_role Report r);
  names = (named, tt);
}
  where
    at : (r : Role) (t : Bool) → (if t then true else old.attached r) ≡ (t || false)
    at r true = refl
    at r false = ap (λ (f : Role → Bool). f r) none

-- the same from before the report was attached
pub run_since : (o : Option Asked) (old mid new : Outside) (result : Status) → OnlyAttaches old mid
    → mid.faults ≡ old.faults → IsRun o result mid new → IsRun o result old new
run_since o old mid new result attaches quiet run = record {
  run = since_attached (output_of o) (order_from o) (source_from o) old mid new attaches quiet result run.run;
  usage = run.usage;
  no_command = λ n. ends (run.no_command n);
  refused = λ inputs told fault r. run.refused inputs
      (λ role input. ap (λ (l : Role → Option (List ℕ)). l role) attaches.left ∙ told role input) fault r;
  second_refused = λ inputs told fault r. run.second_refused inputs
      (λ role input. ap (λ (l : Role → Option (List ℕ)). l role) attaches.left ∙ told role input) fault r;
}
  where
    ends : (result ≡ Usage) ⊎ (result ≡ OutOfMemory) ⊎ SomeRose mid.faults new.faults
        → (result ≡ Usage) ⊎ (result ≡ OutOfMemory) ⊎ SomeRose old.faults new.faults
    ends (inl is) = inl is
    ends (inr (inl is)) = inr (inl is)
    ends (inr (inr some)) = inr (inr (some_since old.faults mid.faults new.faults attaches.faults some))

-- the words were no command, or there was no memory for them
pub stopped_run : (words : List Text) (stop : WordStop) (mid new : Outside) → (stop ≡ stops.Usage → asked words ≡ None)
    → AreAttached ((Report, []) ∷ []) mid → OnlyWrites mid new → (result : Status)
    → Finishes (word_stop stop) result mid new → IsRun (command_of words) result mid new
stopped_run words stops.OutOfMemory mid new none are rest result told =
    unread_run (command_of words) mid new are rest result told
stopped_run words stops.Usage mid new none are rest result told =
    subst (λ (o : Option Asked). IsRun o result mid new) (sym (none refl)) (usage_run mid new are rest result told)

-- the words were a command, which was run from where the report was attached
pub asked_run : (words : List Text) (a : Asked) (old mid new : Outside) (result : Status) → OnlyAttaches old mid
    → mid.faults ≡ old.faults → asked words ≡ Some a → IsRun (Some a) result mid new
    → IsRun (command_of words) result old new
asked_run words a old mid new result attaches quiet is run = run_since (command_of words) old mid new result attaches
    quiet (subst (λ (o : Option Asked). IsRun o result mid new) (sym is) run)

-- the command that was asked for was performed with these roles
pub command_run : (a : Asked) (c : Command) (roles : List (Role × Text)) (mid new : Outside) (result : Status)
    → ((k : Command) → IsRefusedRightly k) → roles ≡ roles_of a.command a → a.command ≡ c
    → IsRunOf (run_of_command c) ((Report, []) ∷ roles) (source_of_command c) result mid new → IsNotUsage result
    → IsRun (Some a) result mid new
command_run a c roles mid new result rightly own is run not_usage =
    as_run a c is (rightly c) result mid new
    (subst (λ (l : List (Role × Text)). IsRunOf (run_of_command c) ((Report, []) ∷ l) (source_of_command c) result mid
    new) (own
    ∙ ap (λ (k : Command). roles_of k a) is) run)
    not_usage

-- the run of a command that is this one
pub run_as : (c k : Command) (roles : List (Role × Text)) (result : Status) (old new : Outside) → c ≡ k
    → IsRunOf (run_of_command k) ((Report, []) ∷ roles) (source_of_command k) result old new
    → IsRunOf (run_of_command c) ((Report, []) ∷ roles) (source_of_command c) result old new
run_as c k roles result old new is run = subst (λ (x : Command). IsRunOf (run_of_command x) ((Report, []) ∷ roles)
    (source_of_command x)
    result old new) (sym is) run
