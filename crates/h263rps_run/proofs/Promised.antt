-- A run keeps its promises, whichever way it ends.
use Rattle.std.proofs.Common.{◌≡◌, inl, inr, ℕ, ◌≤◌, Bool, true, false, List, [], ◌∷◌, ◌++◌, Option, Some, None, IfSome, if◌then◌else◌, refl, sym, ap, ◌∙◌, subst, arith, append-nil}
use Rattle.std.specs.List.{AllByRecursion}
use Rattle.h263_outside.specs.Desk.{Outside, Faults, NoneFalls, SomeRose, Rose, NoneAttached, OnlyAttaches, OnlyWrites, is_role, appended}
use Rattle.h263_outside.specs.Gains.{gained}
use Rattle.h263_outside.specs.declared.desk.Role.{Role}
use Rattle.h263_outside.specs.declared.desk.Role.TheVariants.{Report}
use Rattle.call_report.specs.declared.status.Status.{Status}
use Rattle.call_report.specs.declared.status.Status.TheVariants.{OutOfMemory, Usage, WriteFault, OpenFault}
use Rattle.call_report.specs.Status.{Phase, phase, before_reading}
use Rattle.call_report.specs.Status.Phase.{finished, refused, unread, unwritten, starved, unasked, unopened}
use Rattle.call_report.specs.Text.{status_text}
use Rattle.desk_program.specs.Run.{Run}
use Rattle.desk_program.specs.Ends.{ComesEarly, Tells, Gains, HasCause, IsReadOut}
use Rattle.desk_program.specs.Attached.{AreAttached, AttachedAt, SomeAttached}
use Rattle.desk_program.specs.Lines.{end_text, Finishes, IsUntold}
use Rattle.desk_program.specs.Promises.{IsFlushed, IsSettled, IsStopped, IsUnopened, UnopenedIn, AskedIn, IsNotUsage, HasStatus, HasTexts, HasPrefixes, ReadsNothing, TakesInput}
use Rattle.h263rps_run.specs.Promises.{IsCutOff, IsRunOf}

-- nothing was gained
gained-nil : (o : Option (List ℕ)) → gained o [] ≡ o
gained-nil None = refl
gained-nil (Some xs) = ap (λ (l : List ℕ). Some l) (append-nil xs)

-- ---- faults that rose

rose_since : (a b c : ℕ) → a ≤ b → Rose b c → Rose a c
rose_since a b c le (inl less) = inl (omega (arith, le, less))
rose_since a b c le (inr end) = inr end

pub some_since : (a b c : Faults) → NoneFalls a b → SomeRose b c → SomeRose a c
some_since a b c falls (inl x) = inl (rose_since _ _ _ falls.attach x)
some_since a b c falls (inr (inl x)) = inr (inl (rose_since _ _ _ falls.read x))
some_since a b c falls (inr (inr x)) = inr (inr (rose_since _ _ _ falls.write x))

-- ---- roles that are attached

none_attached : (new : Outside) → NoneAttached new.attached → AreAttached [] new
none_attached new none = record { roles = λ r. ap (λ (f : Role → Bool). f r) none; names = tt }

still_attached : (order : List (Role × List ℕ)) (mid new : Outside) → OnlyWrites mid new → AreAttached order mid
    → AreAttached order new
still_attached order mid new rest are = record {
  roles = λ r. ap (λ (f : Role → Bool). f r) rest.attached ∙ are.roles r;
  names = subst (λ (name : Role → Option (List ℕ)). AllByRecursion (λ p. IfSome (name p.0) (λ told. told ≡ p.1)) order)
      (sym rest.name) are.names;
}

-- ---- one line of the report

report_alone : (order : List (Role × List ℕ)) (new : Outside) → AreAttached ((Report, []) ∷ []) new
    → SomeAttached ((Report, []) ∷ order) new
report_alone order new are = record { first = (Report, []) ∷ []; rest = order; whole = refl; attached = are }

-- a piece of the line on the report, and nothing on the others
gains_on : (bytes : List ℕ) (old new : Role → Option (List ℕ)) → new ≡ appended old Report bytes
    → Gains (λ r. if is_role Report r then bytes else []) old new
gains_on bytes old new is = λ r. ap (λ (w : Role → Option (List ℕ)). w r) is ∙ at r (is_role Report r)
  where
    at : (r : Role) (t : Bool) → (if t then gained (old r) bytes else old r) ≡ gained (old r) (if t then bytes else [])
    at r true = refl
    at r false = sym (gained-nil (old r))

joined : (t : Bool) (a b all : List ℕ) → a ++ b ≡ all → (if t then a else []) ++ (if t then b else [])
    ≡ (if t then all else [])
joined true a b all is = is
joined false a b all is = refl

gains_line : (status : Status) (old new : Role → Option (List ℕ)) → new ≡ appended old Report (status_text status)
    → Gains (end_text status) old new
gains_line status old new is = gains_on (status_text status) old new is

gains_nothing : (texts : Role → List ℕ) (old new : Role → Option (List ℕ)) → ((r : Role) → texts r ≡ []) → new ≡ old
    → Gains texts old new
gains_nothing texts old new none same =
    λ r. ap (λ (w : Role → Option (List ℕ)). w r) same ∙ sym (ap (gained (old r)) (none r) ∙ gained-nil (old r))

no_line : (r : Role) → end_text (OpenFault Report) r ≡ []
no_line r = at (is_role Report r)
  where
    at : (t : Bool) → (if t then status_text (OpenFault Report) else []) ≡ []
    at true = refl
    at false = refl

is_unopened : (p : Phase) → before_reading p ≡ true → AskedIn p → UnopenedIn p
is_unopened finished is asked = absurd (cc is)
is_unopened refused is asked = absurd (cc is)
is_unopened unread is asked = absurd (cc is)
is_unopened unwritten is asked = absurd (cc is)
is_unopened starved is asked = absurd (cc is)
is_unopened unasked is asked = absurd asked
is_unopened (unopened role) is asked = tt

-- ---- the ways of a run

module _ (output : (Role → List ℕ) → Run) (order : List (Role × List ℕ)) (source : Option Role) where
  -- nothing was done, for want of memory
  pub nothing_done : (old new : Outside) → NoneAttached new.attached → new.written ≡ old.written
      → new.faults ≡ old.faults → IsRunOf output ((Report, []) ∷ order) source OutOfMemory old new
  nothing_done old new none same quiet = record {
    status = λ inputs told. inr (inr refl);
    texts = λ inputs told settled. absurd settled;
    prefixes = λ inputs told stopped. inr (record { attached = none; written = same });
    unread = λ is. absurd (cc is);
    flushed = λ is. absurd (cc (ap (λ (f : Role → Bool). f Report) none, is));
    causes = quiet;
    attached = record { first = []; rest = (Report, []) ∷ order; whole = refl; attached = none_attached new none };
    whole_input = λ inputs told. tt;
    taken_input = λ inputs told. tt;
  }

  -- the report could not be attached
  pub report_unopened : (old new : Outside) → NoneAttached new.attached → new.left ≡ old.left
      → new.written ≡ old.written → Rose old.faults.attach new.faults.attach
      → IsRunOf output ((Report, []) ∷ order) source (OpenFault Report) old new
  report_unopened old new none kept same rose = record {
    status = λ inputs told. inl (inl rose);
    texts = λ inputs told settled. absurd settled;
    prefixes = λ inputs told stopped. absurd stopped;
    unread = λ is. record {
      left = kept;
      written = gains_nothing (end_text (OpenFault Report)) old.written new.written no_line same;
    };
    flushed = λ is. absurd (cc (ap (λ (f : Role → Bool). f Report) none, is));
    causes = rose;
    attached = record { first = []; name = []; rest = order; whole = refl; attached = none_attached new none };
    whole_input = λ inputs told. tt;
    taken_input = λ inputs told. tt;
  }

  module _ (mid new : Outside) (are : AreAttached ((Report, []) ∷ []) mid) (rest : OnlyWrites mid new) where
    -- the last line could not be written
    pub line_cut : (status : Status) → ComesEarly (phase status) → IsUntold status WriteFault mid new
        → IsRunOf output ((Report, []) ∷ order) source WriteFault mid new
    line_cut status early told = record {
      status = λ inputs tells. inl (inr (inr told.cause));
      texts = λ inputs tells settled. absurd settled;
      prefixes = λ inputs tells stopped. inl (inr (record {
        done = [];
        rest = (output inputs).turns;
        front = refl;
        other = status;
        early = early;
        piece = λ r. if is_role Report r then told.written.front else [];
        cut = λ r. if is_role Report r then told.written.rest else [];
        whole = λ r. joined (is_role Report r) told.written.front told.written.rest
            (status_text status) told.written.whole;
        written = gains_on told.written.front mid.written new.written told.written.gained;
      }));
      unread = λ is. absurd (cc is);
      flushed = λ is. tt;
      causes = told.cause;
      attached = report_alone order new (still_attached _ mid new rest are);
      whole_input = λ inputs tells. tt;
      taken_input = λ inputs tells. tt;
    }

    -- there was no memory for the words
    words_starved : new.written ≡ appended mid.written Report (status_text OutOfMemory) → new.flushed ≡ true
        → new.faults ≡ mid.faults → IsRunOf output ((Report, []) ∷ order) source OutOfMemory mid new
    words_starved written flushed quiet = record {
      status = λ inputs tells. inr (inr refl);
      texts = λ inputs tells settled. absurd settled;
      prefixes = λ inputs tells stopped. inl (record {
        done = [];
        rest = (output inputs).turns;
        front = refl;
        written = gains_line OutOfMemory mid.written new.written written;
      });
      unread = λ is. absurd (cc is);
      flushed = λ is. flushed;
      causes = quiet;
      attached = report_alone order new (still_attached _ mid new rest are);
      whole_input = λ inputs tells. tt;
      taken_input = λ inputs tells. tt;
    }

    pub words_unread : (result : Status) → Finishes OutOfMemory result mid new
        → IsRunOf output ((Report, []) ∷ order) source result mid new
    words_unread result (inl told) = subst (λ (s : Status). IsRunOf output ((Report, []) ∷ order) source s mid new)
        (sym told.same) (words_starved told.written told.flushed told.faults)
    words_unread result (inr cut) =
        subst (λ (s : Status). IsRunOf output ((Report, []) ∷ order) source s mid new) (sym cut.fault)
        (line_cut OutOfMemory tt (record { fault = refl; written = cut.written; cause = cut.cause }))

  -- a command was performed
  module _ (mid new : Outside) (result : Status)
      (status : (inputs : Role → List ℕ) → Tells mid inputs → HasStatus (output inputs) result mid.faults new.faults)
      (texts : (inputs : Role → List ℕ) → Tells mid inputs → IsSettled result
      → HasTexts (output inputs) end_text result mid.written new.written)
      (prefixes : (inputs : Role → List ℕ) → Tells mid inputs → IsStopped result
      → HasPrefixes (output inputs) end_text result mid.written new.written)
      (words : IsNotUsage result)
      (unopened : IsUnopened result → ReadsNothing result mid new)
      (flushed : IsFlushed result new)
      (causes : HasCause result mid.faults new.faults)
      (attached : AttachedAt ((Report, []) ∷ order) result new)
      (whole_input : (inputs : Role → List ℕ) → Tells mid inputs → IsReadOut result source new)
      (taken_input : (inputs : Role → List ℕ) → Tells mid inputs
      → TakesInput result (output inputs) end_text inputs mid.written new) where
    pub performed : IsRunOf output ((Report, []) ∷ order) source result mid new
    performed = record {
      status = status;
      texts = texts;
      prefixes = λ inputs tells stopped. inl (prefixes inputs tells stopped);
      unread = λ is. unopened (is_unopened (phase result) is words);
      flushed = λ is. flushed;
      causes = causes;
      attached = attached;
      whole_input = whole_input;
      taken_input = taken_input;
    }

-- the words are no command
module _ (output : (Role → List ℕ) → Run) (source : Option Role) (mid new : Outside)
    (are : AreAttached ((Report, []) ∷ []) mid) (rest : OnlyWrites mid new)
    (says : (inputs : Role → List ℕ) → (output inputs).last.status ≡ Usage) where
  told_usage : new.written ≡ appended mid.written Report (status_text Usage) → new.flushed ≡ true
      → IsRunOf output ((Report, []) ∷ []) source Usage mid new
  told_usage written flushed = record {
    status = λ inputs tells. inr (inl (sym (says inputs)));
    texts = λ inputs tells settled. absurd settled;
    prefixes = λ inputs tells stopped. absurd stopped;
    unread = λ is. record { left = rest.left; written = gains_line Usage mid.written new.written written };
    flushed = λ is. flushed;
    causes = tt;
    attached = still_attached _ mid new rest are;
    whole_input = λ inputs tells. tt;
    taken_input = λ inputs tells. tt;
  }

  pub usage_told : (result : Status) → Finishes Usage result mid new
      → IsRunOf output ((Report, []) ∷ []) source result mid new
  usage_told result (inl told) = subst (λ (s : Status). IsRunOf output ((Report, []) ∷ []) source s mid new)
      (sym told.same) (told_usage told.written told.flushed)
  usage_told result (inr cut) =
      subst (λ (s : Status). IsRunOf output ((Report, []) ∷ []) source s mid new) (sym cut.fault)
      (line_cut output [] source mid new are rest Usage tt (record {
        fault = refl;
        written = cut.written;
        cause = cut.cause;
      }))

-- the same from an earlier outside, where only roles were attached since
module _ (output : (Role → List ℕ) → Run) (order : List (Role × List ℕ)) (source : Option Role) (old mid new : Outside)
    (attaches : OnlyAttaches old mid) (quiet : mid.faults ≡ old.faults) (result : Status) where
  tells_since : (inputs : Role → List ℕ) → Tells old inputs → Tells mid inputs
  tells_since inputs told = λ r input. ap (λ (l : Role → Option (List ℕ)). l r) attaches.left ∙ told r input

  status_since : (run : Run) → HasStatus run result mid.faults new.faults → HasStatus run result old.faults new.faults
  status_since run (inl some) = inl (some_since old.faults mid.faults new.faults attaches.faults some)
  status_since run (inr rest) = inr rest

  cut_since : (run : Run) → IsCutOff run result mid new → IsCutOff run result old new
  cut_since run (inl prefixes) =
      inl (subst (λ (w : Role → Option (List ℕ)). HasPrefixes run end_text result w new.written) attaches.written
      prefixes)
  cut_since run (inr none) = inr (record { attached = none.attached; written = none.written ∙ attaches.written })

  pub since_attached : IsRunOf output order source result mid new → IsRunOf output order source result old new
  since_attached run = record {
    status = λ inputs told. status_since (output inputs) (run.status inputs (tells_since inputs told));
    texts = λ inputs told settled.
        subst (λ (w : Role → Option (List ℕ)). HasTexts (output inputs) end_text result w new.written) attaches.written
        (run.texts inputs (tells_since inputs told) settled);
    prefixes = λ inputs told stopped. cut_since (output inputs) (run.prefixes inputs (tells_since inputs told) stopped);
    unread = λ is. record {
      left = (run.unread is).left ∙ attaches.left;
      written = subst (λ (w : Role → Option (List ℕ)). Gains (end_text result) w new.written) attaches.written
          (run.unread is).written;
    };
    flushed = run.flushed;
    causes = subst (λ (f : Faults). HasCause result f new.faults) quiet run.causes;
    attached = run.attached;
    whole_input = λ inputs told. run.whole_input inputs (tells_since inputs told);
    taken_input = λ inputs told.
        subst (λ (w : Role → Option (List ℕ)). TakesInput result (output inputs) end_text inputs w new) attaches.written
        (run.taken_input inputs (tells_since inputs told));
  }
