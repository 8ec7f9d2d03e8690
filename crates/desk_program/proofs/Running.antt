-- A run, turn by turn.
use Rattle.std.proofs.Common.{inl, IfSome, ◌≡◌, ℕ, zero, suc, ◌+◌, Bool, true, false, List, [], ◌∷◌, ◌++◌, drop, Option, Some, Ok, All, refl, sym, ap, ◌∙◌, subst, arith, append_assoc, append-nil, add-one, add-zero, zero-add}
use Rattle.std.proofs.lemmas.List.{drop-drop}
use Rattle.std.proofs.lemmas.List.Elements.{All-append, All-cons, All-nil}
use Rattle.h263_outside.specs.Desk.{Outside}
use Rattle.h263_outside.specs.Gains.{gained}
use Rattle.h263_outside.specs.declared.desk.Role.{Role}
use Rattle.call_report.specs.declared.status.Status.{Status}
use Rattle.call_report.specs.declared.status.Status.TheVariants.{Ok as Fine}
use Rattle.call_report.specs.Status.{Phase, phase}
use Rattle.call_report.specs.Status.Phase.{finished, refused, unread, unwritten, starved, unasked, unopened}
use Rattle.desk_program.specs.Run.{Turn, End, Step, Run, machine_run, run_from, end_state, follow_state, follow, silence, left_after, texts_of, text_of, taken_of, IsWholeTurn}
use Rattle.desk_program.specs.Run.Step.{Goes, Ends}
use Rattle.desk_program.specs.Ends.{Tells, Gains, GainsFronts, IsPart, KeepsRoles, Went, Ended, Lost, TurnGives, GivesUp, step_texts, step_turns, IsExactly, IsCutIn, IsSoFar, IsWholeOnly, next_texts, EndedIn, HasEnded, silent, Falls, OnGoing, OnEnd, OnceSettled, OnSettled, ComesAtStart, ComesAtStop, ComesLater, ReadOutIn}
use Rattle.desk_program.specs.UnderWay.{IsUnderWay, EndsIn, LeftIn}
use Rattle.desk_program.proofs.Gained.{gained-nil, gained-gained}

-- ---- lists of turns

pub texts-append : (a b : List Turn) (r : Role) → texts_of (a ++ b) r ≡ texts_of a r ++ texts_of b r
texts-append [] b r = refl
texts-append (t ∷ a) b r = ap (λ (l : List ℕ). t.texts r ++ l) (texts-append a b r)
    ∙ sym (append_assoc (t.texts r) (texts_of a r) (texts_of b r))

taken-append : (a b : List Turn) (r : Role) → taken_of (a ++ b) r ≡ taken_of a r + taken_of b r
taken-append [] b r = sym (zero-add (taken_of b r))
taken-append (t ∷ a) b r = omega (arith, taken-append a b r)

whole-append : (a : List Turn) (t : Turn) → All IsWholeTurn a → t.whole ≡ true → All IsWholeTurn (a ++ t ∷ [])
whole-append a t all is = All-append IsWholeTurn a (t ∷ []) all (All-cons IsWholeTurn t [] is (All-nil IsWholeTurn))

-- ---- the run, unfolded once

-- what comes after a step
pub after_step : {State : Type 0} → (State → (Role → List ℕ) → Step State) → ℕ → (Role → List ℕ) → State → (Role → ℕ)
    → Run
after_step step zero inputs next taken = silence
after_step step (suc n) inputs next taken = machine_run step n next (left_after inputs taken)

pub run_is : {State : Type 0} (step : State → (Role → List ℕ) → Step State) (n : ℕ) (s : State) (inputs : Role → List ℕ)
    → machine_run step n s inputs ≡ follow (step s inputs) (after_step step n inputs)
unfolding machine_run after_step
run_is step zero s inputs = refl
run_is step (suc n) s inputs = refl

run_goes : {State : Type 0} (step : State → (Role → List ℕ) → Step State) (n : ℕ) (s : State) (inputs : Role
    → List ℕ) (next : State) (t : Turn) → step s inputs ≡ Goes next t
    → machine_run step (suc n) s inputs ≡ record {
      turns = t ∷ (machine_run step n next (left_after inputs t.taken)).turns;
      last = (machine_run step n next (left_after inputs t.taken)).last;
    }
unfolding machine_run
run_goes {State} step n s inputs next t is =
    ap (λ (x : Step State). follow x (λ next taken. machine_run step n next (left_after inputs taken))) is

-- where these bytes don't hold the first turn of a step, they don't hold the first of the run
part_follow : {State : Type 0} (x : Step State) (rest : State → (Role → ℕ) → Run) (k : Role → ℕ)
    → IsPart (step_turns x) k → IsPart (follow x rest).turns k
part_follow (Goes next t) rest k part = part
part_follow (Ends last) rest k part = tt

-- the text of a step is what comes next in the run
next_follow : {State : Type 0} (x : Step State) (rest : State → (Role → ℕ) → Run) (r : Role)
    → step_texts x r ≡ next_texts (follow x rest).turns (follow x rest).last silent r
next_follow (Goes next t) rest r = refl
next_follow (Ends last) rest r = sym (append-nil (last.texts r))

-- ---- a run before a step

-- some turns are done, and the run goes on with a step and what comes after it
pub record IsBefore {State : Type 0} (x : Step State) (cont : State → (Role → ℕ) → Run) (run : Run) (inputs : Role
    → List ℕ) (start : Role → Option (List ℕ)) (reads : Bool) (now : Outside) : Type 0 where
  pub done : List Turn
  pub rest : Role → List ℕ
  pub turns : done ++ (follow x cont).turns ≡ run.turns
  pub last : (follow x cont).last ≡ run.last
  pub place : rest ≡ left_after inputs (taken_of done)
  pub whole : reads ≡ true → All IsWholeTurn done
  pub written : Gains (texts_of done) start now.written

module _ {State : Type 0} (x : Step State) (cont : State → (Role → ℕ) → Run) (run : Run) (inputs : Role
    → List ℕ) (start : Role → Option (List ℕ)) (old new : Outside) (reads : Bool)
    (p : IsBefore x cont run inputs start reads old) where
  -- what is left after this many bytes more
  place_at : (k : ℕ) (r : Role) → drop k (p.rest r) ≡ drop (taken_of p.done r + k) (inputs r)
  place_at k r = ap (λ (f : Role → List ℕ). drop k (f r)) p.place ∙ drop-drop k (taken_of p.done r) (inputs r)

  place_after : (k : ℕ) (r : Role) → drop k (p.rest r) ≡ drop (taken_of (p.done) r + (k + 0)) (inputs r)
  place_after k r = place_at k r ∙ ap (λ (n : ℕ). drop (taken_of p.done r + n) (inputs r)) (sym (add-zero k))

  -- a text after that of the turns so far
  gains_more : (bytes : List ℕ) (r : Role) → new.written r ≡ gained (old.written r) bytes
      → new.written r ≡ gained (start r) (texts_of p.done r ++ bytes)
  gains_more bytes r is = is ∙ ap (λ (o : Option (List ℕ)). gained o bytes) (p.written r)
      ∙ gained-gained (start r) (texts_of p.done r) bytes

  -- one turn more is done
  pub more_place : (t : Turn) → left_after p.rest t.taken ≡ left_after inputs (taken_of (p.done ++ t ∷ []))
  more_place t = λ i r. (place_after (t.taken r) r
      ∙ ap (λ (n : ℕ). drop n (inputs r)) (sym (taken-append p.done (t ∷ []) r))) i

  pub more_written : (t : Turn) → Gains t.texts old.written new.written
      → Gains (texts_of (p.done ++ t ∷ [])) start new.written
  more_written t w = λ r.
      gains_more (t.texts r) r (w r)
      ∙ ap (λ (l : List ℕ). gained (start r) l) (ap (λ (l : List ℕ). texts_of p.done r
      ++ l) (sym (append-nil (t.texts r))) ∙ sym (texts-append p.done (t ∷ []) r))

  pub more_turns : (t : Turn) (next : Run) → follow x cont ≡ record { turns = t ∷ next.turns; last = next.last }
      → (p.done ++ t ∷ []) ++ next.turns ≡ run.turns
  more_turns t next is = append_assoc p.done (t ∷ []) next.turns ∙ ap (λ (y : Run). p.done ++ y.turns) (sym is)
      ∙ p.turns

  pub ended : (status : Status) → Ended x status p.rest old new → IsExactly run silent status inputs start new
  ended status e =
      let is : follow x cont ≡ record { turns = []; last = e.last } = ap (λ (y : Step State). follow y cont) e.is in
      let turns : p.done ≡ run.turns = sym (append-nil p.done) ∙ ap (λ (y : Run). p.done ++ y.turns) (sym is)
      ∙ p.turns in
      let last : e.last ≡ run.last = ap (λ (y : Run). y.last) (sym is) ∙ p.last in
      record {
        known = e.by.known ∙ ap (λ (y : End). y.status) last;
        written = λ r. gains_more (e.last.texts r) r (e.by.written r)
            ∙ (λ i. gained (start r) (texts_of (turns i) r ++ (last i).texts r))
            ∙ ap (λ (l : List ℕ). gained (start r) l) (sym (append-nil (text_of run r)));
        left = λ r input k said.
            e.by.left r input k (ap (λ (y : End). y.taken r) last ∙ said)
            ∙ ap (λ (l : List ℕ). Some l) (ap (λ (n : ℕ). drop n (p.rest r)) (zero-add k) ∙ place_at k r
            ∙ ap (λ (l : List Turn). drop (taken_of l r + k) (inputs r)) turns);
      }

  lost : Lost x reads p.rest old new → IsWholeOnly run (λ _. []) inputs start new
  lost e = record {
    done = p.done;
    rest = (follow x cont).turns;
    front = p.turns;
    whole = p.whole e.could;
    part = e.part;
    partly = part_follow x cont e.part e.partly;
    left = λ r input. e.left r input ∙ ap (λ (l : List ℕ). Some l) (place_at (e.part r) r);
    written = λ r. ap (λ (w : Role → Option (List ℕ)). w r) e.written ∙ p.written r
        ∙ ap (λ (l : List ℕ). gained (start r) l) (sym (append-nil (texts_of p.done r)));
  }

  no_memory : new.written ≡ old.written → IsSoFar run (λ _. []) start new.written
  no_memory same = record {
    done = p.done;
    rest = (follow x cont).turns;
    front = p.turns;
    written = λ r. ap (λ (w : Role → Option (List ℕ)). w r) same ∙ p.written r
        ∙ ap (λ (l : List ℕ). gained (start r) l) (sym (append-nil (texts_of p.done r)));
  }

  cut : GainsFronts (step_texts x) old.written new.written → IsCutIn run silent start new.written
  cut fronts = record {
    done = p.done;
    rest = (follow x cont).turns;
    front = p.turns;
    piece = λ r. (fronts r).so_far.front;
    cut = λ r. (fronts r).rest;
    whole = λ r. (fronts r).so_far.whole ∙ next_follow x cont r
        ∙ ap (λ (last : End). next_texts (follow x cont).turns last silent r) p.last;
    written = λ r. gains_more (fronts r).so_far.front r (fronts r).so_far.gains;
  }

  -- a step that doesn't go on ends the run
  pub gives_up : (phase : Phase) (status : Status) → GivesUp phase status x reads p.rest old new
      → EndedIn phase run silent status inputs start new
  gives_up finished status e = absurd e
  gives_up refused status e = ended status e
  gives_up unread status e = lost e
  gives_up unwritten status e = inl (cut e)
  gives_up starved status e = no_memory e
  gives_up unasked status e = absurd e
  gives_up (unopened role) status e = absurd e

-- ---- the start

-- before the first step nothing is done
abbrev pub at_start : {State : Type 0} (first : Step State) (step : State → (Role → List ℕ)
    → Step State) (most : ℕ) (inputs : Role → List ℕ) (now : Outside)
    → IsBefore first (λ next taken. machine_run step most next (left_after inputs taken))
    (run_from first step most inputs)
    inputs now.written true now
at_start first step most inputs now = record {
  done = [];
  rest = inputs;
  turns = refl;
  last = refl;
  place = refl;
  whole = λ _. All-nil IsWholeTurn;
  written = λ r. sym (gained-nil (now.written r));
}

pub started : {State : Type 0} (first : Step State) (step : State → (Role → List ℕ) → Step State) (reads : State
    → Bool) (most : ℕ) (inputs : Role → List ℕ) (old new : Outside) (stands : State → (Role → List ℕ) → Type 0)
    → Went first stands reads true inputs old new
    → IsUnderWay step reads (run_from first step most inputs) inputs old.written stands most new
started {State} first step reads most inputs old new stands w =
    let p = at_start first step most inputs old in
    let next = machine_run step most w.next (left_after inputs w.turn.taken) in
    record {
      done = w.turn ∷ [];
      state = w.next;
      rest = left_after inputs w.turn.taken;
      kept = w.kept;
      turns = more_turns _ _ _ _ _ _ old _ p w.turn next
          (ap (λ (y : Step State). follow y (λ next taken. machine_run step most next (left_after inputs taken))) w.is);
      last = ap (λ (y : Step State).
          (follow y (λ next taken. machine_run step most next (left_after inputs taken))).last)
          (sym w.is);
      place = more_place _ _ _ _ _ _ old _ p w.turn;
      told = w.left;
      whole = λ can. All-cons IsWholeTurn w.turn [] (w.whole ∙ can) (All-nil IsWholeTurn);
      written = more_written _ _ _ _ _ _ new _ p w.turn w.written;
    }

-- ---- a run in its middle

module _ {State : Type 0} (step : State → (Role → List ℕ) → Step State) (reads : State
    → Bool) (run : Run) (inputs : Role → List ℕ) (start : Role → Option (List ℕ)) (old new : Outside) (stands : State
    → (Role → List ℕ) → Type 0) (more : ℕ) (p : IsUnderWay step reads run inputs start stands more old) where
  -- the same run, before its next step
  abbrev pub before_step : IsBefore (step p.state p.rest) (after_step step more p.rest) run inputs start
      (reads p.state) old
  before_step = record {
    done = p.done;
    rest = p.rest;
    turns = ap (λ (y : Run). p.done ++ y.turns) (sym (run_is step more p.state p.rest)) ∙ p.turns;
    last = ap (λ (y : Run). y.last) (sym (run_is step more p.state p.rest)) ∙ p.last;
    place = p.place;
    whole = p.whole;
    written = p.written;
  }

  pub goes_on : (after : State → (Role → List ℕ) → Type 0) (fewer : ℕ) → fewer + 1 ≡ more
      → Went (step p.state p.rest) after reads (reads p.state) p.rest old new
      → IsUnderWay step reads run inputs start after fewer new
  goes_on after fewer less w =
      let next = machine_run step fewer w.next (left_after p.rest w.turn.taken) in
      let is : machine_run step more p.state p.rest ≡ record { turns = w.turn ∷ next.turns; last = next.last } =
      ap (λ (n : ℕ). machine_run step n p.state p.rest) (sym less ∙ add-one fewer)
      ∙ run_goes step fewer p.state p.rest w.next w.turn w.is in
      let b = before_step in
      record {
        done = p.done ++ w.turn ∷ [];
        state = w.next;
        rest = left_after p.rest w.turn.taken;
        kept = w.kept;
        turns = append_assoc p.done (w.turn ∷ []) next.turns ∙ ap (λ (y : Run). p.done ++ y.turns) (sym is) ∙ p.turns;
        last = ap (λ (y : Run). y.last) (sym is) ∙ p.last;
        place = more_place _ _ _ _ _ old new _ b w.turn;
        told = w.left;
        whole = λ can. whole-append p.done w.turn (p.whole w.could) (w.whole ∙ can);
        written = more_written _ _ _ _ _ old new _ b w.turn w.written;
      }

  pub comes_to_its_end : Ended (step p.state p.rest) Fine p.rest old new → HasEnded run silent Fine inputs start new
  comes_to_its_end e = ended _ _ _ _ _ old new _ before_step Fine e

  pub stops : (phase : Phase) (status : Status)
      → GivesUp phase status (step p.state p.rest) (reads p.state) p.rest old new
      → EndedIn phase run silent status inputs start new
  stops phase status e = gives_up _ _ _ _ _ old new _ before_step phase status e

-- what a turn says, by what it answered
pub gave : {State : Type 0} (b known : Bool) (step : Step State) (after : State → (Role → List ℕ)
    → Type 0) (reads : State → Bool) (now : Bool) (inputs : Role → List ℕ) (old new : Outside) → b ≡ known
    → TurnGives (Ok b) step after reads now inputs old new → TurnGives (Ok known) step after reads now inputs old new
gave b known step after reads now inputs old new is gives =
    subst (λ (x : Bool). TurnGives (Ok x) step after reads now inputs old new) is gives

-- and what it says besides, where it goes on
pub fell : (b : Bool) (old new : ℕ) → b ≡ true → Falls (Ok b) old new → new + 1 ≡ old
fell b old new is falls = subst (λ (x : Bool). Falls (Ok x) old new) is falls

pub on_going : (b : Bool) (P : Type 0) → b ≡ true → OnGoing (Ok b) P → P
on_going b P is h = subst (λ (x : Bool). OnGoing (Ok x) P) is h

pub on_end : (b : Bool) (P : Type 0) → b ≡ false → OnEnd (Ok b) P → P
on_end b P is h = subst (λ (x : Bool). OnEnd (Ok x) P) is h

-- the input that is read out is the one of the beginning
pub read_out_since : (source first : Option Role) (now : Outside) → source ≡ first
    → IfSome source (λ role. now.left role ≡ Some []) → IfSome first (λ role. now.left role ≡ Some [])
read_out_since source first now same h = subst (λ (o : Option Role). IfSome o (λ role. now.left role ≡ Some [])) same h

-- a turn gives up with none but the statuses of a start
pub stop_at_start : (phase : Phase) → ComesAtStop phase → ComesAtStart phase
stop_at_start finished stop = absurd stop
stop_at_start refused stop = tt
stop_at_start unread stop = tt
stop_at_start unwritten stop = tt
stop_at_start starved stop = absurd stop
stop_at_start unasked stop = absurd stop
stop_at_start (unopened role) stop = absurd stop

-- a start or a turn that fails reads nothing out
pub not_read_out : (phase : Phase) (source : Option Role) (now : Outside) → ComesAtStart phase
    → ReadOutIn phase source now
not_read_out finished source now stop = absurd stop
not_read_out refused source now stop = tt
not_read_out unread source now stop = tt
not_read_out unwritten source now stop = tt
not_read_out starved source now stop = tt
not_read_out unasked source now stop = tt
not_read_out (unopened role) source now stop = tt

-- a status with which a start gives up comes once all is attached
pub later_stop : (phase : Phase) → ComesAtStart phase → ComesLater phase
later_stop finished stop = absurd stop
later_stop refused stop = tt
later_stop unread stop = tt
later_stop unwritten stop = tt
later_stop starved stop = tt
later_stop unasked stop = absurd stop
later_stop (unopened role) stop = absurd stop

pub roles_on : (a b c : Outside) → KeepsRoles a b → KeepsRoles b c → KeepsRoles a c
roles_on a b c p q = record {
  attached = q.attached ∙ p.attached;
  name = q.name ∙ p.name;
  faults = record { attach = omega arith; read = omega arith; write = omega arith };
  loans = q.loans ∙ p.loans;
}

-- what the desk tells, where nothing was read
pub tells_still : (old new : Outside) (inputs : Role → List ℕ) → new.left ≡ old.left → Tells old inputs
    → Tells new inputs
tells_still old new inputs same told = λ r input. ap (λ (l : Role → Option (List ℕ)). l r) same ∙ told r input

-- ---- the state at the end

state_goes : {State : Type 0} (step : State → (Role → List ℕ) → Step State) (n : ℕ) (s : State) (inputs : Role
    → List ℕ) (next : State) (t : Turn) → step s inputs ≡ Goes next t → end_state step (suc n) s inputs
    ≡ end_state step n next (left_after inputs t.taken)
unfolding end_state
state_goes {State} step n s inputs next t is =
    ap (λ (x : Step State). follow_state x s (λ next taken. end_state step n next (left_after inputs taken))) is

state_ends : {State : Type 0} (step : State → (Role → List ℕ) → Step State) (n : ℕ) (s : State) (inputs : Role
    → List ℕ) (last : End) → step s inputs ≡ Ends last → end_state step n s inputs ≡ s
unfolding end_state
state_ends {State} step zero s inputs last is = refl
state_ends {State} step (suc n) s inputs last is =
    ap (λ (x : Step State). follow_state x s (λ next taken. end_state step n next (left_after inputs taken))) is

module _ {State : Type 0} (step : State → (Role → List ℕ) → Step State) (reads : State
    → Bool) (final : State) (old new : Outside) (stands : State → (Role → List ℕ)
    → Type 0) (more : ℕ) (p : EndsIn step final stands more old) where
  pub state_on : (after : State → (Role → List ℕ) → Type 0) (fewer : ℕ) → fewer + 1 ≡ more
      → Went (step p.state p.rest) after reads (reads p.state) p.rest old new → EndsIn step final after fewer new
  state_on after fewer less w = record {
    state = w.next;
    rest = left_after p.rest w.turn.taken;
    kept = w.kept;
    told = w.left;
    ends = sym (ap (λ (n : ℕ). end_state step n p.state p.rest) (sym less ∙ add-one fewer)
        ∙ state_goes step fewer p.state p.rest w.next w.turn w.is) ∙ p.ends;
  }

  -- what the machine leaves that stood at the last state
  module _ {Machine : Type 0} (stood : Machine → State → (Role → List ℕ) → Type 0) (leaves : Machine → Machine
      → Type 0) (last after : Machine) (k : stood last p.state p.rest) where
    pub left_last : (status : Status) → Ended (step p.state p.rest) status p.rest old new → leaves last after
        → LeftIn stood leaves final after
    left_last status e left = record {
      last = last;
      rest = p.rest;
      stood = subst (λ (s : State). stood last s p.rest) (sym (state_ends step more p.state p.rest e.last e.is)
          ∙ p.ends) k;
      left = left;
    }

    pub left_err : (phase : Phase) (status : Status)
        → GivesUp phase status (step p.state p.rest) (reads p.state) p.rest old new
        → OnceSettled phase (leaves last after) → OnceSettled phase (LeftIn stood leaves final after)
    left_err finished status e left = absurd e
    left_err refused status e left = left_last status e left
    left_err unread status e left = tt
    left_err unwritten status e left = tt
    left_err starved status e left = tt
    left_err unasked status e left = tt
    left_err (unopened role) status e left = tt

pub on_settled : (b : Bool) (P : Type 0) → b ≡ false → OnSettled (Ok b) P → P
on_settled b P is h = subst (λ (x : Bool). OnSettled (Ok x) P) is h
