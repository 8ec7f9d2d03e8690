-- The last line, and what a whole run promises.
use Rattle.std.proofs.Common.{if◌then◌else◌, ◌≡◌, inl, inr, ℕ, Bool, true, false, List, [], ◌∷◌, ◌++◌, Option, Some, IfSome, refl, sym, ap, ◌∙◌, subst, append_assoc, append-nil}
use Rattle.h263_outside.specs.Desk.{Outside, is_role, appended, GainsFront, OnlyAttaches, OnlyWrites}
use Rattle.h263_outside.specs.Gains.{gained}
use Rattle.h263_outside.specs.declared.desk.Role.{Role}
use Rattle.h263_outside.specs.declared.desk.Role.TheVariants.{Video, Events, Pictures, Wire, Report, Video2, Pictures2}
use Rattle.call_report.specs.declared.status.Status.{Status}
use Rattle.call_report.specs.declared.status.Status.TheVariants.{WriteFault}
use Rattle.call_report.specs.Status.{Phase, phase}
use Rattle.call_report.specs.Status.Phase.{finished, refused, unread, unwritten, starved, unasked, unopened}
use Rattle.call_report.specs.Text.{status_text}
use Rattle.desk_program.specs.Run.{Turn, End, Run, texts_of, text_of}
use Rattle.desk_program.specs.Ends.{ComesAtOpening, ComesEarly, ComesLater, Gains, IsLater, ReadOutIn, IsReadOut, silent, IsExactly, IsCutAfter, IsCutIn, EndedIn, HasEnded, next_texts}
use Rattle.desk_program.specs.Attached.{AttachedAt}
use Rattle.desk_program.specs.Lines.{end_text, Finishes}
use Rattle.desk_program.specs.Promises.{FlushedIn, HasTexts, IsFlushed, IsUnopened, PrefixesIn, ReadsNothing, SettlesIn, StopsIn, UnopenedIn}
use Rattle.desk_program.proofs.Gained.{gained-nil, gained-gained}
use Rattle.desk_program.proofs.Phases.{no_line}
use Rattle.desk_program.proofs.Attaching.{some_attached, attached_still}

-- ---- the last line, role by role

appended_at : (w : Role → Option (List ℕ)) (b : List ℕ) (r : Role)
    → appended w Report b r ≡ gained (w r) (if is_role Report r then b else [])
appended_at w b Video = sym (gained-nil (w Video))
appended_at w b Events = sym (gained-nil (w Events))
appended_at w b Pictures = sym (gained-nil (w Pictures))
appended_at w b Wire = sym (gained-nil (w Wire))
appended_at w b Report = refl
appended_at w b Video2 = sym (gained-nil (w Video2))
appended_at w b Pictures2 = sym (gained-nil (w Pictures2))

-- a piece of what an end writes
record Ending (status : Status) (old new : Role → Option (List ℕ)) : Type 0 where
  piece : Role → List ℕ
  cut : Role → List ℕ
  whole : (r : Role) → piece r ++ cut r ≡ end_text status r
  written : Gains piece old new

joined : (a b all : List ℕ) → a ++ b ≡ all → (r : Role) → (if is_role Report r then a else [])
    ++ (if is_role Report r then b else []) ≡ (if is_role Report r then all else [])
joined a b all is Video = refl
joined a b all is Events = refl
joined a b all is Pictures = refl
joined a b all is Wire = refl
joined a b all is Report = is
joined a b all is Video2 = refl
joined a b all is Pictures2 = refl

told_gains : (status : Status) (old new : Role → Option (List ℕ)) → new ≡ appended old Report (status_text status)
    → Gains (end_text status) old new
told_gains status old new is = λ r. ap (λ (w : Role → Option (List ℕ)). w r) is ∙ appended_at old (status_text status) r

untold : (status : Status) (old new : Role → Option (List ℕ)) → GainsFront Report (status_text status) old new
    → Ending status old new
untold status old new f = record {
  piece = λ r. if is_role Report r then f.front else [];
  cut = λ r. if is_role Report r then f.rest else [];
  whole = joined f.front f.rest (status_text status) f.whole;
  written = λ r. ap (λ (w : Role → Option (List ℕ)). w r) f.gained ∙ appended_at old f.front r;
}

abbrev nothing : List ℕ
nothing = []

no_text : (b : Bool) → (if b then nothing else nothing) ≡ nothing
no_text true = refl
no_text false = refl

glue : (a b : List ℕ) (old mid new : Option (List ℕ)) → mid ≡ gained old (a ++ []) → new ≡ gained mid b
    → new ≡ gained old (a ++ b)
glue a b old mid new p q = q ∙ ap (λ (o : Option (List ℕ)). gained o b) p ∙ gained-gained old (a ++ []) b
    ∙ ap (λ (l : List ℕ). gained old (l ++ b)) (append-nil a)

front_nil : (a b : List ℕ) → a ++ b ≡ [] → a ≡ []
front_nil [] b is = refl
front_nil (x ∷ a) b is = absurd cc

-- the line of the end, where the end comes next
line_after : List Turn → End → Role → List ℕ
line_after [] last r = end_text last.status r
line_after (t ∷ rest) last r = []

with_line : (rest : List Turn) (last : End) (r : Role) → next_texts rest last silent r ++ line_after rest last r
    ≡ next_texts rest last end_text r
unfolding line_after
with_line [] last r = ap (λ (l : List ℕ). l ++ end_text last.status r) (append-nil (last.texts r))
with_line (t ∷ rest) last r = append-nil (t.texts r)

module _ (run : Run) (inputs : Role → List ℕ) (old : Role → Option (List ℕ)) (mid new : Outside) where
  -- with the whole line
  exactly : (status : Status) → IsExactly run silent status inputs old mid
      → Gains (end_text status) mid.written new.written → new.left ≡ mid.left
      → IsExactly run (end_text) status inputs old new
  exactly status e g same = record {
    known = e.known;
    written = λ r. glue (text_of run r) (end_text status r) (old r) (mid.written r) (new.written r) (e.written r) (g r);
    left = λ r input k said. ap (λ (l : Role → Option (List ℕ)). l r) same ∙ e.left r input k said;
  }

  -- nothing more is written where the line is empty
  still_written : (status : Status) → phase status ≡ unwritten → Gains (end_text status) mid.written new.written
      → (r : Role) → new.written r ≡ mid.written r
  still_written status is g r =
      g r ∙ ap (λ (l : List ℕ). gained (mid.written r) l) (ap (λ (l : List ℕ). if is_role Report r then l else [])
      (no_line status is) ∙ no_text (is_role Report r)) ∙ gained-nil (mid.written r)

  told : (p : Phase) (status : Status) → phase status ≡ p → EndedIn p run silent status inputs old mid
      → Gains (end_text status) mid.written new.written → new.left ≡ mid.left
      → EndedIn p run end_text status inputs old new
  told finished status is e g same = exactly status e g same
  told refused status is e g same = exactly status e g same
  told starved status is e g same = record {
    done = e.done;
    rest = e.rest;
    front = e.front;
    written = λ r. glue (texts_of e.done r) (end_text status r) (old r) (mid.written r) (new.written r) (e.written r)
        (g r);
  }
  told unread status is e g same = record {
    done = e.done;
    rest = e.rest;
    front = e.front;
    whole = e.whole;
    part = e.part;
    partly = e.partly;
    left = λ r input. ap (λ (l : Role → Option (List ℕ)). l r) same ∙ e.left r input;
    written = λ r. glue (texts_of e.done r) (end_text status r) (old r) (mid.written r) (new.written r) (e.written r)
        (g r);
  }
  told unasked status is e g same = λ r. glue [] (end_text status r) (old r) (mid.written r) (new.written r) (e r) (g r)
  told (unopened role) status is e g same = λ r. glue [] (end_text status r) (old r) (mid.written r) (new.written r)
      (e r) (g r)
  told unwritten status is (inl c) g same = inl (record {
    done = c.done;
    rest = c.rest;
    front = c.front;
    piece = c.piece;
    cut = λ r. c.cut r ++ line_after c.rest run.last r;
    whole = λ r.
        sym (append_assoc (c.piece r) (c.cut r) (line_after c.rest run.last r))
        ∙ ap (λ (l : List ℕ). l ++ line_after c.rest run.last r) (c.whole r) ∙ with_line c.rest run.last r;
    written = λ r. still_written status is g r ∙ c.written r;
  })
  told unwritten status is (inr c) g same = inr (record {
    done = c.done;
    rest = c.rest;
    front = c.front;
    other = WriteFault;
    early = tt;
    piece = c.piece;
    cut = c.cut;
    whole = λ r. c.whole r ∙ sym (no_text (is_role Report r));
    written = λ r. still_written status is g r ∙ c.written r;
  })

  -- with a prefix of it
  cut_line : (status : Status) → IsExactly run silent status inputs old mid → Ending status mid.written new.written
      → IsCutIn run end_text old new.written
  cut_line status e end = record {
    done = run.turns;
    rest = [];
    front = append-nil run.turns;
    piece = λ r. run.last.texts r ++ end.piece r;
    cut = end.cut;
    whole = λ r.
        append_assoc (run.last.texts r) (end.piece r) (end.cut r)
        ∙ ap (λ (l : List ℕ). run.last.texts r ++ l) (end.whole r ∙ ap (λ (s : Status). end_text s r) e.known);
    written = λ r.
        glue (text_of run r) (end.piece r) (old r) (mid.written r) (new.written r) (e.written r) (end.written r)
        ∙ ap (λ (l : List ℕ). gained (old r) l) (append_assoc (texts_of run.turns r) (run.last.texts r) (end.piece r));
  }

  cut_after : (status : Status) → ComesEarly (phase status) → (done rest : List Turn) → done ++ rest ≡ run.turns
      → Gains (λ r. texts_of done r ++ []) old mid.written → Ending status mid.written new.written
      → IsCutAfter run (end_text) old new.written
  cut_after status early done rest front gains end = record {
    done = done;
    rest = rest;
    front = front;
    other = status;
    early = early;
    piece = end.piece;
    cut = end.cut;
    whole = end.whole;
    written = λ r. glue (texts_of done r) (end.piece r) (old r) (mid.written r) (new.written r) (gains r)
        (end.written r);
  }

  not_told : (p : Phase) (status : Status) → phase status ≡ p → EndedIn p run silent status inputs old mid
      → Ending status mid.written new.written → new.left ≡ mid.left → HasEnded run end_text WriteFault inputs old new
  not_told finished status is e end same = inl (cut_line status e end)
  not_told refused status is e end same = inl (cut_line status e end)
  not_told starved status is e end same =
      inr (cut_after status (subst ComesEarly (sym is) tt) e.done e.rest e.front e.written end)
  not_told unread status is e end same =
      inr (cut_after status (subst ComesEarly (sym is) tt) e.done e.rest e.front e.written end)
  not_told unasked status is e end same = inr (cut_after status (subst ComesEarly (sym is) tt) [] run.turns refl e end)
  not_told (unopened role) status is e end same = inr (cut_after status (subst ComesEarly (sym is) tt) [] run.turns
      refl e end)
  not_told unwritten status is e end same =
      let quiet : (r : Role) → end_text status r ≡ [] = λ r. ap (λ (l : List ℕ). if is_role Report r then l else [])
      (no_line status is) ∙ no_text (is_role Report r) in
      told unwritten WriteFault refl e
      (λ r. end.written r ∙ ap (λ (l : List ℕ). gained (mid.written r) l) (front_nil (end.piece r) (end.cut r)
      (end.whole r ∙ quiet r) ∙ sym (no_text (is_role Report r))))
      same

  -- the run with its last line
  pub finished_with : (status result : Status) → HasEnded run silent status inputs old mid
      → Finishes status result mid new → new.left ≡ mid.left → HasEnded run end_text result inputs old new
  finished_with status result e (inl t) same =
      subst (λ (s : Status). HasEnded run end_text s inputs old new) (sym t.same)
      (told (phase status) status refl e (told_gains status mid.written new.written t.written) same)
  finished_with status result e (inr t) same =
      subst (λ (s : Status). HasEnded run end_text s inputs old new) (sym t.fault)
      (not_told (phase status) status refl e (untold status mid.written new.written t.written) same)

-- where a role could not be attached, nothing was written
pub opening_ends : (p : Phase) (status : Status) (run : Run) (inputs : Role → List ℕ) (old : Role
    → Option (List ℕ)) (new : Outside) → ComesAtOpening p → new.written ≡ old
    → EndedIn p run silent status inputs old new
opening_ends finished status run inputs old new is same = absurd is
opening_ends refused status run inputs old new is same = absurd is
opening_ends unread status run inputs old new is same = absurd is
opening_ends unwritten status run inputs old new is same = absurd is
opening_ends unasked status run inputs old new is same = absurd is
opening_ends starved status run inputs old new is same = record {
  done = [];
  rest = run.turns;
  front = refl;
  written = λ r. ap (λ (w : Role → Option (List ℕ)). w r) same ∙ sym (gained-nil (old r));
}
opening_ends (unopened role) status run inputs old new is same = λ r. ap (λ (w : Role → Option (List ℕ)). w r) same
    ∙ sym (gained-nil (old r))

-- ---- what does not depend on what the desk tells

pub finished_attached : (order : List (Role × List ℕ)) (status result : Status) (mid new : Outside) → OnlyWrites mid new
    → AttachedAt order status mid → Finishes status result mid new → AttachedAt order result new
finished_attached order status result mid new rest a (inl t) =
    subst (λ (s : Status). AttachedAt order s new) (sym t.same)
    (attached_still (phase status) order mid new rest.attached rest.name a)
finished_attached order status result mid new rest a (inr t) =
    subst (λ (s : Status). AttachedAt order s new) (sym t.fault) (some_attached (phase status) order new
    (attached_still (phase status) order mid new rest.attached rest.name a))

still_read : (p : Phase) (source : Option Role) (mid new : Outside) → new.left ≡ mid.left → ReadOutIn p source mid
    → ReadOutIn p source new
still_read finished source mid new same h = subst (λ (l : Role → Option (List ℕ)). IfSome source (λ role. l role
    ≡ Some [])) (sym same) h
still_read refused source mid new same h = tt
still_read unread source mid new same h = tt
still_read unwritten source mid new same h = tt
still_read starved source mid new same h = tt
still_read unasked source mid new same h = tt
still_read (unopened role) source mid new same h = tt

pub finished_read : (status result : Status) (source : Option Role) (mid new : Outside) → new.left ≡ mid.left
    → IsReadOut status source mid → Finishes status result mid new → IsReadOut result source new
finished_read status result source mid new same read (inl t) =
    subst (λ (s : Status). IsReadOut s source new) (sym t.same) (still_read (phase status) source mid new same read)
finished_read status result source mid new same read (inr t) = subst (λ (s : Status). IsReadOut s source new)
    (sym t.fault) tt

-- ---- the promises, by how the run has ended

module _ (run : Run) (inputs : Role → List ℕ) (old : Role → Option (List ℕ)) (new : Outside) where
  pub has_texts : (p : Phase) (s : Status) → EndedIn p run end_text s inputs old new → SettlesIn p
      → HasTexts run end_text s old new.written
  has_texts finished s e is = record { known = e.known; written = e.written }
  has_texts refused s e is = record { known = e.known; written = e.written }
  has_texts starved s e is = absurd is
  has_texts unasked s e is = absurd is
  has_texts unread s e is = absurd is
  has_texts unwritten s e is = absurd is
  has_texts (unopened role) s e is = absurd is

  pub has_prefixes : (p : Phase) (s : Status) → EndedIn p run end_text s inputs old new → StopsIn p
      → PrefixesIn p s run end_text old new.written
  has_prefixes starved s e is = e
  has_prefixes unread s e is = record { done = e.done; rest = e.rest; front = e.front; written = e.written }
  has_prefixes unwritten s e is = e
  has_prefixes finished s e is = absurd is
  has_prefixes refused s e is = absurd is
  has_prefixes unasked s e is = absurd is
  has_prefixes (unopened role) s e is = absurd is

-- ---- a flush

flushed_in : (p : Phase) (new : Outside) → new.flushed ≡ true → FlushedIn p new
flushed_in finished new is = is
flushed_in refused new is = is
flushed_in unread new is = is
flushed_in unwritten new is = tt
flushed_in starved new is = is
flushed_in unasked new is = is
flushed_in (unopened role) new is = is

pub finished_flushed : (status result : Status) (mid new : Outside) → Finishes status result mid new
    → IsFlushed result new
finished_flushed status result mid new (inl t) = flushed_in (phase result) new t.flushed
finished_flushed status result mid new (inr t) = subst (λ (s : Status). IsFlushed s new) (sym t.fault) tt

-- ---- a role that could not be attached

unopened_alone : (status result : Status) (old mid new : Outside) → mid.left ≡ old.left → mid.written ≡ old.written
    → new.left ≡ mid.left → Finishes status result mid new → IsUnopened result → ReadsNothing result old new
unopened_alone status result old mid new left written same (inl t) is = record {
  left = same ∙ left;
  written = subst (λ (w : Role → Option (List ℕ)). Gains (end_text result) w new.written) written
      (subst (λ (s : Status). Gains (end_text s) mid.written new.written) (sym t.same)
      (told_gains status mid.written new.written t.written));
}
unopened_alone status result old mid new left written same (inr t) is = absurd (subst IsUnopened t.fault is)

pub opening_alone : (status result : Status) (old mid new : Outside) → OnlyAttaches old mid → OnlyWrites mid new
    → Finishes status result mid new → IsUnopened result → ReadsNothing result old new
opening_alone status result old mid new attaches rest told is = unopened_alone status result old mid new attaches.left
    attaches.written rest.left told is

-- a status that comes later is none of a role
not_opening : (p : Phase) → ComesLater p → UnopenedIn p → ⊥
not_opening finished later is = absurd is
not_opening refused later is = absurd is
not_opening unread later is = absurd is
not_opening unwritten later is = absurd is
not_opening starved later is = absurd is
not_opening unasked later is = absurd is
not_opening (unopened role) later is = absurd later

pub later_alone : (status result : Status) (old mid new : Outside) → IsLater status → Finishes status result mid new
    → IsUnopened result → ReadsNothing result old new
later_alone status result old mid new later (inl t) is =
    absurd (not_opening (phase status) later (subst IsUnopened t.same is))
later_alone status result old mid new later (inr t) is = absurd (subst IsUnopened t.fault is)
