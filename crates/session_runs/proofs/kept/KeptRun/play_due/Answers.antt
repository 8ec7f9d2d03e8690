use Rattle.std.proofs.Common.{◌≡◌, ℕ, ◌<◌, ◌≤◌, Bool, true, false, Option, Some, None, refl, ap, sym, subst, ◌∙◌}
use Rattle.std.proofs.lemmas.Bool.{le-leb, lt-leb}
use Rattle.playout_times.specs.Due.{is_due_by}
use Rattle.session_runs.specs.declared.kept.KeptRun.{KeptRun}
use Rattle.session_runs.specs.Histories.{Config, History, after_play_if, due_in, is_due_in}
use Rattle.session_runs.specs.Kept.{ArePlays, HistoryStands, config_in}
use Rattle.session_runs.proofs.kept.KeptRun.play_due.Goals as goal

-- nothing is played where nothing is due
stays : (k : KeptRun) (f : Config) (h : History) (now : ℕ) (b : Bool) → b ≡ false → HistoryStands k h
    → HistoryStands k (after_play_if f b now h)
stays k f h now b e s = subst (λ (x : Bool). HistoryStands k (after_play_if f x now h)) (sym e) s

-- it is due then
at_time : (now time : ℕ) (due : Option ℕ) → Some time ≡ due → time ≤ now → is_due_by now due ≡ true
at_time now time due e l = ap (is_due_by now) (sym e) ∙ le-leb time now l

before : (now time : ℕ) (due : Option ℕ) → Some time ≡ due → now < time → is_due_by now due ≡ false
before now time due e l = ap (is_due_by now) (sym e) ∙ lt-leb time now l

pub returns-in_default-clause-stands : goal.returns-in_default-clause-stands
returns-in_default-clause-stands c = λ h s.
    let f = config_in c.args.settings.now in
    let e : None ≡ due_in f h = c.in_default.ensures.exact c.args.settings.now c.args.now h c.requires.kept s in
    stays c.args.self.now f h c.args.now (is_due_in f c.args.now h) (ap (is_due_by c.args.now) (sym e)) s

pub returns-then-now-time-clause-told : goal.returns-then-now-time-clause-told
returns-then-now-time-clause-told c = λ h s.
    let f = config_in c.args.settings.now in
    let e = c.in-Some.ensures.exact c.args.settings.now c.args.now h c.requires.kept s in
    subst (λ (b : Bool). ArePlays f h b None)
    (sym (before c.args.now c.in-Some.time (due_in f h) e c.if-now-time.true)) refl

pub returns-then-now-time-clause-stands : goal.returns-then-now-time-clause-stands
returns-then-now-time-clause-stands c = λ h s.
    let f = config_in c.args.settings.now in
    let e = c.in-Some.ensures.exact c.args.settings.now c.args.now h c.requires.kept s in
    stays c.args.self.now f h c.args.now (is_due_in f c.args.now h)
    (before c.args.now c.in-Some.time (due_in f h) e c.if-now-time.true) s

pub returns-clause-told : goal.returns-clause-told
returns-clause-told c = λ h s.
    let f = config_in c.args.settings.now in
    let e = c.in-Some.ensures.exact c.args.settings.now c.args.now h c.requires.kept s in
    subst (λ (b : Bool). ArePlays f h b (Some c.play.result))
    (sym (at_time c.args.now c.in-Some.time (due_in f h) e c.if-now-time.false))
    (c.play.result, refl, c.play.ensures.told h s)

pub returns-clause-stands : goal.returns-clause-stands
returns-clause-stands c = λ h s.
    let f = config_in c.args.settings.now in
    let e = c.in-Some.ensures.exact c.args.settings.now c.args.now h c.requires.kept s in
    subst (λ (b : Bool). HistoryStands c.play.new.self (after_play_if f b c.args.now h))
    (sym (at_time c.args.now c.in-Some.time (due_in f h) e c.if-now-time.false)) (c.play.ensures.stands h s)
