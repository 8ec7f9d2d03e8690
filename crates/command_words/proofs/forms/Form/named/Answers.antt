use Rattle.std.proofs.Common.{◌≡◌, ℕ, Bool, true, false, List, Some, None, refl, sym}
use Rattle.std.specs.Prelude.{if◌then◌else◌}
use Rattle.std.specs.Str.{bytes_eq}
use Rattle.std.proofs.lemmas.Slice.Eq.{bytes_eq-Decides}
use Rattle.command_words.specs.Asked.{call, send, recv, demo, rate, audit, duplex, group}
use Rattle.command_words.proofs.forms.Form.named.Goals as goal

-- another word is not this one
other : (word first : List ℕ) → (first ≡ word → ⊥) → bytes_eq word first ≡ false
other word first differs = at_test (bytes_eq word first) refl
  where
    at_test : (t : Bool) → bytes_eq word first ≡ t → t ≡ false
    at_test true is = absurd (differs (sym ((bytes_eq-Decides word first).0 is)))
    at_test false is = refl

-- a word that is that of no row names none
no_row : (a b d e f g h i : Bool) → a ≡ false → b ≡ false → d ≡ false → e ≡ false → f ≡ false → g ≡ false → h ≡ false
    → i ≡ false
    → None ≡ (if a then Some call else if b then Some send else if d then Some recv else if e then Some demo
    else if f then Some rate else if g then Some audit else if h then Some duplex else if i then Some group
    else None)
no_row a b d e f g h i p1 p2 p3 p4 p5 p6 p7 p8 = rw p1 (rw p2 (rw p3 (rw p4 (rw p5 (rw p6 (rw p7 (rw p8 refl)))))))

pub returns-in_default : goal.returns-in_default
returns-in_default c =
    let first = c.args.first.now in
    let none = c.in_default in
    no_row _ _ _ _ _ _ _ _ (other call.word first none.not-call) (other send.word first none.not-send)
    (other recv.word first none.not-recv) (other demo.word first none.not-demo)
    (other rate.word first none.not-rate) (other audit.word first none.not-audit)
    (other duplex.word first none.not-duplex) (other group.word first none.not-group)
