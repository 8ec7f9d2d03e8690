-- What is left of the other inputs where one of them is refused.
use Rattle.std.proofs.Common.{◌≡◌, ◌≢◌, ℕ, ◌+◌, Bool, true, false, drop, List, Some, None, refl, sym, ap, ◌∙◌, arith, if◌then◌else◌}
use Rattle.h263_outside.specs.Desk.{IsInput, Outside, is_role}
use Rattle.h263_outside.specs.declared.desk.Role.{Role}
use Rattle.h263_outside.specs.declared.desk.Role.TheVariants.{Video, Events}
use Rattle.call_report.specs.declared.status.Status.{Status}
use Rattle.desk_program.specs.Ends.{EndsBy, Tells}
use Rattle.desk_program.specs.Laws.{TurnLaws}
use Rattle.desk_program.specs.Run.{left_after}
use Rattle.desk_program.specs.Texts.{no_bytes}
use Rattle.send_command.specs.Send.{input_refusal}

-- another role
pub not_video : (r : Role) → is_role Video r ≡ false → r ≢ Video
not_video r is same =
    let clash : false ≡ true = sym is ∙ ap (λ (q : Role). is_role Video q) same in
    cc

pub not_events : (r : Role) → is_role Events r ≡ false → r ≢ Events
not_events r is same =
    let clash : false ≡ true = sym is ∙ ap (λ (q : Role). is_role Events q) same in
    cc

-- of each other input this much was taken, and nothing was written
pub refused_by : TurnLaws → (input : Role) (before : Role → ℕ) (status : Status) (inputs : Role
    → List ℕ) (old new : Outside)
    → ((r : Role) → IsInput r → is_role input r ≡ false → new.left r ≡ Some (left_after inputs before r))
    → new.written ≡ old.written
    → EndsBy (input_refusal input before status) status inputs old new
refused_by turns input before status inputs old new left same = record {
  known = refl;
  left = λ r is_input k said. at_role (is_role input r) r (left r is_input) k said;
  written = turns.no_text old.written new.written same;
}
  where
    so_many : (a k : ℕ) → a ≡ k → a ≡ 0 + k
    so_many a k is = omega (arith, is)

    at_role : (b : Bool) (r : Role) → (b ≡ false → new.left r ≡ Some (left_after inputs before r))
        → (k : ℕ) → (if b then None else Some (before r)) ≡ Some k
        → new.left r ≡ Some (left_after inputs (λ _. 0 + k) r)
    at_role true r left k said = absurd (cc said)
    at_role false r left k said = left refl ∙ ap (λ (n : ℕ). Some (drop n (inputs r))) (so_many (before r) k (cc said))

-- where the log is refused nothing is taken of the other inputs
pub log_refused : TurnLaws → (status : Status) (inputs : Role → List ℕ) (old new : Outside) → Tells old inputs
    → ((r : Role) → r ≢ Events → new.left r ≡ old.left r) → new.written ≡ old.written
    → EndsBy (input_refusal Events no_bytes status) status inputs old new
log_refused turns status inputs old new told others same =
    refused_by turns Events no_bytes status inputs old new (λ r is_input other. others r (not_events r other)
    ∙ told r is_input) same
