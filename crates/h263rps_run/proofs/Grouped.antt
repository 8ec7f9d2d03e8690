-- The roles of a group's command: no two are one, and with them attached it may begin.
use Rattle.std.proofs.Common.{◌≡◌, ℕ, zero, suc, ◌<◌, ◌≤◌, Bool, true, false, [], ◌∷◌, refl, arith}
use Rattle.std.specs.Prelude.{IsTrue, map, nat_le}
use Rattle.h263_types.specs.declared.params.Params.{Params}
use Rattle.h263_types.specs.Params.{IsParams}
use Rattle.h263_outside.specs.Desk.{Outside, with_role}
use Rattle.h263_outside.specs.declared.desk.Role.TheVariants.{Video, Events, Pictures, Pictures2, Report, Wire}
use Rattle.command_words.specs.Asked.{Asked}
use Rattle.command_words.specs.declared.command.Command.TheVariants.{Group}
use Rattle.desk_program.specs.Attached.{AreAttached, are_free}
use Rattle.group_command.specs.Group.{pictures_at}
use Rattle.group_command.specs.Standing.{GroupMayBegin}
use Rattle.h263rps_run.specs.Output.{group_terms, roles_of, the_word}
use Rattle.h263rps_run.proofs.Named.{group_by}

module _ (params : Params) (a : Asked) where
  free_by : (two three : Bool)
      → IsTrue (are_free (with_role (λ _. false) Report true) (map (λ r. (r.0, the_word (a.given r.1)))
      (group_by two three)))
  free_by false false = refl
  free_by false true = refl
  free_by true false = refl
  free_by true true = refl

  pub group_free : (n : ℕ) → IsTrue (are_free (with_role (λ _. false) Report true) (roles_of (Group params n) a))
  group_free n = free_by (nat_le 2 n) (nat_le 3 n)

  pub group_opens : (n : ℕ) → IsParams params → 1 ≤ n → n ≤ 3 → (now : Outside)
      → AreAttached ((Report, []) ∷ roles_of (Group params n) a) now → GroupMayBegin (group_terms params n) now.attached
  group_opens zero is some few now e = absurd (omega (arith, some))
  group_opens (suc zero) is some few now e = record {
    params = is;
    some = some;
    few = few;
    opens = record { video = e.roles Video; events = e.roles Events; report = e.roles Report; pictures = pictures };
  }
    where
      pictures : (k : ℕ) → k < 1 → now.attached (pictures_at k) ≡ true
      pictures zero less = e.roles Pictures
      pictures (suc k) less = absurd (omega (arith, less))
  group_opens (suc (suc zero)) is some few now e = record {
    params = is;
    some = some;
    few = few;
    opens = record { video = e.roles Video; events = e.roles Events; report = e.roles Report; pictures = pictures };
  }
    where
      pictures : (k : ℕ) → k < 2 → now.attached (pictures_at k) ≡ true
      pictures zero less = e.roles Pictures
      pictures (suc zero) less = e.roles Pictures2
      pictures (suc (suc k)) less = absurd (omega (arith, less))
  group_opens (suc (suc (suc zero))) is some few now e = record {
    params = is;
    some = some;
    few = few;
    opens = record { video = e.roles Video; events = e.roles Events; report = e.roles Report; pictures = pictures };
  }
    where
      pictures : (k : ℕ) → k < 3 → now.attached (pictures_at k) ≡ true
      pictures zero less = e.roles Pictures
      pictures (suc zero) less = e.roles Pictures2
      pictures (suc (suc k)) less = e.roles Wire
  group_opens (suc (suc (suc (suc n)))) is some few now e = absurd (omega (arith, few))
