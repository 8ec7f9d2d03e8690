use Rattle.std.proofs.Common.{◌≡◌, ◌≤◌, ◌++◌, drop, length, take}
use Rattle.command_words.specs.View.{asked_of}
use Rattle.desk_program.specs.Attached.{names}
use Rattle.h263rps_run.specs.Output.{roles_of}
use Rattle.h263rps_run.proofs.Named.{named, order}
use Rattle.h263rps_run.proofs.roles.put_roles.Given as goal

-- the roles that were put, and those that are left
abbrev pub invariant-order : goal.invariant-order
invariant-order l = record {
  few : l.count ≤ l.role-index;
  long : length l.places ≡ 6;
  roles : names (take l.count l.places) ++ named (asked_of l.words) (drop l.role-index order)
      ≡ roles_of l.words.command (asked_of l.words);
}
