-- What is left of a file of which nothing was read ahead.
use Rattle.std.proofs.Common.{◌≡◌, ℕ, ◌-◌, ◌==◌, true, List, [], take, drop, Option, Result, Ok, Err, IsErrAnd, ap, subst, sym, ◌∙◌, arith}
use Rattle.std.proofs.KnownBytes.{prepend_known-nil}
use Rattle.std.proofs.lemmas.Bool.Decides.{nat_tests}
use Rattle.std.specs.Io.KnownBytes.{Keeps, ReadConsumes, prepend_known}
use Rattle.h263_outside.specs.Host.{ahead_bytes, input_left}
use Rattle.h263_outside.specs.declared.ahead.Ahead.{Ahead}
use Rattle.h263_outside.specs.declared.input.InputFile.{InputFile}

is_same : (n m : ℕ) → (n == m) ≡ true → n ≡ m
is_same n m test = grind (arith, nat_tests)

nothing_ahead : (a : Ahead) → (a.end == a.at) ≡ true → ahead_bytes a ≡ []
nothing_ahead a test =
    let none : a.end - a.at ≡ 0 = omega (arith, is_same a.end a.at test) in
    ap (λ (n : ℕ). take n (drop a.at a.bytes)) none

pub left_in_file : {F : Type 0} (known : F → Option (List ℕ)) (input : InputFile F)
    → (input.ahead.end == input.ahead.at) ≡ true → input_left known input ≡ known input.file
left_in_file known input test =
    ap (λ (l : List ℕ). prepend_known l (known input.file)) (nothing_ahead input.ahead test)
    ∙ prepend_known-nil (known input.file)

-- after a read that failed all is left
pub nothing_read : {E : Type 0} (old kept new : Option (List ℕ)) (r : Result ℕ E) (P : E → Type 0) (buf : List ℕ)
    → IsErrAnd r P → old ≡ kept → Keeps kept new → ReadConsumes old new r buf
nothing_read old kept new (Ok n) P buf is same keeps = absurd is
nothing_read old kept new (Err x) P buf is same keeps = subst (λ (o : Option (List ℕ)). Keeps o new) (sym same) keeps
