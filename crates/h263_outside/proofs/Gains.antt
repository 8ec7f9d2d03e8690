-- What a role has gained or lost by one call after another.
use Rattle.std.proofs.Common.{◌≡◌, ℕ, ◌+◌, ◌≤◌, inl, inr, Bool, true, false, cond, List, [], ◌++◌, drop, Option, Some, None, refl, ap, ◌∙◌, append_assoc, arith, Result, Ok, Err, OnErr}
use Rattle.std.specs.Option.{option_map}
use Rattle.std.proofs.lemmas.List.{append-nil, drop-drop}
use Rattle.h263_outside.specs.Desk.{Outside, is_role, appended, consumed, Rose, OnlyReads, OnlyWrites}
use Rattle.h263_outside.specs.Gains.{gained}
use Rattle.h263_outside.specs.declared.desk.Role.{Role}
use Rattle.h263_outside.specs.declared.desk.Role.TheVariants.{Video, Events, Pictures, Wire, Report, Video2, Pictures2}

-- functions that agree at each role are one
pub same_roles : {A : Type 0} (f g : Role → A) → ((r : Role) → f r ≡ g r) → f ≡ g
same_roles f g h = λ i r. h r i

pub gained-nil : (o : Option (List ℕ)) → gained o [] ≡ o
gained-nil None = refl
gained-nil (Some xs) = ap (λ (l : List ℕ). Some l) (append-nil xs)

pub gained-gained : (o : Option (List ℕ)) (a b : List ℕ) → gained (gained o a) b ≡ gained o (a ++ b)
gained-gained None a b = refl
gained-gained (Some xs) a b = ap (λ (l : List ℕ). Some l) (append_assoc xs a b)

twice_if : (t : Bool) (o : Option (List ℕ)) (a b : List ℕ)
    → cond t (option_map (λ old. old ++ b) (cond t (option_map (λ old. old ++ a) o) o))
    (cond t (option_map (λ old. old ++ a) o) o) ≡ cond t (option_map (λ old. old ++ (a ++ b)) o) o
twice_if true o a b = gained-gained o a b
twice_if false o a b = refl

pub appended-appended : (w : Role → Option (List ℕ)) (role : Role) (a b : List ℕ) → appended (appended w role a) role b
    ≡ appended w role (a ++ b)
appended-appended w role a b = same_roles _ _ (λ r. twice_if (is_role role r) (w r) a b)

-- one call after another
pub writes_on : (a b c : Outside) → OnlyWrites a b → OnlyWrites b c → OnlyWrites a c
writes_on a b c p q = record {
  attached = q.attached ∙ p.attached;
  name = q.name ∙ p.name;
  left = q.left ∙ p.left;
  faults = record { attach = omega arith; read = omega arith; write = omega arith };
  loans = q.loans ∙ p.loans;
}

-- two reads, one after the other, change nothing but what is left
pub reads_on : (a b c : Outside) → OnlyReads a b → OnlyReads b c → OnlyReads a c
reads_on a b c p q = record {
  attached = q.attached ∙ p.attached;
  name = q.name ∙ p.name;
  written = q.written ∙ p.written;
  faults = record { attach = omega arith; read = omega arith; write = omega arith };
  flushed = q.flushed ∙ p.flushed;
  loans = q.loans ∙ p.loans;
}

-- a count that rose since, rose
pub rose_since : (a b c : ℕ) → a ≤ b → Rose b c → Rose a c
rose_since a b c le (inl more) = inl (omega arith)
rose_since a b c le (inr full) = inr full

-- a count that rose and didn't fall since, rose
pub rose_before : (a b c : ℕ) → Rose a b → b ≤ c → Rose a c
rose_before a b c (inl more) le = inl (omega arith)
rose_before a b c (inr full) le = inr (omega arith)

-- what was gained by one call, and by the next
pub gained_more : (first : Role → Option (List ℕ)) (role : Role) (a b ab : List ℕ) (middle last : Role
    → Option (List ℕ)) → middle ≡ appended first role a → last ≡ appended middle role b → a ++ b ≡ ab
    → last ≡ appended first role ab
gained_more first role a b ab middle last p q e =
    q ∙ ap (λ (w : Role → Option (List ℕ)). appended w role b) p ∙ appended-appended first role a b
    ∙ ap (λ (l : List ℕ). appended first role l) e

lose_twice : (o : Option (List ℕ)) (a b : ℕ) → option_map (λ l. drop b l) (option_map (λ l. drop a l) o)
    ≡ option_map (λ l. drop (a + b) l) o
lose_twice None a b = refl
lose_twice (Some xs) a b = ap (λ (l : List ℕ). Some l) (drop-drop b a xs)

lose_if : (t : Bool) (o : Option (List ℕ)) (a b : ℕ)
    → cond t (option_map (λ l. drop b l) (cond t (option_map (λ l. drop a l) o) o))
    (cond t (option_map (λ l. drop a l) o) o) ≡ cond t (option_map (λ l. drop (a + b) l) o) o
lose_if true o a b = lose_twice o a b
lose_if false o a b = refl

pub consumed-consumed : (w : Role → Option (List ℕ)) (role : Role) (a b : ℕ) → consumed (consumed w role a) role b
    ≡ consumed w role (a + b)
consumed-consumed w role a b = same_roles _ _ (λ r. lose_if (is_role role r) (w r) a b)

-- what was lost by one call, and by the next
pub consumed_more : (first : Role → Option (List ℕ)) (role : Role) (a b ab : ℕ) (middle last : Role → Option (List ℕ))
    → middle ≡ consumed first role a → last ≡ consumed middle role b → a + b ≡ ab → last ≡ consumed first role ab
consumed_more first role a b ab middle last p q e =
    q ∙ ap (λ (w : Role → Option (List ℕ)). consumed w role b) p ∙ consumed-consumed first role a b
    ∙ ap (λ (n : ℕ). consumed first role n) e

-- what is left of the role itself
pub consumed_at : (w : Role → Option (List ℕ)) (role : Role) (n : ℕ) → consumed w role n role
    ≡ option_map (λ l. drop n l) (w role)
consumed_at w Video n = refl
consumed_at w Events n = refl
consumed_at w Pictures n = refl
consumed_at w Wire n = refl
consumed_at w Report n = refl
consumed_at w Video2 n = refl
consumed_at w Pictures2 n = refl

-- what holds anyway holds after an error
pub on_err_always : {T E P : Type 0} (r : Result T E) → P → OnErr r P
on_err_always (Ok x) p = tt
on_err_always (Err e) p = p
