-- Prefixes of a text at one role, and what a write on one role says of each.
use Rattle.std.proofs.Common.{◌≡◌, ℕ, Bool, true, false, cond, List, [], ◌++◌, Option, refl, sym, ap, ◌∙◌, append_assoc}
use Rattle.std.specs.Option.{option_map}
use Rattle.std.proofs.lemmas.List.{append-nil}
use Rattle.h263_outside.specs.Desk.{is_role, appended, GainsFront}
use Rattle.h263_outside.specs.Gains.{gained, Before, Front}
use Rattle.h263_outside.specs.declared.desk.Role.{Role}
use Rattle.h263_outside.specs.declared.desk.Role.TheVariants.{Video, Events, Pictures, Wire, Report, Video2, Pictures2}
use Rattle.h263_outside.proofs.Gains.{gained-nil, gained-gained}

-- before anything was gained, all is to come
pub nothing_gained : (all : List ℕ) (old new : Option (List ℕ)) → new ≡ old → Before all all old new
nothing_gained all old new same = record { front = []; whole = refl; gains = same ∙ sym (gained-nil old) }

-- a part that comes after what was gained
pub part_after : (part rest all : List ℕ) (old middle new : Option (List ℕ)) → Before (part ++ rest) all old middle
    → new ≡ gained middle part → Before rest all old new
part_after part rest all old middle new b gains = record {
  front = b.front ++ part;
  whole = append_assoc b.front part rest ∙ b.whole;
  gains = gains ∙ ap (λ (o : Option (List ℕ)). gained o part) b.gains ∙ gained-gained old b.front part;
}

-- a prefix of a part that comes after what was gained is a prefix of the whole
pub front_after : (part rest all : List ℕ) (old middle new : Option (List ℕ)) → Before (part ++ rest) all old middle
    → Front part middle new → Front all old new
front_after part rest all old middle new b f = record {
  rest = f.rest ++ rest;
  so_far = record {
    front = b.front ++ f.so_far.front;
    whole = append_assoc b.front f.so_far.front (f.rest ++ rest)
        ∙ ap (λ (l : List ℕ). b.front ++ l) (sym (append_assoc f.so_far.front f.rest rest)
        ∙ ap (λ (l : List ℕ). l ++ rest) f.so_far.whole) ∙ b.whole;
    gains = f.so_far.gains ∙ ap (λ (o : Option (List ℕ)). gained o f.so_far.front) b.gains
        ∙ gained-gained old b.front f.so_far.front;
  };
}

-- with nothing to come, all was gained
pub all_gained : (all : List ℕ) (old new : Option (List ℕ)) → Before [] all old new → new ≡ gained old all
all_gained all old new b = b.gains ∙ ap (λ (l : List ℕ). gained old l) (sym (append-nil b.front) ∙ b.whole)

-- what was gained so far is a prefix
pub front_so_far : (rest all : List ℕ) (old new : Option (List ℕ)) → Before rest all old new → Front all old new
front_so_far rest all old new b = record { rest = rest; so_far = b }

-- nothing more was gained
pub before_stays : (rest all : List ℕ) (old middle new : Option (List ℕ)) → Before rest all old middle → new ≡ middle
    → Before rest all old new
before_stays rest all old middle new b same = record { front = b.front; whole = b.whole; gains = same ∙ b.gains }

-- what a write on a role says of that role
pub gained_at : (role : Role) (bytes : List ℕ) (old new : Role → Option (List ℕ)) → new ≡ appended old role bytes
    → new role ≡ gained (old role) bytes
gained_at Video bytes old new e = ap (λ (w : Role → Option (List ℕ)). w Video) e
gained_at Events bytes old new e = ap (λ (w : Role → Option (List ℕ)). w Events) e
gained_at Pictures bytes old new e = ap (λ (w : Role → Option (List ℕ)). w Pictures) e
gained_at Wire bytes old new e = ap (λ (w : Role → Option (List ℕ)). w Wire) e
gained_at Report bytes old new e = ap (λ (w : Role → Option (List ℕ)). w Report) e
gained_at Video2 bytes old new e = ap (λ (w : Role → Option (List ℕ)). w Video2) e
gained_at Pictures2 bytes old new e = ap (λ (w : Role → Option (List ℕ)). w Pictures2) e

other_if : (t : Bool) (o : Option (List ℕ)) (bytes : List ℕ) → t ≡ false → cond t (option_map (λ old. old ++ bytes) o) o
    ≡ o
other_if true o bytes e = absurd (cc)
other_if false o bytes e = refl

-- and of each other role: it stays
pub stays_at : (role r : Role) (bytes : List ℕ) (old new : Role → Option (List ℕ)) → is_role role r ≡ false
    → new ≡ appended old role bytes → new r ≡ old r
stays_at role r bytes old new other e = ap (λ (w : Role → Option (List ℕ)). w r) e
    ∙ other_if (is_role role r) (old r) bytes other

-- a write that stopped on a role has given it a prefix
pub front_at : (role : Role) (all : List ℕ) (old new : Role → Option (List ℕ)) → GainsFront role all old new
    → Front all (old role) (new role)
front_at role all old new f = record {
  rest = f.rest;
  so_far = record {
    front = f.front;
    whole = f.whole;
    gains = gained_at role f.front old new f.gained;
  };
}

-- and each other role stays
pub front_stays_at : (role r : Role) (all : List ℕ) (old new : Role → Option (List ℕ)) → is_role role r ≡ false
    → GainsFront role all old new → new r ≡ old r
front_stays_at role r all old new other f = stays_at role r f.front old new other f.gained
