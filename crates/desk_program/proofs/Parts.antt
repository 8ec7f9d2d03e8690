-- Texts and counts, role by role: one write after another, one read after another.
use Rattle.std.proofs.Common.{if◌then◌else◌, ◌≡◌, ◌≢◌, ℕ, Bool, true, false, List, [], ◌++◌, drop, Option, Some, None, refl, sym, ap, ◌∙◌, append_assoc, ◌+◌, arith}
use Rattle.std.proofs.lemmas.List.{drop-drop}
use Rattle.h263_outside.specs.Desk.{Outside, IsInput, is_role, appended, GainsFront}
use Rattle.h263_outside.specs.Gains.{gained}
use Rattle.h263_outside.specs.declared.desk.Role.{Role}
use Rattle.h263_outside.specs.declared.desk.Role.TheVariants.{Video, Events, Pictures, Wire, Report, Video2, Pictures2}
use Rattle.call_report.specs.declared.status.Status.{Status}
use Rattle.desk_program.specs.Run.{left_after, refusal, video_refusal}
use Rattle.desk_program.specs.Ends.{Tells, Gains, GainsFronts, EndsBy}
use Rattle.desk_program.proofs.Gained.{gained-nil, gained-gained}
use Rattle.desk_program.specs.Texts.{no_texts, on, then_also, no_bytes, of, and_of}

-- ---- writes

gained_if : (b : Bool) (bytes : List ℕ) (o : Option (List ℕ)) → (if b then gained o bytes else o)
    ≡ gained o (if b then bytes else [])
gained_if true bytes o = refl
gained_if false bytes o = sym (gained-nil o)

pub gains_on : (role : Role) (bytes : List ℕ) (old new : Role → Option (List ℕ)) → new ≡ appended old role bytes
    → Gains (on role bytes) old new
gains_on role bytes old new is = λ r. ap (λ (w : Role → Option (List ℕ)). w r) is
    ∙ gained_if (is_role role r) bytes (old r)

joined : (b : Bool) (x y all : List ℕ) → x ++ y ≡ all → (if b then x else []) ++ (if b then y else [])
    ≡ (if b then all else [])
joined true x y all is = is
joined false x y all is = refl

-- a prefix that one role gained, as prefixes of all roles
pub fronts_on : (role : Role) (bytes : List ℕ) (old new : Role → Option (List ℕ)) → GainsFront role bytes old new
    → GainsFronts (on role bytes) old new
fronts_on role bytes old new f = λ r. record {
  rest = on role f.rest r;
  so_far = record {
    front = on role f.front r;
    whole = joined (is_role role r) f.front f.rest bytes f.whole;
    gains = gains_on role f.front old new f.gained r;
  };
}

-- nothing was written
pub gains_none : (old new : Role → Option (List ℕ)) → new ≡ old → Gains no_texts old new
gains_none old new same = λ r. ap (λ (w : Role → Option (List ℕ)). w r) same ∙ sym (gained-nil (old r))

-- one after another
pub gains_both : (first second : Role → List ℕ) (old mid new : Role → Option (List ℕ)) → Gains first old mid
    → Gains second mid new → Gains (then_also first second) old new
gains_both first second old mid new p q = λ r. q r ∙ ap (λ (o : Option (List ℕ)). gained o (second r)) (p r)
    ∙ gained-gained (old r) (first r) (second r)

pub fronts_first : (first second : Role → List ℕ) (old new : Role → Option (List ℕ)) → GainsFronts first old new
    → GainsFronts (then_also first second) old new
fronts_first first second old new p = λ r. record {
  rest = (p r).rest ++ second r;
  so_far = record {
    front = (p r).so_far.front;
    whole = sym (append_assoc (p r).so_far.front (p r).rest (second r))
        ∙ ap (λ (l : List ℕ). l ++ second r) (p r).so_far.whole;
    gains = (p r).so_far.gains;
  };
}

pub fronts_second : (first second : Role → List ℕ) (old mid new : Role → Option (List ℕ)) → Gains first old mid
    → GainsFronts second mid new → GainsFronts (then_also first second) old new
fronts_second first second old mid new p q = λ r. record {
  rest = (q r).rest;
  so_far = record {
    front = first r ++ (q r).so_far.front;
    whole = append_assoc (first r) (q r).so_far.front (q r).rest ∙ ap (λ (l : List ℕ). first r ++ l) (q r).so_far.whole;
    gains = (q r).so_far.gains ∙ ap (λ (o : Option (List ℕ)). gained o (q r).so_far.front) (p r)
        ∙ gained-gained (old r) (first r) (q r).so_far.front;
  };
}

-- ---- reads

-- nothing was taken
pub tells_none : (old new : Outside) (inputs : Role → List ℕ) → new.left ≡ old.left → Tells old inputs
    → Tells new (left_after inputs no_bytes)
tells_none old new inputs same told = λ r input. ap (λ (l : Role → Option (List ℕ)). l r) same ∙ told r input

-- bytes of one input were taken, and the others stay
is_same : (role r : Role) → is_role role r ≡ true → role ≡ r
is_same Video Video is = refl
is_same Events Events is = refl
is_same Pictures Pictures is = refl
is_same Wire Wire is = refl
is_same Report Report is = refl
is_same Video2 Video2 is = refl
is_same Pictures2 Pictures2 is = refl
is_same Video Events is = absurd cc
is_same Video Pictures is = absurd cc
is_same Video Wire is = absurd cc
is_same Video Report is = absurd cc
is_same Video Video2 is = absurd cc
is_same Video Pictures2 is = absurd cc
is_same Events Video is = absurd cc
is_same Events Pictures is = absurd cc
is_same Events Wire is = absurd cc
is_same Events Report is = absurd cc
is_same Events Video2 is = absurd cc
is_same Events Pictures2 is = absurd cc
is_same Pictures Video is = absurd cc
is_same Pictures Events is = absurd cc
is_same Pictures Wire is = absurd cc
is_same Pictures Report is = absurd cc
is_same Pictures Video2 is = absurd cc
is_same Pictures Pictures2 is = absurd cc
is_same Wire Video is = absurd cc
is_same Wire Events is = absurd cc
is_same Wire Pictures is = absurd cc
is_same Wire Report is = absurd cc
is_same Wire Video2 is = absurd cc
is_same Wire Pictures2 is = absurd cc
is_same Report Video is = absurd cc
is_same Report Events is = absurd cc
is_same Report Pictures is = absurd cc
is_same Report Wire is = absurd cc
is_same Report Video2 is = absurd cc
is_same Report Pictures2 is = absurd cc
is_same Video2 Video is = absurd cc
is_same Video2 Events is = absurd cc
is_same Video2 Pictures is = absurd cc
is_same Video2 Wire is = absurd cc
is_same Video2 Report is = absurd cc
is_same Video2 Pictures2 is = absurd cc
is_same Pictures2 Video is = absurd cc
is_same Pictures2 Events is = absurd cc
is_same Pictures2 Pictures is = absurd cc
is_same Pictures2 Wire is = absurd cc
is_same Pictures2 Report is = absurd cc
is_same Pictures2 Video2 is = absurd cc

same_is : (role : Role) → is_role role role ≡ true
same_is Video = refl
same_is Events = refl
same_is Pictures = refl
same_is Wire = refl
same_is Report = refl
same_is Video2 = refl
same_is Pictures2 = refl

apart : (role r : Role) → is_role role r ≡ false → r ≢ role
apart role r differ same = absurd (cc (same_is role, ap (λ (x : Role). is_role role x) same))

pub tells_one : (role : Role) (n : ℕ) (old new : Outside) (inputs : Role → List ℕ) → Tells old inputs
    → new.left role ≡ Some (drop n (inputs role)) → ((r : Role) → r ≢ role → new.left r ≡ old.left r)
    → Tells new (left_after inputs (of role n))
tells_one role n old new inputs told lost others = λ r input. at r input (is_role role r) refl
  where
    at : (r : Role) → IsInput r → (t : Bool) → is_role role r ≡ t → new.left r ≡ Some (left_after inputs (of role n) r)
    at r input true is = ap new.left (sym (is_same role r is)) ∙ lost
        ∙ (λ i. Some (drop (if sym is i then n else 0) (inputs (is_same role r is i))))
    at r input false is = others r (apart role r is) ∙ told r input
        ∙ ap (λ (t : Bool). Some (drop (if t then n else 0) (inputs r))) (sym is)

pub tells_end : (role : Role) (old new : Outside) (inputs : Role → List ℕ) → Tells old inputs → inputs role ≡ []
    → new.left role ≡ Some [] → ((r : Role) → r ≢ role → new.left r ≡ old.left r) → Tells new inputs
tells_end role old new inputs told none gone others = λ r input. at r input (is_role role r) refl
  where
    at : (r : Role) → IsInput r → (t : Bool) → is_role role r ≡ t → new.left r ≡ Some (inputs r)
    at r input true is = ap new.left (sym (is_same role r is)) ∙ gone ∙ ap (λ (l : List ℕ). Some l) (sym none
        ∙ ap inputs (is_same role r is))
    at r input false is = others r (apart role r is) ∙ told r input

pub tells_both : (first second : Role → ℕ) (new : Outside) (inputs : Role → List ℕ)
    → Tells new (left_after (left_after inputs first) second) → Tells new (left_after inputs (and_of first second))
tells_both first second new inputs told = λ r input. told r input
    ∙ ap (λ (l : List ℕ). Some l) (drop-drop (second r) (first r) (inputs r))

-- ---- ends

-- an end that takes this much of each input
pub ends_at : (status : Status) (taken : Role → ℕ) (texts inputs : Role → List ℕ) (old new : Outside)
    → Tells new (left_after inputs taken) → Gains texts old.written new.written
    → EndsBy (record { status = status; taken = λ r. Some (taken r); texts = texts }) status inputs old new
ends_at status taken texts inputs old new told gains = record {
  known = refl;
  left = λ r input k said. told r input ∙ ap (λ (n : ℕ). Some (drop n (inputs r))) (same (taken r) k (cc said));
  written = gains;
}
  where
    same : (n k : ℕ) → n ≡ k → n ≡ 0 + k
    same n k is = omega (arith, is)

-- a refusal
pub refuses : (status : Status) (inputs : Role → List ℕ) (old new : Outside) → new.written ≡ old.written
    → EndsBy (refusal status) status inputs old new
refuses status inputs old new same = record {
  known = refl;
  left = λ r input k said. absurd (cc said);
  written = gains_none old.written new.written same;
}

-- a refused video: of each other input this much was taken
pub refuses_video : (video : Role) (before : Role → ℕ) (status : Status) (inputs : Role → List ℕ) (old new : Outside)
    → ((r : Role) → IsInput r → r ≢ video → new.left r ≡ Some (left_after inputs before r)) → new.written ≡ old.written
    → EndsBy (video_refusal video before status) status inputs old new
refuses_video video before status inputs old new left same = record {
  known = refl;
  left = λ r input k said. at_role (is_role video r) r (λ other. left r input (apart video r other)) refl k said;
  written = gains_none old.written new.written same;
}
  where
    so_many : (a k : ℕ) → a ≡ k → a ≡ 0 + k
    so_many a k is = omega (arith, is)

    at_role : (b : Bool) (r : Role) → (is_role video r ≡ false → new.left r ≡ Some (left_after inputs before r))
        → is_role video r ≡ b
        → (k : ℕ) → (if b then None else Some (before r)) ≡ Some k
        → new.left r ≡ Some (left_after inputs (λ _. 0 + k) r)
    at_role true r left is k said = absurd (cc said)
    at_role false r left is k said = left is ∙ ap (λ (n : ℕ). Some (drop n (inputs r))) (so_many (before r) k (cc said))
