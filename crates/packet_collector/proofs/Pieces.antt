-- What a list of slices that were taken says of a picture.
use Rattle.std.proofs.Common.{◌≡◌, ◌≢◌, ◌⊎◌, ℕ, ◌<◌, Bool, true, false, List, [], ◌∷◌, Option, Some, None, refl, sym, ap, ◌∙◌, arith, inl, inr}
use Rattle.std.specs.Prelude.{◌==◌, ◌||◌, ◌&&◌}
use Rattle.std.specs.List.{list_any}
use Rattle.std.proofs.lemmas.Bool.{eqb-true, eqb-false, eq-eqb, ne_eqb}
use Rattle.h263_bits.specs.Syntax.{IsIn}
use Rattle.picture_header.specs.declared.header.Header.{Header}
use Rattle.packet_collector.specs.declared.piece.Piece.{Piece}
use Rattle.packet_collector.specs.Taken.{Taken, head_holds, is_mb_taken, is_any_taken, HasOther, HasNoOther}
use Rattle.packet_collector.specs.Collected.{IsHeaderKept, FitsKept}

pub record IsMember (taken : List Taken) (n : ℕ) : Type 0 where
  pub one : Taken
  pub in-list : IsIn one taken
  pub number : one.number ≡ n

pub member : (taken : List Taken) (n : ℕ) → is_any_taken taken n ≡ true → IsMember taken n
unfolding is_any_taken
member [] n e = absurd cc
member (t ∷ ts) n e = at (t.number == n) refl e (λ f. member ts n f)
  where
    at : (b : Bool) → (t.number == n) ≡ b → (b || list_any (λ t. t.number == n) ts) ≡ true
        → (list_any (λ t. t.number == n) ts ≡ true → IsMember ts n) → IsMember (t ∷ ts) n
    at true h e more = record { one = t; in-list = inl refl; number = eqb-true t.number n h }
    at false h e more = let m = more e in record { one = m.one; in-list = inr m.in-list; number = m.number }

pub absent : (taken : List Taken) (n : ℕ) → is_any_taken taken n ≡ false → (t : Taken) → IsIn t taken → t.number ≡ n → ⊥
unfolding is_any_taken
absent [] n e t is same = elim is [ ]
absent (u ∷ us) n e t is same = at (u.number == n) refl e is (λ f there. absent us n f t there same)
  where
    at : (b : Bool) → (u.number == n) ≡ b → (b || list_any (λ t. t.number == n) us) ≡ false → (u ≡ t) ⊎ IsIn t us
        → (list_any (λ t. t.number == n) us ≡ false → IsIn t us → ⊥) → ⊥
    at true h e is more = absurd cc
    at false h e (inl here) more = eqb-false u.number n h (ap (λ (x : Taken). x.number) here ∙ same)
    at false h e (inr there) more = more e there

pub none_of : (taken : List Taken) (n : ℕ) → ((t : Taken) → IsIn t taken → t.number < n) → is_any_taken taken n ≡ false
unfolding is_any_taken
none_of [] n low = refl
none_of (t ∷ ts) n low = rw (ne_eqb t.number n (λ same. omega (arith, same, low t (inl refl))))
    (none_of ts n (λ u is. low u (inr is)))

-- of a picture of which nothing was taken no macroblock was
pub never : (taken : List Taken) (n k : ℕ) → is_any_taken taken n ≡ false → is_mb_taken taken n k ≡ false
unfolding is_any_taken is_mb_taken
never [] n k e = refl
never (t ∷ ts) n k e = at (t.number == n) e (λ f. never ts n k f)
  where
    at : (b : Bool) → (b || list_any (λ t. t.number == n) ts) ≡ false → (list_any (λ t. t.number == n) ts ≡ false
        → list_any (λ t. (t.number == n) && head_holds t.piece.head k) ts ≡ false)
        → ((b && head_holds t.piece.head k) || list_any (λ t. (t.number == n) && head_holds t.piece.head k) ts) ≡ false
    at true e more = absurd cc
    at false e more = more e

pub none_ever : (n : ℕ) → is_any_taken [] n ≡ false
unfolding is_any_taken
none_ever n = refl

pub never_ever : (n k : ℕ) → is_mb_taken [] n k ≡ false
unfolding is_mb_taken
never_ever n k = refl

-- ---- one more

pub any_same : (t : Taken) (ts : List Taken) → is_any_taken (t ∷ ts) t.number ≡ true
unfolding is_any_taken
any_same t ts = rw (eq-eqb t.number t.number refl) refl

pub any_other : (t : Taken) (ts : List Taken) (n : ℕ) → t.number ≢ n → is_any_taken (t ∷ ts) n ≡ is_any_taken ts n
unfolding is_any_taken
any_other t ts n other = rw (ne_eqb t.number n other) refl

-- a macroblock that a piece holds was taken with it
pub taken_held : (t : Taken) (ts : List Taken) (k : ℕ) → head_holds t.piece.head k ≡ true
    → is_mb_taken (t ∷ ts) t.number k
    ≡ true
unfolding is_mb_taken
taken_held t ts k e = rw (eq-eqb t.number t.number refl, e) refl

-- one that it does not hold was taken or not as before
pub taken_not_held : (t : Taken) (ts : List Taken) (n k : ℕ) → head_holds t.piece.head k ≡ false
    → is_mb_taken (t ∷ ts) n k
    ≡ is_mb_taken ts n k
unfolding is_mb_taken
taken_not_held t ts n k e = at (t.number == n)
  where
    at : (b : Bool) → ((b && head_holds t.piece.head k) || list_any (λ t. (t.number == n) && head_holds t.piece.head k)
        ts)
        ≡ list_any (λ t. (t.number == n) && head_holds t.piece.head k) ts
    at true = rw e refl
    at false = refl

-- so was each of another picture
pub taken_other : (t : Taken) (ts : List Taken) (n k : ℕ) → t.number ≢ n → is_mb_taken (t ∷ ts) n k ≡ is_mb_taken ts n k
unfolding is_mb_taken
taken_other t ts n k other = rw (ne_eqb t.number n other) refl

-- ---- headers

pub no_other : (taken : List Taken) (n : ℕ) (kept : Option Header) (h : Header) → IsHeaderKept taken n kept
    → FitsKept kept h
    → HasNoOther taken n h
no_other taken n None h is fits = λ t in-list same. absurd (absent taken n is t in-list same)
no_other taken n (Some x) h is fits = λ t in-list same. is.1 t in-list same ∙ fits

pub other : (taken : List Taken) (n : ℕ) (kept : Option Header) (h : Header) → IsHeaderKept taken n kept
    → (FitsKept kept h → ⊥) → HasOther taken n h
other taken n None h is differs = absurd (differs tt)
other taken n (Some x) h is differs =
    let m = member taken n is.0 in
    (m.one, m.in-list, m.number, λ same. differs (sym (is.1 m.one m.in-list m.number) ∙ same))

pub kept_more : (taken : List Taken) (n : ℕ) (kept : Option Header) (p : Piece) → IsHeaderKept taken n kept
    → FitsKept kept p.header → IsHeaderKept (record { number = n; piece = p } ∷ taken) n (Some p.header)
kept_more taken n kept p is fits =
    let t : Taken = record { number = n; piece = p } in
    (any_same t taken, λ u in-list same. at u in-list same)
  where
    at : (u : Taken) → ((record { number = n; piece = p }) ≡ u) ⊎ IsIn u taken → u.number ≡ n
        → u.piece.header ≡ p.header
    at u (inl here) same = ap (λ (x : Taken). x.piece.header) (sym here)
    at u (inr there) same = no_other taken n kept p.header is fits u there same

pub kept_other : (t : Taken) (taken : List Taken) (n : ℕ) (kept : Option Header) → t.number ≢ n
    → IsHeaderKept taken n kept
    → IsHeaderKept (t ∷ taken) n kept
kept_other t taken n None differs is = any_other t taken n differs ∙ is
kept_other t taken n (Some h) differs is = (any_other t taken n differs ∙ is.0, at)
  where
    at : (u : Taken) → (t ≡ u) ⊎ IsIn u taken → u.number ≡ n → u.piece.header ≡ h
    at u (inl here) same = absurd (differs (ap (λ (x : Taken). x.number) here ∙ same))
    at u (inr there) same = is.1 u there same
