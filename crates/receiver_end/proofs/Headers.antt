-- Equal headers, and the header that a collector keeps of a picture.
use Rattle.std.proofs.Common.{◌≡◌, ◌⊎◌, inl, inr, ℕ, Bool, true, false, ◌&&◌, ◌||◌, eqb, List, [], ◌∷◌, Option, Some, None, refl, ap, sym, ◌∙◌, subst}
use Rattle.std.specs.Option.{option_map}
use Rattle.std.proofs.lemmas.Bool.{eqb-true, eq-eqb, ne_eqb, and_parts, and_from, false_from_ne_true}
use Rattle.h263_bits.specs.Syntax.{IsIn}
use Rattle.h263_types.specs.declared.format.Format.{Format}
use Rattle.picture_header.specs.declared.header.Header.{Header}
use Rattle.packet_collector.specs.Taken.{Taken, is_any_taken, is_mb_taken, HasOther, HasNoOther}
use Rattle.packet_collector.specs.Taken.{head_holds as has_piece}
use Rattle.packet_collector.specs.Collected.{IsHeaderKept}
use Rattle.call_model.specs.Coding as call
use Rattle.call_model.specs.Stands.{fits_kept}
use Rattle.call_decoding.specs.Styles.{Style, call_header_of, header_from}
use Rattle.receiver_end.specs.Decoding.{decoding}
use Rattle.receiver_end.proofs.Styles.{styles_are, style_self}

-- no test both holds and fails
pub both : (b : Bool) → b ≡ true → b ≡ false → ⊥
both true e g = absurd cc
both false e g = absurd cc

references_are : (a b : Option ℕ) → call.same_reference a b ≡ true → a ≡ b
references_are None None e = refl
references_are (Some m) (Some n) e = ap (λ (k : ℕ). Some k) (eqb-true m n e)
references_are None (Some n) e = absurd cc
references_are (Some m) None e = absurd cc

reference_self : (a : Option ℕ) → call.same_reference a a ≡ true
reference_self None = refl
reference_self (Some m) = eq-eqb m m refl

headers_are : (f : Format) (a b : call.Header Style) → call.same_header (decoding f) a b ≡ true → a ≡ b
unfolding call.same_header
headers_are f a b e =
    let p = and_parts _ _ e in let q = and_parts _ _ p.1 in let r = and_parts _ _ q.1 in
    joined a b (eqb-true _ _ p.0) (references_are _ _ q.0) (eqb-true _ _ r.0) (styles_are _ _ r.1)
  where
    joined : (a b : call.Header Style) → a.number ≡ b.number → a.reference ≡ b.reference → a.half ≡ b.half
        → a.style ≡ b.style → a ≡ b
    joined a b p q r s = λ i. record { number = p i; reference = q i; half = r i; style = s i }

header_self : (f : Format) (a : call.Header Style) → call.same_header (decoding f) a a ≡ true
unfolding call.same_header
header_self f a =
    and_from _ _ (eq-eqb a.number a.number refl) (and_from _ _ (reference_self a.reference)
    (and_from _ _ (eq-eqb a.half a.half refl) (style_self a.style)))

-- one of the slices that were taken of a picture
pub record Member (taken : List Taken) (n : ℕ) : Type 0 where
  pub one : Taken
  pub in_list : IsIn one taken
  pub number : one.number ≡ n

pub member : (taken : List Taken) (n : ℕ) → is_any_taken taken n ≡ true → Member taken n
unfolding is_any_taken
member [] n e = absurd cc
member (t ∷ ts) n e = at (eqb t.number n) refl e (member ts n)
  where
    at : (b : Bool) → eqb t.number n ≡ b → (b || is_any_taken ts n) ≡ true → (is_any_taken ts n ≡ true → Member ts n)
        → Member (t ∷ ts) n
    at true same e more = record { one = t; in_list = inl refl; number = eqb-true _ _ same }
    at false same e more = let m = more e in record { one = m.one; in_list = inr m.in_list; number = m.number }

pub absent : (taken : List Taken) (n : ℕ) → is_any_taken taken n ≡ false → (t : Taken) → IsIn t taken → t.number ≡ n → ⊥
unfolding is_any_taken
absent [] n e t is same = elim is [ ]
absent (u ∷ us) n e t is same = at (eqb u.number n) refl e is (λ none there. absent us n none t there same)
  where
    at : (b : Bool) → eqb u.number n ≡ b → (b || is_any_taken us n) ≡ false → (u ≡ t) ⊎ IsIn t us
        → (is_any_taken us n ≡ false → IsIn t us → ⊥) → ⊥
    at true same' e is more = absurd cc
    at false other e (inl here) more = both (eqb u.number n) (eq-eqb _ _ (ap (λ (x : Taken). x.number) here
        ∙ same)) other
    at false other e (inr there) more = more e there

module _ (f : Format) (whole : (h : Header) → header_from (call_header_of h) ≡ h) where
  pub fits : (taken : List Taken) (n : ℕ) (h : Header) (o : Option Header) → IsHeaderKept taken n o
      → HasNoOther taken n h
      → fits_kept (decoding f) (option_map call_header_of o) (call_header_of h) ≡ true
  fits taken n h None kept none = refl
  fits taken n h (Some k) kept none =
      let m = member taken n kept.0 in
      let same : k ≡ h = sym (kept.1 m.one m.in_list m.number) ∙ none m.one m.in_list m.number in
      subst (λ (x : Header). call.same_header (decoding f) (call_header_of x) (call_header_of h) ≡ true) (sym same)
      (header_self f (call_header_of h))

  pub differs : (taken : List Taken) (n : ℕ) (h : Header) (o : Option Header) → IsHeaderKept taken n o
      → HasOther taken n h
      → fits_kept (decoding f) (option_map call_header_of o) (call_header_of h) ≡ false
  differs taken n h None kept (t, is, same, other) = absurd (absent taken n kept t is same)
  differs taken n h (Some k) kept (t, is, same, other) = false_from_ne_true _ (λ e.
      let equal : k ≡ h = sym (whole k) ∙ ap header_from (headers_are f (call_header_of k) (call_header_of h) e)
      ∙ whole h in
      other (kept.1 t is same ∙ equal))

-- the header that is kept of a picture is one
pub one_kept : (taken : List Taken) (n : ℕ) (a b : Option Header) → IsHeaderKept taken n a → IsHeaderKept taken n b
    → a ≡ b
one_kept taken n None None p q = refl
one_kept taken n None (Some k) p q = absurd (both _ q.0 p)
one_kept taken n (Some h) None p q = absurd (both _ p.0 q)
one_kept taken n (Some h) (Some k) p q =
    let m = member taken n p.0 in ap (λ (x : Header). Some x) (sym (p.1 m.one m.in_list m.number)
    ∙ q.1 m.one m.in_list m.number)

-- a slice of another picture changes nothing
pub kept_before : (t : Taken) (taken : List Taken) (m : ℕ) (o : Option Header) → (t.number ≡ m → ⊥)
    → IsHeaderKept (t ∷ taken) m o → IsHeaderKept taken m o
unfolding is_any_taken
kept_before t taken m None other is = rest (eqb t.number m) (is_any_taken taken m) is
  where
    rest : (a b : Bool) → (a || b) ≡ false → b ≡ false
    rest true b e = absurd cc
    rest false b e = e
kept_before t taken m (Some h) other is = (
  rest (ne_eqb t.number m other) is.0,
  λ u in-list same. is.1 u (inr in-list) same,
)
  where
    rest : eqb t.number m ≡ false → (eqb t.number m || is_any_taken taken m) ≡ true → is_any_taken taken m ≡ true
    rest e got = subst (λ (b : Bool). (b || is_any_taken taken m) ≡ true) e got

-- a slice of the picture itself has its header
pub kept_now : (t : Taken) (taken : List Taken) (n : ℕ) (o : Option Header) → t.number ≡ n
    → IsHeaderKept (t ∷ taken) n o
    → o ≡ Some t.piece.header
kept_now t taken n None same is = absurd (absent (t ∷ taken) n is t (inl refl) same)
kept_now t taken n (Some h) same is = ap (λ (x : Header). Some x) (sym (is.1 t (inl refl) same))

-- of a picture of which nothing was taken no header is kept
pub kept_none : (taken : List Taken) (n : ℕ) (o : Option Header) → is_any_taken taken n ≡ false → IsHeaderKept taken n o
    → o ≡ None
kept_none taken n None none is = refl
kept_none taken n (Some h) none is = absurd (both _ is.0 none)

-- nothing was taken of a number that no slice has
pub none_of : (taken : List Taken) (n : ℕ) → ((t : Taken) → IsIn t taken → t.number ≡ n → ⊥)
    → is_any_taken taken n ≡ false
none_of taken n none = false_from_ne_true _ (λ e. let m = member taken n e in none m.one m.in_list m.number)

-- nor any macroblock
pub untaken : (taken : List Taken) (n k : ℕ) → is_any_taken taken n ≡ false → is_mb_taken taken n k ≡ false
unfolding is_any_taken is_mb_taken
untaken [] n k none = refl
untaken (t ∷ ts) n k none = at (eqb t.number n) (has_piece t.piece.head k) none (untaken ts n k)
  where
    at : (a b : Bool) → (a || is_any_taken ts n) ≡ false → (is_any_taken ts n ≡ false → is_mb_taken ts n k ≡ false)
        → ((a && b) || is_mb_taken ts n k) ≡ false
    at true b e more = absurd cc
    at false b e more = more e
