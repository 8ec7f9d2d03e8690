-- What is left where earlier pictures are forgotten, and that a slice stands at one place.
use Rattle.std.proofs.Common.{◌≡◌, ◌⊎◌, ℕ, ◌<◌, ◌≤◌, Bool, true, false, cond, List, [], ◌∷◌, Option, Some, None, refl, sym, ap, ◌∙◌, arith, inl, inr}
use Rattle.std.specs.Prelude.{◌==◌, ◌||◌, ◌&&◌, nat_le}
use Rattle.std.specs.List.{list_any}
use Rattle.std.proofs.lemmas.Bool.{ne_eqb, leb-false}
use Rattle.h263_bits.specs.Syntax.{IsIn}
use Rattle.picture_header.specs.declared.header.Header.{Header}
use Rattle.packet_collector.specs.declared.collector.Collector.{Collector}
use Rattle.packet_collector.specs.declared.piece.Piece.{Piece}
use Rattle.packet_collector.specs.declared.piece.Place.{Place}
use Rattle.packet_collector.specs.declared.piece.Place.TheVariants.{HeaderDiffers, Repeat, Overlap, Fresh}
use Rattle.packet_collector.specs.Taken.{Taken, head_holds, is_mb_taken, is_any_taken, IsPlace, HasOther, HasNoOther}
use Rattle.packet_collector.specs.Collected.{Collects, IsHeaderKept, from_number, header_in}
use Rattle.packet_collector.proofs.Places.{clash}

-- ---- one place

differs : (taken : List Taken) (n : ℕ) (piece : Piece) → HasOther taken n piece.header → HasNoOther taken n piece.header
    → ⊥
differs taken n piece one none = one.3 (none one.0 one.1 one.2)

pub one_place : (taken : List Taken) (n : ℕ) (piece : Piece) (p q : Place) → IsPlace taken n piece p
    → IsPlace taken n piece q → p ≡ q
one_place taken n piece HeaderDiffers HeaderDiffers a b = refl
one_place taken n piece HeaderDiffers Repeat a b = absurd (differs taken n piece a b.0)
one_place taken n piece HeaderDiffers Overlap a b = absurd (differs taken n piece a b.0)
one_place taken n piece HeaderDiffers Fresh a b = absurd (differs taken n piece a b.0)
one_place taken n piece Repeat HeaderDiffers a b = absurd (differs taken n piece b a.0)
one_place taken n piece Repeat Repeat a b = refl
one_place taken n piece Repeat Overlap a b = absurd (clash _ a.1 b.1)
one_place taken n piece Repeat Fresh a b = absurd (clash _ a.1 b.1)
one_place taken n piece Overlap HeaderDiffers a b = absurd (differs taken n piece b a.0)
one_place taken n piece Overlap Repeat a b = absurd (clash _ b.1 a.1)
one_place taken n piece Overlap Overlap a b = refl
one_place taken n piece Overlap Fresh a b = absurd (clash _ b.2 a.2)
one_place taken n piece Fresh HeaderDiffers a b = absurd (differs taken n piece b a.0)
one_place taken n piece Fresh Repeat a b = absurd (clash _ b.1 a.1)
one_place taken n piece Fresh Overlap a b = absurd (clash _ a.2 b.2)
one_place taken n piece Fresh Fresh a b = refl

-- ---- earlier pictures are forgotten

-- a test that fails for the pictures before a number finds the same without them
any_from : (test : Taken → Bool) (first : ℕ) (taken : List Taken) → ((t : Taken) → t.number < first → test t ≡ false)
    → list_any test (from_number first taken) ≡ list_any test taken
any_from test first [] fails = refl
any_from test first (t ∷ ts) fails = at (nat_le first t.number) refl (any_from test first ts fails)
  where
    at : (b : Bool) → nat_le first t.number ≡ b → list_any test (from_number first ts) ≡ list_any test ts
        → list_any test (cond b (t ∷ from_number first ts) (from_number first ts)) ≡ (test t || list_any test ts)
    at true h more = ap (λ (x : Bool). test t || x) more
    at false h more = rw (fails t (leb-false first t.number h)) more

earlier : (first n : ℕ) (t : Taken) → first ≤ n → t.number < first → (t.number == n) ≡ false
earlier first n t low lt = ne_eqb t.number n (λ same. omega (arith, same))

any_left : (first n : ℕ) (taken : List Taken) → first ≤ n → is_any_taken (from_number first taken) n
    ≡ is_any_taken taken n
unfolding is_any_taken
any_left first n taken low = any_from (λ t. t.number == n) first taken (λ t lt. earlier first n t low lt)

taken_left : (first n k : ℕ) (taken : List Taken) → first ≤ n → is_mb_taken (from_number first taken) n k
    ≡ is_mb_taken taken n k
unfolding is_mb_taken
taken_left first n k taken low = any_from (λ t. (t.number == n) && head_holds t.piece.head k) first taken
    (λ t lt. rw (earlier first n t low lt) refl)

was_in : (first : ℕ) (taken : List Taken) (u : Taken) → IsIn u (from_number first taken) → IsIn u taken
was_in first [] u is = elim is [ ]
was_in first (t ∷ ts) u is = at (nat_le first t.number) is (λ there. was_in first ts u there)
  where
    at : (b : Bool) → IsIn u (cond b (t ∷ from_number first ts) (from_number first ts))
        → (IsIn u (from_number first ts) → IsIn u ts) → (t ≡ u) ⊎ IsIn u ts
    at true (inl here) more = inl here
    at true (inr there) more = inr (more there)
    at false there more = inr (more there)

kept_left : (first n : ℕ) (taken : List Taken) (kept : Option Header) → first ≤ n → IsHeaderKept taken n kept
    → IsHeaderKept (from_number first taken) n kept
kept_left first n taken None low is = any_left first n taken low ∙ is
kept_left first n taken (Some h) low is = (
  any_left first n taken low
      ∙ is.0,
  λ t in-list same. is.1 t (was_in first taken t in-list) same,
)

pub forgotten : (c : Collector) (first : ℕ) (taken : List Taken) → Collects c first taken
    → Collects c first (from_number first taken)
forgotten c first taken so = record {
  begins = so.begins;
  below = λ t is. so.below t (was_in first taken t is);
  headers = λ n row. kept_left first n taken (header_in c n) (omega (arith, row.low, so.begins)) (so.headers n row);
  marks = λ n k row lt. so.marks n k row lt ∙ sym (taken_left first n k taken (omega (arith, row.low, so.begins)));
}
