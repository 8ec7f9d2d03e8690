-- A collector after its places were changed.
use Rattle.std.proofs.Common.{◌≡◌, ◌≢◌, ◌⊎◌, ℕ, zero, suc, ◌+◌, ◌*◌, ◌/◌, ◌%◌, ◌<◌, ◌≤◌, Bool, true, false, List, [], ◌∷◌, length, set, get_or, replicate, Option, Some, None, refl, sym, ap, subst, ◌∙◌, arith, inl, inr}
use Rattle.std.proofs.lemmas.Bool.{cases_lt, cases_eq}
use Rattle.std.proofs.lemmas.List.{length-set, get_or-set_same, get_or-set_other, with_items_is}
use Rattle.std.specs.Vec.{with_items}
use Rattle.std.specs.declared.vec.Vec.{Vec}
use Rattle.std.proofs.lemmas.Nat.{mod_below, mul-le, div-add-mod'}
use Rattle.std.proofs.Math.Nat.{add-mod_right}
use Rattle.h263_bits.specs.Syntax.{IsIn}
use Rattle.h263_types.specs.declared.blocks.SliceHead.{SliceHead}
use Rattle.h263_types.specs.Sizes.{mbs_of}
use Rattle.picture_header.specs.declared.header.Header.{Header}
use Rattle.packet_collector.specs.declared.piece.Piece.{Piece}
use Rattle.packet_collector.specs.declared.collector.Collector.{Collector}
use Rattle.packet_collector.specs.Taken.{Taken, head_holds, is_mb_taken, is_any_taken}
use Rattle.packet_collector.specs.Collected.{Collects, IsInRow, IsHeaderKept, FitsKept, format_of, first_of, row_of, row_place_of, header_in, has_in}
use Rattle.packet_collector.proofs.Pieces.{none_ever, never_ever, none_of, never, kept_more, kept_other, taken_held, taken_not_held, taken_other}

-- numbers with one rest that are less than a period apart are one
same_rest : (period n m : ℕ) → n % period ≡ m % period → n ≤ m → m < n + period → n ≡ m
same_rest period n m e order near =
    elim (cases_lt (n / period) (m / period)) [
      | inl less ↦
          let far : (n / period + 1) * period ≤ m / period * period = mul-le (n / period + 1) period (m / period) period
          (omega arith) (omega arith) in
          let more : (n / period + 1) * period ≡ n / period * period + period = omega arith in
          absurd (omega (arith, far, more, div-add-mod' n period, div-add-mod' m period))
      | inr most ↦
          let back : m / period * period ≤ n / period * period = mul-le (m / period) period (n / period) period most
          (omega arith) in
          omega (arith, back, div-add-mod' n period, div-add-mod' m period)
    ]

-- two numbers of a row have two places
apart : (c : Collector) (n m : ℕ) → IsInRow c n → IsInRow c m → row_place_of c n ≡ row_place_of c m → n ≡ m
apart c n m a b e =
    elim (cases_lt m n) [
      | inl less ↦ sym (same_rest (row_of c) m n (sym e) (omega arith) (omega (arith, a.high, b.low)))
      | inr most ↦ same_rest (row_of c) n m e most (omega (arith, a.low, b.high))
    ]

-- a picture's place is one of the row
pub below : (c : Collector) (n : ℕ) → row_place_of c n < row_of c
below c n = mod_below n (row_of c) (omega (arith, c.some))

-- one place has another header, and some of its marks are set or cleared
pub record IsPutIn (c new : Collector) (p from count : ℕ) (value : Bool) (kept : Option Header) : Type 0 where
  pub format : format_of new ≡ format_of c
  pub headers : new.headers.items.items ≡ set c.headers.items.items p kept
  pub place : p < row_of c
  pub within : from + count ≤ mbs_of (format_of c)
  pub inside : (i : ℕ) → p * mbs_of (format_of c) + from ≤ i → i < p * mbs_of (format_of c) + from + count
      → get_or new.marks.items.items i false ≡ value
  pub others : (i : ℕ) → (i < p * mbs_of (format_of c) + from) ⊎ (p * mbs_of (format_of c) + from + count ≤ i)
      → get_or new.marks.items.items i false ≡ get_or c.marks.items.items i false

-- ---- an empty row

untouched : {A : Type 0} (n i : ℕ) (x : A) → get_or (replicate n x) i x ≡ x
untouched zero i x = refl
untouched (suc n) zero x = refl
untouched (suc n) (suc i) x = untouched n i x

pub starts : (c : Collector) (first many size : ℕ) → first_of c ≡ first → c.headers.items.items ≡ replicate many None
    → c.marks.items.items ≡ replicate size false → Collects c first []
starts c first many size begins headers marks = record {
  begins = begins;
  below = λ t is. elim is [ ];
  headers = λ n row. subst (λ (h : Option Header). IsHeaderKept [] n h)
      (sym (ap (λ (l : List (Option Header)). get_or l (row_place_of c n) None) headers
      ∙ untouched many (row_place_of c n) None)) (none_ever n);
  marks = λ n k row lt.
      let i = row_place_of c n * mbs_of (format_of c) + k in
      ap (λ (l : List Bool). get_or l i false) marks ∙ untouched size i false ∙ sym (never_ever n k);
}

-- ---- what a call that sets or clears some marks leaves

-- marks that are put for a run of macroblocks, and a header, are in the place of one picture
pub put_in : (c new : Collector) (p q from count at : ℕ) (value : Bool) (kept : Option Header) (old marks : List Bool)
    → format_of new ≡ format_of c → new.headers.items.items ≡ set c.headers.items.items q kept
    → new.marks.items.items ≡ marks → old ≡ c.marks.items.items
    → q ≡ p → p < row_of c → from + count ≤ mbs_of (format_of c) → at ≡ p * mbs_of (format_of c) + from
    → ((i : ℕ) → at ≤ i → i < at + count → get_or marks i false ≡ value)
    → ((i : ℕ) → (i < at) ⊎ (at + count ≤ i) → get_or marks i false ≡ get_or old i false)
    → IsPutIn c new p from count value kept
put_in c new p q from count at value kept old marks format headers now before same place within start inside others =
    record {
      format = format;
      headers = headers ∙ ap (λ (k : ℕ). set c.headers.items.items k kept) same;
      place = place;
      within = within;
      inside = λ i low high. ap (λ (l : List Bool). get_or l i false) now
          ∙ inside i (omega (arith, start)) (omega (arith, start));
      others = λ i out. ap (λ (l : List Bool). get_or l i false) now ∙ others i (elim out [
        | inl low ↦ inl (omega (arith, start))
        | inr high ↦ inr (omega (arith, start))
      ]) ∙ ap (λ (l : List Bool). get_or l i false) before;
    }

-- a Vec that got other elements, as many
pub put_back : {Z : Type 0} (v : Vec Bool Z) (marks : List Bool) → length marks ≡ length v.items
    → (with_items v marks).items ≡ marks
put_back v marks e = with_items_is v marks (omega (arith, e, v.ok.0))

module _ (c new : Collector) (p from count : ℕ) (value : Bool) (kept : Option Header)
    (put : IsPutIn c new p from count value kept) where
  pub many_same : row_of new ≡ row_of c
  many_same = ap length put.headers ∙ length-set c.headers.items.items p kept

  header_as : (n : ℕ) → header_in new n ≡ get_or (set c.headers.items.items p kept) (row_place_of c n) None
  header_as n = ap (λ (r : ℕ). get_or new.headers.items.items (n % r) None) many_same
      ∙ ap (λ (l : List (Option Header)). get_or l (row_place_of c n) None) put.headers

  header_there : (n : ℕ) → row_place_of c n ≡ p → header_in new n ≡ kept
  header_there n e = header_as n ∙ ap (λ (k : ℕ). get_or (set c.headers.items.items p kept) k None) e
      ∙ get_or-set_same c.headers.items.items p kept None put.place

  header_other : (n : ℕ) → row_place_of c n ≢ p → header_in new n ≡ header_in c n
  header_other n e = header_as n ∙ get_or-set_other c.headers.items.items p (row_place_of c n) kept None e

  mark_as : (n k : ℕ) → has_in new n k ≡ get_or new.marks.items.items (row_place_of c n * mbs_of (format_of c) + k)
      false
  mark_as n k = ap (λ (r : ℕ). get_or new.marks.items.items (n % r * mbs_of (format_of new) + k) false) many_same
      ∙ ap (λ f. get_or new.marks.items.items (row_place_of c n * mbs_of f + k) false) put.format

  mark_inside : (n k : ℕ) → row_place_of c n ≡ p → from ≤ k → k < from + count → has_in new n k ≡ value
  mark_inside n k e low high =
      let at : row_place_of c n * mbs_of (format_of c) ≡ p * mbs_of (format_of c) =
      ap (λ (q : ℕ). q * mbs_of (format_of c)) e in
      mark_as n k ∙ put.inside _ (omega (arith, at)) (omega (arith, at))

  mark_outside : (n k : ℕ) → row_place_of c n ≡ p → (k < from) ⊎ (from + count ≤ k) → has_in new n k ≡ has_in c n k
  mark_outside n k e out =
      let at : row_place_of c n * mbs_of (format_of c) ≡ p * mbs_of (format_of c) =
      ap (λ (q : ℕ). q * mbs_of (format_of c)) e in
      mark_as n k ∙ put.others _ (elim out [
        | inl low ↦ inl (omega (arith, at))
        | inr high ↦ inr (omega (arith, at))
      ])

  mark_other : (n k : ℕ) → row_place_of c n ≢ p → k < mbs_of (format_of c) → has_in new n k ≡ has_in c n k
  mark_other n k e lt =
      let m = mbs_of (format_of c) in
      let q = row_place_of c n in
      mark_as n k ∙ put.others _ (elim (cases_lt q p) [
        | inl low ↦ inl (omega (arith, mul-le (q + 1) m p m (omega arith) (omega arith)))
        | inr high ↦ inr (omega (arith, put.within, mul-le (p + 1) m q m (omega (arith, e)) (omega arith)))
      ])

-- ---- a slice was taken

held : (head : SliceHead) (k : ℕ) → head.first ≤ k → k < head.first + head.count → head_holds head k ≡ true
held head k low high = grind (arith, low, high)

not_held : (head : SliceHead) (k : ℕ) → (k < head.first) ⊎ (head.first + head.count ≤ k) → head_holds head k ≡ false
not_held head k (inl low) = grind (arith, low)
not_held head k (inr high) = grind (arith, high)

module _ (c new : Collector) (n : ℕ) (piece : Piece) (first : ℕ) (taken : List Taken)
    (put : IsPutIn c new (row_place_of c n) piece.head.first piece.head.count true (Some piece.header))
    (so : Collects c first taken) where
  abbrev pub one : Taken
  one = record { number = n; piece = piece }

  below_end : IsInRow c n → (t : Taken) → (one ≡ t) ⊎ IsIn t taken → t.number < first + row_of new
  below_end row t (inl here) = omega (
    arith,
    row.high,
    so.begins,
    many_same c new _ _ _ _ _ put,
    ap (λ (x : Taken). x.number) here,
  )
  below_end row t (inr there) = omega (arith, so.below t there, many_same c new _ _ _ _ _ put)

  old_row : first_of new ≡ first_of c → (m : ℕ) → IsInRow new m → IsInRow c m
  old_row same m row = record {
    low = omega (arith, row.low, same);
    high = omega (arith, row.high, same, many_same c new _ _ _ _ _ put);
  }

  header_is : IsInRow c n → FitsKept (header_in c n) piece.header → (m : ℕ) → IsInRow c m
      → IsHeaderKept (one ∷ taken) m (header_in new m)
  header_is row fits m row_m =
      elim (cases_eq m n) [
        | inl same ↦
            subst (λ (k : ℕ). IsHeaderKept (one ∷ taken) k (header_in new k)) (sym same)
            (subst (λ (h : Option Header). IsHeaderKept (one ∷ taken) n h)
            (sym (header_there c new _ _ _ _ _ put n refl))
            (kept_more taken n (header_in c n) piece (so.headers n row) fits))
        | inr differs ↦
            subst (λ (h : Option Header). IsHeaderKept (one ∷ taken) m h)
            (sym (header_other c new _ _ _ _ _ put m (λ e. differs (apart c m n row_m row e))))
            (kept_other one taken m (header_in c m) (λ e. differs (sym e)) (so.headers m row_m))
      ]

  mark_here : IsInRow c n → (k : ℕ) → k < mbs_of (format_of c) → has_in new n k ≡ is_mb_taken (one ∷ taken) n k
  mark_here row k lt =
      elim (cases_lt k piece.head.first) [
        | inl low ↦ out (inl low)
        | inr from ↦ elim (cases_lt k (piece.head.first + piece.head.count)) [
          | inl to ↦ mark_inside c new _ _ _ _ _ put n k refl from to
              ∙ sym (taken_held one taken k (held piece.head k from to))
          | inr past ↦ out (inr past)
        ]
      ]
    where
      out : (k < piece.head.first) ⊎ (piece.head.first + piece.head.count ≤ k)
          → has_in new n k ≡ is_mb_taken (one ∷ taken) n k
      out o = mark_outside c new _ _ _ _ _ put n k refl o ∙ so.marks n k row lt
          ∙ sym (taken_not_held one taken n k (not_held piece.head k o))

  mark_is : IsInRow c n → (m k : ℕ) → IsInRow c m → k < mbs_of (format_of c)
      → has_in new m k ≡ is_mb_taken (one ∷ taken) m k
  mark_is row m k row_m lt =
      elim (cases_eq m n) [
        | inl same ↦ subst (λ (j : ℕ). has_in new j k ≡ is_mb_taken (one ∷ taken) j k) (sym same) (mark_here row k lt)
        | inr differs ↦
            mark_other c new _ _ _ _ _ put m k (λ e. differs (apart c m n row_m row e)) lt
            ∙ so.marks m k row_m lt
            ∙ sym (taken_other one taken m k (λ e. differs (sym e)))
      ]

  pub added : first_of new ≡ first_of c → IsInRow c n → FitsKept (header_in c n) piece.header
      → Collects new first (one ∷ taken)
  added same row fits = record {
    begins = same ∙ so.begins;
    below = below_end row;
    headers = λ m in-row. header_is row fits m (old_row same m in-row);
    marks = λ m k in-row lt. mark_is row m k (old_row same m in-row) (omega (arith, lt, ap mbs_of put.format));
  }

-- ---- the row moves on

module _ (c new : Collector) (first : ℕ) (taken : List Taken) (put : IsPutIn c new (row_place_of c (first_of c)) 0
    (mbs_of (format_of c)) false None) (so : Collects c first taken) where
  abbrev pub next : ℕ
  next = first_of c + row_of c

  next_place : row_place_of c next ≡ row_place_of c (first_of c)
  next_place = add-mod_right (first_of c) (row_of c)

  none_next : is_any_taken taken next ≡ false
  none_next = none_of taken next (λ t is. omega (arith, so.below t is, so.begins))

  first_in : IsInRow c (first_of c)
  first_in = record { low = omega arith; high = omega (arith, c.some) }

  still : first_of new ≡ first_of c + 1 → (m : ℕ) → IsInRow new m → m ≢ next → IsInRow c m
  still same m row differs = record {
    low = omega (arith, row.low, same);
    high = omega (arith, row.high, same, many_same c new _ _ _ _ _ put, differs);
  }

  moved : first_of new ≡ first_of c + 1 → (m : ℕ) → IsInRow new m → (in-row : IsInRow c m)
      → row_place_of c m ≢ row_place_of c (first_of c)
  moved same m row in-row e = omega (arith, row.low, same, apart c m (first_of c) in-row first_in e)

  pub advanced : first_of new ≡ first_of c + 1 → Collects new (first + 1) taken
  advanced same = record {
    begins = omega (arith, same, so.begins);
    below = λ t is. omega (arith, so.below t is, many_same c new _ _ _ _ _ put);
    headers = λ m row. elim (cases_eq m next) [
      | inl here ↦
          subst (λ (k : ℕ). IsHeaderKept taken k (header_in new k)) (sym here)
          (subst (λ (h : Option Header). IsHeaderKept taken next h)
          (sym (header_there c new _ _ _ _ _ put next next_place))
          none_next)
      | inr differs ↦
          let in-row = still same m row differs in
          subst (λ (h : Option Header). IsHeaderKept taken m h)
          (sym (header_other c new _ _ _ _ _ put m (moved same m row in-row))) (so.headers m in-row)
    ];
    marks = λ m k row lt.
        let inside : k < mbs_of (format_of c) = omega (arith, lt, ap mbs_of put.format) in
        elim (cases_eq m next) [
          | inl here ↦
              subst (λ (j : ℕ). has_in new j k ≡ is_mb_taken taken j k) (sym here)
              (mark_inside c new _ _ _ _ _ put next k next_place (omega arith) (omega (arith, inside))
              ∙ sym (never taken next k none_next))
          | inr differs ↦
              let in-row = still same m row differs in
              mark_other c new _ _ _ _ _ put m k (moved same m row in-row) inside ∙ so.marks m k in-row inside
        ];
  }
