-- Macroblock after macroblock, into their places.
use Rattle.std.proofs.Common.{◌≡◌, ◌≢◌, ℕ, zero, suc, ◌+◌, ◌-◌, ◌<◌, ◌≤◌, true, false, List, [], ◌∷◌, ◌++◌, length, take, drop, set, get_or, replicate, map, Result, Ok, Err, refl, sym, ap, subst, ◌∙◌, append_assoc, add-one, drop-cons, arith, inl, inr}
use Rattle.std.proofs.lemmas.Bool.{cases_lt}
use Rattle.std.proofs.lemmas.List.{append-nil, map-append, length-append, length-set, length-replicate, length-take-le, take-append-drop, take-replicate, take_at, drop_at, take_more_set, set_at, get_or_append_left, get_or-append_right, get_or-append-add}
use Rattle.h263_types.specs.declared.format.Format.{Format}
use Rattle.h263_types.specs.declared.format.Format.TheVariants.{SubQcif, Qcif, Cif}
use Rattle.h263_types.specs.declared.vector.Vector.{Vector}
use Rattle.h263_types.specs.declared.blocks.Mb.{Mb}
use Rattle.h263_types.specs.declared.blocks.Mb.TheVariants.{Skip, Intra, Inter}
use Rattle.h263_types.specs.Blocks.{IsQuant, IsMb, mb_in}
use Rattle.h263_types.specs.Sizes.{columns_of, mbs_of}
use Rattle.h263_bits.specs.declared.fault.Fault.{Fault}
use Rattle.h263_bits.specs.declared.fault.FaultKind.TheVariants as faults
use Rattle.h263_bits.specs.Reading.{Bits}
use Rattle.h263_bits.specs.Syntax.{Syntax, reading}
use Rattle.picture_header.specs.declared.header.Header.{Header}
use Rattle.macroblock_layer.specs.Prediction.{no_vector, predictor_of}
use Rattle.macroblock_layer.specs.Text.{mb}
use Rattle.slice_layer.specs.Around.{Around, around, quant_after, next_mb, reach_of, vector_of, vectors_of}
use Rattle.slice_layer.specs.Text.{is_padding, stops, mbs_at}
use Rattle.slice_layer.specs.Filled.{IsMbAt, IsSliceIn, AreOthersSame, mbs_from}

mbs_few : (f : Format) → mbs_of f ≤ 396
mbs_few SubQcif = omega arith
mbs_few Qcif = omega arith
mbs_few Cif = omega arith

-- the macroblocks so far, in the picture with this header and in a slice from number `first` on
pub record IsSoFar (h : Header) (first : ℕ) (old : List Mb) (whole : Result (List Mb) Fault) (at quant : ℕ)
    (vectors : List Vector) (out : List Mb) (b : Bits) : Type 0 where
  pub mbs : List Mb
  pub at-is : at ≡ first + length mbs
  pub within : at ≤ mbs_of h.format
  pub size : length old ≡ mbs_of h.format
  pub filled : out ≡ take first old ++ (mbs ++ drop at old)
  pub many : length vectors ≡ 396
  pub vectors-are : take at vectors ≡ vectors_of first mbs
  pub quant-is : IsQuant quant
  pub each : (k : ℕ) → k < length mbs → IsMbAt h (first + k) (mb_in mbs k)
  pub reads : mbs_at (around h first) (mbs_of h.format - at) quant mbs b ≡ whole

pub none_yet : (h : Header) (first quant : ℕ) (old : List Mb) (b : Bits) → first < mbs_of h.format
    → length old ≡ mbs_of h.format → IsQuant quant
    → IsSoFar h first old (mbs_at (around h first) (mbs_of h.format - first) quant [] b) first quant
    (replicate 396 no_vector) old b
none_yet h first quant old b inside size is = record {
  mbs = [];
  at-is = omega arith;
  within = omega arith;
  size = size;
  filled = sym (take-append-drop first old);
  many = length-replicate 396 no_vector;
  vectors-are = take-replicate first 396 no_vector (omega (arith, mbs_few h.format))
      ∙ sym (append-nil (replicate first no_vector));
  quant-is = is;
  each = λ k lt. absurd (omega arith);
  reads = refl;
}

-- ---- what reading on gives

pub at_end : (a : Around) (room quant : ℕ) (mbs : List Mb) (b : Bits) → is_padding b.bits ≡ true
    → mbs_at a room quant mbs b ≡ stops mbs b
unfolding mbs_at
at_end a zero quant mbs b z = rw z refl
at_end a (suc room) quant mbs b z = rw z refl

pub no_room : (a : Around) (quant : ℕ) (mbs : List Mb) (b : Bits) → is_padding b.bits ≡ false
    → mbs_at a zero quant mbs b ≡ Err (record { kind = faults.Trailing; at = b.at })
unfolding mbs_at
no_room a quant mbs b z = rw z refl

pub one_more : (a : Around) (room quant : ℕ) (mbs : List Mb) (m : Mb) (b c : Bits) → is_padding b.bits ≡ false
    → reading (next_mb a quant mbs) b ≡ Ok (m, c) → mbs_at a (suc room) quant mbs b
    ≡ mbs_at a room (quant_after quant m) (mbs ++ m ∷ []) c
unfolding mbs_at
one_more a room quant mbs m b c z e = rw (z, e) refl

pub none_more : (a : Around) (room quant : ℕ) (mbs : List Mb) (fault : Fault) (b : Bits) → is_padding b.bits ≡ false
    → reading (next_mb a quant mbs) b ≡ Err fault → mbs_at a (suc room) quant mbs b ≡ Err fault
unfolding mbs_at
none_more a room quant mbs fault b z e = rw (z, e) refl

-- ---- steps

-- the next macroblock's syntax, as the code has it
next_as : (h : Header) (first at quant : ℕ) (vectors : List Vector) (mbs : List Mb) → at ≡ first + length mbs
    → take at vectors ≡ vectors_of first mbs
    → mb h.kind quant (reach_of h.format at) (predictor_of (take at vectors) first at (columns_of h.format))
    ≡ next_mb (around h first) quant mbs
next_as h first at quant vectors mbs e same = rw (same, e) refl

quant_within : (quant : ℕ) (m : Mb) → IsQuant quant → IsMb m → IsQuant (quant_after quant m)
quant_within quant Skip is within = is
quant_within quant (Intra new blocks) is within = within.quant_in_range
quant_within quant (Inter new v blocks) is within = within.quant_in_range

vectors_more : (first : ℕ) (mbs : List Mb) (m : Mb) → vectors_of first mbs ++ vector_of m ∷ []
    ≡ vectors_of first (mbs ++ m ∷ [])
vectors_more first mbs m = append_assoc (replicate first no_vector) (map vector_of mbs) (vector_of m ∷ [])
    ∙ ap (λ (l : List Vector). replicate first no_vector ++ l) (sym (map-append vector_of mbs (m ∷ [])))

-- a macroblock in its place
placed : (front mbs : List Mb) (old out : List Mb) (m : Mb) (at : ℕ) → at < length old → at ≡ length front + length mbs
    → out ≡ front ++ (mbs ++ drop at old) → set out at m ≡ front ++ ((mbs ++ m ∷ []) ++ drop (at + 1) old)
placed front mbs old out m at inside len filled =
    let more : drop at old ≡ get_or old at m ∷ drop (at + 1) old = rw add-one (drop-cons old at m inside) in
    let whole : out ≡ (front ++ mbs) ++ get_or old at m ∷ drop (at + 1) old = filled
    ∙ ap (λ (l : List Mb). front ++ (mbs ++ l)) more
    ∙ sym (append_assoc front mbs (get_or old at m ∷ drop (at + 1) old)) in
    ap (λ (l : List Mb). set l at m) whole
    ∙ set_at (front ++ mbs) (get_or old at m) (drop (at + 1) old) m at (length-append front mbs ∙ sym len)
    ∙ append_assoc front mbs (m ∷ drop (at + 1) old)
    ∙ ap (λ (l : List Mb). front ++ l) (sym (append_assoc mbs (m ∷ []) (drop (at + 1) old)))

each_more : (h : Header) (first : ℕ) (mbs : List Mb) (m : Mb)
    → ((k : ℕ) → k < length mbs → IsMbAt h (first + k) (mb_in mbs k)) → IsMbAt h (first + length mbs) m → (k : ℕ)
    → k < length (mbs ++ m ∷ []) → IsMbAt h (first + k) (mb_in (mbs ++ m ∷ []) k)
each_more h first mbs m each one k lt =
    elim (cases_lt k (length mbs)) [
      | inl inside ↦ subst (λ (x : Mb). IsMbAt h (first + k) x) (sym (get_or_append_left mbs (m ∷ []) Skip k inside))
          (each k inside)
      | inr past ↦
          let e : k ≡ length mbs + 0 = omega (arith, length-append mbs (m ∷ [])) in
          let same : mb_in (mbs ++ m ∷ []) k ≡ m = ap (λ (j : ℕ). mb_in (mbs ++ m ∷ []) j) e
          ∙ get_or-append-add mbs (m ∷ []) 0 Skip in
          subst (λ (x : Mb). IsMbAt h (first + k) x) (sym same) (subst (λ (j : ℕ). IsMbAt h (first + j) m)
          (omega (arith, e)) one)
    ]

pub with_next : (h : Header) (first : ℕ) (old : List Mb) (whole : Result (List Mb) Fault) (at quant : ℕ)
    (vectors : List Vector) (out : List Mb) (b c : Bits) (m : Mb) → IsSoFar h first old whole at quant vectors out b
    → at < mbs_of h.format → is_padding b.bits ≡ false
    → reading (mb h.kind quant (reach_of h.format at) (predictor_of (take at vectors) first at
    (columns_of h.format))) b ≡ Ok (m, c) → IsMbAt h at m
    → IsSoFar h first old whole (at + 1) (quant_after quant m) (set vectors at (vector_of m)) (set out at m) c
with_next h first old whole at quant vectors out b c m so inside z e is =
    let syntax = next_as h first at quant vectors so.mbs so.at-is so.vectors-are in
    let read : reading (next_mb (around h first) quant so.mbs) b ≡ Ok (m, c) = ap (λ (s : Syntax Mb). reading s b)
    (sym syntax) ∙ e in
    let room : mbs_of h.format - at ≡ suc (mbs_of h.format - (at + 1)) = omega arith in
    record {
      mbs = so.mbs ++ m ∷ [];
      at-is = omega (arith, so.at-is, length-append so.mbs (m ∷ []));
      within = omega arith;
      size = so.size;
      filled = placed (take first old) so.mbs old out m at (omega (arith, so.size)) (omega (
        arith,
        so.at-is,
        so.size,
        so.within,
        length-take-le first old (omega (arith, so.at-is, so.size, so.within)),
      )) so.filled;
      many = length-set vectors at (vector_of m) ∙ so.many;
      vectors-are = take_more_set vectors at (vector_of m) (omega (arith, so.many, mbs_few h.format))
          ∙ ap (λ (l : List Vector). l ++ vector_of m ∷ []) so.vectors-are ∙ vectors_more first so.mbs m;
      quant-is = quant_within quant m so.quant-is is.in_range;
      each = each_more h first so.mbs m so.each (subst (λ (k : ℕ). IsMbAt h k m) so.at-is is);
      reads = sym (one_more (around h first) (mbs_of h.format - (at + 1)) quant so.mbs m b c z read)
          ∙ ap (λ (n : ℕ). mbs_at (around h first) n quant so.mbs b) (sym room) ∙ so.reads;
    }

pub with_none : (h : Header) (first : ℕ) (old : List Mb) (whole : Result (List Mb) Fault) (at quant : ℕ)
    (vectors : List Vector) (out : List Mb) (b : Bits) (fault : Fault)
    → IsSoFar h first old whole at quant vectors out b
    → at < mbs_of h.format → is_padding b.bits ≡ false
    → reading (mb h.kind quant (reach_of h.format at) (predictor_of (take at vectors) first at
    (columns_of h.format))) b ≡ Err fault → whole ≡ Err fault
with_none h first old whole at quant vectors out b fault so inside z e =
    let syntax = next_as h first at quant vectors so.mbs so.at-is so.vectors-are in
    let read : reading (next_mb (around h first) quant so.mbs) b ≡ Err fault = ap (λ (s : Syntax Mb). reading s b)
    (sym syntax) ∙ e in
    let room : mbs_of h.format - at ≡ suc (mbs_of h.format - (at + 1)) = omega arith in
    sym so.reads ∙ ap (λ (n : ℕ). mbs_at (around h first) n quant so.mbs b) room
    ∙ none_more (around h first) (mbs_of h.format - (at + 1)) quant so.mbs fault b z read

pub past_last : (h : Header) (first : ℕ) (old : List Mb) (whole : Result (List Mb) Fault) (at quant : ℕ)
    (vectors : List Vector) (out : List Mb) (b : Bits) → IsSoFar h first old whole at quant vectors out b
    → at ≡ mbs_of h.format → is_padding b.bits ≡ false → whole ≡ Err (record { kind = faults.Trailing; at = b.at })
past_last h first old whole at quant vectors out b so last z =
    let room : mbs_of h.format - at ≡ 0 = omega arith in
    sym so.reads ∙ ap (λ (n : ℕ). mbs_at (around h first) n quant so.mbs b) room
    ∙ no_room (around h first) quant so.mbs b z

none_of : (mbs : List Mb) (b : Bits) → length mbs ≡ 0 → stops mbs b ≡ Err (record { kind = faults.Empty; at = b.at })
none_of [] b e = refl
none_of (m ∷ mbs) b e = absurd (omega arith)

some_of : (mbs : List Mb) (b : Bits) → 0 < length mbs → stops mbs b ≡ Ok mbs
some_of [] b lt = absurd (omega arith)
some_of (m ∷ mbs) b lt = refl

pub none_there : (h : Header) (first : ℕ) (old : List Mb) (whole : Result (List Mb) Fault) (at quant : ℕ)
    (vectors : List Vector) (out : List Mb) (b : Bits) → IsSoFar h first old whole at quant vectors out b
    → at ≡ first → is_padding b.bits ≡ true → whole ≡ Err (record { kind = faults.Empty; at = b.at })
none_there h first old whole at quant vectors out b so same z =
    sym so.reads ∙ at_end (around h first) (mbs_of h.format - at) quant so.mbs b z
    ∙ none_of so.mbs b (omega (arith, so.at-is))

-- ---- where the slice ends

module _ (h : Header) (first : ℕ) (old : List Mb) (whole : Result (List Mb) Fault) (at quant : ℕ)
    (vectors : List Vector) (out : List Mb) (b : Bits) (so : IsSoFar h first old whole at quant vectors out b) where
  front-length : length (take first old) ≡ first
  front-length = length-take-le first old (omega (arith, so.at-is, so.size, so.within))

  pub taken : mbs_from first (at - first) out ≡ so.mbs
  taken =
      ap (λ (l : List Mb). take (at - first) (drop first l)) so.filled
      ∙ ap (λ (l : List Mb). take (at - first) l) (drop_at (take first old) (so.mbs ++ drop at old) first front-length)
      ∙ take_at so.mbs (drop at old) (at - first) (omega (arith, so.at-is))

  pub found : at ≢ first → is_padding b.bits ≡ true → whole ≡ Ok (mbs_from first (at - first) out)
  found some z =
      sym so.reads ∙ at_end (around h first) (mbs_of h.format - at) quant so.mbs b z
      ∙ some_of so.mbs b (omega (arith, so.at-is)) ∙ ap (λ (l : List Mb). Ok l) (sym taken)

  there : (k : ℕ) → first ≤ k → k < at → mb_in out k ≡ mb_in so.mbs (k - first)
  there k low high =
      ap (λ (l : List Mb). mb_in l k) so.filled
      ∙ get_or-append_right (take first old) (so.mbs ++ drop at old) first k Skip front-length low
      ∙ get_or_append_left so.mbs (drop at old) Skip (k - first) (omega (arith, so.at-is))

  pub slice_in : at ≢ first → IsSliceIn h out (record { first = first; count = at - first })
  slice_in some = record {
    head = record { some = omega (arith, so.at-is); within = omega (arith, so.at-is, so.within) };
    each = λ k low high.
        let inside : k < at = omega (arith, so.at-is) in
        let e : first + (k - first) ≡ k = omega arith in
        subst (λ (m : Mb). IsMbAt h k m) (sym (there k low inside))
        (subst (λ (j : ℕ). IsMbAt h j (mb_in so.mbs (k - first))) e
        (so.each (k - first) (omega (arith, so.at-is))));
  }

  pub others : AreOthersSame old out (record { first = first; count = at - first })
  others =
      let place : first + (at - first) ≡ at = omega (arith, so.at-is) in
      let all : out ≡ (take first old ++ so.mbs) ++ drop at old = so.filled
      ∙ sym (append_assoc (take first old) so.mbs (drop at old)) in
      let len : length (take first old ++ so.mbs)
      ≡ at = omega (arith, front-length, length-append (take first old) so.mbs, so.at-is) in
      record {
        before = ap (λ (l : List Mb). take first l) so.filled
            ∙ take_at (take first old) (so.mbs ++ drop at old) first front-length;
        after = ap (λ (n : ℕ). drop n out) place ∙ ap (λ (l : List Mb). drop at l) all
            ∙ drop_at (take first old ++ so.mbs) (drop at old) at len ∙ ap (λ (n : ℕ). drop n old) (sym place);
      }
