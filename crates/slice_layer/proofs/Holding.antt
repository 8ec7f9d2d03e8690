-- What a writer holds, as it begins, and after one more macroblock.
use Rattle.std.proofs.Common.{◌≡◌, ℕ, ◌+◌, Bool, List, [], ◌∷◌, ◌++◌, length, take, replicate, refl, sym, ap, subst, ◌∙◌, arith}
use Rattle.std.proofs.lemmas.List.{length-append, append-nil, take-replicate}
use Rattle.h263_types.specs.declared.Kind.{Kind}
use Rattle.h263_types.specs.declared.format.Format.{Format}
use Rattle.h263_types.specs.Sizes.{columns_of}
use Rattle.h263_types.specs.declared.vector.Vector.{Vector}
use Rattle.h263_types.specs.declared.blocks.Mb.{Mb}
use Rattle.h263_types.specs.declared.blocks.Mb.TheVariants.{Skip, Intra, Inter}
use Rattle.picture_header.specs.declared.header.Header.{Header}
use Rattle.macroblock_layer.specs.Prediction.{no_vector, predictor_of}
use Rattle.macroblock_layer.specs.Written.{mb_text}
use Rattle.slice_layer.specs.Around.{vector_of, vectors_of, next_predictor, quant_after}
use Rattle.slice_layer.specs.Written.{opening_text, slice_text, quant_after_all, IsPaddedFront}
use Rattle.slice_layer.specs.declared.writing.SliceWriter.{SliceWriter}
use Rattle.slice_layer.proofs.Adding.{no_text, next_text, slice_text-append, quant_after_all-append, vectors_of-append}
use Rattle.slice_layer.specs.Writer.{slice_kind, slice_format, first_mb_of, next_mb_of, quant_of, bytes_lent, HoldsSlice}

no_step : (quant : ℕ) → quant ≡ quant_after_all quant []
no_step quant = refl

pub begun : (w : SliceWriter) (h : Header) (begins : Bool) (first : ℕ)
    → IsPaddedFront (opening_text h begins first) (bytes_lent w) → w.len ≡ length (opening_text h begins first)
    → slice_kind w ≡ h.kind → slice_format w ≡ h.format → first_mb_of w ≡ first → next_mb_of w ≡ first
    → quant_of w ≡ h.quant
    → w.vectors ≡ replicate 396 no_vector → HoldsSlice w h begins first []
begun w h begins first text len kind format from next quant vectors = record {
  text = subst (λ (t : List Bool). IsPaddedFront t (bytes_lent w)) (sym (no_text h begins first)) text;
  len = len ∙ ap length (sym (no_text h begins first));
  kind = kind;
  format = format;
  from = from;
  next = omega (arith, next);
  quant = quant ∙ no_step h.quant;
  vectors = ap (take (next_mb_of w)) vectors ∙ take-replicate (next_mb_of w) 396 no_vector w.within
      ∙ ap (λ (k : ℕ). replicate k no_vector) next ∙ sym (append-nil (replicate first no_vector));
}

-- the prediction of the next macroblock's vector
abbrev pub prediction : SliceWriter → Vector
prediction w = predictor_of (take (next_mb_of w) w.vectors) (first_mb_of w) (next_mb_of w) (columns_of (slice_format w))

-- a vector with which a macroblock has the text that it has with the prediction
abbrev pub Serves : SliceWriter → Mb → Vector → Type 0
Serves w m v = mb_text (slice_kind w) (quant_of w) v m ≡ mb_text (slice_kind w) (quant_of w) (prediction w) m

abbrev pub HasNoVector : Mb → Type 0
HasNoVector Skip = Unit {0}
HasNoVector (Intra quant blocks) = Unit {0}
HasNoVector (Inter quant v blocks) = ⊥

-- each does where there is no vector to predict
pub not_predicted : (kind : Kind) (quant : ℕ) (a b : Vector) (m n : Mb) → m ≡ n → HasNoVector n → mb_text kind quant a m
    ≡ mb_text kind quant b m
not_predicted kind quant a b m n same none = subst (λ (x : Mb). mb_text kind quant a x ≡ mb_text kind quant b x)
    (sym same) (each n none)
  where
    each : (n : Mb) → HasNoVector n → mb_text kind quant a n ≡ mb_text kind quant b n
    each Skip none = refl
    each (Intra q blocks) none = refl
    each (Inter q v blocks) none = absurd none

-- what is written of the next macroblock is its text after those that are held
pub next_is : (w : SliceWriter) (h : Header) (begins : Bool) (first : ℕ) (mbs : List Mb) (m : Mb) (v : Vector)
    → HoldsSlice w h begins first mbs → Serves w m v
    → mb_text (slice_kind w) (quant_of w) v m ≡ next_text h first mbs m
next_is w h begins first mbs m v holds serves =
    let p : prediction w ≡ next_predictor h.format first mbs =
    ap (λ (l : List Vector). predictor_of l (first_mb_of w) (next_mb_of w) (columns_of (slice_format w))) holds.vectors
    ∙ ap (λ (k : ℕ). predictor_of (vectors_of first mbs) k (next_mb_of w) (columns_of (slice_format w))) holds.from
    ∙ ap (λ (k : ℕ). predictor_of (vectors_of first mbs) first k (columns_of (slice_format w))) holds.next
    ∙ ap (λ (f : Format). predictor_of (vectors_of first mbs) first (first + length mbs) (columns_of f))
    holds.format in
    serves ∙ ap (λ (k : Kind). mb_text k (quant_of w) (prediction w) m) holds.kind
    ∙ ap (λ (q : ℕ). mb_text h.kind q (prediction w) m) holds.quant
    ∙ ap (λ (u : Vector). mb_text h.kind (quant_after_all h.quant mbs) u m) p

pub next_length : (w : SliceWriter) (h : Header) (begins : Bool) (first : ℕ) (mbs : List Mb) (m : Mb) (v : Vector)
    → HoldsSlice w h begins first mbs → Serves w m v
    → length (slice_text h begins first (mbs ++ m ∷ [])) ≡ w.len + length (mb_text (slice_kind w) (quant_of w) v m)
next_length w h begins first mbs m v holds serves =
    omega (
      arith,
      ap length (slice_text-append h begins first mbs m),
      length-append (slice_text h begins first mbs) (next_text h first mbs m),
      ap length (next_is w h begins first mbs m v holds serves),
      holds.len,
    )

-- what the writer keeps for the macroblocks after this one
pub record Keeps (old new : SliceWriter) (m : Mb) : Type 0 where
  pub kind : slice_kind new ≡ slice_kind old
  pub format : slice_format new ≡ slice_format old
  pub from : first_mb_of new ≡ first_mb_of old
  pub next : next_mb_of new ≡ next_mb_of old + 1
  pub quant : quant_of new ≡ quant_after (quant_of old) m
  pub vectors : take (next_mb_of new) new.vectors ≡ take (next_mb_of old) old.vectors ++ vector_of m ∷ []

pub held : (old new : SliceWriter) (h : Header) (begins : Bool) (first : ℕ) (mbs : List Mb) (m : Mb)
    → HoldsSlice old h begins first mbs
    → IsPaddedFront (slice_text h begins first mbs ++ next_text h first mbs m) (bytes_lent new)
    → new.len ≡ old.len + length (next_text h first mbs m) → Keeps old new m
    → HoldsSlice new h begins first (mbs ++ m ∷ [])
held old new h begins first mbs m holds text len keeps =
    let e = slice_text-append h begins first mbs m in
    record {
      text = subst (λ (t : List Bool). IsPaddedFront t (bytes_lent new)) (sym e) text;
      len = omega (
        arith,
        len,
        holds.len,
        ap length e,
        length-append (slice_text h begins first mbs) (next_text h first mbs m),
      );
      kind = keeps.kind ∙ holds.kind;
      format = keeps.format ∙ holds.format;
      from = keeps.from ∙ holds.from;
      next = omega (arith, keeps.next, holds.next, length-append mbs (m ∷ []));
      quant = keeps.quant ∙ ap (λ (q : ℕ). quant_after q m) holds.quant ∙ sym (quant_after_all-append h.quant mbs m);
      vectors = keeps.vectors ∙ ap (λ (l : List Vector). l ++ vector_of m ∷ []) holds.vectors
          ∙ sym (vectors_of-append first mbs m);
    }
