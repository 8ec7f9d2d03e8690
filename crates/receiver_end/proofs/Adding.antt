-- What a slice leaves in the collector.
use Rattle.std.proofs.Common.{◌≡◌, ℕ, ◌<◌, Bool, ◌||◌, List, ◌∷◌, Some, ap, sym, ◌∙◌, subst, arith}
use Rattle.h263_types.specs.declared.format.Format.{Format}
use Rattle.h263_types.specs.Sizes.{mbs_of}
use Rattle.packet_collector.specs.declared.collector.Collector.{Collector}
use Rattle.packet_collector.specs.Taken.{Taken}
use Rattle.packet_collector.specs.Taken.{head_holds as has_piece}
use Rattle.packet_collector.specs.Collected.{Collects, IsInRow, IsRowFrom, first_of, format_of, header_in, has_in}
use Rattle.receiver_end.proofs.Headers.{one_kept, kept_before, kept_now}
use Rattle.receiver_end.proofs.Marked.{taken_more, taken_other}

module _ (f : Format) (old new : Collector) (first : ℕ) (taken : List Taken) (t : Taken)
    (collects : Collects old first taken)
    (after : Collects new first (t ∷ taken)) (same : IsRowFrom (first_of old) old new) (format : format_of old
    ≡ f) where
  row : (m : ℕ) → IsInRow old m → IsInRow new m
  row m is = record { low = omega (arith, is.low, same.begins); high = omega (arith, is.high, same.begins, same.many) }

  below : (k : ℕ) → k < mbs_of f → k < mbs_of (format_of old)
  below k lt = subst (λ (g : Format). k < mbs_of g) (sym format) lt

  below_new : (k : ℕ) → k < mbs_of f → k < mbs_of (format_of new)
  below_new k lt = subst (λ (g : Format). k < mbs_of g) (sym (same.format ∙ format)) lt

  pub header_now : (n : ℕ) → t.number ≡ n → IsInRow old n → header_in new n ≡ Some t.piece.header
  header_now n at is = kept_now t taken n (header_in new n) at (after.headers n (row n is))

  pub has_now : (n k : ℕ) → t.number ≡ n → IsInRow old n → k < mbs_of f
      → has_in new n k ≡ (has_piece t.piece.head k || has_in old n k)
  has_now n k at is lt =
      after.marks n k (row n is) (below_new k lt) ∙ taken_more t taken n k at
      ∙ ap (λ (b : Bool). has_piece t.piece.head k || b) (sym (collects.marks n k is (below k lt)))

  pub header_still : (m : ℕ) → (t.number ≡ m → ⊥) → IsInRow old m → header_in new m ≡ header_in old m
  header_still m other is =
      one_kept taken m (header_in new m) (header_in old m) (kept_before t taken m (header_in new m) other
      (after.headers m (row m is))) (collects.headers m is)

  pub has_still : (m k : ℕ) → (t.number ≡ m → ⊥) → IsInRow old m → k < mbs_of f → has_in new m k ≡ has_in old m k
  has_still m k other is lt = after.marks m k (row m is) (below_new k lt) ∙ taken_other t taken m k other
      ∙ sym (collects.marks m k is (below k lt))
