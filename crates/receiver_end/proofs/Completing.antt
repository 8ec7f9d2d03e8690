-- A picture that is complete takes its slot.
use Rattle.std.proofs.Common.{◌≡◌, ℕ, ◌-◌, length, Some, ap, sym, ◌∙◌, arith, length-set}
use Rattle.h263_types.specs.declared.format.Format.{Format}
use Rattle.h263_types.specs.Sizes.{mbs_of}
use Rattle.picture_store.specs.Pictures.{StoredPictures, slot_of, Keeps}
use Rattle.packet_collector.specs.Taken.{is_mb_taken, is_whole}
use Rattle.packet_collector.specs.Collected.{IsInRow, format_of, has_in}
use Rattle.call_model.specs.Numbers.{OneRestIsFar, all_below}
use Rattle.receiver_end.specs.declared.kept.Kept.{Kept}
use Rattle.receiver_end.specs.State.{Fits, work_of}
use Rattle.receiver_end.proofs.Marked.{all_same}
use Rattle.receiver_end.proofs.Rings.{kept_stays}

-- what is marked of a picture is what was taken
pub all_marked : (r : Kept) (n : ℕ) (ok : Fits r) → IsInRow r.collector n
    → all_below (mbs_of r.params.format) (has_in r.collector n) ≡ is_whole (format_of r.collector) ok.taken n
all_marked r n ok row =
    ap (λ (f : Format). all_below (mbs_of f) (has_in r.collector n)) (sym ok.collected)
    ∙ all_same (mbs_of (format_of r.collector)) (has_in r.collector n) (is_mb_taken ok.taken n)
    (λ k lt. ok.collects.marks n k row lt)

pub fits_whole : OneRestIsFar → (r : Kept) (u : StoredPictures) (n : ℕ) → Fits r → IsInRow r.collector n
    → Keeps r.store u n (work_of r.params n) → Fits (record r { store = u })
fits_whole far r u n ok row k = record {
  params = ok.params;
  format = k.format ∙ ok.format;
  slots = ap length k.numbers ∙ length-set r.store.numbers (slot_of r.store n) (Some n) ∙ ok.slots;
  works = k.works ∙ ok.works;
  collected = ok.collected;
  row = ok.row;
  few = ok.few;
  exact = λ e.
      let before = ok.exact e in (
        before.0,
        kept_stays far r.store u n (r.played - 1) k.numbers (omega (arith, before.0, row.low, ok.collects.begins))
            (omega (arith, before.0, row.high, ok.collects.begins, ok.row, ok.params.lead, ok.slots)) before.1,
      );
  taken = ok.taken;
  collects = ok.collects;
}
