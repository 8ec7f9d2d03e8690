use Rattle.std.proofs.Common.{◌≡◌, List, length, Some, ap, ◌∙◌, arith}
use Rattle.std.specs.Prelude.{slice_get}
use Rattle.call_model.specs.Coding.{Slice}
use Rattle.h263_types.specs.declared.blocks.Mb.{Mb}
use Rattle.h263_types.specs.declared.blocks.Mb.TheVariants.{Skip}
use Rattle.packet_cutter.specs.Cut.{packet_bytes}
use Rattle.packet_cutter.specs.Slices.{runs_as_slices}
use Rattle.packet_cutter.proofs.Cuts.{cut_exists, fit}
use Rattle.packet_cutter.proofs.Sliced.{divides}
use Rattle.packet_cutter.proofs.Sent.{cut_is, slice_fits}
use Rattle.packet_cutter.proofs.Styled.{cut_by_style}
use Rattle.packet_cutter.proofs.laws.cut_divides.Goals as goal

pub returns-clause-divides : goal.returns-clause-divides
returns-clause-divides c = λ h limit mbs. divides c.searches.ensures.greatest (packet_bytes h) limit Skip mbs

pub returns-clause-style : goal.returns-clause-style
returns-clause-style c = cut_by_style c.longest_text-2.ensures

pub returns-clause-fits : goal.returns-clause-fits
returns-clause-fits c = λ h limit mbs j slice is room whole e.
    let cut = cut_exists c.longest_text-2.ensures c.longest_text.ensures h limit is room (length mbs) 0 mbs
    (omega arith) whole in
    let same = cut_is c.searches.ensures.greatest (length mbs) h limit 0 mbs cut.0 (omega arith) cut.1 in
    let there : slice_get (runs_as_slices 0 cut.0) j ≡ Some slice = ap (λ (l : List (Slice Mb)). slice_get l j) same
    ∙ e in
    slice_fits h limit 0 cut.0 j slice (fit h limit 0 mbs cut.0 cut.1) there
