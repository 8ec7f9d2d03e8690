-- What a handle owns: nothing, or the box of an end.
use Rattle.std.specs.declared.option.Option.{Option}
use Rattle.std.specs.declared.option.Option.TheVariants.{None, Some}
use Rattle.std.specs.declared.alloc.Global.{Global}
use base.Fml.{Fml, ftrue}
use denote.RawPtr.{Ptr}
use Rattle.std_alloc.specs.Box.Ownership.{box_owns}
use Rattle.std.specs.contracts.impls.GlobalAllocator.TheImpl.{ghosts}
use Rattle.h263rps_c.specs.contracts.ends.End.{the_row}

abbrev pub holds_end : Global → Ptr → Option (the_row.Denot) → Fml
holds_end a p None = ftrue
holds_end a p (Some v) = box_owns (ghosts.dealloc_token a) the_row p v
