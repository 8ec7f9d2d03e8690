-- What a picture is predicted from.
use Rattle.std.specs.Prelude.{◌≡◌, Option, Some, None}
use Rattle.h263_types.specs.declared.Kind.{Kind}
use Rattle.h263_types.specs.declared.Kind.TheVariants.{I, P}
use Rattle.h263_types.specs.declared.format.Format.{Format}
use Rattle.h263_planes.specs.Picture.{Picture}

-- a P picture has a reference, a picture of its format
abbrev pub HasReference : Kind → Format → Option Picture → Type 0
HasReference I f reference = Unit {0}
HasReference P f None = ⊥
HasReference P f (Some p) = p.format ≡ f

-- and only a P picture has one
abbrev pub HasReferenceOnlyInP : Kind → Format → Option Picture → Type 0
HasReferenceOnlyInP I f None = Unit {0}
HasReferenceOnlyInP I f (Some p) = ⊥
HasReferenceOnlyInP P f reference = HasReference P f reference
