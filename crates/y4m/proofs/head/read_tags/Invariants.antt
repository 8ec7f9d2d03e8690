use Rattle.std.proofs.Common.{◌≡◌}
use Rattle.y4m.specs.Line.{tags_of}
use Rattle.y4m.specs.Head.{width_tagged, height_tagged, tags_fault, last_in, or_else}
use Rattle.y4m.proofs.Tags.{tags_at}
use Rattle.y4m.proofs.head.read_tags.Given as goal

abbrev pub invariant-loop-at : goal.invariant-loop-at
invariant-loop-at l = record {
  fault : tags_fault (tags_at l.line l.at) ≡ tags_fault (tags_of l.line);
  width : or_else (last_in width_tagged (tags_at l.line l.at)) l.sizes.width ≡ last_in width_tagged (tags_of l.line);
  height : or_else (last_in height_tagged (tags_at l.line l.at)) l.sizes.height
      ≡ last_in height_tagged (tags_of l.line);
}
