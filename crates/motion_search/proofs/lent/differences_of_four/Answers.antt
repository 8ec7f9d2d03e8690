use Rattle.motion_search.proofs.lent.differences_of_four.Goals as goal

pub returns-clause-value : goal.returns-clause-value
returns-clause-value c = cc (
  c.sad_of_four.ensures.value,
  c.block_row.ensures.value,
  c.block_row-2.ensures.value,
  c.block_row-3.ensures.value,
  c.block_row-4.ensures.value,
)
