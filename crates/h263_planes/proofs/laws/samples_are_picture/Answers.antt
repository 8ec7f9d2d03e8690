use Rattle.h263_planes.proofs.Givens.{format_with, whole_with, picture_is_with, sample_with, only_with}
use Rattle.h263_planes.proofs.laws.samples_are_picture.Goals as goal

pub returns-clause-whole : goal.returns-clause-whole
returns-clause-whole c = whole_with

pub returns-clause-format : goal.returns-clause-format
returns-clause-format c = format_with

pub returns-clause-samples : goal.returns-clause-samples
returns-clause-samples c = sample_with

pub returns-clause-only : goal.returns-clause-only
returns-clause-only c = only_with

pub returns-clause-picture : goal.returns-clause-picture
returns-clause-picture c = picture_is_with
