use Rattle.call_decoding.proofs.Made.{pictured, is_made, reconstructed}
use Rattle.call_decoding.proofs.laws.are_pictures.Goals as goal

pub returns : goal.returns
returns c = record {
  pictures = pictured c.picture_by_samples.ensures;
  made = is_made c.picture_by_samples.ensures;
  reconstructed = reconstructed c.picture_by_samples.ensures c.samples_are_reconstruction.ensures.whole
      c.samples_are_reconstruction.ensures.format c.samples_are_reconstruction.ensures.samples
      c.numbered_samples.ensures;
}
