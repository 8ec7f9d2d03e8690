use Rattle.picture_recon.proofs.values.marks_or_none.Goals as goal
