use Rattle.cabinet_valid_frames.proofs.frame_valid.Goals as goal

pub returns : goal.returns
returns c = rw c.frame_entries_valid-whole.ensures
