use Rattle.cabinet_valid_frames.proofs.rises_valid.Goals as goal

pub returns : goal.returns
returns c = rw c.rising_entries-whole.ensures
