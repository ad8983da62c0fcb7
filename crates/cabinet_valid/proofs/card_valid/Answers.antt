use Rattle.cabinet_valid.proofs.Hand.{card_flags}
use Rattle.cabinet_valid.proofs.card_valid.Goals as goal

pub returns : goal.returns
returns c = let a : _ = c.args in card_flags a.head a.c _ a.last a.pending _ _ _ _ c.seen-n.ensures c.entries_valid-lasts.ensures c.entries_valid-pendings.ensures c.there_valid-whole.ensures
