-- `base_text::put_at` writes a text from a place on, as far as there is room. Assumes nothing.
use Rattle.base_text.proofs.Puts.{put_beyond, put_whole}
use mathlib.Core.Path.{refl}
use borrow.Author.Rules.{rules}
use Rattle.base_text.proofs.put_at.Goals as goal

pub returns-then-room-count : goal.returns-then-room-count
returns-then-room-count c = put_beyond c.args.b.now c.args.at c.args.text.now _ _ c.saturating_sub-room.ensures (search rules) c.fill.ensures

pub returns : goal.returns
returns c = put_whole c.args.b.now c.args.at c.args.text.now _ _ refl (search rules) c.fill-2.ensures
