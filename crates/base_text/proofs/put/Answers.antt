-- `base_text::put` writes a text after what is written already. Assumes nothing.
use Rattle.base_text.proofs.Puts.{put_from, put_counted, put_short}
use Rattle.base_text.proofs.put.Goals as goal

pub returns-in-Next : goal.returns-in-Next
returns-in-Next c = put_from c.in-Next.is c.put_at.ensures

pub returns-in-Counting : goal.returns-in-Counting
returns-in-Counting c = put_from c.in-Counting.is (put_counted _ _ _ _ c.counted_on.ensures)

pub returns-in-TooShort : goal.returns-in-TooShort
returns-in-TooShort c = put_from c.in-TooShort.is (put_short _ _)
