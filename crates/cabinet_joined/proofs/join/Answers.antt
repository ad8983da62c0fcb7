-- `cabinet_joined::join` writes the sheets of all cards one after the other. The invariant: those of the first cards stand at the front of the buffer. Assumes nothing.
use Prim.Native.Nat.{◌-◌}
use mathlib.Core.Path.{◌≡◌}
use native.Mathlib.Omega.{arith}
use lib.ListN.{length}
use borrow.Rule.Slice.PartMut.{same_len_mid}
use Rattle.cabinet_sheet.specs.Card.{length_told}
use Rattle.cabinet_joined.proofs.Fronts.{joined_none, joined_more, joined_all}
use borrow.Author.Rules.{rules}
use Rattle.cabinet_joined.proofs.join.Goals as goal

pub loop-card-init : goal.loop-card-init
loop-card-init c = (joined_none c.args.c c.args.buffer.now c.requires.2, omega arith)

pub overflow_add-at : goal.overflow_add-at
overflow_add-at c = let e : c.unwrap_or-at.result ≡ length_told c.sheet-a.result.reply = search rules in omega (arith, e, c.sheet-a.ensures.told.inside, c.buffer-1.given)

pub loop-card-preserved : goal.loop-card-preserved
loop-card-preserved c =
    let e : c.unwrap_or-at.result ≡ length_told c.sheet-a.result.reply = search rules in (
      joined_more c.requires.0 (search rules) c.loop-card.invariant.0 c.sheet-a.ensures c.sheet-arg-1.given.2 c.unwrap_or-at.result _ e (same_len_mid c.loop-card.at (length c.loop-card.buffer - c.loop-card.at) c.loop-card.buffer c.sheet-a.new.buffer (search rules)),
      search rules,
    )

pub returns : goal.returns
returns c = joined_all c.requires.0 c.loop-card.invariant.0 (search rules)
