-- `list_run::run` counts the answers to a list and writes them where all have room. Assumes nothing.
use Prim.Native.Nat.{◌≤◌}
use native.Mathlib.Omega.{arith}
use lib.ListN.{length}
use Rattle.base_text.specs.Put.{greatest}
use Rattle.list_texts.proofs.Laws.{replayed_whole, replayed_counting, replayed_short}
use borrow.Author.Rules.{rules}
use Rattle.list_run.proofs.run.Goals as goal

pub returns-in-Next : goal.returns-in-Next
returns-in-Next c =
    let small : length c.args.out.now ≤ greatest = omega arith in
    replayed_whole small c.pass-counted.ensures c.fitting-from.ensures c.in-Next.is c.pass.ensures

pub returns-in-Counting : goal.returns-in-Counting
returns-in-Counting c =
    let small : length c.args.out.now ≤ greatest = omega arith in
    replayed_counting small c.pass-counted.ensures c.fitting-from.ensures c.in-Counting.is

pub returns-in-TooShort : goal.returns-in-TooShort
returns-in-TooShort c =
    let small : length c.args.out.now ≤ greatest = omega arith in
    replayed_short small c.pass-counted.ensures c.fitting-from.ensures c.in-TooShort.is
