use native.Mathlib.Omega.{arith}
use mathlib.Core.Path.{sym}
use borrow.Author.Rules.{rules}
use Rattle.base_bits.specs.Member.{member}
use Rattle.cabinet_opening.proofs.Found.{outside, nothing, some_barred, lowest, no_place, limit}
use Rattle.cabinet_opening.proofs.open_verdict.Goals as goal

pub returns-in_err-refuse_if-2 : goal.returns-in_err-refuse_if-2
returns-in_err-refuse_if-2 c = let a = c.args in rw (sym (outside a.head a.all a.base a.reached (member a.reads) (member a.writes) c.within-inside_r.ensures c.within-inside_w.ensures)) (search rules)

pub returns-in_err-refuse_if-3 : goal.returns-in_err-refuse_if-3
returns-in_err-refuse_if-3 c = let a = c.args in rw (sym (outside a.head a.all a.base a.reached (member a.reads) (member a.writes) c.within-inside_r.ensures c.within-inside_w.ensures), sym (nothing a.head a.all a.base a.reached (member a.reads) (member a.writes) c.is_empty-none_r.ensures c.is_empty-none_w.ensures)) (search rules)

pub returns-in_err-refuse_if-4 : goal.returns-in_err-refuse_if-4
returns-in_err-refuse_if-4 c = let a = c.args in rw (sym (outside a.head a.all a.base a.reached (member a.reads) (member a.writes) c.within-inside_r.ensures c.within-inside_w.ensures), sym (nothing a.head a.all a.base a.reached (member a.reads) (member a.writes) c.is_empty-none_r.ensures c.is_empty-none_w.ensures)) (search rules)

pub returns-in_err-refuse_if-5 : goal.returns-in_err-refuse_if-5
returns-in_err-refuse_if-5 c = let a = c.args in rw (sym (outside a.head a.all a.base a.reached (member a.reads) (member a.writes) c.within-inside_r.ensures c.within-inside_w.ensures), sym (nothing a.head a.all a.base a.reached (member a.reads) (member a.writes) c.is_empty-none_r.ensures c.is_empty-none_w.ensures), sym (some_barred a.head a.all a.base a.reached (member a.reads) (member a.writes) c.barred_set-barred.result c.barred_set-barred.ensures c.is_empty-free.ensures), sym (lowest a.head a.all a.base a.reached (member a.reads) (member a.writes) c.barred_set-barred.result c.barred_set-barred.ensures c.lowest-named.ensures)) (let h = c.refuse_if-5.ensures in let h1 = c.in_err-refuse_if-5.was in let h2 = c.from_residual-in_err-refuse_if-5.ensures in grind (arith, h, h1, h2))

pub returns-in_err-refuse_if-6 : goal.returns-in_err-refuse_if-6
returns-in_err-refuse_if-6 c = let a = c.args in rw (sym (outside a.head a.all a.base a.reached (member a.reads) (member a.writes) c.within-inside_r.ensures c.within-inside_w.ensures), sym (nothing a.head a.all a.base a.reached (member a.reads) (member a.writes) c.is_empty-none_r.ensures c.is_empty-none_w.ensures), sym (some_barred a.head a.all a.base a.reached (member a.reads) (member a.writes) c.barred_set-barred.result c.barred_set-barred.ensures c.is_empty-free.ensures), sym (lowest a.head a.all a.base a.reached (member a.reads) (member a.writes) c.barred_set-barred.result c.barred_set-barred.ensures c.lowest-named.ensures), sym (no_place a.head a.all a.base a.reached (member a.reads) (member a.writes) c.free_at-p.ensures)) (search rules)

pub returns-in_err-refuse_if-7 : goal.returns-in_err-refuse_if-7
returns-in_err-refuse_if-7 c = let a = c.args in rw (sym (outside a.head a.all a.base a.reached (member a.reads) (member a.writes) c.within-inside_r.ensures c.within-inside_w.ensures), sym (nothing a.head a.all a.base a.reached (member a.reads) (member a.writes) c.is_empty-none_r.ensures c.is_empty-none_w.ensures), sym (some_barred a.head a.all a.base a.reached (member a.reads) (member a.writes) c.barred_set-barred.result c.barred_set-barred.ensures c.is_empty-free.ensures), sym (lowest a.head a.all a.base a.reached (member a.reads) (member a.writes) c.barred_set-barred.result c.barred_set-barred.ensures c.lowest-named.ensures), sym (no_place a.head a.all a.base a.reached (member a.reads) (member a.writes) c.free_at-p.ensures)) (search rules)

pub returns : goal.returns
returns c = let a = c.args in rw (sym (outside a.head a.all a.base a.reached (member a.reads) (member a.writes) c.within-inside_r.ensures c.within-inside_w.ensures), sym (nothing a.head a.all a.base a.reached (member a.reads) (member a.writes) c.is_empty-none_r.ensures c.is_empty-none_w.ensures), sym (some_barred a.head a.all a.base a.reached (member a.reads) (member a.writes) c.barred_set-barred.result c.barred_set-barred.ensures c.is_empty-free.ensures), sym (lowest a.head a.all a.base a.reached (member a.reads) (member a.writes) c.barred_set-barred.result c.barred_set-barred.ensures c.lowest-named.ensures), sym (no_place a.head a.all a.base a.reached (member a.reads) (member a.writes) c.free_at-p.ensures), sym (limit a.head a.all a.base a.reached (member a.reads) (member a.writes) c.at_top-top.ensures)) (search rules)
