use Rattle.theory_protocol.specs.Model.{with_card}
use Rattle.base_bits.specs.Sets.{either}
use Rattle.base_bits.specs.Member.{member}
use borrow.Author.Tests.{eq-eqb, ne_eqb}
use Rattle.cabinet_layout.specs.Shape.{limits16, slot_for}
use Rattle.cabinet_layout.proofs.Held.{list_known, set_known, slot_by, all_put, set_put}
use Rattle.base_laws.proofs.Logic.{cond_true, cond_false}
use Rattle.base_laws.specs.Below.{all_below}
use mathlib.Core.Path.{◌≡◌, refl, sym, ◌∙◌, ap}
use mathlib.Core.Bool.{true, false, not, ◌||◌}
use Rattle.cabinet_awaited.proofs.Votes.{none_awaited}
use borrow.Author.Rules.{rules}
use Rattle.cabinet_changes.proofs.with_yes.Goals as goal

pub decision-vector-requires : goal.decision-vector-requires
decision-vector-requires c = c.requires

pub returns-then-awaited-eq0 : goal.returns-then-awaited-eq0
returns-then-awaited-eq0 c = let o : _ = c.args.o in let e : all_below limits16.width (λ k. not ((either (member c.args.o.reads) (member c.args.o.writes)) k) || with_card (member o.yes) c.args.c k) ≡ true = sym (all_put (either (member c.args.o.reads) (member c.args.o.writes)) o.yes c.with-yes.result c.args.c c.with-yes.ensures) ∙ sym (none_awaited limits16.width (either (member c.args.o.reads) (member c.args.o.writes)) (member c.with-yes.result) c.awaited.ensures) ∙ eq-eqb c.awaited.result 0 c.if-awaited-eq0.true in slot_by c.decision-vector.ensures refl (set_known o.reads (search rules)) (set_known o.writes (search rules)) (set_put o.yes c.with-yes.result c.args.c (search rules) c.with-yes.ensures) (set_known o.taken (search rules)) ∙ sym (ap slot_for (cond_true _ _ e))

pub returns-else-awaited-eq0 : goal.returns-else-awaited-eq0
returns-else-awaited-eq0 c = let o : _ = c.args.o in let e : all_below limits16.width (λ k. not ((either (member c.args.o.reads) (member c.args.o.writes)) k) || with_card (member o.yes) c.args.c k) ≡ false = sym (all_put (either (member c.args.o.reads) (member c.args.o.writes)) o.yes c.with-yes.result c.args.c c.with-yes.ensures) ∙ sym (none_awaited limits16.width (either (member c.args.o.reads) (member c.args.o.writes)) (member c.with-yes.result) c.awaited.ensures) ∙ ne_eqb c.awaited.result 0 c.if-awaited-eq0.false in slot_by (list_known o.vector (search rules)) refl (set_known o.reads (search rules)) (set_known o.writes (search rules)) (set_put o.yes c.with-yes.result c.args.c (search rules) c.with-yes.ensures) (set_known o.taken (search rules)) ∙ sym (ap slot_for (cond_false _ _ e))
