use Rattle.std.specs.Prelude.{Ok}
use Prim.Native.Nat.{ℕ, suc, ◌+◌, ◌<◌}
use native.Mathlib.Numerals.{add-one}
use native.Mathlib.Omega.{arith}
use mathlib.Core.Path.{◌≡◌, sym, ◌∙◌, ap}
use mathlib.Core.Bool.{true}
use lib.ListN.{get_or}
use borrow.Author.Rules.{rules}
use Rattle.base_bits.specs.Member.{member}
use Rattle.cabinet_layout.specs.declared.Slot.{Slot}
use Rattle.cabinet_layout.specs.declared.Vector.{Vector}
use Rattle.cabinet_layout.specs.Shape.{at, empty_slot}
use Rattle.cabinet_taking.proofs.Taken.{TakenOf, taken_of}
use Rattle.cabinet_taking.proofs.Share.{share_grown, grown_entries, grown_changes, take_done, take_refused}
use Rattle.cabinet_taking.proofs.take.Goals as goal

pub offset_bounds-core-at-then-is_ok : goal.offset_bounds-core-at-then-is_ok
offset_bounds-core-at-then-is_ok c =
    let ok : c.take_verdict-reply.result ≡ Ok tt = search rules in
    let f : TakenOf c.args.core c.args.change c.args.card = taken_of c.args.valid c.args.core c.args.change c.args.card c.requires (sym c.take_verdict-reply.ensures ∙ ok) in
    let h : c.slot_of-at.result < 8 = omega (arith, f.slot, c.slot_of-at.ensures) in search rules

pub bounds-core-at-then-is_ok : goal.bounds-core-at-then-is_ok
bounds-core-at-then-is_ok c =
    let ok : c.take_verdict-reply.result ≡ Ok tt = search rules in
    let f : TakenOf c.args.core c.args.change c.args.card = taken_of c.args.valid c.args.core c.args.change c.args.card c.requires (sym c.take_verdict-reply.ensures ∙ ok) in
    omega (arith, f.slot, c.slot_of-at.ensures)

pub overflow_add-x : goal.overflow_add-x
overflow_add-x c =
    let ok : c.take_verdict-reply.result ≡ Ok tt = search rules in
    let f : TakenOf c.args.core c.args.change c.args.card = taken_of c.args.valid c.args.core c.args.change c.args.card c.requires (sym c.take_verdict-reply.ensures ∙ ok) in
    let h : at c.args.core.reached c.args.card < 60000 = f.room (ap (λ (p : ℕ). member (get_or c.args.core.slots p empty_slot).writes c.args.card) (sym c.slot_of-at.ensures) ∙ sym c.has.ensures ∙ c.if-has.true) in search rules

pub bounds-core-c : goal.bounds-core-c
bounds-core-c c =
    let ok : c.take_verdict-reply.result ≡ Ok tt = search rules in
    (taken_of c.args.valid c.args.core c.args.change c.args.card c.requires (sym c.take_verdict-reply.ensures ∙ ok)).card

pub bounds-core-c-then-has : goal.bounds-core-c-then-has
bounds-core-c-then-has c =
    let ok : c.take_verdict-reply.result ≡ Ok tt = search rules in
    (taken_of c.args.valid c.args.core c.args.change c.args.card c.requires (sym c.take_verdict-reply.ensures ∙ ok)).card

pub bounds-core-c-then-has-2 : goal.bounds-core-c-then-has-2
bounds-core-c-then-has-2 c =
    let ok : c.take_verdict-reply.result ≡ Ok tt = search rules in
    (taken_of c.args.valid c.args.core c.args.change c.args.card c.requires (sym c.take_verdict-reply.ensures ∙ ok)).card

pub bounds-core-c-then-has-3 : goal.bounds-core-c-then-has-3
bounds-core-c-then-has-3 c =
    let ok : c.take_verdict-reply.result ≡ Ok tt = search rules in
    (taken_of c.args.valid c.args.core c.args.change c.args.card c.requires (sym c.take_verdict-reply.ensures ∙ ok)).card

pub bounds-core-c-then-has-4 : goal.bounds-core-c-then-has-4
bounds-core-c-then-has-4 c =
    let ok : c.take_verdict-reply.result ≡ Ok tt = search rules in
    (taken_of c.args.valid c.args.core c.args.change c.args.card c.requires (sym c.take_verdict-reply.ensures ∙ ok)).card

pub bounds-core-c-else-has : goal.bounds-core-c-else-has
bounds-core-c-else-has c =
    let ok : c.take_verdict-reply.result ≡ Ok tt = search rules in
    (taken_of c.args.valid c.args.core c.args.change c.args.card c.requires (sym c.take_verdict-reply.ensures ∙ ok)).card

pub bounds-core-c-else-has-2 : goal.bounds-core-c-else-has-2
bounds-core-c-else-has-2 c =
    let ok : c.take_verdict-reply.result ≡ Ok tt = search rules in
    (taken_of c.args.valid c.args.core c.args.change c.args.card c.requires (sym c.take_verdict-reply.ensures ∙ ok)).card

pub returns-then-has : goal.returns-then-has
returns-then-has c =
    let a : _ = c.args in
    let s : _ = a.core in
    let p : ℕ = c.slot_of-at.result in
    let z : Slot = get_or s.slots p empty_slot in
    let w : Vector = c.vector_of-w.result in
    let x : ℕ = at s.reached a.card + 1 in
    let ok : c.take_verdict-reply.result ≡ Ok tt = search rules in
    let card : a.card < 16 = (taken_of c.args.valid c.args.core c.args.change c.args.card c.requires (sym c.take_verdict-reply.ensures ∙ ok)).card in
    let writes : member z.writes a.card ≡ true = sym c.has.ensures ∙ c.if-has.true in
    let next : x ≡ suc (at s.reached a.card) = add-one (at s.reached a.card) in
    take_done a.valid s a.change a.card p w.entries x z.number _ _ c.take_verdict-reply.ensures ok c.slot_of-at.ensures
    (share_grown s a.card x p w z c.took.result writes next c.vector_of-w.ensures.0 c.vector_of-w.ensures.1 c.took.ensures)
    (grown_entries s a.card x p w z card writes next c.vector_of-w.ensures.0)
    (grown_changes s a.card x p z card writes next)

pub returns-else-is_ok : goal.returns-else-is_ok
returns-else-is_ok c =
    let a : _ = c.args in
    take_refused a.valid a.core a.change a.card _ _ c.take_verdict-reply.ensures (sym c.is_ok.ensures.value ∙ c.if-is_ok.false)
