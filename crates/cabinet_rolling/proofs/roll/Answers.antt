use Rattle.std.specs.Prelude.{Ok, is_ok}
use Prim.Native.Nat.{ℕ}
use native.Mathlib.Numerals.{add-one}
use native.Mathlib.Omega.{arith}
use mathlib.Core.Path.{◌≡◌, sym, ◌∙◌, ap}
use mathlib.Core.Bool.{Bool, false, not}
use borrow.Author.Rules.{rules}
use Rattle.base_bits.specs.Member.{member}
use Rattle.theory_protocol.specs.Model.{with_card}
use Rattle.theory_protocol.specs.Calls.{roll_checks, all_rolled}
use Rattle.cabinet_layout.specs.declared.Phase.TheVariants.{Up}
use Rattle.cabinet_layout.specs.Answers.{after28}
use Rattle.cabinet_layout.specs.Shape.{head_of, limits16}
use Rattle.cabinet_plans.specs.Plans.{alone}
use Rattle.cabinet_plans.proofs.Call.{core_done}
use Rattle.cabinet_rolling.proofs.Rolled.{rolls, refused_as, roll_edits, renewed_next}
use Rattle.cabinet_rolling.proofs.roll.Goals as goal

pub bounds-core-c : goal.bounds-core-c
bounds-core-c c =
    let ok : c.roll_verdict-reply.result ≡ Ok tt = search rules in
    (rolls c.args.valid c.args.core c.args.card c.requires (sym c.roll_verdict-reply.ensures ∙ ok)).card

pub bounds-core-c-then-is_ok : goal.bounds-core-c-then-is_ok
bounds-core-c-then-is_ok c =
    let ok : c.roll_verdict-reply.result ≡ Ok tt = search rules in
    (rolls c.args.valid c.args.core c.args.card c.requires (sym c.roll_verdict-reply.ensures ∙ ok)).card

pub bounds-core-c-then-is_ok-2 : goal.bounds-core-c-then-is_ok-2
bounds-core-c-then-is_ok-2 c =
    let ok : c.roll_verdict-reply.result ≡ Ok tt = search rules in
    (rolls c.args.valid c.args.core c.args.card c.requires (sym c.roll_verdict-reply.ensures ∙ ok)).card

pub bounds-core-c-then-is_ok-3 : goal.bounds-core-c-then-is_ok-3
bounds-core-c-then-is_ok-3 c =
    let ok : c.roll_verdict-reply.result ≡ Ok tt = search rules in
    (rolls c.args.valid c.args.core c.args.card c.requires (sym c.roll_verdict-reply.ensures ∙ ok)).card

pub bounds-core-c-then-is_ok-4 : goal.bounds-core-c-then-is_ok-4
bounds-core-c-then-is_ok-4 c =
    let ok : c.roll_verdict-reply.result ≡ Ok tt = search rules in
    (rolls c.args.valid c.args.core c.args.card c.requires (sym c.roll_verdict-reply.ensures ∙ ok)).card

pub overflow_add-core : goal.overflow_add-core
overflow_add-core c =
    let ok : c.roll_verdict-reply.result ≡ Ok tt = search rules in
    let h : _ = (rolls c.args.valid c.args.core c.args.card c.requires (sym c.roll_verdict-reply.ensures ∙ ok)).room in omega (arith, h)

pub returns-then-done : goal.returns-then-done
returns-then-done c =
    let a : _ = c.args in
    let s : _ = a.core in
    let last : Bool = all_rolled limits16 (alone s) (with_card (member s.rolled) a.card) in
    let ok : c.roll_verdict-reply.result ≡ Ok tt = search rules in
    core_done s _ (after28 (not a.valid) (roll_checks limits16 (alone s) a.card)) (roll_edits a.card last) _ c.roll_verdict-reply.ensures ok
    (renewed_next s a.card last _ _ (sym c.is_last-done.ensures ∙ c.if-done.true) c.no_vectors-none.ensures (c.head_of-core.ensures ∙ ap (λ (n : ℕ). head_of n s.head.cards Up) (add-one s.head.session)))

pub returns-else-is_ok : goal.returns-else-is_ok
returns-else-is_ok c =
    let a : _ = c.args in
    let s : _ = a.core in
    let no : is_ok c.roll_verdict-reply.result ≡ false = sym c.is_ok.ensures.value ∙ c.if-is_ok.false in
    refused_as s (after28 (not a.valid) (roll_checks limits16 (alone s) a.card)) (roll_edits a.card (all_rolled limits16 (alone s) (with_card (member s.rolled) a.card))) _ c.roll_verdict-reply.ensures no
