use Rattle.std.specs.Prelude.{Ok, is_ok}
use Prim.Native.Nat.{ℕ, ◌<◌}
use native.Mathlib.Omega.{arith}
use mathlib.Core.Path.{◌≡◌, sym, ◌∙◌, ap}
use mathlib.Core.Bool.{false, not}
use mathlib.Core.List.{[], ◌∷◌}
use lib.ListN.{get_or}
use borrow.Author.Rules.{rules}
use Rattle.base_bits.specs.Member.{member}
use Rattle.theory_protocol.specs.Model.{slot_of}
use Rattle.theory_protocol.specs.Edit.{place}
use Rattle.theory_protocol.specs.Calls.{vote_checks, voted}
use Rattle.cabinet_layout.specs.Answers.{after28}
use Rattle.cabinet_layout.specs.Shape.{open_at, limits16, empty_slot}
use Rattle.cabinet_plans.specs.Plans.{alone}
use Rattle.cabinet_plans.proofs.Call.{core_done}
use Rattle.cabinet_voting.proofs.Voted.{Reached, vote_reached, place_next, refused_as}
use Rattle.cabinet_voting.proofs.vote.Goals as goal

pub after_vote-requires : goal.after_vote-requires
after_vote-requires c =
    let ok : c.vote_verdict-reply.result ≡ Ok tt = search rules in
    let f : Reached (alone c.args.core) c.args.change = vote_reached c.args.valid c.args.core c.args.change c.args.card c.requires (sym c.vote_verdict-reply.ensures ∙ ok) in
    λ i h w. f.below i h (ap (λ (p : ℕ). member (get_or c.args.core.slots p empty_slot).writes i) (sym c.slot_of-at.ensures) ∙ w)

pub offset_bounds-core-at-then-is_ok : goal.offset_bounds-core-at-then-is_ok
offset_bounds-core-at-then-is_ok c =
    let ok : c.vote_verdict-reply.result ≡ Ok tt = search rules in
    let f : Reached (alone c.args.core) c.args.change = vote_reached c.args.valid c.args.core c.args.change c.args.card c.requires (sym c.vote_verdict-reply.ensures ∙ ok) in
    let h : c.slot_of-at.result < 8 = omega (arith, f.slot, c.slot_of-at.ensures) in search rules

pub bounds-core-at-then-is_ok : goal.bounds-core-at-then-is_ok
bounds-core-at-then-is_ok c =
    let ok : c.vote_verdict-reply.result ≡ Ok tt = search rules in
    let f : Reached (alone c.args.core) c.args.change = vote_reached c.args.valid c.args.core c.args.change c.args.card c.requires (sym c.vote_verdict-reply.ensures ∙ ok) in
    omega (arith, f.slot, c.slot_of-at.ensures)

pub returns-then-is_ok : goal.returns-then-is_ok
returns-then-is_ok c =
    let a : _ = c.args in
    let s : _ = a.core in
    let ok : c.vote_verdict-reply.result ≡ Ok tt = search rules in
    core_done s _ (after28 (not a.valid) (vote_checks limits16 (alone s) a.change a.card)) (place (slot_of limits16 (alone s) a.change) (voted limits16 (alone s) (open_at s.slots (slot_of limits16 (alone s) a.change)) a.card a.agrees) ∷ []) _ c.vote_verdict-reply.ensures ok
    (place_next s c.slot_of-at.result (slot_of limits16 (alone s) a.change) _ (λ p. voted limits16 (alone s) (open_at s.slots p) a.card a.agrees) c.slot_of-at.ensures c.after_vote.ensures)

pub returns-else-is_ok : goal.returns-else-is_ok
returns-else-is_ok c =
    let a : _ = c.args in
    let s : _ = a.core in
    let no : is_ok c.vote_verdict-reply.result ≡ false = sym c.is_ok.ensures.value ∙ c.if-is_ok.false in
    refused_as s (after28 (not a.valid) (vote_checks limits16 (alone s) a.change a.card)) (place (slot_of limits16 (alone s) a.change) (voted limits16 (alone s) (open_at s.slots (slot_of limits16 (alone s) a.change)) a.card a.agrees) ∷ []) _ c.vote_verdict-reply.ensures no
