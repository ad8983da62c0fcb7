-- `sheet_page_writer::frame_of` is the frame of a card's state, as the ring has it. Assumes nothing.
use Prim.Native.Nat.{ℕ, ◌<◌}
use mathlib.Core.Path.{◌≡◌, sym, ◌∙◌, ap}
use mathlib.Core.List.{List}
use lib.ListN.{get_or}
use borrow.Author.Tests.{lt-ltb, le-ltb}
use Rattle.base_limits.specs.Ring.{ring_place}
use Rattle.base_laws.proofs.Logic.{cond_true, cond_false}
use Rattle.base_rows.specs.Row.{entries_at, row_at}
use Rattle.base_rows.proofs.Rows.{row_there}
use Rattle.sheet_lines.specs.declared.Frame.{Frame}
use Rattle.sheet_lines.specs.Lines.{no_frame}
use Rattle.sheet_pages.specs.Ring.{ring_frame}
use borrow.Author.Rules.{rules}
use Rattle.sheet_page_writer.proofs.frame_of.Goals as goal

-- the change and the entries at the place of a state
frame_at : (changes entries : List ℕ) (c x : ℕ) {p : ℕ} {row : List ℕ} → p ≡ ring_place c x → p < 768 → row ≡ row_at entries p
    → ◌≡◌ {A = Frame} (record { change = get_or changes p 0; entries = row }) (ring_frame changes entries 16 c x)
frame_at changes entries c x {p} e l r = λ i. record { change = get_or changes (e i) 0; entries = (row_there entries p l r ∙ ap (entries_at entries) e) i }

pub returns-then-card-ge-CARDS_U32 : goal.returns-then-card-ge-CARDS_U32
returns-then-card-ge-CARDS_U32 c = sym (cond_false (ring_frame c.args.changes.now c.args.entries.now 16 c.args.card c.args.state) no_frame (le-ltb c.args.card 16 c.if-card-ge-CARDS_U32.true))

pub returns : goal.returns
returns c =
    let a = c.args in
    frame_at a.changes.now a.entries.now a.card a.state c.ring_place-place.ensures (search rules) c.row_at.ensures
    ∙ sym (cond_true (ring_frame a.changes.now a.entries.now 16 a.card a.state) no_frame (lt-ltb a.card 16 c.if-card-ge-CARDS_U32.false))
