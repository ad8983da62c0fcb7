-- The law of every edit at once: on a cabinet of its lengths, what it shows after an edit that fits is its view, edited. Assumes nothing.
use Prim.Native.Nat.{ℕ, ◌+◌, ◌≤◌, ◌<◌}
use mathlib.Core.Path.{◌≡◌, sym, ◌∙◌, ap, subst}
use mathlib.Core.List.{List, [], ◌∷◌}
use native.Mathlib.Omega.{arith}
use Rattle.theory_protocol.specs.Model.{Model}
use Rattle.theory_protocol.specs.Edit.{Edit, edited, edited_all}
use Rattle.theory_protocol.specs.Edit as edit
use Rattle.cabinet_layout.specs.Shape.{limits16, at, vector_at}
use Rattle.cabinet.specs.declared.Cabinet.{Cabinet}
use Rattle.cabinet.specs.View.{view}
use Rattle.cabinet.specs.Apply.{apply, apply_all}
use Rattle.cabinet_layout.proofs.Held.{Fits}
use Rattle.cabinet.proofs.Laws.{keep_law, begin_law, end_law, count_law, place_law, raise_law, fall_law, halt_law, fix_law, renew_law}
use Rattle.cabinet.proofs.Grow.{grow_law}
use Rattle.cabinet.proofs.Bases.{rebase_law, lower_law}
use Rattle.demands_lists.specs.Lists.{Sized}
use Rattle.demands_lists.proofs.Lengths.{edit_sized}
use Rattle.demands_lists.proofs.Narrow.{Short, Narrow, Brings, joined_short, edit_narrow}

-- what the law of an edit asks besides the lengths
abbrev pub EditFits : Cabinet → Edit → Type 0
EditFits s (edit.place p o) = (p < 8) × Fits o
EditFits s (edit.latest k) = Unit {0}
EditFits s (edit.grow c k v) = (c < 16) × (at s.core.base c ≤ at s.core.reached c) × (at s.core.reached c < at s.core.base c + 48) × Short v
EditFits s (edit.raise c v) = (c < 16) × Short v
EditFits s (edit.keep c x) = c < 16
EditFits s (edit.begin c x) = c < 16
EditFits s (edit.end c x) = c < 16
EditFits s (edit.rebase bases) = ((k : ℕ) → 16 ≤ k → bases k ≡ 0) × ((c : ℕ) → at s.core.base c ≤ bases c)
EditFits s (edit.fall cards) = Unit {0}
EditFits s edit.halt = Unit {0}
EditFits s (edit.fix line) = (k : ℕ) → 16 ≤ k → line k ≡ 0
EditFits s (edit.lower c) = c < 16
EditFits s edit.renew = Unit {0}

brings : (s : Cabinet) (e : Edit) → EditFits s e → Brings e
brings s (edit.place p o) f = f.1
brings s (edit.latest k) f = tt
brings s (edit.grow c k v) f = f.3
brings s (edit.raise c v) f = f.1
brings s (edit.keep c x) f = tt
brings s (edit.begin c x) f = tt
brings s (edit.end c x) f = tt
brings s (edit.rebase bases) f = tt
brings s (edit.fall cards) f = tt
brings s edit.halt f = tt
brings s (edit.fix line) f = tt
brings s (edit.lower c) f = tt
brings s edit.renew f = tt

pub law : (s : Cabinet) → Sized s → Narrow (view s) → (e : Edit) → EditFits s e → view (apply e s) ≡ edited limits16 e (view s)
law s z w (edit.place p o) f = place_law s p o (omega (arith, z.core.slots, f.0)) f.1
law s z w (edit.latest k) f = count_law s k
law s z w (edit.grow c k v) f =
    grow_law s c k v
    (record { card = f.0; entries = z.entries; changes = z.changes; last = z.core.last; pending = z.core.pending; held = z.core.held; reached = z.core.reached; low = f.1; room = f.2; vector = f.3 })
law s z w (edit.raise c v) f = raise_law s c v (omega (arith, z.core.pending, f.0)) (joined_short (vector_at s.core.pending c) v (w.pending c) f.1)
law s z w (edit.keep c x) f = keep_law s c x (omega (arith, z.core.stored, f))
law s z w (edit.begin c x) f = begin_law s c x (omega (arith, z.core.writing, f))
law s z w (edit.end c x) f = end_law s c x (omega (arith, z.core.stored, f)) (omega (arith, z.core.held, f)) (omega (arith, z.core.writing, f))
law s z w (edit.rebase bases) f = rebase_law s bases f.0 f.1
law s z w (edit.fall cards) f = fall_law s cards z.core.stored z.core.held
law s z w edit.halt f = halt_law s z.core.slots
law s z w (edit.fix line) f = fix_law s line f
law s z w (edit.lower c) f = lower_law s c (record { card = f; base = z.core.base; stored = z.core.stored; held = z.core.held; reached = z.core.reached; rolled = z.core.rolled })
law s z w edit.renew f = renew_law s

-- the edits of a list, one after the other
abbrev pub EditsFit : Cabinet → List Edit → Type 0
EditsFit s [] = Unit {0}
EditsFit s (e ∷ es) = EditFits s e × EditsFit (apply e s) es

-- a cabinet that shows the model m
pub record Shows (m : Model) (s : Cabinet) : Type 0 where
  pub same : view s ≡ m
  pub sized : Sized s
  pub narrow : Narrow m

pub edits_show : (es : List Edit) (m : Model) (s : Cabinet) → Shows m s → EditsFit s es → Shows (edited_all limits16 es m) (apply_all es s)
edits_show [] m s h f = h
edits_show (e ∷ es) m s h f =
    let w : Narrow (view s) = subst Narrow (sym h.same) h.narrow in
    edits_show es (edited limits16 e m) (apply e s)
    (record {
      same = law s h.sized w e f.0 ∙ ap (edited limits16 e) h.same;
      sized = edit_sized e s h.sized;
      narrow = edit_narrow e m h.narrow (brings s e f.0);
    })
    f.1
