-- `sheet_frame_reader::entries_at` reads the entries of a frame. The invariant: storing those left to read gives the whole. Assumes nothing.
use Prim.Native.Nat.{◌+◌, ◌*◌, ◌≤◌, zero-le}
use mathlib.Core.Path.{refl, ◌∙◌, ap}
use native.Mathlib.Omega.{arith}
use lib.ListN.{length, drop, length-set, length-drop}
use Rattle.sheet_digits.proofs.Digits.{number_take}
use Rattle.sheet_lines.specs.Format.{held_by}
use Rattle.sheet_lines.proofs.Judged.{row_room, entries_step, entries_start}
use Rattle.sheet_frame_reader.proofs.entries_at.Goals as goal

pub loop-j-init : goal.loop-j-init
loop-j-init c = (zero-le, refl, entries_start c.args.width (held_by c.args.short c.args.none) c.args.s.now c.args.at c.args.n)

pub held-requires : goal.held-requires
held-requires c =
    let a = c.args in
    let l = c.loop-j in
    let h : a.at + l.j * a.width + a.width ≤ length a.s.now = row_room a.at a.width a.n l.j (length a.s.now) (omega arith) c.requires.3 in
    let k : a.width ≤ length (drop (a.at + l.j * a.width) a.s.now) = rw length-drop (omega arith) in
    omega (arith, number_take a.width (drop (a.at + l.j * a.width) a.s.now) k, c.state_at.ensures, c.requires.2)

pub loop-j-preserved : goal.loop-j-preserved
loop-j-preserved c =
    let a = c.args in
    let l = c.loop-j in
    (omega arith, length-set l.entries l.j c.held.result ∙ l.invariant.1, entries_step a.width (held_by a.short a.none) a.s.now l.entries a.at a.n l.j c.held.result (omega arith) (c.held.ensures ∙ ap (held_by a.short a.none) c.state_at.ensures) ∙ l.invariant.2)
