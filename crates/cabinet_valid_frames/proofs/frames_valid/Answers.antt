use Prim.Native.Nat.{◌+◌}
use mathlib.Core.Path.{refl}
use native.Mathlib.Omega.{arith}
use Rattle.base_laws.proofs.Fill.{all_none, all_more, all_done}
use Rattle.cabinet_valid_frames.proofs.Steps.{next_slot, step_whole}
use Rattle.cabinet_valid_frames.proofs.frames_valid.Goals as goal

pub loop-k-init : goal.loop-k-init
loop-k-init c = (all_none, omega arith)

pub frame_valid-frame-requires : goal.frame_valid-frame-requires
frame_valid-frame-requires c = let q : _ = next_slot _ _ _ c.loop-k.invariant.1 c.after-slot.ensures in (c.requires.0, omega (arith, q, c.requires.0))

pub rises_valid-rises-requires : goal.rises_valid-rises-requires
rises_valid-rises-requires c = let q : _ = next_slot _ _ _ c.loop-k.invariant.1 c.after-slot.ensures in (omega (arith, c.loop-k.invariant.1, c.requires.0), omega (arith, q, c.requires.0))

pub loop-k-preserved : goal.loop-k-preserved
loop-k-preserved c = let a : _ = c.args in let i : _ = c.loop-k.invariant in let q : _ = next_slot (a.base + c.loop-k.k) _ _ i.1 c.after-slot.ensures in (all_more i.0 c.loop-k-test.true (step_whole a.entries.now a.changes.now a.cards a.c a.base a.reached c.loop-k.k _ _ _ _ i.1 q c.frame_valid-frame.ensures c.rises_valid-rises.ensures), omega (arith, q))

pub returns : goal.returns
returns c = all_done c.loop-k.invariant.0 c.loop-k-test.false refl
