-- What the ring of a read-out holds is formed and small. Assumes nothing.
use Prim.Native.Nat.{ℕ, zero, suc, ◌+◌, ◌*◌, ◌^◌, ◌<◌}
use mathlib.Core.List.{List, [], ◌∷◌, ◌++◌}
use native.Mathlib.Omega.{arith}
use lib.ListN.{get_or, set, replicate}
use Rattle.base_limits.specs.Ring.{ring_place}
use Rattle.base_laws.specs.Below.{tabulate}
use Rattle.base_laws.proofs.Fill.{length_tabulate}
use Rattle.sheet_lines.specs.declared.Frame.{Frame}
use Rattle.sheet_pages.specs.declared.Readout.{Readout}
use Rattle.sheet_pages.specs.Pages.{Page}
use Rattle.sheet_pages.specs.Allowed.{Formed}
use Rattle.sheet_pages.specs.Walk.{no_readout, lay_header, lay_frame, lay_frames, lay_page}
use Rattle.sheet_pages.specs.Ring.{ring_frame}
use Rattle.sheet_pages.proofs.Lay.{zeros, frames_heads}

-- ---- the frames of a ring are formed, where its change numbers are of 8 digits

formed_more : (n : ℕ) (frs : List Frame) (fr : Frame) → Formed n frs → Formed n (fr ∷ []) → Formed n (frs ++ (fr ∷ []))
formed_more n [] fr m last = last
formed_more n (x ∷ frs) fr m last = (m.0, m.1, formed_more n frs fr m.2 last)

pub ring_formed : (changes entries : List ℕ) → ((i : ℕ) → get_or changes i 0 < 16 ^ 8) → (n c : ℕ) (state : ℕ → ℕ) (k : ℕ) → Formed n (tabulate k (λ i. ring_frame changes entries n c (state i)))
ring_formed changes entries small n c state zero = tt
ring_formed changes entries small n c state (suc k) =
    formed_more n (tabulate k (λ i. ring_frame changes entries n c (state i))) (ring_frame changes entries n c (state k)) (ring_formed changes entries small n c state k)
    (length_tabulate n (λ j. get_or entries (ring_place c (state k) * 16 + j) 0), small (ring_place c (state k)), tt)

-- ---- numbers below a bound stay so

set_small : (b : ℕ) (l : List ℕ) (p v : ℕ) → v < b → ((i : ℕ) → get_or l i 0 < b) → (i : ℕ) → get_or (set l p v) i 0 < b
set_small b [] p v h s i = s i
set_small b (x ∷ l) zero v h s zero = h
set_small b (x ∷ l) zero v h s (suc i) = s (suc i)
set_small b (x ∷ l) (suc p) v h s zero = s zero
set_small b (x ∷ l) (suc p) v h s (suc i) = set_small b l p v h (λ j. s (suc j)) i

frames_small : (n card state k : ℕ) (frs : List Frame) (r : Readout) → Formed n frs → ((i : ℕ) → get_or r.changes i 0 < 16 ^ 8) → (i : ℕ) → get_or (lay_frames card state k frs r).changes i 0 < 16 ^ 8
frames_small n card state k [] r m s i = s i
frames_small n card state k (fr ∷ frs) r m s i = frames_small n card (state + 1) (k + 1) frs (lay_frame card state k fr r) m.2 (set_small (16 ^ 8) r.changes (ring_place card state) fr.change m.1 s) i

zeros_small : (k i : ℕ) → get_or {A = ℕ} (replicate k 0) i 0 < 16 ^ 8
zeros_small k i = omega (arith, zeros k i)

-- the sheet laid into the read-out of zeros
module _ (n : ℕ) (p : Page) (formed : Formed n p.frames) (session : p.header.session < 16 ^ 8) (is_card_lem : p.header.card < 16) where
  pub sessions_small : (c : ℕ) → get_or (lay_page p no_readout).sessions c 0 < 16 ^ 8
  sessions_small c =
      rw (frames_heads p.header.card is_card_lem (p.header.base + 1) 0 p.frames (lay_header p.header no_readout)).0
      (set_small (16 ^ 8) no_readout.sessions p.header.card p.header.session session (λ i. zeros_small 16 i) c)

  pub changes_small : (i : ℕ) → get_or (lay_page p no_readout).changes i 0 < 16 ^ 8
  changes_small i = frames_small n p.header.card (p.header.base + 1) 0 p.frames (lay_header p.header no_readout) formed (λ j. zeros_small 768 j) i
