-- What the writer of a sheet answers and leaves in the buffer.
use Rattle.base_refusal.specs.declared.Refusal.{Refusal}
use Rattle.std.specs.Prelude.{ℕ, suc, ◌+◌, cond, List, leb, ltb, length, Result, Ok, Err}
use Rattle.std.proofs.lemmas.List.Edits.{sets}
use Rattle.base_limits.specs.Document.{most_cards}
use Rattle.base_laws.specs.Below.{tabulate}
use Rattle.base_refusal.specs.declared.Refusal.TheVariants.{TooShort}
use Rattle.base_refusal.specs.Reply.{Reply}
use Rattle.sheet_lines.specs.declared.Header.{Header}
use Rattle.sheet_lines.specs.declared.Frame.{Frame}
use Rattle.sheet_lines.specs.Lines.{no_frame}
use Rattle.sheet_pages.specs.Pages.{Page}
use Rattle.sheet_pages.specs.Ring.{ring_frame}

-- what a writer answers, and the buffer behind it
pub record Wrote : Type 0 where
  pub answer : Result ℕ Refusal
  pub buffer : List ℕ

-- the bytes at the front of the buffer, where they are to be written and it is long enough for the whole; else the buffer as it was
abbrev pub wrote_bytes : Reply → List ℕ → List ℕ → Wrote
wrote_bytes (Err r) bytes buffer = record { answer = Err r; buffer = buffer }
wrote_bytes (Ok _) bytes buffer =
    cond (leb (length bytes) (length buffer)) (record { answer = Ok (length bytes); buffer = sets buffer 0 bytes }) (record { answer = Err TooShort; buffer = buffer })

-- the frame of state x of card c, with all 16 entries of its place; zeros of a card that the ring has no place for
abbrev pub held_frame : (changes entries : List ℕ) → (c x : ℕ) → Frame
held_frame changes entries c x = cond (ltb c most_cards) (ring_frame changes entries most_cards c x) no_frame

-- the sheet that a ring holds for a header, each frame with all 16 entries of its place: as many are looked at as there are cards
abbrev pub ring_rows : (changes entries : List ℕ) → Header → Page
ring_rows changes entries h = record { header = h; frames = tabulate h.count (λ k. ring_frame changes entries most_cards h.card (suc (h.base + k))) }
