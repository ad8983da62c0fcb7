-- A sheet that declares more frames than it has is refused by what stands where the next frame is due; for any format. Assumes nothing.
use Rattle.std.specs.Prelude.{Err}
use Prim.Native.Nat.{ℕ, ◌+◌, ◌-◌}
use mathlib.Core.Path.{◌≡◌, ◌∙◌, ap}
use mathlib.Core.Bool.{Bool, cond}
use mathlib.Core.List.{List, ◌++◌}
use native.Mathlib.Omega.{arith}
use Rattle.base_refusal.specs.declared.Refusal.{Refusal}
use Rattle.sheet_lines.specs.declared.Header.{Header}
use Rattle.sheet_lines.specs.declared.Frame.{Frame}
use Rattle.sheet_lines.specs.Format.{Format, Formats}
use Rattle.sheet_lines.specs.Lines.{cards_of, format_for, start_of, no_frame}
use Rattle.sheet_lines.proofs.Passed.{header_limits}
use Rattle.sheet_line_round.proofs.Round.{Valid, told_again, header_back, header_rest, header_accepted}
use Rattle.sheet_pages.specs.Pages.{frames_bytes, frames_of, Sheets, sheet_in, read_sheet, more_sheets, read_sheets}
use Rattle.sheet_pages.specs.Allowed.{Fewer, next_verdict, short_bytes}
use Rattle.sheet_pages.proofs.Round.{AllValid, frames_short}

module _ (F : Formats) (all_valid : AllValid F) (due first : ℕ) (h : Header) (frs : List Frame) (rest : List ℕ) (r : Refusal) (x : Fewer (format_for F h) due first h frs) (v : next_verdict (format_for F h) h frs rest ≡ Err r) where
  abbrev f : Format
  f = format_for F h

  s : Valid (format_for F h)
  s = all_valid h.cards

  abbrev behind : List ℕ
  behind = frames_bytes f (start_of f h) (cards_of f h) (h.base + 1) frs ++ rest

  frames_fewer : frames_of f h (short_bytes f h frs rest) ≡ record { frames = frs; verdict = Err r; rest = rest }
  frames_fewer =
      let l = header_limits f due first h x.header in
      let c = x.count in
      rw (header_rest f s due first h behind x.header x.session)
      (frames_short f s (start_of f h) (s.first h.card h.session) (s.second h.card h.session) h.card (cards_of f h) frs h.count (h.base + 1) no_frame rest c x.frames x.formed (omega (arith, l.states)) v)

  in_format : (next : ℕ → List ℕ → Sheets) → (sheet_in f due first next (short_bytes f h frs rest)).verdict ≡ Err r
  in_format next = rw (header_accepted f s due first h behind x.header x.session, header_back f s due first h behind x.header x.session, frames_fewer)

  pub sheet_short : (next : ℕ → List ℕ → Sheets) → (read_sheet F due first next (short_bytes f h frs rest)).verdict ≡ Err r
  sheet_short next = ap (λ (g : Format). (sheet_in g due first next (short_bytes f h frs rest)).verdict) (told_again F f (short_bytes f h frs rest) (header_back f s due first h behind x.header x.session)) ∙ in_format next

-- where the first sheet is so short
pub first_short :
    (F : Formats) → AllValid F → (all : Bool) (due : ℕ) (h : Header) (frs : List Frame) (rest : List ℕ) (r : Refusal) →
    Fewer (format_for F h) due 0 h frs →
    next_verdict (format_for F h) h frs rest ≡ Err r →
    (read_sheets F all due (short_bytes (format_for F h) h frs rest)).verdict ≡ Err r
unfolding read_sheets
first_short F s all due h frs rest r x v = sheet_short F s due 0 h frs rest r x v (λ cards rest. more_sheets F (cond all (cards - 1) 0) (due + 1) cards rest)
