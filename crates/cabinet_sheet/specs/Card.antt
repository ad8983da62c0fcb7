-- A card's sheet out of a cabinet held in lists, and what its writer answers and leaves in the buffer.
use Rattle.base_refusal.specs.declared.Refusal.{Refusal}
use Rattle.std.specs.Prelude.{ℕ, ◌+◌, ◌≤◌, ◌<◌, ◌≡◌, Bool, true, not, List, [], length, take, Result, Ok, Err}
use Rattle.std.proofs.lemmas.List.Edits.{sets}
use Rattle.base_limits.specs.Document.{most_cards, most_in_hand, last_state, last_number}
use Rattle.sheet_lines.specs.Format.{formats}
use Rattle.sheet_pages.specs.Pages.{page_bytes}
use Rattle.theory_protocol.specs.Model.{Model, is_rolling}
use Rattle.theory_protocol.specs.Plan.{done, opened, safe, unsafe, fixed, written, Plan, checked, accepted, refused}
use Rattle.theory_protocol.specs.Plan as plan
use Rattle.theory_protocol.specs.Codec.{sheet_checks}
use Rattle.theory_codec.specs.Sheets.{sheet_of, codec}
use Rattle.cabinet_layout.specs.declared.Head.{Head}
use Rattle.cabinet_layout.specs.Shape.{limits16, phase_of, at, bare, with_numbers, with_line, model_of}
use Rattle.cabinet_layout.specs.Answers.{after28}

-- what a cabinet that passes 28 shows of its head, and of the numbers of card c where it is there
pub record Within (h : Head) (base stored : List ℕ) (c : ℕ) : Type 0 where
  pub session : h.session ≡ 0 → ⊥
  pub next : is_rolling (phase_of h.phase) ≡ true → h.session ≡ last_number → ⊥
  pub cards : h.cards ≤ most_cards
  pub low : c < h.cards → at base c ≤ at stored c
  pub high : c < h.cards → at stored c ≤ at base c + most_in_hand
  pub top : c < h.cards → at stored c ≤ last_state

-- the parts of a cabinet that a sheet is made of: no frame above stored is looked at
abbrev pub sheet_model : (entries changes : List ℕ) → Head → (rolled : ℕ) (base stored : List ℕ) → Model
sheet_model entries changes h rolled base stored = model_of entries changes (with_line (with_numbers (bare h) base stored [] stored) [] rolled)

-- the plan of sheet writing for a cabinet that was found to pass 28 or not
abbrev pub sheet_plan_for : Bool → Model → (card places : ℕ) → Plan
sheet_plan_for whole m c places = checked (after28 (not whole) (sheet_checks codec limits16 m c places)) (written (page_bytes formats (sheet_of limits16 m c))) []

-- the answer in document 01's values: so many of the buffer's first bytes are the sheet
abbrev pub sheet_reply_of : List ℕ → Result ℕ Refusal → plan.Reply
sheet_reply_of buffer (Ok k) = accepted (written (take k buffer))
sheet_reply_of buffer (Err r) = refused r

-- the length answered, and 0 with a refusal
abbrev pub length_told : Result ℕ Refusal → ℕ
length_told (Ok k) = k
length_told (Err r) = 0

-- the buffer after the call: "buffer bytes beyond it keep what they held"
abbrev pub buffer_after : plan.Reply → List ℕ → List ℕ
buffer_after (accepted (written bytes)) b = sets b 0 bytes
buffer_after (accepted done) b = b
buffer_after (accepted (opened k)) b = b
buffer_after (accepted safe) b = b
buffer_after (accepted unsafe) b = b
buffer_after (accepted (fixed rows lost)) b = b
buffer_after (refused r) b = b

-- what the writer of a sheet answers and leaves in the buffer, by its plan
pub record SheetResult (p : Plan) (before after : List ℕ) (reply : (Result ℕ Refusal)) : Type 0 where
  pub answer : sheet_reply_of after reply ≡ p.reply
  pub inside : length_told reply ≤ length after
  pub buffer : after ≡ buffer_after p.reply before
