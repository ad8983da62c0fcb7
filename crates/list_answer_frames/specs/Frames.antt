-- The text of `frames`: what the states in hand of a card hang on, as the cabinet's model has it.
use Rattle.std.specs.Prelude.{ℕ, suc, ◌+◌, ◌-◌, cond, List, [], ◌∷◌, ◌++◌}
use Rattle.base_limits.specs.Document.{most_cards}
use Rattle.base_laws.specs.Below.{tabulate, selected}
use Rattle.base_refusal.specs.declared.Refusal.TheVariants.{NoSuchCard, BadCabinet}
use Rattle.theory_protocol.specs.Model.{Limits, Model, is_card}
use Rattle.theory_protocol.specs.Valid.{valid}
use Rattle.sheet_lines.specs.declared.Frame.{Frame}
use Rattle.sheet_pages.specs.Ring.{ring_frame}
use Rattle.cabinet_layout.specs.Shape.{limits16, at, present_of}
use Rattle.base_lines.specs.Lines.{text_line, joined}
use Rattle.list_answer_entries.specs.Entries.{frame_text}
use Rattle.list_answer_words.specs.Words.{refused_text}

abbrev pub frames_word : List ℕ
frames_word = 102 ∷ 114 ∷ 97 ∷ 109 ∷ 101 ∷ 115 ∷ []

-- the line of state x of card c: the change that made it, and of its vector the entry of each card of the cabinet
abbrev pub state_text : Limits → Model → (c x : ℕ) → List ℕ
state_text L m c x = frame_text x (m.memory.change c x) (selected L.width m.present (m.memory.frame c x))

-- `frames N`, then a line for each state from base + 1 to reached
abbrev pub frames_text : Limits → Model → ℕ → List ℕ
frames_text L m c =
    let n : ℕ = m.numbers.reached c - m.numbers.base c in
    text_line frames_word (n ∷ []) ++ joined (tabulate n (λ k. state_text L m c (suc (m.numbers.base c + k))))

-- "`refused 2` for a card that is not there", after 28, as of a call
abbrev pub frames_answer : Limits → Model → ℕ → List ℕ
frames_answer L m c =
    cond (valid L m) (cond (is_card L m c) (frames_text L m c) (refused_text NoSuchCard)) (refused_text BadCabinet)

-- a state's line out of the ring of frames
abbrev pub ring_text : (changes entries : List ℕ) → (cards c x : ℕ) → List ℕ
ring_text changes entries cards c x =
    let f : Frame = ring_frame changes entries most_cards c x in
    frame_text x f.change (selected limits16.width (present_of cards) (at f.entries))
