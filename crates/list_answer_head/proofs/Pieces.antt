-- The first line of show, piece by piece. Assumes nothing.
use mathlib.Core.Path.{◌≡◌, ◌∙◌}
use mathlib.Core.List.{[], ◌∷◌, ◌++◌, append_assoc}
use Rattle.cabinet_layout.specs.declared.Head.{Head}
use Rattle.base_lines.specs.Lines.{spaced, text_line}
use Rattle.list_answer_head.specs.First.{session_word, cards_word, phase_name, head_text}

pub head_as : (h : Head) → (((((session_word ++ spaced (h.session ∷ [])) ++ (32 ∷ [])) ++ phase_name h.phase) ++ (32 ∷ [])) ++ text_line cards_word (h.cards ∷ [])) ≡ head_text h
head_as h =
    append_assoc ((((session_word ++ spaced (h.session ∷ [])) ++ (32 ∷ [])) ++ phase_name h.phase)) (32 ∷ []) (text_line cards_word (h.cards ∷ []))
    ∙ append_assoc ((session_word ++ spaced (h.session ∷ [])) ++ (32 ∷ [])) (phase_name h.phase) (32 ∷ text_line cards_word (h.cards ∷ []))
    ∙ append_assoc (session_word ++ spaced (h.session ∷ [])) (32 ∷ []) (phase_name h.phase ++ (32 ∷ text_line cards_word (h.cards ∷ [])))
    ∙ append_assoc session_word (spaced (h.session ∷ [])) (32 ∷ (phase_name h.phase ++ (32 ∷ text_line cards_word (h.cards ∷ []))))
