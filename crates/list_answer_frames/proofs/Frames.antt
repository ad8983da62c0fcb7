-- Laws of the text of frames: the ring has what the model says. Assumes nothing.
use Prim.Native.Nat.{ℕ, zero, suc, ◌+◌, ◌-◌, ◌<◌}
use mathlib.Core.Path.{◌≡◌, refl, sym, ◌∙◌, ap, ap₂}
use mathlib.Core.Bool.{Bool, true, false, cond}
use mathlib.Core.List.{List, [], ◌∷◌, ◌++◌}
use native.Mathlib.Nat.{le_step, lt-suc_self}
use native.Mathlib.Omega.{arith}
use borrow.Author.Tests.{lt-ltb, le-leb, ltb-true}
use Rattle.base_laws.specs.Below.{tabulate, selected}
use Rattle.base_laws.proofs.Logic.{cond_true, cond_false, and_left, and_intro}
use Rattle.base_laws.proofs.Fill.{tabulate_same, get_d_tabulate}
use Rattle.theory_history.specs.Vector as history
use Rattle.theory_history.specs.Vector.{no_entries}
use Rattle.theory_protocol.specs.Model.{Model, is_card}
use Rattle.theory_protocol.specs.Valid.{valid}
use Rattle.base_refusal.specs.declared.Refusal.TheVariants.{NoSuchCard, BadCabinet}
use Rattle.sheet_lines.specs.declared.Frame.{Frame}
use Rattle.sheet_pages.specs.Ring as frames
use Rattle.sheet_page_writer.specs.Write.{held_frame}
use Rattle.sheet_lines.specs.Lines.{no_frame}
use Rattle.cabinet_layout.specs.declared.Core.{Core}
use Rattle.cabinet_layout.specs.Shape.{limits16, at, present_of, in_hand, frame_in_hand, ring_change, ring_frame, truncate, model_of}
use Rattle.cabinet_layout.proofs.Limits.{width16}
use Rattle.base_lines.specs.Lines.{text_line, joined}
use Rattle.list_answer_entries.specs.Entries.{frame_text}
use Rattle.list_answer_words.specs.Words.{refused_text}
use Rattle.list_answer_frames.specs.Frames.{frames_word, state_text, frames_text, frames_answer, ring_text}

-- a frame that is the ring's
pub ring_as : (changes entries : List ℕ) (cards c x y : ℕ) (f : Frame) → c < 16 → f ≡ held_frame changes entries c x → x ≡ y
    → frame_text x f.change (selected limits16.width (present_of cards) (at f.entries)) ≡ ring_text changes entries cards c y
ring_as changes entries cards c x y f h e z =
    ap (λ (g : Frame). frame_text x g.change (selected limits16.width (present_of cards) (at g.entries))) (e ∙ cond_true (frames.ring_frame changes entries 16 c x) no_frame (lt-ltb c 16 h)) ∙ ap (ring_text changes entries cards c) z

-- ---- the ring has the frames in hand

selected_same : {A : Type 0} (n : ℕ) (p : ℕ → Bool) (f g : ℕ → A) → ((k : ℕ) → k < n → f k ≡ g k) → selected n p f ≡ selected n p g
selected_same zero p f g e = refl
selected_same {A} (suc n) p f g e = ap₂ (λ (l : List A) (x : A). l ++ cond (p n) (x ∷ []) []) (selected_same n p f g (λ k h. e k (le_step h))) (e n (lt-suc_self n))

module _ (entries changes : List ℕ) (core : Core) (c : ℕ) where
  abbrev m : Model
  m = model_of entries changes core

  abbrev base : ℕ
  base = at core.base c

  abbrev reached : ℕ
  reached = at core.reached c

  in_hand_lem : (k : ℕ) → k < reached - base → in_hand core.base core.reached c (suc (base + k)) ≡ true
  in_hand_lem k h = and_intro (lt-ltb base (suc (base + k)) (omega arith)) (le-leb (suc (base + k)) reached (omega arith))

  state_as : (k : ℕ) → k < reached - base → ring_text changes entries core.head.cards c (suc (base + k)) ≡ state_text limits16 m c (suc (base + k))
  state_as k h =
      let x : ℕ = suc (base + k) in
      ap₂ (λ (a : ℕ) (l : List ℕ). frame_text x a l) (sym (cond_true (ring_change changes c x) 0 (in_hand_lem k h)))
      (selected_same limits16.width (present_of core.head.cards) (at (tabulate 16 (ring_frame entries c x))) (frame_in_hand entries core.base core.reached c x) (λ j l. entry_as x (in_hand_lem k h) j l))
    where
      entry_as : (x : ℕ) → in_hand core.base core.reached c x ≡ true → (j : ℕ) → j < limits16.width → at (tabulate 16 (ring_frame entries c x)) j ≡ frame_in_hand entries core.base core.reached c x j
      entry_as x e j l =
          get_d_tabulate 16 (ring_frame entries c x) 0 j (omega (arith, width16))
          ∙ sym (ap (λ (v : history.Vector). v j) (cond_true (truncate (ring_frame entries c x)) no_entries e) ∙ cond_true (ring_frame entries c x j) 0 (lt-ltb j limits16.width l))

  frames_as : text_line frames_word ((reached - base) ∷ []) ++ joined (tabulate (reached - base) (λ k. ring_text changes entries core.head.cards c (suc (base + k)))) ≡ frames_text limits16 m c
  frames_as =
      ap (λ (l : List (List ℕ)). text_line frames_word ((reached - base) ∷ []) ++ joined l)
      (tabulate_same (reached - base) (λ k. ring_text changes entries core.head.cards c (suc (base + k))) (λ k. state_text limits16 m c (suc (base + k))) state_as)

  -- ---- the answer, by what the checks say

  pub refused_28 : (whole : Bool) → whole ≡ valid limits16 m → whole ≡ false → refused_text BadCabinet ≡ frames_answer limits16 m c
  refused_28 whole e f = sym (cond_false _ _ (sym e ∙ f))

  pub refused_2 : (whole there : Bool) → whole ≡ valid limits16 m → whole ≡ true → there ≡ is_card limits16 m c → there ≡ false → refused_text NoSuchCard ≡ frames_answer limits16 m c
  refused_2 whole there e t d f = sym (cond_true _ _ (sym e ∙ t) ∙ cond_false _ _ (sym d ∙ f))

  pub told_frames : (whole there : Bool) (low high count : ℕ) → whole ≡ valid limits16 m → whole ≡ true → there ≡ is_card limits16 m c → there ≡ true → low ≡ base → high ≡ reached → count ≡ high - low
      → text_line frames_word (count ∷ []) ++ joined (tabulate count (λ k. ring_text changes entries core.head.cards c (suc (low + k)))) ≡ frames_answer limits16 m c
  told_frames whole there low high count e t d f p q r =
      ap₂ (λ (n k : ℕ). text_line frames_word (n ∷ []) ++ joined (tabulate n (λ i. ring_text changes entries core.head.cards c (suc (k + i))))) (r ∙ ap₂ (λ (x y : ℕ). x - y) q p) p
      ∙ frames_as ∙ sym (cond_true _ _ (sym e ∙ t) ∙ cond_true _ _ (sym d ∙ f))

  pub card_below : (there : Bool) → there ≡ is_card limits16 m c → there ≡ true → c < 16
  card_below there d f = let l : c < limits16.width = ltb-true c limits16.width (and_left _ _ (sym d ∙ f)) in omega (arith, width16)
