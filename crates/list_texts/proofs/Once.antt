-- Two runs of one list: one text. Assumes nothing.
use Rattle.std.specs.Prelude.{Option, Some, None}
use Prim.Native.Nat.{ℕ, suc, ◌+◌, ◌<◌, ◌≤◌}
use mathlib.Core.Path.{◌≡◌, refl, sym, ◌∙◌, ap, ap₂, subst₂}
use mathlib.Core.List.{List, ◌++◌}
use mathlib.Core.Logic.{by_cases}
use native.Mathlib.Decide.{dec_le}
use native.Mathlib.Omega.{arith}
use Rattle.list_commands.specs.declared.Command.{Command}
use Rattle.list_parse.specs.Lines.{token_at}
use Rattle.list_results.specs.declared.Replay.{Replay}
use Rattle.list_results.specs.Step.{Steps}
use Rattle.list_texts.proofs.Same.{Alike, steps_alike}
use Rattle.list_texts.specs.Steps.{Ran, no_line, one_more}

-- what a line says, and where the next one begins
abbrev said_of : Option (Command × ℕ) → Command → Command
said_of (Some (said, place)) other = said
said_of None other = other

abbrev place_of : Option (Command × ℕ) → ℕ
place_of (Some (said, place)) = place
place_of None = 0

module _ (s : List ℕ) (start : Replay) where
  abbrev lines : {a : ℕ} {r : Replay} {t : List ℕ} → Ran s start a r t → ℕ
  lines no_line = 0
  lines (one_more x said place h next u st) = suc (lines x)

  -- as many lines
  pub record Level (a b : ℕ) (r q : Replay) (t u : List ℕ) : Type 0 where
    pub place : a ≡ b
    pub replay : r ≡ q
    pub text : t ≡ u

  token_once : (a b : ℕ) (said said' : Command) (place place' : ℕ) → a ≡ b → Some (said, place) ≡ token_at s a → Some (said', place') ≡ token_at s b → (said' ≡ said) × (place ≡ place')
  token_once a b said said' place place' e h h' =
      let z : Some (said, place) ≡ Some (said', place') = h ∙ ap (token_at s) e ∙ sym h' in
      (sym (ap (λ (x : Option (Command × ℕ)). said_of x said) z), ap place_of z)

  further : (a b : ℕ) (r q : Replay) (t u : List ℕ) → Level a b r q t u → (said said' : Command) (place place' : ℕ) → Some (said, place) ≡ token_at s a → Some (said', place') ≡ token_at s b
      → (n m : Replay) (v w : List ℕ) → Steps said r n v → Steps said' q m w → Level place place' n m (t ++ v) (u ++ w)
  further a b r q t u l said said' place place' h h' n m v w st st' =
      let c : (said' ≡ said) × (place ≡ place') = token_once a b said said' place place' l.place h h' in
      let k : Alike n m v w = steps_alike said r st (subst₂ (λ (x : Command) (y : Replay). Steps x y m w) c.0 (sym l.replay) st') in
      record {
        place = c.1;
        replay = k.same;
        text = ap₂ (λ (x y : List ℕ). x ++ y) l.text k.text;
      }

  level : {a : ℕ} {r : Replay} {t : List ℕ} {b : ℕ} {q : Replay} {u : List ℕ} (x : Ran s start a r t) (y : Ran s start b q u) → lines x ≡ lines y → Level a b r q t u
  level no_line no_line e = record { place = refl; replay = refl; text = refl }
  level no_line (one_more y said place h next u st) e = absurd (omega arith)
  level (one_more x said place h next v st) no_line e = absurd (omega arith)
  level (one_more x said place h next v st) (one_more y said' place' h' next' v' st') e =
      further _ _ _ _ _ _ (level x y (omega arith)) said said' place place' h h' next next' v v' st st'

  -- a list that has ended goes no further
  longer : {a : ℕ} {r : Replay} {t : List ℕ} {b : ℕ} {q : Replay} {u : List ℕ} (x : Ran s start a r t) (y : Ran s start b q u) → lines x < lines y → token_at s a ≡ None → ⊥
  longer x no_line l e = omega arith
  longer x (one_more y said place h next u st) l e =
      by_cases (dec_le (lines y) (lines x))
      (λ (g : lines y ≤ lines x).
      let k : lines x ≡ lines y = omega arith in
      let z : Some (said, place) ≡ None = h ∙ ap (token_at s) (sym (level x y k).place) ∙ e in
      let o : ◌≡◌ {A = ℕ} 0 1 = cc in
      omega arith)
      (λ (g : lines y ≤ lines x → ⊥). longer x y (omega arith) e)

  pub same_text : {a : ℕ} {r : Replay} {t : List ℕ} {b : ℕ} {q : Replay} {u : List ℕ} (x : Ran s start a r t) (y : Ran s start b q u) → token_at s a ≡ None → token_at s b ≡ None → t ≡ u
  same_text x y e f =
      by_cases (dec_le (lines x) (lines y))
      (λ (g : lines x ≤ lines y).
      by_cases (dec_le (lines y) (lines x))
      (λ (h : lines y ≤ lines x). (level x y (omega arith)).text)
      (λ (h : lines y ≤ lines x → ⊥). absurd (longer x y (omega arith) e)))
      (λ (g : lines x ≤ lines y → ⊥). absurd (longer y x (omega arith) f))
