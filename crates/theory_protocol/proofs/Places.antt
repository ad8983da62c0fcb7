-- The open changes of a cabinet against the history: what is known of each slot, and how one slot is written anew. Assumes nothing.
use Prim.Native.Nat.{ℕ, ◌+◌, ◌≤◌, ◌<◌}
use mathlib.Core.Path.{◌≡◌, sym, ◌∙◌}
use mathlib.Core.Bool.{true, false}
use mathlib.Core.Logic.{by_cases}
use native.Mathlib.Decide.{ℕ_discrete}
use Rattle.theory_history.specs.Change.{CardSet, History, Numbers, touches, meets}
use Rattle.theory_history.specs.Vector.{vector}
use Rattle.theory_protocol.specs.Model.{Limits, OpenChange, is_open, decided, to_write}
use Rattle.theory_protocol.specs.Edit.{put}
use Rattle.theory_protocol.specs.Journal.{Noted, asked}
use Rattle.theory_protocol.proofs.Taking.{Took, put_same, put_other}

-- of any open change: its number was given, it touches cards that are there, and a card that it has yet to write has room
pub record Opened (L : Limits) (present : CardSet) (base reached : Numbers) (latest : ℕ) (o : OpenChange) : Type 0 where
  pub given : o.change.number ≤ latest
  pub there : (c : ℕ) → c < L.width → touches o.change c ≡ true → present c ≡ true
  pub room : (c : ℕ) → c < L.width → to_write o c ≡ true → (reached c < base c + L.in_hand) × (reached c < L.greatest_state)

-- a decided one stands at position i of the history
pub record Stood (w : ℕ) (H : History) (start : Numbers) (n : ℕ) (took : Took) (o : OpenChange) (i : ℕ) : Type 0 where
  pub in_history : i < n
  pub change_is : H i ≡ o.change
  pub taken_is : (c : ℕ) → c < w → took i c ≡ o.taken c
  pub vector_is_lem : (j : ℕ) → j < w → o.vector j ≡ vector w H start i j

-- an undecided one: no share is taken, it has no vector yet, and every change of the history that meets it on a card has been taken there and has a lower number
pub record Waits (w : ℕ) (H : History) (n : ℕ) (took : Took) (o : OpenChange) : Type 0 where
  pub untaken : (c : ℕ) → c < w → o.taken c ≡ false
  pub blank : (j : ℕ) → j < w → o.vector j ≡ 0
  pub met_taken : (i c : ℕ) → i < n → c < w → meets (H i) o.change c ≡ true → took i c ≡ true
  pub met_lower : (i c : ℕ) → i < n → c < w → meets (H i) o.change c ≡ true → (H i).number < o.change.number
  pub unlike : (i : ℕ) → i < n → ¬ ((H i).number ≡ o.change.number)

-- what does not speak of the history
pub record Open (L : Limits) (present : CardSet) (base reached : Numbers) (latest : ℕ) (undecided : ℕ → Noted) (place : ℕ → OpenChange) : Type 0 where
  pub opened : (p : ℕ) → p < L.slots → is_open (place p) ≡ true → Opened L present base reached latest (place p)
  pub noted : (p : ℕ) → p < L.slots → is_open (place p) ≡ true → decided L (place p) ≡ false → undecided (place p).change.number ≡ asked (place p).change (place p).yes
  pub apart : (p q : ℕ) → p < L.slots → q < L.slots → ¬ (p ≡ q) → is_open (place p) ≡ true → is_open (place q) ≡ true → ¬ ((place p).change.number ≡ (place q).change.number)
  pub strangers : (p q c : ℕ) → p < L.slots → q < L.slots → c < L.width → ¬ (p ≡ q) → is_open (place p) ≡ true → is_open (place q) ≡ true
      → decided L (place p) ≡ false → decided L (place q) ≡ false → meets (place p).change (place q).change c ≡ false

-- what does
pub record Standing (L : Limits) (H : History) (start : Numbers) (n : ℕ) (took : Took) (at : ℕ → ℕ) (place : ℕ → OpenChange) : Type 0 where
  pub stood : (p : ℕ) → p < L.slots → is_open (place p) ≡ true → decided L (place p) ≡ true → Stood L.width H start n took (place p) (at p)
  pub waits : (p : ℕ) → p < L.slots → is_open (place p) ≡ true → decided L (place p) ≡ false → Waits L.width H n took (place p)

-- ---- slot p anew
module _ (L : Limits) (place : ℕ → OpenChange) (p : ℕ) (o : OpenChange) where
  pub standing_put : {H : History} {start : Numbers} {n : ℕ} {took : Took} {at : ℕ → ℕ} (i : ℕ)
      → ((q : ℕ) → q < L.slots → ¬ (q ≡ p) → is_open (place q) ≡ true → decided L (place q) ≡ true → Stood L.width H start n took (place q) (at q))
      → ((q : ℕ) → q < L.slots → ¬ (q ≡ p) → is_open (place q) ≡ true → decided L (place q) ≡ false → Waits L.width H n took (place q))
      → (is_open o ≡ true → decided L o ≡ true → Stood L.width H start n took o i)
      → (is_open o ≡ true → decided L o ≡ false → Waits L.width H n took o)
      → Standing L H start n took (put at p i) (put place p o)
  standing_put {H} {start} {n} {took} {at} i s w s' w' =
      record {
        stood = λ q l. by_cases (ℕ_discrete q p)
            (λ (e : q ≡ p). rw (e, put_same place p o, put_same at p i) s')
            (λ e. rw (put_other place p o q e, put_other at p i q e) (s q l e));
        waits = λ q l. by_cases (ℕ_discrete q p)
            (λ (e : q ≡ p). rw (e, put_same place p o) w')
            (λ e. rw (put_other place p o q e) (w q l e));
      }

  pub open_put : {present : CardSet} {base reached : Numbers} {latest : ℕ} {undecided : ℕ → Noted}
      → ((q : ℕ) → q < L.slots → ¬ (q ≡ p) → is_open (place q) ≡ true → Opened L present base reached latest (place q))
      → ((q : ℕ) → q < L.slots → ¬ (q ≡ p) → is_open (place q) ≡ true → decided L (place q) ≡ false → undecided (place q).change.number ≡ asked (place q).change (place q).yes)
      → ((q r : ℕ) → q < L.slots → r < L.slots → ¬ (q ≡ r) → is_open (place q) ≡ true → is_open (place r) ≡ true → ¬ ((place q).change.number ≡ (place r).change.number))
      → ((q r c : ℕ) → q < L.slots → r < L.slots → c < L.width → ¬ (q ≡ r) → is_open (place q) ≡ true → is_open (place r) ≡ true
      → decided L (place q) ≡ false → decided L (place r) ≡ false → meets (place q).change (place r).change c ≡ false)
      → (is_open o ≡ true → Opened L present base reached latest o)
      → (is_open o ≡ true → decided L o ≡ false → undecided o.change.number ≡ asked o.change o.yes)
      → (is_open o ≡ true → (q : ℕ) → q < L.slots → ¬ (q ≡ p) → is_open (place q) ≡ true → ¬ ((place q).change.number ≡ o.change.number))
      → (is_open o ≡ true → decided L o ≡ false → (q c : ℕ) → q < L.slots → c < L.width → ¬ (q ≡ p) → is_open (place q) ≡ true → decided L (place q) ≡ false
      → (meets (place q).change o.change c ≡ false) × (meets o.change (place q).change c ≡ false))
      → Open L present base reached latest undecided (put place p o)
  open_put {present} {base} {reached} {latest} {undecided} a b d e a' b' d' e' =
      record {
        opened = λ q l. by_cases (ℕ_discrete q p) (λ (z : q ≡ p). rw (z, put_same place p o) a') (λ z. rw (put_other place p o q z) (a q l z));
        noted = λ q l. by_cases (ℕ_discrete q p) (λ (z : q ≡ p). rw (z, put_same place p o) b') (λ z. rw (put_other place p o q z) (b q l z));
        apart = apart;
        strangers = strangers;
      }
    where
      apart : (q r : ℕ) → q < L.slots → r < L.slots → ¬ (q ≡ r) → is_open (put place p o q) ≡ true → is_open (put place p o r) ≡ true → ¬ ((put place p o q).change.number ≡ (put place p o r).change.number)
      apart q r lq lr ne =
          by_cases (ℕ_discrete q p)
          (λ (z : q ≡ p). by_cases (ℕ_discrete r p) (λ (y : r ≡ p). absurd (ne (z ∙ sym y)))
          (λ y. rw (z, put_same place p o, put_other place p o r y) (λ oo or s. d' oo r lr y or (sym s))))
          (λ z. by_cases (ℕ_discrete r p) (λ (y : r ≡ p). rw (y, put_same place p o, put_other place p o q z) (λ oq oo s. d' oo q lq z oq s))
          (λ y. rw (put_other place p o q z, put_other place p o r y) (d q r lq lr ne)))

      strangers : (q r c : ℕ) → q < L.slots → r < L.slots → c < L.width → ¬ (q ≡ r) → is_open (put place p o q) ≡ true → is_open (put place p o r) ≡ true
          → decided L (put place p o q) ≡ false → decided L (put place p o r) ≡ false → meets (put place p o q).change (put place p o r).change c ≡ false
      strangers q r c lq lr lc ne =
          by_cases (ℕ_discrete q p)
          (λ (z : q ≡ p). by_cases (ℕ_discrete r p) (λ (y : r ≡ p). absurd (ne (z ∙ sym y)))
          (λ y. rw (z, put_same place p o, put_other place p o r y) (λ oo or u dr. (e' oo u r c lr lc y or dr).1)))
          (λ z. by_cases (ℕ_discrete r p) (λ (y : r ≡ p). rw (y, put_same place p o, put_other place p o q z) (λ oq oo dq u. (e' oo u q c lq lc z oq dq).0))
          (λ y. rw (put_other place p o q z, put_other place p o r y) (e q r c lq lr lc ne)))
