-- No cabinet has more lost changes than it can hold frames and ended changes, so lists of that many places are never too short. Assumes nothing.
use Prim.Native.Nat.{ℕ, zero, suc, ◌+◌, ◌*◌, ◌-◌, ◌≤◌, ◌<◌, zero-le}
use mathlib.Core.Path.{◌≡◌, refl, sym, ◌∙◌, ap, ap₂}
use mathlib.Core.Bool.{Bool, true, false, not, ◌&&◌, ◌||◌, cond}
use mathlib.Core.Logic.{⊎_elim}
use mathlib.Core.List.{List, [], ◌∷◌, ◌++◌}
use native.Mathlib.Nat.{suc-mul}
use native.Mathlib.Omega.{arith}
use lib.Dec.{eqb, leb, ltb}
use lib.ListN.{length, length-append}
use borrow.Author.Tests.{eq-eqb, eqb-true, ltb-true}
use Rattle.base_laws.specs.Below.{one_if, any_below, tabulate, selected, occurs}
use Rattle.base_laws.proofs.Logic.{test, cond_case, and_left, and_right, or_elim}
use Rattle.base_laws.proofs.Below.{Found, any_elim, below_suc, occurs_append}
use Rattle.base_laws.proofs.Fill.{length_tabulate}
use Rattle.theory_history.proofs.Climb.{line_climbed}
use Rattle.base_refusal.specs.declared.Refusal.{Refusal}
use Rattle.base_refusal.specs.declared.Refusal.TheVariants.{TooShort, WrongPhase, LimitReached, BadCabinet, WriteUnreported}
use Rattle.base_refusal.specs.Number.{number_of}
use Rattle.theory_protocol.specs.Model.{Limits, Model, is_down}
use Rattle.theory_protocol.specs.Valid.{valid}
use Rattle.theory_protocol.specs.Plan.{CardRow, Reply, accepted, refused, Plan}
use Rattle.theory_protocol.specs.Calls.{frame_above, some_frame_above, recovery_line, is_lost, lost_numbers, some_writing, card_rows}
use Rattle.theory_protocol.specs.Room.{most_lost, FewLost, NeverShort}
use Rattle.theory_protocol.proofs.Steps.{not_not}
use Rattle.theory_protocol.proofs.Claims.{not_both}
use Rattle.theory_protocol.proofs.Listed.{lost_listed}
use Rattle.theory_protocol.proofs.Passed.{NumbersPassed, passed}

-- ---- a list is no longer than one that has each of its numbers as often
-- the list without the first k in it
abbrev without : ℕ → List ℕ → List ℕ
without k [] = []
without k (x ∷ xs) = cond (eqb x k) xs (x ∷ without k xs)

without_length : (k : ℕ) (xs : List ℕ) → 0 < occurs k xs → suc (length (without k xs)) ≡ length xs
without_length k [] h = absurd (omega arith)
without_length k (x ∷ xs) h =
    test (eqb x k) (λ e. rw e)
    (λ e. rw e (ap suc (without_length k xs (omega (arith, ap one_if e)))))

without_occurs : (j k : ℕ) (xs : List ℕ) → occurs j xs ≤ occurs j (without k xs) + one_if (eqb k j)
without_occurs j k [] = zero-le
without_occurs j k (x ∷ xs) =
    test (eqb x k) (λ e. rw e (omega (arith, ap (λ (i : ℕ). one_if (eqb i j)) (eqb-true x k e))))
    (λ e. rw e (omega (arith, without_occurs j k xs)))

no_longer : (xs ys : List ℕ) → ((k : ℕ) → occurs k xs ≤ occurs k ys) → length xs ≤ length ys
no_longer [] ys h = zero-le
no_longer (x ∷ xs) ys h =
    let q : one_if (eqb x x) ≡ 1 = ap one_if (eq-eqb x x refl) in
    let l : length xs ≤ length (without x ys) = no_longer xs (without x ys) (λ k. omega (arith, h k, without_occurs k x ys)) in
    omega (arith, without_length x ys (omega (arith, h x, q)), l)

-- ---- the numbers in a table, and in tables joined
tabulate_has : (n : ℕ) (f : ℕ → ℕ) (i k : ℕ) → i < n → f i ≡ k → 0 < occurs k (tabulate n f)
tabulate_has zero f i k h e = absurd (omega arith)
tabulate_has (suc n) f i k h e =
    let a : occurs k (tabulate n f ++ (f n ∷ [])) ≡ occurs k (tabulate n f) + occurs k (f n ∷ []) = occurs_append k (tabulate n f) (f n ∷ []) in
    ⊎_elim (λ (q : i ≡ n). omega (arith, a, ap one_if (eq-eqb (f n) k (ap f (sym q) ∙ e))))
    (λ (l : i < n). omega (arith, a, tabulate_has n f i k l e)) (below_suc h)

abbrev joined : ℕ → (ℕ → List ℕ) → List ℕ
joined zero f = []
joined (suc n) f = joined n f ++ f n

joined_has : (n : ℕ) (f : ℕ → List ℕ) (i k : ℕ) → i < n → 0 < occurs k (f i) → 0 < occurs k (joined n f)
joined_has zero f i k h o = absurd (omega arith)
joined_has (suc n) f i k h o =
    let a : occurs k (joined n f ++ f n) ≡ occurs k (joined n f) + occurs k (f n) = occurs_append k (joined n f) (f n) in
    ⊎_elim (λ (q : i ≡ n). omega (arith, a, o, ap (λ (x : ℕ). occurs k (f x)) q))
    (λ (l : i < n). omega (arith, a, joined_has n f i k l o)) (below_suc h)

joined_length : (n d : ℕ) (f : ℕ → List ℕ) → ((i : ℕ) → length (f i) ≡ d) → length (joined n f) ≡ n * d
joined_length zero d f h = omega arith
joined_length (suc n) d f h = length-append (joined n f) (f n) ∙ ap₂ (λ (a b : ℕ). a + b) (joined_length n d f h) (h n) ∙ sym (suc-mul n d)

selected_short : {A : Type 0} (n : ℕ) (p : ℕ → Bool) (f : ℕ → A) → length (selected n p f) ≤ n
selected_short zero p f = zero-le
selected_short (suc n) p f = omega (arith, selected_short n p f, length-append (selected n p f) (cond (p n) (f n ∷ []) []), last (p n))
  where
    last : (b : Bool) → length (cond b (f n ∷ []) []) ≤ 1
    last true = omega arith
    last false = zero-le

-- ---- where the lost changes stand
module _ (L : Limits) (m : Model) where
  -- the frames that card c can hold, and the changes that a loss ended
  abbrev frames_of : ℕ → List ℕ
  frames_of c = tabulate L.in_hand (λ s. m.memory.change c (suc (m.numbers.base c + s)))

  abbrev holds : List ℕ
  holds = joined L.width frames_of ++ tabulate L.slots m.ended

  holds_length : length holds ≡ most_lost L
  holds_length =
      omega (
        arith,
        length-append (joined L.width frames_of) (tabulate L.slots m.ended),
        joined_length L.width L.in_hand frames_of (λ c. length_tabulate L.in_hand (λ s. m.memory.change c (suc (m.numbers.base c + s)))),
        length_tabulate L.slots m.ended,
      )

  -- a lost change of a cabinet that 28 lets pass stands there
  lost_held : valid L m ≡ true → (k : ℕ) → is_lost L m k ≡ true → 0 < occurs k holds
  lost_held s k e =
      let a : occurs k holds ≡ occurs k (joined L.width frames_of) + occurs k (tabulate L.slots m.ended) = occurs_append k (joined L.width frames_of) (tabulate L.slots m.ended) in
      ⊎_elim (λ y. omega (arith, a, of_frame y)) (λ y. omega (arith, a, of_ended y))
      (or_elim (some_frame_above L m k (recovery_line L m)) (any_below L.slots (λ p. eqb (m.ended p) k)) (and_right (not (eqb k 0)) (some_frame_above L m k (recovery_line L m) || any_below L.slots (λ p. eqb (m.ended p) k)) e))
    where
      -- the frame of state x of card c
      at_frame : (c x : ℕ) → c < L.width → m.present c ≡ true → m.numbers.base c < x → x ≤ m.numbers.reached c → m.memory.change c x ≡ k → 0 < occurs k (joined L.width frames_of)
      at_frame c x l there lo hi q =
          let place : suc (m.numbers.base c + (x - suc (m.numbers.base c))) ≡ x = omega arith in
          joined_has L.width frames_of c k l
          (tabulate_has L.in_hand (λ s. m.memory.change c (suc (m.numbers.base c + s))) (x - suc (m.numbers.base c)) k
          (omega (arith, (passed L m s c l there).numbers.in_hand_lem)) (ap (m.memory.change c) place ∙ q))

      of_frame : some_frame_above L m k (recovery_line L m) ≡ true → 0 < occurs k (joined L.width frames_of)
      of_frame y =
          let f : Found L.width (λ c. m.present c && frame_above m k c (recovery_line L m c)) = any_elim L.width (λ c. m.present c && frame_above m k c (recovery_line L m c)) y in
          let c : ℕ = f.0 in
          let there : m.present c ≡ true = and_left (m.present c) (frame_above m k c (recovery_line L m c)) f.2 in
          let g : Found (m.numbers.reached c - recovery_line L m c) (λ s. eqb (m.memory.change c (suc (recovery_line L m c + s))) k) =
          any_elim (m.numbers.reached c - recovery_line L m c) (λ s. eqb (m.memory.change c (suc (recovery_line L m c + s))) k) (and_right (m.present c) (frame_above m k c (recovery_line L m c)) f.2) in
          let r : NumbersPassed L m c = (passed L m s c f.1 there).numbers in
          let low : m.numbers.base c ≤ recovery_line L m c = (line_climbed L.width m.numbers.stored (m.memory.frame c) (m.numbers.base c) (m.numbers.reached c) (omega (arith, r.base_stored, r.stored_held, r.held_reached))).from_base in
          at_frame c (suc (recovery_line L m c + g.0)) f.1 there (omega (arith, low)) (omega (arith, g.1)) (eqb-true (m.memory.change c (suc (recovery_line L m c + g.0))) k g.2)

      of_ended : any_below L.slots (λ p. eqb (m.ended p) k) ≡ true → 0 < occurs k (tabulate L.slots m.ended)
      of_ended y =
          let f : Found L.slots (λ p. eqb (m.ended p) k) = any_elim L.slots (λ p. eqb (m.ended p) k) y in
          tabulate_has L.slots m.ended f.0 k f.1 (eqb-true (m.ended f.0) k f.2)

pub few_lost : FewLost
few_lost L m s =
    let l : length (lost_numbers L m) ≤ length (holds L m) =
    no_longer (lost_numbers L m) (holds L m) (λ k. test (is_lost L m k) (λ e. omega (arith, (lost_listed L m).once k, ap one_if e, lost_held L m s k e)) (λ e. omega (arith, (lost_listed L m).once k, ap one_if e))) in
    omega (arith, l, holds_length L m)

-- a plan that is not refused with 4
abbrev NotShort : Plan → Type 0
NotShort p = p.reply ≡ refused TooShort → ⊥

other : (r : Refusal) → ¬ (number_of r ≡ 4) → NotShort (record { reply = refused r; edits = [] })
other r h e = h (ap number_in e)
  where
    number_in : Reply → ℕ
    number_in (accepted a) = 0
    number_in (refused x) = number_of x

pub never_short : NeverShort
never_short L m cp lp a b =
    cond_case NotShort (not (valid L m)) (λ u. other BadCabinet (λ z. absurd (omega arith)))
    (λ u. cond_case NotShort (not (is_down m.phase)) (λ v. other WrongPhase (λ z. absurd (omega arith)))
    (λ v. cond_case NotShort (leb L.greatest_number m.session) (λ w. other LimitReached (λ z. absurd (omega arith)))
    (λ w. cond_case NotShort (some_writing L m) (λ y. other WriteUnreported (λ z. absurd (omega arith)))
    (λ y. cond_case NotShort (ltb cp (length (card_rows L m)) || ltb lp (length (lost_numbers L m))) (λ x. absurd (fits (not_not (valid L m) u) x)) (λ x. not_both _ TooShort)))))
  where
    fits : valid L m ≡ true → ltb cp (length (card_rows L m)) || ltb lp (length (lost_numbers L m)) ≡ true → ⊥
    fits s x =
        ⊎_elim (λ y. omega (arith, a, ltb-true cp (length (card_rows L m)) y, selected_short {A = CardRow} L.width m.present (λ c. record { card = c; stored = m.numbers.stored c; line = recovery_line L m c })))
        (λ y. omega (arith, b, ltb-true lp (length (lost_numbers L m)) y, few_lost L m s))
        (or_elim (ltb cp (length (card_rows L m))) (ltb lp (length (lost_numbers L m))) x)
