-- What safe answers and what a fix then lists agree, for any cabinet and for lists of calls. Assumes nothing.
use Prim.Native.Nat.{ℕ}
use mathlib.Core.Path.{◌≡◌, refl, sym, ◌∙◌, ap, subst}
use mathlib.Core.Bool.{Bool, true, false, not, cond}
use mathlib.Core.List.{List, [], ◌∷◌}
use mathlib.Core.Logic.{by_cases}
use native.Mathlib.Decide.{ℕ_discrete}
use native.Mathlib.Omega.{arith}
use Rattle.base_laws.specs.Below.{occurs, one_if}
use Rattle.theory_history.specs.Change.{CardSet, Numbers}
use Rattle.theory_protocol.specs.Model.{Limits, Model, is_up}
use Rattle.theory_protocol.specs.Edit.{put, end, fall, halt, with_numbers, edited_all}
use Rattle.theory_protocol.specs.Plan.{Answer, done, safe, unsafe, fixed, Reply, accepted, Plan, after_plan}
use Rattle.theory_protocol.specs.Calls.{end_checks, is_safe, safe_checks, safe_plan, lose_checks, lose_plan, loss_edits, all_lost, is_lost, fix_plan}
use Rattle.theory_protocol.specs.Codec.{Codec}
use Rattle.theory_protocol.specs.Run.{Call, plain, safe_call, lose_call, fix_call, plan_of, after_call, Calls, further, Run, start, next}
use Rattle.theory_protocol.specs.Agreement.{Agrees, Reported, unreported, reports, SafeAgreesWithFix, AgreesInLists}
use Rattle.theory_protocol.proofs.Taking.{put_same, put_other}
use Rattle.theory_protocol.proofs.Steps.{checked_case, not_not}
use Rattle.theory_protocol.proofs.Listed.{lists_rising}
use Rattle.theory_protocol.proofs.Answers.{answered}

-- by whether the change would be lost
agrees_by : (lost : Bool) (k : ℕ) (a : Answer) (numbers : List ℕ) → cond (not lost) safe unsafe ≡ a → occurs k numbers ≡ one_if lost → Agrees k a numbers
agrees_by true k a numbers e o = (λ z. omega (arith, o), λ h. sym e)
agrees_by false k a numbers e o = (λ z. let u : ◌≡◌ {A = ℕ} 0 1 = cc (e, z) in absurd (omega arith), λ h. absurd (omega (arith, h, o)))

module _ (L : Limits) (m : Model) where
  -- a loss of any cards leaves the same lost changes as one of all
  lost_as_all : (cards : CardSet) (b : Answer) → (lose_plan L m cards).reply ≡ accepted b → is_up m.phase ≡ true → (k : ℕ) → is_lost L (after_plan L (lose_plan L m cards) m) k ≡ is_lost L (all_lost L m) k
  lost_as_all cards b e u k =
      answered (λ (x : Answer) (p : Plan). is_lost L (after_plan L p m) k ≡ is_lost L (all_lost L m) k) (lose_checks L m cards) done (loss_edits m.phase cards)
      (λ ps. ap (λ (z : Bool). is_lost L (edited_all L (fall cards ∷ cond z (halt ∷ []) []) m) k) u) b e

  -- what safe answers, and in which phase
  answer_is : (k : ℕ) (a : Answer) → (safe_plan L m k).reply ≡ accepted a → (cond (is_safe L m k) safe unsafe ≡ a) × (is_up m.phase ≡ true)
  answer_is k = answered (λ (x : Answer) (p : Plan). (cond (is_safe L m k) safe unsafe ≡ x) × (is_up m.phase ≡ true)) (safe_checks L m k) _ [] (λ ps. (refl, not_not (is_up m.phase) ps.1.0))

-- ---- reports
put_back : (f : Numbers) (c : ℕ) → put f c (f c) ≡ f
put_back f c = λ i d. each d i
  where
    each : (d : ℕ) → put f c (f c) d ≡ f d
    each d = by_cases (ℕ_discrete d c) (λ (q : d ≡ c). ap (put f c (f c)) q ∙ put_same f c (f c) ∙ ap f (sym q)) (λ q. put_other f c (f c) d q)

-- a report of the number that was stored moves no stored number, and loses nothing
reported_lost : (L : Limits) {m n : Model} → Reported L m n → (k : ℕ) → is_lost L n k ≡ is_lost L m k
reported_lost L unreported k = refl
reported_lost L (reports {n} r c e) k =
    checked_case (λ (p : Plan). is_lost L (after_plan L p n) k ≡ is_lost L n k) (end_checks L n c (n.numbers.stored c)) done (end c (n.numbers.stored c) ∷ []) (λ x. refl)
    (λ ps. ap (λ (s : Numbers). is_lost L (with_numbers n (record { base = n.numbers.base; stored = s; held = n.numbers.held; reached = n.numbers.reached }) n.memory) k) (put_back n.numbers.stored c))
    ∙ reported_lost L r k

pub safe_agrees_with_fix : SafeAgreesWithFix
safe_agrees_with_fix L m k a ea cards b eb n w p q rows numbers ef =
    let s : (cond (is_safe L m k) safe unsafe ≡ a) × (is_up m.phase ≡ true) = answer_is L m k a ea in
    agrees_by (is_lost L (all_lost L m) k) k a numbers s.0
    ((lists_rising L n p q rows numbers ef).once k ∙ ap one_if (reported_lost L w k ∙ lost_as_all L m cards b eb s.1 k))

-- ---- lists
-- the last call of a list
record LastCall (C : Codec) (L : Limits) (n : CardSet) (cs : Calls) (call : Call) (reply : Reply) (m : Model) : Type 0 where
  before : Model
  run : Run C L n cs before
  replied : (plan_of C L before call).reply ≡ reply
  after : m ≡ after_call C L before call

last_call : (C : Codec) (L : Limits) (n : CardSet) {ds : Calls} {m : Model} → Run C L n ds m → (cs : Calls) (call : Call) (reply : Reply) → ds ≡ further cs call reply → LastCall C L n cs call reply m
last_call C L n start cs call reply e = let u : ◌≡◌ {A = ℕ} 0 1 = cc in absurd (omega arith)
last_call C L n (next {cs} {m} r c) ds call reply e =
    let es : cs ≡ ds = cc in
    let ec : c ≡ call = cc in
    let er : (plan_of C L m c).reply ≡ reply = cc in
    subst (λ (zs : Calls). LastCall C L n zs call reply (after_call C L m c)) es
    (subst (λ (z : Call). LastCall C L n cs z reply (after_call C L m c)) ec
    (record { before = m; run = r; replied = er; after = refl }))

-- a question changes nothing
asked_same : (L : Limits) (m : Model) (k : ℕ) → after_plan L (safe_plan L m k) m ≡ m
asked_same L m k = checked_case (λ (p : Plan). after_plan L p m ≡ m) (safe_checks L m k) _ [] (λ r. refl) (λ ps. refl)

pub agrees_in_lists : (C : Codec) (L : Limits) (n : CardSet) → AgreesInLists C L n
agrees_in_lists C L n cs k a cards b x y rows numbers m r =
    let f : LastCall C L n (further (further cs (plain (safe_call k)) (accepted a)) (lose_call cards) (accepted b)) (fix_call x y) (accepted (fixed rows numbers)) m = last_call C L n r _ _ _ refl in
    let l : LastCall C L n (further cs (plain (safe_call k)) (accepted a)) (lose_call cards) (accepted b) f.before = last_call C L n f.run _ _ _ refl in
    let s : LastCall C L n cs (plain (safe_call k)) (accepted a) l.before = last_call C L n l.run _ _ _ refl in
    let same : l.before ≡ s.before = s.after ∙ asked_same L s.before k in
    safe_agrees_with_fix L l.before k a (ap (λ (z : Model). (safe_plan L z k).reply) same ∙ s.replied) cards b l.replied (after_plan L (lose_plan L l.before cards) l.before) unreported x y rows numbers
    (ap (λ (z : Model). (fix_plan L z x y).reply) (sym l.after) ∙ f.replied)
