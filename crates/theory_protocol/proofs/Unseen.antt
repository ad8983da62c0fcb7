-- What is refused for a running write; and that openings, votes, takes, withdrawals, trims, safe questions and losses go by none. Assumes nothing.
use Prim.Native.Nat.{ℕ, suc, ◌≤◌, ◌<◌}
use mathlib.Core.Path.{◌≡◌, refl, sym, ◌∙◌, ap}
use mathlib.Core.Bool.{Bool, true, false, not, ◌&&◌, cond}
use mathlib.Core.Logic.{◌⊎◌, ⊎_elim}
use native.Mathlib.Omega.{arith}
use lib.Dec.{leb}
use borrow.Author.Tests.{leb-true, le-leb}
use mathlib.Core.List.{List, [], ◌∷◌}
use Rattle.base_laws.specs.Below.{all_below}
use Rattle.base_laws.proofs.Logic.{clash, fails, and_left, and_right, and_intro, cond_case}
use Rattle.base_refusal.specs.declared.Refusal.TheVariants.{BadCabinet}
use Rattle.theory_history.specs.Change.{CardSet}
use Rattle.theory_protocol.specs.Model.{Limits, is_up, OpenChange, Model, free_slot, slot_of, free_at, is_writing, writes_to}
use Rattle.theory_protocol.specs.Valid.{session_valid, cards_valid, card_valid, slot_valid, write_valid, valid}
use Rattle.theory_protocol.specs.Edit.{Edit, place, latest, rebase, fall, halt, edited_all}
use Rattle.theory_protocol.specs.Plan.{Answer, done, opened, safe, unsafe, Check, ◌⇒◌, Plan, checked, after_plan}
use Rattle.theory_protocol.specs.Calls.{opened_change, open_checks, voted, vote_checks, share_edit, took_share, take_checks, withdraw_checks, lines, trim_checks, is_safe, safe_checks, loss_edits, lose_checks}
use Rattle.theory_protocol.specs.Writes.{RefusedWhileWriting, unwritten, Unseen, WritesUnseen, Unhindered}
use Rattle.theory_protocol.proofs.Steps.{checked_case}
use Rattle.theory_protocol.proofs.Writes.{none_writes, writes_valid}

-- ---- what is refused
-- a number outside two others
outside : (low x high : ℕ) → (x < low) ⊎ (high < x) → leb low x && leb x high ≡ false
outside low x high h = fails (leb low x && leb x high) (λ e. ⊎_elim (λ z. absurd (below (leb-true low x (and_left (leb low x) (leb x high) e)) z)) (λ z. absurd (below (leb-true x high (and_right (leb low x) (leb x high) e)) z)) h)
  where
    below : {a b : ℕ} → a ≤ b → b < a → ⊥
    below y z = omega arith

pub refused_while_writing : RefusedWhileWriting
refused_while_writing L m fine =
    record {
      store = λ c s here running low high w. let r : leb (m.numbers.stored c) s && leb s (m.numbers.held c) ≡ true = and_intro (le-leb (m.numbers.stored c) s low) (le-leb s (m.numbers.held c) high) in
          (rw (fine, here, running, r, w), rw (fine, here, running, r, w));
      bad = λ c s here running h. let r : leb (m.numbers.stored c) s && leb s (m.numbers.held c) ≡ false = outside (m.numbers.stored c) s (m.numbers.held c) h in
          (rw (fine, here, running, r), rw (fine, here, running, r));
      end = λ c x here running h. rw (fine, here, running, not_ended c x h);
      fix = λ a b is_down room w. rw (fine, is_down, fails (leb L.greatest_number m.session) (λ e. above (leb-true L.greatest_number m.session e) room), w);
    }
  where
    above : {a b : ℕ} → a ≤ b → b < a → ⊥
    above y z = omega arith

    not_ended : (c x : ℕ) → (is_writing m c ≡ false) ⊎ ((x < m.numbers.stored c) ⊎ (writes_to m c < x)) → is_writing m c && leb (m.numbers.stored c) x && leb x (writes_to m c) ≡ false
    not_ended c x h =
        fails (is_writing m c && leb (m.numbers.stored c) x && leb x (writes_to m c))
        (λ e. let two : is_writing m c && leb (m.numbers.stored c) x ≡ true = and_left (is_writing m c && leb (m.numbers.stored c) x) (leb x (writes_to m c)) e in
        ⊎_elim (λ (z : is_writing m c ≡ false). clash (and_left (is_writing m c) (leb (m.numbers.stored c) x) two) z)
        (λ (z : (x < m.numbers.stored c) ⊎ (writes_to m c < x)). clash (and_intro (and_right (is_writing m c) (leb (m.numbers.stored c) x) two) (and_right (is_writing m c && leb (m.numbers.stored c) x) (leb x (writes_to m c)) e)) (outside (m.numbers.stored c) x (writes_to m c) z)) h)

-- ---- what goes by no running write
-- a cabinet that 28 lets pass, it lets pass with no write running
unwritten_valid : (L : Limits) (m : Model) → valid L m ≡ true → valid L (unwritten m) ≡ true
unwritten_valid L m e =
    and_intro (and_left (session_valid L m && cards_valid L m && all_below L.width (card_valid L m) && all_below L.slots (λ p. slot_valid L m (m.slot p))) (all_below L.width (write_valid m)) e)
    (writes_valid L (unwritten m) (none_writes L (unwritten m) (λ c l here. refl)))

module _ (L : Limits) (m : Model) (fine : valid L m ≡ true) where
  same_28 : valid L m ≡ valid L (unwritten m)
  same_28 = fine ∙ sym (unwritten_valid L m fine)

  abbrev pub judged : Bool → List Check → Answer → List Edit → Plan
  judged b cs a es = checked (not b ⇒ BadCabinet ∷ cs) a es

  -- a plan that differs from the other in its check for 28 alone, and whose edits leave the writes that run
  pub unseen : (cs : List Check) (a : Answer) (es : List Edit) → unwritten (edited_all L es m) ≡ edited_all L es (unwritten m) → (edited_all L es m).writing ≡ m.writing
      → Unseen L m (judged (valid L m) cs a es) (judged (valid L (unwritten m)) cs a es)
  unseen cs a es does leaves =
      record {
        same = same;
        does = checked_case (λ (x : Plan). unwritten (after_plan L x m) ≡ after_plan L x (unwritten m)) (not (valid L m) ⇒ BadCabinet ∷ cs) a es (λ r. refl) (λ ps. does) ∙ ap (λ (x : Plan). after_plan L x (unwritten m)) same;
        leaves = checked_case (λ (x : Plan). (after_plan L x m).writing ≡ m.writing) (not (valid L m) ⇒ BadCabinet ∷ cs) a es (λ r. refl) (λ ps. leaves);
      }
    where
      same : judged (valid L m) cs a es ≡ judged (valid L (unwritten m)) cs a es
      same = ap (λ (b : Bool). judged b cs a es) same_28

  share_does : (o : OpenChange) (p c : ℕ) → unwritten (edited_all L (share_edit o c ∷ place p (took_share L o c) ∷ []) m) ≡ edited_all L (share_edit o c ∷ place p (took_share L o c) ∷ []) (unwritten m)
  share_does o p c = cond_case (λ (e : Edit). unwritten (edited_all L (e ∷ place p (took_share L o c) ∷ []) m) ≡ edited_all L (e ∷ place p (took_share L o c) ∷ []) (unwritten m)) (o.change.writes c) (λ z. refl) (λ z. refl)

  share_leaves : (o : OpenChange) (p c : ℕ) → (edited_all L (share_edit o c ∷ place p (took_share L o c) ∷ []) m).writing ≡ m.writing
  share_leaves o p c = cond_case (λ (e : Edit). (edited_all L (e ∷ place p (took_share L o c) ∷ []) m).writing ≡ m.writing) (o.change.writes c) (λ z. refl) (λ z. refl)

  loss_does : (cards : CardSet) (b : Bool) → unwritten (edited_all L (fall cards ∷ cond b (halt ∷ []) []) m) ≡ edited_all L (fall cards ∷ cond b (halt ∷ []) []) (unwritten m)
  loss_does cards true = refl
  loss_does cards false = refl

  loss_leaves : (cards : CardSet) (b : Bool) → (edited_all L (fall cards ∷ cond b (halt ∷ []) []) m).writing ≡ m.writing
  loss_leaves cards true = refl
  loss_leaves cards false = refl

  -- the checks after the first
  abbrev pub rest : List Check → List Check
  rest [] = []
  rest (c ∷ cs) = cs

  pub writes_unseen : WritesUnseen L m
  writes_unseen =
      record {
        opens = λ reads writes. unseen (rest (open_checks L m reads writes)) (opened (suc m.latest)) (place (free_at L m) (opened_change (suc m.latest) reads writes) ∷ latest (suc m.latest) ∷ []) refl refl;
        votes = λ k c agrees. unseen (rest (vote_checks L m k c)) done (place (slot_of L m k) (voted L m (m.slot (slot_of L m k)) c agrees) ∷ []) refl refl;
        takes = λ k c. let o : OpenChange = m.slot (slot_of L m k) in
            unseen (rest (take_checks L m k c)) done (share_edit o c ∷ place (slot_of L m k) (took_share L o c) ∷ []) (share_does o (slot_of L m k) c) (share_leaves o (slot_of L m k) c);
        withdraws = λ k. unseen (rest (withdraw_checks L m k)) done (place (slot_of L m k) free_slot ∷ []) refl refl;
        trims = unseen (rest (trim_checks L m)) done (rebase (lines L m) ∷ []) refl refl;
        asks = λ k. unseen (rest (safe_checks L m k)) (cond (is_safe L m k) safe unsafe) [] refl refl;
        loses = λ cards. unseen (rest (lose_checks L m cards)) done (loss_edits m.phase cards) (loss_does cards (is_up m.phase)) (loss_leaves cards (is_up m.phase));
      }

pub unhindered : Unhindered
unhindered L m fine = writes_unseen L m fine
