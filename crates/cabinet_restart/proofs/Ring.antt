-- The model that restarts from a read-out, read off its ring place by place, is the one that restarts from its sheets. Assumes nothing.
use Prim.Native.Nat.{ℕ, suc, ◌+◌, ◌*◌, ◌-◌, ◌≤◌, ◌<◌}
use mathlib.Core.Path.{◌≡◌, refl, sym, ◌∙◌, ap, ap₂}
use mathlib.Core.Bool.{Bool, true, false, ◌&&◌, cond}
use mathlib.Core.Logic.{by_cases}
use mathlib.Core.List.{List}
use native.Mathlib.Decide.{dec_lt}
use native.Mathlib.Omega.{arith}
use lib.Dec.{leb, ltb}
use lib.ListN.{length, get_or, get_or-eq_default}
use borrow.Author.Tests.{lt-ltb, le-ltb, ltb-true, leb-true}
use Rattle.base_limits.specs.Ring.{ring_place}
use Rattle.base_laws.specs.Below.{tabulate}
use Rattle.base_laws.proofs.Logic.{test, and_left, and_right, and_intro, cond_true, cond_false}
use Rattle.base_laws.proofs.Fill.{length_tabulate, get_d_tabulate}
use Rattle.sheet_lines.specs.declared.Frame.{Frame}
use Rattle.sheet_lines.specs.Lines.{no_frame}
use Rattle.sheet_pages.specs.declared.Readout.{Readout}
use Rattle.sheet_pages.specs.Pages.{Page}
use Rattle.sheet_pages.specs.Ring.{ring_frame, page_of, pages_of, no_page, page_at}
use Rattle.sheet_pages.proofs.Whole.{page_on}
use Rattle.sheet_sessions.specs.Sessions.{lowest_to}
use Rattle.sheet_sessions.proofs.Laws.{lowest_same}
use Rattle.sheet_readout.specs.Joint.{lowest_session}
use Rattle.theory_history.specs.Change.{Numbers}
use Rattle.theory_history.specs.Vector.{Vector}
use Rattle.theory_history.specs.Line.{line_from}
use Rattle.theory_protocol.specs.Model.{Model, rolling}
use Rattle.theory_protocol.specs.Edit.{with_numbers, with_head, with_line}
use Rattle.theory_protocol.specs.Calls.{fresh_model}
use Rattle.theory_codec.specs.Sheets.{page_stored, is_on, frame_for, change_on, vector_on, stored_on, restarted}
use Rattle.cabinet_layout.specs.Shape.{limits16}
use Rattle.cabinet_layout.proofs.Limits.{width16}
use Rattle.cabinet_restart.specs.Restart.{Within}

-- the lowest session, the stored numbers and the frames, by the read-out's lists
abbrev pub lowest_in : Readout → ℕ
lowest_in r = lowest_to (λ c. get_or r.sessions c 0) (r.cards - 1)

abbrev pub stored_in : Readout → Numbers
stored_in r c = get_or r.bases c 0 + get_or r.counts c 0

abbrev pub is_in : Readout → ℕ → ℕ → Bool
is_in r c x = ltb (get_or r.bases c 0) x && leb x (stored_in r c)

abbrev pub change_in : Readout → ℕ → ℕ → ℕ
change_in r c x = cond (is_in r c x) (get_or r.changes (ring_place c x) 0) 0

abbrev pub vector_in : Readout → ℕ → ℕ → Vector
vector_in r c x j = cond (is_in r c x && ltb j limits16.width) (get_or r.entries (ring_place c x * 16 + j) 0) 0

abbrev model_by : (session cards : ℕ) (sessions base stored : Numbers) (maker : ℕ → ℕ → ℕ) (frame : ℕ → ℕ → Vector) → Model
model_by session cards sessions base stored maker frame =
    with_line
    (with_numbers (with_head (fresh_model (λ c. ltb c cards)) session rolling 0)
    (record { base = base; stored = stored; held = stored; reached = stored })
    (record { last = λ c. frame c (stored c); pending = λ c. frame c (stored c); change = maker; frame = frame }))
    (λ c. line_from limits16.width stored (frame c) (base c) (stored c))
    (λ c. ltb session (sessions c))

abbrev pub ring_model : Readout → Model
ring_model r = model_by (lowest_in r) r.cards (λ c. get_or r.sessions c 0) (λ c. get_or r.bases c 0) (stored_in r) (change_in r) (vector_in r)

module _ (r : Readout) (w : Within r) where
  abbrev ps : List Page
  ps = pages_of r

  length_ps : length ps ≡ r.cards
  length_ps = length_tabulate r.cards (page_of r)

  no_page_lem : (c : ℕ) → r.cards ≤ c → page_at ps c ≡ no_page
  no_page_lem c h = get_or-eq_default ps no_page (omega (arith, length_ps))

  -- by card: of one that is there its page's number, and 0 of another
  by_card : (f : Page → ℕ) (g : ℕ → ℕ) → f no_page ≡ 0 → ((c : ℕ) → g c ≡ f (page_of r c)) → ((c : ℕ) → r.cards ≤ c → g c ≡ 0) → (c : ℕ) → g c ≡ f (page_at ps c)
  by_card f g z here there c =
      by_cases (dec_lt c r.cards) (λ h. here c ∙ ap f (sym (page_on r c h))) (λ h. let l : r.cards ≤ c = omega (arith, h) in there c l ∙ sym (ap f (no_page_lem c l) ∙ z))

  sessions_fn : (c : ℕ) → get_or r.sessions c 0 ≡ (page_at ps c).header.session
  sessions_fn = by_card (λ p. p.header.session) (λ c. get_or r.sessions c 0) refl (λ c. refl) w.no_session

  base_fn : (c : ℕ) → get_or r.bases c 0 ≡ (page_at ps c).header.base
  base_fn = by_card (λ p. p.header.base) (λ c. get_or r.bases c 0) refl (λ c. refl) w.no_base

  stored_fn : (c : ℕ) → stored_in r c ≡ stored_on ps c
  stored_fn = by_card page_stored (stored_in r) refl (λ c. refl) (λ c h. let b = w.no_base c h in let k = w.no_count c h in omega arith)

  lowest_fn : lowest_in r ≡ lowest_session ps
  lowest_fn =
      lowest_same (λ c. get_or r.sessions c 0) (λ c. (page_at ps c).header.session) (r.cards - 1) (λ c h. sessions_fn c)
      ∙ ap (λ (k : ℕ). lowest_to (λ c. (page_at ps c).header.session) (k - 1)) (sym length_ps)

  -- a state with a frame is one of a card that is there
  in_there : (c x : ℕ) → is_in r c x ≡ true → c < r.cards
  in_there c x e =
      by_cases (dec_lt c r.cards) (λ h. h)
      (λ h. let above = ltb-true (get_or r.bases c 0) x (and_left (ltb (get_or r.bases c 0) x) (leb x (stored_in r c)) e) in
      let top = leb-true x (stored_in r c) (and_right (ltb (get_or r.bases c 0) x) (leb x (stored_in r c)) e) in
      let b = w.no_base c (omega (arith, h)) in
      let k = w.no_count c (omega (arith, h)) in
      absurd (omega (arith, above, top)))

  is_same : (c x : ℕ) → is_in r c x ≡ is_on (page_at ps c) x
  is_same c x = ap₂ (λ (b s : ℕ). ltb b x && leb x s) (base_fn c) (stored_fn c)

  frame_same : (c x : ℕ) → is_in r c x ≡ true → frame_for (page_at ps c) x ≡ ring_frame r.changes r.entries r.cards c x
  frame_same c x e =
      ap (λ (p : Page). frame_for p x) (page_on r c (in_there c x e))
      ∙ get_d_tabulate (get_or r.counts c 0) (λ k. ring_frame r.changes r.entries r.cards c (suc (get_or r.bases c 0 + k))) no_frame (x - suc (get_or r.bases c 0)) inside
      ∙ ap (ring_frame r.changes r.entries r.cards c) back
    where
      above : get_or r.bases c 0 < x
      above = ltb-true (get_or r.bases c 0) x (and_left (ltb (get_or r.bases c 0) x) (leb x (stored_in r c)) e)

      top : x ≤ stored_in r c
      top = leb-true x (stored_in r c) (and_right (ltb (get_or r.bases c 0) x) (leb x (stored_in r c)) e)

      inside : x - suc (get_or r.bases c 0) < get_or r.counts c 0
      inside = omega (arith, above, top)

      back : suc (get_or r.bases c 0 + (x - suc (get_or r.bases c 0))) ≡ x
      back = omega (arith, above)

  change_fn : (c x : ℕ) → change_in r c x ≡ change_on (page_at ps c) x
  change_fn c x =
      test (is_in r c x)
      (λ e. cond_true (get_or r.changes (ring_place c x) 0) 0 e ∙ ap (λ (f : Frame). f.change) (sym (frame_same c x e)) ∙ sym (cond_true (frame_for (page_at ps c) x).change 0 (sym (is_same c x) ∙ e)))
      (λ e. cond_false (get_or r.changes (ring_place c x) 0) 0 e ∙ sym (cond_false (frame_for (page_at ps c) x).change 0 (sym (is_same c x) ∙ e)))

  entry_fn : (c x j : ℕ) → is_in r c x ≡ true → vector_in r c x j ≡ get_or (ring_frame r.changes r.entries r.cards c x).entries j 0
  entry_fn c x j e = by_cases (dec_lt j r.cards) here there
    where
      here : j < r.cards → vector_in r c x j ≡ get_or (ring_frame r.changes r.entries r.cards c x).entries j 0
      here h =
          let few = w.few in
          cond_true (get_or r.entries (ring_place c x * 16 + j) 0) 0 (and_intro e (lt-ltb j limits16.width (omega (arith, h, few, width16)))) ∙ sym (get_d_tabulate r.cards (λ k. get_or r.entries (ring_place c x * 16 + k) 0) 0 j h)

      none : r.cards ≤ j → get_or (ring_frame r.changes r.entries r.cards c x).entries j 0 ≡ 0
      none h = get_or-eq_default (tabulate r.cards (λ k. get_or r.entries (ring_place c x * 16 + k) 0)) 0 (omega (arith, length_tabulate r.cards (λ k. get_or r.entries (ring_place c x * 16 + k) 0)))

      zero_held : r.cards ≤ j → vector_in r c x j ≡ 0
      zero_held h =
          by_cases (dec_lt j 16)
          (λ l. cond_true (get_or r.entries (ring_place c x * 16 + j) 0) 0 (and_intro e (lt-ltb j limits16.width (omega (arith, l, width16))))
          ∙ w.no_entry c x j (in_there c x e) (ltb-true (get_or r.bases c 0) x (and_left (ltb (get_or r.bases c 0) x) (leb x (stored_in r c)) e)) (leb-true x (stored_in r c) (and_right (ltb (get_or r.bases c 0) x) (leb x (stored_in r c)) e)) h l)
          (λ l. cond_false (get_or r.entries (ring_place c x * 16 + j) 0) 0 (ap (λ (b : Bool). is_in r c x && b) (le-ltb j limits16.width (omega (arith, l, width16))) ∙ no_and (is_in r c x)))
        where
          no_and : (b : Bool) → b && false ≡ false
          no_and true = refl
          no_and false = refl

      there : ¬ (j < r.cards) → vector_in r c x j ≡ get_or (ring_frame r.changes r.entries r.cards c x).entries j 0
      there h = let l : r.cards ≤ j = omega (arith, h) in zero_held l ∙ sym (none l)

  vector_fn : (c x j : ℕ) → vector_in r c x j ≡ vector_on (page_at ps c) x j
  vector_fn c x j =
      test (is_in r c x)
      (λ e. entry_fn c x j e ∙ ap (λ (f : Frame). get_or f.entries j 0) (sym (frame_same c x e)) ∙ sym (cond_true (get_or (frame_for (page_at ps c) x).entries j 0) 0 (sym (is_same c x) ∙ e)))
      (λ e. ap (λ (b : Bool). cond (b && ltb j limits16.width) (get_or r.entries (ring_place c x * 16 + j) 0) 0) e ∙ sym (cond_false (get_or (frame_for (page_at ps c) x).entries j 0) 0 (sym (is_same c x) ∙ e)))

  -- the same model
  pub ring_law : ring_model r ≡ restarted limits16 (pages_of r)
  ring_law = λ i. model_by (lowest_fn i) (sym length_ps i) (λ c. sessions_fn c i) (λ c. base_fn c i) (λ c. stored_fn c i) (λ c x. change_fn c x i) (λ c x j. vector_fn c x j i)
