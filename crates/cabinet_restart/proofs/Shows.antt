-- The restarted cabinet, list by list, shows the model that restarts from the read-out. Assumes nothing.
use Rattle.std.specs.Prelude.{Ok, Err}
use Prim.Native.Nat.{ℕ, suc, ◌+◌, ◌*◌, ◌-◌, ◌≤◌, ◌<◌}
use mathlib.Core.Path.{◌≡◌, refl, sym, ◌∙◌, ap, ap₂, subst}
use mathlib.Core.Bool.{Bool, true, false, ◌&&◌, cond}
use mathlib.Core.Logic.{by_cases}
use mathlib.Core.List.{List, []}
use native.Mathlib.Nat.{le_refl}
use native.Mathlib.Decide.{dec_lt}
use native.Mathlib.Omega.{arith}
use lib.Dec.{leb, ltb}
use lib.ListN.{length, get_or, replicate, get_or-eq_default}
use borrow.Author.Tests.{lt-ltb, le-leb, le-ltb, ltb-true, leb-true}
use Rattle.base_limits.specs.Ring.{ring_place}
use Rattle.base_laws.specs.Below.{tabulate}
use Rattle.base_laws.proofs.Logic.{clash, fails, and_left, and_right, and_intro, cond_true, cond_false}
use Rattle.base_laws.proofs.Fill.{length_tabulate, get_d_tabulate, tabulate_same}
use Rattle.sheet_pages.specs.declared.Readout.{Readout}
use Rattle.sheet_sessions.specs.Sessions.{lowest_to}
use Rattle.sheet_readout.specs.Joint.{pages_read, readout_of}
use Rattle.theory_history.specs.Change.{Numbers}
use Rattle.theory_history.specs.Vector.{no_entries}
use Rattle.theory_history.specs.Vector as history
use Rattle.theory_history.specs.Line.{orphan, climb, line_from}
use Rattle.theory_protocol.specs.Model.{Model, free_slot}
use Rattle.theory_protocol.specs.Model as model
use Rattle.theory_protocol.specs.Edit as edit
use Rattle.theory_protocol.specs.Calls.{fresh_model, lines}
use Rattle.sheet_lines.specs.Format.{formats}
use Rattle.theory_protocol.specs.Valid.{valid}
use Rattle.theory_codec.specs.Sheets.{joined_sheets, restarted, restart_reply, restarted_from}
use Rattle.cabinet_restart.proofs.Ring.{lowest_in, stored_in, is_in, vector_in, ring_model, ring_law}
use Rattle.sheet_lines.specs.Lines.{no_frame}
use Rattle.sheet_lines.proofs.Judged.{padded_at}
use Rattle.sheet_pages.specs.Pages.{Page}
use Rattle.sheet_pages.specs.Walk.{no_readout, lay_pages}
use Rattle.sheet_pages.specs.Ring.{page_at}
use Rattle.sheet_pages.specs.Whole.{Whole}
use Rattle.sheet_pages.proofs.Lay.{Sized, Holds}
use Rattle.sheet_pages.proofs.Whole.{whole_holds, whole_cards, formed_at}
use Rattle.cabinet_layout.specs.declared.Phase.TheVariants.{Rolling}
use Rattle.cabinet_layout.specs.declared.Head.{Head}
use Rattle.cabinet_layout.specs.declared.Vector.{Vector}
use Rattle.cabinet_layout.specs.declared.Core.{Core}
use Rattle.cabinet_layout.specs.Shape.{limits16, at, vector_at, list_of, set_of, open_of, vector_for, slot_for, ring_change, ring_frame, truncate, bare, with_vectors, with_slots, with_numbers, with_line, with_writing, head_of, blank_core, model_of, empty_slot}
use Rattle.sheet_vectors.specs.Heads.{stored_numbers}
use Rattle.cabinet_layout.proofs.Limits.{width16}
use Rattle.cabinet_layout.proofs.Held.{list_known, list_same, at_list, at_list_all, member_set, open_back, free_fits, no_slot}
use Rattle.cabinet.specs.declared.Cabinet.{Cabinet}
use Rattle.cabinet.specs.View.{view}
use Rattle.cabinet.proofs.Laws.{beyond, slots_by}
use Rattle.cabinet_fixing.proofs.Told.{none_ended}
use Rattle.sheet_readout.proofs.Accepted.{accepted_pages, readout_pages}
use Rattle.cabinet_readback.proofs.Again.{writes_the_same}
use Rattle.cabinet_readback.proofs.Whole.{never_refused_28}
use Rattle.cabinet.specs.Fresh.{zero_cabinet, void_head}
use Rattle.base_refusal.specs.declared.Refusal.{Refusal}
use Rattle.base_refusal.specs.Reply.{Reply}
use Rattle.sheet_pages.specs.declared.Reading.{Reading}
use Rattle.theory_protocol.specs.Plan.{done, accepted, refused, reply_of}
use Rattle.cabinet_restart.specs.Restart.{cabinet_of, restarted_cabinet, cabinet_for, Restarted, RestartGoesOn, VoidRefused, Within}

-- the vectors of all cards, read back
vectors_by : (f : ℕ → history.Vector) → ((c k : ℕ) → 16 ≤ k → f c k ≡ 0) → ((c : ℕ) → 16 ≤ c → (k : ℕ) → f c k ≡ 0) → vector_at (tabulate limits16.width (λ c. vector_for (f c))) ≡ f
vectors_by f wide high = λ i c. by_cases (dec_lt c 16) (here c) (there c) i
  where
    here : (c : ℕ) → c < 16 → vector_at (tabulate limits16.width (λ c. vector_for (f c))) c ≡ f c
    here c l =
        ap (λ (x : Vector). at x.entries) (get_d_tabulate limits16.width (λ c. vector_for (f c)) (record { entries = [] }) c (omega (arith, width16)))
        ∙ at_list_all (f c) (wide c)

    there : (c : ℕ) → ¬ (c < 16) → vector_at (tabulate limits16.width (λ c. vector_for (f c))) c ≡ f c
    there c l =
        ap (λ (x : Vector). at x.entries)
        (get_or-eq_default (tabulate limits16.width (λ c. vector_for (f c))) (record { entries = [] }) (omega (arith, l, width16, length_tabulate limits16.width (λ c. vector_for (f c)))))
        ∙ (λ i k. sym (high c (omega (arith, l)) k) i)

-- a frame in hand, entry by entry
cut_entry : (a : Bool) (v : history.Vector) (j : ℕ) → cond a (truncate v) no_entries j ≡ cond (a && ltb j limits16.width) (v j) 0
cut_entry true v j = refl
cut_entry false v j = refl

module _ (r : Readout) (z : Sized r) where
  abbrev b : Numbers
  b c = get_or r.bases c 0

  base_beyond : (k : ℕ) → 16 ≤ k → get_or r.bases k 0 ≡ 0
  base_beyond k h = beyond r.bases k z.bases h

  stored_beyond : (k : ℕ) → 16 ≤ k → stored_in r k ≡ 0
  stored_beyond k h = let x : get_or r.counts k 0 ≡ 0 = beyond r.counts k z.counts h in omega (arith, base_beyond k h)

  stored_fn : at (list_of (stored_in r)) ≡ stored_in r
  stored_fn = at_list_all (stored_in r) stored_beyond

  base_fn : at (list_of b) ≡ b
  base_fn = at_list_all b base_beyond

  -- no state of a card beyond the width has a frame
  none_in : (c x : ℕ) → 16 ≤ c → is_in r c x ≡ false
  none_in c x h =
      fails (is_in r c x)
      (λ e. let u = ltb-true (b c) x (and_left (ltb (b c) x) (leb x (stored_in r c)) e) in
      let v = leb-true x (stored_in r c) (and_right (ltb (b c) x) (leb x (stored_in r c)) e) in
      absurd (omega (arith, u, v, stored_beyond c h)))

  abbrev frames_by : Numbers → Numbers → ℕ → ℕ → history.Vector
  frames_by low top c x = cond (ltb (low c) x && leb x (top c)) (truncate (ring_frame r.entries c x)) no_entries

  abbrev changes_by : Numbers → Numbers → ℕ → ℕ → ℕ
  changes_by low top c x = cond (ltb (low c) x && leb x (top c)) (ring_change r.changes c x) 0

  frames_fn : frames_by b (stored_in r) ≡ vector_in r
  frames_fn = λ i c x j. cut_entry (is_in r c x) (ring_frame r.entries c x) j i

  frames_read : frames_by (at (list_of b)) (at (list_of (stored_in r))) ≡ vector_in r
  frames_read = ap₂ frames_by base_fn stored_fn ∙ frames_fn

  abbrev last : ℕ → history.Vector
  last c = vector_in r c (stored_in r c)

  last_fn : vector_at (tabulate limits16.width (λ c. vector_for (last c))) ≡ last
  last_fn = vectors_by last wide (λ c h k. ap (λ (a : Bool). cond (a && ltb k limits16.width) (ring_frame r.entries c (stored_in r c) k) 0) (none_in c (stored_in r c) h))
    where
      wide : (c k : ℕ) → 16 ≤ k → last c k ≡ 0
      wide c k h =
          cond_false (ring_frame r.entries c (stored_in r c) k) 0
          (fails (is_in r c (stored_in r c) && ltb k limits16.width) (λ e. clash (and_right (is_in r c (stored_in r c)) (ltb k limits16.width) e) (le-ltb k limits16.width (omega (arith, h, width16)))))

  abbrev line_by : Numbers → (ℕ → ℕ → history.Vector) → Numbers
  line_by top frames c = line_from limits16.width top (frames c) (b c) (top c)

  -- a card without frames has its base for its line
  line_level : (c : ℕ) → stored_in r c ≡ b c → line_by (stored_in r) (vector_in r) c ≡ b c
  line_level c e =
      let q : stored_in r c - b c ≡ 0 = omega (arith, e) in
      ap (climb (λ x. orphan limits16.width (stored_in r) (vector_in r c x)) (b c)) q

  line_fn : at (list_of (line_by (stored_in r) (vector_in r))) ≡ line_by (stored_in r) (vector_in r)
  line_fn = at_list_all (line_by (stored_in r) (vector_in r)) (λ k h. line_level k (stored_beyond k h ∙ sym (base_beyond k h)) ∙ base_beyond k h)

  abbrev low : ℕ
  low = lowest_in r

  abbrev ring_cabinet : Cabinet
  ring_cabinet = cabinet_of r.entries r.changes r.cards (ring_model r)

  ring_view : view ring_cabinet ≡ ring_model r
  ring_view =
      λ i. edit.with_writing
      (edit.with_line
      (edit.with_slots
      (edit.with_numbers (edit.with_head (fresh_model (λ c. ltb c r.cards)) low model.rolling 0)
      (record { base = base_fn i; stored = stored_fn i; held = stored_fn i; reached = stored_fn i })
      (record { last = last_fn i; pending = last_fn i; change = changes_by (base_fn i) (stored_fn i); frame = frames_read i }))
      (slots_by empty_slot open_of (λ p. slot_for free_slot) (λ p. free_slot) (λ p l. open_back free_slot free_fits) (λ p l. no_slot) i)
      (slots_by 0 (λ (x : ℕ). x) (λ p. 0) (λ p. 0) (λ p l. refl) (λ p l. refl) i))
      (line_fn i)
      (member_set (λ c. ltb low (get_or r.sessions c 0)) (λ k h. le-ltb low (get_or r.sessions k 0) (let x : get_or r.sessions k 0 ≡ 0 = beyond r.sessions k z.sessions h in omega (arith, x))) i))
      (at_list_all (λ c. 0) (λ k h. refl) i)

  -- ---- the lists that the code makes
  last_list : (s : List ℕ) (vs : List Vector) → s ≡ list_of (stored_in r)
      → vs ≡ tabulate limits16.width (λ c. vector_for (cond (ltb (at r.bases c) (at s c)) (ring_frame r.entries c (at s c)) no_entries))
      → vs ≡ tabulate limits16.width (λ c. vector_for (last c))
  last_list s vs es e = e ∙ tabulate_same limits16.width _ (λ c. vector_for (last c)) each
    where
      entry : (a : Bool) (v : history.Vector) (x k : ℕ) → k < 16 → cond a v no_entries k ≡ cond ((a && leb x x) && ltb k limits16.width) (v k) 0
      entry true v x k l = rw (le-leb x x (le_refl x), lt-ltb k limits16.width (omega (arith, width16)))
      entry false v x k l = refl

      each : (c : ℕ) → c < limits16.width → vector_for (cond (ltb (at r.bases c) (at s c)) (ring_frame r.entries c (at s c)) no_entries) ≡ vector_for (last c)
      each c h =
          let q : at s c ≡ stored_in r c = ap (λ (l : List ℕ). at l c) es ∙ at_list (stored_in r) c (omega (arith, h, width16)) in
          ap (λ (x : ℕ). vector_for (cond (ltb (b c) x) (ring_frame r.entries c x) no_entries)) q
          ∙ ap (λ (l : List ℕ). record { entries = l }) (list_same _ (last c) (λ k l. entry (ltb (b c) (stored_in r c)) (ring_frame r.entries c (stored_in r c)) (stored_in r c) k l))

  line_list : (s line : List ℕ) (h : Head) → ((c : ℕ) → h.cards ≤ c → at r.counts c ≡ 0) → s ≡ list_of (stored_in r)
      → line ≡ list_of (lines limits16 (model_of r.entries [] (with_numbers (bare h) r.bases s [] s)))
      → line ≡ list_of (line_by (stored_in r) (vector_in r))
  line_list s line h absent es e = e ∙ list_same _ (line_by (stored_in r) (vector_in r)) each
    where
      tops : at s ≡ stored_in r
      tops = ap (λ (l : List ℕ). at l) es ∙ stored_fn

      frames : frames_by b (at s) ≡ vector_in r
      frames = ap (frames_by b) tops ∙ frames_fn

      each : (c : ℕ) → c < 16 → cond (ltb c limits16.width && ltb c h.cards) (line_by (at s) (frames_by b (at s)) c) (b c) ≡ line_by (stored_in r) (vector_in r) c
      each c l =
          ap (λ (x : ℕ). cond (ltb c limits16.width && ltb c h.cards) x (b c)) (ap₂ (λ (t : Numbers) (f : ℕ → ℕ → history.Vector). line_by t f c) tops frames)
          ∙ by_cases (dec_lt c h.cards)
          (λ k. cond_true (line_by (stored_in r) (vector_in r) c) (b c) (and_intro (lt-ltb c limits16.width (omega (arith, l, width16))) (lt-ltb c h.cards k)))
          (λ k. cond_false (line_by (stored_in r) (vector_in r) c) (b c) (fails (ltb c limits16.width && ltb c h.cards) (λ t. absurd (k (ltb-true c h.cards (and_right (ltb c limits16.width) (ltb c h.cards) t)))))
          ∙ sym (line_level c (let x : at r.counts c ≡ 0 = absent c (omega (arith, k)) in omega (arith, x))))

free_listed : replicate 8 (slot_for free_slot) ≡ tabulate limits16.slots (λ p. slot_for free_slot)
unfolding limits16
free_listed = refl

none_running : replicate 16 0 ≡ list_of (λ c. 0)
unfolding limits16
none_running = refl

-- the cabinet that the code makes
pub restarted_is : (r : Readout) → Sized r → Within r → (s line : List ℕ) (vs : List Vector) (head : Head) (core : Core) (low rolled : ℕ)
    → s ≡ stored_numbers r.bases r.counts
    → low ≡ lowest_to (λ i. get_or r.sessions i 0) (r.cards - 1)
    → rolled ≡ set_of (λ c. ltb low (at r.sessions c))
    → vs ≡ tabulate limits16.width (λ c. vector_for (cond (ltb (at r.bases c) (at s c)) (ring_frame r.entries c (at s c)) no_entries))
    → head ≡ head_of low r.cards Rolling
    → line ≡ list_of (lines limits16 (model_of r.entries [] (with_numbers (bare head) r.bases s [] s)))
    → core ≡ blank_core head
    → ◌≡◌ {A = Cabinet} (record { entries = r.entries; changes = r.changes; core = with_vectors (with_numbers (with_line core line rolled) r.bases s s s) vs vs }) (restarted_cabinet r)
restarted_is r z w s line vs head core low rolled q el er ev eh en ec =
    let es : s ≡ list_of (λ c. at r.bases c + at r.counts c) = q ∙ ap (λ (n : ℕ). tabulate n (λ c. at r.bases c + at r.counts c)) (sym width16) in
    let here : Head = head_of low r.cards Rolling in
    let line_is_lem : line ≡ list_of (lines limits16 (model_of r.entries [] (with_numbers (bare here) r.bases s [] s))) = en ∙ ap (λ (h : Head). list_of (lines limits16 (model_of r.entries [] (with_numbers (bare h) r.bases s [] s)))) eh in
    let head_is : core.head ≡ head_of (lowest_to (λ i. get_or r.sessions i 0) (r.cards - 1)) r.cards Rolling = ap (λ (x : Core). x.head) ec ∙ eh ∙ ap (λ (n : ℕ). head_of n r.cards Rolling) el in
    let places_are : core.slots ≡ tabulate limits16.slots (λ p. slot_for free_slot) = ap (λ (x : Core). x.slots) ec ∙ free_listed in
    let ended_is : core.ended ≡ tabulate limits16.slots (λ p. 0) = ap (λ (x : Core). x.ended) ec ∙ none_ended in
    let writing_is : core.writing ≡ list_of (λ c. 0) = ap (λ (x : Core). x.writing) ec ∙ none_running in
    (λ i. record {
      entries = r.entries;
      changes = r.changes;
      core = with_writing (with_vectors
          (with_slots
          (with_numbers
          (with_line (bare (head_is i)) (line_list r z s line here w.no_count es line_is_lem i) ((er ∙ ap (λ (x : ℕ). set_of (λ c. ltb x (at r.sessions c))) el) i))
          (list_known r.bases z.bases i) (es i) (es i) (es i))
          (places_are i) (ended_is i))
          (last_list r z s vs es ev i) (last_list r z s vs es ev i))
          (writing_is i);
    })
    ∙ ap (cabinet_of r.entries r.changes r.cards) (ring_law r w)

-- ---- the cabinet behind a restart
-- what an accepted read-out shows of its numbers
pub within : (bytes : List ℕ) → restart_reply bytes ≡ Ok tt → Within (readout_of bytes).readout
within bytes e = whole_within (pages_read bytes).pages (accepted_pages bytes e).whole
  where
    whole_within : (ps : List Page) → Whole formats ps → Within (lay_pages ps no_readout)
    whole_within ps w =
        record {
          some = let x = w.some in omega (arith, whole_cards ps w);
          few = let x : length ps ≤ 16 = w.few in omega (arith, whole_cards ps w);
          states = λ c h. by_cases (dec_lt c (length ps)) (λ l. let x : (page_at ps c).header.base + length (page_at ps c).frames ≤ 60000 = (w.sheet c l).states in omega (arith, holds.base c l, holds.count c l))
              (λ l. let g : length ps ≤ c = omega (arith, l) in omega (arith, holds.no_base c g, holds.no_count c g));
          no_session = λ c l. holds.no_session c (beyond_all c l);
          no_base = λ c l. holds.no_base c (beyond_all c l);
          no_count = λ c l. holds.no_count c (beyond_all c l);
          no_entry = entry_none;
        }
      where
        holds : Holds (length ps) (page_at ps) (lay_pages ps no_readout)
        holds = whole_holds ps w

        beyond_all : (c : ℕ) → (lay_pages ps no_readout).cards ≤ c → length ps ≤ c
        beyond_all c l = omega (arith, whole_cards ps w)

        entry_none : (c x j : ℕ) → c < (lay_pages ps no_readout).cards → at (lay_pages ps no_readout).bases c < x → x ≤ at (lay_pages ps no_readout).bases c + at (lay_pages ps no_readout).counts c → (lay_pages ps no_readout).cards ≤ j → j < 16 → at (lay_pages ps no_readout).entries (ring_place c x * 16 + j) ≡ 0
        entry_none c x j h a b g k =
            ap (λ (y : ℕ). at (lay_pages ps no_readout).entries (ring_place c y * 16 + j)) (sym x_is) ∙ holds.entry c i j no_frame here inside k
            ∙ padded_at (get_or (page_at ps c).frames i no_frame).entries (let few : length ps ≤ 16 = w.few in omega (arith, long, few)) j
            ∙ get_or-eq_default (get_or (page_at ps c).frames i no_frame).entries 0 (omega (arith, long, whole_cards ps w, g))
          where
            here : c < length ps
            here = omega (arith, whole_cards ps w)

            i : ℕ
            i = x - suc (page_at ps c).header.base

            inside : x - suc (page_at ps c).header.base < length (page_at ps c).frames
            inside = omega (arith, holds.base c here, holds.count c here, a, b)

            x_is : (page_at ps c).header.base + 1 + (x - suc (page_at ps c).header.base) ≡ x
            x_is = omega (arith, holds.base c here, a)

            long : length (get_or (page_at ps c).frames (x - suc (page_at ps c).header.base) no_frame).entries ≡ length ps
            long = formed_at (length ps) (page_at ps c).frames (w.sheet c here).formed (x - suc (page_at ps c).header.base) inside

module _ (bytes : List ℕ) (e : restart_reply bytes ≡ Ok tt) where
  abbrev read : Readout
  read = (readout_of bytes).readout

  pub readout_sized : Sized (readout_of bytes).readout
  readout_sized = (whole_holds (pages_read bytes).pages (accepted_pages bytes e).whole).sized

  pub ring_shows : ring_model (readout_of bytes).readout ≡ restarted_from limits16 bytes
  ring_shows = ring_law read (within bytes e) ∙ ap (restarted limits16) (readout_pages bytes)

  -- the number of cards is that of the sheets
  pub restarted_cards : (readout_of bytes).readout.cards ≡ length (pages_read bytes).pages
  restarted_cards = whole_cards (pages_read bytes).pages (accepted_pages bytes e).whole

  pub restarted_shows : view (restarted_cabinet (readout_of bytes).readout) ≡ restarted_from limits16 bytes
  restarted_shows = sym (ap (λ (m : Model). view (cabinet_of read.entries read.changes read.cards m)) (ring_law read (within bytes e))) ∙ ring_view read readout_sized ∙ ring_shows

pub restart_goes_on : RestartGoesOn
restart_goes_on bytes reply next h e =
    let v : view next ≡ restarted_from limits16 bytes = ap view (h.cabinet ∙ ap (λ (x : Reply). cabinet_for x (readout_of bytes).readout) e) ∙ restarted_shows bytes e in
    record {
      shows = v;
      passes28 = ap (valid limits16) v ∙ never_refused_28 bytes e;
      writes = ap (joined_sheets formats limits16) v ∙ writes_the_same bytes e;
    }

pub void_refused : VoidRefused
void_refused = refl

-- ---- what a restart answers and hands back
module _ (bytes : List ℕ) (x : Reading) (e : x ≡ readout_of bytes) where
  pub read_within : x.verdict ≡ Ok tt → Within x.readout
  read_within a = subst (λ (y : Reading). Within y.readout) (sym e) (within bytes (sym (ap (λ (y : Reading). y.verdict) e) ∙ a))

  pub restart_done : (next : Cabinet) → x.verdict ≡ Ok tt → next ≡ restarted_cabinet x.readout → Restarted bytes (accepted done) next
  restart_done next a n =
      let v : restart_reply bytes ≡ Ok tt = sym (ap (λ (y : Reading). y.verdict) e) ∙ a in
      record {
        answer = sym (ap reply_of v);
        cabinet = n ∙ ap (λ (y : Reading). restarted_cabinet y.readout) e ∙ sym (ap (λ (y : Reply). cabinet_for y (readout_of bytes).readout) v);
      }

  pub restart_refused : (next : Cabinet) (q : Refusal) → x.verdict ≡ Err q → next ≡ zero_cabinet void_head → Restarted bytes (refused q) next
  restart_refused next q a n =
      let v : restart_reply bytes ≡ Err q = sym (ap (λ (y : Reading). y.verdict) e) ∙ a in
      record { answer = sym (ap reply_of v); cabinet = n ∙ sym (ap (λ (y : Reply). cabinet_for y (readout_of bytes).readout) v) }
