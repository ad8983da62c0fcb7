-- The law that lists of calls ask of sheets, met by document 01's: what restarts from the sheets of a cabinet has of it all that it must. Assumes nothing.
use Rattle.std.specs.Prelude.{Ok, Err}
use Prim.Native.Nat.{ℕ, suc, ◌+◌, ◌-◌, ◌≤◌, ◌<◌, zero-le}
use mathlib.Core.Path.{◌≡◌, refl, sym, ◌∙◌, ap, ap₂, subst}
use mathlib.Core.Bool.{Bool, true, false, cond}
use mathlib.Core.List.{List}
use native.Mathlib.Nat.{le_refl, le_trans}
use native.Mathlib.Omega.{arith}
use lib.Dec.{ltb}
use lib.ListN.{length, get_or, get_or-eq_default}
use borrow.Author.Tests.{le-leb, lt-ltb, le-ltb, ltb-true, ltb-false}
use Rattle.base_laws.specs.Below.{tabulate}
use Rattle.base_laws.proofs.Logic.{test, and_intro}
use Rattle.base_refusal.specs.declared.Refusal.TheVariants.{LimitReached}
use Rattle.sheet_lines.specs.declared.Frame.{Frame}
use Rattle.sheet_lines.specs.Format.{formats}
use Rattle.sheet_pages.specs.Pages.{Page, pages_bytes}
use Rattle.sheet_pages.specs.Ring.{no_page, page_at}
use Rattle.sheet_readout.specs.Joint.{lowest_session, PagesRead, pages_read}
use Rattle.theory_history.specs.Change.{history_of}
use Rattle.theory_protocol.specs.Model.{Limits, Model, has_rolled}
use Rattle.theory_protocol.specs.Journal.{Journal, greatest_line}
use Rattle.theory_protocol.proofs.Running.{Carded}
use Rattle.theory_protocol.proofs.Rolling.{AboutLine}
use Rattle.theory_protocol.proofs.Restart.{Recalled, Recallable, Remade, CodecLaw}
use Rattle.theory_codec.specs.Sheets.{sheet_frame, sheet_of, page_stored, joined_sheets, is_on, frame_for, change_on, vector_on, restarted, codec}
use Rattle.theory_codec.specs.Claims.{SheetLimits}
use Rattle.theory_codec.proofs.Written.{frame_of, sheets_are, entry_written, entry_absent}
use Rattle.theory_codec.proofs.Reading as reading

module _ (L : Limits) (lim : SheetLimits L) (n : ℕ) (low : 1 ≤ n) (high : n ≤ L.width) (m : Model) (j : Journal) (present_is : (c : ℕ) → m.present c ≡ ltb c n) (r : Recallable L m j) where
  abbrev page : ℕ → Page
  page = sheet_of L m

  abbrev ps : List Page
  ps = tabulate n page

  length_ps : length ps ≡ n
  length_ps = reading.length_ps L lim n m j high low present_is r

  page_at_lem : (c : ℕ) → c < n → page_at ps c ≡ page c
  page_at_lem = reading.page_at_lem L lim n m j high low present_is r

  lowest_is : lowest_session ps ≡ m.session
  lowest_is = reading.lowest_is L lim n m j high low present_is r

  no_page_lem : (c : ℕ) → m.present c ≡ false → page_at ps c ≡ no_page
  no_page_lem c e = get_or-eq_default ps no_page (omega (arith, length_ps, ltb-false c n (sym (present_is c) ∙ e)))

  -- a card that is there is below n
  below : (c : ℕ) → m.present c ≡ true → c < n
  below c e = ltb-true c n (sym (present_is c) ∙ e)

  base_stored : (c : ℕ) → c < L.width → m.numbers.base c ≤ m.numbers.stored c
  base_stored c l =
      let a : AboutLine L m j.start (length j.history) j.stored (greatest_line L j) (history_of j.history) = r.about (history_of j.history) (λ i h. refl) in
      le_trans (a.intact.base_line c l) (a.intact.line_stored c l)

  is_on_lem : (c x : ℕ) → c < L.width → m.numbers.base c < x → x ≤ m.numbers.stored c → is_on (page c) x ≡ true
  is_on_lem c x l a b = and_intro (lt-ltb (m.numbers.base c) x a) (le-leb x (page_stored (page c)) (omega (arith, b, base_stored c l)))

  -- state x of card c is frame x − base − 1 of its sheet
  frame_for_lem : (c x : ℕ) → m.numbers.base c < x → x ≤ m.numbers.stored c → frame_for (page c) x ≡ sheet_frame L m c x
  frame_for_lem c x a b = frame_of L m c (x - suc (m.numbers.base c)) (omega arith) ∙ ap (sheet_frame L m c) back
    where
      back : suc (m.numbers.base c + (x - suc (m.numbers.base c))) ≡ x
      back = omega arith

  change_on_lem : (c x : ℕ) → c < L.width → m.numbers.base c < x → x ≤ m.numbers.stored c → change_on (page c) x ≡ m.memory.change c x
  change_on_lem c x l a b = rw (is_on_lem c x l a b) (ap (λ (f : Frame). f.change) (frame_for_lem c x a b))

  entry_on : (c x i : ℕ) → c < L.width → m.numbers.base c < x → x ≤ m.numbers.stored c → vector_on (page c) x i ≡ get_or (sheet_frame L m c x).entries i 0
  entry_on c x i l a b = rw (is_on_lem c x l a b) (ap (λ (f : Frame). get_or f.entries i 0) (frame_for_lem c x a b))

  recalled : Recalled L m (restarted L ps)
  recalled =
      record {
        rolls = refl;
        session = lowest_is;
        cards = λ c. ap (ltb c) length_ps ∙ sym (present_is c);
        base = λ c l e. ap (λ (p : Page). p.header.base) (page_at_lem c (below c e));
        stored = λ c l e. ap page_stored (page_at_lem c (below c e)) ∙ omega (arith, base_stored c l);
        absent = λ c l e. (ap (λ (p : Page). p.header.base) (no_page_lem c e), ap page_stored (no_page_lem c e));
        held = refl;
        reached = refl;
        change = λ c x l e a b. ap (λ (p : Page). change_on p x) (page_at_lem c (below c e)) ∙ change_on_lem c x l a b;
        frame = λ c x i l li e f a b. ap (λ (p : Page). vector_on p x i) (page_at_lem c (below c e)) ∙ entry_on c x i l a b ∙ entry_written L n m high present_is c x i (below i f);
        no_entry = λ c x i l li e f a b. ap (λ (p : Page). vector_on p x i) (page_at_lem c (below c e)) ∙ entry_on c x i l a b
            ∙ entry_absent L n m high present_is c x i (ltb-false i n (sym (present_is i) ∙ f));
        last = λ c i. test (ltb (page_at ps c).header.base (page_stored (page_at ps c))) (λ e. rw e) (λ e. rw e);
        pending = refl;
        none_open = λ p l. refl;
        none_writing = λ c. refl;
        rolled = λ c l e. ap₂ ltb lowest_is (reading.session_at L lim n m j high low present_is r c (below c e)) ∙ ahead (has_rolled m c);
        none_rolled = λ c l e. ap₂ ltb lowest_is (ap (λ (p : Page). p.header.session) (no_page_lem c e)) ∙ le-ltb m.session 0 zero-le;
        line = λ c l. refl;
      }
    where
      ahead : (b : Bool) → ltb m.session (cond b (suc m.session) m.session) ≡ b
      ahead true = lt-ltb m.session (suc m.session) (le_refl (suc m.session))
      ahead false = le-ltb m.session m.session (le_refl m.session)

  own_pages : joined_sheets formats L m ≡ pages_bytes formats ps
  own_pages = ap (pages_bytes formats) (sheets_are L n m high present_is)

  joined_back : m.session < L.greatest_number → pages_read (joined_sheets formats L m) ≡ record { pages = ps; verdict = (Ok tt) }
  joined_back left = ap pages_read own_pages ∙ reading.read_back L lim n m j high low present_is r left

  remade : m.session < L.greatest_number → Remade codec L m
  remade left =
      record {
        accepts = ap (λ (x : PagesRead). x.verdict) (joined_back left);
        recalled = subst (λ (x : PagesRead). Recalled L m (restarted L x.pages)) (sym (joined_back left)) recalled;
      }

  last_session : L.greatest_number ≤ m.session → codec.verdict (codec.joined L m) ≡ Err LimitReached
  last_session z =
      ap (λ (b : List ℕ). (pages_read b).verdict) own_pages ∙ reading.read_last L lim n m j high low present_is r z

pub sheets_law : (L : Limits) → SheetLimits L → (n : ℕ) → 1 ≤ n → n ≤ L.width → CodecLaw codec L (λ c. ltb c n)
sheets_law L lim n low high =
    record { last_stored = λ m c h. omega arith; remade = λ m j e r. remade L lim n low high m j e r; last_session = λ m j e r. last_session L lim n low high m j e r }

pub below_carded : (L : Limits) → SheetLimits L → (n : ℕ) → 1 ≤ n → n ≤ L.width → Carded L (λ c. ltb c n)
below_carded L lim n low high =
    record { one = 0; is_card_lem = le_trans low high; is_there = lt-ltb 0 n low; none_beyond = le-ltb L.width n high; some_session = omega (arith, lim.greatest_number) }
