-- The sheets of a cabinet, running or rolling back, joined, are read back, and refused with nothing while another session can follow. Assumes nothing.
use Rattle.std.specs.Prelude.{Ok, Err}
use Prim.Native.Nat.{ℕ, suc, ◌+◌, ◌-◌, ◌^◌, ◌≤◌, ◌<◌}
use mathlib.Core.Path.{◌≡◌, refl, sym, ◌∙◌, ap, ap₂, subst}
use mathlib.Core.Bool.{Bool, true, false, not, ◌&&◌, ◌||◌}
use mathlib.Core.Logic.{by_cases, ⊎_elim}
use mathlib.Core.List.{List}
use native.Mathlib.Nat.{le_refl, le_trans, le_antisymm}
use native.Mathlib.Decide.{dec_lt}
use native.Mathlib.Omega.{arith}
use lib.Dec.{eqb, ltb}
use lib.ListN.{length, get_or}
use borrow.Author.Tests.{le-ltb, ltb-true, eq-eqb, ne_eqb, eqb-true}
use Rattle.base_laws.specs.Below.{all_below, tabulate}
use Rattle.base_laws.proofs.Logic.{test, clash, fails, and_left, and_right, and_intro, or_left, or_right, not_true, not_intro, cond_case}
use Rattle.base_laws.proofs.Below.{Found, all_intro, search_below}
use Rattle.base_laws.proofs.Fill.{length_tabulate, get_d_tabulate}
use Rattle.base_refusal.specs.declared.Refusal.TheVariants.{LimitReached}
use Rattle.base_refusal.specs.Reply.{Reply}
use Rattle.sheet_lines.specs.declared.Frame.{Frame}
use Rattle.sheet_lines.specs.Format.{format, formats}
use Rattle.sheet_lines.specs.Lines.{no_frame}
use Rattle.sheet_pages.specs.Pages.{Page, pages_bytes}
use Rattle.sheet_pages.specs.Ring.{no_page, page_at}
use Rattle.sheet_pages.specs.Whole.{SheetOf, Whole}
use Rattle.sheet_sessions.specs.Sessions.{lowest_to, apart}
use Rattle.sheet_sessions.proofs.Laws.{lowest_le, lowest_ge}
use Rattle.sheet_vectors.specs.Vectors.{frame_on, differ, two_vectors}
use Rattle.sheet_readout.specs.Joint.{lowest_session, sessions_apart, joint_verdict, PagesRead, judged, pages_read}
use Rattle.sheet_readout.proofs.Accepted.{pages_judged}
use Rattle.theory_history.specs.Change.{History, history_of}
use Rattle.theory_history.specs.Vector.{vector}
use Rattle.theory_history.proofs.Writers.{Maker, maker}
use Rattle.theory_protocol.specs.Model.{Limits, is_rolling, Model, has_rolled}
use Rattle.theory_protocol.specs.Journal.{Journal, greatest_line}
use Rattle.theory_protocol.proofs.Rolling.{AboutLine}
use Rattle.theory_protocol.proofs.Restart.{Recallable}
use Rattle.theory_codec.specs.Sheets.{sheet_session, sheet_frame, sheet_of}
use Rattle.theory_codec.specs.Claims.{SheetLimits}
use Rattle.theory_codec.proofs.Written.{frames_length, frame_of, entry_written}
use Rattle.theory_codec.proofs.Passing.{pages_bytes_lem, none_below}
use Rattle.theory_codec.proofs.Valid as valid

module _ (L : Limits) (limits : SheetLimits L) (n : ℕ) (m : Model) (j : Journal) (few : n ≤ L.width) (some : 1 ≤ n)
    (present_is : (c : ℕ) → m.present c ≡ ltb c n) (r : Recallable L m j) where
  abbrev H₀ : History
  H₀ = history_of j.history

  abbrev N : ℕ
  N = length j.history

  abbrev page : ℕ → Page
  page = sheet_of L m

  a₀ : AboutLine L m j.start N j.stored (greatest_line L j) H₀
  a₀ = r.about H₀ (λ i h. refl)

  card : (c : ℕ) → c < n → c < L.width
  card c h = omega (arith, few)

  stored_top : (c : ℕ) → c < L.width → m.numbers.stored c ≤ m.numbers.reached c
  stored_top c l = a₀.intact.stored_reached c l

  base_stored : (c : ℕ) → c < L.width → m.numbers.base c ≤ m.numbers.stored c
  base_stored c l = le_trans (a₀.intact.base_line c l) (a₀.intact.line_stored c l)

  -- the maker of a stored state
  maker_of : (c x : ℕ) → c < L.width → m.numbers.base c < x → x ≤ m.numbers.stored c → Maker H₀ j.start N c x
  maker_of c x l a b = maker H₀ j.start N c x (omega (arith, a₀.intact.from_start c l, a)) (omega (arith, b, stored_top c l, a₀.intact.reached_top c l))

  number_is : (c x : ℕ) (l : c < L.width) (a : m.numbers.base c < x) (b : x ≤ m.numbers.stored c) → m.memory.change c x ≡ (H₀ (maker_of c x l a b).at).number
  number_is c x l a b =
      let k : Maker H₀ j.start N c x = maker_of c x l a b in
      ap (m.memory.change c) (sym k.makes) ∙ a₀.framed.number_is k.at c k.in_history l k.wrote (omega (arith, k.makes, a)) (omega (arith, k.makes, b, stored_top c l))

  vector_is_lem : (c x i : ℕ) (l : c < L.width) → i < L.width → (a : m.numbers.base c < x) (b : x ≤ m.numbers.stored c) → m.memory.frame c x i ≡ vector L.width H₀ j.start (maker_of c x l a b).at i
  vector_is_lem c x i l li a b =
      let k : Maker H₀ j.start N c x = maker_of c x l a b in
      ap (λ (y : ℕ). m.memory.frame c y i) (sym k.makes) ∙ a₀.framed.vector_is_lem k.at c i k.in_history l li k.wrote (omega (arith, k.makes, a)) (omega (arith, k.makes, b, stored_top c l))

  number_small : (c : ℕ) → c < L.width → (x : ℕ) → m.numbers.base c < x → x ≤ m.numbers.stored c → m.memory.change c x < 16 ^ 8
  number_small c l x a b =
      let k : Maker H₀ j.start N c x = maker_of c x l a b in
      omega (arith, limits.greatest_number, number_is c x l a b, a₀.numbered.given k.at k.in_history, a₀.count_given)

  -- ---- 7 and 9: the sheet of a card that is there
  session_small : (c : ℕ) → sheet_session m c < 16 ^ 8
  session_small c =
      cond_case (λ (s : ℕ). s < 16 ^ 8) (has_rolled m c)
      (λ e. omega (arith, limits.greatest_number, r.session_left (and_left (is_rolling m.phase) (m.rolled c) e))) (λ e. omega (arith, limits.greatest_number, r.session_fits))

  sheet_of_lem : (c : ℕ) → c < n → SheetOf format n c (page c)
  sheet_of_lem c h = valid.sheet_of_lem L limits n m few present_is r.passes c h (session_small c) (number_small c (card c h))

  -- ---- all sheets, joined
  abbrev bytes : List ℕ
  bytes = pages_bytes formats (tabulate n page)

  bytes_few : length bytes ≤ 65536
  bytes_few = omega (arith, pages_bytes_lem n page (λ c h. valid.sheet_few n c (page c) (omega (arith, few, limits.width)) (sheet_of_lem c h)), few, limits.width)

  -- ---- 11 and 24: the lowest session is the cabinet's
  abbrev ps : List Page
  ps = tabulate n page

  pub length_ps : length ps ≡ n
  length_ps = length_tabulate n page

  pub page_at_lem : (c : ℕ) → c < n → page_at ps c ≡ page c
  page_at_lem c h = get_d_tabulate n page no_page c h

  whole : Whole formats ps
  whole =
      record {
        some = omega (arith, length_ps, some);
        few = omega (arith, length_ps, few, limits.width);
        sheet = λ c h. let l : c < n = omega (arith, length_ps, h) in
            subst (λ (k : ℕ). SheetOf format k c (page_at ps c)) (sym length_ps) (subst (SheetOf format n c) (sym (page_at_lem c l)) (sheet_of_lem c l));
      }

  pub session_at : (c : ℕ) → c < n → (page_at ps c).header.session ≡ sheet_session m c
  session_at c h = ap (λ (p : Page). p.header.session) (page_at_lem c h)

  not_rolled : (c : ℕ) × (c < n) × (has_rolled m c ≡ false)
  not_rolled =
      ⊎_elim (λ (f : Found L.width (λ c. m.present c && not (has_rolled m c))). (f.0, ltb-true f.0 n (sym (present_is f.0) ∙ and_left (m.present f.0) (not (has_rolled m f.0)) f.2), not_true (has_rolled m f.0) (and_right (m.present f.0) (not (has_rolled m f.0)) f.2)))
      (λ (none : (c : ℕ) → c < L.width → m.present c && not (has_rolled m c) ≡ false).
      clash (all_intro L.width (λ c. not (m.present c) || has_rolled m c) (λ c l. test (has_rolled m c) (λ e. or_right (not (m.present c)) e) (λ e. or_left (has_rolled m c) (not_intro (fails (m.present c) (λ p. clash (and_intro p (not_intro e)) (none c l))))))) r.some_left)
      (search_below L.width (λ c. m.present c && not (has_rolled m c)))

  pub lowest_is : lowest_session ps ≡ m.session
  lowest_is =
      ap (λ (k : ℕ). lowest_to (λ c. (page_at ps c).header.session) (k - 1)) length_ps
      ∙ le_antisymm
      (le_trans (lowest_le (λ c. (page_at ps c).header.session) (n - 1) not_rolled.0 (omega (arith, not_rolled.1)))
      (omega (arith, session_at not_rolled.0 not_rolled.1, unrolled_session)))
      (lowest_ge (λ c. (page_at ps c).header.session) (n - 1) m.session (λ i h. omega (arith, session_at i (omega (arith, h, some)), session_from i)))
    where
      unrolled_session : sheet_session m not_rolled.0 ≡ m.session
      unrolled_session = rw not_rolled.2

      session_from : (c : ℕ) → m.session ≤ sheet_session m c
      session_from c = cond_case (λ (s : ℕ). m.session ≤ s) (has_rolled m c) (λ e. omega arith) (λ e. le_refl m.session)

  count_at : (c : ℕ) → c < n → length (page_at ps c).frames ≡ m.numbers.stored c - m.numbers.base c
  count_at c h = ap (λ (p : Page). length p.frames) (page_at_lem c h) ∙ frames_length L m c

  not_apart : sessions_apart ps ≡ false
  unfolding sessions_apart apart
  not_apart = rw (lowest_is, length_ps) (none_below n _ (λ c h. test (has_rolled m c) (λ y. ahead c h y) (λ y. level c h y)))
    where
      session : ℕ → ℕ
      session c = (page_at ps c).header.session

      ahead : (c : ℕ) → c < n → has_rolled m c ≡ true → ltb (m.session + 1) (page_at ps c).header.session || (ltb m.session (page_at ps c).header.session && ltb 0 (length (page_at ps c).frames)) ≡ false
      ahead c h y =
          let s : sheet_session m c ≡ suc m.session = rw y in
          let q = r.lowered c (card c h) y in
          rw (le-ltb (m.session + 1) (page_at ps c).header.session (omega (arith, session_at c h, s)), le-ltb 0 (length (page_at ps c).frames) (omega (arith, count_at c h, q.0, q.1)))
          (no_and (ltb m.session (page_at ps c).header.session))
        where
          no_and : (b : Bool) → b && false ≡ false
          no_and true = refl
          no_and false = refl

      level : (c : ℕ) → c < n → has_rolled m c ≡ false → ltb (m.session + 1) (page_at ps c).header.session || (ltb m.session (page_at ps c).header.session && ltb 0 (length (page_at ps c).frames)) ≡ false
      level c h y =
          let s : sheet_session m c ≡ m.session = rw y in
          rw (le-ltb (m.session + 1) (page_at ps c).header.session (omega (arith, session_at c h, s)), le-ltb m.session (page_at ps c).header.session (omega (arith, session_at c h, s)))

  -- ---- 10: one change has one vector
  frame_on_lem : (c i : ℕ) → c < n → i < m.numbers.stored c - m.numbers.base c → frame_on ps c i ≡ sheet_frame L m c (suc (m.numbers.base c + i))
  frame_on_lem c i h li = ap (λ (p : Page). get_or p.frames i no_frame) (page_at_lem c h) ∙ frame_of L m c i li

  -- frames of one change have one vector
  same_vector : (c d i k e : ℕ) → c < n → d < n → e < n → i < m.numbers.stored c - m.numbers.base c → k < m.numbers.stored d - m.numbers.base d
      → m.memory.change c (suc (m.numbers.base c + i)) ≡ m.memory.change d (suc (m.numbers.base d + k))
      → m.memory.frame c (suc (m.numbers.base c + i)) e ≡ m.memory.frame d (suc (m.numbers.base d + k)) e
  same_vector c d i k e hc hd he li lk q =
      vector_is_lem c x e (card c hc) (card e he) above_c inside_c ∙ ap (λ (t : ℕ). vector L.width H₀ j.start t e) same ∙ sym (vector_is_lem d y e (card d hd) (card e he) above_d inside_d)
    where
      x : ℕ
      x = suc (m.numbers.base c + i)

      y : ℕ
      y = suc (m.numbers.base d + k)

      above_c : m.numbers.base c < suc (m.numbers.base c + i)
      above_c = omega arith

      inside_c : suc (m.numbers.base c + i) ≤ m.numbers.stored c
      inside_c = omega arith

      above_d : m.numbers.base d < suc (m.numbers.base d + k)
      above_d = omega arith

      inside_d : suc (m.numbers.base d + k) ≤ m.numbers.stored d
      inside_d = omega arith

      s : Maker H₀ j.start N c (suc (m.numbers.base c + i))
      s = maker_of c (suc (m.numbers.base c + i)) (card c hc) above_c inside_c

      t : Maker H₀ j.start N d (suc (m.numbers.base d + k))
      t = maker_of d (suc (m.numbers.base d + k)) (card d hd) above_d inside_d

      numbers : (H₀ s.at).number ≡ (H₀ t.at).number
      numbers = sym (number_is c (suc (m.numbers.base c + i)) (card c hc) above_c inside_c) ∙ q ∙ number_is d (suc (m.numbers.base d + k)) (card d hd) above_d inside_d

      same : s.at ≡ t.at
      same =
          by_cases (dec_lt s.at t.at) (λ z. absurd (a₀.numbered.distinct s.at t.at z t.in_history numbers))
          (λ z. by_cases (dec_lt t.at s.at) (λ w. absurd (a₀.numbered.distinct t.at s.at w s.in_history (sym numbers))) (λ w. omega (arith, z, w)))

  not_differ : (c d i k : ℕ) → c < n → d < n → i < m.numbers.stored c - m.numbers.base c → k < m.numbers.stored d - m.numbers.base d
      → differ n (frame_on ps c i) (frame_on ps d k) ≡ false
  not_differ c d i k hc hd li lk =
      ap₂ (differ n) (frame_on_lem c i hc li) (frame_on_lem d k hd lk)
      ∙ fails (differ n f g)
      (λ e. clash
      (all_intro n (λ x. eqb (get_or f.entries x 0) (get_or g.entries x 0))
      (λ x hx. eq-eqb (get_or f.entries x 0) (get_or g.entries x 0)
      (entry_written L n m few present_is c (suc (m.numbers.base c + i)) x hx
      ∙ same_vector c d i k x hc hd hx li lk (eqb-true f.change g.change (and_left (eqb f.change g.change) (not alike) e))
      ∙ sym (entry_written L n m few present_is d (suc (m.numbers.base d + k)) x hx))))
      (not_true alike (and_right (eqb f.change g.change) (not alike) e)))
    where
      f : Frame
      f = sheet_frame L m c (suc (m.numbers.base c + i))

      g : Frame
      g = sheet_frame L m d (suc (m.numbers.base d + k))

      alike : Bool
      alike = all_below n (λ x. eqb (get_or f.entries x 0) (get_or g.entries x 0))

  one_vector : two_vectors ps ≡ false
  unfolding two_vectors
  one_vector =
      rw length_ps
      (none_below n _
      (λ c hc. none_below c _
      (λ d hd. none_below (length (page_at ps c).frames) _
      (λ i li. none_below (length (page_at ps d).frames) _
      (λ k lk. not_differ c d i k hc (omega (arith, hc, hd)) (omega (arith, li, count_at c hc)) (omega (arith, lk, count_at d (omega (arith, hc, hd)))))))))

  -- ---- the whole read-out
  joint : m.session < L.greatest_number → joint_verdict ps ≡ Ok tt
  unfolding joint_verdict
  joint left = rw (not_apart, lowest_is, ne_eqb m.session 4294967295 (λ (z : m.session ≡ 4294967295). absurd (omega (arith, left, limits.greatest_number, z))), one_vector)

  last_joint : L.greatest_number ≤ m.session → joint_verdict ps ≡ Err LimitReached
  unfolding joint_verdict
  last_joint z = rw (not_apart, lowest_is, eq-eqb m.session 4294967295 (omega (arith, z, limits.greatest_number, r.session_fits)))

  read_judged : pages_read bytes ≡ judged (joint_verdict ps) ps
  read_judged = pages_judged ps whole bytes_few

  pub read_back : m.session < L.greatest_number → pages_read bytes ≡ record { pages = ps; verdict = (Ok tt) }
  read_back left = read_judged ∙ ap (λ (v : Reply). judged v ps) (joint left)

  pub read_last : L.greatest_number ≤ m.session → (pages_read bytes).verdict ≡ Err LimitReached
  read_last z = ap (λ (x : PagesRead). x.verdict) (read_judged ∙ ap (λ (v : Reply). judged v ps) (last_joint z))
