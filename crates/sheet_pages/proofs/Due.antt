-- Places where a line is due, in a read-out with no line before them at fault: what stands there decides. For any format. Assumes nothing.
use Rattle.std.specs.Prelude.{Ok, Err}
use Prim.Native.Nat.{ℕ, suc, ◌+◌, ◌-◌, ◌%◌, ◌^◌, ◌<◌}
use mathlib.Core.Path.{◌≡◌, refl, sym, ◌∙◌, ap, subst}
use mathlib.Core.Bool.{true, cond, ◌||◌}
use mathlib.Core.List.{List, [], ◌∷◌, ◌++◌, append_assoc}
use mathlib.Core.Logic.{◌⊎◌, inl, inr, ⊎_elim}
use native.Mathlib.Omega.{arith}
use lib.Dec.{eqb}
use lib.ListN.{length, take, drop}
use borrow.Author.Tests.{eq-eqb}
use Rattle.base_laws.proofs.Logic.{or_right}
use Rattle.base_refusal.specs.declared.Refusal.{Refusal}
use Rattle.base_refusal.specs.declared.Refusal.TheVariants.{BadCheck}
use Rattle.sheet_digits.specs.declared.Sums.{Sums}
use Rattle.sheet_digits.specs.Digits.{number}
use Rattle.sheet_lines.specs.declared.Header.{Header}
use Rattle.sheet_lines.specs.declared.Frame.{Frame}
use Rattle.sheet_lines.specs.Format.{Format, Formats, Apart}
use Rattle.sheet_lines.specs.Lines.{cards_of, format_in, format_for, start_of, header_in, header_verdict, frame_digits, no_frame}
use Rattle.sheet_lines.proofs.Passed.{header_limits, header_beside}
use Rattle.sheet_line_round.proofs.Carried.{Passing, eight, frame_passing, frame_carried, no_header}
use Rattle.sheet_pages.specs.Pages.{Page, page_bytes, pages_bytes, frames_of, Sheets, read_sheet, more_sheets, read_sheets}
use Rattle.sheet_pages.specs.Allowed.{Allowed, AllAllowed, Fewer, next_verdict, last_of, short_bytes}
use Rattle.sheet_pages.specs.Due.{HeaderDue, FrameDue}
use Rattle.sheet_pages.proofs.Walk.{accepts_or}
use Rattle.sheet_pages.proofs.Round.{AllValid, sheet_back, with_both}
use Rattle.sheet_pages.proofs.Short.{sheet_short}
use Rattle.sheet_pages.proofs.Whole.{cards_agree}

-- ---- beside another first sheet

-- whether a first sheet of so many cards goes with a header, or none was before it
abbrev Agrees : Format → Header → ℕ → Type 0
Agrees f h first = (eqb first 0 || eqb (cards_of f h) first) ≡ true

-- one of as many cards does
pub agrees_itself : (f : Format) (h : Header) → (eqb (cards_of f h) 0 || eqb (cards_of f h) (cards_of f h)) ≡ true
agrees_itself f h = or_right (eqb (cards_of f h) 0) (eq-eqb (cards_of f h) (cards_of f h) refl)

pub allowed_beside : (f : Format) (due first other : ℕ) (p : Page) → Agrees f p.header other → Allowed f due first p → Allowed f due other p
allowed_beside f due first other p g a = record { header = header_beside f due first other p.header a.header g; session = a.session; count = a.count; formed = a.formed; frames = a.frames }

pub fewer_beside : (f : Format) (due first other : ℕ) (h : Header) (frs : List Frame) → Agrees f h other → Fewer f due first h frs → Fewer f due other h frs
fewer_beside f due first other h frs g x = record { header = header_beside f due first other h x.header g; session = x.session; count = x.count; formed = x.formed; frames = x.frames }

-- ---- where a header is due

-- whole sheets behind the first are read, and what stands behind them decides
more_behind :
    (F : Formats) → AllValid F → (due first k : ℕ) (ps : List Page) (input : List ℕ) →
    AllAllowed F due first ps →
    (more_sheets F (length ps + suc k) due first (pages_bytes F ps ++ input)).verdict ≡ (more_sheets F (suc k) (due + length ps) first input).verdict
more_behind F s due first k [] input a =
    let z : 0 + suc k ≡ suc k = omega arith in
    let d : due + 0 ≡ due = omega arith in
    rw (z, d)
more_behind F s due first k (p ∷ ps) input a =
    let z : suc (length ps) + suc k ≡ suc (length ps + suc k) = omega arith in
    let d : due + suc (length ps) ≡ due + 1 + length ps = omega arith in
    rw (z, d, append_assoc (page_bytes F p) (pages_bytes F ps) input, sheet_back F s due first p (pages_bytes F ps ++ input) (λ cards rest. more_sheets F (length ps + suc k) (due + 1) first rest) a.0)
    (more_behind F s (due + 1) first k ps input a.1)

-- The reading comes to where a header is due: it goes on with that card's sheet, the first or one beside a first of n cards.
pub record Reached (F : Formats) (n c : ℕ) (front : List ℕ) : Type 0 where
  pub first : ℕ
  pub known : (first ≡ 0) ⊎ (first ≡ n)
  pub next : ℕ → List ℕ → Sheets
  pub goes_on : (input : List ℕ) → (read_sheets F true 0 (front ++ input)).verdict ≡ (read_sheet F c first next input).verdict

behind_sheets : (F : Formats) → AllValid F → (n : ℕ) (ps : List Page) → length ps < n → AllAllowed F 0 n ps → Reached F n (length ps) (pages_bytes F ps)
unfolding read_sheets
behind_sheets F s n [] l a = record { first = 0; known = inl refl; next = λ cards rest. more_sheets F (cond true (cards - 1) 0) 1 cards rest; goes_on = λ input. refl }
behind_sheets F s n (p ∷ ps) l a =
    record { first = n; known = inr refl; next = λ cards rest. more_sheets F (n - 2 - length ps) (suc (length ps) + 1) n rest; goes_on = λ input. from_first (n - 2 - length ps) input (omega arith) }
  where
    as_first : Allowed (format_for F p.header) 0 0 p
    as_first = allowed_beside (format_for F p.header) 0 n 0 p refl a.0

    cards_are : cards_of (format_for F p.header) p.header ≡ n
    cards_are = cards_agree n (cards_of (format_for F p.header) p.header) (λ (z : n ≡ 0). absurd (omega arith)) (header_limits (format_for F p.header) 0 n p.header a.0.header).agrees

    from_first : (k : ℕ) (input : List ℕ) → n - 1 ≡ length ps + suc k → (read_sheets F true 0 (pages_bytes F (p ∷ ps) ++ input)).verdict ≡ (more_sheets F (suc k) (suc (length ps)) n input).verdict
    from_first k input e =
        let d : 1 + length ps ≡ suc (length ps) = omega arith in
        rw (append_assoc (page_bytes F p) (pages_bytes F ps) input, sheet_back F s 0 0 p (pages_bytes F ps ++ input) (λ cards rest. more_sheets F (cond true (cards - 1) 0) 1 cards rest) as_first, cards_are, e, ← d)
        (more_behind F s 1 n k ps input a.1)

pub header_reached : (F : Formats) → AllValid F → (n c : ℕ) (front : List ℕ) → HeaderDue F n c front → Reached F n c front
header_reached F s n c front d =
    let w : length d.sheets < n = omega (arith, d.as_many, d.more) in
    subst (λ (bs : List ℕ). Reached F n c bs) (sym d.bytes) (subst (λ (k : ℕ). Reached F n k (pages_bytes F d.sheets)) d.as_many (behind_sheets F s n d.sheets w d.allowed))

-- ---- where a frame is due

-- fewer frames than declared beside a first sheet, or in the first
fewer_of : (f : Format) (due first n : ℕ) (h : Header) (frs : List Frame) → (first ≡ 0) ⊎ (first ≡ n) → Fewer f due n h frs → Fewer f due first h frs
fewer_of f due first n h frs (inl e) x = subst (λ (k : ℕ). Fewer f due k h frs) (sym e) (fewer_beside f due n 0 h frs refl x)
fewer_of f due first n h frs (inr e) x = subst (λ (k : ℕ). Fewer f due k h frs) (sym e) x

module _ (F : Formats) (s : AllValid F) (n c : ℕ) (front : List ℕ) (d : FrameDue F n c front) where
  abbrev f : Format
  f = format_for F d.header

  all_bytes : (rest : List ℕ) → front ++ rest ≡ d.before ++ short_bytes (format_for F d.header) d.header d.frames rest
  all_bytes rest = ap (λ (bs : List ℕ). bs ++ rest) d.bytes ∙ simp append_assoc

  -- the verdict is that of the line there, where it is refused
  pub due_refused : (rest : List ℕ) (r : Refusal) → next_verdict (format_for F d.header) d.header d.frames rest ≡ Err r → (read_sheets F true 0 (front ++ rest)).verdict ≡ Err r
  due_refused rest r v =
      let w = header_reached F s n c d.before d.behind in
      ap (λ (bs : List ℕ). (read_sheets F true 0 bs).verdict) (all_bytes rest)
      ∙ w.goes_on (short_bytes f d.header d.frames rest)
      ∙ sheet_short F s c w.first d.header d.frames rest r (fewer_of f c w.first n d.header d.frames w.known d.fewer) v w.next

  -- in an accepted read-out it is accepted
  pub due_accepted : (rest : List ℕ) → (read_sheets F true 0 (front ++ rest)).verdict ≡ Ok tt → next_verdict (format_for F d.header) d.header d.frames rest ≡ Ok tt
  due_accepted rest e =
      ⊎_elim (λ (g : next_verdict f d.header d.frames rest ≡ Ok tt). g)
      (λ (x : (r : Refusal) × (next_verdict f d.header d.frames rest ≡ Err r)). let z : ◌≡◌ {A = ℕ} 0 1 = cc (due_refused rest x.0 x.1) in absurd (omega arith))
      (accepts_or (next_verdict f d.header d.frames rest))

  -- its header's card
  pub due_card : d.header.card ≡ c
  due_card = (header_limits f c n d.header d.fewer.header).card

  pub due_small : n < 16 ^ 2
  due_small =
      let l = header_limits f c n d.header d.fewer.header in
      omega (arith, l.cards, d.cards, (s d.header.cards).few)

-- ---- a line of another sheet

-- sheets of two cards, or of sessions whose lowest eight bits differ, start apart
pub card_apart : (F : Formats) → Apart F → (told other c d session next : ℕ) → c < 16 ^ 2 → d < 16 ^ 2 → (c ≡ d → ⊥) → (F told).start c session ≡ (F other).start d next → ⊥
card_apart F a told other c d session next h k ne e = ne (a.cards told other c d session next h k (ap (λ (s : Sums). s.first) e))

session_apart : (F : Formats) → Apart F → (told other c d session next : ℕ) → (session % 2 ^ 8 ≡ next % 2 ^ 8 → ⊥) → (F told).start c session ≡ (F other).start d next → ⊥
session_apart F a told other c d session next ne e = ne (a.sessions told other c d session next (ap (λ (s : Sums). s.second) e))

module _
    (F : Formats) (s : AllValid F) (a : Apart F) (n d : ℕ) (front line behind : List ℕ) (y : FrameDue F n d front) (long : length line ≡ frame_digits (format_for F y.header) n + 5)
    (e : (read_sheets F true 0 (front ++ (line ++ behind))).verdict ≡ Ok tt)
  where
    abbrev g : Format
    g = format_for F y.header

    -- the line of a frame of an accepted read-out passes from the start of its sheet
    carried_passing : Passing (start_of (format_for F y.header) y.header) (frame_digits (format_for F y.header) n) line
    carried_passing =
        rw y.cards at
        (frame_passing g (start_of g y.header) y.header.card (cards_of g y.header) (y.header.base + 1 + length y.frames) (last_of no_frame y.frames) line behind (eight g (s y.header.cards) y.header.card y.header.session) (rw y.cards long) (due_accepted F s n d front y (line ++ behind) e))

    -- and from no start of another card's
    apart_from : (told c session : ℕ) → c < n → (c ≡ d → ⊥) → (F told).start c session ≡ start_of (format_for F y.header) y.header → ⊥
    apart_from told c session l ne =
        let q = due_card F s n d front y in
        let small = due_small F s n d front y in
        card_apart F a told y.header.cards c y.header.card session y.header.session (omega arith) (omega (arith, y.behind.more)) (λ (z : c ≡ y.header.card). ne (z ∙ q))

    -- where a frame of a sheet that starts elsewhere is due, behind fewer frames than its header declares
    pub carried_there :
        (h : Header) (frs : List Frame) (rest : List ℕ) →
        cards_of (format_for F h) h ≡ n →
        frame_digits (format_for F h) n ≡ frame_digits (format_for F y.header) n →
        (start_of (format_for F h) h ≡ start_of (format_for F y.header) y.header → ⊥) →
        next_verdict (format_for F h) h frs (line ++ rest) ≡ Err BadCheck
    carried_there h frs rest w k ne =
        let f = format_for F h in
        let p : Passing (start_of g y.header) (frame_digits f (cards_of f h)) line = rw (w, k) carried_passing in
        frame_carried f (start_of f h) (start_of g y.header) h.card (cards_of f h) (h.base + 1 + length frs) (last_of no_frame frs) line rest p (eight f (s h.cards) h.card h.session) ne

    -- where a frame of another card is
    pub carried_card : (h : Header) → h.card < n → (h.card ≡ d → ⊥) → start_of (format_for F h) h ≡ start_of (format_for F y.header) y.header → ⊥
    carried_card h l ne = apart_from h.cards h.card h.session l ne

    -- or one of another session
    pub carried_session : (h : Header) → (h.session % 2 ^ 8 ≡ y.header.session % 2 ^ 8 → ⊥) → start_of (format_for F h) h ≡ start_of (format_for F y.header) y.header → ⊥
    carried_session h ne = session_apart F a h.cards y.header.cards h.card y.header.card h.session y.header.session ne

    -- Where a frame of a sheet that starts elsewhere is due, of the same length, it is 6.
    pub carried_refused :
        (c : ℕ) (place rest : List ℕ) (x : FrameDue F n c place) →
        frame_digits (format_for F x.header) n ≡ frame_digits (format_for F y.header) n →
        (start_of (format_for F x.header) x.header ≡ start_of (format_for F y.header) y.header → ⊥) →
        (read_sheets F true 0 (place ++ (line ++ rest))).verdict ≡ Err BadCheck
    carried_refused c place rest x k ne = due_refused F s n c place x (line ++ rest) BadCheck (carried_there x.header x.frames rest x.cards k ne)

    -- Where a header of another card is due, it is never accepted.
    pub never_header : (c : ℕ) (place rest : List ℕ) → HeaderDue F n c place → (c ≡ d → ⊥) → (read_sheets F true 0 (place ++ (line ++ rest))).verdict ≡ Ok tt → ⊥
    never_header c place rest x ne v =
        let w = header_reached F s n c place x in
        let input = line ++ rest in
        let i = format_in F input in
        let h = header_in i input in
        let fs = frames_of i h input in
        let b = with_both (header_verdict i c w.first input) fs.verdict h fs input (w.next (cards_of i h) fs.rest) (sym (w.goes_on input) ∙ v) in
        let told = number (take 2 (drop 10 input)) in
        no_header i (s told) (start_of g y.header) (frame_digits g n) c w.first line rest carried_passing (λ session. apart_from told c session x.more ne) b.0
