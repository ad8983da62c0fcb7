-- What `sheet` writes of a card of a cabinet that 28 lets pass reads back as that card's sheet. Assumes nothing.
use Rattle.std.specs.Prelude.{Ok}
use Prim.Native.Nat.{ℕ, ◌^◌, ◌≤◌, ◌<◌}
use mathlib.Core.Path.{◌≡◌, refl, sym, ◌∙◌, ap, subst}
use mathlib.Core.Bool.{Bool, true, false, not, ◌&&◌}
use mathlib.Core.List.{List, [], ◌∷◌, append-nil}
use native.Mathlib.Omega.{arith}
use lib.Dec.{ltb}
use lib.ListN.{length, take}
use borrow.Author.Tests.{le-ltb, ltb-true}
use Rattle.base_limits.specs.Ring.{ring_place}
use Rattle.base_laws.proofs.Logic.{and_left, and_right, cond_case}
use Rattle.base_refusal.specs.declared.Refusal.TheVariants.{NoSuchCard, TooShort, BadCabinet}
use Rattle.base_bits.specs.Member.{member}
use Rattle.sheet_lines.specs.Format.{format, formats}
use Rattle.sheet_pages.specs.declared.Reading.{Reading}
use Rattle.sheet_pages.specs.Pages.{Page, page_bytes, read_sheets}
use Rattle.sheet_pages.specs.Allowed.{Allowed}
use Rattle.sheet_pages.specs.Whole.{SheetOf}
use Rattle.sheet_pages.specs.Walk.{no_readout, lay_pages}
use Rattle.sheet_pages.specs.Ring.{page_of}
use Rattle.sheet_pages.proofs.Round.{formats_valid, written_reads_back}
use Rattle.sheet_pages.proofs.Whole.{allowed_of}
use Rattle.sheet_pages.proofs.Back.{page_back}
use Rattle.sheet_reader.specs.Single.{sheet_read_of}
use Rattle.theory_protocol.specs.Model.{is_rolling, is_card}
use Rattle.theory_protocol.specs.Valid.{valid}
use Rattle.theory_protocol.specs.Plan.{accepted, written, ◌⇒◌, checked}
use Rattle.theory_protocol.proofs.Steps.{not_not}
use Rattle.theory_codec.specs.Sheets.{sheet_session, sheet_of}
use Rattle.theory_codec.specs.Claims.{SheetLimits}
use Rattle.theory_codec.proofs.Valid.{sheet_of_lem, sheet_few}
use Rattle.cabinet_layout.specs.Shape.{limits16, phase_of, in_hand, present_of}
use Rattle.cabinet_layout.proofs.Limits.{width16, in_hand48, greatest60000, greatest_number32}
use Rattle.cabinet.specs.declared.Cabinet.{Cabinet}
use Rattle.cabinet.specs.View.{view}
use Rattle.cabinet_sheet.proofs.Pages.{within}
use Rattle.demands_valid.specs.Back.{Held, SheetReadsBack, SheetsReadBack, WrittenReadsBack}

-- ---- a sheet of n cards, written and read by itself
module _ (n c : ℕ) (p : Page) (few : n ≤ 16) (here : c < n) (s : SheetOf format n c p) where
  allowed : Allowed format c 0 p
  allowed = allowed_of n c 0 p s here few refl

  lines_back : read_sheets formats false c (page_bytes formats p) ≡ record { pages = p ∷ []; verdict = (Ok tt); rest = [] }
  lines_back = ap (read_sheets formats false c) (sym (append-nil (page_bytes formats p))) ∙ written_reads_back formats formats_valid false c p [] allowed tt refl

  sheet_back : sheet_read_of c (page_bytes formats p) ≡ record { readout = lay_pages (p ∷ []) no_readout; verdict = (Ok tt) }
  unfolding sheet_read_of
  sheet_back = rw (le-ltb 65536 (length (page_bytes formats p)) (omega (arith, sheet_few n c p few s)), lines_back)

  page_read : page_of (sheet_read_of c (page_bytes formats p)).readout c ≡ p
  page_read = ap (λ (x : Reading). page_of x.readout c) sheet_back ∙ page_back c p allowed

-- ---- of the cabinet
limits : SheetLimits limits16
limits = record { width = width16; in_hand = in_hand48; greatest_state = greatest60000; greatest_number = greatest_number32 }

-- the session and the change numbers that a sheet tells have 8 digits
session_small : (s : Cabinet) → Held s → valid limits16 (view s) ≡ true → (c : ℕ) → sheet_session (view s) c < 16 ^ 8
session_small s held e c =
    cond_case (λ (k : ℕ). k < 16 ^ 8) (is_rolling (phase_of s.core.head.phase) && member s.core.rolled c)
    (λ r. let other : ¬ (s.core.head.session ≡ 4294967295) = (within s.entries s.changes s.core c e).next (and_left (is_rolling (phase_of s.core.head.phase)) (member s.core.rolled c) r) in omega (arith, held.session, other))
    (λ r. held.session)

change_small : (s : Cabinet) → Held s → (c x : ℕ) → (view s).memory.change c x < 16 ^ 8
change_small s held c x = cond_case (λ (k : ℕ). k < 16 ^ 8) (in_hand s.core.base s.core.reached c x) (λ e. held.changes (ring_place c x)) (λ e. omega arith)

pub sheets_read_back : SheetsReadBack
sheets_read_back s held e c here =
    record {
      accepted = sheet_back s.core.head.cards c (sheet_of limits16 (view s) c) few here is_sheet;
      sheet = page_read s.core.head.cards c (sheet_of limits16 (view s) c) few here is_sheet;
    }
  where
    few : s.core.head.cards ≤ 16
    few = (within s.entries s.changes s.core c e).cards

    is_sheet : SheetOf format s.core.head.cards c (sheet_of limits16 (view s) c)
    is_sheet = sheet_of_lem limits16 limits s.core.head.cards (view s) (omega (arith, few, width16)) (λ d. refl) e c here (session_small s held e c) (λ x a b. change_small s held c x)

-- ---- of what was written
-- a plan that answers bytes passed its checks, and the bytes are its
answered : (a b d : Bool) (bytes told : List ℕ) → accepted (written told) ≡ (checked (a ⇒ BadCabinet ∷ b ⇒ NoSuchCard ∷ d ⇒ TooShort ∷ []) (written bytes) []).reply → (a ≡ false) × (b ≡ false) × (told ≡ bytes)
answered true b d bytes told e = let z : ◌≡◌ {A = ℕ} 0 1 = cc in absurd (omega arith)
answered false true d bytes told e = let z : ◌≡◌ {A = ℕ} 0 1 = cc in absurd (omega arith)
answered false false true bytes told e = let z : ◌≡◌ {A = ℕ} 0 1 = cc in absurd (omega arith)
answered false false false bytes told e = (refl, refl, cc)

pub written_back : WrittenReadsBack
written_back s held c before after k next carried =
    subst (SheetReadsBack s c) (sym w.2) (sheets_read_back s held (not_not (valid limits16 (view s)) w.0) c here)
  where
    w : (not (valid limits16 (view s)) ≡ false) × (not (is_card limits16 (view s) c) ≡ false) × (take k after ≡ page_bytes formats (sheet_of limits16 (view s) c))
    w =
        answered (not (valid limits16 (view s))) (not (is_card limits16 (view s) c)) (ltb (length before) (length (page_bytes formats (sheet_of limits16 (view s) c)))) (page_bytes formats (sheet_of limits16 (view s) c)) (take k after)
        carried.told.answer

    here : c < s.core.head.cards
    here = ltb-true c s.core.head.cards (and_right (ltb c limits16.width) (present_of s.core.head.cards c) (not_not (is_card limits16 (view s) c) w.1))
