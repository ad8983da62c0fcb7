-- What is written of a card's sheet reads back the same, and what is read is written again. Assumes nothing.
use Rattle.std.specs.Prelude.{Ok, Err}
use Prim.Native.Nat.{ℕ, suc, ◌+◌, ◌*◌, ◌≤◌, ◌<◌}
use mathlib.Core.Path.{◌≡◌, refl, sym, ◌∙◌, ap, ap₂}
use mathlib.Core.Bool.{Bool, true, false, cond}
use mathlib.Core.List.{List, [], ◌∷◌, append-nil}
use native.Mathlib.Omega.{arith}
use lib.Dec.{ltb, leb}
use lib.ListN.{length, take}
use lib.Seq.{sets}
use borrow.Author.Tests.{le-ltb, le-leb, leb-true}
use Rattle.base_laws.proofs.Seq.{sets_part}
use Rattle.base_laws.proofs.Fill.{length_tabulate}
use Rattle.base_refusal.specs.declared.Refusal.TheVariants.{TooShort, BadHeader, BadFrame, TooLong}
use Rattle.base_refusal.specs.Reply.{Reply}
use Rattle.sheet_lines.specs.declared.Header.{Header}
use Rattle.sheet_lines.specs.Format.{format, formats}
use Rattle.sheet_lines.specs.Lines.{header_allowed, no_frame}
use Rattle.sheet_lines.proofs.Passed.{Header-in-limits, header_limits}
use Rattle.sheet_pages.specs.declared.Readout.{Readout}
use Rattle.sheet_pages.specs.declared.Reading.{Reading}
use Rattle.sheet_pages.specs.Pages.{Page, page_bytes, pages_bytes, read_sheets}
use Rattle.sheet_pages.specs.Allowed.{frames_allowed, Allowed}
use Rattle.sheet_pages.specs.Walk.{no_readout, lay_page, lay_pages, answered}
use Rattle.sheet_pages.specs.Ring.{ring_frame, header_of, page_of}
use Rattle.sheet_pages.proofs.Round.{formats_valid, written_reads_back, read_writes_again}
use Rattle.sheet_pages.proofs.Read.{sheet_read}
use Rattle.sheet_pages.proofs.Back.{page_back}
use Rattle.sheet_page_writer.specs.Write.{Wrote, wrote_bytes}
use Rattle.sheet_page_writer.proofs.Rows.{rows_bytes, sheet_length, line_bound, lines_bound}
use Rattle.sheet_writer.specs.Single.{page_verdict, wrote}
use Rattle.sheet_reader.specs.Single.{sheet_read_of}
use Rattle.sheet_round.specs.Claims.{Held, alone, WrittenReadsBack, PageReadsBack, SameReadsBack, ReadWritesAgain, ReadIsAlone}
use Rattle.sheet_round.proofs.Rows.{ring_formed, sessions_small, changes_small}

-- ---- written, then read

-- the writer accepts a sheet whose header and frames are allowed, and no other
record Judged (p : Page) : Type 0 where
  header : header_allowed format p.header.card 0 p.header ≡ true
  frames : frames_allowed format p.header.card p.header.cards (p.header.base + 1) no_frame p.frames ≡ true

judged : (p : Page) → page_verdict p ≡ Ok tt → Judged p
unfolding page_verdict
judged p e = by (header_allowed format p.header.card 0 p.header) (frames_allowed format p.header.card p.header.cards (p.header.base + 1) no_frame p.frames) refl refl e
  where
    by : (h f : Bool) → header_allowed format p.header.card 0 p.header ≡ h → frames_allowed format p.header.card p.header.cards (p.header.base + 1) no_frame p.frames ≡ f → ◌≡◌ {A = Reply} (cond h (cond f (Ok tt) (Err BadFrame)) (Err BadHeader)) (Ok tt) → Judged p
    by true true x y v = record { header = x; frames = y }
    by true false x y v = let z : ◌≡◌ {A = ℕ} 0 1 = cc in absurd (omega arith)
    by false f x y v = let z : ◌≡◌ {A = ℕ} 0 1 = cc in absurd (omega arith)

judged_accepted : (p : Page) → Judged p → page_verdict p ≡ Ok tt
unfolding page_verdict
judged_accepted p j = rw (j.header, j.frames)

module _ (r : Readout) (held : Held r) (c : ℕ) (e : page_verdict (page_of r c) ≡ Ok tt) where
  abbrev h : Header
  h = header_of r c

  limits : Header-in-limits format c 0 h
  limits = header_limits format c 0 h (judged (page_of r c) e).header

  page_allowed : Allowed format c 0 (page_of r c)
  page_allowed =
      record {
        header = (judged (page_of r c) e).header;
        session = held.sessions c;
        count = sym (length_tabulate h.count (λ k. ring_frame r.changes r.entries h.cards c (suc (h.base + k))));
        formed = ring_formed r.changes r.entries held.changes h.cards c (λ k. suc (h.base + k)) h.count;
        frames = (judged (page_of r c) e).frames;
      }

  read_is : read_sheets formats false c (page_bytes formats (page_of r c)) ≡ record { pages = page_of r c ∷ []; verdict = Ok tt; rest = [] }
  read_is =
      ap (read_sheets formats false c) (sym (append-nil (page_bytes formats (page_of r c)))) ∙ written_reads_back formats formats_valid false c (page_of r c) [] page_allowed tt refl

  bytes_few : length (page_bytes formats (page_of r c)) ≤ 65536
  bytes_few =
      omega (arith, ap length (rows_bytes r.changes r.entries h limits.cards), sheet_length format r.changes r.entries h refl limits.cards, lines_bound h.count (4 + 8 + h.cards * 4 + 5) limits.count (line_bound 4 h.cards (omega arith) limits.cards))

  bytes_back : sheet_read_of c (page_bytes formats (page_of r c)) ≡ record { readout = alone r c; verdict = Ok tt }
  unfolding sheet_read_of
  bytes_back = rw (le-ltb 65536 (length (page_bytes formats (page_of r c))) bytes_few, read_is)

-- an answer with a length is that of an accepted sheet, whose bytes stand at the front of the buffer
abbrev front : Bool → List ℕ → List ℕ → Wrote
front b bytes buffer = cond b (record { answer = Ok (length bytes); buffer = sets buffer 0 bytes }) (record { answer = Err TooShort; buffer = buffer })

length_written : (v : Reply) (bytes buffer : List ℕ) (n : ℕ) → (wrote_bytes v bytes buffer).answer ≡ Ok n → (v ≡ Ok tt) × (take n (wrote_bytes v bytes buffer).buffer ≡ bytes)
length_written (Err r) bytes buffer n e = let z : ◌≡◌ {A = ℕ} 0 1 = cc in absurd (omega arith)
length_written (Ok _) bytes buffer n e = by (leb (length bytes) (length buffer)) refl e
  where
    by : (b : Bool) → leb (length bytes) (length buffer) ≡ b → (front b bytes buffer).answer ≡ Ok n → ◌≡◌ {A = Reply} (Ok tt) (Ok tt) × (take n (front b bytes buffer).buffer ≡ bytes)
    by true q w =
        let l : length bytes ≡ n = cc in
        let fits : 0 + length bytes ≤ length buffer = omega (arith, leb-true (length bytes) (length buffer) q) in
        (refl, rw (← l) (sets_part bytes buffer 0 fits))
    by false q w = let z : ◌≡◌ {A = ℕ} 0 1 = cc in absurd (omega arith)

pub written_reads_back_by_value : WrittenReadsBack
unfolding wrote
written_reads_back_by_value r held c buffer n e =
    let w = length_written (page_verdict (page_of r c)) (page_bytes formats (page_of r c)) buffer n e in
    rw w.1 (bytes_back r held c w.0)

verdict_written : (p : Page) (buffer : List ℕ) (n : ℕ) → (wrote p buffer).answer ≡ Ok n → page_verdict p ≡ Ok tt
unfolding wrote
verdict_written p buffer n e = (length_written (page_verdict p) (page_bytes formats p) buffer n e).0

pub page_reads_back : PageReadsBack
page_reads_back r held c buffer n e =
    ap (λ (x : Reading). page_of x.readout c) (written_reads_back_by_value r held c buffer n e) ∙ page_back c (page_of r c) (page_allowed r held c (verdict_written (page_of r c) buffer n e))

pub same_reads_back : SameReadsBack
same_reads_back r held c q buffer n e = written_reads_back_by_value r held c buffer n e ∙ ap (λ (x : Readout). record { readout = x; verdict = Ok tt }) q

-- ---- read, then written

-- an accepted sheet is not too long, and its lines are accepted
pub verdict_accepted : (long : Bool) (v : Reply) → cond long (Err TooLong) v ≡ Ok tt → (long ≡ false) × (v ≡ Ok tt)
verdict_accepted true v e = let z : ◌≡◌ {A = ℕ} 0 1 = cc in absurd (omega arith)
verdict_accepted false v e = (refl, e)

-- what was read of an accepted sheet: a page within the limits, laid into the read-out of zeros
record Read (card : ℕ) (input : List ℕ) : Type 0 where
  page : Page
  allowed : Allowed format card 0 page
  bytes : page_bytes formats page ≡ input
  readout : (sheet_read_of card input).readout ≡ lay_page page no_readout

readout_is : (long : Bool) (v : Reply) (ps : List Page) (p : Page) → long ≡ false → v ≡ Ok tt → ps ≡ p ∷ [] → (answered (cond long (Err TooLong) v) ps).readout ≡ lay_page p no_readout
readout_is long v ps p x y z = rw (x, y, z)

read : (card : ℕ) (input : List ℕ) → (sheet_read_of card input).verdict ≡ Ok tt → Read card input
unfolding sheet_read_of
read card input e =
    let v = (read_sheets formats false card input).verdict in
    let a = verdict_accepted (ltb 65536 (length input)) v e in
    let r = sheet_read formats card input a.1 in
    record {
      page = r.page;
      allowed = r.allowed;
      bytes = sym (append-nil (page_bytes formats r.page)) ∙ ap (pages_bytes formats) (sym r.pages) ∙ read_writes_again formats false card input a.1;
      readout = readout_is (ltb 65536 (length input)) v (read_sheets formats false card input).pages r.page a.0 a.1 r.pages;
    }

page_is : (card : ℕ) (input : List ℕ) (r : Read card input) → page_of (sheet_read_of card input).readout card ≡ r.page
page_is card input r = ap (λ (x : Readout). page_of x card) r.readout ∙ page_back card r.page r.allowed

page_judged : (due : ℕ) (p : Page) → Allowed format due 0 p → Judged p
page_judged due p a =
    record { header = ap (λ (c : ℕ). header_allowed format c 0 p.header) (header_limits format due 0 p.header a.header).card ∙ a.header; frames = a.frames }

pub read_writes_again_by_value : ReadWritesAgain
unfolding wrote
read_writes_again_by_value card input e buffer l =
    let r = read card input e in
    ap (λ (p : Page). wrote_bytes (page_verdict p) (page_bytes formats p) buffer) (page_is card input r)
    ∙ ap₂ (λ (v : Reply) (bytes : List ℕ). wrote_bytes v bytes buffer) (judged_accepted r.page (page_judged card r.page r.allowed)) r.bytes
    ∙ ap (λ (b : Bool). front b input buffer) (le-leb (length input) (length buffer) l)

pub read_is_alone : ReadIsAlone
read_is_alone card input e =
    let r = read card input e in
    let p = r.page in
    let w = header_limits format card 0 p.header r.allowed.header in
    let is_card_lem : p.header.card < 16 = omega (arith, w.below, w.cards) in (
      rw r.readout (record { sessions = sessions_small p.header.cards p r.allowed.formed r.allowed.session is_card_lem; changes = changes_small p.header.cards p r.allowed.formed r.allowed.session is_card_lem }),
      ap (λ (x : Page). lay_pages (x ∷ []) no_readout) (page_is card input r) ∙ sym r.readout,
    )
