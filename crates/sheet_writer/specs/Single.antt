-- What the writer of one sheet answers and leaves in the buffer.
use Rattle.std.specs.Prelude.{ℕ, ◌+◌, cond, List, Ok, Err}
use Rattle.base_refusal.specs.declared.Refusal.TheVariants.{BadHeader, BadFrame}
use Rattle.base_refusal.specs.Reply.{Reply}
use Rattle.sheet_lines.specs.Format.{formats}
use Rattle.sheet_lines.specs.Lines.{cards_of, format_for, header_allowed, no_frame}
use Rattle.sheet_pages.specs.Pages.{Page, page_bytes}
use Rattle.sheet_pages.specs.Allowed.{frames_allowed}
use Rattle.sheet_page_writer.specs.Write.{Wrote, wrote_bytes}

-- a sheet that is no sheet is refused with the number that the reader would give
unfoldable pub page_verdict : Page → Reply
page_verdict p =
    cond (header_allowed (format_for formats p.header) p.header.card 0 p.header)
    (cond (frames_allowed (format_for formats p.header) p.header.card (cards_of (format_for formats p.header) p.header) (p.header.base + 1) no_frame p.frames) (Ok tt) (Err BadFrame)) (Err BadHeader)

-- 7, then 9, then 4
unfoldable pub wrote : Page → List ℕ → Wrote
wrote p buffer = wrote_bytes (page_verdict p) (page_bytes formats p) buffer
