-- Laws of a line: its word, and where the next one begins. Assumes nothing.
use Rattle.std.specs.Prelude.{Option, Some, None, Result}
use Prim.Native.Nat.{ℕ, ◌+◌, ◌-◌, ◌≤◌, ◌<◌}
use mathlib.Core.Path.{◌≡◌, refl, sym, ◌∙◌, ap, ap₂}
use mathlib.Core.Bool.{Bool, cond}
use mathlib.Core.List.{List}
use native.Mathlib.Omega.{arith}
use lib.Dec.{leb, ltb}
use lib.ListN.{length, take, drop, length-drop}
use borrow.Author.Tests.{lt-leb, leb-false, lt-ltb, le-ltb, ltb-true, ltb-false}
use Rattle.base_laws.proofs.Logic.{test}
use Rattle.list_words.specs.declared.Malformed.{Malformed}
use Rattle.list_words.specs.declared.Figures.{Figures}
use Rattle.list_words.specs.Line.{figures_at}
use Rattle.base_search.specs.Search.{before}
use Rattle.base_search.proofs.Texts.{before_take, before_length}
use Rattle.list_commands.specs.declared.Command.{Command}
use Rattle.list_commands.specs.declared.Command.TheVariants.{Unreadable}
use Rattle.list_names.specs.Names.{parse_with}
use Rattle.list_parse.specs.Lines.{parse_line, line_end, next_line, token_at}

-- the word and the numbers of a line that is not too long
pub parse_read : (l : List ℕ) (end : ℕ) {f : Result Figures Malformed} {r : Command} → length l ≤ 128 → end ≡ 0 + length (before 32 (drop 0 l)) → f ≡ figures_at l end → r ≡ parse_with (take (end - 0) (drop 0 l)) f → r ≡ parse_line l
parse_read l end {f} {r} h e g p =
    p ∙ ap₂ parse_with (ap (λ (k : ℕ). take k l) from_start ∙ before_take 32 l) (g ∙ ap (figures_at l) at_word)
    ∙ sym (ap (λ (b : Bool). cond b Unreadable (parse_with (before 32 l) (figures_at l (length (before 32 l))))) (le-ltb 128 (length l) h))
  where
    at_word : end ≡ length (before 32 l)
    at_word = omega arith

    from_start : end - 0 ≡ length (before 32 l)
    from_start = omega arith

-- the place where a byte was found is inside the text
pub found_within : (s : List ℕ) (from b : ℕ) {r : ℕ} → from ≤ length s → r ≡ from + length (before b (drop from s)) → r ≤ length s
found_within s from b h e = omega (arith, before_length b (drop from s), length-drop from s)

-- a line of a text, and where the next one begins
abbrev found : Command → ℕ → Option (Command × ℕ)
found said n = Some (said, n)

module _ (s : List ℕ) (from end : ℕ) {r : Command} (h : from < length s) (e : end ≡ from + length (before 10 (drop from s))) (p : r ≡ parse_line (take (end - from) (drop from s))) where
  line_said : r ≡ parse_line (before 10 (drop from s))
  line_said =
      let k : end - from ≡ length (before 10 (drop from s)) = omega arith in
      p ∙ ap (λ (n : ℕ). parse_line (take n (drop from s))) k ∙ ap parse_line (before_take 10 (drop from s))

  line_token : (n : ℕ) → n ≡ next_line s from → Some (r, n) ≡ token_at s from
  line_token n q = ap₂ found line_said q ∙ sym (ap (λ (b : Bool). cond b None (Some ((parse_line (before 10 (drop from s))), (next_line s from)))) (lt-leb (length s) from h))

  pub token_more : end < length s → Some (r, (end + 1)) ≡ token_at s from
  token_more l =
      line_token (end + 1)
      (ap (λ (k : ℕ). k + 1) e ∙ sym (ap (λ (b : Bool). cond b (line_end s from + 1) (line_end s from)) (lt-ltb (line_end s from) (length s) (omega arith))))

  pub token_last : length s ≤ end → Some (r, end) ≡ token_at s from
  token_last l = line_token end (e ∙ sym (ap (λ (b : Bool). cond b (line_end s from + 1) (line_end s from)) (le-ltb (line_end s from) (length s) (omega arith))))

-- where the next line begins
abbrev after : Option (Command × ℕ) → ℕ
after (Some (said, n)) = n
after None = 0

-- the next line begins further on, and at the end at the latest
pub token_forward : (s : List ℕ) (from : ℕ) {r : Command} {n : ℕ} → Some (r, n) ≡ token_at s from → (from < n) × (n ≤ length s)
token_forward s from {r} {n} e =
    test (leb (length s) from)
    (λ q. let z : Some (r, n) ≡ None = e ∙ ap (λ (b : Bool). cond b None here) q in let k : ◌≡◌ {A = ℕ} 0 1 = cc in absurd (omega arith))
    (λ q.
    let z : Some (r, n) ≡ here = e ∙ ap (λ (b : Bool). cond b None here) q in
    let k : n ≡ next_line s from = ap after z in
    let l : from < length s = leb-false (length s) from q in
    let w : line_end s from ≤ length s = found_within s from 10 (omega arith) refl in
    test (ltb (line_end s from) (length s))
    (λ p. let m : n ≡ line_end s from + 1 = k ∙ ap (λ (b : Bool). cond b (line_end s from + 1) (line_end s from)) p in (omega arith, omega (arith, ltb-true (line_end s from) (length s) p)))
    (λ p. let m : n ≡ line_end s from = k ∙ ap (λ (b : Bool). cond b (line_end s from + 1) (line_end s from)) p in (omega (arith, ltb-false (line_end s from) (length s) p), omega arith)))
  where
    here : Option (Command × ℕ)
    here = Some ((parse_line (before 10 (drop from s))), (next_line s from))
