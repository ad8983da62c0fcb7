-- Laws of the lines of a text. Assumes nothing.
use Rattle.std.specs.Prelude.{Option, Some, None}
use Prim.Native.Nat.{ℕ, ◌+◌, ◌-◌, ◌≤◌, ◌<◌}
use mathlib.Core.Path.{◌≡◌, refl, sym, ◌∙◌, ap, ap₂, subst}
use mathlib.Core.List.{List, [], ◌++◌}
use native.Mathlib.Omega.{arith}
use lib.Dec.{leb}
use lib.ListN.{length, length-append}
use lib.Seq.{sets}
use borrow.Author.Tests.{leb-true, leb-false}
use Rattle.base_laws.proofs.Logic.{test}
use Rattle.base_laws.proofs.Seq.{sets_append}
use Rattle.base_text.specs.declared.Progress.{Progress}
use Rattle.base_text.specs.declared.Progress.TheVariants.{Next, Counting, TooShort}
use Rattle.list_commands.specs.declared.Command.{Command}
use Rattle.list_parse.specs.Lines.{token_at}
use Rattle.base_text.specs.Put.{greatest, counted_on, place_after, buffer_after, Put, whole_after, fitting_of}
use Rattle.base_text.proofs.Puts.{place_fits, place_beyond, count_fits, count_beyond, put_nothing, put_then, put_length}
use Rattle.base_text.proofs.Wholes.{whole_fits, whole_kept, whole_length, fitting_fits, fitting_beyond}
use Rattle.list_results.specs.declared.Replay.{Replay}
use Rattle.list_results.specs.Result.{Written}
use Rattle.list_results.specs.Step.{Steps}
use Rattle.list_results.specs.Going.{nothing_yet}
use Rattle.list_texts.specs.Steps.{Ran, no_line, one_more, Holds, Passed, Replayed}
use Rattle.list_texts.proofs.Once.{same_text}

-- ---- texts one after the other

place_then : (b : List ℕ) (from : Progress) (t u : List ℕ) → place_after (length b) (place_after (length b) from t) u ≡ place_after (length b) from (t ++ u)
place_then b from t u =
    let p : Put b from t (place_after (length b) from t) (buffer_after b from t) = record { answer = refl; buffer = refl } in
    let c : List ℕ = buffer_after b from t in
    let q : Put c (place_after (length b) from t) u (place_after (length c) (place_after (length b) from t) u) (buffer_after c (place_after (length b) from t) u) = record { answer = refl; buffer = refl } in
    sym (ap (λ (n : ℕ). place_after n (place_after (length b) from t) u) (put_length p)) ∙ (put_then p q).answer

holds_none : (b : List ℕ) (from : Progress) → Holds b from [] b
holds_none b (Next at) = λ h. refl
holds_none b (Counting n) = refl
holds_none b TooShort = refl

-- where texts are counted nothing is written
count_writes_nothing : (b : List ℕ) (n k : ℕ) (u : List ℕ) → whole_after b (counted_on n k) u ≡ b
count_writes_nothing b n k u =
    test (leb k (greatest - n))
    (λ e. ap (λ (w : Progress). whole_after b w u) (count_fits n k (leb-true k (greatest - n) e)))
    (λ e. ap (λ (w : Progress). whole_after b w u) (count_beyond n k (leb-false k (greatest - n) e)))

holds_more : (b : List ℕ) (from : Progress) (t u : List ℕ) (w : Progress) (e f : List ℕ) → Holds b from t e → w ≡ place_after (length b) from t → length e ≡ length b → f ≡ whole_after e w u → Holds b from (t ++ u) f
holds_more b (Next at) t u w e f h a l g = λ (room : length (t ++ u) ≤ length b - at).
    let long : length (t ++ u) ≡ length t + length u = length-append t u in
    let fits : length t ≤ length b - at = omega arith in
    let next : w ≡ Next (at + length t) = a ∙ place_fits (length b) at t fits in
    let left : length u ≤ length e - (at + length t) = omega arith in
    g ∙ ap (λ (v : Progress). whole_after e v u) next ∙ whole_fits e (at + length t) u left
    ∙ ap (λ (x : List ℕ). sets x (at + length t) u) (h fits) ∙ sym (sets_append t b at u)
holds_more b (Counting n) t u w e f h a l g = g ∙ ap (λ (v : Progress). whole_after e v u) a ∙ count_writes_nothing e n (length t) u ∙ h
holds_more b TooShort t u w e f h a l g = g ∙ ap (λ (v : Progress). whole_after e v u) a ∙ h

-- ---- the lines before a place are done, and their answers written or counted

pub record Going (s : List ℕ) (b : List ℕ) (from : Progress) (at : ℕ) (now : Replay) (w : Progress) (e : List ℕ) : Type 0 where
  pub text : List ℕ
  pub ran : Ran s nothing_yet at now text
  pub answer : w ≡ place_after (length b) from text
  pub size : length e ≡ length b
  pub buffer : Holds b from text e

pub going_none : {s : List ℕ} {r : Replay} (b : List ℕ) (from : Progress) → r ≡ nothing_yet → Going s b from 0 r from b
going_none {s} {r} b from z =
    subst (λ (x : Replay). Going s b from 0 x from b) (sym z) (record { text = []; ran = no_line; answer = (put_nothing b from).answer; size = refl; buffer = holds_none b from })

pub going_more : {s b : List ℕ} {from : Progress} {at : ℕ} {r : Replay} {w : Progress} {e : List ℕ} {h : (Option (Command × ℕ))} {said : Command} {place : ℕ} {next : Replay} {x : Progress} {f : List ℕ}
    → Going s b from at r w e → h ≡ token_at s at → h ≡ Some (said, place) → Written (Steps said r next) e w x f → Going s b from place next x f
going_more {s} {b} {from} {at} {r} {w} {e} {h} {said} {place} {next} {x} {f} g l z u =
    record {
      text = g.text ++ u.text;
      ran = one_more g.ran said place (sym z ∙ l) next u.text u.told;
      answer = u.put.answer ∙ ap₂ (λ (n : ℕ) (v : Progress). place_after n v u.text) g.size g.answer ∙ place_then b from g.text u.text;
      size = whole_length u.put ∙ g.size;
      buffer = holds_more b from g.text u.text w e f g.buffer g.answer g.size u.put.buffer;
    }

pub going_ends : {s b : List ℕ} {from : Progress} {at : ℕ} {r : Replay} {w : Progress} {e : List ℕ} {h : (Option (Command × ℕ))} → Going s b from at r w e → h ≡ token_at s at → h ≡ None → Passed s nothing_yet b from w e
going_ends {at = at} {r = r} g l z = record { place = at; last = r; text = g.text; ran = g.ran; end = sym l ∙ z; answer = g.answer; size = g.size; buffer = g.buffer }

-- ---- counted, and written where all has room

module _ {s b : List ℕ} {n : Progress} {b₁ : List ℕ} {from : Progress} (small : length b ≤ greatest) (p : Passed s nothing_yet b (Counting 0) n b₁) (f : from ≡ fitting_of (length b₁) (Next 0) n) where
  fitted : from ≡ fitting_of (length b) (Next 0) (counted_on 0 (length p.text))
  fitted = f ∙ ap₂ (λ (k : ℕ) (v : Progress). fitting_of k (Next 0) v) p.size p.answer

  there : length p.text ≤ length b - 0 → from ≡ Next 0
  there h = fitted ∙ fitting_fits (length b) 0 p.text h (omega arith)

  nowhere : length b - 0 < length p.text → from ≡ TooShort
  nowhere h = fitted ∙ fitting_beyond (length b) 0 p.text h

  kept : length b - 0 < length p.text → Replayed s nothing_yet b TooShort b₁
  kept h =
      record {
        place = p.place;
        last = p.last;
        text = p.text;
        ran = p.ran;
        end = p.end;
        put = record { answer = sym (place_beyond (length b) 0 p.text h); buffer = p.buffer ∙ sym (whole_kept b 0 p.text h) };
      }

  pub replayed_short : from ≡ TooShort → Replayed s nothing_yet b TooShort b₁
  replayed_short z =
      test (leb (length p.text) (length b - 0))
      (λ e.
      let y : from ≡ Next 0 = there (leb-true (length p.text) (length b - 0) e) in
      let k : ◌≡◌ {A = ℕ} 0 1 = cc in absurd (omega arith))
      (λ e. kept (leb-false (length p.text) (length b - 0) e))

  pub replayed_counting : {k : ℕ} → from ≡ Counting k → Replayed s nothing_yet b TooShort b₁
  replayed_counting z =
      test (leb (length p.text) (length b - 0))
      (λ e.
      let y : from ≡ Next 0 = there (leb-true (length p.text) (length b - 0) e) in
      let k : ◌≡◌ {A = ℕ} 0 1 = cc in absurd (omega arith))
      (λ e. kept (leb-false (length p.text) (length b - 0) e))

  written : {w : Progress} {e : List ℕ} → length p.text ≤ length b - 0 → Passed s nothing_yet b (Next 0) w e → Replayed s nothing_yet b w e
  written h q =
      let same : length p.text ≡ length q.text = ap length (same_text s nothing_yet p.ran q.ran p.end q.end) in
      let room : length q.text ≤ length b - 0 = omega arith in
      record {
        place = q.place;
        last = q.last;
        text = q.text;
        ran = q.ran;
        end = q.end;
        put = record { answer = q.answer; buffer = q.buffer room ∙ sym (whole_fits b 0 q.text room) };
      }

  pub replayed_whole : {at : ℕ} {w : Progress} {e : List ℕ} → from ≡ Next at → Passed s nothing_yet b₁ (Next at) w e → Replayed s nothing_yet b w e
  replayed_whole {at} {w} {e} z q =
      test (leb (length p.text) (length b - 0))
      (λ x.
      let h : length p.text ≤ length b - 0 = leb-true (length p.text) (length b - 0) x in
      let y : Next at ≡ Next 0 = sym z ∙ there h in
      written h (subst (λ (l : List ℕ). Passed s nothing_yet l (Next 0) w e) p.buffer (subst (λ (v : Progress). Passed s nothing_yet b₁ v w e) y q)))
      (λ x.
      let y : from ≡ TooShort = nowhere (leb-false (length p.text) (length b - 0) x) in
      let k : ◌≡◌ {A = ℕ} 0 1 = cc in absurd (omega arith))
