-- Every line of a text gets an answer, and so does every text. Assumes nothing.
use Rattle.std.specs.Prelude.{Option, Some, None}
use Prim.Native.Nat.{ℕ, zero, suc, ◌+◌, ◌-◌, ◌≤◌, min}
use mathlib.Core.Path.{◌≡◌, refl, sym, ◌∙◌, ap}
use mathlib.Core.Bool.{Bool, true, false, cond}
use mathlib.Core.Logic.{inl, by_cases}
use mathlib.Core.List.{List, [], ◌∷◌, ◌++◌}
use native.Mathlib.Nat.{le_refl}
use native.Mathlib.Decide.{dec_lt}
use native.Mathlib.Omega.{arith}
use lib.Dec.{leb}
use lib.ListN.{length}
use lib.Seq.{sets}
use Rattle.base_laws.proofs.Logic.{test}
use Rattle.base_refusal.specs.declared.Refusal.{Refusal}
use Rattle.base_refusal.proofs.Rows.{row_of}
use Rattle.base_refusal.specs.declared.Refusal.TheVariants.{CardCount, NoSuchCard}
use Rattle.base_bits.specs.Member.{member}
use Rattle.theory_protocol.specs.Plan.{done, Plan, accepted, refused, ◌⇒◌}
use Rattle.theory_protocol.specs.Calls.{fresh_refused, open_plan, vote_plan, take_plan, withdraw_plan, store_plan, begin_plan, end_plan, trim_plan, safe_plan, lose_plan, fix_plan, roll_plan}
use Rattle.theory_protocol.specs.Codec.{sheet_plan}
use Rattle.theory_protocol.proofs.Claims.{not_both}
use Rattle.theory_codec.specs.Sheets.{restart_reply, codec}
use Rattle.sheet_readout.specs.Joint.{readout_of}
use Rattle.cabinet_layout.specs.Shape.{limits16}
use Rattle.cabinet.specs.declared.Cabinet.{Cabinet}
use Rattle.cabinet.specs.View.{view}
use Rattle.cabinet.specs.Apply.{apply_all}
use Rattle.cabinet.specs.Fresh.{zero_cabinet, fresh_head}
use Rattle.cabinet_restart.specs.Restart.{cabinet_for}
use Rattle.cabinet_joined.specs.Joined.{own_sheets, own_reply, going_on as Going-on}
use Rattle.base_text.specs.declared.Progress.{Progress}
use Rattle.base_text.specs.declared.Progress.TheVariants.{Next, Counting, TooShort}
use Rattle.base_text.specs.Put.{place_after, whole_after, Whole}
use Rattle.list_commands.specs.declared.Command.{Command}
use Rattle.list_commands.specs.declared.Command.TheVariants.{Fresh, Asks, Unreadable}
use Rattle.list_commands.specs.declared.Request.{Request}
use Rattle.list_commands.specs.declared.Request.TheVariants.{Open, Vote, Take, Withdraw, Store, Begin, End, Trim, Safe, Lose, Fix, Roll, Sheet, Restart, Show, Frames}
use Rattle.list_parse.specs.Lines.{token_at}
use Rattle.list_parse.proofs.Lines.{token_forward}
use Rattle.list_answer_words.specs.Words.{refused_text, none_text, unreadable_text}
use Rattle.list_answers.specs.Texts.{reply_text}
use Rattle.list_results.specs.declared.Replay.{Replay}
use Rattle.list_results.specs.Result.{Planned, reads_beyond, writes_beyond, open_within, set_beyond, lost_within, Result}
use Rattle.list_results.specs.Step.{fresh_reply, after_fresh, Asked as AskedOf, Steps}
use Rattle.list_results.specs.Going.{nothing_yet}
use Rattle.list_texts.specs.Executed.{Executed}
use Rattle.list_texts.specs.Steps.{Ran, no_line, one_more, Replayed}
use Rattle.list_texts.proofs.Same.{Alike, steps_alike}
use Rattle.list_texts.proofs.Once.{same_text}
use Rattle.demands_lists.specs.Claims.{Said, answers, refuses}
use Rattle.demands_lists.proofs.Refusing.{every}
use Rattle.demands_whole.specs.Texts.{unreadable}
use Rattle.demands_whole.specs.Demand1.{LineGets, freshened, called, none_yet, no_call, StepAnswers, RunAnswers}
use Rattle.demands_whole.proofs.Meant as meaning
use Rattle.demands_whole.proofs.Meant.{Meant, meant}
use Rattle.demands_whole.proofs.Texts.{same_replay}

-- ---- there is an answer
-- some cabinet and some text
abbrev Tells : Cabinet → Request → Type 0
Tells c q = (next : Cabinet) × (text : List ℕ) × Result c q next text

by_plan : (c : Cabinet) (p : Plan) → (next : Cabinet) × (text : List ℕ) × Planned c p next text
by_plan c p = (apply_all p.edits c, reply_text p.reply, record { cabinet = refl; answer = refl })

tells : (c : Cabinet) (q : Request) → Tells c q
tells c (Open reads writes) =
    by_cases (dec_lt 65535 reads) (λ b. (c, refused_text NoSuchCard, reads_beyond b (record { cabinet = refl; answer = refl })))
    (λ b. by_cases (dec_lt 65535 writes) (λ d. (c, refused_text NoSuchCard, writes_beyond d (record { cabinet = refl; answer = refl })))
    (λ d. let e = by_plan c (open_plan limits16 (view c) (member reads) (member writes)) in (e.0, e.1, open_within (omega (arith, b)) (omega (arith, d)) e.2)))
tells c (Vote change card agrees) = by_plan c (vote_plan limits16 (view c) change card agrees)
tells c (Take change card) = by_plan c (take_plan limits16 (view c) change card)
tells c (Withdraw change) = by_plan c (withdraw_plan limits16 (view c) change)
tells c (Store card state) = by_plan c (store_plan limits16 (view c) card state)
tells c (Begin card state) = by_plan c (begin_plan limits16 (view c) card state)
tells c (End card state) = by_plan c (end_plan limits16 (view c) card state)
tells c Trim = by_plan c (trim_plan limits16 (view c))
tells c (Safe change) = by_plan c (safe_plan limits16 (view c) change)
tells c (Lose cards) =
    by_cases (dec_lt 65535 cards) (λ b. (c, refused_text NoSuchCard, set_beyond b (record { cabinet = refl; answer = refl })))
    (λ b. let d = by_plan c (lose_plan limits16 (view c) (member cards)) in (d.0, d.1, lost_within (omega (arith, b)) d.2))
tells c (Fix records numbers) = by_plan c (fix_plan limits16 (view c) (min records 16) (min numbers 776))
tells c (Roll card) = by_plan c (roll_plan limits16 (view c) card)
tells c (Sheet card bytes) = by_plan c (sheet_plan codec limits16 (view c) card (min bytes 65536))
tells c Restart = (
  Going-on (own_reply c) (cabinet_for (restart_reply (own_sheets c)) (readout_of (own_sheets c)).readout) c,
  reply_text (own_reply c),
  record { reply = own_reply c; restarted = record { answer = refl; cabinet = refl }; answer = refl },
)
tells c Show = (c, _, record { cabinet = refl; answer = refl })
tells c (Frames card) = (c, _, record { cabinet = refl; answer = refl })

-- a line
some : (said : Command) (r : Replay) → (next : Replay) × (text : List ℕ) × Steps said r next text
some (Fresh n) r = (after_fresh n r, reply_text (fresh_reply n), record { same = refl; answer = refl })
some (Asks q) r = by_begun r.begun
  where
    by_begun : (b : Bool) → (next : Replay) × (text : List ℕ) × AskedOf b q r next text
    by_begun true = let d : Tells r.cabinet q = tells r.cabinet q in (record { cabinet = d.0; begun = true }, d.1, record { begun = refl; told = d.2 })
    by_begun false = (r, none_text, record { same = refl; answer = refl })
some Unreadable r = (r, unreadable_text, record { same = refl; answer = refl })

-- ---- every one is as said
-- a fresh cabinet takes the place of the present one, or not
fresh_line : (b : Bool) (r new : Replay) → Said (b ⇒ CardCount ∷ []) (cond b (refused CardCount) (accepted done)) × ((q : Refusal) → cond b (refused CardCount) (accepted done) ≡ refused q → cond b r new ≡ r)
fresh_line true r new = (refuses CardCount (inl (refl, refl)) (row_of CardCount).listed, λ q e. refl)
fresh_line false r new = (answers done (refl, tt), λ q e. not_both done q e)

each : (said : Command) (r next : Replay) (text : List ℕ) → Steps said r next text → LineGets said r next text
each (Fresh n) r next text st =
    let f = fresh_line (fresh_refused limits16 n) r (record { cabinet = zero_cabinet (fresh_head n); begun = true }) in
    freshened n refl (fresh_reply n) f.0 (λ q e. st.same ∙ f.1 q e) st.answer
each (Asks q) r next text st = by_begun r.begun refl st
  where
    by_begun : (b : Bool) → r.begun ≡ b → AskedOf b q r next text → LineGets (Asks q) r next text
    by_begun true e o = of_meant (meant r.cabinet next.cabinet text q o.told)
      where
        of_meant : Meant r.cabinet q next.cabinet text → LineGets (Asks q) r next text
        of_meant (meaning.called a k typed reply after d z) = called a k reply after (every r.cabinet a reply next.cabinet after d) z
        of_meant (meaning.stayed k z) = no_call k (same_replay r next z (o.begun ∙ sym e))
    by_begun false e o = none_yet e o.same o.answer
each Unreadable r next text st = no_call unreadable st.same

-- ---- a buffer too short
not_short : {A : Type 0} (n : ℕ) → TooShort ≡ Next n → A
not_short n e = let z : ◌≡◌ {A = ℕ} 0 1 = cc in absurd (omega arith)

nothing_written : (b : List ℕ) (w : Progress) (t e : List ℕ) → Whole b w t TooShort e → e ≡ b
nothing_written b (Next at) t e p =
    test (leb (length t) (length b - at)) (λ q. not_short (at + length t) (p.answer ∙ ap (λ (x : Bool). cond x (Next (at + length t)) TooShort) q))
    (λ q. p.buffer ∙ ap (λ (x : Bool). cond x (sets b at t) b) q)
nothing_written b (Counting n) t e p = p.buffer
nothing_written b TooShort t e p = p.buffer

short : (said : Command) (r : Replay) (b : List ℕ) (w : Progress) (after : Replay) (e : List ℕ) → Executed said r b w after TooShort e → (after ≡ r) × (e ≡ b)
short said r b w after e o = (o.replay, nothing_written b w o.text e o.put)

one_line_one_answer : (said : Command) (r next next' : Replay) (text text' : List ℕ) → Steps said r next text → Steps said r next' text' → (next ≡ next') × (text ≡ text')
one_line_one_answer said r next next' text text' a b = let k : Alike next next' text text' = steps_alike said r a b in (k.same, k.text)

pub step_answers : StepAnswers
step_answers = record { some = some; one = one_line_one_answer; each = each; short = short }

-- ---- a whole list
module _ (s : List ℕ) where
  -- the lines to the end
  record Ended : Type 0 where
    pub place : ℕ
    pub last : Replay
    pub text : List ℕ
    pub ran : Ran s nothing_yet place last text
    pub end : token_at s place ≡ None

  -- what stands at a place that is no end is before the end
  more : {said : Command} {place : ℕ} (k at : ℕ) → length s - at ≤ k → Some (said, place) ≡ token_at s at → (1 ≤ k) × (length s - place ≤ k - 1)
  more k at h e = let f = token_forward s at e in (omega (arith, f.0, f.1), omega (arith, f.0, f.1))

  -- at the end
  at_end : (at : ℕ) (r : Replay) (t : List ℕ) → Ran s nothing_yet at r t → length s - at ≤ 0 → (h : Option (Command × ℕ)) → token_at s at ≡ h → Ended
  at_end at r t ran l None e = record { place = at; last = r; text = t; ran = ran; end = e }
  at_end at r t ran l (Some (said, place)) e = let m = more 0 at l (sym e) in absurd (omega (arith, m.0))

  -- one line, and on from there
  one_line : (k : ℕ) → ((at : ℕ) (r : Replay) (t : List ℕ) → Ran s nothing_yet at r t → length s - at ≤ k → Ended)
      → (at : ℕ) (r : Replay) (t : List ℕ) → Ran s nothing_yet at r t → length s - at ≤ suc k → (h : Option (Command × ℕ)) → token_at s at ≡ h → Ended
  one_line k on at r t ran l None e = record { place = at; last = r; text = t; ran = ran; end = e }
  one_line k on at r t ran l (Some (said, place)) e =
      let d : (next : Replay) × (text : List ℕ) × Steps said r next text = some said r in
      on place d.0 (t ++ d.1) (one_more ran said place (sym e) d.0 d.1 d.2) (omega (arith, (more (suc k) at l (sym e)).1))

  runs_on : (k at : ℕ) (r : Replay) (t : List ℕ) → Ran s nothing_yet at r t → length s - at ≤ k → Ended
  runs_on zero at r t ran l = at_end at r t ran l (token_at s at) refl
  runs_on (suc k) at r t ran l = one_line k (runs_on k) at r t ran l (token_at s at) refl

  ended : Ended
  ended = runs_on (length s - 0) 0 nothing_yet [] no_line (le_refl (length s - 0))

  one_text_one_answer : (b : List ℕ) (w w' : Progress) (e e' : List ℕ) → Replayed s nothing_yet b w e → Replayed s nothing_yet b w' e' → (w ≡ w') × (e ≡ e')
  one_text_one_answer b w w' e e' p q =
      let same : p.text ≡ q.text = same_text s nothing_yet p.ran q.ran p.end q.end in
      (p.put.answer ∙ ap (place_after (length b) (Next 0)) same ∙ sym q.put.answer, p.put.buffer ∙ ap (whole_after b (Next 0)) same ∙ sym q.put.buffer)

pub run_answers : RunAnswers
run_answers =
    record {
      some = λ s b. let d : Ended s = ended s in (
        place_after (length b) (Next 0) d.text,
        whole_after b (Next 0) d.text,
        record { place = d.place; last = d.last; text = d.text; ran = d.ran; end = d.end; put = record { answer = refl; buffer = refl } },
      );
      one = one_text_one_answer;
      short = λ s b e d. nothing_written b (Next 0) d.text e d.put;
    }
