-- What runs of a text is lists of calls, and demands 2 and 3 hold of them. Assumes nothing.
use Rattle.std.specs.Prelude.{Some}
use Prim.Native.Nat.{ℕ}
use mathlib.Core.Path.{◌≡◌, refl, sym, ◌∙◌, ap, subst}
use mathlib.Core.Bool.{Bool, true, false, cond}
use mathlib.Core.List.{List, ◌++◌}
use Rattle.base_laws.proofs.Logic.{test, clash}
use Rattle.base_refusal.specs.declared.Refusal.TheVariants.{CardCount}
use Rattle.theory_protocol.specs.Plan.{Reply, accepted, refused, done}
use Rattle.theory_protocol.specs.Run.{Calls, none, further}
use Rattle.theory_protocol.specs.Calls.{fresh_refused}
use Rattle.cabinet_layout.specs.Shape.{limits16}
use Rattle.cabinet.specs.Fresh.{zero_cabinet, fresh_head, void_head, Freshly}
use Rattle.list_commands.specs.declared.Command.{Command}
use Rattle.list_commands.specs.declared.Command.TheVariants.{Fresh, Asks, Unreadable}
use Rattle.list_commands.specs.declared.Request.{Request}
use Rattle.list_parse.specs.Lines.{token_at}
use Rattle.list_answers.specs.Texts.{reply_text}
use Rattle.list_results.specs.declared.Replay.{Replay}
use Rattle.list_results.specs.Result.{Result, Continuing}
use Rattle.list_results.specs.Step.{Freshened, Asked as AskedOf, Steps}
use Rattle.list_results.specs.Going.{nothing_yet}
use Rattle.list_texts.specs.Steps.{Ran, no_line, one_more}
use Rattle.demands_lists.specs.Lists.{Asked, call_of, Typed, Lent, Answered, List16, start, next}
use Rattle.demands_lists.proofs.Whole.{demands_2_3}
use Rattle.demands_whole.specs.Texts.{Makes, NoCall, refuses_fresh, unreadable, Listed, begins, calls, stays, RunsLists}
use Rattle.demands_whole.proofs.Meant.{Meant, called, stayed, meant}

-- the list behind the present cabinet
record Made (s : List ℕ) (at : ℕ) (r : Replay) (t : List ℕ) : Type 0 where
  pub n : ℕ
  pub cs : Calls
  pub list : List16 n cs r.cabinet
  pub listed : Listed s at r t n cs list

module _ (s : List ℕ) (at : ℕ) (r : Replay) (t : List ℕ) (said : Command) (place : ℕ) (token : Some (said, place) ≡ token_at s at) (new : Replay) (u : List ℕ) where
  -- one call more
  one_more_lem : Made s at r t → (asked : Asked) → Makes said asked → Typed asked → (reply : Reply) (after : Lent) → Answered r.cabinet asked reply new.cabinet after → u ≡ reply_text reply → Made s place new (t ++ u)
  one_more_lem m asked k typed reply after d e =
      subst (λ (x : List ℕ). Made s place new (t ++ x)) (sym e)
      (record {
        n = m.n;
        cs = further m.cs (call_of asked) reply;
        list = next m.list asked typed reply new.cabinet after d;
        listed = calls m.listed said place token asked k typed reply new after d;
      })

  -- no call
  no_call : Made s at r t → NoCall said → new ≡ r → Steps said r new u → Made s place new (t ++ u)
  no_call m k e d =
      subst (λ (x : Replay). Made s place x (t ++ u)) (sym e)
      (record { n = m.n; cs = m.cs; list = m.list; listed = stays m.listed said place token k u (subst (λ (x : Replay). Steps said r x u) e d) })

-- a replay by its parts
pub same_replay : (r new : Replay) → new.cabinet ≡ r.cabinet → new.begun ≡ r.begun → new ≡ r
same_replay r new p q = λ i. record { cabinet = p i; begun = q i }

-- a question about the present cabinet
asked : (s : List ℕ) (at : ℕ) (r : Replay) (t : List ℕ) → Made s at r t → r.begun ≡ true → (place : ℕ) (new : Replay) (u : List ℕ) (q : Request) → Some ((Asks q), place) ≡ token_at s at → Steps (Asks q) r new u
    → new.begun ≡ true → Meant r.cabinet q new.cabinet u → Made s place new (t ++ u)
asked s at r t m begun place new u q h st b (called a k typed reply after d e) = one_more_lem s at r t (Asks q) place h new u m a k typed reply after d e
asked s at r t m begun place new u q h st b (stayed k e) = no_call s at r t (Asks q) place h new u m k (same_replay r new e (b ∙ sym begun)) st

-- a fresh cabinet, which begins a list
fresh_begins : (s : List ℕ) (at : ℕ) (r : Replay) (t : List ℕ) → Ran s nothing_yet at r t → (n place : ℕ) → Some ((Fresh n), place) ≡ token_at s at → (new : Replay) (u : List ℕ) → Freshened n r new u
    → fresh_refused limits16 n ≡ false → Made s place new (t ++ u)
fresh_begins s at r t ran n place h new u f e =
    subst (λ (x : List ℕ). Made s place new (t ++ x)) (sym (f.answer ∙ ap (λ (b : Bool). reply_text (cond b (refused CardCount) (accepted done))) e))
    (record { n = n; cs = none; list = start new.cabinet fresh; listed = begins ran n place h new fresh })
  where
    fresh : Freshly n (accepted done) new.cabinet
    fresh =
        record {
          answer = sym (ap (λ (b : Bool). cond b (refused CardCount) (accepted done)) e);
          cabinet = ap (λ (x : Replay). x.cabinet) (f.same ∙ ap (λ (b : Bool). cond b r (record { cabinet = zero_cabinet (fresh_head n); begun = true })) e)
              ∙ sym (ap (λ (b : Bool). zero_cabinet (cond b void_head (fresh_head n))) e);
        }

made : (s : List ℕ) {at : ℕ} {r : Replay} {t : List ℕ} → Ran s nothing_yet at r t → r.begun ≡ true → Made s at r t
made s no_line b = clash b refl
made s (one_more {at} {r} {t} ran (Fresh n) place h new u st) b =
    test (fresh_refused limits16 n)
    (λ e. let same : new ≡ r = st.same ∙ ap (λ (x : Bool). cond x r (record { cabinet = zero_cabinet (fresh_head n); begun = true })) e in
    no_call s at r t (Fresh n) place h new u (made s ran (sym (ap (λ (x : Replay). x.begun) same) ∙ b)) (refuses_fresh n e) same st)
    (λ e. fresh_begins s at r t ran n place h new u st e)
made s (one_more {at} {r} {t} ran (Asks q) place h new u st) b =
    test r.begun
    (λ e. let o : Continuing (Result r.cabinet q) new u = subst (λ (x : Bool). AskedOf x q r new u) e st in
    asked s at r t (made s ran e) e place new u q h st o.begun (meant r.cabinet new.cabinet u q o.told))
    (λ e. let k : AskedOf false q r new u = subst (λ (x : Bool). AskedOf x q r new u) e st in clash b (ap (λ (x : Replay). x.begun) k.same ∙ e))
made s (one_more {at} {r} {t} ran Unreadable place h new u st) b =
    no_call s at r t Unreadable place h new u (made s ran (sym (ap (λ (x : Replay). x.begun) st.same) ∙ b)) unreadable st.same st

pub runs_lists : RunsLists
runs_lists s at r t ran b =
    let m : Made s at r t = made s ran b in
    record { cards = m.n; made = m.cs; list = m.list; listed = m.listed; right = demands_2_3 m.n m.cs r.cabinet m.list }
