-- What `any` and `all` answer over the numbers below a bound, and over a list: whether the test passes at some number below it, or at each. Assumes nothing.
use Prim.Native.Nat.{ℕ, ◌<◌, zero-le}
use mathlib.Core.Path.{◌≡◌, sym, subst, ◌∙◌, ap}
use mathlib.Core.Bool.{Bool, true, false}
use mathlib.Core.List.{List}
use native.Mathlib.Omega.{arith}
use lib.ListN.{length, get_or}
use denote.Param.Members.{Mut}
use denote.Ref.{Bor}
use Rattle.std.specs.Prelude.{Option}
use Rattle.std.specs.Bool.{MatchBool}
use Rattle.std.specs.Fn.{Called}
use Rattle.std.specs.Iterator.{YieldsThen}
use Rattle.std.specs.List.{range_with_len, FoldsTo, AllWithin, HoldsAt}
use Rattle.std.specs.Option.{MatchOption}
use Rattle.std.specs.Slice.Iter.{iter_rest}
use Rattle.std.proofs.iter.Yields.{fronts, nat_range_steps}
use Rattle.std.specs.declared.ops.Range.{Range}
use Rattle.std.proofs.Common.{Iter}
use Rattle.std.proofs.lemmas.Iterator.{cases_from_any, cases_from_all, YieldsList-from_range, YieldsList-from_slice}
use Rattle.std.proofs.lemmas.List.FromFn.{length-range_with_len, get_or-range_with_len}
use Rattle.base_laws.specs.Below.{any_below, all_below}
use Rattle.base_laws.proofs.Logic.{fails, clash}
use Rattle.base_laws.proofs.Below.{any_intro, any_elim, all_at, all_intro}

some_is : (p : ℕ → Bool) (n : ℕ) (r : Bool) → MatchBool r ((k : ℕ) × (k < n) × (p k ≡ true)) ((k : ℕ) → k < n → p k ≡ false) → r ≡ any_below n p
some_is p n true h = sym (any_intro n p h.0 h.1 h.2)
some_is p n false h = sym (fails (any_below n p) (λ e. let f = any_elim n p e in clash f.2 (h f.0 f.1)))

each_is : (p : ℕ → Bool) (n : ℕ) (r : Bool) → MatchBool r ((k : ℕ) → k < n → p k ≡ true) ((k : ℕ) × (k < n) × (p k ≡ false)) → r ≡ all_below n p
each_is p n true h = sym (all_intro n p h)
each_is p n false h = sym (fails (all_below n p) (λ e. clash (all_at n p e h.0 h.1) h.2))

below_range : {n k : ℕ} → k < length (range_with_len 0 n) → k < n
below_range {n} h = omega (arith, h, length-range_with_len 0 n)

range_below : {n k : ℕ} → k < n → k < length (range_with_len 0 n)
range_below {n} h = omega (arith, h, length-range_with_len 0 n)

number_of_range : (P : ℕ → Type 0) {n k : ℕ} → k < n → P (get_or (range_with_len 0 n) k 0) → P k
number_of_range P {n} {k} h t = let e : get_or (range_with_len 0 n) k 0 ≡ k = omega (arith, get_or-range_with_len 0 n k 0 h) in subst P e t

module _ {F : Type 0} {g : Mut F (ℕ × Unit {0}) Bool} {s u : Range ℕ} {f : F} where
  pub any_numbers : (p : ℕ → Bool) {n w : ℕ} {r : Bool} → s ≡ record { start = 0; end = n } → w ≡ n
      → (xs : List ℕ) × (o : Option ℕ) × (j : F) × YieldsThen nat_range_steps s xs o u × FoldsTo (λ q x t. Called g q (x, tt) false t) f xs j × MatchOption o (r ≡ false) (λ x. (r ≡ true) × ((h : F) × Called g j (x, tt) true h))
      → ((x : ℕ) (q : F) → Called g f (x, tt) true q → p x ≡ true) → ((x : ℕ) (q : F) → Called g f (x, tt) false q → (q ≡ f) × (p x ≡ false))
      → r ≡ any_below w p
  any_numbers p {n} {w} {r} e d ran yea nay =
      some_is p n r (turned r (cases_from_any u f r (λ x. p x ≡ true) (λ x. p x ≡ false) ran (YieldsList-from_range 0 n n e (omega arith)) yea nay))
      ∙ ap (λ k. any_below k p) (sym d)
    where
      turned : (b : Bool) → MatchBool b ((k : ℕ) × (k < length (range_with_len 0 n)) × HoldsAt (λ x. p x ≡ true) (range_with_len 0 n) k) (AllWithin (λ x. p x ≡ false) (range_with_len 0 n) 0 (length (range_with_len 0 n)))
          → MatchBool b ((k : ℕ) × (k < n) × (p k ≡ true)) ((k : ℕ) → k < n → p k ≡ false)
      turned true h = let l : h.0 < n = below_range h.1 in (h.0, l, number_of_range (λ x. p x ≡ true) l (h.2 0))
      turned false h = λ k l. number_of_range (λ x. p x ≡ false) l (h k 0 zero-le (range_below l))

  pub all_numbers : (p : ℕ → Bool) {n w : ℕ} {r : Bool} → s ≡ record { start = 0; end = n } → w ≡ n
      → (xs : List ℕ) × (o : Option ℕ) × (j : F) × YieldsThen nat_range_steps s xs o u × FoldsTo (λ q x t. Called g q (x, tt) true t) f xs j × MatchOption o (r ≡ true) (λ x. (r ≡ false) × ((h : F) × Called g j (x, tt) false h))
      → ((x : ℕ) (q : F) → Called g f (x, tt) true q → (q ≡ f) × (p x ≡ true)) → ((x : ℕ) (q : F) → Called g f (x, tt) false q → p x ≡ false)
      → r ≡ all_below w p
  all_numbers p {n} {w} {r} e d ran yea nay =
      each_is p n r (turned r (cases_from_all u f r (λ x. p x ≡ true) (λ x. p x ≡ false) ran (YieldsList-from_range 0 n n e (omega arith)) yea nay))
      ∙ ap (λ k. all_below k p) (sym d)
    where
      turned : (b : Bool) → MatchBool b (AllWithin (λ x. p x ≡ true) (range_with_len 0 n) 0 (length (range_with_len 0 n))) ((k : ℕ) × (k < length (range_with_len 0 n)) × HoldsAt (λ x. p x ≡ false) (range_with_len 0 n) k)
          → MatchBool b ((k : ℕ) → k < n → p k ≡ true) ((k : ℕ) × (k < n) × (p k ≡ false))
      turned true h = λ k l. number_of_range (λ x. p x ≡ true) l (h k 0 zero-le (range_below l))
      turned false h = let l : h.0 < n = below_range h.1 in (h.0, l, number_of_range (λ x. p x ≡ false) l (h.2 0))

module _ {A F : Type 0} {g : Mut F (Bor A × Unit {0}) Bool} {s u : Iter A} {f : F} where
  pub any_items : (q : A → Bool) (d : A) (l : List A) {n w : ℕ} {r : Bool} → iter_rest s ≡ l → length l ≡ n → w ≡ n
      → (xs : List (Bor A)) × (o : Option (Bor A)) × (j : F) × YieldsThen fronts s xs o u × FoldsTo (λ q x t. Called g q (x, tt) false t) f xs j × MatchOption o (r ≡ false) (λ x. (r ≡ true) × ((h : F) × Called g j (x, tt) true h))
      → ((x : Bor A) (t : F) → Called g f (x, tt) true t → q x.now ≡ true) → ((x : Bor A) (t : F) → Called g f (x, tt) false t → (t ≡ f) × (q x.now ≡ false))
      → r ≡ any_below w (λ k. q (get_or l k d))
  any_items q d l {n} {w} {r} e m b ran yea nay =
      some_is (λ k. q (get_or l k d)) (length l) r (turned r (cases_from_any u f r (λ x. q x ≡ true) (λ x. q x ≡ false) ran (YieldsList-from_slice l e) yea nay))
      ∙ ap (λ k. any_below k (λ k. q (get_or l k d))) (m ∙ sym b)
    where
      turned : (b : Bool) → MatchBool b ((k : ℕ) × (k < length l) × HoldsAt (λ x. q x ≡ true) l k) (AllWithin (λ x. q x ≡ false) l 0 (length l))
          → MatchBool b ((k : ℕ) × (k < length l) × (q (get_or l k d) ≡ true)) ((k : ℕ) → k < length l → q (get_or l k d) ≡ false)
      turned true h = (h.0, h.1, h.2 d)
      turned false h = λ k l. h k d zero-le l

  pub all_items : (q : A → Bool) (d : A) (l : List A) {n w : ℕ} {r : Bool} → iter_rest s ≡ l → length l ≡ n → w ≡ n
      → (xs : List (Bor A)) × (o : Option (Bor A)) × (j : F) × YieldsThen fronts s xs o u × FoldsTo (λ q x t. Called g q (x, tt) true t) f xs j × MatchOption o (r ≡ true) (λ x. (r ≡ false) × ((h : F) × Called g j (x, tt) false h))
      → ((x : Bor A) (t : F) → Called g f (x, tt) true t → (t ≡ f) × (q x.now ≡ true)) → ((x : Bor A) (t : F) → Called g f (x, tt) false t → q x.now ≡ false)
      → r ≡ all_below w (λ k. q (get_or l k d))
  all_items q d l {n} {w} {r} e m b ran yea nay =
      each_is (λ k. q (get_or l k d)) (length l) r (turned r (cases_from_all u f r (λ x. q x ≡ true) (λ x. q x ≡ false) ran (YieldsList-from_slice l e) yea nay))
      ∙ ap (λ k. all_below k (λ k. q (get_or l k d))) (m ∙ sym b)
    where
      turned : (b : Bool) → MatchBool b (AllWithin (λ x. q x ≡ true) l 0 (length l)) ((k : ℕ) × (k < length l) × HoldsAt (λ x. q x ≡ false) l k)
          → MatchBool b ((k : ℕ) → k < length l → q (get_or l k d) ≡ true) ((k : ℕ) × (k < length l) × (q (get_or l k d) ≡ false))
      turned true h = λ k l. h k d zero-le l
      turned false h = (h.0, h.1, h.2 d)
