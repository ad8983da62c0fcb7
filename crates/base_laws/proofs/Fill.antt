-- What a loop has done when it has passed the numbers below i, as records, and how each begins, goes on and ends. Assumes nothing.
use Prim.Native.Nat.{ℕ, zero, suc, ◌+◌, ◌≤◌, ◌<◌, zero-le}
use mathlib.Core.Path.{◌≡◌, refl, sym, ◌∙◌, ap, ap₂}
use mathlib.Core.Bool.{Bool, true, false, not, ◌&&◌, ◌||◌}
use mathlib.Core.Logic.{⊎_elim}
use mathlib.Core.List.{List, [], ◌∷◌, ◌++◌}
use native.Mathlib.Nat.{not-suc-le-zero, le_step, lt-suc_self}
use native.Mathlib.Numerals.{add-one}
use native.Mathlib.Omega.{arith}
use lib.ListN.{length, get_or, set, length-append, length-set, get_or-append}
use lib.Seq.{sets, get_or-set_same, get_or-set_other, get_or-append-add, ext_get_or}
use Rattle.base_laws.specs.Below.{all_below, any_below, tabulate, first_below}
use Rattle.base_laws.proofs.Logic.{clash, fails}
use Rattle.base_laws.proofs.Below.{below_suc, step_below, any_intro, first_none, first_is}
pub use Rattle.base_laws.proofs.Below.{all_same, any_same}

-- none passes where each fails
pub not_any : (n : ℕ) (p : ℕ → Bool) → not (any_below n p) ≡ all_below n (λ k. not (p k))
not_any zero p = refl
not_any (suc n) p = spread (any_below n p) (p n) ∙ ap (λ (a : Bool). a && not (p n)) (not_any n p)
  where
    spread : (a b : Bool) → not (a || b) ≡ not a && not b
    spread true b = refl
    spread false b = refl

-- ---- every number passed passes the test
pub record AllSoFar (n : ℕ) (p : ℕ → Bool) (ok : Bool) (i : ℕ) : Type 0 where
  pub within : i ≤ n
  pub so : ok ≡ all_below i p

pub all_none : {n : ℕ} {p : ℕ → Bool} → AllSoFar n p true 0
all_none = record { within = zero-le; so = refl }

pub all_more : {n : ℕ} {p : ℕ → Bool} {ok : Bool} {i : ℕ} {b : Bool} → AllSoFar n p ok i → i < n → b ≡ p i → AllSoFar n p (ok && b) (i + 1)
all_more {n} {p} {ok} {i} {b} r h e =
    record { within = omega arith; so = ap₂ (λ (x y : Bool). x && y) r.so e ∙ ap (λ (k : ℕ). all_below k p) (sym (add-one i)) }

-- w: the bound by its name
pub all_done : {n w : ℕ} {p : ℕ → Bool} {ok : Bool} {i : ℕ} → AllSoFar n p ok i → n ≤ i → w ≡ n → ok ≡ all_below w p
all_done {n} {w} {p} {ok} {i} r h q = let l : i ≤ n = r.within in let e : i ≡ w = omega arith in r.so ∙ ap (λ (k : ℕ). all_below k p) e

-- ---- some number passed passes the test
pub record AnySoFar (n : ℕ) (p : ℕ → Bool) (found : Bool) (i : ℕ) : Type 0 where
  pub within : i ≤ n
  pub so : found ≡ any_below i p

pub any_none : {n : ℕ} {p : ℕ → Bool} → AnySoFar n p false 0
any_none = record { within = zero-le; so = refl }

pub any_more : {n : ℕ} {p : ℕ → Bool} {found : Bool} {i : ℕ} {b : Bool} → AnySoFar n p found i → i < n → b ≡ p i → AnySoFar n p (found || b) (i + 1)
any_more {n} {p} {found} {i} {b} r h e =
    record { within = omega arith; so = ap₂ (λ (x y : Bool). x || y) r.so e ∙ ap (λ (k : ℕ). any_below k p) (sym (add-one i)) }

pub any_done : {n w : ℕ} {p : ℕ → Bool} {found : Bool} {i : ℕ} → AnySoFar n p found i → n ≤ i → w ≡ n → found ≡ any_below w p
any_done {n} {w} {p} {found} {i} r h q = let l : i ≤ n = r.within in let e : i ≡ w = omega arith in r.so ∙ ap (λ (k : ℕ). any_below k p) e

-- ---- no number passed passes the test: a search for the first
pub record NoneSoFar (n : ℕ) (p : ℕ → Bool) (i : ℕ) : Type 0 where
  pub within : i ≤ n
  pub so : any_below i p ≡ false

pub search_none : {n : ℕ} {p : ℕ → Bool} → NoneSoFar n p 0
search_none = record { within = zero-le; so = refl }

pub search_more : {n : ℕ} {p : ℕ → Bool} {i : ℕ} → NoneSoFar n p i → i < n → p i ≡ false → NoneSoFar n p (i + 1)
search_more {n} {p} {i} r h e =
    record { within = omega arith; so = ap (λ (k : ℕ). any_below k p) (add-one i) ∙ ap₂ (λ (x y : Bool). x || y) r.so e }

-- each fails where none passes
none_at : (n : ℕ) (p : ℕ → Bool) → any_below n p ≡ false → (k : ℕ) → k < n → p k ≡ false
none_at n p e k h = fails (p k) (λ (t : p k ≡ true). clash (any_intro n p k h t) e)

pub search_done : {n w : ℕ} {p : ℕ → Bool} {i : ℕ} → NoneSoFar n p i → n ≤ i → w ≡ n → first_below w p ≡ i
search_done {n} {w} {p} {i} r h q =
    let l : i ≤ n = r.within in
    let e : i ≡ w = omega arith in
    first_none w p (none_at w p (ap (λ (k : ℕ). any_below k p) (sym e) ∙ r.so)) ∙ sym e

-- the search stops at i, where the test passes
pub search_found : {n w : ℕ} {p : ℕ → Bool} {i : ℕ} → NoneSoFar n p i → i < n → w ≡ n → p i ≡ true → first_below w p ≡ i
search_found {n} {w} {p} {i} r h q e = first_is w p i (omega arith) e (none_at i p r.so)

-- ---- a list filled so far with the values of f
module _ {A : Type 0} where
  pub length_tabulate : (n : ℕ) (f : ℕ → A) → length (tabulate n f) ≡ n
  length_tabulate zero f = refl
  length_tabulate (suc n) f = length-append (tabulate n f) (f n ∷ []) ∙ ap (λ (k : ℕ). k + 1) (length_tabulate n f) ∙ add-one n

  pub get_d_tabulate : (n : ℕ) (f : ℕ → A) (d : A) (k : ℕ) → k < n → get_or (tabulate n f) k d ≡ f k
  get_d_tabulate zero f d k h = absurd (not-suc-le-zero h)
  get_d_tabulate (suc n) f d k h = ⊎_elim last (λ l. before l (get_d_tabulate n f d k l)) (below_suc h)
    where
      last : k ≡ n → get_or (tabulate n f ++ (f n ∷ [])) k d ≡ f k
      last e =
          let l : length (tabulate n f) + 0 ≡ k = omega (arith, length_tabulate n f) in
          ap (λ (i : ℕ). get_or (tabulate n f ++ (f n ∷ [])) i d) (sym l) ∙ get_or-append-add (tabulate n f) (f n ∷ []) 0 d ∙ ap f (sym e)

      before : k < n → get_or (tabulate n f) k d ≡ f k → get_or (tabulate n f ++ (f n ∷ [])) k d ≡ f k
      before l e = get_or-append (tabulate n f) (f n ∷ []) d k (omega (arith, length_tabulate n f)) ∙ e

  pub tabulate_same : (n : ℕ) (f g : ℕ → A) → ((k : ℕ) → k < n → f k ≡ g k) → tabulate n f ≡ tabulate n g
  tabulate_same zero f g e = refl
  tabulate_same (suc n) f g e = ap₂ (λ (l : List A) (x : A). l ++ (x ∷ [])) (tabulate_same n f g (λ k h. e k (le_step h))) (e n (lt-suc_self n))

  -- a list whose values are those of f is f as a list
  pub tabulate_ext : (d : A) (n : ℕ) (f : ℕ → A) (l : List A) → length l ≡ n → ((k : ℕ) → k < n → get_or l k d ≡ f k) → l ≡ tabulate n f
  tabulate_ext d n f l e h =
      ext_get_or d l (tabulate n f) (e ∙ sym (length_tabulate n f)) (λ k g. let b : k < n = omega (arith, e) in h k b ∙ sym (get_d_tabulate n f d k b))

  pub record FilledSoFar (d : A) (n : ℕ) (f : ℕ → A) (l : List A) (i : ℕ) : Type 0 where
    pub within : i ≤ n
    pub long : length l ≡ n
    pub so : (k : ℕ) → k < i → get_or l k d ≡ f k

  pub filled_none : {d : A} {n : ℕ} {f : ℕ → A} {l : List A} → length l ≡ n → FilledSoFar d n f l 0
  filled_none e = record { within = zero-le; long = e; so = λ k h. absurd (not-suc-le-zero h) }

  pub filled_more : {d : A} {n : ℕ} {f : ℕ → A} {l : List A} {i : ℕ} {v : A} → FilledSoFar d n f l i → i < n → v ≡ f i → FilledSoFar d n f (set l i v) (i + 1)
  filled_more {d} {n} {f} {l} {i} {v} r h e =
      record {
        within = omega arith;
        long = length-set l i v ∙ r.long;
        so = λ k g. step_below (λ (k : ℕ). get_or (set l i v) k d ≡ f k)
            (λ k g. get_or-set_other l i k v d (λ (z : k ≡ i). absurd (omega arith)) ∙ r.so k g)
            (get_or-set_same l i v d (omega (arith, r.long)) ∙ e) k (let g' : k < i + 1 = g in omega arith);
      }

  pub filled_done : {d : A} {n w : ℕ} {f : ℕ → A} {l : List A} {i : ℕ} → FilledSoFar d n f l i → n ≤ i → w ≡ n → l ≡ tabulate w f
  filled_done {d} {n} {w} {f} {l} {i} r h q = tabulate_ext d n f l r.long (λ k g. r.so k (omega arith)) ∙ ap (λ (m : ℕ). tabulate m f) (sym q)

  -- ---- a run of stores, one store longer
  pub sets_snoc : (xs l : List A) (i : ℕ) (y : A) → sets l i (xs ++ (y ∷ [])) ≡ set (sets l i xs) (i + length xs) y
  sets_snoc [] l i y = ap (λ (k : ℕ). set l k y) (let e : i ≡ i + 0 = omega arith in e)
  sets_snoc (x ∷ xs) l i y =
      sets_snoc xs (set l i x) (suc i) y
      ∙ ap (λ (k : ℕ). set (sets (set l i x) (suc i) xs) k y) (let e : suc i + length xs ≡ i + suc (length xs) = omega arith in e)

  pub record StoredSoFar (n : ℕ) (f : ℕ → A) (l : List A) (from : ℕ) (now : List A) (i : ℕ) : Type 0 where
    pub within : i ≤ n
    pub so : now ≡ sets l from (tabulate i f)

  pub stored_none : {n : ℕ} {f : ℕ → A} {l : List A} {from : ℕ} → StoredSoFar n f l from l 0
  stored_none = record { within = zero-le; so = refl }

  pub stored_more : {n : ℕ} {f : ℕ → A} {l : List A} {from : ℕ} {now : List A} {i : ℕ} {v : A} → StoredSoFar n f l from now i → i < n → v ≡ f i → StoredSoFar n f l from (set now (from + i) v) (i + 1)
  stored_more {n} {f} {l} {from} {now} {i} {v} r h e =
      record {
        within = omega arith;
        so = ap₂ (λ (a : List A) (x : A). set a (from + i) x) r.so e
            ∙ ap (λ (k : ℕ). set (sets l from (tabulate i f)) (from + k) (f i)) (sym (length_tabulate i f))
            ∙ sym (sets_snoc (tabulate i f) l from (f i))
            ∙ ap (λ (k : ℕ). sets l from (tabulate k f)) (sym (add-one i));
      }

  pub stored_done : {n w : ℕ} {f : ℕ → A} {l : List A} {from : ℕ} {now : List A} {i : ℕ} → StoredSoFar n f l from now i → n ≤ i → w ≡ n → now ≡ sets l from (tabulate w f)
  stored_done {n} {w} {f} {l} {from} {now} {i} r h q =
      let b : i ≤ n = r.within in
      let e : i ≡ w = omega arith in
      r.so ∙ ap (λ (k : ℕ). sets l from (tabulate k f)) e
