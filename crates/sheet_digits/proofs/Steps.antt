-- One turn of each loop, over variables. Assumes nothing.
use Prim.Native.Nat.{ℕ, zero, suc, ◌+◌, ◌*◌, ◌-◌, ◌/◌, ◌%◌, ◌^◌, ◌≤◌, ◌<◌}
use mathlib.Core.Path.{◌≡◌, sym, ◌∙◌}
use mathlib.Core.List.{List, [], ◌∷◌}
use native.Mathlib.Nat.{pow-le-pow_right}
use native.Mathlib.Numerals.{add-one}
use native.Mathlib.Omega.{arith}
use lib.Dec.{lit<}
use lib.ListN.{length, take, drop, get_or, set, length-drop}
use lib.Seq.{sets, take-suc, get_or-drop}
use Rattle.base_laws.proofs.Seq.{sets_append, sets_set}
use Rattle.sheet_digits.specs.Digits.{digit, digit_value, digits, number}
use Rattle.sheet_digits.proofs.Digits.{number_snoc, number_take, digits_length}

module _ (s : List ℕ) (at n i : ℕ) (h : i < n) (k : at + n ≤ length s) where
  pub number_step : {m v : ℕ} → m ≡ number (take i (drop at s)) → v ≡ digit_value (get_or s (at + i) 0) → m * 16 + v ≡ number (take (i + 1) (drop at s))
  number_step {m} {v} e d =
      let l : i < length (drop at s) = rw length-drop (omega arith) in
      rw (add-one i, take-suc (drop at s) i 0 l, number_snoc (take i (drop at s)) (get_or (drop at s) i 0), get_or-drop at s i 0, ← e, ← d)

  pub number_room : n ≤ 8 → number (take i (drop at s)) < 268435456
  number_room w =
      let l : i ≤ length (drop at s) = rw length-drop (omega arith) in
      let b : number (take i (drop at s)) < 16 ^ i = number_take i (drop at s) l in
      let j : i ≤ 7 = omega arith in
      let p : 16 ^ i ≤ 16 ^ 7 = pow-le-pow_right (lit< tt) j in
      omega arith

pub put_step :
    (b : List ℕ) (at k rest v : ℕ) → 0 < k → v ≡ digit (rest % 16) → sets (set b (at + (k - 1)) v) at (digits (k - 1) (rest / 16)) ≡ sets b at (digits k rest)
put_step b at zero rest v h e = absurd (omega arith)
put_step b at (suc k) rest v h e =
    let m : suc k - 1 ≡ k = omega arith in
    rw (m, e)
    (sets_set (digits k (rest / 16)) b at (at + k) (digit (rest % 16)) (rw digits_length (omega arith))
    ∙ sym (rw (sets_append (digits k (rest / 16)) b at (digit (rest % 16) ∷ []), digits_length k (rest / 16))))
