-- One turn of the merge that lists the changes lost. What it met is right where the numbers rise; that it ends, and keeps
-- the length of the list, asks nothing of them. Assumes nothing.
use Prim.Native.Nat.{ℕ, ◌+◌, ◌≤◌, ◌<◌, zero-le}
use mathlib.Core.Path.{◌≡◌, refl, sym, ◌∙◌, ap, subst}
use mathlib.Core.Bool.{Bool}
use mathlib.Core.List.{List}
use native.Mathlib.Omega.{arith}
use lib.ListN.{length, set, length-set}
use Rattle.base_merge.specs.Merge.{NextOf, Rises, Passed, ends_of, head_numbers, all_past}
use Rattle.base_merge.proofs.Walk.{walk_start}
use Rattle.cabinet_listing.specs.Lost.{Listed, next_lost, lost_by}
use Rattle.cabinet_listing.proofs.Next.{lost_to, lost_to_lem, lost_next, lost_past}
use Rattle.cabinet_listing.proofs.Rise.{StoredSoFar, stored_none, stored_more, stored_done}

-- the merge stands behind the number k, of which n were met; x is the next
pub record Behind (n k x : ℕ) : Type 0 where
  pub few : n ≤ k
  pub fits : x < 4294967296

behind_more : {n k x y : ℕ} → Behind n k x → k < x → y < 4294967296 → Behind (n + 1) x y
behind_more s h f = record { few = let l : _ = s.few in omega arith; fits = f }

pub record Writing (changes line ends : List ℕ) (p : ℕ → Bool) (before now passed heads : List ℕ) (n k x : ℕ) : Type 0 where
  pub stands : Behind n k x
  pub heads_so : heads ≡ head_numbers changes passed ends
  pub long : length now ≡ length before
  pub stored : Rises changes line ends → StoredSoFar p before now n k x
  pub walked : Rises changes line ends → Passed changes line ends passed k

module _ (changes line ends ended : List ℕ) where
  abbrev lost : ℕ → Bool
  lost = lost_to changes line ends ended

  -- the next after one that was met
  next_after : {passed heads later ahead : List ℕ} {k x y : ℕ} → Rises changes line ends → Passed changes line ends passed k → heads ≡ head_numbers changes passed ends → NextOf lost k x → k < x
      → later ≡ all_past passed ends heads x → ahead ≡ head_numbers changes later ends → y ≡ next_lost ahead ended x → Passed changes line ends later x × NextOf lost x y
  next_after {passed} {heads} {later} {ahead} {k} {x} {y} r w eh n h e ea d =
      let v : Passed changes line ends later x = subst (λ (l : List ℕ). Passed changes line ends l x) (sym e) (lost_past changes line ends ended r w eh x n h) in
      (v, subst (λ (a : ℕ). NextOf lost x a) (sym d) (lost_next changes line ends ended r v ea))

  first_next : {heads : List ℕ} {x : ℕ} → heads ≡ head_numbers changes line ends → x ≡ next_lost heads ended 0 → Rises changes line ends → NextOf lost 0 x
  first_next eh e r = subst (λ (a : ℕ). NextOf lost 0 a) (sym e) (lost_next changes line ends ended r (walk_start r) eh)

  pub writing_none : {before heads : List ℕ} {x : ℕ} → heads ≡ head_numbers changes line ends → x ≡ next_lost heads ended 0 → x < 4294967296 → Writing changes line ends lost before before line heads 0 0 x
  writing_none eh e f =
      record { stands = record { few = zero-le; fits = f }; heads_so = eh; long = refl; stored = λ r. stored_none refl (first_next eh e r); walked = λ r. walk_start r }

  pub writing_more : {before now after passed heads later ahead : List ℕ} {n k x y : ℕ} → Writing changes line ends lost before now passed heads n k x → k < x → after ≡ set now n x → later ≡ all_past passed ends heads x
      → ahead ≡ head_numbers changes later ends → y ≡ next_lost ahead ended x → y < 4294967296 → Writing changes line ends lost before after later ahead (n + 1) x y
  writing_more {before} {now} {after} {passed} {heads} {later} {ahead} {n} {k} {x} {y} s h w e ea d f =
      record {
        stands = behind_more s.stands h f;
        heads_so = ea;
        long = ap length w ∙ length-set now n x ∙ s.long;
        stored = λ r. stored_more (s.stored r) (λ (z : x ≡ 0). omega arith) w (next_after r (s.walked r) s.heads_so (s.stored r).found.next h e ea d).1;
        walked = λ r. (next_after r (s.walked r) s.heads_so (s.stored r).found.next h e ea d).0;
      }

  pub writing_done : (reached : List ℕ) (cards : ℕ) {before now passed heads : List ℕ} {n k x : ℕ} → Writing changes line ends lost before now passed heads n k x → x ≤ k → ends ≡ ends_of reached cards
      → Rises changes line (ends_of reached cards) → Listed (lost_by changes line reached ended cards) before now n
  writing_done reached cards {before} {now} {n = n} s h es r =
      subst (λ (p : ℕ → Bool). Listed p before now n) (ap (λ (l : List ℕ). lost_to changes line l ended) es ∙ lost_to_lem changes line reached ended cards)
      (stored_done (s.stored (subst (λ (l : List ℕ). Rises changes line l) (sym es) r)) h)
