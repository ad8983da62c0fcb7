-- The plans of the calls that look at no frame, over a core and what the check for 28 found. With what it finds of a cabinet they are the plans of document 01's calls on that cabinet.
use Rattle.std.specs.Prelude.{ℕ, suc, ◌*◌, ◌≡◌, Bool, true, not, ◌&&◌, cond, List, [], ◌∷◌, eqb, ltb, set}
use Rattle.std.proofs.lemmas.List.Edits.{sets}
use Rattle.base_limits.specs.Ring.{ring_place}
use Rattle.base_limits.specs.Document.{most_cards, most_frames}
use Rattle.theory_history.specs.Change.{CardSet}
use Rattle.theory_protocol.specs.Model.{Model, free_slot, with_card, is_up, slot_of, free_at}
use Rattle.theory_protocol.specs.Valid.{valid}
use Rattle.theory_protocol.specs.Edit.{Edit, place, latest, keep, begin, end, fall, halt, lower, renew}
use Rattle.theory_protocol.specs.Plan.{Answer, done, opened, Check, Plan, Reply, checked}
use Rattle.theory_protocol.specs.Calls.{take_checks, share_edit, took_share, store_checks, end_checks, lose_checks, roll_checks, all_rolled, vote_checks, voted, withdraw_checks, open_checks, opened_change}
use Rattle.cabinet_layout.specs.Answers.{after28}
use Rattle.cabinet_layout.specs.declared.Core.{Core}
use Rattle.cabinet_layout.specs.Shape.{limits16, at, list_of, model_of}
use Rattle.cabinet_layout.specs.Applied.{entries_all, changes_all, CoreCarried}

-- with some frames the core passes 28
pub record Stands (s : Core) : Type 0 where
  pub entries : List ℕ
  pub changes : List ℕ
  pub passes : valid limits16 (model_of entries changes s) ≡ true

-- a call whose check for 28 was found to pass or not
abbrev pub judged : Bool → List Check → Answer → List Edit → Plan
judged whole cs a es = checked (after28 (not whole) cs) a es

-- a core by itself
abbrev pub alone : Core → Model
alone s = model_of [] [] s

abbrev pub store_on : Bool → Core → (card state : ℕ) → Plan
store_on whole s c x = judged whole (store_checks limits16 (alone s) c x) done (keep c x ∷ [])

abbrev pub begin_on : Bool → Core → (card state : ℕ) → Plan
begin_on whole s c x = judged whole (store_checks limits16 (alone s) c x) done (begin c x ∷ [])

abbrev pub end_on : Bool → Core → (card state : ℕ) → Plan
end_on whole s c x = judged whole (end_checks limits16 (alone s) c x) done (end c x ∷ [])

abbrev pub lose_on : Bool → Core → CardSet → Plan
lose_on whole s cards = judged whole (lose_checks limits16 (alone s) cards) done (fall cards ∷ cond (is_up (alone s).phase) (halt ∷ []) [])

abbrev pub roll_on : Bool → Core → (card : ℕ) → Plan
roll_on whole s c =
    judged whole (roll_checks limits16 (alone s) c) done
    (lower c ∷ cond (all_rolled limits16 (alone s) (with_card (alone s).rolled c)) (renew ∷ []) [])

abbrev pub vote_on : Bool → Core → (change card : ℕ) → Bool → Plan
vote_on whole s k c agrees =
    judged whole (vote_checks limits16 (alone s) k c) done
    (place (slot_of limits16 (alone s) k) (voted limits16 (alone s) ((alone s).slot (slot_of limits16 (alone s) k)) c agrees) ∷ [])

abbrev pub take_on : Bool → Core → (change card : ℕ) → Plan
take_on whole s k c =
    judged whole (take_checks limits16 (alone s) k c) done
    (share_edit ((alone s).slot (slot_of limits16 (alone s) k)) c ∷ place (slot_of limits16 (alone s) k) (took_share limits16 ((alone s).slot (slot_of limits16 (alone s) k)) c) ∷ [])

-- the card has made that state: 0 for none, and the ring has a place for it
abbrev pub is_made : (card state : ℕ) → Bool
is_made c x = not (eqb x 0) && ltb (ring_place c x) most_frames

-- take: besides the core the frame that the card has made
pub record TakeCarriedOn (whole : Bool) (s : Core) (change card : ℕ) (vector : List ℕ) (state made : ℕ) (reply : Reply) (next : Core) : Type 0 where
  pub carried : CoreCarried s (take_on whole s change card) reply next
  pub entries : (l : List ℕ) → cond (is_made card state) (sets l (ring_place card state * most_cards) (list_of (at vector))) l ≡ entries_all (take_on whole s change card).edits s l
  pub changes : (l : List ℕ) → cond (is_made card state) (set l (ring_place card state) made) l ≡ changes_all (take_on whole s change card).edits s l

abbrev pub withdraw_on : Bool → Core → (change : ℕ) → Plan
withdraw_on whole s k = judged whole (withdraw_checks limits16 (alone s) k) done (place (slot_of limits16 (alone s) k) free_slot ∷ [])

abbrev pub open_on : Bool → Core → (reads writes : CardSet) → Plan
open_on whole s reads writes =
    judged whole (open_checks limits16 (alone s) reads writes) (opened (suc (alone s).latest))
    (place (free_at limits16 (alone s)) (opened_change (suc (alone s).latest) reads writes) ∷ latest (suc (alone s).latest) ∷ [])
