-- A group none of whose lanes can step, and that can't go on, stays as it is.
use Rattle.std.proofs.Common.{◌≡◌, ℕ, ◌<◌, true, false, List, [], ◌∷◌, length, get_or, refl, ◌∙◌, inl, inr, arith}
use Rattle.std.proofs.lemmas.Bool.{cases_Bool}
use Rattle.lanes.specs.Syntax.{at_barrier}
use Rattle.lanes.specs.Step.{stepping}
use Rattle.lanes.specs.Grid.{Group, Grid, Turn, of, release, no_lane, no_group, gone_on, the_group, the_lane, can, did, all_lanes, turn, turns}
use Rattle.lanes.specs.Told.{stuck, Shows}
use Rattle.lanes.proofs.Places.{at-keeps}
use Rattle.lanes.proofs.Turns.{move, turn-did, turn-idle, turns-append}

-- no lane can step, and not all wait
pub record Stuck (q : Group) : Type 0 where
  pub no_step : (l : ℕ) → stepping (get_or q.lanes_of l no_lane).left ≡ false
  pub not_all_wait : all_lanes at_barrier q.lanes_of ≡ false

not-of : (n : ℕ) (d : Grid) (g l : ℕ) → Stuck (the_group d g) → can n d (of g l) ≡ true → ⊥
unfolding the_lane can
not-of n d g l s e = let q = s.no_step l in grind arith

not-release : (n : ℕ) (d : Grid) (g : ℕ) → Stuck (the_group d g) → can n d (release g) ≡ true → ⊥
unfolding can
not-release n d g s e = let q = s.not_all_wait in grind arith

did-keeps : (n : ℕ) (d : Grid) (g : ℕ) (t : Turn) → Stuck (the_group d g) → can n d t ≡ true → the_group (did n d t) g ≡ the_group d g
unfolding the_group did
did-keeps n d g (of h l) s e = at-keeps no_group (λ q. q) d.groups_of h g (move l _) (λ q _. absurd (not-of n d g l s (rw q at e)))
did-keeps n d g (release h) s e = at-keeps no_group (λ q. q) d.groups_of h g gone_on (λ q _. absurd (not-release n d g s (rw q at e)))

turn-keeps : (n : ℕ) (d : Grid) (g : ℕ) (t : Turn) → Stuck (the_group d g) → the_group (turn n d t) g ≡ the_group d g
turn-keeps n d g t s = elim (cases_Bool (can n d t)) [ inl e ↦ rw (turn-did n d t e) (did-keeps n d g t s e) | inr e ↦ rw (turn-idle n d t e) ]

pub stays : (n : ℕ) (d : Grid) (g : ℕ) (us : List Turn) → Stuck (the_group d g) → the_group (turns n d us) g ≡ the_group d g
unfolding turns
stays n d g [] s = refl
stays n d g (u ∷ us) s = let q = turn-keeps n d g u s in stays n (turn n d u) g us (rw q s) ∙ q

-- so it may be told, if one of its lanes waits
pub shows-stuck : (most n : ℕ) (d : Grid) (ts : List Turn) (g l : ℕ) → g < length d.groups_of → Stuck (the_group (turns n d ts) g) →
    l < n → at_barrier (the_lane (turns n d ts) g l).left ≡ true → Shows most n d ts (stuck g)
unfolding Shows
shows-stuck most n d ts g l in_range s there waits = (in_range, λ us. rw (turns-append n d ts us) (stays n (turns n d ts) g us s), (l, there, waits))
