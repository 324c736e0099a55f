-- Touches in order are in the order that the meaning asks for.
use Rattle.std.proofs.Common.{◌≡◌, ℕ, true, false, arith}
use Rattle.std.proofs.lemmas.Bool.Decides.{nat_tests}
use Rattle.lanes.specs.Told.{told_first}
use Rattle.formats.specs.declared.told.Place.{Place}
use Rattle.formats.specs.declared.told.Touch.{Touch}
use Rattle.formats.specs.Meaning.{mark_of, goes_first}

-- Where b goes first, that is so in the meaning too; where it doesn't, a does, unless both are of one lane.
pub second-first : (place : Place) (cell : ℕ) (a b : Touch) → goes_first b a ≡ true → told_first (mark_of place cell b) (mark_of place cell a) ≡ true
unfolding told_first
second-first place cell a b h = h

pub first-first : (place : Place) (cell : ℕ) (a b : Touch) → goes_first b a ≡ false → (a.group ≡ b.group → a.lane ≡ b.lane → ⊥)
    → told_first (mark_of place cell a) (mark_of place cell b) ≡ true
unfolding told_first
first-first place cell a b h apart = grind (arith, nat_tests)
