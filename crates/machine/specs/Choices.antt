-- What a lane can do next, as the steps in the lent words tell it, and what a scheduler names.
use Rattle.std.specs.Prelude.{◌≡◌, true, false}
use Rattle.lanes.specs.Syntax.{Body, at_barrier}
use Rattle.lanes.specs.Step.{stepping}
use Rattle.code.specs.declared.step.Step.{Step}
use Rattle.code.specs.declared.step.Step.TheVariants.{Put, Read, Write, Branch, Jump, Barrier, End}
use Rattle.machine.specs.declared.look.Stance.{Stance}
use Rattle.machine.specs.declared.look.Stance.TheVariants.{Steps, Waits, Ended}

-- A lane with b left can step, or waits at a barrier, or has ended.
abbrev pub StanceIs : Body → Stance → Type 0
StanceIs b Steps = (stepping b ≡ true) × (at_barrier b ≡ false)
StanceIs b Waits = (stepping b ≡ false) × (at_barrier b ≡ true)
StanceIs b Ended = (stepping b ≡ false) × (at_barrier b ≡ false)

-- What the step says at which it stands.
abbrev pub stance_of_spec : Step → Stance
stance_of_spec (Put k x i) = Steps
stance_of_spec (Read f k x i) = Steps
stance_of_spec (Write f x y i) = Steps
stance_of_spec (Branch x y n j f) = Steps
stance_of_spec (Jump i) = Steps
stance_of_spec (Barrier i) = Waits
stance_of_spec End = Ended
