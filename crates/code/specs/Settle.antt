-- Where the jumps from an entry lead, and where a step sends a lane.
use Rattle.std.specs.Prelude.{◌≡◌, ℕ, Bool, true, false, ◌⊎◌}
use Rattle.code.specs.declared.step.Step.{Step}
use Rattle.code.specs.declared.step.Step.TheVariants.{Put, Read, Write, Branch, Jump, Barrier, End}

-- An else or an end, which only goes elsewhere.
abbrev pub is_jump : Step → Bool
is_jump (Put k x i) = false
is_jump (Read f k x i) = false
is_jump (Write f x y i) = false
is_jump (Branch x y n j f) = false
is_jump (Jump i) = true
is_jump (Barrier i) = false
is_jump End = false

-- The jumps from entry i lead to entry r, at which there is none.
pub data Settles (code : ℕ → Step) : ℕ → ℕ → Type 0 where
  rests : {i r : ℕ} → i ≡ r → is_jump (code r) ≡ false → Settles code i r
  jumps : {i r : ℕ} (t : ℕ) → code i ≡ Jump t → Settles code t r → Settles code i r

-- The step may send a lane to entry q. A jump is no step of a lane, and behind the end there is none.
abbrev pub Sends : Step → ℕ → Type 0
Sends (Put k x i) q = q ≡ i
Sends (Read f k x i) q = q ≡ i
Sends (Write f x y i) q = q ≡ i
Sends (Branch x y n j f) q = (q ≡ y) ⊎ (q ≡ n)
Sends (Jump i) q = ⊥
Sends (Barrier i) q = q ≡ i
Sends End q = ⊥

-- A lane that does the step at entry p may stand at entry r then, once the jumps are followed.
abbrev pub Leads : (ℕ → Step) → ℕ → ℕ → Type 0
Leads code p r = (q : ℕ) × Sends (code p) q × Settles code q r
