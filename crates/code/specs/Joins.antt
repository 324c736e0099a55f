-- What stands in an if or a while stays in it until its lanes join.
use Rattle.std.specs.Prelude.{◌≡◌, ℕ, suc, ◌<◌, ◌≤◌, Bool, true, false, cond, ◌⊎◌, List, length, ◌≢◌}
use Rattle.lanes.specs.Syntax.{Body}
use Rattle.grammar.specs.Spelling.{Named}
use Rattle.code.specs.declared.step.Step.{Step}
use Rattle.code.specs.declared.step.Step.TheVariants.{Put, Read, Write, Branch, Jump, Barrier, End}
use Rattle.code.specs.Lines.{lines_of}
use Rattle.code.specs.Settle.{Settles, Leads}
use Rattle.code.specs.Code.{Codes}

-- One of the entries lo to hi.
abbrev pub Among : ℕ → ℕ → ℕ → Type 0
Among lo hi i = (lo ≤ i) × (i ≤ hi)

-- There is a step, and it goes to entries lo to hi only.
abbrev pub Within : ℕ → ℕ → Step → Type 0
Within lo hi (Put k x i) = Among lo hi i
Within lo hi (Read f k x i) = Among lo hi i
Within lo hi (Write f x y i) = Among lo hi i
Within lo hi (Branch x y n j f) = Among lo hi y × Among lo hi n × Among lo hi j
Within lo hi (Jump i) = Among lo hi i
Within lo hi (Barrier i) = Among lo hi i
Within lo hi End = ⊥

-- The entries between an if and its join go to each other and to the join only; those of a while may go back to it.
unfoldable pub Nested : (ℕ → Step) → ℕ → Type 0
Nested code lines =
    (i x y n j : ℕ) (looped : Bool) → i < lines → code i ≡ Branch x y n j looped → (k : ℕ) → i < k → k < j → Within (cond looped i (suc i)) j (code k)

-- So it is in code that stands for a body.
unfoldable pub JoinsRight : Type 0
JoinsRight = (ns : List (List ℕ)) (text : List ℕ) (code : ℕ → Step) (b : Body) → Codes (Named ns) text (length ns) code 0 b → Nested code (lines_of b)

-- An if or a while.
abbrev pub is_branch : Step → Bool
is_branch (Put k x i) = false
is_branch (Read f k x i) = false
is_branch (Write f x y i) = false
is_branch (Branch x y n j f) = true
is_branch (Jump i) = false
is_branch (Barrier i) = false
is_branch End = false

-- Entry p stands in the branch at entry b. A while stands in itself, for its lanes come back to it; an if does not.
abbrev pub Inside : Step → ℕ → ℕ → Type 0
Inside (Put k x i) b p = ⊥
Inside (Read f k x i) b p = ⊥
Inside (Write f x y i) b p = ⊥
Inside (Branch x y n j f) b p = (cond f b (suc b) ≤ p) × (p < j)
Inside (Jump i) b p = ⊥
Inside (Barrier i) b p = ⊥
Inside End b p = ⊥

-- The lanes of the branch join at entry r: there the jumps from behind it lead.
abbrev pub Meets : (ℕ → Step) → Step → ℕ → Type 0
Meets code (Put k x i) r = ⊥
Meets code (Read f k x i) r = ⊥
Meets code (Write f x y i) r = ⊥
Meets code (Branch x y n j f) r = Settles code j r
Meets code (Jump i) r = ⊥
Meets code (Barrier i) r = ⊥
Meets code End r = ⊥

abbrev pub JoinsAt : (ℕ → Step) → ℕ → ℕ → Type 0
JoinsAt code b r = Meets code (code b) r

-- Branches and joins as lanes come by them, which stand at no jump. A branch has one join. A lane that looks at the branch stands
-- in it then or at its join, and one that stands in it comes to the join or stays in it; so does the join of a branch that stands
-- in another. A join is not in its branch, and no lane ends in a branch. Branches have levels from 1 to 16 that rise inward: so the
-- levels of the branches that a lane stands in are all different, and these are at most 16.
pub record Regions (code : ℕ → Step) (lines : ℕ) : Type 0 where
  pub has_join : (b : ℕ) → b ≤ lines → is_branch (code b) ≡ true → (r : ℕ) × JoinsAt code b r × (r ≤ lines)
  pub one_join : (b r s : ℕ) → JoinsAt code b r → JoinsAt code b s → r ≡ s
  pub enters : (b r : ℕ) → b ≤ lines → is_branch (code b) ≡ true → Leads code b r → Inside (code b) b r ⊎ JoinsAt code b r
  pub stays : (b p r : ℕ) → b ≤ lines → Inside (code b) b p → Leads code p r → Inside (code b) b r ⊎ JoinsAt code b r
  pub apart : (b r : ℕ) → b ≤ lines → JoinsAt code b r → Inside (code b) b r → ⊥
  pub nests : (b p r : ℕ) → b ≤ lines → Inside (code b) b p → JoinsAt code p r → Inside (code b) b r ⊎ JoinsAt code b r
  pub going : (b p : ℕ) → b ≤ lines → Inside (code b) b p → (code p ≢ End) × (p < lines)
  pub level : ℕ → ℕ
  pub level_few : (b : ℕ) → b ≤ lines → is_branch (code b) ≡ true → (1 ≤ level b) × (level b ≤ 16)
  pub levels : (b p : ℕ) → b ≤ lines → Inside (code b) b p → is_branch (code p) ≡ true → (p ≢ b) → level b < level p
