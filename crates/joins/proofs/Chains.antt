-- The branches that a lane is in stand in each other, and stay so whatever it does.
use Rattle.std.proofs.Common.{◌≡◌, ℕ, suc, ◌≤◌, true, false, ◌⊎◌, List, [], ◌∷◌, length, sym, refl, inl, inr, arith}
use Rattle.code.specs.declared.step.Step.{Step}
use Rattle.code.specs.declared.step.Step.TheVariants.{Put, Read, Write, Branch, Jump, Barrier, End}
use Rattle.code.specs.Settle.{is_jump, Leads}
use Rattle.code.specs.Joins.{is_branch, Inside, JoinsAt, Regions}
use Rattle.code.proofs.Settles.{settles-rest}
use Rattle.joins.specs.Story.{is_act_spec, is_barrier}

module _ (code : ℕ → Step) where
  -- A lane at entry p stands in the branch at b, or where its lanes join.
  abbrev pub Near : ℕ → ℕ → Type 0
  Near b p = Inside (code b) b p ⊎ JoinsAt code b p

  -- The branch at b stands in the first of these branches, that in the next, and so on.
  unfoldable pub Inner : ℕ → List ℕ → Type 0
  Inner b [] = Unit {0}
  Inner b (c ∷ cs) = Inside (code c) c b × (b ≡ c → ⊥) × (is_branch (code c) ≡ true) × Inner c cs

  -- The branches that a lane at entry p is in; it stands at no jump then.
  unfoldable pub Chain : ℕ → List ℕ → Type 0
  Chain p [] = Unit {0}
  Chain p (b ∷ bs) = Near b p × (is_branch (code b) ≡ true) × Inner b bs × (is_jump (code p) ≡ false)

waits : (s : Step) → is_jump s ≡ false → (s ≡ End → ⊥) → is_act_spec s ≡ false → is_barrier s ≡ true
waits (Put k x i) j e a = sym a
waits (Read f k x i) j e a = sym a
waits (Write f x y i) j e a = sym a
waits (Branch x y n l f) j e a = sym a
waits (Jump i) j e a = sym j
waits (Barrier i) j e a = refl
waits End j e a = absurd (e refl)

module _ (code : ℕ → Step) (lines : ℕ) (g : Regions code lines) (near : (b : ℕ) → is_branch (code b) ≡ true → b ≤ lines) where
  pub chain-moved : (p r : ℕ) (bs : List ℕ) → Chain code p bs → ((b : ℕ) (cs : List ℕ) → bs ≡ b ∷ cs → JoinsAt code b p → ⊥) → Leads code p r → Chain code r bs
  unfolding Chain
  chain-moved p r [] c free l = tt
  chain-moved p r (b ∷ bs) c free l =
      elim c.0 [
        | inl q ↦ (g.stays b p r (near b c.1) q l, c.1, c.2, settles-rest code l.0 r l.2)
        | inr q ↦ absurd (free b bs refl q)
      ]

  pub chain-parted : (p r : ℕ) (bs : List ℕ) → Chain code p bs → ((b : ℕ) (cs : List ℕ) → bs ≡ b ∷ cs → JoinsAt code b p → ⊥) → ((b : ℕ) (cs : List ℕ) → bs ≡ b ∷ cs → Inside (code b) b p → p ≡ b → ⊥) → is_branch (code p) ≡ true → Leads code p r → Chain code r (p ∷ bs)
  unfolding Chain Inner
  chain-parted p r [] c free anew i l = (g.enters p r (near p i) i l, i, tt, settles-rest code l.0 r l.2)
  chain-parted p r (b ∷ bs) c free anew i l =
      elim c.0 [
        | inl q ↦ (g.enters p r (near p i) i l, i, (q, anew b bs refl q, c.1, c.2), settles-rest code l.0 r l.2)
        | inr q ↦ absurd (free b bs refl q)
      ]

  pub chain-went : (p b : ℕ) (bs : List ℕ) → Chain code p (b ∷ bs) → JoinsAt code b p → Chain code p bs
  unfolding Chain Inner
  chain-went p b [] c j = tt
  chain-went p b (d ∷ ds) c j = (g.nests d b p (near d c.2.2) c.2.0 j, c.2.2, c.2.3, c.3)

  inner-few : (b : ℕ) (bs : List ℕ) → is_branch (code b) ≡ true → Inner code b bs → suc (length bs) ≤ g.level b
  unfolding Inner
  inner-few b [] i c = let q = g.level_few b (near b i) i in omega arith
  inner-few b (d ∷ ds) i c =
      let q = inner-few d ds c.2 c.3 in
      let r = g.levels d b (near d c.2) c.0 i c.1 in
      omega arith

  pub chain-few : (p : ℕ) (bs : List ℕ) → Chain code p bs → length bs ≤ 16
  unfolding Chain
  chain-few p [] c = omega arith
  chain-few p (b ∷ bs) c =
      let q = inner-few b bs c.1 c.2 in
      let r = g.level_few b (near b c.1) c.1 in
      omega arith

  -- A lane that has ended and is at no join is in no branch.
  pub chain-ended : (p : ℕ) (bs : List ℕ) → Chain code p bs → ((b : ℕ) (cs : List ℕ) → bs ≡ b ∷ cs → JoinsAt code b p → ⊥) → code p ≡ End → bs ≡ []
  unfolding Chain
  chain-ended p [] c free e = refl
  chain-ended p (b ∷ bs) c free e =
      elim c.0 [
        | inl q ↦ absurd ((g.going b p (near b c.1) q).0 e)
        | inr q ↦ absurd (free b bs refl q)
      ]

  -- A lane in a branch, which is at no join and does no line, waits at a barrier.
  pub chain-waits : (p : ℕ) (bs : List ℕ) → Chain code p bs → ((b : ℕ) (cs : List ℕ) → bs ≡ b ∷ cs → JoinsAt code b p → ⊥) → (bs ≡ [] → ⊥) → is_act_spec (code p) ≡ false → is_barrier (code p) ≡ true
  unfolding Chain
  chain-waits p [] c free some a = absurd (some refl)
  chain-waits p (b ∷ bs) c free some a =
      elim c.0 [
        | inl q ↦ waits (code p) c.3 (g.going b p (near b c.1) q).0 a
        | inr q ↦ absurd (free b bs refl q)
      ]
