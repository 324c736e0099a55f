-- What a lane comes to from inside a branch: it stays there, or comes to the join.
use Rattle.std.proofs.Common.{◌≡◌, ℕ, suc, ◌+◌, ◌<◌, ◌≤◌, Bool, true, false, cond, ◌⊎◌, List, length, sym, refl, ap, ◌∙◌, subst, inl, inr, arith}
use Rattle.std.proofs.lemmas.Bool.{both_ways, cases_eq, cases_lt}
use Rattle.lanes.specs.Syntax.{Body}
use Rattle.grammar.specs.Spelling.{Named}
use Rattle.grammar.specs.Taken.{depth}
use Rattle.code.specs.declared.step.Step.{Step}
use Rattle.code.specs.declared.step.Step.TheVariants.{Put, Read, Write, Branch, Jump, Barrier, End}
use Rattle.code.specs.Lines.{lines_of, left_at}
use Rattle.code.specs.Settle.{is_jump, Settles, rests, jumps, Sends, Leads}
use Rattle.code.specs.Code.{Codes, Coded, CodeRight, Goes, Onward}
use Rattle.code.specs.Joins.{Among, Within, Nested, JoinsRight, is_branch, Inside, Meets, JoinsAt, Regions}
use Rattle.code.proofs.Chains.{jumped}
use Rattle.code.proofs.Nests.{same-join, joins-right}
use Rattle.code.proofs.Settles.{not-both, settles-here, settles-one, settles-some}
use Rattle.code.proofs.Backs.{Back, codes-back}
use Rattle.code.proofs.Levels.{Counts, Rises, level-of, level-some, level-deep, level-rises}
use Rattle.code.proofs.Rights.{code-right}

plain : (m : ℕ) → 0 + m ≡ m
plain m = omega arith

-- A step that is a branch, taken apart.
pub record ABranch (s : Step) : Type 0 where
  pub expr : ℕ
  pub yes : ℕ
  pub no : ℕ
  pub join : ℕ
  pub looped : Bool
  pub is : s ≡ Branch expr yes no join looped

pub branch-is : (s : Step) → is_branch s ≡ true → ABranch s
branch-is (Put k x i) h = absurd (both_ways false refl h)
branch-is (Read f k x i) h = absurd (both_ways false refl h)
branch-is (Write f x y i) h = absurd (both_ways false refl h)
branch-is (Branch x y n j f) h = record { expr = x; yes = y; no = n; join = j; looped = f; is = refl }
branch-is (Jump i) h = absurd (both_ways false refl h)
branch-is (Barrier i) h = absurd (both_ways false refl h)
branch-is End h = absurd (both_ways false refl h)

inside_is : (s : Step) (b p : ℕ) → Inside s b p → is_branch s ≡ true
inside_is s b p h = grind arith

meets-is : (code : ℕ → Step) (s : Step) (r : ℕ) → Meets code s r → is_branch s ≡ true
meets-is code s r h = grind arith

-- A step that goes to entries lo to hi sends a lane there.
sends-within : (lo hi : ℕ) (s : Step) (q : ℕ) → Within lo hi s → Sends s q → Among lo hi q
sends-within lo hi (Put k x i) q w e = (omega arith, omega arith)
sends-within lo hi (Read f k x i) q w e = (omega arith, omega arith)
sends-within lo hi (Write f x y i) q w e = (omega arith, omega arith)
sends-within lo hi (Branch x y n j f) q w (inl e) = (omega arith, omega arith)
sends-within lo hi (Branch x y n j f) q w (inr e) = (omega arith, omega arith)
sends-within lo hi (Jump i) q w e = absurd e
sends-within lo hi (Barrier i) q w e = (omega arith, omega arith)
sends-within lo hi End q w e = absurd e

low : (f : Bool) (b : ℕ) → (b ≤ cond f b (suc b)) × (cond f b (suc b) ≤ suc b)
low true b = (omega arith, omega arith)
low false b = (omega arith, omega arith)

low-not : (f : Bool) (b p : ℕ) → cond f b (suc b) ≤ p → (p ≡ b → ⊥) → b < p
low-not f b p h n = let l = low f b in elim (cases_lt b p) [ inl u ↦ u | inr u ↦ absurd (n (omega arith)) ]

module _ (code : ℕ → Step) (b r x y n j : ℕ) (f : Bool) (e : code b ≡ Branch x y n j f) where
  inside-parts : Inside (code b) b r → (cond f b (suc b) ≤ r) × (r < j)
  inside-parts i = subst (λ (s : Step). Inside s b r) e i

  arrives : ((cond f b (suc b) ≤ r) × (r < j)) ⊎ Settles code j r → Inside (code b) b r ⊎ JoinsAt code b r
  arrives (inl i) = inl (subst (λ (s : Step). Inside s b r) (sym e) i)
  arrives (inr p) = inr (subst (λ (s : Step). Meets code s r) (sym e) p)

module _ (N : ℕ → List ℕ → Type 0) (text : List ℕ) (owns lines : ℕ) (at : ℕ → Body) (code : ℕ → Step)
    (coded : Coded N text owns lines at code) (nested : Nested code lines) (back : (m : ℕ) → m < lines → Back code m) (last : code lines ≡ End) where
  -- Behind the last entry stands the end, so there is no branch and no jump.
  before : (i : ℕ) → i ≤ lines → (code i ≡ End → ⊥) → i < lines
  before i h n = elim (cases_eq i lines) [ inl e ↦ absurd (n (ap code e ∙ last)) | inr e ↦ elim (cases_lt i lines) [ inl u ↦ u | inr u ↦ absurd (e (omega arith)) ] ]

  module _ (b x y n j : ℕ) (f : Bool) (h : b ≤ lines) (e : code b ≡ Branch x y n j f) where
    branch-onward : (y ≡ suc b) × (y < n) × (n ≤ j)
    branch-onward = subst (λ (s : Step). Onward code b s) e (coded.onward b h)

    branch-within : j ≤ lines
    branch-within = (subst (λ (s : Step). Goes owns lines s) e (coded.goes b h)).2

    branch-before : b < lines
    branch-before = let o = branch-onward in let w = branch-within in omega arith

    -- An entry in the branch, other than its own, goes to entries in it or to its join.
    in_branch : (p : ℕ) → cond f b (suc b) ≤ p → p < j → (p ≡ b → ⊥) → Within (cond f b (suc b)) j (code p)
    unfolding Nested
    in_branch p a z d = nested b x y n j f branch-before e p (low-not f b p a d) z

    -- From there the jumps lead to an entry in it, or where those from behind it lead.
    from_in : (q r : ℕ) → cond f b (suc b) ≤ q → q ≤ j → Settles code q r → ((cond f b (suc b) ≤ r) × (r < j)) ⊎ Settles code j r
    from_in q r a z (rests w s) =
        elim (cases_eq q j) [
          | inl u ↦ inr (rests (sym u ∙ w) s)
          | inr u ↦ inl (omega arith, elim (cases_lt r j) [ inl v ↦ v | inr v ↦ absurd (u (omega arith)) ])
        ]
    from_in q r a z (jumps t w p) =
        elim (cases_eq q j) [
          | inl u ↦ inr (jumps t (ap code (sym u) ∙ w) p)
          | inr u ↦
              let v : q < j = elim (cases_lt q j) [ inl v ↦ v | inr v ↦ absurd (u (omega arith)) ] in
              let d : (q ≡ b → ⊥) = λ g. not-both code q t w (ap (λ m. is_jump (code m)) g ∙ ap is_jump e) in
              let g : Among (cond f b (suc b)) j t = subst (λ (s : Step). Within (cond f b (suc b)) j s) w (in_branch q a v d) in
              from_in t r g.0 g.1 p
        ]

    -- From behind it they don't lead into it: a jump back goes to a while, which ends no earlier.
    never-in : (q r : ℕ) → j ≤ q → q ≤ lines → Settles code q r → cond f b (suc b) ≤ r → r < j → ⊥
    unfolding Back
    never-in q r a z (rests w s) lo hi = omega arith
    never-in q r a z (jumps t w p) lo hi =
        let u : q < lines = before q z (λ g. not-both code q t w (ap is_jump g)) in
        let v : t ≤ lines = (jumped N text owns lines at code q t coded z (sym w)).1 in
        elim (cases_lt q t) [
          | inl g ↦ never-in t r (omega arith) v p lo hi
          | inr g ↦
              let k = back q u t w g in
              let same : t ≡ r = settles-here code t r (ap is_jump k.3) p in
              elim (cases_eq t b) [
                | inl d ↦ let m : suc q ≡ j = same-join (code t) _ _ _ _ _ _ _ _ _ _ k.3 (ap code d ∙ e) in omega arith
                | inr d ↦
                    let m : Within (cond f b (suc b)) j (Branch k.0 k.1 k.2 (suc q) true) = subst (λ (s : Step). Within (cond f b (suc b)) j s) k.3 (in_branch t (omega arith) (omega arith) d) in
                    omega (arith, m.2.1)
              ]
        ]

  branch-enters : (b r : ℕ) → b ≤ lines → is_branch (code b) ≡ true → Leads code b r → Inside (code b) b r ⊎ JoinsAt code b r
  branch-enters b r h i l =
      let s = branch-is (code b) i in
      let o = branch-onward b _ _ _ _ _ h s.is in
      let w = low s.looped b in
      let q : (l.0 ≡ s.yes) ⊎ (l.0 ≡ s.no) = subst (λ (t : Step). Sends t l.0) s.is l.1 in
      let to : Among (cond s.looped b (suc b)) s.join l.0 = elim q [ inl u ↦ (omega arith, omega arith) | inr u ↦ (omega arith, omega arith) ] in
      arrives code b r s.expr s.yes s.no s.join s.looped s.is (from_in b _ _ _ _ _ h s.is l.0 r to.0 to.1 l.2)

  branch-stays : (b p r : ℕ) → b ≤ lines → Inside (code b) b p → Leads code p r → Inside (code b) b r ⊎ JoinsAt code b r
  branch-stays b p r h i l =
      let s = branch-is (code b) (inside_is (code b) b p i) in
      let j = inside-parts code b p s.expr s.yes s.no s.join s.looped s.is i in
      elim (cases_eq p b) [
        | inl e ↦ branch-enters b r h (inside_is (code b) b p i) (subst (λ m. Leads code m r) e l)
        | inr e ↦
            let to = sends-within (cond s.looped b (suc b)) s.join (code p) l.0 (in_branch b _ _ _ _ _ h s.is p j.0 j.1 e) l.1 in
            arrives code b r s.expr s.yes s.no s.join s.looped s.is (from_in b _ _ _ _ _ h s.is l.0 r to.0 to.1 l.2)
      ]

  branch-nests : (b p r : ℕ) → b ≤ lines → Inside (code b) b p → JoinsAt code p r → Inside (code b) b r ⊎ JoinsAt code b r
  branch-nests b p r h i m =
      let s = branch-is (code b) (inside_is (code b) b p i) in
      let j = inside-parts code b p s.expr s.yes s.no s.join s.looped s.is i in
      elim (cases_eq p b) [
        | inl e ↦ inr (subst (λ k. JoinsAt code k r) e m)
        | inr e ↦
            let t = branch-is (code p) (meets-is code (code p) r m) in
            let w : Within (cond s.looped b (suc b)) s.join (Branch t.expr t.yes t.no t.join t.looped) =
            subst (λ (v : Step). Within (cond s.looped b (suc b)) s.join v) t.is (in_branch b _ _ _ _ _ h s.is p j.0 j.1 e) in
            arrives code b r s.expr s.yes s.no s.join s.looped s.is
            (from_in b _ _ _ _ _ h s.is t.join r w.2.0 w.2.1 (subst (λ (v : Step). Meets code v r) t.is m))
      ]

  branch-apart : (b r : ℕ) → b ≤ lines → JoinsAt code b r → Inside (code b) b r → ⊥
  branch-apart b r h m i =
      let s = branch-is (code b) (inside_is (code b) b r i) in
      let j = inside-parts code b r s.expr s.yes s.no s.join s.looped s.is i in
      never-in b _ _ _ _ _ h s.is s.join r (omega arith) (branch-within b _ _ _ _ _ h s.is) (subst (λ (v : Step). Meets code v r) s.is m) j.0 j.1

  branch-going : (b p : ℕ) → b ≤ lines → Inside (code b) b p → (code p ≡ End → ⊥) × (p < lines)
  branch-going b p h i =
      let s = branch-is (code b) (inside_is (code b) b p i) in
      let j = inside-parts code b p s.expr s.yes s.no s.join s.looped s.is i in
      let w = branch-within b _ _ _ _ _ h s.is in (
        λ q. elim (cases_eq p b) [
          | inl e ↦ both_ways (is_branch (code b)) (ap (λ m. is_branch (code m)) (sym e) ∙ ap is_branch q) (ap is_branch s.is)
          | inr e ↦ subst (λ (v : Step). Within (cond s.looped b (suc b)) s.join v) q (in_branch b _ _ _ _ _ h s.is p j.0 j.1 e)
        ],
        omega arith,
      )

  branch_join : (b : ℕ) → b ≤ lines → is_branch (code b) ≡ true → (r : ℕ) × JoinsAt code b r × (r ≤ lines)
  branch_join b h i =
      let s = branch-is (code b) i in
      let z = settles-some N text owns lines at code coded s.join (branch-within b _ _ _ _ _ h s.is) in
      (z.0, subst (λ (v : Step). Meets code v z.0) (sym s.is) z.1, z.2)

  -- The branches of the code, if a level can be given to each.
  pub regions : (level : ℕ → ℕ) → ((b : ℕ) → b < lines → is_branch (code b) ≡ true → (1 ≤ level b) × (level b ≤ 16))
      → ((b x y n j : ℕ) (f : Bool) → b < lines → code b ≡ Branch x y n j f → (p : ℕ) → b < p → p < j → is_branch (code p) ≡ true → level b < level p) → Regions code lines
  regions level few rise =
      record {
        has_join = branch_join;
        one_join = λ b r s p q. let t = branch-is (code b) (meets-is code (code b) r p) in settles-one code t.join r s (subst (λ (v : Step). Meets code v r) t.is p) (subst (λ (v : Step). Meets code v s) t.is q);
        enters = branch-enters;
        stays = branch-stays;
        apart = branch-apart;
        nests = branch-nests;
        going = branch-going;
        level = level;
        level_few = λ b h i. let s = branch-is (code b) i in few b (branch-before b _ _ _ _ _ h s.is) i;
        levels = λ b p h i k d.
            let s = branch-is (code b) (inside_is (code b) b p i) in
            let j = inside-parts code b p s.expr s.yes s.no s.join s.looped s.is i in
            rise b _ _ _ _ _ (branch-before b _ _ _ _ _ h s.is) s.is p (low-not s.looped b p j.0 d) j.1 k;
      }

-- Code that stands for a body with lines at most 16 deep in each other.
pub codes-regions : (ns : List (List ℕ)) (text : List ℕ) (code : ℕ → Step) (b : Body) → Codes (Named ns) text (length ns) code 0 b → code (lines_of b) ≡ End → depth b ≤ 16 → Regions code (lines_of b)
unfolding CodeRight JoinsRight Counts Rises
codes-regions ns text code b c z deep =
    let N = Named ns in
    let owns = length ns in
    let level = level-of 0 b in
    regions N text owns (lines_of b) (left_at b) code (code-right ns text code b c z) (joins-right ns text code b c)
    (λ m h. subst (Back code) (plain m) (codes-back N text owns code 0 b c m h)) z level
    (λ m h i. (subst (λ k. Counts N text owns code 0 b k) (plain m) (level-some N text owns code 0 b c m h) i, omega (arith, level-deep 0 b m)))
    (λ m x y n j f h. subst (λ k. Rises N text owns code 0 b k) (plain m) (level-rises N text owns code 0 b c m h) x y n j f)
