-- The theorem on joins.
use Rattle.std.proofs.Common.{◌≡◌, ℕ, ◌+◌, ◌≤◌, Bool, true, false, ◌&&◌, eqb, ltb, List, [], ◌∷◌, length, Some, sym, refl, ap, ◌∙◌, subst, inl, inr, arith}
use Rattle.std.proofs.lemmas.Bool.{cases_Bool, both_ways, cond-false, and_from, eq-eqb, ltb-true}
use Rattle.masks.specs.Masks.{on}
use Rattle.code.specs.declared.step.Step.{Step}
use Rattle.code.specs.Words.{step_at}
use Rattle.code.specs.Joins.{is_branch, JoinsAt, Regions}
use Rattle.joins.specs.Story.{Event, did, parted, went, passed, Story, place, partings, Open, open_joins, topmost, still_in, branches_of, HasCome, Held, DoLine, KeptBack, FairWent, Fair, Happened, LeftBehind, is_act_spec, Over, parted_with, leaves_by, goes_on, Kept, JoinsKept}
use Rattle.joins.proofs.Opens.{top_below}
use Rattle.joins.proofs.Leaves.{none-still, one-top, top-has, top-branches, still-top, off-top}
use Rattle.joins.proofs.Chains.{chain-few, chain-ended, chain-waits}
use Rattle.joins.proofs.Sounds.{sound-top, none_open, room_for}
use Rattle.joins.proofs.Keeps.{Inv, inv-kept, free-from}
use Rattle.joins.proofs.Tallies.{bit, come-still, tally-kept}

-- A lane that stays where it is, with the same topmost join.
come-as : (code : ℕ → Step) (h k : Story) (n i : ℕ) (o : Open) (c : HasCome code h n i) → topmost (open_joins k) i ≡ Some o → o.number ≡ c.join.number → o.branch ≡ c.join.branch → place k i ≡ place h i → HasCome code k n i
come-as code h k n i o c t e b p =
    record {
      join = o;
      top = t;
      its_number = e ∙ c.its_number;
      there = subst (λ (v : ℕ). JoinsAt code v (place k i)) (sym b) (subst (λ (v : ℕ). JoinsAt code c.join.branch v) (sym p) c.there);
    }

module _ (code : ℕ → Step) (w : ℕ) (h : Story) (v : Inv code w h) where
  -- A lane that is held is not in the mask of a line that is done.
  not_in : (m l : ℕ) (to : ℕ → ℕ) (n i : ℕ) → HasCome code h n i → DoLine code w h m l to → on m i ≡ false
  not_in m l to n i c d = elim (cases_Bool (on m i)) [ inl q ↦ absurd ((d.each i q).could.free (n, c)) | inr q ↦ q ]

  stay : (e : Event) → Fair code w h e → (n i : ℕ) → HasCome code h n i → leaves_by e n i ≡ false → HasCome code (e ∷ h) n i
  unfolding place open_joins leaves_by
  stay (did m l to) f n i c z =
      let q = not_in m l to n i c f.lanes in
      come-as code h (did m l to ∷ h) n i c.join c c.top refl refl (cond-false (on m i) (to i) (place h i) q)
  stay (parted m l to) f n i c z =
      let q = not_in m l to n i c f.lanes in
      let o : Open = record { number = partings h; branch = l; lanes = m } in
      come-as code h (parted m l to ∷ h) n i c.join c (top_below o (open_joins h) i q ∙ c.top) refl refl (cond-false (on m i) (to i) (place h i) q)
  stay (went k m) f n i c z =
      elim (cases_Bool (on m i)) [
        | inl q ↦
            let d = f.come i q in
            let same : k ≡ n = sym d.its_number ∙ (ap (λ (o : Open). o.number) (one-top (open_joins h) i d.join c.join d.top c.top) ∙ c.its_number) in
            absurd (both_ways (eqb k n && on m i) z (and_from (eqb k n) (on m i) (eq-eqb k n same) q))
        | inr q ↦
            let r = off-top k m i (open_joins h) c.join q c.top in
            come-as code h (went k m ∷ h) n i r.0 c r.1 r.2 r.3 refl
      ]
  stay (passed to) f n i c z =
      let s = sound-top code w (open_joins h) i c.join v.sound c.top in
      absurd ((f i (s.within i (top-has (open_joins h) i c.join c.top))).free (n, c))

not-true-false : (b : Bool) → (b ≡ true → ⊥) → b ≡ false
not-true-false b h = elim (cases_Bool b) [ inl q ↦ absurd (h q) | inr q ↦ q ]

cons-some : (b : ℕ) (bs cs : List ℕ) → bs ≡ b ∷ cs → bs ≡ [] → ⊥
cons-some b bs cs p q = let z : ◌≡◌ {A = ℕ} 0 1 = cc in omega arith

module _ (code : ℕ → Step) (lines w : ℕ) (g : Regions code lines) (near : (b : ℕ) → is_branch (code b) ≡ true → b ≤ lines) (h : Story) (v : Inv code w h) where
  -- A lane that is left behind at a join is held at none.
  left-free : (n m : ℕ) → FairWent code w h n m → KeptBack code w h n → (i : ℕ) → still_in (open_joins h) n i ≡ true → on m i ≡ false → Held code h i → ⊥
  left-free n m f b i s q c =
      let r = still-top (partings h) n i (open_joins h) v.falls s in
      let same = ap (λ (o : Open). o.number) (one-top (open_joins h) i c.1.join r.0 c.1.top r.1) in
      let low = b.newest c.0 i c.1 in
      let number = c.1.its_number in
      let is : c.0 ≡ n = omega (arith, r.2) in
      both_ways (on m i) q (f.together i (subst (λ (k : ℕ). HasCome code h k i) is c.1))

  left_behind : (n m : ℕ) → FairWent code w h n m → (i : ℕ) → still_in (open_joins h) n i ≡ true → on m i ≡ false → LeftBehind code w h i
  left_behind n m f i s q =
      elim f.all [
        | inl a ↦ absurd (both_ways (on m i) q (a i s))
        | inr b ↦
            let free = left-free n m f b i s q in
            let r = still-top (partings h) n i (open_joins h) v.falls s in
            let row = (sound-top code w (open_joins h) i r.0 v.sound r.1).within i (top-has (open_joins h) i r.0 r.1) in
            let bs = top-branches (open_joins h) i r.0 r.1 in
            record {
              waits = chain-waits code lines g near (place h i) (branches_of (open_joins h) i) (v.chain i) (free-from code h i free)
                  (cons-some r.0.branch (branches_of (open_joins h) i) bs.0 bs.1)
                  (not-true-false (is_act_spec (code (place h i))) (λ a. b.still i row (record { act = a; free = free })));
              free = free;
              still = b.still;
            }
      ]

-- What follows of a lane that has come from how often it went on.
come-tally : (g : ℕ) (s p : Bool) → g + bit s ≡ bit p → s ≡ true → (p ≡ true) × (g ≡ 0)
come-tally g s true e h = (refl, let x : bit s ≡ 1 = ap bit h in omega arith)
come-tally g s false e h = let x : bit s ≡ 1 = ap bit h in absurd (omega arith)

end-tally : (g : ℕ) (s p : Bool) → g + bit s ≡ bit p → s ≡ false → g ≡ bit p
end-tally g s p e h = let x : bit s ≡ 0 = ap bit h in omega arith

module _ (code : ℕ → Step) (lines w : ℕ) (g : Regions code lines) (near : (b : ℕ) → is_branch (code b) ≡ true → b ≤ lines) where
  kept_in : (h : Story) → Happened code w h → Kept code w h
  kept_in h x =
      let v = inv-kept code lines w g near h x in
      let t = tally-kept code lines w g near h x in
      let few : (i : ℕ) → length (branches_of (open_joins h) i) ≤ 16 = λ i. chain-few code lines g near (place h i) (branches_of (open_joins h) i) (v.chain i) in
      let none : Over code w h → open_joins h ≡ [] = λ o. none_open code w (open_joins h) v.sound
      (λ i q. chain-ended code lines g near (place h i) (branches_of (open_joins h) i) (v.chain i) (free-from code h i (o.free i q)) (o.ended i q)) in
      record {
        tally = t;
        comes = λ n i c. come-tally (goes_on h n i) (still_in (open_joins h) n i) (parted_with h n i) (t n i) (come-still code h n i c);
        stays = stay code w h v;
        left = left_behind code lines w g near h v;
        at_end = λ o. (none o, λ n i. end-tally (goes_on h n i) (still_in (open_joins h) n i) (parted_with h n i) (t n i) (ap (λ (os : List Open). still_in os n i) (none o) ∙ none-still n i));
        few = few;
        room = room_for code w (open_joins h) v.sound few;
        falls = v.falls;
        sound = v.sound;
      }

-- Behind the last entry there is no branch.
pub branch_near : (ws : List ℕ) (lines b : ℕ) → is_branch (step_at ws lines b) ≡ true → b ≤ lines
unfolding step_at
branch_near ws lines b h =
    elim (cases_Bool (ltb b lines)) [
      | inl p ↦ omega (arith, ltb-true b lines p)
      | inr p ↦ absurd (both_ways (is_branch (step_at ws lines b)) (rw p) h)
    ]

pub joins-kept : JoinsKept
unfolding JoinsKept
joins-kept ws lines w h g x = kept_in (step_at ws lines) lines w g (branch_near ws lines) h x
